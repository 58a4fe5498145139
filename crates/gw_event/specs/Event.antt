-- What one call may do to a gateway: its answer, the gateway after it, and the delta that it makes,
-- if it makes one. What is made or taken is in the journal then. If the disk fails, the gateway is
-- halted: it refuses everything that would change it, until it is opened again.
use Rattle.std.specs.Prelude.{◌≡◌, ◌≢◌, ◌⊎◌, ◌<◌, ℕ, true, false, length, if◌then◌else◌, List, [], ◌∷◌, ◌++◌, Option, Some, None, Result, Ok, Err, Contains}
use Rattle.rep_op.specs.declared.op.Subject.{Subject}
use Rattle.rep_op.specs.declared.op.Op.{Op}
use Rattle.rep_op.specs.declared.op.Op.TheVariants.{Session as OfSession, Put as OfPut, Retain as OfRetain}
use Rattle.rep_op.specs.declared.fault.OpsFault.{OpsFault}
use Rattle.rep_op.specs.declared.fault.OpsFault.TheVariants as ops_faults
use Rattle.rep_op.specs.Orders.{subject_of}
use Rattle.rep_op.specs.Values.{AreValues}
use Rattle.rep_ops.specs.Making.{HaveOwnNames, IsDeltaOf, IsRefusal}
use Rattle.rep_ops.specs.Spelling.{max_octets, IsDeltaWithinLimit}
use Rattle.rep_answer.specs.Answers.{IsAnswer}
use Rattle.rep_digest.specs.Digests.{Digested, digest}
use Rattle.rep_digest.specs.Spelling.{digest_spelling, IsDigestWithinLimit}
use Rattle.rep_model.specs.declared.fault.Limit.{Limit}
use Rattle.rep_model.specs.Keep.{keep}
use Rattle.rep_model.specs.Views.{view, is_named}
use Rattle.rep_model.specs.Taking.{AllAgree}
use Rattle.rep_model.specs.Limits.{first_passed}
use Rattle.rep_model.specs.Held.{IsHeld}
use Rattle.jr_journal.specs.declared.fault.JournalFault.TheVariants.{Foreign}
use Rattle.jr_disk.specs.declared.disk.Failure.{Failure}
use Rattle.jr_disk.specs.Disk.{image}
use Rattle.jr_journal.specs.Journals.{last_generation}
use Rattle.sn_plan.specs.declared.plan.Plan.{Plan}
use Rattle.sn_local.specs.Seen.{seen_of}
use Rattle.sn_local.specs.Locals.{after_all, owned}
use Rattle.gw_answer.specs.declared.out.Out.{Out}
use Rattle.gw_answer.specs.declared.refusal.Refusal.{Refusal}
use Rattle.gw_answer.specs.declared.refusal.Refusal.TheVariants as refusals
use Rattle.gw_answer.specs.declared.step.Step.{Step}
use Rattle.gw_answer.specs.declared.step.Step.TheVariants as steps
use Rattle.gw_event.specs.Drives.{GoesOut, with_record, noted, torn, generation, compacted, torn_base}
use Rattle.gw_event.specs.Gateways.{Gateway, reopened}
use Rattle.gw_event.specs.Occasions.{Occasion, Datagram, Clock, IsPlanOf, IsNoFrame}
use Rattle.gw_answer.specs.Answers.{only_sends}
use Rattle.gw_event.specs.Excuses.{IsExcuse}

-- two operations have one name: session operations, messages, or what is retained;
-- acknowledgements contradict nothing
abbrev pub HaveName : Op → Op → Type 0
HaveName (OfSession c s i o) (OfSession d t j p) = (c ≡ d) × (s ≡ t) × (i ≡ j)
HaveName (OfPut c p) (OfPut d q) = (c ≡ d) × (p.origin ≡ q.origin) × (p.seq ≡ q.seq)
HaveName (OfRetain t k) (OfRetain u l) =
    (t ≡ u) × (k.clock ≡ l.clock) × (k.gateway ≡ l.gateway)
HaveName a b = ⊥

-- the delta contradicts the set: an operation in it on this client or topic differs from one in the
-- set that has its name
pub record IsConflict (taken delta : List Op) (of : Subject) : Type 0 where
  pub new : Op
  pub is_new : Contains delta new
  pub is_of : subject_of new ≡ of
  pub old : Op
  pub is_old : Contains taken old
  pub named : HaveName old new
  pub differs : old ≢ new

-- what must be kept of the set does not contradict the delta, and both together pass no limit
pub record IsTakable (taken delta : List Op) : Type 0 where
  pub agrees : AllAgree (keep taken) delta
  pub room : first_passed (taken ++ delta) ≡ None

-- The gateway refuses the delta. Conflict: it contradicts the set. Full: nothing that must be kept
-- contradicts it, and both together pass a limit.
abbrev pub IsRefused : List Op → List Op → Refusal → Type 0
IsRefused taken delta (refusals.Conflict of) = IsConflict taken delta of
IsRefused taken delta refusals.Full =
    AllAgree (keep taken) delta × ((limit : Limit) × (first_passed (taken ++ delta) ≡ Some limit))
IsRefused taken delta fault = ⊥

-- the delta can be written: its numbers fit their octets, and its octets are at most 8 MiB
pub record IsWritable (delta : List Op) : Type 0 where
  pub values : AreValues delta
  pub limit : IsDeltaWithinLimit delta

-- nothing changed, and no delta was made
pub record NothingHappens (old new : Gateway) (made : List (List Op)) : Type 0 where
  pub same : new ≡ old
  pub none : made ≡ []

-- The plan was carried out. What it says was sent and noted. Its operations, if there are any, are
-- one delta that the gateway took.
abbrev pub IsMade : List Op → Gateway → Plan → Option (List Op) → Gateway → List (List Op) → Type 0
IsMade [] old plan (Some delta) new made = ⊥
IsMade [] old plan None new made =
    (made ≡ []) × (new ≡ record old { local = after_all old.local plan.local })
IsMade (op ∷ ops) old plan None new made = ⊥
IsMade (op ∷ ops) old plan (Some delta) new made =
    IsDeltaOf (op ∷ ops) delta × IsWritable delta × IsTakable old.taken delta × (made ≡ delta ∷ [])
    × (new ≡ record old {
      taken = old.taken ++ delta;
      local = after_all old.local plan.local;
      drive = with_record delta old.drive;
    })
    × (old.drive.plan ≡ None)

-- The answer is what the plan sends and the delta that was made, and says nothing else. No two
-- operations of the plan have a name in common.
abbrev pub IsCarriedOut : Gateway → Plan → Out → Gateway → List (List Op) → Type 0
IsCarriedOut old plan out new made =
    (out ≡ record (only_sends plan.sends) { made = out.made })
    × IsMade plan.ops old plan out.made new made × HaveOwnNames plan.ops

-- the plan for the occasion, by what the gateway has taken; none if a number is after the last
abbrev pub IsPlan : Gateway → Occasion → ℕ → Option Plan → Type 0
IsPlan old occasion now plan = IsPlanOf old.config (seen_of old.taken) old.local occasion now plan

-- the operations of a plan cannot be taken: they make a delta that the gateway refuses
abbrev pub IsTooMuch : Gateway → Plan → Refusal → Type 0
IsTooMuch old plan fault =
    (delta : List Op) × IsDeltaOf plan.ops delta × IsRefused old.taken delta fault

-- the operations of a plan make no delta, and not because memory ran out
abbrev pub HasNoDelta : Plan → Type 0
HasNoDelta plan = (fault : OpsFault) × (fault ≢ ops_faults.Memory) × IsRefusal plan.ops fault

-- A failure was arranged, and it came as the delta was written: the gateway is halted, and nothing
-- was made, taken or noted.
pub record IsTorn (old : Gateway) (delta : List Op) (new : Gateway)
    (made : List (List Op)) : Type 0 where
  pub takable : IsTakable old.taken delta
  pub failure : Failure
  pub planned : old.drive.plan ≡ Some failure
  pub halted : new ≡ record old { refused = delta ∷ []; drive = torn failure delta old.drive }
  pub none : made ≡ []

-- The plan was not carried out: the disk failed, and the excuse is sent instead of what it says.
pub record IsDropped (old : Gateway) (occasion : Occasion) (plan : Plan) (excuse : Out)
    (new : Gateway) (made : List (List Op)) : Type 0 where
  pub some : plan.ops ≢ []
  pub apart : HaveOwnNames plan.ops
  pub delta : List Op
  pub is_delta : IsDeltaOf plan.ops delta
  pub limit : IsDeltaWithinLimit delta
  pub torn : IsTorn old delta new made
  pub excused : IsExcuse occasion plan.sends excuse.sends
  pub sends : excuse ≡ only_sends excuse.sends

-- A datagram comes, or time goes by. Nothing changes if the gateway is halted, or the datagram is
-- no frame. Nor does it if its step needs a number after the last, or if its operations cannot be
-- taken. Else its operations cannot be written, as the disk fails; or the plan is carried out.
abbrev pub OwnStep : Gateway → Occasion → ℕ → Result Out Refusal → Gateway → List (List Op) → Type 0
OwnStep old occasion now (Ok out) new made =
    (plan : Plan) × IsPlan old occasion now (Some plan) × IsCarriedOut old plan out new made
    × (old.drive.halted ≡ false)
OwnStep old occasion now (Err (refusals.Frame fault)) new made =
    IsNoFrame occasion fault × NothingHappens old new made × (old.drive.halted ≡ false)
OwnStep old occasion now (Err refusals.Exhausted) new made =
    IsPlan old occasion now None × NothingHappens old new made × (old.drive.halted ≡ false)
OwnStep old occasion now (Err (refusals.Conflict of)) new made =
    (plan : Plan) × IsPlan old occasion now (Some plan)
    × IsTooMuch old plan (refusals.Conflict of) × NothingHappens old new made
    × (old.drive.halted ≡ false)
OwnStep old occasion now (Err refusals.Full) new made =
    (plan : Plan) × IsPlan old occasion now (Some plan)
    × (IsTooMuch old plan refusals.Full ⊎ HasNoDelta plan) × NothingHappens old new made
    × (old.drive.halted ≡ false)
OwnStep old occasion now (Err refusals.Halted) new made =
    (old.drive.halted ≡ true) × NothingHappens old new made
OwnStep old occasion now (Err (refusals.Disk excuse)) new made =
    (plan : Plan) × IsPlan old occasion now (Some plan)
    × IsDropped old occasion plan excuse new made × (old.drive.halted ≡ false)
OwnStep old occasion now answer new made = ⊥

-- A delta comes. It is taken and the answer is empty; clients that another gateway now owns no
-- longer have an address here. Or it is refused; or it cannot be written; or the gateway is halted.
abbrev pub TakeStep : Gateway → List Op → Result Out Refusal → Gateway → List (List Op) → Type 0
TakeStep old delta (Ok out) new made =
    (out ≡ only_sends []) × IsTakable old.taken delta × (made ≡ [])
    × (new ≡ record old {
      taken = old.taken ++ delta;
      local = owned old.config.gateway (seen_of (old.taken ++ delta)) old.local;
      drive = noted delta old.drive;
    })
    × GoesOut delta old.drive × (old.drive.halted ≡ false)
TakeStep old delta (Err (refusals.Conflict of)) new made =
    IsRefused old.taken delta (refusals.Conflict of) × NothingHappens old new made
    × (old.drive.halted ≡ false)
TakeStep old delta (Err refusals.Full) new made =
    IsRefused old.taken delta refusals.Full × NothingHappens old new made
    × (old.drive.halted ≡ false)
TakeStep old delta (Err (refusals.Disk excuse)) new made =
    (excuse ≡ only_sends []) × (delta ≢ []) × IsTorn old delta new made × (old.drive.halted ≡ false)
TakeStep old delta (Err refusals.Halted) new made =
    (old.drive.halted ≡ true) × NothingHappens old new made
TakeStep old delta answer new made = ⊥

-- The gateway writes its journal from the start: what must be kept of its set, as deltas. Nothing
-- is sent, and the set stays as it is. It refuses if it is halted; else if the generation is the
-- last; else if a failure was arranged, which comes now; and in no other case.
abbrev pub CompactStep : Gateway → Result Out Refusal → Gateway → Type 0
CompactStep old (Ok out) new =
    (generation old.config.gateway old.drive ≢ last_generation) × (out ≡ only_sends [])
    × ((base : List (List Op)) × IsHeld old.taken base
    × (new ≡ record old { drive = compacted old.config.gateway base old.drive }))
    × (old.drive.plan ≡ None) × (old.drive.halted ≡ false)
CompactStep old (Err (refusals.Journal fault)) new =
    (generation old.config.gateway old.drive ≡ last_generation) × (fault ≡ Foreign) × (new ≡ old)
    × (old.drive.halted ≡ false)
CompactStep old (Err refusals.Halted) new = (old.drive.halted ≡ true) × (new ≡ old)
CompactStep old (Err (refusals.Disk excuse)) new =
    (generation old.config.gateway old.drive ≢ last_generation) × (excuse ≡ only_sends [])
    × ((base : List (List Op)) × (failure : Failure) × IsHeld old.taken base
    × (old.drive.plan ≡ Some failure)
    × (new ≡ record old { drive = torn_base failure old.config.gateway base old.drive }))
    × (old.drive.halted ≡ false)
CompactStep old answer new = ⊥

-- an answer that shows a client's view, if an operation names the client
abbrev pub shows : List Op → List ℕ → Out
shows S client =
    record (only_sends []) { view = if is_named client S then Some (view client S) else None }

-- Somebody asks for a client's view, and is shown that of the gateway's set.
abbrev pub ViewStep : Gateway → List ℕ → Result Out Refusal → Gateway → Type 0
ViewStep old client (Ok out) new = (out ≡ shows old.taken client) × (new ≡ old)
ViewStep old client (Err refusal) new = ⊥

-- A gateway asks for the digest, which is that of the set. It is refused if and only if it is too
-- long.
abbrev pub DigestStep : Gateway → Result Out Refusal → Gateway → Type 0
DigestStep old (Ok out) new =
    IsDigestWithinLimit (digest old.taken)
    × (out ≡ record (only_sends []) { digest = Some (digest old.taken) }) × (new ≡ old)
DigestStep old (Err refusals.Full) new =
    (max_octets < length (digest_spelling (digest old.taken))) × (new ≡ old)
DigestStep old (Err refusal) new = ⊥

-- A gateway asks for what its digest does not cover of what must be kept of the set.
abbrev pub ReplyStep : Gateway → Digested → Result Out Refusal → Gateway → Type 0
ReplyStep old asked (Ok out) new =
    IsAnswer asked old.taken out.answer × (out ≡ record (only_sends []) { answer = out.answer })
    × (new ≡ old)
ReplyStep old asked (Err refusal) new = ⊥

-- The gateway is opened again, halted or not, from what its disk has: see `reopened`. Nothing is
-- sent. An opening that is refused is no step of a gateway; contracts of nodes say what it leaves.
abbrev pub ReopenStep : Gateway → Result Out Refusal → Gateway → Type 0
ReopenStep old (Ok out) new = (out ≡ only_sends []) × (new ≡ reopened (image old.drive.slots) old)
ReopenStep old (Err refusal) new = ⊥

-- ---- every call

-- what a call's step may do: a datagram, a delta, a tick, a view, a digest, an answer to one, a
-- compaction, a reopening
abbrev pub StepOf : Gateway → Step → Result Out Refusal → Gateway → List (List Op) → Type 0
StepOf old (steps.Frame from bytes now) answer new made =
    OwnStep old (Datagram from bytes) now answer new made
StepOf old (steps.Take delta) answer new made = TakeStep old delta answer new made
StepOf old (steps.Tick now) answer new made = OwnStep old Clock now answer new made
StepOf old (steps.View client) answer new made = ViewStep old client answer new × (made ≡ [])
StepOf old steps.Digest answer new made = DigestStep old answer new × (made ≡ [])
StepOf old (steps.Answer asked) answer new made = ReplyStep old asked answer new × (made ≡ [])
StepOf old steps.Compact answer new made = CompactStep old answer new × (made ≡ [])
StepOf old steps.Reopen answer new made = ReopenStep old answer new × (made ≡ [])

-- an event: the call does what its step may do; or memory ran out, and nothing changed
abbrev pub Event : Gateway → Step → Result Out Refusal → Gateway → List (List Op) → Type 0
Event old step answer new made =
    StepOf old step answer new made ⊎ ((answer ≡ Err refusals.Memory) × NothingHappens old new made)
