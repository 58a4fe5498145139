-- From what the parts of a call come to, to the call.
use Rattle.std.proofs.Common.{◌≡◌, ◌≢◌, ℕ, ◌==◌, false, List, [], ◌∷◌, ◌++◌, length, Some, Result, Ok, Err, ◌⊎◌, refl, ap, inl, inr}
use Rattle.rep_op.specs.declared.op.Op.{Op}
use Rattle.rep_ops.specs.Deltas.{IsDelta}
use Rattle.rep_ops.specs.Making.{HaveOwnNames, IsDeltaOf}
use Rattle.rep_ops.specs.Spelling.{IsDeltaWithinLimit}
use Rattle.rep_model.specs.Keep.{IsKeptOf}
use Rattle.rep_model.specs.Taking.{Fits}
use Rattle.sn_frame.specs.declared.frame.Frame.{Frame}
use Rattle.sn_frame.specs.Bodies.{IsValue}
use Rattle.sn_frame.specs.Grammar.{Spells}
use Rattle.sn_local.specs.declared.config.Addr.{Addr}
use Rattle.sn_plan.specs.declared.plan.Plan.{Plan}
use Rattle.jr_disk.specs.declared.disk.Disk.{Ghosts}
use Rattle.jr_journal.specs.declared.fault.JournalFault.{JournalFault}
use Rattle.jr_journal.specs.declared.fault.JournalFault.TheVariants as faults
use Rattle.jr_journal.specs.declared.journal.Journal.{Journal}
use Rattle.gw_answer.specs.declared.out.Out.{Out}
use Rattle.gw_answer.specs.declared.refusal.Refusal.{Refusal}
use Rattle.gw_answer.specs.declared.refusal.Refusal.TheVariants as refusals
use Rattle.gw_event.specs.Occasions.{Datagram, Clock}
use Rattle.gw_node.specs.Parts.{State, is_halted, IsUnchanged}
use Rattle.gw_answer.specs.Answers.{only_sends}
use Rattle.gw_node.specs.Writing.{IsWritten}
use Rattle.gw_node.specs.inner.Writing.{WrittenAs, WrittenIfAny, refusal_of_journal}
use Rattle.gw_event.specs.Excuses.{excuses}
use Rattle.gw_node.specs.Plans.{IsMisfit, Makes}
use Rattle.gw_node.specs.Calls.{OwnCall, TakeCall, IsNoted}
use Rattle.gw_node.specs.inner.Handling.{HaveNoDelta, planned_for, ticked, CarriedOut, Answers}
use Rattle.gw_event.specs.Event.{IsWritable}

module _ {D : Type 0} {G : Ghosts D} where
  -- a delta with operations is written
  pub any_written : (old new : Journal D G) (delta : List Op) (result : Result (Unit {0}) JournalFault) → (length delta == 0) ≡ false → WrittenAs old delta result new → WrittenIfAny old delta result new
  any_written old new [] result e h = absurd cc
  any_written old new (op ∷ ops) result e h = h

  pub noted : (old new : Journal D G) (delta : List Op) (done : Unit {0}) → WrittenIfAny old delta (Ok done) new → IsNoted old delta new
  noted old new [] done h = h
  noted old new (op ∷ ops) done h = h

  -- the journal refused a delta that fits
  pub left : (old new : State G) (delta : List Op) (fault : JournalFault) → is_halted old ≡ false → new.config ≡ old.config → new.kept ≡ old.kept → new.local ≡ old.local → new.records ≡ old.records → IsDelta delta → Fits old.kept delta
      → WrittenIfAny old.journal delta (Err fault) new.journal → TakeCall old delta (Err (refusal_of_journal fault (only_sends []))) new
  left old new [] fault runs config kept local records is fits h = absurd h
  left old new (op ∷ ops) faults.Disk runs config kept local records is fits h =
      (runs, refl, record { some = λ e. absurd cc; config = config; records = records; kept = kept; local = local; is_delta = is; fits = fits; failed = h })
  left old new (op ∷ ops) faults.Halted runs config kept local records is fits h = (h.0, record { config = config; kept = kept; local = local; journal = h.1; records = records })
  left old new (op ∷ ops) faults.Memory runs config kept local records is fits h = record { config = config; kept = kept; local = local; journal = h; records = records }
  left old new (op ∷ ops) faults.Foreign runs config kept local records is fits h = absurd h
  left old new (op ∷ ops) (faults.BadRecord slot at) runs config kept local records is fits h = absurd h

  -- operations that became a delta
  pub makes : (ops : List Op) (delta : List Op) (old new : State G) → ops ≢ [] → IsDeltaOf ops delta → Fits old.kept delta → IsKeptOf (old.kept ++ delta) new.kept → IsWritten old.journal delta new.journal → IsWritable delta → Makes ops (Some delta) old new
  makes [] delta old new some is_delta fits kept written writable = absurd (some refl)
  makes (op ∷ ops) delta old new some is_delta fits kept written writable = (is_delta, fits, kept, written, writable)

  -- operations that make no delta
  pub no_delta : (old new : State G) (plan : Plan) (excuse : Out) (refusal : Refusal) → HaveNoDelta plan.ops refusal → IsUnchanged old new → CarriedOut old plan excuse (Err refusal) new
  no_delta old new plan excuse refusals.Full h u = (inr (refl, h), u)
  no_delta old new plan excuse refusals.Memory h u = u
  no_delta old new plan excuse (refusals.Frame fault) h u = absurd h
  no_delta old new plan excuse refusals.Halted h u = absurd h
  no_delta old new plan excuse (refusals.Disk given) h u = absurd h
  no_delta old new plan excuse (refusals.Conflict client) h u = absurd h
  no_delta old new plan excuse refusals.Exhausted h u = absurd h
  no_delta old new plan excuse (refusals.Journal fault) h u = absurd h

  -- a delta that cannot be taken
  pub no_room : (old new : State G) (plan : Plan) (excuse : Out) (delta : List Op) (refusal : Refusal) → IsDeltaOf plan.ops delta → IsMisfit old.kept delta refusal → IsUnchanged old new → CarriedOut old plan excuse (Err refusal) new
  no_room old new plan excuse delta (refusals.Conflict client) d h u = (inl (delta, d, h), u)
  no_room old new plan excuse delta refusals.Full d h u = (inl (delta, d, h), u)
  no_room old new plan excuse delta refusals.Memory d h u = u
  no_room old new plan excuse delta (refusals.Frame fault) d h u = absurd h
  no_room old new plan excuse delta refusals.Halted d h u = absurd h
  no_room old new plan excuse delta (refusals.Disk given) d h u = absurd h
  no_room old new plan excuse delta refusals.Exhausted d h u = absurd h
  no_room old new plan excuse delta (refusals.Journal fault) d h u = absurd h

  -- operations that make no delta, or one that cannot be taken
  pub not_ready : (old new : State G) (plan : Plan) (excuse : Out) (refusal : Refusal) → HaveNoDelta plan.ops refusal ⊎ ((delta : List Op) × IsDeltaOf plan.ops delta × IsMisfit old.kept delta refusal) → IsUnchanged old new → CarriedOut old plan excuse (Err refusal) new
  not_ready old new plan excuse refusal (inl h) u = no_delta old new plan excuse refusal h u
  not_ready old new plan excuse refusal (inr (delta, d, h)) u = no_room old new plan excuse delta refusal d h u

  -- the journal refused the delta of a plan
  pub given_up : (old new : State G) (plan : Plan) (excuse : Out) (delta : List Op) (fault : JournalFault) → plan.ops ≢ [] → excuse ≡ only_sends excuse.sends → HaveOwnNames plan.ops → IsDeltaOf plan.ops delta → IsDeltaWithinLimit delta → Fits old.kept delta
      → new.config ≡ old.config → new.kept ≡ old.kept → new.local ≡ old.local → new.records ≡ old.records → WrittenAs old.journal delta (Err fault) new.journal → CarriedOut old plan excuse (Err (refusal_of_journal fault excuse)) new
  given_up old new plan excuse delta faults.Disk some answer apart d limit fits config kept local records h =
      (refl, record { some = some; config = config; records = records; kept = kept; local = local; apart = apart; delta = delta; is_delta = d; limit = limit; fits = fits; failed = h; answer = answer })
  given_up old new plan excuse delta faults.Halted some answer apart d limit fits config kept local records h = (h.0, record { config = config; kept = kept; local = local; journal = h.1; records = records })
  given_up old new plan excuse delta faults.Memory some answer apart d limit fits config kept local records h = record { config = config; kept = kept; local = local; journal = h; records = records }
  given_up old new plan excuse delta faults.Foreign some answer apart d limit fits config kept local records h = absurd h
  given_up old new plan excuse delta (faults.BadRecord slot at) some answer apart d limit fits config kept local records h = absurd h

  -- a frame was read, and its plan was carried out or not
  pub frame_answered : (old new : State G) (from : Addr) (bytes : List ℕ) (frame : Frame) (now : ℕ) (answer : Result Out Refusal) → is_halted old ≡ false → IsValue frame → Spells bytes frame
      → Answers old (planned_for old from frame now) (excuses from frame) answer new → OwnCall old (Datagram from bytes) now answer new
  frame_answered old new from bytes frame now (Ok out) runs value spells (plan, is_plan, h) = (runs, (plan, (frame, value, spells, is_plan), h))
  frame_answered old new from bytes frame now (Err refusals.Halted) runs value spells (plan, is_plan, h) = h
  frame_answered old new from bytes frame now (Err (refusals.Frame fault)) runs value spells (plan, is_plan, h) = absurd h
  frame_answered old new from bytes frame now (Err refusals.Exhausted) runs value spells (no_plan, h) = (runs, (frame, value, spells, no_plan), h)
  frame_answered old new from bytes frame now (Err (refusals.Conflict client)) runs value spells (plan, is_plan, h) = (runs, (plan, (frame, value, spells, is_plan), h.0), h.1)
  frame_answered old new from bytes frame now (Err refusals.Full) runs value spells (plan, is_plan, h) = (runs, (plan, (frame, value, spells, is_plan), h.0), h.1)
  frame_answered old new from bytes frame now (Err (refusals.Disk excuse)) runs value spells (plan, is_plan, h) =
      (runs, (plan, (frame, value, spells, is_plan), (frame, value, spells, ap (λ out. out.sends) h.0), h.1))
  frame_answered old new from bytes frame now (Err refusals.Memory) runs value spells h = h
  frame_answered old new from bytes frame now (Err (refusals.Journal fault)) runs value spells (plan, is_plan, h) = absurd h

  -- the plan of a tick was carried out or not
  pub tick_answered : (old new : State G) (now : ℕ) (plan : Plan) (answer : Result Out Refusal) → is_halted old ≡ false → ticked old now ≡ Some plan → CarriedOut old plan (only_sends []) answer new → OwnCall old Clock now answer new
  tick_answered old new now plan (Ok out) runs is_plan h = (runs, (plan, is_plan, h))
  tick_answered old new now plan (Err refusals.Halted) runs is_plan h = h
  tick_answered old new now plan (Err (refusals.Frame fault)) runs is_plan h = absurd h
  tick_answered old new now plan (Err refusals.Exhausted) runs is_plan h = absurd h
  tick_answered old new now plan (Err (refusals.Conflict client)) runs is_plan h = (runs, (plan, is_plan, h.0), h.1)
  tick_answered old new now plan (Err refusals.Full) runs is_plan h = (runs, (plan, is_plan, h.0), h.1)
  tick_answered old new now plan (Err (refusals.Disk excuse)) runs is_plan h = (runs, (plan, is_plan, ap (λ out. out.sends) h.0, h.1))
  tick_answered old new now plan (Err refusals.Memory) runs is_plan h = h
  tick_answered old new now plan (Err (refusals.Journal fault)) runs is_plan h = absurd h
