-- Whose the names of operations are, and whether they were used before.
use Rattle.std.specs.Prelude.{◌≡◌, ℕ, ◌⊎◌, if◌then◌else◌, List, [], ◌∷◌, ◌++◌, Option, Some, None, Contains}
use Rattle.std.specs.List.{AllByRecursion, filter_map}
use Rattle.sn_session.specs.declared.change.SessionOp.{SessionOp}
use Rattle.rep_op.specs.declared.op.Put.{Put}
use Rattle.rep_op.specs.declared.op.Op.{Op}
use Rattle.rep_op.specs.declared.op.Op.TheVariants.{Session as OfSession, Put as OfPut, Ack, Retain as OfRetain}
use Rattle.rep_op.specs.Orders.{clock_of}
use Rattle.rep_op.specs.Sets.{operation_at, put_at, retain_at}
use Rattle.rep_model.specs.Views.{pending_at}
use Rattle.sn_plan.specs.declared.draft.NewPut.{NewPut}
use Rattle.sn_plan.specs.declared.draft.Posted.{Posted}
use Rattle.sn_plan.specs.declared.plan.Plan.{Plan}
use Rattle.sn_plan.specs.declared.row.Row.{Row}
use Rattle.sn_plan.specs.Drafts.{Drafted}
use Rattle.sn_local.specs.Seen.{Seen}
use Rattle.sn_plan.specs.Plans.{plan_of}
use Rattle.sn_plan.specs.Flush.{stamp_of}

-- a session operation of the client under a stamp of the gateway; a message that the gateway made;
-- an acknowledgement by the client; what the gateway retained
abbrev pub IsOwnWrite : ℕ → List ℕ → Op → Type 0
IsOwnWrite g c (OfSession d stamp counter change) = (d ≡ c) × (stamp.gateway ≡ g)
IsOwnWrite g c (OfPut d put) = put.origin ≡ g
IsOwnWrite g c (Ack d origin first last) = d ≡ c
IsOwnWrite g c (OfRetain t kept) = kept.gateway ≡ g

-- none of the client's session operations in the set is under a stamp of the gateway
abbrev pub HasNoneOf : ℕ → List ℕ → List Op → Type 0
HasNoneOf g c D = (epoch counter : ℕ) → operation_at c D (stamp_of epoch g, counter) ≡ None

-- of the client's session operations under stamps of the gateway, D has none that S has not
abbrev pub AddsNothingOwn : ℕ → List ℕ → List Op → List Op → Type 0
AddsNothingOwn g c S D =
    (epoch counter : ℕ) (change : SessionOp)
    → operation_at c D (stamp_of epoch g, counter) ≡ Some change
    → operation_at c S (stamp_of epoch g, counter) ≡ Some change

-- the set has nothing under the name of the session operation or message, or of what is retained
abbrev pub IsFreshName : List Op → Op → Type 0
IsFreshName S (OfSession c stamp counter change) = operation_at c S (stamp, counter) ≡ None
IsFreshName S (OfPut c put) = put_at c S (put.seq, put.origin) ≡ None
IsFreshName S (Ack c origin first last) = Unit {0}
IsFreshName S (OfRetain t kept) = retain_at t S (clock_of kept) ≡ None

-- each is fresh in the set with the operations before it, so no name occurs twice
abbrev pub AreFresh : List Op → List Op → Type 0
AreFresh S [] = Unit {0}
AreFresh S (op ∷ rest) = IsFreshName S op × AreFresh (S ++ op ∷ []) rest

-- messages for clients that are all different
abbrev pub IsOneEach : List NewPut → Type 0
IsOneEach [] = Unit {0}
IsOneEach (p ∷ rest) =
    AllByRecursion (λ (q : NewPut). ¬ (q.client ≡ p.client)) rest × IsOneEach rest

-- what a draft may put and hand: messages for clients that are all different, and none of them
-- where its own client is handed what was retained
pub record PutsApart (d : Drafted) : Type 0 where
  pub one_each : IsOneEach d.puts
  pub alone : (d.handed ≡ []) ⊎ (d.puts ≡ [])

-- a put as the draft has it: without name
abbrev pub unnamed : List ℕ → Put → NewPut
unnamed c put = record { client = c; topic = put.topic; qos = put.qos; body = put.body }

-- the message of an operation, as the draft has it, but not where it was retained
abbrev pub new_message_of : Op → Option NewPut
new_message_of (OfPut c put) = if put.retain then None else Some (unnamed c put)
new_message_of op = None

-- the messages of the operations, in their order
abbrev pub new_messages : List Op → List NewPut
new_messages ops = filter_map new_message_of ops

-- the message by which the operation hands a client what was retained
abbrev pub handed_of : Op → Option NewPut
handed_of (OfPut c put) = if put.retain then Some (unnamed c put) else None
handed_of op = None

-- the messages by which the operations hand a client what was retained, in their order
abbrev pub handed_in : List Op → List NewPut
handed_in ops = filter_map handed_of ops

-- what an operation retains, without clock and gateway
abbrev pub posted_of : Op → Option Posted
posted_of (OfRetain t kept) = Some (record { topic = t; qos = kept.qos; body = kept.body })
posted_of op = None

-- what the operations retain, in their order
abbrev pub retained_in : List Op → List Posted
retained_in ops = filter_map posted_of ops

-- a message has this moment, from which on it need not wait
abbrev pub HasMoment : ℕ → Op → Type 0
HasMoment moment (OfPut c put) = put.expires ≡ moment
HasMoment moment op = Unit {0}

-- the message waits for its client; or the client acknowledges it by one of these names
abbrev pub WaitsOrIsAcked : List Op → List ℕ → List (ℕ × ℕ) → Op → Type 0
WaitsOrIsAcked S c acks (OfPut d put) =
    (pending_at d S (put.seq, put.origin) ≡ Some put)
    ⊎ ((d ≡ c) × Contains acks (put.seq, put.origin))
WaitsOrIsAcked S c acks op = Unit {0}

-- the plan is that of a draft for a client, with at most one message for each client, or what was
-- retained for its own
pub record IsOfDraft (g : ℕ) (seen : Seen) (plan : Plan) : Type 0 where
  pub client : List ℕ
  pub draft : Drafted
  pub apart : PutsApart draft
  pub is : plan_of g client seen draft ≡ Some plan

-- the row makes no message of a publication, and retains nothing
abbrev pub PublishesNothing : Row → Type 0
PublishesNothing row = (row.draft.puts ≡ []) × (row.draft.retain ≡ None)

-- the row makes no message: none of a publication, and none that hands what was retained; and it
-- retains nothing
abbrev pub MakesNoMessage : Row → Type 0
MakesNoMessage row =
    (row.draft.puts ≡ []) × (row.draft.handed ≡ []) × (row.draft.retain ≡ None)
