-- A field of gateways, and what a list of events may do to it.
use Rattle.std.specs.Prelude.{Bool, ◌≡◌, ◌≢◌, ◌⊎◌, ℕ, ◌-◌, ◌≤◌, List, [], ◌∷◌, ◌++◌, map, Option, Some, None, Result, Err, slice_get, slice_set, Contains}
use Rattle.std.specs.List.{AllByRecursion}
use Rattle.rep_op.specs.declared.op.Op.{Op}
use Rattle.rep_model.specs.declared.view.ClientView.{ClientView}
use Rattle.rep_model.specs.Topics.{all_retained}
use Rattle.rep_model.specs.Views.{view, clients}
use Rattle.sn_local.specs.declared.config.Config.{Config}
use Rattle.gw_world.specs.declared.event.Event.{Event}
use Rattle.gw_world.specs.declared.event.Event.TheVariants.{Frame, Tick, Take, Together as AtOnce, Answer as Asks, WriteFails, Compact, Restart, Show}
use Rattle.gw_world.specs.declared.event.Call.{Call}
use Rattle.gw_world.specs.declared.event.Call.TheVariants as calls
use Rattle.gw_world.specs.declared.event.Answer.{Answer}
use Rattle.gw_answer.specs.declared.out.Out.{Out}
use Rattle.gw_answer.specs.declared.refusal.Refusal.{Refusal}
use Rattle.gw_answer.specs.declared.refusal.Refusal.TheVariants as refusals
use Rattle.gw_answer.specs.declared.step.Step.{Step}
use Rattle.gw_answer.specs.declared.step.Step.TheVariants as steps
use Rattle.gw_answer.specs.Answers.{said}
use Rattle.gw_world.specs.declared.event.Answer.TheVariants.{Node, Row, Views, Records, Nothing}
use Rattle.gw_event.specs.Occasions.{Occasion, Datagram, Clock}
use Rattle.gw_event.specs.Drives.{arranged}
use Rattle.gw_world.specs.Places.{place_of}
use Rattle.gw_event.specs.Gateways.{Gateway, new_gateway}
use Rattle.gw_world.specs.Steps.{AnswerStep, records_left, restarted}
use Rattle.gw_event.specs.Event.{OwnStep, TakeStep, CompactStep}
use Rattle.gw_event.specs.Together.{Together, AreAlike}

-- the gateways, and the deltas made or answered, in the order of making
pub record Field : Type 0 where
  pub gateways : List Gateway
  pub deltas : List (List Op)

-- the field at the start: a new gateway for each of the configs, and no delta
abbrev pub new_field : List Config → Field
new_field configs = record { gateways = map new_gateway configs; deltas = [] }

-- the gateway of this number has this place
abbrev pub IsAt : Field → ℕ → ℕ → Gateway → Type 0
IsAt field number i gateway =
    (place_of number field.gateways ≡ Some i) × (slice_get field.gateways i ≡ Some gateway)

-- the i-th gateway became another, and these deltas were made
abbrev pub field_changed : Field → ℕ → Gateway → List (List Op) → Field
field_changed field i gateway made =
    record { gateways = slice_set field.gateways i gateway; deltas = field.deltas ++ made }

-- the delta of this number; the first has number 1
abbrev pub IsDeltaAt : Field → ℕ → List Op → Type 0
IsDeltaAt field number delta = (1 ≤ number) × (slice_get field.deltas (number - 1) ≡ Some delta)

-- the clients that the set names, with their views
abbrev pub shown : List Op → List (List ℕ × ClientView)
shown taken = map (λ c. (c, view c taken)) (clients taken)

-- what a datagram to a gateway, or a tick at it, may do
abbrev pub Steps : Field → ℕ → Occasion → ℕ → Result Out Refusal → Field → Type 0
Steps old number occasion now answer new =
    (i : ℕ) × (gateway : Gateway) × (next : Gateway) × (made : List (List Op))
    × IsAt old number i gateway × OwnStep gateway occasion now answer next made
    × (new ≡ field_changed old i next made)

-- what the digest of a gateway, sent to a peer, may do: the deltas that the peer answers join the
-- list, and nothing else changes
abbrev pub Asked : Field → ℕ → ℕ → Result Out Refusal → Field → Type 0
Asked old number other answer new =
    (i j : ℕ) × (gateway : Gateway) × (peer : Gateway) × (made : List (List Op))
    × IsAt old number i gateway × IsAt old other j peer × AnswerStep gateway peer answer made
    × (new ≡ record old { deltas = old.deltas ++ made })

-- the gateway whose next write is to fail
abbrev pub failing_gateway : ℕ → Bool → Gateway → Gateway
failing_gateway bytes sync old = record old { drive = arranged bytes sync old.drive }

-- what a call is for the node: a datagram, a tick, or a delta of the field's list
abbrev pub IsStepOf : Field → Call → Step → Type 0
IsStepOf field (calls.Frame from bytes now) step = step ≡ steps.Frame from bytes now
IsStepOf field (calls.Tick now) step = step ≡ steps.Tick now
IsStepOf field (calls.Take delta) step =
    (ops : List Op) × IsDeltaAt field delta ops × (step ≡ steps.Take ops)

-- what calls are for the node, each of them; the list is as it is before the first
abbrev pub AreStepsOf : Field → List Call → List Step → Type 0
AreStepsOf field [] [] = Unit {0}
AreStepsOf field (call ∷ rest) (step ∷ more) = IsStepOf field call step × AreStepsOf field rest more
AreStepsOf field [] (step ∷ more) = ⊥
AreStepsOf field (call ∷ rest) [] = ⊥

-- memory ran out at none of the calls
abbrev pub AreFed : List (Result Out Refusal) → Type 0
AreFed answers = AllByRecursion (λ answer. answer ≢ Err refusals.Memory) answers

-- What calls with one write may do at a gateway. Each call has its own answer, in their order.
abbrev pub TogetherAt : Field → ℕ → List Call → List (Result Out Refusal) → Field → Type 0
TogetherAt old number calls answers new =
    (i : ℕ) × (gateway : Gateway) × (next : Gateway) × (made : List (List Op))
    × (called : List Step)
    × IsAt old number i gateway × AreStepsOf old calls called
    × Together gateway called answers next made × AreFed answers
    × (new ≡ field_changed old i next made)

-- what one event may do: its answer, and the field after it
abbrev pub After : Field → Event → Answer → Field → Type 0
After old (Frame number from bytes now) (Node answer) new =
    Steps old number (Datagram from bytes) now (said answer) new
After old (Tick number now) (Node answer) new = Steps old number Clock now (said answer) new
After old (Take number delta) (Node answer) new =
    (i : ℕ) × (gateway : Gateway) × (next : Gateway) × (made : List (List Op)) × (ops : List Op)
    × IsAt old number i gateway × IsDeltaAt old delta ops
    × TakeStep gateway ops (said answer) next made × (new ≡ field_changed old i next made)
After old (AtOnce number calls) (Row answers) new =
    TogetherAt old number calls (map said answers) new
After old (Asks number peer) (Node answer) new = Asked old number peer (said answer) new
After old (WriteFails number bytes sync) Nothing new =
    (i : ℕ) × (gateway : Gateway) × IsAt old number i gateway
    × (new ≡ field_changed old i (failing_gateway bytes sync gateway) [])
After old (Compact number) (Node answer) new =
    (i : ℕ) × (gateway : Gateway) × (next : Gateway) × IsAt old number i gateway
    × CompactStep gateway (said answer) next × (new ≡ field_changed old i next [])
After old (Restart number kept) (Records count) new =
    (i : ℕ) × (gateway : Gateway) × IsAt old number i gateway × (count ≡ records_left kept gateway)
    × (new ≡ field_changed old i (restarted kept gateway) [])
After old (Show number) (Views views topics) new =
    (i : ℕ) × (gateway : Gateway) × IsAt old number i gateway × (views ≡ shown gateway.taken)
    × (new ≡ old) × (topics ≡ all_retained gateway.taken)
After old event answer new = ⊥

-- what a list of events may do, one after the other
abbrev pub Run : Field → List Event → List Answer → Field → Type 0
Run old [] [] new = new ≡ old
Run old (event ∷ events) (answer ∷ answers) new =
    (mid : Field) × After old event answer mid × Run mid events answers new
Run old [] (answer ∷ answers) new = ⊥
Run old (event ∷ events) [] new = ⊥

-- no gateway of the field has the number
abbrev pub NoGateway : Field → ℕ → Type 0
NoGateway field number = place_of number field.gateways ≡ None

-- the gateway that an event is at
abbrev pub gateway_of_event : Event → ℕ
gateway_of_event (Frame number from bytes now) = number
gateway_of_event (Tick number now) = number
gateway_of_event (Take number delta) = number
gateway_of_event (AtOnce number calls) = number
gateway_of_event (Asks number peer) = number
gateway_of_event (WriteFails number bytes sync) = number
gateway_of_event (Compact number) = number
gateway_of_event (Restart number kept) = number
gateway_of_event (Show number) = number

-- the other gateway that an event names, if it names one
abbrev pub peer_of : Event → Option ℕ
peer_of (Asks number peer) = Some peer
peer_of event = None

-- the event names a gateway that is not there, as the one that it is at or as the other
abbrev pub NamesNoGateway : Field → Event → Type 0
NamesNoGateway field (Asks number peer) = NoGateway field number ⊎ NoGateway field peer
NamesNoGateway field (Frame number from bytes now) = NoGateway field number
NamesNoGateway field (Tick number now) = NoGateway field number
NamesNoGateway field (Take number delta) = NoGateway field number
NamesNoGateway field (AtOnce number calls) = NoGateway field number
NamesNoGateway field (WriteFails number bytes sync) = NoGateway field number
NamesNoGateway field (Compact number) = NoGateway field number
NamesNoGateway field (Restart number kept) = NoGateway field number
NamesNoGateway field (Show number) = NoGateway field number

-- the event names a gateway that is there, and a delta that is not; calls with one write, as the
-- delta of one of them
abbrev pub NamesNoDelta : Field → Event → Type 0
NamesNoDelta field (Take number delta) =
    ((i : ℕ) × (place_of number field.gateways ≡ Some i))
    × ((ops : List Op) → IsDeltaAt field delta ops → ⊥)
NamesNoDelta field (AtOnce number called) =
    ((i : ℕ) × (place_of number field.gateways ≡ Some i))
    × ((delta : ℕ) × Contains called (calls.Take delta)
    × ((ops : List Op) → IsDeltaAt field delta ops → ⊥))
NamesNoDelta field event = ⊥

-- a call of several as an event by itself
abbrev pub by_itself : ℕ → Call → Event
by_itself number (calls.Frame from bytes now) = Frame number from bytes now
by_itself number (calls.Tick now) = Tick number now
by_itself number (calls.Take delta) = Take number delta

-- both fields have the same list, and each gateway of one has the settings, the set and the local
-- state of that in its place of the other
pub record AreFieldsAlike (one other : Field) : Type 0 where
  pub deltas : one.deltas ≡ other.deltas
  pub gateways : (i : ℕ) (gateway same : Gateway) → slice_get one.gateways i ≡ Some gateway
      → slice_get other.gateways i ≡ Some same → AreAlike gateway same
