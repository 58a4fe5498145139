-- A step of a gateway in a field: a datagram or a tick, by itself or among calls with one write.
use Rattle.std.specs.Prelude.{◌≡◌, ◌⊎◌, ℕ, List, ◌∷◌, ◌++◌, length, Some, None, Result, Ok, Err, slice_get}
use Rattle.std.specs.declared.sync.Arc.{Arc}
use Rattle.std.specs.declared.alloc.Global.{Global}
use Rattle.rep_op.specs.declared.op.Op.{Op}
use Rattle.sn_local.specs.declared.config.Send.{Send}
use Rattle.gw_answer.specs.declared.out.Out.{Out}
use Rattle.gw_answer.specs.declared.fault.NodeFault.{NodeFault}
use Rattle.gw_answer.specs.declared.refusal.Refusal.{Refusal}
use Rattle.gw_answer.specs.declared.refusal.Refusal.TheVariants as refusals
use Rattle.gw_answer.specs.declared.step.Step.{Step}
use Rattle.gw_answer.specs.Answers.{said}
use Rattle.gw_event.specs.Occasions.{Occasion, Datagram, Clock}
use Rattle.gw_event.specs.Gateways.{Gateway}
use Rattle.gw_event.specs.Event.{StepOf}
use Rattle.gw_event.specs.Excuses.{IsExcuse}
use Rattle.gw_event.specs.Together.{InTurnBy, AreAlike}
use Rattle.gw_world.specs.declared.event.Event.{Event}
use Rattle.gw_world.specs.declared.event.Event.TheVariants.{Frame, Tick, Together as AtOnce}
use Rattle.gw_world.specs.declared.event.Call.{Call}
use Rattle.gw_world.specs.declared.event.Call.TheVariants as calls
use Rattle.gw_world.specs.declared.event.Answer.{Answer}
use Rattle.gw_world.specs.declared.event.Answer.TheVariants.{Node, Row}
use Rattle.gw_world.specs.Field.{Field, IsAt, AreStepsOf}

-- the event is a datagram that comes to the gateway of this number, or a tick of the clock there
abbrev pub IsOccasion : Event → ℕ → Occasion → ℕ → Type 0
IsOccasion (Frame gateway from bytes moment) number occasion now =
    (number ≡ gateway) × (occasion ≡ Datagram from bytes) × (now ≡ moment)
IsOccasion (Tick gateway moment) number occasion now =
    (number ≡ gateway) × (occasion ≡ Clock) × (now ≡ moment)
IsOccasion event number occasion now = ⊥

-- the call of several is a datagram, or a tick
abbrev pub IsCalled : Call → Occasion → ℕ → Type 0
IsCalled (calls.Frame from bytes moment) occasion now =
    (occasion ≡ Datagram from bytes) × (now ≡ moment)
IsCalled (calls.Tick moment) occasion now = (occasion ≡ Clock) × (now ≡ moment)
IsCalled (calls.Take delta) occasion now = ⊥

-- The answer gives these datagrams. Or the disk failed in the step, and the answer has the excuse
-- that goes out instead of them.
abbrev pub EndsWith : Result Out Refusal → Occasion → List Send → Type 0
EndsWith (Ok out) occasion sends = out.sends ≡ sends
EndsWith (Err (refusals.Disk excuse)) occasion sends = IsExcuse occasion sends excuse.sends
EndsWith (Err refusal) occasion sends = ⊥

-- `EndsWith` of the answer to an event
abbrev pub IsAnsweredWith : Answer → Occasion → List Send → Type 0
IsAnsweredWith (Node answer) occasion sends = EndsWith (said answer) occasion sends
IsAnsweredWith answer occasion sends = ⊥

-- the write of several calls failed: one of their answers says so
abbrev pub HaveFailed : List (Result (Arc Out Global) NodeFault) → Type 0
HaveFailed answers =
    (j : ℕ) × (answer : Result (Arc Out Global) NodeFault) × (excuse : Out)
    × (slice_get answers j ≡ Some answer) × (said answer ≡ Err (refusals.Disk excuse))

-- `EndsWith` of the answer to one of several calls; or their write failed
abbrev pub EndsAmong : List (Result (Arc Out Global) NodeFault) → ℕ → Occasion → List Send → Type 0
EndsAmong answers k occasion sends =
    ((answer : Result (Arc Out Global) NodeFault) × (slice_get answers k ≡ Some answer)
    × EndsWith (said answer) occasion sends)
    ⊎ HaveFailed answers

-- Calls lead from one gateway to another, if what they write goes out. Some first ones of them are
-- carried out before a failure that was arranged.
pub record Lead (old : Gateway) (front : List Step) (there : Gateway) : Type 0 where
  pub calm : List Step
  pub said : List (Result Out Refusal)
  pub mid : Gateway
  pub made : List (List Op)
  pub led : InTurnBy StepOf old calm said mid made
  pub more : List Step
  pub would : List (Result Out Refusal)
  pub end : Gateway
  pub rest : List (List Op)
  pub goes_on : InTurnBy StepOf (record mid { drive = record mid.drive { plan = None } }) more
      would end rest
  pub front_is : front ≡ calm ++ more
  pub alike : AreAlike end there

-- One of several calls with one write is a step at this gateway: those before it led there.
pub record IsAmong (field : Field) (event : Event) (answer : Answer) (gateway : Gateway)
    (occasion : Occasion) (now : ℕ) (sends : List Send) : Type 0 where
  pub number : ℕ
  pub i : ℕ
  pub first : Gateway
  pub at : IsAt field number i first
  pub front : List Call
  pub call : Call
  pub behind : List Call
  pub event_is : event ≡ AtOnce number (front ++ call ∷ behind)
  pub is_called : IsCalled call occasion now
  pub steps : List Step
  pub given : AreStepsOf field front steps
  pub led : Lead first steps gateway
  pub answers : List (Result (Arc Out Global) NodeFault)
  pub answer_is : answer ≡ Row answers
  pub ends : EndsAmong answers (length front) occasion sends

-- In this field the event is a step at this gateway: a datagram that comes to it, or a tick there.
-- It is answered with these datagrams, or the disk failed. Or one of several calls is that step.
abbrev pub IsStep : Field → Event → Answer → Gateway → Occasion → ℕ → List Send → Type 0
IsStep field event answer gateway occasion now sends =
    ((number i : ℕ) × IsAt field number i gateway × IsOccasion event number occasion now
    × IsAnsweredWith answer occasion sends)
    ⊎ IsAmong field event answer gateway occasion now sends
