-- Several calls of which what they make and take goes out in one write.
use Rattle.std.specs.Prelude.{◌≡◌, ◌⊎◌, List, [], ◌∷◌, ◌++◌, Some, None, Result, Ok, Err}
use Rattle.std.specs.List.{AllByRecursion}
use Rattle.std.specs.Option.{option_to_list}
use Rattle.rep_op.specs.declared.op.Op.{Op}
use Rattle.jr_disk.specs.declared.disk.Failure.{Failure}
use Rattle.gw_answer.specs.declared.out.Out.{Out}
use Rattle.gw_answer.specs.declared.refusal.Refusal.{Refusal}
use Rattle.gw_answer.specs.declared.refusal.Refusal.TheVariants as refusals
use Rattle.gw_answer.specs.declared.step.Step.{Step}
use Rattle.gw_answer.specs.declared.step.Step.TheVariants as steps
use Rattle.gw_event.specs.Drives.{torn_all}
use Rattle.gw_event.specs.Gateways.{Gateway}
use Rattle.gw_event.specs.Event.{NothingHappens, StepOf, Event}

-- the calls one after the other, each of which does what the relation says
abbrev pub InTurnBy : (Gateway → Step → Result Out Refusal → Gateway → List (List Op) → Type 0)
    → Gateway → List Step → List (Result Out Refusal) → Gateway → List (List Op) → Type 0
InTurnBy Does old [] [] new made = NothingHappens old new made
InTurnBy Does old (step ∷ rest) (answer ∷ answers) new made =
    (mid : Gateway) × (first : List (List Op)) × (more : List (List Op))
    × Does old step answer mid first × InTurnBy Does mid rest answers new more
    × (made ≡ first ++ more)
InTurnBy Does old [] (answer ∷ answers) new made = ⊥
InTurnBy Does old (step ∷ rest) [] new made = ⊥

-- the calls one after the other, each an event
abbrev pub InTurn : Gateway → List Step → List (Result Out Refusal) → Gateway → List (List Op)
    → Type 0
InTurn old calls answers new made = InTurnBy Event old calls answers new made

-- a call that may write a delta: a datagram, a delta, a tick
abbrev pub CanWrite : Step → Type 0
CanWrite (steps.Frame from bytes now) = Unit {0}
CanWrite (steps.Take delta) = Unit {0}
CanWrite (steps.Tick now) = Unit {0}
CanWrite step = ⊥

-- a delta as it is written: not at all if it has no operations
abbrev pub if_any : List Op → List (List Op)
if_any [] = []
if_any (op ∷ ops) = (op ∷ ops) ∷ []

-- what a call puts into the journal: the delta that it made, or the one that it took
abbrev pub put_by : Step → Result Out Refusal → List (List Op)
put_by (steps.Frame from bytes now) (Ok out) = option_to_list out.made
put_by (steps.Tick now) (Ok out) = option_to_list out.made
put_by (steps.Take delta) (Ok out) = if_any delta
put_by call answer = []

-- what calls put into the journal, in their order
abbrev pub put_by_all : List Step → List (Result Out Refusal) → List (List Op)
put_by_all [] answers = []
put_by_all (call ∷ calls) [] = []
put_by_all (call ∷ calls) (answer ∷ answers) = put_by call answer ++ put_by_all calls answers

-- the answer of a halted gateway, to each of the calls
abbrev pub halted_all : List Step → List (Result Out Refusal)
halted_all [] = []
halted_all (call ∷ calls) = Err refusals.Halted ∷ halted_all calls

-- The write of these calls failed. The first of them had something to write, and is answered as if
-- it had been alone. Had the write gone out, the calls would have led `there`. What they would have
-- put into the journal was in the write, and all of it is refused.
pub record AreTorn (old : Gateway) (call : Step) (answer : Result Out Refusal) (behind : List Step)
    (new : Gateway) : Type 0 where
  pub writing : AllByRecursion CanWrite (call ∷ behind)
  pub excuse : Out
  pub told : answer ≡ Err (refusals.Disk excuse)
  pub alone : Gateway
  pub does : StepOf old call (Err (refusals.Disk excuse)) alone []
  pub would : List (Result Out Refusal)
  pub there : Gateway
  pub made : List (List Op)
  pub led : InTurnBy StepOf (record old { drive = record old.drive { plan = None } })
      (call ∷ behind) would there made
  pub others : List (List Op)
  pub refused : put_by_all (call ∷ behind) would ≡ alone.refused ++ others
  pub failure : Failure
  pub planned : old.drive.plan ≡ Some failure
  pub halted : new ≡ record old {
    refused = put_by_all (call ∷ behind) would;
    drive = torn_all failure (put_by_all (call ∷ behind) would) old.drive;
  }

-- The write of several calls failed. The calls before the first that had something to write are
-- carried out. Those behind that one find the gateway halted.
pub record StopShort (old : Gateway) (calls : List Step) (answers : List (Result Out Refusal))
    (new : Gateway) (made : List (List Op)) : Type 0 where
  pub calm : List Step
  pub said : List (Result Out Refusal)
  pub call : Step
  pub answer : Result Out Refusal
  pub behind : List Step
  pub mid : Gateway
  pub calls_are : calls ≡ calm ++ call ∷ behind
  pub answers_are : answers ≡ said ++ answer ∷ halted_all behind
  pub quiet : put_by_all calm said ≡ []
  pub led : InTurn old calm said mid made
  pub torn : AreTorn mid call answer behind new

-- an answer that the disk failed is the last: no call goes on behind it
abbrev pub FailsLast : List (Result Out Refusal) → Type 0
FailsLast [] = Unit {0}
FailsLast (Err (refusals.Disk excuse) ∷ answers) = answers ≡ []
FailsLast (answer ∷ answers) = FailsLast answers

-- What several calls with one write may do: each is the event that it is by itself, and none goes
-- on behind a failure; or the write failed.
abbrev pub Together : Gateway → List Step → List (Result Out Refusal) → Gateway → List (List Op)
    → Type 0
Together old calls answers new made =
    (InTurn old calls answers new made × FailsLast answers) ⊎ StopShort old calls answers new made

-- both have the same settings, the same set and the same local state
pub record AreAlike (one other : Gateway) : Type 0 where
  pub config : one.config ≡ other.config
  pub taken : one.taken ≡ other.taken
  pub local : one.local ≡ other.local
