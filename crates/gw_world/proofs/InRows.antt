-- Calls with one write are calls of the field one after the other, unless their write fails.
use Rattle.std.proofs.Common.{◌≡◌, ◌⊎◌, ℕ, ◌-◌, zero, suc, List, [], ◌∷◌, ◌++◌, set, slice_get, Option, Some, Result, Ok, Err, refl, sym, ap, ◌∙◌, subst, append-nil, append_assoc, inl, inr}
use Rattle.std.specs.List.{AllByRecursion}
use Rattle.std.proofs.lemmas.Option.{none-some, same_Some}
use Rattle.rep_op.specs.declared.op.Op.{Op}
use Rattle.rep_model.proofs.Joins.{all-left}
use Rattle.gw_answer.specs.declared.out.Out.{Out}
use Rattle.gw_answer.specs.declared.refusal.Refusal.{Refusal}
use Rattle.gw_answer.specs.declared.refusal.Refusal.TheVariants as refusals
use Rattle.gw_answer.specs.declared.step.Step.{Step}
use Rattle.gw_answer.specs.declared.step.Step.TheVariants as steps
use Rattle.gw_event.specs.Occasions.{Occasion, Datagram, Clock}
use Rattle.gw_event.specs.Gateways.{Gateway}
use Rattle.gw_event.specs.Event.{NothingHappens, OwnStep, TakeStep, StepOf, Event}
use Rattle.gw_event.specs.Together.{InTurnBy, InTurn, CanWrite, put_by_all, halted_all, AreTorn, StopShort, FailsLast, Together}
use Rattle.gw_world.specs.declared.event.Call.{Call}
use Rattle.gw_world.specs.declared.event.Call.TheVariants as calls
use Rattle.gw_world.specs.Field.{Field, IsAt, IsDeltaAt, field_changed, Steps, IsStepOf, AreStepsOf, AreFed, TogetherAt}
use Rattle.gw_world.proofs.Numbers.{First, place_of-first, first-kept, first-place_of, set-there}
use Rattle.gw_world.proofs.Steadiness.{Still, Stepped, Fed, own-moves, take-moves}

abbrev pub Answers : Type 0
Answers = List (Result Out Refusal)

-- ---- lists

pub got-before : {X : Type 0} (xs ys : List X) (k : ℕ) (x : X) → slice_get xs k ≡ Some x → slice_get (xs ++ ys) k ≡ Some x
got-before [] ys k x e = absurd (none-some x e)
got-before (y ∷ xs) ys zero x e = e
got-before (y ∷ xs) ys (suc k) x e = got-before xs ys k x e

set-same : (gs : List Gateway) (i : ℕ) (gateway : Gateway) → slice_get gs i ≡ Some gateway → set gs i gateway ≡ gs
set-same [] i gateway e = absurd (none-some gateway e)
set-same (g ∷ gs) zero gateway e = ap (λ (x : Gateway). x ∷ gs) (sym (same_Some g gateway e))
set-same (g ∷ gs) (suc i) gateway e = ap (λ (xs : List Gateway). g ∷ xs) (set-same gs i gateway e)

set-set : (gs : List Gateway) (i : ℕ) (one other : Gateway) → set (set gs i one) i other ≡ set gs i other
set-set [] i one other = refl
set-set (g ∷ gs) zero one other = refl
set-set (g ∷ gs) (suc i) one other = ap (λ (xs : List Gateway). g ∷ xs) (set-set gs i one other)

-- ---- a gateway in its place

pub changed-same : (field : Field) (i : ℕ) (gateway : Gateway) → slice_get field.gateways i ≡ Some gateway → field_changed field i gateway [] ≡ field
changed-same field i gateway e =
    let gateways = set-same field.gateways i gateway e in
    let deltas = append-nil field.deltas in
    λ j. record { gateways = gateways j; deltas = deltas j }

pub changed-twice : (field : Field) (i : ℕ) (one other : Gateway) (first more : List (List Op)) → field_changed (field_changed field i one first) i other more ≡ field_changed field i other (first ++ more)
changed-twice field i one other first more =
    let gateways = set-set field.gateways i one other in
    let deltas = append_assoc field.deltas first more in
    λ j. record { gateways = gateways j; deltas = deltas j }

-- it stays there
pub at-changed : (field : Field) (number i : ℕ) (gateway next : Gateway) (made : List (List Op)) → IsAt field number i gateway → next.config ≡ gateway.config → IsAt (field_changed field i next made) number i next
at-changed field number i gateway next made at config =
    let kept = first-kept number i i field.gateways gateway next gateway at.1 config (place_of-first number i field.gateways at.0) at.1 in
    (first-place_of number i (set field.gateways i next) kept.0, set-there i field.gateways gateway next at.1)

pub moved-config : (old next : Gateway) (made : List (List Op)) → Still old next made ⊎ Stepped old next made → next.config ≡ old.config
moved-config old next made (inl u) = u.config
moved-config old next made (inr u) = u.config

pub fed-config : (old next : Gateway) (delta : List Op) (made : List (List Op)) → Still old next made ⊎ Fed old delta next made → next.config ≡ old.config
fed-config old next delta made (inl u) = u.config
fed-config old next delta made (inr u) = u.config

-- ---- calls of the field

-- one call is the event that it is by itself
abbrev pub CallAt : Field → ℕ → Call → Result Out Refusal → Field → Type 0
CallAt old number (calls.Frame from bytes now) answer new = Steps old number (Datagram from bytes) now answer new
CallAt old number (calls.Tick now) answer new = Steps old number Clock now answer new
CallAt old number (calls.Take delta) answer new =
    (i : ℕ) × (gateway : Gateway) × (next : Gateway) × (made : List (List Op)) × (ops : List Op)
    × IsAt old number i gateway × IsDeltaAt old delta ops
    × TakeStep gateway ops answer next made × (new ≡ field_changed old i next made)

-- calls one after the other
abbrev pub InCalls : Field → ℕ → List Call → Answers → Field → Type 0
InCalls old number [] [] new = new ≡ old
InCalls old number (call ∷ rest) (answer ∷ answers) new = (mid : Field) × CallAt old number call answer mid × InCalls mid number rest answers new
InCalls old number [] (answer ∷ answers) new = ⊥
InCalls old number (call ∷ rest) [] new = ⊥

-- the calls before the first that had something to write are carried out; from that one on nothing is, as the write failed
pub record CutShort (old : Field) (number : ℕ) (called : List Call) (answers : Answers) (new : Field) : Type 0 where
  pub calm : List Call
  pub said : Answers
  pub behind : List Call
  pub step : Step
  pub steps_behind : List Step
  pub answer : Result Out Refusal
  pub calls_are : called ≡ calm ++ behind
  pub answers_are : answers ≡ said ++ answer ∷ halted_all steps_behind
  pub mid : Field
  pub led : InCalls old number calm said mid
  pub i : ℕ
  pub gateway : Gateway
  pub next : Gateway
  pub at : IsAt mid number i gateway
  pub given : AreStepsOf mid behind (step ∷ steps_behind)
  pub torn : AreTorn gateway step answer steps_behind next
  pub new_is : new ≡ field_changed mid i next []

-- what each call keeps, all keep
pub calls-keep : (P : Field → Type 0) (number : ℕ) → ((old new : Field) (call : Call) (answer : Result Out Refusal) → CallAt old number call answer new → P old → P new)
    → (old new : Field) (called : List Call) (answers : Answers) → InCalls old number called answers new → P old → P new
calls-keep P number f old new [] [] h p = subst P (sym h) p
calls-keep P number f old new (call ∷ called) (answer ∷ answers) h p = calls-keep P number f h.0 new called answers h.2 (f old h.0 call answer h.1 p)
calls-keep P number f old new [] (answer ∷ answers) h p = absurd h
calls-keep P number f old new (call ∷ called) [] h p = absurd h

-- ---- from steps of the node to calls of the field

-- where memory did not run out, each event is a step
step-fed : (old new : Gateway) (step : Step) (answer : Result Out Refusal) (made : List (List Op)) → (AreFed (answer ∷ [])) → Event old step answer new made → StepOf old step answer new made
step-fed old new step answer made fed (inl h) = h
step-fed old new step answer made fed (inr h) = absurd (fed.0 h.0)

pub turn-fed : (old new : Gateway) (called : List Step) (answers : Answers) (made : List (List Op)) → AreFed answers → InTurn old called answers new made → InTurnBy StepOf old called answers new made
turn-fed old new [] [] made fed h = h
turn-fed old new (step ∷ called) (answer ∷ answers) made fed h = (h.0, h.1, h.2, step-fed old h.0 step answer h.1 (fed.0, tt) h.3, turn-fed h.0 new called answers h.2 fed.1 h.4, h.5)
turn-fed old new [] (answer ∷ answers) made fed h = absurd h
turn-fed old new (step ∷ called) [] made fed h = absurd h

-- the list only grows
pub step-later : (field : Field) (i : ℕ) (next : Gateway) (made : List (List Op)) (call : Call) (step : Step) → IsStepOf field call step → IsStepOf (field_changed field i next made) call step
step-later field i next made (calls.Frame from bytes now) step h = h
step-later field i next made (calls.Tick now) step h = h
step-later field i next made (calls.Take delta) step h = (h.0, (h.1.0, got-before field.deltas made (delta - 1) h.0 h.1.1), h.2)

pub steps-later : (field : Field) (i : ℕ) (next : Gateway) (made : List (List Op)) (called : List Call) (more : List Step) → AreStepsOf field called more → AreStepsOf (field_changed field i next made) called more
steps-later field i next made [] [] h = tt
steps-later field i next made (call ∷ called) (step ∷ more) h = (step-later field i next made call step h.0, steps-later field i next made called more h.1)
steps-later field i next made [] (step ∷ more) h = absurd h
steps-later field i next made (call ∷ called) [] h = absurd h

-- one step is one call
pub one-call : (field : Field) (number i : ℕ) (gateway next : Gateway) (call : Call) (step : Step) (answer : Result Out Refusal) (made : List (List Op)) → IsAt field number i gateway → IsStepOf field call step → StepOf gateway step answer next made
    → CallAt field number call answer (field_changed field i next made) × (next.config ≡ gateway.config)
one-call field number i gateway next (calls.Frame from bytes now) step answer made at is h =
    let own : OwnStep gateway (Datagram from bytes) now answer next made = subst (λ (s : Step). StepOf gateway s answer next made) is h in
    ((i, gateway, next, made, at, own, refl), moved-config gateway next made (own-moves gateway (Datagram from bytes) now answer next made own))
one-call field number i gateway next (calls.Tick now) step answer made at is h =
    let own : OwnStep gateway Clock now answer next made = subst (λ (s : Step). StepOf gateway s answer next made) is h in
    ((i, gateway, next, made, at, own, refl), moved-config gateway next made (own-moves gateway Clock now answer next made own))
one-call field number i gateway next (calls.Take delta) step answer made at is h =
    let taken : TakeStep gateway is.0 answer next made = subst (λ (s : Step). StepOf gateway s answer next made) is.2 h in
    ((i, gateway, next, made, is.0, at, is.1, taken, refl), fed-config gateway next is.0 made (take-moves gateway is.0 answer next made taken))

pub in-calls : (field : Field) (number i : ℕ) (gateway next : Gateway) (called : List Call) (more : List Step) (answers : Answers) (made : List (List Op)) → IsAt field number i gateway → AreStepsOf field called more
    → InTurnBy StepOf gateway more answers next made → InCalls field number called answers (field_changed field i next made) × (next.config ≡ gateway.config)
in-calls field number i gateway next [] [] [] made at is h =
    let same : field_changed field i next made ≡ field = (λ j. field_changed field i (h.same j) (h.none j)) ∙ changed-same field i gateway at.1 in
    (same, ap (λ (g : Gateway). g.config) h.same)
in-calls field number i gateway next (call ∷ called) (step ∷ more) (answer ∷ answers) made at is h =
    let one = one-call field number i gateway h.0 call step answer h.1 at is.0 h.3 in
    let rest = in-calls (field_changed field i h.0 h.1) number i h.0 next called more answers h.2 (at-changed field number i gateway h.0 h.1 at one.1) (steps-later field i h.0 h.1 called more is.1) h.4 in
    let whole : field_changed (field_changed field i h.0 h.1) i next h.2 ≡ field_changed field i next made = changed-twice field i h.0 next h.1 h.2 ∙ ap (λ (m : List (List Op)). field_changed field i next m) (sym h.5) in
    ((field_changed field i h.0 h.1, one.0, subst (λ (f : Field). InCalls (field_changed field i h.0 h.1) number called answers f) whole rest.0), rest.1 ∙ one.1)
in-calls field number i gateway next [] [] (answer ∷ answers) made at is h = absurd h
in-calls field number i gateway next [] (step ∷ more) answers made at is h = absurd is
in-calls field number i gateway next (call ∷ called) [] answers made at is h = absurd is
in-calls field number i gateway next (call ∷ called) (step ∷ more) [] made at is h = absurd h

-- calls are cut where their steps are
pub record Cut (field : Field) (called : List Call) (front behind : List Step) : Type 0 where
  pub calm : List Call
  pub rest : List Call
  pub whole : called ≡ calm ++ rest
  pub first : AreStepsOf field calm front
  pub last : AreStepsOf field rest behind

pub cut-at : (field : Field) (called : List Call) (front behind : List Step) → AreStepsOf field called (front ++ behind) → Cut field called front behind
cut-at field called [] behind h = record { calm = []; rest = called; whole = refl; first = tt; last = h }
cut-at field (call ∷ called) (step ∷ front) behind h =
    let c = cut-at field called front behind h.1 in
    record { calm = call ∷ c.calm; rest = c.rest; whole = ap (λ (xs : List Call). call ∷ xs) c.whole; first = (h.0, c.first); last = c.last }
cut-at field [] (step ∷ front) behind h = absurd h

short-row : (old : Field) (number i : ℕ) (gateway next : Gateway) (called : List Call) (more : List Step) (answers : Answers) (made : List (List Op)) → IsAt old number i gateway → AreStepsOf old called more → AreFed answers
    → StopShort gateway more answers next made → CutShort old number called answers (field_changed old i next made)
short-row old number i gateway next called more answers made at is fed h =
    let c = cut-at old called h.calm (h.call ∷ h.behind) (subst (λ (xs : List Step). AreStepsOf old called xs) h.calls_are is) in
    let fed_first : AreFed h.said = all-left (λ (answer : Result Out Refusal). answer ≡ Err refusals.Memory → ⊥) h.said (h.answer ∷ halted_all h.behind) (subst AreFed h.answers_are fed) in
    let led = in-calls old number i gateway h.mid c.calm h.calm h.said made at c.first (turn-fed gateway h.mid h.calm h.said made fed_first h.led) in
    record {
      calm = c.calm;
      said = h.said;
      behind = c.rest;
      step = h.call;
      steps_behind = h.behind;
      answer = h.answer;
      calls_are = c.whole;
      answers_are = h.answers_are;
      mid = field_changed old i h.mid made;
      led = led.0;
      i = i;
      gateway = h.mid;
      next = next;
      at = at-changed old number i gateway h.mid made at led.1;
      given = steps-later old i h.mid made c.rest (h.call ∷ h.behind) c.last;
      torn = h.torn;
      new_is = ap (λ (m : List (List Op)). field_changed old i next m) (sym (append-nil made)) ∙ sym (changed-twice old i h.mid next made []);
    }

row-ways : (old : Field) (number i : ℕ) (gateway next : Gateway) (called : List Call) (more : List Step) (answers : Answers) (made : List (List Op)) → IsAt old number i gateway → AreStepsOf old called more → AreFed answers
    → Together gateway more answers next made → InCalls old number called answers (field_changed old i next made) ⊎ CutShort old number called answers (field_changed old i next made)
row-ways old number i gateway next called more answers made at is fed (inl h) = inl (in-calls old number i gateway next called more answers made at is (turn-fed gateway next more answers made fed h.0)).0
row-ways old number i gateway next called more answers made at is fed (inr h) = inr (short-row old number i gateway next called more answers made at is fed h)

-- calls with one write are calls one after the other, or their write failed
pub row-moves : (old new : Field) (number : ℕ) (called : List Call) (answers : Answers) → TogetherAt old number called answers new → InCalls old number called answers new ⊎ CutShort old number called answers new
row-moves old new number called answers h =
    subst (λ (f : Field). InCalls old number called answers f ⊎ CutShort old number called answers f) (sym h.9)
    (row-ways old number h.0 h.1 h.2 called h.4 answers h.3 h.5 h.6 h.8 h.7)

-- ---- where the write failed

-- nothing was taken or noted
pub torn-row-still : (old new : Gateway) (step : Step) (answer : Result Out Refusal) (behind : List Step) → AreTorn old step answer behind new → Still old new []
torn-row-still old new step answer behind t = record { config = ap (λ (x : Gateway). x.config) t.halted; taken = ap (λ (x : Gateway). x.taken) t.halted; none = refl }

-- what each call keeps, and a failed write keeps, calls with one write keep
pub row-keeps : (P : Field → Type 0) (number : ℕ) → ((old new : Field) (call : Call) (answer : Result Out Refusal) → CallAt old number call answer new → P old → P new)
    → ((field : Field) (i : ℕ) (gateway next : Gateway) (behind : List Call) (step : Step) (answer : Result Out Refusal) (more : List Step) → IsAt field number i gateway → AreStepsOf field behind (step ∷ more) → AreTorn gateway step answer more next → P field → P (field_changed field i next []))
    → (old new : Field) (called : List Call) (answers : Answers) → TogetherAt old number called answers new → P old → P new
row-keeps P number f g old new called answers h p = ways (row-moves old new number called answers h)
  where
    ways : InCalls old number called answers new ⊎ CutShort old number called answers new → P new
    ways (inl c) = calls-keep P number f old new called answers c p
    ways (inr c) = subst P (sym c.new_is) (g c.mid c.i c.gateway c.next c.behind c.step c.answer c.steps_behind c.at c.given c.torn (calls-keep P number f old c.mid c.calm c.said c.led p))
