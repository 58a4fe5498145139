-- What calls add to a pass.
use Rattle.std.proofs.Common.{◌≡◌, ◌≤◌, ◌+◌, ℕ, zero, suc, Bool, Result, Err, true, All, List, [], ◌∷◌, ◌++◌, length, take, map, refl, ap, sym, ◌∙◌, subst, arith}
use Rattle.std.proofs.lemmas.List.Elements.{All-append, All-cons, All-nil, All-head, All-tail}
use Rattle.gw_answer.specs.declared.step.Step.{Step}
use Rattle.gw_answer.specs.declared.out.Out.{Out}
use Rattle.gw_answer.specs.declared.refusal.Refusal.{Refusal}
use Rattle.gw_answer.specs.Answers.{refusal_of_fault}
use Rattle.gw_shift.specs.Calls.{Held, Holder}
use Rattle.gw_shift.specs.Passes.{held_as, held_from, with_calls}
use Rattle.gw_shift.specs.Calling.{Made, MadeInRow, NotMade}
use Rattle.gw_shift.specs.declared.fault.CallFault.{CallFault}
use Rattle.gw_shift.specs.declared.fault.CallFault.TheVariants as faults
use Rattle.gw_link.specs.Adding.{AddsEach, Adds}
use Rattle.gw_link.specs.inner.Rows.{AllAre}
use Rattle.gw_shift.proofs.Gained.{with_none, with_both}

pub each_none : (IsSuch : Held → Type 0) (before after : Holder) → after ≡ before → AddsEach IsSuch before after
each_none IsSuch before after e = ([], e ∙ sym (with_none before), All-nil IsSuch)

pub each_one : (IsSuch : Held → Type 0) (before : Holder) (step : Step) (answer : Result Out Refusal) (n : ℕ) (after : Holder) → IsSuch (held_as n step answer) → Made before step answer n after → AddsEach IsSuch before after
each_one IsSuch before step answer n after such made =
    (held_as n step answer ∷ [], made.holds, All-cons IsSuch (held_as n step answer) [] such (All-nil IsSuch))

pub each_more : (IsSuch : Held → Type 0) (a b c : Holder) → AddsEach IsSuch a b → AddsEach IsSuch b c → AddsEach IsSuch a c
each_more IsSuch a b c x y = (
  x.0 ++ y.0,
  y.1 ∙ ap (λ (l : Holder). with_calls l y.0) x.1 ∙ with_both a x.0 y.0,
  All-append IsSuch x.0 y.0 x.2 y.2,
)

pub adds_none : (is : Step → Bool) (before after : Holder) → after ≡ before → Adds is before after
adds_none is = each_none (λ (held : Held). is held.step ≡ true)

pub adds_one : (is : Step → Bool) (before : Holder) (step : Step) (answer : Result Out Refusal) (n : ℕ) (after : Holder) → is step ≡ true → Made before step answer n after → Adds is before after
adds_one is = each_one (λ (held : Held). is held.step ≡ true)

pub adds_more : (is : Step → Bool) (a b c : Holder) → Adds is a b → Adds is b c → Adds is a c
adds_more is = each_more (λ (held : Held). is held.step ≡ true)

-- a call that was refused is held where it reached the gateway
pub adds_refused : (is : Step → Bool) (before : Holder) (step : Step) (fault : CallFault) (after : Holder) → is step ≡ true → NotMade before step fault after → Adds is before after
adds_refused is before step faults.ShiftFull after ours same = adds_none is before after same
adds_refused is before step (faults.Behind held) after ours same = adds_none is before after same.1
adds_refused is before step faults.Memory after ours same = adds_none is before after same
adds_refused is before step (faults.Node number fault) after ours made = adds_one is before step (Err (refusal_of_fault fault)) number after ours made

-- ---- calls in a row

all_held : (is : Step → Bool) (number : ℕ) (steps : List Step) (answers : List (Result Out Refusal)) → AllAre is steps
    → All (λ (held : Held). is held.step ≡ true) (held_from number steps answers)
all_held is number steps [] are = All-nil (λ (held : Held). is held.step ≡ true)
all_held is number [] (a ∷ answers) are = All-nil (λ (held : Held). is held.step ≡ true)
all_held is number (s ∷ steps) (a ∷ answers) are =
    All-cons
    (λ (held : Held). is held.step ≡ true)
    (held_as number s a)
    (held_from (number + 1) steps answers)
    (All-head (λ (step : Step). is step ≡ true) s steps are)
    (all_held is (number + 1) steps answers (All-tail (λ (step : Step). is step ≡ true) s steps are))

pub adds_row : (is : Step → Bool) (before : Holder) (steps : List Step) (answers : List (Result Out Refusal)) (n : ℕ) (after : Holder) → AllAre is steps
    → MadeInRow before steps answers n after → Adds is before after
adds_row is before steps answers n after are made = (held_from n steps answers, made.holds, all_held is n steps answers are)

-- ---- calls that are not all asked

held_front : (number n : ℕ) (steps : List Step) (answers : List (Result Out Refusal)) → length answers ≤ length (take n steps) → held_from number (take n steps) answers ≡ held_from number steps answers
held_front number n steps [] few = refl
held_front number zero steps (a ∷ answers) few = absurd (omega (arith, few))
held_front number (suc n) [] (a ∷ answers) few = refl
held_front number (suc n) (s ∷ steps) (a ∷ answers) few = ap (λ (more : List Held). held_as number s a ∷ more) (held_front (number + 1) n steps answers (omega (arith, few)))

shorter : (n : ℕ) (steps : List Step) → length (take n steps) ≤ length steps
shorter zero steps = omega arith
shorter (suc n) [] = omega arith
shorter (suc n) (s ∷ steps) = let rest = shorter n steps in omega (arith, rest)

-- where the first of some calls are asked, what is made of them is made of all
pub made_front : (before after : Holder) (n number : ℕ) (steps : List Step) (answers : List (Result Out Refusal)) → MadeInRow before (take n steps) answers number after → MadeInRow before steps answers number after
made_front before after n number steps answers made =
    let fits = shorter n steps in
    let few = made.few in record {
      some = made.some;
      few = omega (arith, few, fits);
      later = made.later;
      holds = made.holds ∙ ap (λ (more : List Held). with_calls before more) (held_front number n steps answers made.few);
    }

-- ---- a row of calls

mapped : {X Y : Type 0} (f : X → Y) (xs : List X) (x : X) → map f (xs ++ x ∷ []) ≡ map f xs ++ f x ∷ []
mapped f [] x = refl
mapped f (y ∷ xs) x = ap (λ ys. f y ∷ ys) (mapped f xs x)

-- one call of the kind more
pub are_on : {X : Type 0} (is : Step → Bool) (value : X → Step) (before after : List X) (x : X) → AllAre is (map value before) → after ≡ before ++ x ∷ [] → is (value x) ≡ true → AllAre is (map value after)
are_on is value before after x are grown ours =
    let P : Step → Type 0 = λ step. is step ≡ true in
    subst (λ (steps : List Step). AllAre is steps) (sym (ap (λ xs. map value xs) grown ∙ mapped value before x))
    (All-append P (map value before) (value x ∷ []) are (All-cons P (value x) [] ours (All-nil P)))
