-- What a pass holds, with one call more.
use Rattle.std.proofs.Common.{◌≡◌, ◌<◌, ◌≤◌, ◌+◌, ℕ, List, [], ◌∷◌, ◌++◌, length, refl, sym, subst, ap, ◌∙◌, arith, Result}
use Rattle.gw_answer.specs.declared.out.Out.{Out}
use Rattle.gw_answer.specs.declared.refusal.Refusal.{Refusal}
use Rattle.gw_answer.specs.declared.step.Step.{Step}
use Rattle.gw_shift.specs.Calls.{Held}
use Rattle.gw_shift.specs.Passes.{Ascend, last_of, held_from}

pub ascend_on : (least : ℕ) (calls : List Held) (held : Held) → Ascend least calls → last_of least calls < held.number → Ascend least (calls ++ held ∷ [])
ascend_on least [] held up later = (later, tt)
ascend_on least (c ∷ calls) held up later = (up.0, ascend_on c.number calls held up.1 later)

pub last_on : (least : ℕ) (calls : List Held) (held : Held) → last_of least (calls ++ held ∷ []) ≡ held.number
last_on least [] held = refl
last_on least (c ∷ calls) held = last_on c.number calls held

-- a pass that holds a later call more
pub holds_more : (calls more : List Held) (made : Held) → Ascend 0 calls → last_of 0 calls < made.number → more ≡ calls ++ made ∷ []
    → Ascend 0 more × (made.number ≡ last_of 0 more)
holds_more calls more made up later is =
    subst
    (λ (xs : List Held). Ascend 0 xs × (made.number ≡ last_of 0 xs))
    (sym is)
    (ascend_on 0 calls made up later, sym (last_on 0 calls made))

-- ---- several calls more

ascend_from : (least number : ℕ) (steps : List Step) (answers : List (Result Out Refusal)) → least < number → Ascend least (held_from number steps answers)
ascend_from least number steps [] later = tt
ascend_from least number [] (a ∷ answers) later = tt
ascend_from least number (s ∷ steps) (a ∷ answers) later = (later, ascend_from number (number + 1) steps answers (omega arith))

ascend_behind : (least : ℕ) (calls more : List Held) → Ascend least calls → Ascend (last_of least calls) more → Ascend least (calls ++ more)
ascend_behind least [] more up later = later
ascend_behind least (c ∷ calls) more up later = (up.0, ascend_behind c.number calls more up.1 later)

last_behind : (least : ℕ) (calls more : List Held) → last_of least (calls ++ more) ≡ last_of (last_of least calls) more
last_behind least [] more = refl
last_behind least (c ∷ calls) more = last_behind c.number calls more

-- numbers that go on behind this one
last_next : (least number : ℕ) (steps : List Step) (answers : List (Result Out Refusal)) → least + 1 ≡ number → length answers ≤ length steps
    → last_of least (held_from number steps answers) + 1 ≡ number + length answers
last_next least number steps [] next few = omega (arith, next)
last_next least number [] (a ∷ answers) next few = absurd (omega (arith, few))
last_next least number (s ∷ steps) (a ∷ answers) next few = omega (arith, last_next number (number + 1) steps answers (omega arith) (omega (arith, few)))

last_from : (least number : ℕ) (steps : List Step) (answers : List (Result Out Refusal)) → 0 < length answers → length answers ≤ length steps
    → last_of least (held_from number steps answers) + 1 ≡ number + length answers
last_from least number steps [] some few = absurd (omega (arith, some))
last_from least number [] (a ∷ answers) some few = absurd (omega (arith, few))
last_from least number (s ∷ steps) (a ∷ answers) some few = omega (arith, last_next number (number + 1) steps answers (omega arith) (omega (arith, few)))

-- a pass that holds later calls more, which follow each other
pub holds_row : (calls more row : List Held) (steps : List Step) (answers : List (Result Out Refusal)) (number last : ℕ) → Ascend 0 calls → last_of 0 calls < number
    → row ≡ held_from number steps answers → more ≡ calls ++ row → 0 < length answers → length answers ≤ length steps → last + 1 ≡ number + length answers
    → Ascend 0 more × (last ≡ last_of 0 more)
holds_row calls more row steps answers number last up later is all some few end =
    let from : more ≡ calls ++ held_from number steps answers = all ∙ ap (λ (xs : List Held). calls ++ xs) is in
    let a = last_from (last_of 0 calls) number steps answers some few in
    let b = last_behind 0 calls (held_from number steps answers) in
    subst
    (λ (xs : List Held). Ascend 0 xs × (last ≡ last_of 0 xs))
    (sym from)
    (ascend_behind 0 calls (held_from number steps answers) up (ascend_from (last_of 0 calls) number steps answers later), omega (arith, a, b, end))
