-- Passes that hold as many calls as a history has, each its own, hold each call of it once.
use Rattle.std.proofs.Common.{◌≡◌, ◌<◌, ◌≤◌, ◌+◌, ◌-◌, ◌==◌, ⊎_elim, ℕ, zero, suc, true, false, if◌then◌else◌, List, [], ◌∷◌, length, refl, sym, ◌∙◌, subst, arith}
use Rattle.std.proofs.lemmas.Bool.{eqb-true, eq-eqb, ne_eqb, cond-true, cond-false, cases_eq, cases_Bool, or_parts, or_cases, false≢true}
use Rattle.std.proofs.lemmas.Option.{slice_get_within}
use Rattle.gw_shift.specs.Calls.{Call, Held, Holder}
use Rattle.gw_shift.specs.Passes.{Ascend}
use Rattle.gw_shift.specs.Closing.{has_number, is_held, AreOwn, AreKnown, taken_by, times, times_held}

-- f of 1, of 2, up to f of n, added up
abbrev pub count_up : (ℕ → ℕ) → ℕ → ℕ
count_up f zero = 0
count_up f (suc n) = count_up f n + f (suc n)

-- one where x is k
abbrev at : ℕ → ℕ → ℕ
at x k = if x == k then 1 else 0

at_same : (x k : ℕ) → x ≡ k → at x k ≡ 1
at_same x k e = cond-true {A = ℕ} (x == k) 1 0 (eq-eqb x k e)

at_other : (x k : ℕ) → (x ≡ k → ⊥) → at x k ≡ 0
at_other x k e = cond-false {A = ℕ} (x == k) 1 0 (ne_eqb x k e)

count_none : (n : ℕ) → count_up (λ k. 0) n ≡ 0
count_none zero = refl
count_none (suc n) = omega (arith, count_none n)

count_both : (f g : ℕ → ℕ) (n : ℕ) → count_up (λ k. f k + g k) n ≡ count_up f n + count_up g n
count_both f g zero = refl
count_both f g (suc n) = omega (arith, count_both f g n)

count_above : (x n : ℕ) → n < x → count_up (at x) n ≡ 0
count_above x zero above = refl
count_above x (suc n) above = omega (arith, count_above x n (omega (arith, above)), at_other x (suc n) (λ e. omega (arith, above, e)))

below : (x n : ℕ) → x ≤ suc n → (x ≡ suc n → ⊥) → x ≤ n
below x n within other = omega (arith, within, other)

count_one : (x n : ℕ) → 0 < x → x ≤ n → count_up (at x) n ≡ 1
count_one x zero some within = absurd (omega (arith, some, within))
count_one x (suc n) some within =
    ⊎_elim
    (λ e. omega (arith, count_above x n (omega (arith, e)), at_same x (suc n) e))
    (λ other. omega (arith, count_one x n some (below x n within other), at_other x (suc n) other))
    (cases_eq x (suc n))

-- each at most one
most : (f : ℕ → ℕ) (n : ℕ) → ((k : ℕ) → f k ≤ 1) → count_up f n ≤ n
most f zero few = omega arith
most f (suc n) few = omega (arith, most f n few, few (suc n))

-- and as many as may be: each one
each_one : (f : ℕ → ℕ) (n : ℕ) → ((k : ℕ) → f k ≤ 1) → count_up f n ≡ n → (k : ℕ) → 1 ≤ k → k ≤ n → f k ≡ 1
each_one f zero few all k some within = absurd (omega (arith, some, within))
each_one f (suc n) few all k some within =
    let before = most f n few in
    let last = few (suc n) in
    ⊎_elim
    (λ e. subst (λ m. f m ≡ 1) (sym e) (omega (arith, all, before, last)))
    (λ other. each_one f n few (omega (arith, all, before, last)) k some (below k n within other))
    (cases_eq k (suc n))

-- ---- one pass

own_count : (history : List Call) (place : ℕ) (others : List Holder) (calls : List Held) → AreOwn history place others calls
    → count_up (λ k. times k calls) (length history) ≡ length calls
own_count history place others [] own = count_none (length history)
own_count history place others (c ∷ calls) own =
    let one = count_one c.number (length history) own.0.0 (omega (arith, own.0.0, slice_get_within history (c.number - 1) _ own.0.1)) in
    let rest = own_count history place others calls own.2 in
    let both = count_both (at c.number) (λ k. times k calls) (length history) in
    omega (arith, one, rest, both)

-- a number that is not above the least is not there
none_low : (number least : ℕ) (calls : List Held) → Ascend least calls → number ≤ least → times number calls ≡ 0
none_low number least [] up low = refl
none_low number least (c ∷ calls) up low =
    omega (arith, none_low number c.number calls up.1 (omega (arith, up.0, low)), at_other c.number number (λ e. omega (arith, up.0, low, e)))

once_each : (number least : ℕ) (calls : List Held) → Ascend least calls → times number calls ≤ 1
once_each number least [] up = omega arith
once_each number least (c ∷ calls) up =
    ⊎_elim
    (λ e. omega (arith, none_low number c.number calls up.1 (omega (arith, e)), at_same c.number number e))
    (λ other. omega (arith, once_each number c.number calls up.1, at_other c.number number other))
    (cases_eq c.number number)

none_without : (number : ℕ) (calls : List Held) → has_number number calls ≡ false → times number calls ≡ 0
none_without number [] without = refl
none_without number (c ∷ calls) without =
    let parts = or_parts (c.number == number) (has_number number calls) without in
    omega (arith, none_without number calls parts.1, cond-false {A = ℕ} (c.number == number) 1 0 parts.0)

-- what this pass holds the others do not
own_alone : (history : List Call) (place : ℕ) (others : List Holder) (number : ℕ) (calls : List Held) → AreOwn history place others calls
    → has_number number calls ≡ true → is_held number others ≡ false
own_alone history place others number [] own there = absurd (false≢true there)
own_alone history place others number (c ∷ calls) own there =
    ⊎_elim
    (λ e. subst (λ n. is_held n others ≡ false) (eqb-true c.number number e) own.1)
    (λ later. own_alone history place others number calls own.2 later)
    (or_cases (c.number == number) (has_number number calls) there)

-- ---- all passes

none_held : (number : ℕ) (passes : List Holder) → is_held number passes ≡ false → times_held number passes ≡ 0
none_held number [] without = refl
none_held number (p ∷ passes) without =
    let parts = or_parts (has_number number p.calls) (is_held number passes) without in
    omega (arith, none_without number p.calls parts.0, none_held number passes parts.1)

pub known_count : (history : List Call) (passes : List Holder) → AreKnown history passes
    → count_up (λ k. times_held k passes) (length history) ≡ taken_by passes
known_count history [] known = count_none (length history)
known_count history (p ∷ passes) known =
    let one = own_count history p.place passes p.calls known.1 in
    let rest = known_count history passes known.2 in
    let both = count_both (λ k. times k p.calls) (λ k. times_held k passes) (length history) in
    omega (arith, one, rest, both)

held_once : (history : List Call) (passes : List Holder) → AreKnown history passes → (number : ℕ) → times_held number passes ≤ 1
held_once history [] known number = omega arith
held_once history (p ∷ passes) known number =
    ⊎_elim
    (λ there.
    omega
    (arith, once_each number 0 p.calls known.0, none_held number passes (own_alone history p.place passes number p.calls known.1 there)))
    (λ without. omega (arith, none_without number p.calls without, held_once history passes known.2 number))
    (cases_Bool (has_number number p.calls))

-- the passes hold no more than the history has
pub no_more : (history : List Call) (passes : List Holder) → AreKnown history passes → taken_by passes ≤ length history
no_more history passes known =
    omega (arith, most (λ k. times_held k passes) (length history) (held_once history passes known), known_count history passes known)

-- and where they hold as many, each call is held once
pub all_once : (history : List Call) (passes : List Holder) → AreKnown history passes → taken_by passes ≡ length history
    → (number : ℕ) → 1 ≤ number → number ≤ length history → times_held number passes ≡ 1
all_once history passes known whole =
    each_one (λ k. times_held k passes) (length history) (held_once history passes known) (known_count history passes known ∙ whole)
