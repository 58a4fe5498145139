-- What a text writes, as a test and as a fact.
use Rattle.std.proofs.Common.{◌≡◌, ◌<◌, ◌^◌, ℕ, List, Bool, true, false, ◌&&◌, nat_lt, length, Option, Some, None, is_some, if◌then◌else◌, arith, refl, ap, sym, true≢false}
use Rattle.std.specs.Option.{MatchOption}
use Rattle.std.specs.Str.{all_ascii_digits}
use Rattle.std.proofs.lemmas.Bool.Decides.{nat_tests}
use Rattle.octets.specs.Decimal.{value_of, IsNumber}
use Rattle.gw_main.specs.Numbers.{is_number, number_of}

chosen : (b : Bool) (n : ℕ) (r : Option ℕ) → MatchOption r (b ≡ false) (λ m. (b ≡ true) × (n ≡ m)) → r ≡ (if b then Some n else None)
chosen true n None h = absurd (true≢false h)
chosen false n None h = refl
chosen true n (Some m) h = ap (λ (k : ℕ). Some k) (sym h.1)
chosen false n (Some m) h = absurd (true≢false (sym h.0))

-- the tests of a number, over plain variables
is_told : (a b c : Bool) → a ≡ true → b ≡ true → c ≡ true → (a && b && c) ≡ true
is_told a b c p q r = rw p (rw q r)

tested : (bits : ℕ) (text : List ℕ) (n : ℕ) → IsNumber bits text n → is_number bits text ≡ true
tested bits text n h =
    is_told _ _ _ (let p = h.0.0 in grind (arith, nat_tests)) h.0.1 (let p : value_of text < 2 ^ bits = rw h.1 h.2 in grind (arith, nat_tests))

three : (a b c : Bool) → (a && b && c) ≡ true → (a ≡ true) × (b ≡ true) × (c ≡ true)
three true true true h = (refl, refl, refl)
three true true false h = absurd (true≢false (sym h))
three true false c h = absurd (true≢false (sym h))
three false b c h = absurd (true≢false (sym h))

is_one : (bits : ℕ) (text : List ℕ) → is_number bits text ≡ true → IsNumber bits text (value_of text)
is_one bits text h =
    let p = three _ _ _ h in
    (((let q = p.0 in grind (arith, nat_tests)), p.1), refl, (let q = p.2 in grind (arith, nat_tests)))

no_number : (bits : ℕ) (text : List ℕ) (b : Bool) → is_number bits text ≡ b → ((n : ℕ) → IsNumber bits text n → ⊥) → b ≡ false
no_number bits text true e none = absurd (none (value_of text) (is_one bits text e))
no_number bits text false e none = refl

pub as_test : (bits : ℕ) (text : List ℕ) (r : Option ℕ) → MatchOption r ((n : ℕ) → IsNumber bits text n → ⊥) (IsNumber bits text) → r ≡ number_of bits text
as_test bits text None h = chosen (is_number bits text) (value_of text) None (no_number bits text (is_number bits text) refl h)
as_test bits text (Some n) h = chosen (is_number bits text) (value_of text) (Some n) (tested bits text n h, h.1)
