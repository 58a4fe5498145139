-- Decimal digits as `parse` reads them.
use Rattle.std.proofs.Common.{◌≡◌, ◌≢◌, ◌<◌, ◌^◌, ℕ, List, [], ◌∷◌, ◌&&◌, get_or, Bool, true, arith, rules, sym, subst}
use Rattle.std.specs.Prelude.{Result, Ok, Err}
use Rattle.std.specs.Result.{result_ok}
use Rattle.std.specs.Option.{MatchOption}
use Rattle.std.specs.Str.{IsUtf8, IsAscii, all_ascii_digits}
use Rattle.std.specs.Str.Parse.{ParsesUnsigned}
use Rattle.std.specs.Char.{is_ascii_digit}
use Rattle.std.proofs.lemmas.Str.{IsUtf8-from_ascii}
use Rattle.std.proofs.lemmas.Str.Ascii.{IsAscii-nil, IsAscii-cons}
use Rattle.std.proofs.lemmas.Str.Parse.{IsNumeralModel, numerals_by_weight, tells_all_ascii_digits, parse_plain}
use Rattle.std.proofs.lemmas.Bool.Decides.{nat_tests}
use Rattle.octets.specs.Decimal.{IsDigits, value_of, IsNumber}

own : IsNumeralModel (λ ds. all_ascii_digits ds ≡ true) value_of
own = numerals_by_weight _ tells_all_ascii_digits value_of (search rules)

digit_below : (c : ℕ) → is_ascii_digit c ≡ true → c < 128
digit_below c h = grind (arith, nat_tests)

first_of_both : (a b : Bool) → (a && b) ≡ true → a ≡ true
first_of_both a b h = grind arith

second_of_both : (a b : Bool) → (a && b) ≡ true → b ≡ true
second_of_both a b h = grind arith

digits_ascii : (text : List ℕ) → all_ascii_digits text ≡ true → IsAscii text
digits_ascii [] h = IsAscii-nil
digits_ascii (c ∷ cs) h = IsAscii-cons c cs (digit_below c (first_of_both _ _ h)) (digits_ascii cs (second_of_both _ _ h))

-- digits are text
pub digits_utf8 : (text : List ℕ) → IsDigits text → IsUtf8 text
digits_utf8 text h = IsUtf8-from_ascii text (digits_ascii text h.1)

-- what `parse` reads where no plus stands in front
pub parsed : {E : Type 0} (text : List ℕ) (r : Result ℕ E) → ParsesUnsigned 64 10 text r → get_or text 0 0 ≢ 43
    → MatchOption (result_ok r) ((n : ℕ) → IsNumber 64 text n → ⊥) (IsNumber 64 text)
parsed {E} text (Ok n) h plain =
    let r : Result ℕ E = Ok n in
    let p = parse_plain own 64 text r h plain in
    ((p.0.1, p.0.0), sym p.1, subst (λ (m : ℕ). m < 2 ^ 64) (sym p.1) p.0.2)
parsed {E} text (Err e) h plain = λ n q.
    let r : Result ℕ E = Err e in
    parse_plain own 64 text r h plain (q.0.1, q.0.0, subst (λ (m : ℕ). m < 2 ^ 64) (sym q.1) q.2)
