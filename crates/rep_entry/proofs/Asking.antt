-- What the marks of a filter and of a session say of the topics that they ask for.
use Rattle.std.proofs.Common.{◌≡◌, ℕ, ◌*◌, ◌%◌, ◌^◌, ◌<◌, ◌==◌, ◌&&◌, ◌||◌, max, not, Bool, true, false, cond, fold, List, [], ◌∷◌, ◌++◌, refl, sym, ap, ◌∙◌, arith, true≢false}
use native.Mathlib.Nat.{one-mul, mod-eq_of_lt}
use Rattle.std.proofs.Math.Pow.{pow-lt}
use Rattle.std.specs.Int.{bit_at}
use Rattle.std.proofs.lemmas.Nat.Bits.{bit_at_or, bit_at-lt, bit_at_ones, bit_at-pow_same}
use Rattle.std.proofs.lemmas.Bool.{eqb-true, eq-eqb, and_parts}
use Rattle.std.proofs.lemmas.Slice.Eq.{bytes_eq-Decides}
use Rattle.std.proofs.lemmas.List.Splits.{join_with_byte-slice_split}
use Rattle.std.specs.List.{AllByRecursion, list_any, onto_first, join_with_byte}
use Rattle.std.specs.Str.{bytes_eq}
use Rattle.sn_topic.specs.Levels.{is_wildcard, has_wildcard, is_hash, is_plus, is_only, levels, begins_with_wildcard}
use Rattle.sn_topic.specs.Matching.{is_match, levels_match, level_agrees, no_level, begins_with_dollar}
use Rattle.sn_tables.specs.declared.subscriptions.Subscription.{Subscription}
use Rattle.rep_entry.specs.Interests.{mixed_with, mark_of, has_mark, AskWithin}

-- ---- a filter without wildcards asks for itself alone

or_none : (a b : Bool) → (a || b) ≡ false → (a ≡ false) × (b ≡ false)
or_none true b h = absurd (true≢false h)
or_none false b h = (refl, h)

abbrev pub plain : List ℕ → Type 0
plain level = has_wildcard level ≡ false

not_only : (w : ℕ) (level : List ℕ) → ((o : ℕ) → (o == w) ≡ true → is_wildcard o ≡ true) → plain level → is_only w level ≡ false
not_only w [] is h = refl
not_only w (o ∷ []) is h =
    elim (o == w) as (λ b. (o == w) ≡ b → b ≡ false) [
      | true ↦ λ t. absurd (true≢false (sym (is o t) ∙ (or_none (is_wildcard o) (list_any is_wildcard []) h).0))
      | false ↦ λ _. refl
    ] refl
not_only w (o ∷ p ∷ more) is h = refl

no_hash : (level : List ℕ) → plain level → is_hash level ≡ false
no_hash level h = not_only 35 level (λ o is. elim (o == 43) as (λ b. (b || (o == 35)) ≡ true) [ true ↦ refl | false ↦ is ]) h

no_plus : (level : List ℕ) → plain level → is_plus level ≡ false
no_plus level h = not_only 43 level (λ o is. ap (λ b. b || (o == 35)) is) h

bytes_same : (a b : List ℕ) → bytes_eq a b ≡ true → a ≡ b
bytes_same a b h = (bytes_eq-Decides a b).0 h

levels_same : (asked given : List (List ℕ)) → AllByRecursion plain asked → levels_match asked given ≡ true → asked ≡ given
levels_same [] [] h m = refl
levels_same [] (g ∷ given) h m = absurd (true≢false (sym m))
levels_same (a ∷ asked) [] h m = absurd (true≢false (sym m ∙ ap (λ b. b && no_level asked) (no_hash a h.0)))
levels_same (a ∷ asked) (g ∷ given) h m =
    let second : (level_agrees a g && levels_match asked given) ≡ true = ap (λ b. (b && no_level asked) || (level_agrees a g && levels_match asked given)) (sym (no_hash a h.0)) ∙ m in
    let parts = and_parts (level_agrees a g) (levels_match asked given) second in
    let same = bytes_same a g (ap (λ b. b || bytes_eq a g) (sym (no_plus a h.0)) ∙ parts.0) in
    let rest = levels_same asked given h.1 parts.1 in
    λ i. same i ∷ rest i

plain_onto : (x : ℕ) (parts : List (List ℕ)) → is_wildcard x ≡ false → AllByRecursion plain parts → AllByRecursion plain (onto_first x parts)
plain_onto x [] w h = (ap (λ b. b || false) w, tt)
plain_onto x (part ∷ parts) w h = (ap (λ b. b || has_wildcard part) w ∙ h.0, h.1)

plain_levels : (octets : List ℕ) → plain octets → AllByRecursion plain (levels octets)
plain_levels [] h = (refl, tt)
plain_levels (x ∷ xs) h =
    let parts = or_none (is_wildcard x) (has_wildcard xs) h in
    let rest = plain_levels xs parts.1 in
    elim (x == 47) as (λ b. AllByRecursion plain (cond b ([] ∷ levels xs) (onto_first x (levels xs)))) [
      | true ↦ (refl, rest)
      | false ↦ plain_onto x (levels xs) parts.0 rest
    ]

pub asks_for_itself : (asked topic : List ℕ) → plain asked → is_match asked topic ≡ true → asked ≡ topic
asks_for_itself asked topic h m =
    let parts = and_parts (not (begins_with_wildcard asked && begins_with_dollar topic)) (levels_match (levels asked) (levels topic)) m in
    let same = levels_same (levels asked) (levels topic) (plain_levels asked h) parts.1 in
    sym (join_with_byte-slice_split 47 asked) ∙ ap (join_with_byte 47) same ∙ join_with_byte-slice_split 47 topic

-- ---- marks

mixed_one : (m x : ℕ) → mixed_with m x < 4294967296
unfolding mixed_with
mixed_one m x = omega arith

mixed_small : (m : ℕ) (octets : List ℕ) → m < 4294967296 → fold mixed_with m octets < 4294967296
mixed_small m [] h = h
mixed_small m (x ∷ xs) h = mixed_small (mixed_with m x) xs (mixed_one m x)

pub mark_few : (octets : List ℕ) → mark_of octets < 64
unfolding mark_of
mark_few octets = let small = mixed_small 2166136261 octets (omega arith) in omega (arith, small)

-- every mark is among all
pub among_all : (octets : List ℕ) → has_mark 18446744073709551615 (mark_of octets) ≡ true
among_all octets = eq-eqb (bit_at 18446744073709551615 (mark_of octets)) 1 (bit_at_ones 64 (mark_of octets) (mark_few octets))

-- its own mark
pub own_mark : (k n : ℕ) → n ≡ 2 ^ k → has_mark n k ≡ true
own_mark k n is = eq-eqb (bit_at n k) 1 (ap (λ m. bit_at m k) is ∙ bit_at-pow_same k)

-- a one that is shifted
pub one_shifted : (k m : ℕ) → k < 64 → k ≡ m → has_mark (1 * 2 ^ k % 18446744073709551616) m ≡ true
one_shifted k m few is = own_mark m (1 * 2 ^ k % 18446744073709551616) (ap (λ x. x % 2 ^ 64) (one-mul (2 ^ k)) ∙ mod-eq_of_lt (pow-lt few) ∙ ap (λ j. 2 ^ j) is)

either_mark : (a b k : ℕ) → has_mark a k ≡ true → has_mark (Rattle.std.specs.Int.RustNames.bit_or a b) k ≡ true
either_mark a b k h =
    let one = eqb-true (bit_at a k) 1 h in
    let other = bit_at-lt b k in
    eq-eqb _ 1 (bit_at_or a b k ∙ greatest (bit_at a k) (bit_at b k) one other)
  where
    greatest : (x y : ℕ) → x ≡ 1 → y < 2 → max x y ≡ 1
    greatest x y h lt = omega (arith, h, lt)

pub first_mark : (a b k : ℕ) → has_mark a k ≡ true → has_mark (Rattle.std.specs.Int.RustNames.bit_or a b) k ≡ true
first_mark a b k h = either_mark a b k h

pub second_mark : (a b k : ℕ) → has_mark b k ≡ true → has_mark (Rattle.std.specs.Int.RustNames.bit_or a b) k ≡ true
second_mark a b k h =
    let one = eqb-true (bit_at b k) 1 h in
    let other = bit_at-lt a k in
    eq-eqb _ 1 (bit_at_or a b k ∙ greatest (bit_at a k) (bit_at b k) one other)
  where
    greatest : (x y : ℕ) → y ≡ 1 → x < 2 → max x y ≡ 1
    greatest x y h lt = omega (arith, h, lt)

pub more_marks : (a b : ℕ) (subscriptions : List Subscription) → AskWithin a subscriptions → AskWithin (Rattle.std.specs.Int.RustNames.bit_or a b) subscriptions
more_marks a b [] h = tt
more_marks a b (s ∷ rest) h = ((λ topic is. first_mark a b (mark_of topic) (h.0 topic is)), more_marks a b rest h.1)

pub marks_append : (a : ℕ) (xs ys : List Subscription) → AskWithin a xs → AskWithin a ys → AskWithin a (xs ++ ys)
marks_append a [] ys h g = g
marks_append a (x ∷ xs) ys h g = (h.0, marks_append a xs ys h.1 g)
