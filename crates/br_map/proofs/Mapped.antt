-- what a field's topic becomes
use Rattle.std.proofs.Common.{◌≡◌, ℕ, ◌+◌, ◌*◌, ◌/◌, ◌%◌, ◌<◌, ◌≤◌, ◌==◌, ◌&&◌, not, ltb, Bool, true, false, cond, List, [], ◌∷◌, ◌++◌, length, refl, sym, subst, ◌∙◌, length-append, arith}
use Rattle.std.specs.List.{AllByRecursion}
use Rattle.std.specs.Str.{IsAscii, IsUtf8}
use Rattle.std.proofs.lemmas.Bool.{and_parts, cond_both, ltb-true, ne_eqb, not-true, or_from, or_parts}
use Rattle.std.proofs.lemmas.List.{append_cancel_left}
use Rattle.std.proofs.lemmas.List.Folds.{list_any-append}
use Rattle.std.proofs.lemmas.Str.{IsUtf8-append, IsUtf8-from_ascii}
use Rattle.std.proofs.lemmas.Str.Ascii.{IsAscii-cons, IsAscii-nil}
use Rattle.mq_packet.specs.Text.{IsTopicText, has_octet, is_text}
use Rattle.mq_packet.proofs.Texts.{text_from}
use Rattle.sn_topic.specs.Levels.{has_wildcard, is_wildcard}
use Rattle.sn_topic.specs.Matching.{begins_with_dollar}
use Rattle.sn_topic.specs.Topics.{IsName}
use Rattle.br_map.specs.Mapping.{IsPrefix, begins_with_tilde, broker_name, broker_topic, digit, hex, is_plain}

-- each octet is below 256
abbrev pub AreOctets : List ℕ → Type 0
AreOctets octets = AllByRecursion (λ octet. octet < 256) octets

-- an octet that neither part has is not there
none_append : (wanted : ℕ) (a b : List ℕ) → has_octet wanted a ≡ false → has_octet wanted b ≡ false → has_octet wanted (a ++ b) ≡ false
none_append wanted a b p q = list_any-append (λ octet. octet == wanted) a b ∙ or_from _ _ p q

-- a name has no wildcard
no_wildcards : (name : List ℕ) → has_wildcard name ≡ false → (has_octet 43 name ≡ false) × (has_octet 35 name ≡ false)
no_wildcards [] h = (refl, refl)
no_wildcards (octet ∷ more) h =
    let both = or_parts (is_wildcard octet) (has_wildcard more) h in
    let one = or_parts (octet == 43) (octet == 35) both.0 in
    let others = no_wildcards more both.1 in
    (or_from (octet == 43) (has_octet 43 more) one.0 others.0, or_from (octet == 35) (has_octet 35 more) one.1 others.1)

-- a digit is one of ASCII
digit_above : (n : ℕ) → 48 ≤ digit n
digit_above n = cond_both (ltb n 10) (n + 48) (n + 87) (λ x. 48 ≤ x) (λ e. omega arith) (λ e. omega arith)

digit_below : (n : ℕ) → n < 16 → digit n < 128
digit_below n h = cond_both (ltb n 10) (n + 48) (n + 87) (λ x. x < 128) (λ e. omega arith) (λ e. omega arith)

hex_none : (wanted : ℕ) (octets : List ℕ) → wanted < 48 → has_octet wanted (hex octets) ≡ false
hex_none wanted [] h = refl
hex_none wanted (octet ∷ more) h =
    let high = digit_above (octet / 16) in
    let low = digit_above (octet % 16) in
    or_from (digit (octet / 16) == wanted) _ (ne_eqb (digit (octet / 16)) wanted (λ e. omega arith))
    (or_from (digit (octet % 16) == wanted) (has_octet wanted (hex more)) (ne_eqb (digit (octet % 16)) wanted (λ e. omega arith)) (hex_none wanted more h))

hex_ascii : (octets : List ℕ) → AreOctets octets → IsAscii (hex octets)
hex_ascii [] h = IsAscii-nil
hex_ascii (octet ∷ more) h =
    let fits = h.0 in
    IsAscii-cons (digit (octet / 16)) (digit (octet % 16) ∷ hex more) (digit_below (octet / 16) (omega arith))
    (IsAscii-cons (digit (octet % 16)) (hex more) (digit_below (octet % 16) (omega arith)) (hex_ascii more h.1))

length-hex : (octets : List ℕ) → length (hex octets) ≡ 2 * length octets
length-hex [] = refl
length-hex (octet ∷ more) = let deeper = length-hex more in omega arith

-- what may follow a prefix
record IsRest (octets : List ℕ) : Type 0 where
  utf8 : IsUtf8 octets
  short : length octets ≤ 513
  some : 0 < length octets
  no_nul : has_octet 0 octets ≡ false
  no_plus : has_octet 43 octets ≡ false
  no_hash : has_octet 35 octets ≡ false

rest_topic : (prefix octets : List ℕ) → IsPrefix prefix → IsRest octets → IsTopicText (prefix ++ octets)
rest_topic prefix octets p r =
    let text = text_from prefix p.1 in
    let none = or_parts (has_octet 43 prefix) (has_octet 35 prefix) p.2 in
    let whole = length-append prefix octets in
    let few = p.0 in
    let short = r.short in
    let some = r.some in (
      (((omega arith), IsUtf8-append prefix octets text.1 r.utf8, none_append 0 prefix octets text.2 r.no_nul), omega arith),
      none_append 43 prefix octets none.0 r.no_plus,
      none_append 35 prefix octets none.1 r.no_hash,
    )

name_rest : (test : Bool) (prefix name : List ℕ) → is_plain prefix name ≡ test → IsName name → AreOctets name → IsRest (cond test name (126 ∷ hex name))
name_rest true prefix name h is fits =
    let plain = and_parts (is_text name && not (begins_with_tilde name)) (not ((length prefix == 0) && begins_with_dollar name)) h in
    let first = and_parts (is_text name) (not (begins_with_tilde name)) plain.0 in
    let text = text_from name first.0 in
    let none = no_wildcards name is.1 in
    let most = is.0.1 in
    record { utf8 = text.1; short = omega arith; some = is.0.0; no_nul = text.2; no_plus = none.0; no_hash = none.1 }
name_rest false prefix name h is fits =
    let size = length-hex name in
    let most = is.0.1 in
    record {
      utf8 = IsUtf8-from_ascii (126 ∷ hex name) (IsAscii-cons 126 (hex name) (omega arith) (hex_ascii name fits));
      short = omega arith;
      some = omega arith;
      no_nul = hex_none 0 name (omega arith);
      no_plus = hex_none 43 name (omega arith);
      no_hash = hex_none 35 name (omega arith);
    }

pub topic_mapped : (prefix name : List ℕ) → IsPrefix prefix → IsName name → AreOctets name → IsTopicText (broker_topic prefix name)
topic_mapped prefix name p is fits = rest_topic prefix (broker_name prefix name) p (name_rest (is_plain prefix name) prefix name refl is fits)

-- digits are the same only of the same numbers
digit_same : (s t : Bool) (m n : ℕ) → ltb m 10 ≡ s → ltb n 10 ≡ t → m < 16 → n < 16 → cond s (m + 48) (m + 87) ≡ cond t (n + 48) (n + 87) → m ≡ n
digit_same true true m n p q x y h = omega arith
digit_same true false m n p q x y h = let small = ltb-true m 10 p in absurd (omega arith)
digit_same false true m n p q x y h = let small = ltb-true n 10 q in absurd (omega arith)
digit_same false false m n p q x y h = omega arith

hex_same : (a b : List ℕ) → AreOctets a → AreOctets b → hex a ≡ hex b → a ≡ b
hex_same [] [] p q h = refl
hex_same [] (y ∷ b) p q h = cc
hex_same (x ∷ a) [] p q h = cc
hex_same (x ∷ a) (y ∷ b) p q h =
    let fits = p.0 in
    let also = q.0 in
    let high : digit (x / 16) ≡ digit (y / 16) = cc in
    let low : digit (x % 16) ≡ digit (y % 16) = cc in
    let rest : hex a ≡ hex b = cc in
    let first = digit_same (ltb (x / 16) 10) (ltb (y / 16) 10) (x / 16) (y / 16) refl refl (omega arith) (omega arith) high in
    let second = digit_same (ltb (x % 16) 10) (ltb (y % 16) 10) (x % 16) (y % 16) refl refl (omega arith) (omega arith) low in
    let same : x ≡ y = omega arith in
    let deeper = hex_same a b p.1 q.1 rest in
    cc

-- a name that goes as it is does not begin with `~`
no_tilde : (prefix name rest : List ℕ) → is_plain prefix name ≡ true → name ≡ 126 ∷ rest → ⊥
no_tilde prefix name rest h e =
    let plain = and_parts (is_text name && not (begins_with_tilde name)) (not ((length prefix == 0) && begins_with_dollar name)) h in
    let first = and_parts (is_text name) (not (begins_with_tilde name)) plain.0 in
    let none = not-true (begins_with_tilde name) first.1 in
    let P : List ℕ → Type 0 = λ octets. begins_with_tilde octets ≡ false in
    let wrong : true ≡ false = subst P e none in
    cc

same_name : (s t : Bool) (prefix a b : List ℕ) → is_plain prefix a ≡ s → is_plain prefix b ≡ t → AreOctets a → AreOctets b → cond s a (126 ∷ hex a) ≡ cond t b (126 ∷ hex b) → a ≡ b
same_name true true prefix a b p q x y h = h
same_name true false prefix a b p q x y h = absurd (no_tilde prefix a (hex b) p h)
same_name false true prefix a b p q x y h = absurd (no_tilde prefix b (hex a) q (sym h))
same_name false false prefix a b p q x y h = hex_same a b x y cc

pub mapped_same : (prefix a b : List ℕ) → AreOctets a → AreOctets b → broker_topic prefix a ≡ broker_topic prefix b → a ≡ b
mapped_same prefix a b x y h =
    same_name (is_plain prefix a) (is_plain prefix b) prefix a b refl refl x y (append_cancel_left prefix (broker_name prefix a) (broker_name prefix b) h)
