-- the tests of strings, and what they mean
use Rattle.std.proofs.Common.{◌≡◌, ℕ, ◌==◌, ◌&&◌, not, ◌↔◌, IsTrue, true, leb, List, length, arith}
use Rattle.std.specs.Str.{is_utf8}
use Rattle.std.proofs.lemmas.Bool.{and_parts, and_from, leb-true, le-leb, eqb-false, ne_eqb, not-true, not_from_false}
use Rattle.std.proofs.lemmas.Str.{IsUtf8-from_is_utf8, is_utf8-from_IsUtf8}
use Rattle.mq_packet.specs.Text.{IsFilterText, IsText, IsTopicText, has_octet, is_filter_text, is_text, is_topic_text}

pub text_from : (octets : List ℕ) → is_text octets ≡ true → IsText octets
text_from octets h =
    let both = and_parts (leb (length octets) 65535 && is_utf8 octets) (not (has_octet 0 octets)) h in
    let first = and_parts (leb (length octets) 65535) (is_utf8 octets) both.0 in
    (leb-true _ _ first.0, IsUtf8-from_is_utf8 octets first.1, not-true _ both.1)

pub text_to : (octets : List ℕ) → IsText octets → is_text octets ≡ true
text_to octets h =
    and_from _ _ (and_from _ _ (le-leb _ _ h.0) (is_utf8-from_IsUtf8 octets h.1)) (not_from_false _ h.2)

pub filter_from : (octets : List ℕ) → is_filter_text octets ≡ true → IsFilterText octets
filter_from octets h =
    let both = and_parts (is_text octets) (not (length octets == 0)) h in
    let some = eqb-false (length octets) 0 (not-true _ both.1) in
    (text_from octets both.0, omega arith)

pub filter_to : (octets : List ℕ) → IsFilterText octets → is_filter_text octets ≡ true
filter_to octets h =
    let some = h.1 in
    and_from _ _ (text_to octets h.0) (not_from_false _ (ne_eqb (length octets) 0 (λ e. omega arith)))

pub topic_from : (octets : List ℕ) → is_topic_text octets ≡ true → IsTopicText octets
topic_from octets h =
    let both = and_parts (is_filter_text octets && not (has_octet 43 octets)) (not (has_octet 35 octets)) h in
    let first = and_parts (is_filter_text octets) (not (has_octet 43 octets)) both.0 in
    (filter_from octets first.0, not-true _ first.1, not-true _ both.1)

pub topic_to : (octets : List ℕ) → IsTopicText octets → is_topic_text octets ≡ true
topic_to octets h =
    and_from _ _ (and_from _ _ (filter_to octets h.0) (not_from_false _ h.1)) (not_from_false _ h.2)

-- both ways
pub text_decides : (octets : List ℕ) → IsTrue (is_text octets) ↔ IsText octets
text_decides octets = (text_from octets, text_to octets)

pub filter_decides : (octets : List ℕ) → IsTrue (is_filter_text octets) ↔ IsFilterText octets
filter_decides octets = (filter_from octets, filter_to octets)

pub topic_decides : (octets : List ℕ) → IsTrue (is_topic_text octets) ↔ IsTopicText octets
topic_decides octets = (topic_from octets, topic_to octets)
