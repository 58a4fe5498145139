-- What the strings of a packet may hold, MQTT 3.1.1 sections 1.5.3, 3.3.2.1 and 4.7.
use Rattle.std.specs.Prelude.{ℕ, ◌<◌, ◌≤◌, nat_le, ◌==◌, Bool, not, ◌&&◌, List, length, IsFalse}
use Rattle.std.specs.List.{list_any}
use Rattle.std.specs.Str.{IsUtf8, is_utf8}
use Rattle.mq_packet.specs.declared.packet.TheConstants.{MAX_DATA}

-- whether an octet is there
abbrev pub has_octet : ℕ → List ℕ → Bool
has_octet wanted octets = list_any (λ octet. octet == wanted) octets

-- two octets can say how many octets there are (1.5.3)
abbrev pub IsData : List ℕ → Type 0
IsData octets = length octets ≤ MAX_DATA

-- a string: UTF-8 without the octet 0 (1.5.3)
abbrev pub IsText : List ℕ → Type 0
IsText octets = IsData octets × IsUtf8 octets × IsFalse (has_octet 0 octets)

-- the filter of a subscription is a string that is not empty (4.7.3); where it has wildcards is not
-- asked here
abbrev pub IsFilterText : List ℕ → Type 0
IsFilterText octets = IsText octets × (0 < length octets)

-- the name of a topic is such a string, and has neither `+` (43) nor `#` (35) (3.3.2.1)
abbrev pub IsTopicText : List ℕ → Type 0
IsTopicText octets =
    IsFilterText octets × IsFalse (has_octet 43 octets) × IsFalse (has_octet 35 octets)

-- `IsText`, `IsFilterText` and `IsTopicText` as tests
abbrev pub is_text : List ℕ → Bool
is_text octets = nat_le (length octets) MAX_DATA && is_utf8 octets && not (has_octet 0 octets)

abbrev pub is_filter_text : List ℕ → Bool
is_filter_text octets = is_text octets && not (length octets == 0)

abbrev pub is_topic_text : List ℕ → Bool
is_topic_text octets =
    is_filter_text octets && not (has_octet 43 octets) && not (has_octet 35 octets)
