-- which broker's topic a field's topic is
use Rattle.std.specs.Prelude.{ℕ, ◌+◌, ◌/◌, ◌%◌, ◌<◌, ◌≤◌, nat_lt, ◌==◌, Bool, false, ◌||◌, ◌&&◌, not, if◌then◌else◌, List, [], ◌∷◌, ◌++◌, length, IsTrue, IsFalse}
use Rattle.br_map.specs.declared.fault.PrefixFault.{PrefixFault}
use Rattle.br_map.specs.declared.fault.PrefixFault.TheVariants as faults
use Rattle.br_map.specs.declared.prefix.TheConstants.{MAX_PREFIX}
use Rattle.mq_packet.specs.Text.{has_octet, is_text}
use Rattle.sn_topic.specs.Matching.{begins_with_dollar}

-- whether `+` (43) or `#` (35) is there
abbrev pub has_wildcard_octet : List ℕ → Bool
has_wildcard_octet octets = has_octet 43 octets || has_octet 35 octets

-- the begin of a broker's topics
abbrev pub IsPrefix : List ℕ → Type 0
IsPrefix octets =
    (length octets ≤ MAX_PREFIX) × IsTrue (is_text octets) × IsFalse (has_wildcard_octet octets)
    × IsFalse (begins_with_dollar octets)

-- why octets are none: the first of these
abbrev pub IsPrefixFault : List ℕ → PrefixFault → Type 0
IsPrefixFault octets faults.TooLong = MAX_PREFIX < length octets
IsPrefixFault octets faults.Text = (length octets ≤ MAX_PREFIX) × IsFalse (is_text octets)
IsPrefixFault octets faults.Wildcard =
    (length octets ≤ MAX_PREFIX) × IsTrue (is_text octets) × IsTrue (has_wildcard_octet octets)
IsPrefixFault octets faults.Dollar =
    (length octets ≤ MAX_PREFIX) × IsTrue (is_text octets) × IsFalse (has_wildcard_octet octets)
    × IsTrue (begins_with_dollar octets)
IsPrefixFault octets faults.Memory = IsPrefix octets

-- a hexadecimal digit: `0` is 48, `a` is 97
abbrev pub digit : ℕ → ℕ
digit n = if nat_lt n 10 then n + 48 else n + 87

-- octets as two hexadecimal digits each
abbrev pub hex : List ℕ → List ℕ
hex [] = []
hex (octet ∷ more) = digit (octet / 16) ∷ digit (octet % 16) ∷ hex more

-- whether the first octet is `~` (126)
abbrev pub begins_with_tilde : List ℕ → Bool
begins_with_tilde [] = false
begins_with_tilde (octet ∷ more) = octet == 126

-- whether a name goes to the broker as it is: it is text, and begins neither with `~` nor, without
-- a prefix, with `$`
abbrev pub is_plain : List ℕ → List ℕ → Bool
is_plain prefix name =
    is_text name && not (begins_with_tilde name)
    && not ((length prefix == 0) && begins_with_dollar name)

-- a field's topic as it goes to the broker
abbrev pub broker_name : List ℕ → List ℕ → List ℕ
broker_name prefix name = if is_plain prefix name then name else 126 ∷ hex name

-- the broker's topic of a field's topic
abbrev pub broker_topic : List ℕ → List ℕ → List ℕ
broker_topic prefix name = prefix ++ broker_name prefix name
