-- which octets are topic names and which are filters
use Rattle.std.specs.Prelude.{ℕ, ◌<◌, ◌≤◌, Bool, ◌&&◌, not, nat_lt, nat_le, if◌then◌else◌, List, length, Option, Some, None, IsTrue, IsFalse}
use Rattle.sn_topic.specs.declared.level.TheConstants.{MAX_TOPIC}
use Rattle.sn_topic.specs.Levels.{has_wildcard, levels, wildcards_stand_alone}

-- a topic has 1 to 256 octets
abbrev pub IsTopicSize : List ℕ → Type 0
IsTopicSize octets = (0 < length octets) × (length octets ≤ MAX_TOPIC)

-- a topic name has no wildcard
abbrev pub IsName : List ℕ → Type 0
IsName octets = IsTopicSize octets × IsFalse (has_wildcard octets)

-- a filter has wildcards only as `wildcards_stand_alone` allows
abbrev pub IsFilter : List ℕ → Type 0
IsFilter octets = IsTopicSize octets × IsTrue (wildcards_stand_alone (levels octets))

-- `IsTopicSize` as a test
abbrev pub is_topic_size : List ℕ → Bool
is_topic_size octets = nat_lt 0 (length octets) && nat_le (length octets) MAX_TOPIC

-- `IsName` as a test
abbrev pub is_name : List ℕ → Bool
is_name octets = is_topic_size octets && not (has_wildcard octets)

-- these octets, if they are a topic name
abbrev pub name_asked : List ℕ → Option (List ℕ)
name_asked octets = if is_name octets then Some octets else None

-- `IsFilter` as a test
abbrev pub is_filter : List ℕ → Bool
is_filter octets = is_topic_size octets && wildcards_stand_alone (levels octets)
