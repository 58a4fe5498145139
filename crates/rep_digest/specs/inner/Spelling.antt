-- The one spelling of a digest as octets. Numbers have the most significant octet first.
use Rattle.std.specs.Prelude.{◌≡◌, ℕ, ◌+◌, ◌^◌, ◌<◌, List, [], ◌∷◌, length, Option, MatchOption}
use Rattle.std.specs.List.{AllByRecursion}
use Rattle.rep_digest.specs.declared.entry.OriginEntry.{OriginEntry}
use Rattle.rep_digest.specs.declared.entry.ClientEntry.{ClientEntry}
use Rattle.rep_digest.specs.declared.entry.RetainedEntry.{RetainedEntry}
use Rattle.rep_digest.specs.Spelling.{topics_octets}

-- counts that fit their octets: ranges four, origins two
abbrev pub HaveFewRanges : OriginEntry → Type 0
HaveFewRanges o = (length o.acknowledged < 2 ^ 32) × (length o.waiting < 2 ^ 32)

-- the counts of an entry fit the octets that they are written in
pub record IsEntryWritable (e : ClientEntry) : Type 0 where
  pub origins : length e.origins < 2 ^ 16
  pub ranges : AllByRecursion HaveFewRanges e.origins

-- what is left of a number of octets after so many; nothing if they do not fit
abbrev pub LeavesRoom : ℕ → ℕ → Option ℕ → Type 0
LeavesRoom octets room result = MatchOption result (room < octets) (λ rest. rest + octets ≡ room)

-- how many octets there are of topics
abbrev pub some_topics : List RetainedEntry → ℕ
some_topics [] = 0
some_topics (e ∷ rest) = length (topics_octets (e ∷ rest))
