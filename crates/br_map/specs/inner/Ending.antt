-- where one of two filters ends
use Rattle.std.specs.Prelude.{ℕ, Bool, ◌||◌, ◌&&◌, List, Option, Some, None}
use Rattle.sn_topic.specs.Levels.{is_hash}
use Rattle.br_map.specs.Apart.{levels_meet}

-- the last level of a filter against what the other one has from there on: a level, and maybe more
-- after a slash
abbrev pub last_overlaps : List ℕ → List ℕ → Option (List ℕ) → Bool
last_overlaps last level None = is_hash last || is_hash level || levels_meet last level
last_overlaps last level (Some rest) = is_hash last || (levels_meet last level && is_hash rest)
