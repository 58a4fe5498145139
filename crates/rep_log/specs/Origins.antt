-- The acknowledged numbers of a client's messages, by origin.
use Rattle.std.specs.Prelude.{ℕ, ◌≤◌, List, [], ◌∷◌, ◌++◌, map, Option, Some, None, T, Vec}
use Rattle.std.specs.Global.{Global}
use Rattle.std.specs.Ordering.{nat_cmp}
use Rattle.std.specs.List.{AllByRecursion}
use Rattle.std.specs.FinMap.{find, is_sorted}
use Rattle.rep_model.specs.Ranges.{AreApartFrom}
use Rattle.rep_model.specs.Limits.{above_a_gap, sum_to}
use Rattle.rep_shared.specs.Rows.{or_nothing}
use Rattle.rep_log.specs.Mail.{Range}

-- the ranges of each origin, out of the map that holds them
abbrev pub origins_of : List (ℕ × Vec (ℕ × ℕ) Global) → List (ℕ × List (ℕ × ℕ))
origins_of entries = map (λ e. (e.0, e.1.items)) entries

-- the ranges of one origin
abbrev pub ranges_of_origin : ℕ → List (ℕ × List (ℕ × ℕ)) → List (ℕ × ℕ)
ranges_of_origin origin origins = or_nothing (find nat_cmp origin origins)

-- all ranges, each with its origin
abbrev pub ranges_in : List (ℕ × List (ℕ × ℕ)) → List Range
ranges_in [] = []
ranges_in (o ∷ origins) = map (λ r. (o.0, r)) o.1 ++ ranges_in origins

-- origins and sequence numbers begin at 1; ranges ascend and do not touch
abbrev pub IsOrigin : ℕ → List (ℕ × ℕ) → Type 0
IsOrigin origin ranges = (1 ≤ origin) × AreApartFrom 1 ranges

-- the acknowledged ranges of origins that ascend
pub record AreOrigins (origins : List (ℕ × List (ℕ × ℕ))) : Type 0 where
  pub sorted : T (is_sorted nat_cmp origins)
  pub apart : AllByRecursion (λ o. IsOrigin o.0 o.1) origins

-- the acknowledgements above a gap, of the origins 1 to n
unfoldable pub origins_above_gaps : List (ℕ × List (ℕ × ℕ)) → ℕ → ℕ
origins_above_gaps origins n = sum_to (λ origin. above_a_gap (ranges_of_origin origin origins)) n

-- the ranges of each origin once others are in their place; none leaves them as they are
abbrev pub origins_after : List (ℕ × List (ℕ × ℕ)) → Option (List (ℕ × List (ℕ × ℕ)))
    → List (ℕ × List (ℕ × ℕ))
origins_after origins None = origins
origins_after origins (Some more) = more

-- all ranges once others are in their place; none leaves them as they are
abbrev pub ranges_on : List Range → Option (List (ℕ × List (ℕ × ℕ))) → List Range
ranges_on ranges None = ranges
ranges_on ranges (Some origins) = ranges_in origins
