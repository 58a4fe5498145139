-- The clients above an id at a glance.
use Rattle.std.specs.Prelude.{ℕ, Bool, List, [], ◌∷◌, if◌then◌else◌}
use Rattle.std.specs.Ordering.{is_lt}
use Rattle.rep_op.specs.Orders.{client_cmp}
use Rattle.sn_local.specs.Locals.{Local}
use Rattle.sn_local.specs.Seen.{Seen}
use Rattle.gw_report.specs.declared.glimpse.Glimpse.{Glimpse}
use Rattle.gw_glance.specs.Glimpses.{glimpse_of}

-- whether a client's id is above these octets; each is above none
abbrev pub is_above : List ℕ → List ℕ → Bool
is_above above c = is_lt (client_cmp above c)

-- those of the clients at a glance whose ids are above these octets, in their order
abbrev pub glimpses : ℕ → Seen → Local → List ℕ → List (List ℕ) → List Glimpse
glimpses g seen local above [] = []
glimpses g seen local above (c ∷ rest) =
    if is_above above c then glimpse_of g local c (seen.of c) ∷ glimpses g seen local above rest
    else glimpses g seen local above rest
