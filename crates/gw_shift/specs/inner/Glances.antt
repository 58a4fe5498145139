-- How many messages of a gateway a set knows, for some clients.
use Rattle.std.specs.Prelude.{ℕ, List, [], ◌∷◌}
use Rattle.rep_op.specs.declared.op.Op.{Op}
use Rattle.gw_report.specs.declared.glimpse.Glimpse.{Glimpse}
use Rattle.gw_glance.specs.Knowing.{messages_known}

-- for each of these clients, how many messages of a gateway this set knows
abbrev pub all_known : List Op → ℕ → List Glimpse → List ℕ
all_known S origin [] = []
all_known S origin (one ∷ rest) =
    messages_known one.client origin S ∷ all_known S origin rest
