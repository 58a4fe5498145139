-- The clients of a gateway at a glance.
use Rattle.std.specs.Prelude.{ℕ, List}
use Rattle.jr_disk.specs.declared.disk.Disk.{Ghosts}
use Rattle.rep_model.specs.Views.{clients}
use Rattle.sn_local.specs.Seen.{seen_of}
use Rattle.gw_report.specs.declared.glimpse.Glimpse.{Glimpse}
use Rattle.gw_glance.specs.Glancing.{glimpses}
use Rattle.gw_node.specs.Parts.{State}

-- those of its clients at a glance whose ids are above these octets, in ascending order
abbrev pub glimpses_of : {D : Type 0} {G : Ghosts D} → State G → List ℕ → List Glimpse
glimpses_of state above =
    glimpses state.config.gateway (seen_of state.kept) state.local above (clients state.kept)
