use Rattle.std.proofs.Common.{map}
use Rattle.std.specs.Arc.{arc_value}
use Rattle.gw_link.specs.Adding.{is_of_link}
use Rattle.gw_link.specs.inner.Rows.{AllAre}
use Rattle.gw_link.proofs.hearing.row_of.Given as goal

-- all that are in the row are another gateway's
abbrev pub invariant-loop-index : goal.invariant-loop-index
invariant-loop-index g l = AllAre is_of_link (map arc_value l.row.steps.items)
