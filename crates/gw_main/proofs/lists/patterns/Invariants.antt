use Rattle.std.proofs.Common.{◌≡◌, length}
use Rattle.toml.specs.View.{items_view}
use Rattle.gw_main.specs.Reading.{each, pattern_item}
use Rattle.gw_main.proofs.Items.{behind}
use Rattle.gw_main.proofs.lists.patterns.Given as goal

-- what was read, and what is left
abbrev pub invariant-items : goal.invariant-items
invariant-items l = each pattern_item (items_view l.items) ≡ behind l.all.items (each pattern_item (items_view l.left))

abbrev pub decreases-items : goal.decreases-items
decreases-items l = length l.left
