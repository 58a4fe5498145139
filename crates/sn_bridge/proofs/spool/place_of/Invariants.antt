use Rattle.std.proofs.Common.{◌≡◌}
use Rattle.std.specs.List.{AllWithin}
use Rattle.br_core.specs.declared.item.Item.{Item}
use Rattle.sn_bridge.proofs.spool.place_of.Given as goal

abbrev pub invariant-loop-at : goal.invariant-loop-at
invariant-loop-at l = AllWithin (λ (item : Item). ¬ (item.number ≡ l.number)) l.items 0 l.at
