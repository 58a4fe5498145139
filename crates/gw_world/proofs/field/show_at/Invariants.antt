-- The views that are there, and those of the clients that are left, are the whole; and each client that is left is named.
use Rattle.std.proofs.Common.{◌≡◌, ◌++◌, true, map}
use Rattle.std.specs.List.{AllByRecursion}
use Rattle.std.specs.Vec.Iter.{into_iter_items}
use Rattle.rep_model.specs.Views.{view, is_named}
use Rattle.gw_node.specs.Parts.{state_of}
use Rattle.gw_world.specs.Field.{shown}
use Rattle.gw_world.proofs.field.show_at.Given as goal

abbrev pub invariant-loop-client : goal.invariant-loop-client
invariant-loop-client g l =
    let S = (state_of g.R.Replica.kept l.node).kept in
    (l.views.items ++ map (λ c. (c, view c S)) (into_iter_items l.client-iterator) ≡ shown S)
    × AllByRecursion (λ c. is_named c S ≡ true) (into_iter_items l.client-iterator)
