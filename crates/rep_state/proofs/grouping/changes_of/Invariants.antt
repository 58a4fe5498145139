use Rattle.std.proofs.Common.{◌≡◌, ◌++◌}
use Rattle.std.specs.List.{AllByRecursion}
use Rattle.std.specs.Vec.Iter.{into_iter_items}
use Rattle.rep_entry.specs.Entries.{IsFresh}
use Rattle.rep_state.specs.Tables.{by_client, rows_of}
use Rattle.rep_state.specs.inner.Groups.{held_of, fresh_rows}
use Rattle.rep_entry.specs.Staging.{staged_of}
use Rattle.rep_state.specs.inner.Staging.{future, AreChangesWorkedOut}
use Rattle.rep_state.proofs.grouping.changes_of.Given as goal

abbrev pub invariant-loop-client : goal.invariant-loop-client
invariant-loop-client l =
    (rows_of (future (by_client l.table.entries) (staged_of l.made.items)) ++ fresh_rows (by_client l.table.entries) (into_iter_items l.client-iterator) ≡ fresh_rows (by_client l.table.entries) l.fn.groups.items)
    × AreChangesWorkedOut (by_client l.table.entries) (staged_of l.made.items)
    × AllByRecursion (λ g. IsFresh g.0 (held_of g.0 (by_client l.table.entries)) g.1) (into_iter_items l.client-iterator)
