use Rattle.std.proofs.Common.{◌≡◌, ◌++◌}
use Rattle.std.specs.List.{AllByRecursion}
use Rattle.rep_plain.specs.Entries.{IsWorkedOut}
use Rattle.rep_plain.specs.Tables.{rows_of}
use Rattle.rep_plain.specs.inner.Tables.{groups_of}
use Rattle.rep_plain.proofs.fresh.worked_out.Given as goal

abbrev pub invariant-loop-client : goal.invariant-loop-client
invariant-loop-client l =
    (rows_of l.fresh.items ++ groups_of l.client-iterator ≡ groups_of l.fn.groups.entries)
    × AllByRecursion (λ f. IsWorkedOut f.0 f.1) l.fresh.items
