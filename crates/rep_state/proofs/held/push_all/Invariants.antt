use Rattle.std.proofs.Common.{◌≡◌, ◌++◌, drop}
use Rattle.rep_state.specs.Tables.{by_client, rows_of}
use Rattle.rep_state.specs.inner.Tables.{own_of_all}
use Rattle.rep_state.proofs.held.push_all.Given as goal

abbrev pub invariant-loop-client : goal.invariant-loop-client
invariant-loop-client l =
    l.kept.items ++ own_of_all (drop l.client-index l.clients) (rows_of (by_client l.table.entries))
    ≡ l.fn.kept.items ++ own_of_all l.clients (rows_of (by_client l.table.entries))
