use Rattle.std.proofs.Common.{drop}
use Rattle.rep_model.specs.Taking.{AllAgree}
use Rattle.rep_shared.specs.Rows.{flat}
use Rattle.rep_state.specs.Tables.{by_client, rows_of}
use Rattle.rep_state.proofs.agreeing.check.Given as goal

abbrev pub invariant-loop-op : goal.invariant-loop-op
invariant-loop-op l = AllAgree (flat (rows_of (by_client l.table.entries))) (drop l.op-index l.delta) → AllAgree (flat (rows_of (by_client l.table.entries))) l.delta
