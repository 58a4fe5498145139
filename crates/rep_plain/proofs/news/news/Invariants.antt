use Rattle.std.proofs.Common.{◌≡◌, ◌++◌, drop, filter, not}
use Rattle.rep_model.specs.Taking.{AllAgree}
use Rattle.rep_shared.specs.Rows.{flat}
use Rattle.rep_plain.specs.Tables.{rows_of}
use Rattle.rep_plain.specs.inner.Tables.{is_op_there}
use Rattle.rep_plain.proofs.news.news.Given as goal

abbrev pub invariant-loop-op : goal.invariant-loop-op
invariant-loop-op l =
    (l.news.items ++ filter (λ op. not (is_op_there (flat (rows_of l.table.entries)) op)) (drop l.op-index l.delta) ≡ filter (λ op. not (is_op_there (flat (rows_of l.table.entries)) op)) l.delta)
    × (AllAgree (flat (rows_of l.table.entries)) (drop l.op-index l.delta) → AllAgree (flat (rows_of l.table.entries)) l.delta)
