use Rattle.std.proofs.Common.{drop}
use Rattle.rep_model.specs.Taking.{AllAgree}
use Rattle.rep_retain.specs.Tables.{ops_of}
use Rattle.rep_retain.proofs.table.check_all.Given as goal

abbrev pub invariant-loop-op : goal.invariant-loop-op
invariant-loop-op l = AllAgree (ops_of l.entries) (drop l.op-index l.ops) → AllAgree (ops_of l.entries) l.ops
