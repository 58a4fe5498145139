use Rattle.std.proofs.Common.{◌≡◌, ◌++◌, take}
use Rattle.rep_retain.specs.Tables.{ops_of}
use Rattle.rep_retain.proofs.table.push_ops.Given as goal

abbrev pub invariant-loop-topic : goal.invariant-loop-topic
invariant-loop-topic l = l.ops.items ≡ l.fn.ops.items ++ ops_of (take l.topic-index l.entries)
