use Rattle.std.proofs.Common.{◌≡◌, take}
use Rattle.rep_retain.proofs.table.copy_all.Given as goal

abbrev pub invariant-loop-topic : goal.invariant-loop-topic
invariant-loop-topic l = l.made.items ≡ take l.topic-index l.entries
