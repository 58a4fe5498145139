use Rattle.std.proofs.Common.{◌≡◌, ◌++◌, map, take}
use Rattle.br_spool.specs.Messages.{number_ack}
use Rattle.br_spool.proofs.writing.ack_all.Given as goal

abbrev pub invariant-loop-number : goal.invariant-loop-number
invariant-loop-number l = l.ops.items ≡ l.fn.ops.items ++ map number_ack (take l.number-index l.numbers)
