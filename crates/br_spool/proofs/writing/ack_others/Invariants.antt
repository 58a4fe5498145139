use Rattle.std.proofs.Common.{◌≡◌, ◌-◌, ◌++◌, map}
use Rattle.br_spool.specs.Messages.{number_ack, others_from}
use Rattle.br_spool.proofs.writing.ack_others.Given as goal

abbrev pub invariant-loop-number : goal.invariant-loop-number
invariant-loop-number l =
    l.ops.items ++ map number_ack (others_from l.number (l.below - l.number) l.items)
    ≡ l.fn.ops.items ++ map number_ack (others_from l.from (l.below - l.from) l.items)
