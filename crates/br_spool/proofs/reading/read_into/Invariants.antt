use Rattle.std.proofs.Common.{◌≡◌, ◌++◌, take}
use Rattle.std.specs.List.{flat_map}
use Rattle.br_spool.specs.Finding.{read}
use Rattle.br_spool.proofs.reading.read_into.Given as goal

abbrev pub invariant-loop-op : goal.invariant-loop-op
invariant-loop-op l = l.items.items ≡ l.fn.items.items ++ flat_map read (take l.op-index l.ops)
