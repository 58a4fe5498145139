use Rattle.std.proofs.Common.{◌≡◌, drop, fold}
use Rattle.br_spool.specs.Finding.{above}
use Rattle.br_spool.proofs.reading.above_all.Given as goal

abbrev pub invariant-loop-op : goal.invariant-loop-op
invariant-loop-op l = fold above l.top (drop l.op-index l.ops) ≡ fold above l.next l.ops
