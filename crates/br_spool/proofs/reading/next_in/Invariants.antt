use Rattle.std.proofs.Common.{◌≡◌, drop, fold}
use Rattle.br_spool.specs.Finding.{above_all}
use Rattle.br_spool.proofs.reading.next_in.Given as goal

abbrev pub invariant-loop-delta : goal.invariant-loop-delta
invariant-loop-delta l = fold above_all l.next (drop l.delta-index l.deltas) ≡ fold above_all 0 l.deltas
