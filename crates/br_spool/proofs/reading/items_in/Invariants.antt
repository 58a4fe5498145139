use Rattle.std.proofs.Common.{◌≡◌, take}
use Rattle.std.specs.List.{flat_map}
use Rattle.rep_ops.specs.Splitting.{all_of}
use Rattle.br_spool.specs.Finding.{read}
use Rattle.br_spool.proofs.reading.items_in.Given as goal

abbrev pub invariant-loop-delta : goal.invariant-loop-delta
invariant-loop-delta l = l.items.items ≡ flat_map read (all_of (take l.delta-index l.deltas))
