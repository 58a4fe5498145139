use Rattle.std.proofs.Common.{false, length, ◌-◌, ◌≤◌}
use Rattle.jr_journal.specs.Records.{found}
use Rattle.jr_journal.proofs.Loop.{IsSoFar}
use Rattle.jr_journal.proofs.piece.read_pieces.Given as goal

abbrev pub invariant-reading : goal.invariant-reading
invariant-reading l = record {
  inside : length l.left ≤ length l.bytes;
  so_far : IsSoFar (found 0 false l.bytes) l.deltas l.sealed (length l.bytes - length l.left) l.left;
}

abbrev pub decreases-reading : goal.decreases-reading
decreases-reading l = length l.left
