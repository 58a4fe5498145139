-- The records so far stand at their places, and those that are left stand in what is left.
use Rattle.std.proofs.Common.{◌≡◌, ◌-◌, ◌≤◌, length, take, drop}
use Rattle.jr_read.specs.Places.{ArePlaced}
use Rattle.jr_read.proofs.Standing.{AreAll}
use Rattle.jr_read.proofs.places.places_of.Given as goal

abbrev pub invariant-loop-delta : goal.invariant-loop-delta
invariant-loop-delta l = record {
  placed : ArePlaced l.slot l.places.items (take l._delta-index l.deltas);
  inside : length l.left ≤ length l.slot;
  place : l.left ≡ drop (length l.slot - length l.left) l.slot;
  all : AreAll l.left (drop l._delta-index l.deltas);
}
