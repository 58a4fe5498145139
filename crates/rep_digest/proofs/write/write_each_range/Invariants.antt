use Rattle.std.proofs.Common.{◌≡◌, ◌++◌, take}
use Rattle.std.specs.List.{flat_map}
use Rattle.rep_digest.specs.Spelling.{range_octets}
use Rattle.rep_digest.proofs.write.write_each_range.Given as goal

abbrev pub invariant-loop-range : goal.invariant-loop-range
invariant-loop-range l = l.out.items ≡ l.fn.out.items ++ flat_map range_octets (take l.range-index l.ranges)
