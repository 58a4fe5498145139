use Rattle.std.proofs.Common.{◌≡◌, ◌++◌, take}
use Rattle.std.specs.List.{flat_map}
use Rattle.rep_digest.specs.Spelling.{origin_octets}
use Rattle.rep_digest.proofs.write.write_each_origin.Given as goal

abbrev pub invariant-loop-origin : goal.invariant-loop-origin
invariant-loop-origin l = l.out.items ≡ l.fn.out.items ++ flat_map origin_octets (take l.origin-index l.origins)
