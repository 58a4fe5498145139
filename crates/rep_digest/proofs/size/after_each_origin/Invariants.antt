use Rattle.std.proofs.Common.{◌≡◌, ◌+◌, length, take}
use Rattle.std.specs.List.{flat_map}
use Rattle.rep_digest.specs.Spelling.{origin_octets}
use Rattle.rep_digest.proofs.size.after_each_origin.Given as goal

abbrev pub invariant-loop-origin : goal.invariant-loop-origin
invariant-loop-origin l = l.left + length (flat_map origin_octets (take l.origin-index l.origins)) ≡ l.room
