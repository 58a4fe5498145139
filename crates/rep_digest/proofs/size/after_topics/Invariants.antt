use Rattle.std.proofs.Common.{◌≡◌, ◌+◌, length, take}
use Rattle.std.specs.List.{flat_map}
use Rattle.rep_digest.specs.Spelling.{retained_entry_octets}
use Rattle.rep_digest.proofs.size.after_topics.Given as goal

abbrev pub invariant-loop-entry : goal.invariant-loop-entry
invariant-loop-entry l = l.left + length (flat_map retained_entry_octets (take l.entry-index l.topics)) ≡ l.room
