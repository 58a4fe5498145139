use Rattle.std.proofs.Common.{◌≡◌, ◌++◌, take}
use Rattle.std.specs.List.{flat_map}
use Rattle.rep_digest.specs.Spelling.{retained_entry_octets}
use Rattle.rep_digest.proofs.write.write_each_topic.Given as goal

abbrev pub invariant-loop-entry : goal.invariant-loop-entry
invariant-loop-entry l = l.out.items ≡ l.fn.out.items ++ flat_map retained_entry_octets (take l.entry-index l.topics)
