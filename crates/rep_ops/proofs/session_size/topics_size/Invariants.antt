use Rattle.std.proofs.Common.{◌≡◌, ◌≤◌, ◌+◌, ◌*◌, length, take}
use Rattle.std.specs.List.{flat_map}
use Rattle.rep_op.specs.Sessions.{topic_octets}
use Rattle.rep_ops.proofs.session_size.topics_size.Given as goal

abbrev pub invariant-loop-entry : goal.invariant-loop-entry
invariant-loop-entry l = record {
  size : l.size ≡ 2 + length (flat_map topic_octets (take l.entry-index l.entry-items));
  small : l.size ≤ 2 + 261 * l.entry-index;
}
