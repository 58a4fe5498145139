use Rattle.std.proofs.Common.{◌≡◌, ◌++◌, length}
use Rattle.std.specs.List.{flat_map, AllByRecursion}
use Rattle.gw_net.specs.Messages.{message_spelling, IsLinkMessage}
use Rattle.gw_net.proofs.stream.read_messages.Given as goal

abbrev pub invariant-reading : goal.invariant-reading
invariant-reading l = record {
  all : AllByRecursion IsLinkMessage l.messages.items;
  parts : l.bytes ≡ flat_map message_spelling l.messages.items ++ l.rest;
}

abbrev pub decreases-reading : goal.decreases-reading
decreases-reading l = length l.rest
