use Rattle.std.proofs.Common.{◌≡◌, drop}
use Rattle.sn_tables.specs.Topics.{topic_named}
use Rattle.sn_tables.proofs.topics.entry_named.Given as goal

-- none of the entries so far has the name
abbrev pub invariant-loop-entry : goal.invariant-loop-entry
invariant-loop-entry l = topic_named l.name (drop l.entry-index l.entries) ≡ topic_named l.name l.entries
