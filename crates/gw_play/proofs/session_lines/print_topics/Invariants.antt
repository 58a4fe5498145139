use Rattle.std.proofs.Common.{◌≡◌, ◌++◌, take, flat_map}
use Rattle.std.specs.Prelude.{string_bytes}
use Rattle.gw_play.specs.Sessions.{topic_line}
use Rattle.gw_play.proofs.session_lines.print_topics.Given as goal

-- a line for each so far
abbrev pub invariant-loop-entry : goal.invariant-loop-entry
invariant-loop-entry l = string_bytes l.text ≡ string_bytes l.fn.text ++ flat_map topic_line (take l.entry-index l.topics)
