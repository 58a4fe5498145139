use Rattle.std.proofs.Common.{◌≡◌, ◌++◌, take, flat_map}
use Rattle.std.specs.Prelude.{string_bytes}
use Rattle.gw_play.specs.Printing.{retained_line}
use Rattle.gw_play.proofs.printing.print_topics.Given as goal

-- a line for each so far
abbrev pub invariant-loop-topic : goal.invariant-loop-topic
invariant-loop-topic l = string_bytes l.text ≡ string_bytes l.fn.text ++ flat_map retained_line (take l.topic-index l.topics)
