use Rattle.std.proofs.Common.{◌≡◌, ◌++◌, drop}
use Rattle.std.specs.Prelude.{string_bytes}
use Rattle.gw_play.specs.Printing.{answers_text}
use Rattle.gw_play.proofs.printing.print_answers.Given as goal

-- the text so far and that of the answers left are the text of all
abbrev pub invariant-loop-answer : goal.invariant-loop-answer
invariant-loop-answer l = string_bytes l.text ++ answers_text l.deltas (drop l.answer-index l.answers) ≡ answers_text 0 l.answers
