use Rattle.std.proofs.Common.{◌≡◌, ◌++◌, drop, map}
use Rattle.std.specs.Prelude.{string_bytes}
use Rattle.gw_answer.specs.Answers.{said}
use Rattle.gw_play.specs.Printing.{row_text, row_behind}
use Rattle.gw_play.proofs.printing.print_row.Given as goal

-- the lines so far and those of the answers left are the lines of all
abbrev pub invariant-loop-answer : goal.invariant-loop-answer
invariant-loop-answer l =
    record {
      told : string_bytes l.text ++ row_text l.after (map said (drop l.answer-index l.answers)) ≡ string_bytes l.fn.text ++ row_text l.fn.before (map said l.answers);
      counted : row_behind l.after (map said (drop l.answer-index l.answers)) ≡ row_behind l.fn.before (map said l.answers);
    }
