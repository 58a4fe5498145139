-- What the answers so far tell of has joined the list.
use Rattle.std.proofs.Common.{map, take}
use Rattle.gw_answer.specs.Answers.{said}
use Rattle.gw_world.specs.Whole.{made_of_all}
use Rattle.gw_world.specs.inner.Events.{Join}
use Rattle.gw_world.proofs.running.record_row.Given as goal

abbrev pub invariant-loop-answer : goal.invariant-loop-answer
invariant-loop-answer l = Join l.fn.deltas.items (made_of_all (map said (take l.answer-index l.answers))) l.deltas.items
