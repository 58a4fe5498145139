-- What the answers to events say, whoever has a share of them.
use Rattle.std.specs.Prelude.{ℕ, List, map, Result}
use Rattle.rep_op.specs.declared.op.Retained.{Retained}
use Rattle.rep_model.specs.declared.view.ClientView.{ClientView}
use Rattle.gw_answer.specs.declared.out.Out.{Out}
use Rattle.gw_answer.specs.declared.refusal.Refusal.{Refusal}
use Rattle.gw_answer.specs.Answers.{said}
use Rattle.gw_world.specs.declared.event.Answer.{Answer}
use Rattle.gw_world.specs.declared.event.Answer.TheVariants.{Node, Row, Views, Records, Nothing}

-- What an answer says: what a gateway sends, makes and answers, or why it refuses; of calls with
-- one write, that of each. Or it is the clients that a gateway knows, with their views, and its
-- topics with what is retained of them; or how many records it read; or nothing.
pub data Told : Type 0 where
  Said : Result Out Refusal → Told
  AllSaid : List (Result Out Refusal) → Told
  Shown : List (List ℕ × ClientView) → List (List ℕ × Retained) → Told
  Read : ℕ → Told
  Silent : Told

-- an answer by its value, whoever has a share of it
abbrev pub answer_value : Answer → Told
answer_value (Node answer) = Said (said answer)
answer_value (Row answers) = AllSaid (map said answers)
answer_value (Views views topics) = Shown views topics
answer_value (Records count) = Read count
answer_value Nothing = Silent
