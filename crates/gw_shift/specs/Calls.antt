-- Calls of a node, as a history and as passes hold them.
use Rattle.std.specs.Prelude.{ℕ, List, Result}
use Rattle.rep_op.specs.declared.op.Op.{Op}
use Rattle.gw_answer.specs.declared.step.Step.{Step}
use Rattle.gw_answer.specs.declared.out.Out.{Out}
use Rattle.gw_answer.specs.declared.refusal.Refusal.{Refusal}

-- a call, with the pass that made it and what the node answered
pub record Call : Type 0 where
  pub place : ℕ
  pub step : Step
  pub answer : Result Out Refusal

-- what a pass holds of a call that it made: its number in the history, the call and the answer
pub record Held : Type 0 where
  pub number : ℕ
  pub step : Step
  pub answer : Result Out Refusal

-- what a pass is: which one of its shift, what the shift began with, and the calls that it made
pub record Holder : Type 0 where
  pub place : ℕ
  pub opening : List (List Op)
  pub calls : List Held
