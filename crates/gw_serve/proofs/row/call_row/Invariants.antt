-- What was called so far, and what is left.
use Rattle.std.proofs.Common.{◌≡◌, ◌+◌, ◌≤◌, true, All, drop, length, map, take, vec_len, vec_capacity}
use Rattle.std.specs.Arc.{arc_value}
use Rattle.gw_answer.specs.declared.step.Step.{Step}
use Rattle.gw_serve.specs.declared.row.Called.{Called}
use Rattle.gw_serve.specs.Serving.{is_frame, Gains}
use Rattle.gw_serve.proofs.row.call_row.Given as goal

abbrev pub invariant-calls : goal.invariant-calls
invariant-calls g l = record {
  datagrams : map (λ (c : Called). c.taken.datagram) l.called.items ≡ take (length l.called.items) l.numbers.items;
  gains : Gains l.fn.pass (map (λ (c : Called). c.taken.step) l.called.items) l.pass;
  frames : All (λ (step : Step). is_frame step ≡ true) (map arc_value l.left);
  left : vec_len l.called + length l.left ≡ length l.numbers.items;
  room : vec_len l.called + length l.left ≤ vec_capacity l.called;
}

abbrev pub decreases-calls : goal.decreases-calls
decreases-calls g l = length l.left
