-- What was taken so far, and room for as many as the queue holds.
use Rattle.std.proofs.Common.{◌≡◌, ◌≤◌, ◌+◌, [], true, All, length, map, vec_len, vec_capacity}
use Rattle.std.specs.Arc.{arc_value}
use Rattle.crossbeam_channel.specs.Claims.{view, IsSeatAt}
use Rattle.crossbeam_channel.specs.Ends.{receives_on}
use Rattle.gw_answer.specs.declared.step.Step.{Step}
use Rattle.gw_serve.specs.declared.queue.TheConstants.{CAPACITY}
use Rattle.gw_serve.specs.Serving.{is_frame}
use Rattle.gw_serve.specs.inner.Rows.{TakesNumbers}
use Rattle.gw_serve.proofs.row.take_row.Given as goal

abbrev pub invariant-loop-count : goal.invariant-loop-count
invariant-loop-count g l = record {
  channel : IsSeatAt (receives_on l.receiver) l.ticket;
  taken : TakesNumbers (view l.fn.ticket) l.row.numbers.items (view l.ticket);
  frames : All (λ (step : Step). is_frame step ≡ true) (map arc_value l.row.steps.items);
  many : length l.row.numbers.items ≤ l.count;
  same : length l.row.steps.items ≡ length l.row.numbers.items;
  called : (l.row.called.items ≡ []) × (CAPACITY ≤ vec_capacity l.row.called);
  numbers_room : CAPACITY ≤ vec_capacity l.row.numbers;
  steps_room : CAPACITY ≤ vec_capacity l.row.steps;
}
