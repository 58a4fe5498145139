-- The deltas that an answer brings.
use Rattle.std.specs.Prelude.{List, [], Result, Ok, Err}
use Rattle.std.specs.Option.{option_to_list}
use Rattle.rep_op.specs.declared.op.Op.{Op}
use Rattle.gw_answer.specs.declared.out.Out.{Out}
use Rattle.gw_answer.specs.declared.refusal.Refusal.{Refusal}

-- the delta that an answer reports as made
abbrev pub made_of : Result Out Refusal → List (List Op)
made_of (Ok out) = option_to_list out.made
made_of (Err refusal) = []

-- the deltas that answer a digest
abbrev pub answered_of : Result Out Refusal → List (List Op)
answered_of (Ok out) = out.answer
answered_of (Err refusal) = []
