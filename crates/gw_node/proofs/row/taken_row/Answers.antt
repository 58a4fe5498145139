use Rattle.std.proofs.Common.{◌++◌, Err, Ok, map, refl, ap, ◌∙◌, rules}
use Rattle.std.specs.Arc.{arc_value}
use Rattle.gw_answer.specs.Answers.{only_sends}
use Rattle.gw_answer.specs.declared.refusal.Refusal.TheVariants as refusals
use Rattle.gw_answer.specs.declared.step.Step.TheVariants as steps
use Rattle.gw_event.specs.Together.{put_by}
use Rattle.gw_node.specs.Parts.{state_of}
use Rattle.gw_node.proofs.Unwritten.{take_told, some_operations, nothing_done}
use Rattle.gw_node.proofs.Finishing.{by_itself, began}
use Rattle.gw_node.proofs.row.taken_row.Goals as goal

-- ---- it has no operations or too many, or there is no memory for a row

pub returns-then-is_empty : goal.returns-then-is_empty
returns-then-is_empty g c =
    by_itself (state_of g.R.Replica.kept c.args.node.now) (state_of g.R.Replica.kept c.write_and_take.new.node) (steps.Take c.args.delta.now) (map arc_value c.args.rest.now) c.alone.result.items c.write_and_take.result c.alone.ensures c.write_and_take.ensures

pub returns-in_default : goal.returns-in_default
returns-in_default g c =
    by_itself (state_of g.R.Replica.kept c.args.node.now) (state_of g.R.Replica.kept c.write_and_take-in_default.new.node) (steps.Take c.args.delta.now) (map arc_value c.args.rest.now) c.alone-in_default.result.items c.write_and_take-in_default.result
    c.alone-in_default.ensures c.write_and_take-in_default.ensures

pub returns-in_default-new : goal.returns-in_default-new
returns-in_default-new g c =
    let old = state_of g.R.Replica.kept c.args.node.now in
    by_itself old old (steps.Take c.args.delta.now) (map arc_value c.args.rest.now) c.alone-in_default-new.result.items (Err refusals.Memory) c.alone-in_default-new.ensures (nothing_done old)

-- ---- it is refused, or begins a row

pub returns-in-Err : goal.returns-in-Err
returns-in-Err g c =
    let old = state_of g.R.Replica.kept c.args.node.now in
    let new = state_of g.R.Replica.kept c.take_ahead.new.node in
    by_itself old new (steps.Take c.args.delta.now) (map arc_value c.args.rest.now) c.alone-in-Err.result.items (Err c.in-Err.refusal) c.alone-in-Err.ensures
    (take_told old new c.args.delta.now (Err c.in-Err.refusal) c.requires.runs c.in-Err.ensures.call refl)

pub returns-in-Ok-take_ahead : goal.returns-in-Ok-take_ahead
returns-in-Ok-take_ahead g c =
    let old = state_of g.R.Replica.kept c.args.node.now in
    let mid = state_of g.R.Replica.kept c.take_ahead.new.node in
    let new = state_of g.R.Replica.kept c.finish.new.node in
    began old mid new (steps.Take c.args.delta.now) (map arc_value c.args.rest.now) c.finish.result.items (g.R.Replica.back c.take_ahead.new.node.replica c.take_ahead.new.aside) c.in-Ok.row.dialogs.local c.take_ahead.new.records c.in-Ok-new.nothing c.in-Ok-take_ahead.answer
    c.requires.runs
    (some_operations c.args.delta.now (search rules), c.in-Ok-take_ahead.ensures.call.0, c.in-Ok-new.ensures ∙ c.of_sends.ensures ∙ ap only_sends c.empty.ensures, c.in-Ok-take_ahead.ensures.call.1)
    (c.take_ahead.ensures.back ∙ c.in-Ok.ensures.back) c.in-Ok.ensures.local
    (c.in-Ok-take_ahead.ensures.records ∙ ap (λ ds. ds ++ put_by (steps.Take c.args.delta.now) (Ok c.in-Ok-take_ahead.answer)) c.in-Ok.ensures.records)
    c.finish.ensures
