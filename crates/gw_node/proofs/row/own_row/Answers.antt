use Rattle.std.proofs.Common.{◌++◌, Err, Ok, map, ap, ◌∙◌}
use Rattle.std.specs.Arc.{arc_value}
use Rattle.gw_answer.specs.declared.refusal.Refusal.TheVariants as refusals
use Rattle.gw_node.specs.Parts.{state_of}
use Rattle.gw_node.specs.inner.Ahead.{made_in}
use Rattle.gw_node.proofs.Unwritten.{writer_some, writer_sends, writer_alone, writer_puts, writer_begins, writer_carried, told_alone, refused_puts, writer_wanting}
use Rattle.gw_node.proofs.Finishing.{by_itself, began}
use Rattle.gw_node.proofs.row.own_row.Goals as goal

-- ---- it has too many operations, or there is no memory for a row

pub write_and_apply-requires-clause-some : goal.write_and_apply-requires-clause-some
write_and_apply-requires-clause-some g c = writer_some (state_of g.R.Replica.kept c.args.node.now) c.args.calls.first.now c.args.plan c.args.excuse c.requires.writer

pub write_and_apply-requires-clause-excuse : goal.write_and_apply-requires-clause-excuse
write_and_apply-requires-clause-excuse g c = writer_sends (state_of g.R.Replica.kept c.args.node.now) c.args.calls.first.now c.args.plan c.args.excuse c.requires.writer

pub returns-then-calls-len : goal.returns-then-calls-len
returns-then-calls-len g c =
    let old = state_of g.R.Replica.kept c.args.node.now in
    let new = state_of g.R.Replica.kept c.write_and_apply.new.node in
    by_itself old new c.args.calls.first.now (map arc_value c.args.calls.rest.now) c.alone.result.items c.write_and_apply.result c.alone.ensures
    (writer_alone old new c.args.calls.first.now c.args.plan c.args.excuse c.write_and_apply.result c.requires.runs c.requires.writer c.write_and_apply.ensures)

pub write_and_apply-requires-in_default-clause-some : goal.write_and_apply-requires-in_default-clause-some
write_and_apply-requires-in_default-clause-some g c = writer_some (state_of g.R.Replica.kept c.args.node.now) c.args.calls.first.now c.args.plan c.args.excuse c.requires.writer

pub write_and_apply-requires-in_default-clause-excuse : goal.write_and_apply-requires-in_default-clause-excuse
write_and_apply-requires-in_default-clause-excuse g c = writer_sends (state_of g.R.Replica.kept c.args.node.now) c.args.calls.first.now c.args.plan c.args.excuse c.requires.writer

pub returns-in_default : goal.returns-in_default
returns-in_default g c =
    let old = state_of g.R.Replica.kept c.args.node.now in
    let new = state_of g.R.Replica.kept c.write_and_apply-in_default.new.node in
    by_itself old new c.args.calls.first.now (map arc_value c.args.calls.rest.now) c.alone-in_default.result.items c.write_and_apply-in_default.result c.alone-in_default.ensures
    (writer_alone old new c.args.calls.first.now c.args.plan c.args.excuse c.write_and_apply-in_default.result c.requires.runs c.requires.writer c.write_and_apply-in_default.ensures)

-- ---- there is no memory for its excuse

pub returns-in_default-new : goal.returns-in_default-new
returns-in_default-new g c =
    let old = state_of g.R.Replica.kept c.args.node.now in
    by_itself old old c.args.calls.first.now (map arc_value c.args.calls.rest.now) c.alone-in_default-new.result.items (Err refusals.Memory) c.alone-in_default-new.ensures
    (writer_wanting old c.args.calls.first.now c.args.plan c.args.excuse c.requires.writer)

-- ---- it is refused, or begins a row

pub carry_ahead-requires-clause-some : goal.carry_ahead-requires-clause-some
carry_ahead-requires-clause-some g c = writer_some (state_of g.R.Replica.kept c.args.node.now) c.args.calls.first.now c.args.plan c.args.excuse c.requires.writer

pub returns-in-Err : goal.returns-in-Err
returns-in-Err g c =
    let old = state_of g.R.Replica.kept c.args.node.now in
    let new = state_of g.R.Replica.kept c.carry_ahead.new.node in
    by_itself old new c.args.calls.first.now (map arc_value c.args.calls.rest.now) c.alone-in-Err.result.items (Err c.in-Err.refusal) c.alone-in-Err.ensures
    (told_alone old new c.args.calls.first.now (Err c.in-Err.refusal) c.requires.runs
    (writer_carried old new c.args.calls.first.now c.args.plan c.args.excuse (Err c.in-Err.refusal) c.requires.writer c.in-Err.ensures.call) (refused_puts c.args.calls.first.now c.in-Err.refusal))

pub returns-in-Ok-carry_ahead : goal.returns-in-Ok-carry_ahead
returns-in-Ok-carry_ahead g c =
    let old = state_of g.R.Replica.kept c.args.node.now in
    let mid = state_of g.R.Replica.kept c.carry_ahead.new.node in
    let new = state_of g.R.Replica.kept c.finish.new.node in
    let excuse = c.in-Ok-new.ensures in
    began old mid new c.args.calls.first.now (map arc_value c.args.calls.rest.now) c.finish.result.items (g.R.Replica.back c.carry_ahead.new.node.replica c.carry_ahead.new.aside) c.in-Ok.row.dialogs.local c.carry_ahead.new.records c.in-Ok-new.excuse c.in-Ok-carry_ahead.answer
    c.requires.runs
    (rw excuse (writer_begins old mid c.args.calls.first.now c.args.plan c.args.excuse c.in-Ok-carry_ahead.answer c.requires.writer c.in-Ok-carry_ahead.ensures.call))
    (c.carry_ahead.ensures.back ∙ c.in-Ok.ensures.back) c.in-Ok.ensures.local
    (c.in-Ok-carry_ahead.ensures.records ∙ ap (λ ds. ds ++ made_in (Ok c.in-Ok-carry_ahead.answer)) c.in-Ok.ensures.records ∙ writer_puts old c.args.calls.first.now c.args.plan c.args.excuse (Ok c.in-Ok-carry_ahead.answer) c.requires.writer)
    c.finish.ensures
