use Rattle.std.proofs.Common.{◌++◌, sym, ap, ◌∙◌}
use Rattle.std.specs.FinMap.{find, put}
use Rattle.rep_op.specs.Orders.{operation_cmp}
use Rattle.rep_model.proofs.Readers.{operation_total}
use Rattle.rep_log.specs.Logs.{left_in_log}
use Rattle.rep_log.proofs.Sorting.{none_behind, put_behind}
use Rattle.rep_log.proofs.log.Log.enter.Goals as goal

pub insert-requires : goal.insert-requires
insert-requires c =
    let log = c.make_way.new.self in
    none_behind operation_cmp c.args.name (left_in_log c.args.known.now log) log.more (ap (find operation_cmp c.args.name) c.in-Ok.ensures.same ∙ c.requires.fresh)

pub returns-in_ok-insert-in-Ok-clause-entered : goal.returns-in_ok-insert-in-Ok-clause-entered
returns-in_ok-insert-in-Ok-clause-entered c =
    let log = c.make_way.new.self in
    let first = left_in_log c.args.known.now log in
    ap (λ more. first ++ more) c.in_ok-insert-in-Ok.ensures
    ∙ sym (put_behind operation_cmp operation_total c.args.name c.args.change first log.more c.in-Ok.ensures.behind)
    ∙ ap (put operation_cmp c.args.name c.args.change) c.in-Ok.ensures.same
