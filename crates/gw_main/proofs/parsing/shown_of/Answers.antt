use Rattle.std.proofs.lemmas.Result.{err_from_is_err_and}
use Rattle.gw_main.proofs.Firsts.{bad_status, bad_log}
use Rattle.toml.specs.View.{table_view}
use Rattle.gw_main.proofs.parsing.shown_of.Goals as goal

pub returns-in_err-status-clause-err : goal.returns-in_err-status-clause-err
returns-in_err-status-clause-err c =
    let p = err_from_is_err_and c.from_residual.result c.from_residual.ensures.1 in
    rw (p.1, p.2) (λ plain says lists told. bad_status (table_view c.args.table.now) _ _ _ _ _ _ _ _ _ _ _ _ _ _ c.in_err-status.field-0.0 says.gateway says.listen says.link says.journal says.workers says.steps says.advertise says.lifetime told.field told.peers told.predefined told.numbers told.clients told.newcomers c.in_err-status.ensures.err)

pub returns-in_err-log-clause-err : goal.returns-in_err-log-clause-err
returns-in_err-log-clause-err c =
    let p = err_from_is_err_and c.from_residual-in_err-log.result c.from_residual-in_err-log.ensures.1 in
    rw (p.1, p.2) (λ plain says lists told. bad_log (table_view c.args.table.now) _ _ _ _ _ _ _ _ _ _ _ _ _ _ _ c.in_err-log.field-0.0 says.gateway says.listen says.link says.journal says.workers says.steps says.advertise says.lifetime told.field told.peers told.predefined told.numbers told.clients told.newcomers c.in_ok-status.ensures.ok c.in_err-log.ensures.err)
