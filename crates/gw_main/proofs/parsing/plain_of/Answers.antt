use Rattle.std.proofs.lemmas.Result.{err_from_is_err_and}
use Rattle.gw_main.proofs.Firsts.{bad_gateway, bad_listen, bad_link, bad_journal, bad_workers, bad_steps, bad_advertise, bad_lifetime}
use Rattle.toml.specs.View.{table_view}
use Rattle.gw_main.proofs.parsing.plain_of.Goals as goal

pub returns-in_err-gateway-clause-err : goal.returns-in_err-gateway-clause-err
returns-in_err-gateway-clause-err c =
    let p = err_from_is_err_and c.from_residual.result c.from_residual.ensures.1 in
    rw (p.1, p.2) (bad_gateway (table_view c.args.table.now) c.in_err-gateway.field-0.0 c.in_err-gateway.ensures.err)

pub returns-in_err-listen-clause-err : goal.returns-in_err-listen-clause-err
returns-in_err-listen-clause-err c =
    let p = err_from_is_err_and c.from_residual-in_err-listen.result c.from_residual-in_err-listen.ensures.1 in
    rw (p.1, p.2) (bad_listen (table_view c.args.table.now) _ c.in_err-listen.field-0.0 c.in_ok-gateway.ensures.ok c.in_err-listen.ensures.err)

pub returns-in_err-link-clause-err : goal.returns-in_err-link-clause-err
returns-in_err-link-clause-err c =
    let p = err_from_is_err_and c.from_residual-in_err-link.result c.from_residual-in_err-link.ensures.1 in
    rw (p.1, p.2) (bad_link (table_view c.args.table.now) _ _ c.in_err-link.field-0.0 c.in_ok-gateway.ensures.ok c.in_ok-listen.ensures.ok c.in_err-link.ensures.err)

pub returns-in_err-journal-clause-err : goal.returns-in_err-journal-clause-err
returns-in_err-journal-clause-err c =
    let p = err_from_is_err_and c.from_residual-in_err-journal.result c.from_residual-in_err-journal.ensures.1 in
    rw (p.1, p.2) (bad_journal (table_view c.args.table.now) _ _ _ c.in_err-journal.field-0.0 c.in_ok-gateway.ensures.ok c.in_ok-listen.ensures.ok c.in_ok-link.ensures.ok c.in_err-journal.ensures.err)

pub returns-in_err-workers-clause-err : goal.returns-in_err-workers-clause-err
returns-in_err-workers-clause-err c =
    let p = err_from_is_err_and c.from_residual-in_err-workers.result c.from_residual-in_err-workers.ensures.1 in
    rw (p.1, p.2) (bad_workers (table_view c.args.table.now) _ _ _ _ c.in_err-workers.field-0.0 c.in_ok-gateway.ensures.ok c.in_ok-listen.ensures.ok c.in_ok-link.ensures.ok c.in_ok-journal.ensures.ok c.in_err-workers.ensures.err)

pub returns-in_err-steps-clause-err : goal.returns-in_err-steps-clause-err
returns-in_err-steps-clause-err c =
    let p = err_from_is_err_and c.from_residual-in_err-steps.result c.from_residual-in_err-steps.ensures.1 in
    rw (p.1, p.2) (bad_steps (table_view c.args.table.now) _ _ _ _ _ c.in_err-steps.field-0.0 c.in_ok-gateway.ensures.ok c.in_ok-listen.ensures.ok c.in_ok-link.ensures.ok c.in_ok-journal.ensures.ok c.in_ok-workers.ensures.ok c.in_err-steps.ensures.err)

pub returns-in_err-advertise-clause-err : goal.returns-in_err-advertise-clause-err
returns-in_err-advertise-clause-err c =
    let p = err_from_is_err_and c.from_residual-in_err-advertise.result c.from_residual-in_err-advertise.ensures.1 in
    rw (p.1, p.2) (bad_advertise (table_view c.args.table.now) _ _ _ _ _ _ c.in_err-advertise.field-0.0 c.in_ok-gateway.ensures.ok c.in_ok-listen.ensures.ok c.in_ok-link.ensures.ok c.in_ok-journal.ensures.ok c.in_ok-workers.ensures.ok c.in_ok-steps.ensures.ok c.in_err-advertise.ensures.err)

pub returns-in_err-lifetime-clause-err : goal.returns-in_err-lifetime-clause-err
returns-in_err-lifetime-clause-err c =
    let p = err_from_is_err_and c.from_residual-in_err-lifetime.result c.from_residual-in_err-lifetime.ensures.1 in
    rw (p.1, p.2) (bad_lifetime (table_view c.args.table.now) _ _ _ _ _ _ _ c.in_err-lifetime.field-0.0 c.in_ok-gateway.ensures.ok c.in_ok-listen.ensures.ok c.in_ok-link.ensures.ok c.in_ok-journal.ensures.ok c.in_ok-workers.ensures.ok c.in_ok-steps.ensures.ok c.in_ok-advertise.ensures.ok c.in_err-lifetime.ensures.err)
