use Rattle.std.proofs.lemmas.Result.{err_from_is_err_and}
use Rattle.gw_main.proofs.Firsts.{bad_field, bad_peers, bad_predefined, bad_numbers, bad_clients, bad_newcomers}
use Rattle.toml.specs.View.{table_view}
use Rattle.gw_main.proofs.parsing.lists_of.Goals as goal

pub returns-in_err-field-clause-err : goal.returns-in_err-field-clause-err
returns-in_err-field-clause-err c =
    let p = err_from_is_err_and c.from_residual.result c.from_residual.ensures.1 in
    rw (p.1, p.2) (λ plain says. bad_field (table_view c.args.table.now) _ _ _ _ _ _ _ _ c.in_err-field.field-0.0 says.gateway says.listen says.link says.journal says.workers says.steps says.advertise says.lifetime c.in_err-field.ensures.err)

pub returns-in_err-peers-clause-err : goal.returns-in_err-peers-clause-err
returns-in_err-peers-clause-err c =
    let p = err_from_is_err_and c.from_residual-in_err-peers.result c.from_residual-in_err-peers.ensures.1 in
    rw (p.1, p.2) (λ plain says. bad_peers (table_view c.args.table.now) _ _ _ _ _ _ _ _ _ c.in_err-peers.field-0.0 says.gateway says.listen says.link says.journal says.workers says.steps says.advertise says.lifetime c.in_ok-field.ensures.ok c.in_err-peers.ensures.err)

pub returns-in_err-predefined-clause-err : goal.returns-in_err-predefined-clause-err
returns-in_err-predefined-clause-err c =
    let p = err_from_is_err_and c.from_residual-in_err-predefined.result c.from_residual-in_err-predefined.ensures.1 in
    rw (p.1, p.2) (λ plain says. bad_predefined (table_view c.args.table.now) _ _ _ _ _ _ _ _ _ _ c.in_err-predefined.field-0.0 says.gateway says.listen says.link says.journal says.workers says.steps says.advertise says.lifetime c.in_ok-field.ensures.ok c.in_ok-peers.ensures.ok c.in_err-predefined.ensures.err)

pub returns-in_err-numbers-clause-err : goal.returns-in_err-numbers-clause-err
returns-in_err-numbers-clause-err c =
    let p = err_from_is_err_and c.from_residual-in_err-numbers.result c.from_residual-in_err-numbers.ensures.1 in
    rw (p.1, p.2) (λ plain says. bad_numbers (table_view c.args.table.now) _ _ _ _ _ _ _ _ _ _ _ c.in_err-numbers.field-0.0 says.gateway says.listen says.link says.journal says.workers says.steps says.advertise says.lifetime c.in_ok-field.ensures.ok c.in_ok-peers.ensures.ok c.in_ok-predefined.ensures.ok c.in_err-numbers.ensures.err)

pub returns-in_err-clients-clause-err : goal.returns-in_err-clients-clause-err
returns-in_err-clients-clause-err c =
    let p = err_from_is_err_and c.from_residual-in_err-clients.result c.from_residual-in_err-clients.ensures.1 in
    rw (p.1, p.2) (λ plain says. bad_clients (table_view c.args.table.now) _ _ _ _ _ _ _ _ _ _ _ _ c.in_err-clients.field-0.0 says.gateway says.listen says.link says.journal says.workers says.steps says.advertise says.lifetime c.in_ok-field.ensures.ok c.in_ok-peers.ensures.ok c.in_ok-predefined.ensures.ok c.in_ok-numbers.ensures.ok c.in_err-clients.ensures.err)

pub returns-in_err-newcomers-clause-err : goal.returns-in_err-newcomers-clause-err
returns-in_err-newcomers-clause-err c =
    let p = err_from_is_err_and c.from_residual-in_err-newcomers.result c.from_residual-in_err-newcomers.ensures.1 in
    rw (p.1, p.2) (λ plain says. bad_newcomers (table_view c.args.table.now) _ _ _ _ _ _ _ _ _ _ _ _ _ c.in_err-newcomers.field-0.0 says.gateway says.listen says.link says.journal says.workers says.steps says.advertise says.lifetime c.in_ok-field.ensures.ok c.in_ok-peers.ensures.ok c.in_ok-predefined.ensures.ok c.in_ok-numbers.ensures.ok c.in_ok-clients.ensures.ok c.in_err-newcomers.ensures.err)
