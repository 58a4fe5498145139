use Rattle.std.proofs.Common.{arith}
use Rattle.rep_state.specs.Tables.{by_client}
use Rattle.rep_state.proofs.Indexed.{in_order, as_many}
use Rattle.rep_state.proofs.Walking.{named_place, found_place}
use Rattle.rep_state.proofs.held.named_at.Goals as goal

pub returns-clause-at : goal.returns-clause-at
returns-clause-at c =
    let es = c.args.table.now.entries in
    let many = as_many es c.args.places.now c.requires.places in
    named_place (by_client es) c.args.at c.client_at.result (omega (arith, c.if-named-places.false, c.requires.named, many)) c.client_at.ensures

pub returns-clause-found : goal.returns-clause-found
returns-clause-found c =
    let es = c.args.table.now.entries in
    found_place (by_client es) c.args.at c.client_at.result (in_order es) c.client_at.ensures
