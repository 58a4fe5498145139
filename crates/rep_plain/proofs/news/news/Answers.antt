use Rattle.std.proofs.Common.{Contains, sym, subst}
use Rattle.std.proofs.lemmas.List.Elements.{Contains-get_or}
use Rattle.std.proofs.lemmas.Result.{err_from_is_err_and}
use Rattle.rep_shared.specs.Rows.{flat}
use Rattle.rep_plain.specs.Tables.{rows_of}
use Rattle.rep_shared.proofs.Found.{refused}
use Rattle.rep_shared.proofs.Kept.{client_in}
use Rattle.rep_plain.proofs.news.news.Goals as goal

pub returns-in_err-add_new-clause-fault : goal.returns-in_err-add_new-clause-fault
returns-in_err-add_new-clause-fault c =
    let p = err_from_is_err_and c.from_residual.result c.from_residual.ensures.1 in
    let delta = c.args.delta.now in
    let here = subst (Contains delta) (sym c.op-item.is) (Contains-get_or delta c.loop-op.op-index c.op-item.result c.loop-op-test.true) in
    rw (p.1, p.2) (refused (flat (rows_of c.args.table.now.entries)) delta c.op-item.result c.in_err-add_new.field-0.0 here c.in_err-add_new.ensures.fault)

pub add_new-requires-clause-client : goal.add_new-requires-clause-client
add_new-requires-clause-client c =
    let delta = c.args.delta.now in
    client_in delta c.requires.clients c.op-item.result (subst (Contains delta) (sym c.op-item.is) (Contains-get_or delta c.loop-op.op-index c.op-item.result c.loop-op-test.true))
