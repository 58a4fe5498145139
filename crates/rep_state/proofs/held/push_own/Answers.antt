use Rattle.std.proofs.Common.{◌≡◌, ◌++◌, Some, None, OnOk, sym, ap, subst, ◌∙◌, append-nil}
use Rattle.std.specs.FinMap.{find}
use Rattle.rep_op.specs.Orders.{client_cmp}
use Rattle.rep_state.specs.Tables.{by_client}
use Rattle.rep_state.proofs.Reading.{own_found}
use Rattle.rep_state.proofs.held.push_own.Goals as goal

pub returns-in-Some : goal.returns-in-Some
returns-in-Some c =
    let client = c.args.client.now in
    let es = by_client c.args.table.now.entries in
    let found = c.in-Some.ensures ∙ ap (λ k. find client_cmp k es) c.bytes.ensures.octets in
    subst (λ ops. OnOk c.push_row.result (c.push_row.new.kept.items ≡ c.args.kept.now.items ++ ops)) (own_found client es (Some c.in-Some.entry.now) found) c.push_row.ensures

pub returns-in-None : goal.returns-in-None
returns-in-None c =
    let client = c.args.client.now in
    let es = by_client c.args.table.now.entries in
    let found = c.in-None.ensures ∙ ap (λ k. find client_cmp k es) c.bytes.ensures.octets in
    sym (append-nil c.args.kept.now.items) ∙ ap (λ ops. c.args.kept.now.items ++ ops) (own_found client es None found)
