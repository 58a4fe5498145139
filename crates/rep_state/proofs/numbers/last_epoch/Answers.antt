use Rattle.std.proofs.Common.{Some, None, sym, ap, ◌∙◌}
use Rattle.std.specs.FinMap.{find}
use Rattle.rep_op.specs.Orders.{client_cmp}
use Rattle.std.specs.Map.{keys_of}
use Rattle.rep_model.specs.Fresh.{greatest_epoch, largest}
use Rattle.rep_entry.specs.inner.Numbers.{operation_epoch}
use Rattle.rep_state.specs.Tables.{by_client}
use Rattle.rep_state.proofs.Reading.{own_found, epoch_row}
use Rattle.rep_state.proofs.numbers.last_epoch.Goals as goal

pub returns-in-Some : goal.returns-in-Some
returns-in-Some c =
    let client = c.args.client.now in
    let es = by_client c.args.table.now.entries in
    let found = c.in-Some.ensures ∙ ap (λ k. find client_cmp k es) c.bytes.ensures.octets in
    c.greatest_epoch.ensures ∙ ap (λ es. largest operation_epoch (keys_of es)) c.as_slice.ensures.items ∙ sym (epoch_row client c.in-Some.entry.now) ∙ ap (greatest_epoch client) (own_found client es (Some c.in-Some.entry.now) found)

pub returns-in-None : goal.returns-in-None
returns-in-None c =
    let client = c.args.client.now in
    let es = by_client c.args.table.now.entries in
    let found = c.in-None.ensures ∙ ap (λ k. find client_cmp k es) c.bytes.ensures.octets in
    ap (greatest_epoch client) (own_found client es None found)
