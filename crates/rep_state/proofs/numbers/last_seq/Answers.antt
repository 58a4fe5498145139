use Rattle.std.proofs.Common.{Some, None, sym, ap, ◌∙◌}
use Rattle.std.specs.FinMap.{find}
use Rattle.rep_op.specs.Orders.{client_cmp}
use Rattle.rep_model.specs.Fresh.{largest, seq_of}
use Rattle.rep_model.proofs.Readers.{client_exact}
use Rattle.rep_state.specs.Tables.{by_client, IsKept}
use Rattle.rep_entry.proofs.Owning.{found_holds}
use Rattle.rep_state.proofs.Reading.{own_found}
use Rattle.rep_state.proofs.numbers.last_seq.Goals as goal

pub greatest_seq-requires : goal.greatest_seq-requires
greatest_seq-requires c =
    let client = c.args.client.now in
    let es = by_client c.args.table.now.entries in
    let found = c.in-Some.ensures ∙ ap (λ k. find client_cmp k es) c.bytes.ensures.octets in
    (found_holds client_cmp client_exact IsKept client c.in-Some.entry.now es c.requires (sym found)).entry_is.rising

pub returns-in-Some : goal.returns-in-Some
returns-in-Some c =
    let client = c.args.client.now in
    let es = by_client c.args.table.now.entries in
    let found = c.in-Some.ensures ∙ ap (λ k. find client_cmp k es) c.bytes.ensures.octets in
    c.greatest_seq.ensures client ∙ ap (largest (seq_of client c.args.gateway)) (own_found client es (Some c.in-Some.entry.now) found)

pub returns-in-None : goal.returns-in-None
returns-in-None c =
    let client = c.args.client.now in
    let es = by_client c.args.table.now.entries in
    let found = c.in-None.ensures ∙ ap (λ k. find client_cmp k es) c.bytes.ensures.octets in
    ap (largest (seq_of client c.args.gateway)) (own_found client es None found)
