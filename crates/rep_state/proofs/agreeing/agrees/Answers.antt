use Rattle.std.proofs.Common.{Some, None, IsTrue, refl, sym, ap, subst, ◌∙◌}
use Rattle.std.specs.FinMap.{find}
use Rattle.rep_op.specs.Orders.{client_cmp, client_of}
use Rattle.rep_op.specs.Sets.{Agrees}
use Rattle.rep_model.proofs.Readers.{client_exact}
use Rattle.rep_state.specs.Tables.{by_client, IsKept}
use Rattle.rep_entry.proofs.Owning.{found_holds}
use Rattle.rep_state.proofs.Reading.{own_found}
use Rattle.rep_state.proofs.Contradicting.{agrees_nothing}
use Rattle.rep_state.proofs.agreeing.agrees.Goals as goal

pub agrees_with-requires-clause-rising : goal.agrees_with-requires-clause-rising
agrees_with-requires-clause-rising c =
    let op = c.args.op.now in
    let es = by_client c.args.table.now.entries in
    let found = c.in-Some.ensures ∙ ap (λ k. find client_cmp k es) (c.bytes.ensures.octets ∙ c.client.ensures) in
    (found_holds client_cmp client_exact IsKept (client_of op) c.in-Some.entry.now es c.requires.kept (sym found)).entry_is.rising

pub returns-in-Some : goal.returns-in-Some
returns-in-Some c =
    let op = c.args.op.now in
    let es = by_client c.args.table.now.entries in
    let found = c.in-Some.ensures ∙ ap (λ k. find client_cmp k es) (c.bytes.ensures.octets ∙ c.client.ensures) in
    subst (λ S. (IsTrue c.agrees_with.result → Agrees S op) × (Agrees S op → IsTrue c.agrees_with.result)) (own_found (client_of op) es (Some c.in-Some.entry.now) found) c.agrees_with.ensures

pub returns-in-None : goal.returns-in-None
returns-in-None c =
    let op = c.args.op.now in
    let es = by_client c.args.table.now.entries in
    let found = c.in-None.ensures ∙ ap (λ k. find client_cmp k es) (c.bytes.ensures.octets ∙ c.client.ensures) in
    (λ _. subst (λ S. Agrees S op) (own_found (client_of op) es None found) (agrees_nothing op), λ _. refl)
