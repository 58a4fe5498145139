use Rattle.std.proofs.Common.{Some, None, sym, ap, ◌∙◌}
use Rattle.std.specs.FinMap.{find}
use Rattle.rep_op.specs.Orders.{client_cmp}
use Rattle.rep_model.specs.Views.{is_named, view}
use Rattle.rep_model.proofs.Readers.{client_exact}
use Rattle.rep_shared.specs.Rows.{flat, has_any}
use Rattle.rep_shared.proofs.Single.{view_own}
use Rattle.rep_shared.proofs.Flat.{of_flat, named_flat}
use Rattle.rep_state.specs.Tables.{by_client, rows_of, IsKept}
use Rattle.rep_state.proofs.Entering.{seen_row}
use Rattle.rep_entry.proofs.Owning.{found_holds}
use Rattle.rep_state.proofs.Reading.{own_found}
use Rattle.rep_state.proofs.Rows.{table_rows}
use Rattle.rep_state.proofs.replica.FoldedClientsClientSet.view_of.Goals as goal

pub returns-in_err-entry : goal.returns-in_err-entry
returns-in_err-entry c =
    let client = c.args.client.now in
    let es = by_client c.self.inside.table.entries in
    let are = table_rows es c.self.inside.named c.self.invariant.0 in
    let found = c.in_err-entry.ensures ∙ ap (λ k. find client_cmp k es) c.bytes.ensures.octets in
    rw c.from_residual.ensures (sym (ap (λ rows. is_named client (flat rows)) c.self.view_is) ∙ named_flat client (rows_of es) are ∙ ap has_any (sym (own_found client es None found)))

pub returns-then-not-has_operations : goal.returns-then-not-has_operations
returns-then-not-has_operations c =
    let client = c.args.client.now in
    let es = by_client c.self.inside.table.entries in
    let are = table_rows es c.self.inside.named c.self.invariant.0 in
    let found = c.in_ok-entry.ensures ∙ ap (λ k. find client_cmp k es) c.bytes.ensures.octets in
    sym (ap (λ rows. is_named client (flat rows)) c.self.view_is) ∙ named_flat client (rows_of es) are ∙ ap has_any (sym (own_found client es (Some c.in_ok-entry.entry.now) found)) ∙ sym (c.has_operations.ensures client) ∙ c.if-not-has_operations.true

pub returns : goal.returns
returns c =
    let client = c.args.client.now in
    let es = by_client c.self.inside.table.entries in
    let entry = c.in_ok-entry.entry.now in
    let are = table_rows es c.self.inside.named c.self.invariant.0 in
    let found = c.in_ok-entry.ensures ∙ ap (λ k. find client_cmp k es) c.bytes.ensures.octets in
    let kept = found_holds client_cmp client_exact IsKept client entry es c.self.invariant.0.each (sym found) in (
      sym (ap (λ rows. is_named client (flat rows)) c.self.view_is) ∙ named_flat client (rows_of es) are ∙ ap has_any (sym (own_found client es (Some entry) found)) ∙ sym (c.has_operations.ensures client) ∙ c.if-not-has_operations.false,
      seen_row client entry kept.entry_is ∙ ap (view client) (own_found client es (Some entry) found)
          ∙ sym (view_own client (flat (rows_of es)) ∙ ap (view client) (of_flat client (rows_of es) are))
          ∙ ap (λ rows. view client (flat rows)) c.self.view_is,
    )
