use Rattle.std.proofs.Common.{ℕ, ◌+◌, ◌∷◌, List, filter, drop, Some, refl, sym, ap, ◌∙◌, arith}
use Rattle.std.proofs.lemmas.List.{length-map}
use Rattle.rep_op.specs.declared.op.Op.{Op}
use Rattle.rep_model.specs.Views.{clients, view}
use Rattle.rep_model.proofs.Readers.{client_exact}
use Rattle.rep_op.specs.Orders.{client_cmp}
use Rattle.rep_shared.specs.Rows.{flat, has_any}
use Rattle.rep_shared.specs.inner.Rows.{named_rows}
use Rattle.rep_shared.proofs.Places.{place_within}
use Rattle.rep_shared.proofs.Flat.{clients_flat, of_flat}
use Rattle.rep_shared.proofs.Single.{view_own}
use Rattle.rep_state.specs.Tables.{by_client, rows_of, IsKept}
use Rattle.rep_state.proofs.Entering.{seen_row}
use Rattle.rep_entry.proofs.Owning.{found_holds}
use Rattle.rep_state.proofs.Reading.{own_found}
use Rattle.rep_state.proofs.Rows.{table_rows}
use Rattle.rep_state.proofs.replica.FoldedClientsClientSet.client_at.Goals as goal

pub returns-in_err-client : goal.returns-in_err-client
returns-in_err-client c =
    let es = by_client c.self.inside.table.entries in
    let named = sym (ap (λ rows. clients (flat rows)) c.self.view_is) ∙ clients_flat (rows_of es) (table_rows es c.self.inside.named c.self.invariant.0) in
    rw c.from_residual.ensures (ap (drop c.args.place) named ∙ c.in_err-client.ensures.at)

-- a place with a client is below the number of named clients
pub overflow_add-result : goal.overflow_add-result
overflow_add-result c =
    let all = rows_of (by_client c.self.inside.table.entries) in
    let rows = filter (λ (row : List ℕ × List Op). has_any row.1) all in
    let within = place_within (named_rows all) c.args.place c.in_ok-client.client.now _ c.in_ok-client.ensures.at in
    omega (arith, within, length-map rows (λ (row : List ℕ × List Op). row.0), c.self.invariant.0.counted, c.self.invariant.0.few)

pub returns : goal.returns
returns c =
    let es = by_client c.self.inside.table.entries in
    let client = c.in_ok-client.client.now in
    let entry = c.in_ok-client.entry.now in
    let are = table_rows es c.self.inside.named c.self.invariant.0 in
    let named = sym (ap (λ rows. clients (flat rows)) c.self.view_is) ∙ clients_flat (rows_of es) are in
    let found = c.in_ok-client.ensures.found in
    let kept = found_holds client_cmp client_exact IsKept client entry es c.self.invariant.0.each found in (
      ap (drop c.args.place) named ∙ c.in_ok-client.ensures.at ∙ ap (λ cs. client ∷ drop (c.args.place + 1) cs) (sym named),
      refl,
      seen_row client entry kept.entry_is ∙ ap (view client) (own_found client es (Some entry) (sym found))
          ∙ sym (view_own client (flat (rows_of es)) ∙ ap (view client) (of_flat client (rows_of es) are))
          ∙ ap (λ rows. view client (flat rows)) c.self.view_is,
    )
