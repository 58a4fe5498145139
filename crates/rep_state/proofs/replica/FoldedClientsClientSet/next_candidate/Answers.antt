use Rattle.std.proofs.Common.{◌∷◌, ◌++◌, Some, List, ℕ, drop, sym, ap, subst, ◌∙◌}
use Rattle.rep_model.specs.Views.{clients, view}
use Rattle.rep_model.specs.Asking.{NoneAsks}
use Rattle.rep_model.proofs.Readers.{client_exact}
use Rattle.rep_op.specs.Orders.{client_cmp}
use Rattle.rep_shared.specs.Rows.{flat}
use Rattle.rep_shared.specs.inner.Rows.{named_rows}
use Rattle.rep_shared.proofs.Flat.{clients_flat, of_flat}
use Rattle.rep_shared.proofs.Single.{view_own}
use Rattle.rep_state.specs.Tables.{by_client, rows_of, IsKept}
use Rattle.rep_state.proofs.Asking.{silent_views}
use Rattle.rep_state.proofs.Entering.{seen_row}
use Rattle.rep_entry.proofs.Owning.{found_holds}
use Rattle.rep_state.proofs.Reading.{own_found}
use Rattle.rep_state.proofs.Rows.{table_rows}
use Rattle.rep_state.proofs.replica.FoldedClientsClientSet.next_candidate.Goals as goal

pub returns-in_err-behind : goal.returns-in_err-behind
returns-in_err-behind c =
    let es = by_client c.self.inside.table.entries in
    let t = c.self.invariant.0 in
    let named = sym (ap (λ rows. clients (flat rows)) c.self.view_is) ∙ clients_flat (rows_of es) (table_rows es c.self.inside.named t) in
    let left = drop c.args.place (named_rows (rows_of es)) in
    let none = silent_views c.args.topic.now es c.self.inside.named t left c.in_err-behind.ensures.next in
    rw c.from_residual.ensures (subst (λ (cs : List (List ℕ)). NoneAsks c.args.topic.now (flat c.args.self.now) cs) (sym (ap (drop c.args.place) named)) (subst (λ rows. NoneAsks c.args.topic.now (flat rows) left) c.self.view_is none))

pub returns : goal.returns
returns c =
    let es = by_client c.self.inside.table.entries in
    let client = c.in_ok-behind.client.now in
    let entry = c.in_ok-behind.entry.now in
    let t = c.self.invariant.0 in
    let are = table_rows es c.self.inside.named t in
    let named = sym (ap (λ rows. clients (flat rows)) c.self.view_is) ∙ clients_flat (rows_of es) are in
    let next = c.in_ok-behind.ensures.next in
    let found = c.in_ok-behind.ensures.found in
    let kept = found_holds client_cmp client_exact IsKept client entry es t.each found in record {
      passed = next.passed;
      stands = ap (drop c.args.place) named ∙ next.stands ∙ ap (λ cs. next.passed ++ client ∷ drop c.in_ok-behind.behind cs) (sym named);
      none_asks = subst (λ rows. NoneAsks c.args.topic.now (flat rows) next.passed) c.self.view_is (silent_views c.args.topic.now es c.self.inside.named t next.passed next.silent);
      shown =
          seen_row client entry kept.entry_is ∙ ap (view client) (own_found client es (Some entry) (sym found))
          ∙ sym (view_own client (flat (rows_of es)) ∙ ap (view client) (of_flat client (rows_of es) are))
          ∙ ap (λ rows. view client (flat rows)) c.self.view_is;
    }
