use Rattle.std.proofs.Common.{ℕ, ◌+◌, ◌∷◌, List, [], filter, drop, sym, ap, ◌∙◌, subst, arith}
use Rattle.std.proofs.lemmas.List.{length-map}
use Rattle.rep_op.specs.declared.op.Op.{Op}
use Rattle.rep_op.specs.Orders.{client_cmp}
use Rattle.rep_model.specs.Views.{clients, view}
use Rattle.rep_model.specs.Asking.{NoneAsks}
use Rattle.rep_shared.specs.Rows.{flat, has_any}
use Rattle.rep_shared.specs.inner.Rows.{named_rows}
use Rattle.rep_plain.specs.Tables.{rows_of}
use Rattle.rep_shared.proofs.Flat.{clients_flat}
use Rattle.rep_plain.proofs.Found.{table_rows}
use Rattle.rep_shared.proofs.Maps.{lookup_is_find}
use Rattle.rep_plain.proofs.Moves.{seen_found}
use Rattle.rep_shared.proofs.Places.{place_within}
use Rattle.rep_plain.proofs.plain.PlainClientsClientSet.next_candidate.Goals as goal

pub named_at-requires : goal.named_at-requires
named_at-requires c = c.self.invariant.sorted

-- nobody is left, so nobody who is left asks
pub returns-in_err-client : goal.returns-in_err-client
returns-in_err-client c =
    let es = c.self.inside.table.entries in
    let S = c.args.self.now in
    let named = sym (ap (λ rows. clients (flat rows)) c.self.view_is) ∙ clients_flat (rows_of es) (table_rows es c.self.inside.named c.self.invariant) in
    rw c.from_residual.ensures (subst (λ (cs : List (List ℕ)). NoneAsks c.args._topic.now (flat S) cs) (sym (ap (drop c.args.place) named ∙ c.in_err-client.ensures.at)) tt)

-- a place with a client is below the number of named clients
pub overflow_add-result : goal.overflow_add-result
overflow_add-result c =
    let rows = filter (λ (row : List ℕ × List Op). has_any row.1) (rows_of c.self.inside.table.entries) in
    let within = place_within (named_rows (rows_of c.self.inside.table.entries)) c.args.place c.in_ok-client.client.now _ c.in_ok-client.ensures.at in
    omega (arith, within, length-map rows (λ (row : List ℕ × List Op). row.0), c.self.invariant.counted, c.self.invariant.few)

-- nobody is passed over
pub returns : goal.returns
returns c =
    let es = c.self.inside.table.entries in
    let client = c.in_ok-client.client.now in
    let entry = c.in_ok-client.entry.now in
    let named = sym (ap (λ rows. clients (flat rows)) c.self.view_is) ∙ clients_flat (rows_of es) (table_rows es c.self.inside.named c.self.invariant) in record {
      passed = [];
      stands = ap (drop c.args.place) named ∙ c.in_ok-client.ensures.at ∙ ap (λ cs. client ∷ drop (c.args.place + 1) cs) (sym named);
      none_asks = tt;
      shown = seen_found client es c.self.inside.named entry c.self.invariant (sym (lookup_is_find client_cmp client es ∙ c.in_ok-client.ensures.found)) ∙ ap (λ rows. view client (flat rows)) c.self.view_is;
    }
