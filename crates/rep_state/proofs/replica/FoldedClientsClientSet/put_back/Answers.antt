use Rattle.std.proofs.Common.{◌≡◌, ℕ, ◌≤◌, List, sym, ap, subst, ◌∙◌}
use Rattle.rep_op.specs.declared.op.Op.{Op}
use Rattle.rep_op.specs.Orders.{AreOfClients}
use Rattle.rep_model.specs.declared.fault.TheConstants.{MOST_CLIENTS}
use Rattle.rep_shared.specs.Rows.{flat, rows_with, count_named, AreSaved}
use Rattle.rep_state.specs.Tables.{by_client, rows_of, ArePlaces}
use Rattle.rep_shared.proofs.Kept.{rows_of_clients}
use Rattle.rep_shared.proofs.Flat.{rows_moved}
use Rattle.rep_shared.proofs.Undo.{room_of}
use Rattle.rep_state.proofs.Rows.{table_rows}
use Rattle.rep_state.proofs.Indexed.{in_order}
use Rattle.rep_state.proofs.Backs.{kept_aside}
use Rattle.rep_state.proofs.replica.FoldedClientsClientSet.put_back.Goals as goal

abbrev Rows : Type 0
Rows = List (List ℕ × List Op)

pub put_all_back-requires-clause-kept : goal.put_all_back-requires-clause-kept
put_all_back-requires-clause-kept c = c.self.invariant.0.each

pub put_all_back-requires-clause-aside : goal.put_all_back-requires-clause-aside
put_all_back-requires-clause-aside c = kept_aside (by_client c.aside.inside.table.entries) c.aside.invariant.0.each

pub put_all_back-requires-clause-room : goal.put_all_back-requires-clause-room
put_all_back-requires-clause-room c =
    let es = by_client c.self.inside.table.entries in
    let xs = by_client c.aside.inside.table.entries in
    let lying = subst (λ (aside : Rows). AreSaved c.args.self.now aside) (sym c.aside.view_is) c.requires.room in
    let here = subst (λ (rows : Rows). AreSaved rows (rows_of xs)) (sym c.self.view_is) lying in
    λ q there. room_of q (rows_of es) (rows_of xs) here there

pub put_all_back-requires-clause-places : goal.put_all_back-requires-clause-places
put_all_back-requires-clause-places c = c.self.invariant.1

pub put_all_back-requires-clause-marks : goal.put_all_back-requires-clause-marks
put_all_back-requires-clause-marks c = c.self.invariant.2

pub count_all-self-inside-requires-clause-places : goal.count_all-self-inside-requires-clause-places
count_all-self-inside-requires-clause-places c = subst (ArePlaces c.put_all_back.new.table.entries) (sym c.as_slice.ensures.value) c.put_all_back.ensures.places

pub count_all-self-inside-requires-clause-few : goal.count_all-self-inside-requires-clause-few
count_all-self-inside-requires-clause-few c =
    let all : rows_of (by_client c.put_all_back.new.table.entries) ≡ rows_with c.args.self.now c.args.aside = c.put_all_back.ensures.rows ∙ (λ i. rows_with (c.self.view_is i) (c.aside.view_is i)) in
    subst (λ (rows : Rows). count_named rows ≤ MOST_CLIENTS) (sym all) c.requires.few

pub invariant_of-self : goal.invariant_of-self
invariant_of-self c =
    let all : rows_of (by_client c.put_all_back.new.table.entries) ≡ rows_with c.args.self.now c.args.aside = c.put_all_back.ensures.rows ∙ (λ i. rows_with (c.self.view_is i) (c.aside.view_is i)) in
    let few : count_named (rows_of (by_client c.put_all_back.new.table.entries)) ≤ MOST_CLIENTS = subst (λ (rows : Rows). count_named rows ≤ MOST_CLIENTS) (sym all) c.requires.few in (
      record {
        sorted = in_order c.put_all_back.new.table.entries;
        each = c.put_all_back.ensures.kept;
        counted = c.count_all-self-inside.ensures;
        few = subst (λ (n : ℕ). n ≤ MOST_CLIENTS) (sym c.count_all-self-inside.ensures) few;
      },
      c.put_all_back.ensures.places,
      c.put_all_back.ensures.marks,
    )

pub returns-clause-kept : goal.returns-clause-kept
returns-clause-kept c = ap flat (c.put_all_back.ensures.rows ∙ (λ i. rows_with (c.self.view_is i) (c.aside.view_is i)))

pub returns-clause-clients : goal.returns-clause-clients
returns-clause-clients c =
    let es = by_client c.self.inside.table.entries in
    let xs = by_client c.aside.inside.table.entries in
    let owned = (table_rows xs c.aside.inside.named c.aside.invariant.0).owned in
    let rows = rows_moved (rows_of es) (rows_of xs) (table_rows es c.self.inside.named c.self.invariant.0) owned in
    subst (λ (rs : Rows). AreOfClients (flat rs)) (sym c.put_all_back.ensures.rows) (rows_of_clients (rows_with (rows_of es) (rows_of xs)) rows.owned)
