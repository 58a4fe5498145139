use Rattle.std.proofs.Common.{◌≡◌, refl, sym, ap, subst, ◌∙◌, List, ℕ, T}
use Rattle.std.specs.FinMap.{is_sorted}
use Rattle.rep_op.specs.declared.op.Op.{Op}
use Rattle.rep_op.specs.Orders.{client_cmp}
use Rattle.rep_shared.specs.Rows.{flat, own, rows_with, count_named, CanGoBack}
use Rattle.rep_shared.proofs.Undo.{commit_back, saved_map}
use Rattle.rep_entry.specs.declared.change.Change.{Change}
use Rattle.rep_state.specs.Tables.{by_client, rows_of}
use Rattle.rep_entry.specs.Staging.{staged_of, base_in, planned_row, planned_rows, AreReady}
use Rattle.rep_state.proofs.Indexed.{in_order}
use Rattle.rep_state.proofs.Rows.{table_rows}
use Rattle.rep_state.proofs.Staging.{planned_future, are_movable}
use Rattle.rep_state.proofs.replica.FoldedClientsClientSet.commit.Goals as goal

pub install_changes-requires-clause-movable : goal.install_changes-requires-clause-movable
install_changes-requires-clause-movable c =
    let es = by_client c.self.inside.table.entries in
    let gs = staged_of c.staged.inside.changes.items in
    let ready = subst (λ (rows : List (List ℕ × List Op)). AreReady rows c.args.staged.0) (sym c.self.view_is) c.requires.0 in
    are_movable es gs (subst (λ (staged : List (List ℕ × Change) × ℕ). AreReady (rows_of es) staged.0) (sym c.staged.view_is) ready)

pub invariant_of-self : goal.invariant_of-self
invariant_of-self c =
    let es = by_client c.self.inside.table.entries in
    let gs = staged_of c.staged.inside.changes.items in
    let now = c.install_changes.ensures.rows ∙ ap (rows_with (rows_of es)) (sym (planned_future (rows_of es) es (λ q. refl) gs)) in
    let counted = subst (λ (rows : List (List ℕ × List Op)). c.args.staged.1 ≡ count_named (rows_with rows (planned_rows rows c.args.staged.0))) (sym c.self.view_is) c.requires.1 in
    let counted-2 = subst (λ (staged : List (List ℕ × Change) × ℕ). staged.1 ≡ count_named (rows_with (rows_of es) (planned_rows (rows_of es) staged.0))) (sym c.staged.view_is) counted in (
      record {
        sorted = in_order c.install_changes.new.table.entries;
        each = c.install_changes.ensures.kept;
        counted = counted-2 ∙ ap count_named (sym now);
        few = c.staged.invariant.1;
      },
      c.install_changes.ensures.places,
      c.install_changes.ensures.marks,
    )

pub returns-clause-kept : goal.returns-clause-kept
returns-clause-kept c =
    let es = by_client c.self.inside.table.entries in
    let gs = staged_of c.staged.inside.changes.items in
    let now = c.install_changes.ensures.rows ∙ ap (rows_with (rows_of es)) (sym (planned_future (rows_of es) es (λ q. refl) gs)) in
    ap flat (now ∙ (λ i. rows_with (c.self.view_is i) (planned_rows (c.self.view_is i) (c.staged.view_is i).0)))

pub returns-clause-aside : goal.returns-clause-aside
returns-clause-aside c =
    let es = by_client c.self.inside.table.entries in
    let gs = staged_of c.staged.inside.changes.items in
    let before = c.args.self.now in
    let news = planned_rows before c.args.staged.0 in
    let sorted = subst (λ (rows : List (List ℕ × List Op)). T (is_sorted client_cmp rows)) c.self.view_is (table_rows es c.self.inside.named c.self.invariant.0).sorted in
    let now = c.install_changes.ensures.rows ∙ ap (rows_with (rows_of es)) (sym (planned_future (rows_of es) es (λ q. refl) gs)) in
    let all : rows_of (by_client c.install_changes.new.table.entries) ≡ rows_with before news = now ∙ (λ i. rows_with (c.self.view_is i) (planned_rows (c.self.view_is i) (c.staged.view_is i).0)) in
    λ aside saved can.
    let lying = saved_map aside (λ (g : List ℕ × Change). planned_row g.0 (base_in g.0 (own g.0 before)) g.1) c.args.staged.0 saved in
    subst (λ (rows : List (List ℕ × List Op)). CanGoBack rows aside × (flat (rows_with rows aside) ≡ flat (rows_with before aside))) (sym all) (commit_back before news aside sorted lying can)
