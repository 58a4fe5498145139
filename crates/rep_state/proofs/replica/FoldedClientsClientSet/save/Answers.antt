use Rattle.std.proofs.Common.{ℕ, List, sym, subst, Vec, Global}
use Rattle.rep_op.specs.declared.op.Op.{Op}
use Rattle.rep_entry.specs.declared.change.Change.{Change}
use Rattle.rep_entry.specs.Staging.{staged_of, AreReady}
use Rattle.rep_shared.specs.Rows.{AreSaved, CanGoBack}
use Rattle.rep_state.specs.Tables.{by_client, rows_of}
use Rattle.rep_state.specs.inner.Staging.{HavePlaces}
use Rattle.rep_shared.proofs.Kept.{rows_of_clients}
use Rattle.rep_state.proofs.Rows.{table_rows}
use Rattle.rep_state.proofs.Backs.{ready_room, saving_can, saving_same}
use Rattle.rep_state.proofs.replica.FoldedClientsClientSet.save.Goals as goal

abbrev Rows : Type 0
Rows = List (List ℕ × List Op)

pub save_all-requires-clause-kept : goal.save_all-requires-clause-kept
save_all-requires-clause-kept c = c.self.invariant.0.each

pub save_all-requires-clause-room : goal.save_all-requires-clause-room
save_all-requires-clause-room c =
    let es = by_client c.self.inside.table.entries in
    let staged = subst (λ (s : List (List ℕ × Change) × ℕ). AreReady c.args.self.now s.0) (sym c.staged.view_is) c.requires.ready.0 in
    let here = subst (λ (rows : Rows). AreReady rows (staged_of c.staged.inside.changes.items)) (sym c.self.view_is) staged in
    subst (λ (gs : List (Vec ℕ Global × Change)). HavePlaces es (staged_of gs)) (sym c.as_slice.ensures.value) (ready_room es (staged_of c.staged.inside.changes.items) here)

pub save_all-requires-clause-aside : goal.save_all-requires-clause-aside
save_all-requires-clause-aside c = c.aside.invariant.0

pub save_all-requires-clause-places : goal.save_all-requires-clause-places
save_all-requires-clause-places c = c.aside.invariant.1

pub save_all-requires-clause-marks : goal.save_all-requires-clause-marks
save_all-requires-clause-marks c = c.aside.invariant.2

pub save_all-requires-clause-can : goal.save_all-requires-clause-can
save_all-requires-clause-can c =
    let rows = rows_of (by_client c.self.inside.table.entries) in
    let before = subst (λ (rows : Rows). CanGoBack rows c.args.aside.now) (sym c.self.view_is) c.requires.can in
    subst (λ (aside : Rows). CanGoBack rows aside) (sym c.aside.view_is) before

-- memory ran out
pub returns-in_err-save_all-clause-can : goal.returns-in_err-save_all-clause-can
returns-in_err-save_all-clause-can c =
    saving_can (rows_of (by_client c.self.inside.table.entries)) c.args.self.now (rows_of (by_client c.aside.inside.table.entries)) c.args.aside.now (rows_of (by_client c.save_all.new.aside.entries)) c.self.view_is c.aside.view_is c.in_err-save_all.ensures.saving c.requires.can

pub returns-in_err-save_all-clause-back : goal.returns-in_err-save_all-clause-back
returns-in_err-save_all-clause-back c =
    saving_same (rows_of (by_client c.self.inside.table.entries)) c.args.self.now (rows_of (by_client c.aside.inside.table.entries)) c.args.aside.now (rows_of (by_client c.save_all.new.aside.entries)) c.self.view_is c.aside.view_is c.in_err-save_all.ensures.saving

pub returns-in_err-save_all-clause-clients : goal.returns-in_err-save_all-clause-clients
returns-in_err-save_all-clause-clients c =
    let new = by_client c.save_all.new.aside.entries in
    rows_of_clients (rows_of new) (table_rows new c.save_all.new.count c.in_err-save_all.ensures.table).owned

-- all of it lies aside
pub returns-clause-can : goal.returns-clause-can
returns-clause-can c =
    saving_can (rows_of (by_client c.self.inside.table.entries)) c.args.self.now (rows_of (by_client c.aside.inside.table.entries)) c.args.aside.now (rows_of (by_client c.save_all.new.aside.entries)) c.self.view_is c.aside.view_is c.in_ok-save_all.ensures.saving c.requires.can

pub returns-clause-back : goal.returns-clause-back
returns-clause-back c =
    saving_same (rows_of (by_client c.self.inside.table.entries)) c.args.self.now (rows_of (by_client c.aside.inside.table.entries)) c.args.aside.now (rows_of (by_client c.save_all.new.aside.entries)) c.self.view_is c.aside.view_is c.in_ok-save_all.ensures.saving

pub returns-clause-clients : goal.returns-clause-clients
returns-clause-clients c =
    let new = by_client c.save_all.new.aside.entries in
    rows_of_clients (rows_of new) (table_rows new c.save_all.new.count c.in_ok-save_all.ensures.table).owned

pub returns-clause-saved : goal.returns-clause-saved
returns-clause-saved c =
    let new = rows_of (by_client c.save_all.new.aside.entries) in
    let slice = c.in_ok-save_all.ensures.saved in
    let inside = subst (λ (gs : List (Vec ℕ Global × Change)). AreSaved new (staged_of gs)) c.as_slice.ensures.value slice in
    subst (λ (s : List (List ℕ × Change) × ℕ). AreSaved new s.0) c.staged.view_is inside
