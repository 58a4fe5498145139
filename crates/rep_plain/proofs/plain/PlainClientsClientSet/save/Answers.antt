use Rattle.std.proofs.Common.{ℕ, List, sym, subst}
use Rattle.rep_op.specs.declared.op.Op.{Op}
use Rattle.rep_plain.specs.declared.entry.Entry.{Entry}
use Rattle.rep_shared.specs.Rows.{AreSaved, CanGoBack}
use Rattle.rep_plain.specs.Tables.{rows_of, HaveRoom}
use Rattle.rep_shared.proofs.Kept.{rows_of_clients}
use Rattle.rep_plain.proofs.Found.{table_rows}
use Rattle.rep_plain.proofs.Backs.{saving_can, saving_same}
use Rattle.rep_plain.proofs.plain.PlainClientsClientSet.save.Goals as goal

abbrev Rows : Type 0
Rows = List (List ℕ × List Op)

pub save_all-requires-clause-sorted : goal.save_all-requires-clause-sorted
save_all-requires-clause-sorted c = c.self.invariant.sorted

pub save_all-requires-clause-each : goal.save_all-requires-clause-each
save_all-requires-clause-each c = c.self.invariant.each

pub save_all-requires-clause-room : goal.save_all-requires-clause-room
save_all-requires-clause-room c =
    let es = c.self.inside.table.entries in
    let staged = subst (λ (s : Rows × ℕ). HaveRoom c.args.self.now s.0) (sym c.staged.view_is) c.requires.ready.0 in
    let here = subst (λ (rows : Rows). HaveRoom rows (rows_of c.staged.inside.fresh.items)) (sym c.self.view_is) staged in
    subst (λ (fs : List (List ℕ × Entry)). HaveRoom (rows_of es) (rows_of fs)) (sym c.as_slice.ensures.value) here

pub save_all-requires-clause-aside : goal.save_all-requires-clause-aside
save_all-requires-clause-aside c = c.aside.invariant

pub save_all-requires-clause-can : goal.save_all-requires-clause-can
save_all-requires-clause-can c =
    let es = c.self.inside.table.entries in
    let before = subst (λ (rows : Rows). CanGoBack rows c.args.aside.now) (sym c.self.view_is) c.requires.can in
    subst (λ (aside : Rows). CanGoBack (rows_of es) aside) (sym c.aside.view_is) before

-- memory ran out
pub returns-in_err-save_all-clause-can : goal.returns-in_err-save_all-clause-can
returns-in_err-save_all-clause-can c =
    saving_can (rows_of c.self.inside.table.entries) c.args.self.now (rows_of c.aside.inside.table.entries) c.args.aside.now (rows_of c.save_all.new.aside.entries) c.self.view_is c.aside.view_is c.in_err-save_all.ensures.saving c.requires.can

pub returns-in_err-save_all-clause-back : goal.returns-in_err-save_all-clause-back
returns-in_err-save_all-clause-back c =
    saving_same (rows_of c.self.inside.table.entries) c.args.self.now (rows_of c.aside.inside.table.entries) c.args.aside.now (rows_of c.save_all.new.aside.entries) c.self.view_is c.aside.view_is c.in_err-save_all.ensures.saving

pub returns-in_err-save_all-clause-clients : goal.returns-in_err-save_all-clause-clients
returns-in_err-save_all-clause-clients c =
    let new = c.save_all.new.aside.entries in
    rows_of_clients (rows_of new) (table_rows new c.save_all.new.named c.in_err-save_all.ensures.table).owned

-- all of it lies aside
pub returns-clause-can : goal.returns-clause-can
returns-clause-can c =
    saving_can (rows_of c.self.inside.table.entries) c.args.self.now (rows_of c.aside.inside.table.entries) c.args.aside.now (rows_of c.save_all.new.aside.entries) c.self.view_is c.aside.view_is c.in_ok-save_all.ensures.saving c.requires.can

pub returns-clause-back : goal.returns-clause-back
returns-clause-back c =
    saving_same (rows_of c.self.inside.table.entries) c.args.self.now (rows_of c.aside.inside.table.entries) c.args.aside.now (rows_of c.save_all.new.aside.entries) c.self.view_is c.aside.view_is c.in_ok-save_all.ensures.saving

pub returns-clause-clients : goal.returns-clause-clients
returns-clause-clients c =
    let new = c.save_all.new.aside.entries in
    rows_of_clients (rows_of new) (table_rows new c.save_all.new.named c.in_ok-save_all.ensures.table).owned

pub returns-clause-saved : goal.returns-clause-saved
returns-clause-saved c =
    let new = rows_of c.save_all.new.aside.entries in
    let slice = c.in_ok-save_all.ensures.saved in
    let inside = subst (λ (fs : List (List ℕ × Entry)). AreSaved new (rows_of fs)) c.as_slice.ensures.value slice in
    subst (λ (s : Rows × ℕ). AreSaved new s.0) c.staged.view_is inside
