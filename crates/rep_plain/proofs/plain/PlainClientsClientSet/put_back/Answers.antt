use Rattle.std.proofs.Common.{◌≡◌, ℕ, ◌≤◌, List, sym, ap, subst, ◌∙◌}
use Rattle.rep_op.specs.declared.op.Op.{Op}
use Rattle.rep_op.specs.Orders.{AreOfClients}
use Rattle.rep_model.specs.declared.fault.TheConstants.{MOST_CLIENTS}
use Rattle.rep_shared.specs.Rows.{flat, rows_with, count_named}
use Rattle.rep_plain.specs.Tables.{rows_of, HaveRoom}
use Rattle.rep_shared.proofs.Kept.{rows_of_clients}
use Rattle.rep_shared.proofs.Flat.{rows_moved}
use Rattle.rep_plain.proofs.Found.{table_rows}
use Rattle.rep_plain.proofs.Backs.{rows_sorted}
use Rattle.rep_plain.proofs.plain.PlainClientsClientSet.put_back.Goals as goal

abbrev Rows : Type 0
Rows = List (List ℕ × List Op)

pub put_all_back-requires-clause-movable : goal.put_all_back-requires-clause-movable
put_all_back-requires-clause-movable c = record { sorted = c.self.invariant.sorted; each = c.self.invariant.each; fresh_each = c.aside.invariant.each }

pub put_all_back-requires-clause-sorted : goal.put_all_back-requires-clause-sorted
put_all_back-requires-clause-sorted c = rows_sorted c.aside.inside.table.entries c.aside.invariant.sorted

pub put_all_back-requires-clause-room : goal.put_all_back-requires-clause-room
put_all_back-requires-clause-room c =
    let lying = subst (λ (aside : Rows). HaveRoom c.args.self.now aside) (sym c.aside.view_is) c.requires.room in
    subst (λ (rows : Rows). HaveRoom rows (rows_of c.aside.inside.table.entries)) (sym c.self.view_is) lying

pub count_all-self-inside-requires : goal.count_all-self-inside-requires
count_all-self-inside-requires c =
    let all : rows_of c.put_all_back.new.table.entries ≡ rows_with c.args.self.now c.args.aside = c.put_all_back.ensures.rows ∙ (λ i. rows_with (c.self.view_is i) (c.aside.view_is i)) in
    subst (λ (rows : Rows). count_named rows ≤ MOST_CLIENTS) (sym all) c.requires.few

pub invariant_of-self : goal.invariant_of-self
invariant_of-self c =
    let all : rows_of c.put_all_back.new.table.entries ≡ rows_with c.args.self.now c.args.aside = c.put_all_back.ensures.rows ∙ (λ i. rows_with (c.self.view_is i) (c.aside.view_is i)) in
    let few : count_named (rows_of c.put_all_back.new.table.entries) ≤ MOST_CLIENTS = subst (λ (rows : Rows). count_named rows ≤ MOST_CLIENTS) (sym all) c.requires.few in
    record {
      sorted = c.put_all_back.ensures.movable.sorted;
      each = c.put_all_back.ensures.movable.each;
      counted = c.count_all-self-inside.ensures;
      few = subst (λ (n : ℕ). n ≤ MOST_CLIENTS) (sym c.count_all-self-inside.ensures) few;
    }

pub returns-clause-kept : goal.returns-clause-kept
returns-clause-kept c = ap flat (c.put_all_back.ensures.rows ∙ (λ i. rows_with (c.self.view_is i) (c.aside.view_is i)))

pub returns-clause-clients : goal.returns-clause-clients
returns-clause-clients c =
    let es = c.self.inside.table.entries in
    let xs = c.aside.inside.table.entries in
    let owned = (table_rows xs c.aside.inside.named c.aside.invariant).owned in
    let rows = rows_moved (rows_of es) (rows_of xs) (table_rows es c.self.inside.named c.self.invariant) owned in
    subst (λ (rs : Rows). AreOfClients (flat rs)) (sym c.put_all_back.ensures.rows) (rows_of_clients (rows_with (rows_of es) (rows_of xs)) rows.owned)
