use Rattle.std.proofs.Common.{ℕ, ◌≤◌, List, sym, ap, subst, Vec, Global}
use Rattle.rep_op.specs.declared.op.Op.{Op}
use Rattle.rep_op.specs.Orders.{AreOfClients}
use Rattle.rep_model.specs.declared.fault.TheConstants.{MOST_CLIENTS}
use Rattle.rep_shared.specs.Rows.{flat, rows_with, count_named, CanGoBack}
use Rattle.rep_entry.specs.declared.entry.Entry.{Entry}
use Rattle.rep_state.specs.Tables.{by_client, rows_of}
use Rattle.rep_shared.proofs.Undo.{begin_back}
use Rattle.rep_state.proofs.replica.FoldedClientsClientSet.aside.Goals as goal

abbrev shown : List (Vec ℕ Global × Entry) → List (List ℕ × List Op)
shown es = rows_of (by_client es)

pub returns-clause-can : goal.returns-clause-can
returns-clause-can c =
    let few : count_named (shown c.self.inside.table.entries) ≤ MOST_CLIENTS = subst (λ (n : ℕ). n ≤ MOST_CLIENTS) c.self.invariant.0.counted c.self.invariant.0.few in
    let now = subst (λ (rows : List (List ℕ × List Op)). count_named rows ≤ MOST_CLIENTS) c.self.view_is few in
    subst (λ (aside : List (List ℕ × List Op)). CanGoBack c.args.self.now aside) (sym (ap shown c.new.ensures.empty)) (begin_back c.args.self.now now)

pub returns-clause-back : goal.returns-clause-back
returns-clause-back c = ap (λ (es : List (Vec ℕ Global × Entry)). flat (rows_with c.args.self.now (shown es))) c.new.ensures.empty

pub returns-clause-clients : goal.returns-clause-clients
returns-clause-clients c = subst (λ (es : List (Vec ℕ Global × Entry)). AreOfClients (flat (shown es))) (sym c.new.ensures.empty) tt
