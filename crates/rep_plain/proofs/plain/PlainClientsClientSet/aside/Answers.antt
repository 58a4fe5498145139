use Rattle.std.proofs.Common.{ℕ, ◌≤◌, List, sym, ap, subst}
use Rattle.rep_op.specs.declared.op.Op.{Op}
use Rattle.rep_op.specs.Orders.{AreOfClients}
use Rattle.rep_model.specs.declared.fault.TheConstants.{MOST_CLIENTS}
use Rattle.rep_shared.specs.Rows.{flat, rows_with, count_named, CanGoBack}
use Rattle.rep_plain.specs.Tables.{rows_of}
use Rattle.rep_shared.proofs.Undo.{begin_back}
use Rattle.rep_plain.proofs.plain.PlainClientsClientSet.aside.Goals as goal

pub returns-clause-can : goal.returns-clause-can
returns-clause-can c =
    let few : count_named (rows_of c.self.inside.table.entries) ≤ MOST_CLIENTS = subst (λ (n : ℕ). n ≤ MOST_CLIENTS) c.self.invariant.counted c.self.invariant.few in
    let now = subst (λ (rows : List (List ℕ × List Op)). count_named rows ≤ MOST_CLIENTS) c.self.view_is few in
    subst (λ (aside : List (List ℕ × List Op)). CanGoBack c.args.self.now aside) (sym (ap rows_of c.new.ensures.empty)) (begin_back c.args.self.now now)

pub returns-clause-back : goal.returns-clause-back
returns-clause-back c = ap (λ (aside : List (List ℕ × List Op)). flat (rows_with c.args.self.now aside)) (ap rows_of c.new.ensures.empty)

pub returns-clause-clients : goal.returns-clause-clients
returns-clause-clients c = subst (λ (aside : List (List ℕ × List Op)). AreOfClients (flat aside)) (sym (ap rows_of c.new.ensures.empty)) tt
