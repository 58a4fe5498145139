-- The plan of a draft is what its changes write, and then the rest of it.
use Rattle.std.proofs.Common.{◌≡◌, ℕ, List, [], ◌++◌, map, Option, Some, option_and_then, Result, sym, subst}
use Rattle.std.specs.Option.{option_map}
use Rattle.rep_op.specs.declared.op.Op.{Op}
use Rattle.rep_model.specs.declared.view.ClientView.{ClientView}
use Rattle.rep_model.specs.Views.{view}
use Rattle.rep_model.specs.Fresh.{next_clock, next_epoch, next_seq}
use Rattle.sn_local.specs.declared.fault.StepFault.{StepFault}
use Rattle.sn_plan.specs.declared.plan.Plan.{Plan}
use Rattle.sn_plan.specs.Drafts.{Drafted}
use Rattle.sn_plan.specs.Numbering.{Written, start_of, changes_written, numbered, ack_of, plan_with, rest_of, planned}
use Rattle.sn_plan.specs.Plans.{GivesPlan}
use Rattle.sn_plan.proofs.plan.plan_of.Goals as goal

after_changes : (g : ℕ) (c : List ℕ) (v : ClientView) (epoch : Option ℕ) (seq clock : List ℕ → Option ℕ) (d left : Drafted) (start w : Written) (ops : List Op) (result : Result Plan StepFault) → start ≡ start_of g v epoch → left ≡ record d { changes = [] } → changes_written c g d.changes start ≡ Some w → ops ≡ w.ops → GivesPlan result (option_map (plan_with left) (numbered g c seq clock left (ops ++ map (ack_of c) left.acks))) → GivesPlan result (planned g c v epoch seq clock d)
unfolding planned
after_changes g c v epoch seq clock d left start w ops result begun is found same h =
    subst (λ (o : Option Written). GivesPlan result (option_and_then (rest_of g c seq clock d) o)) (sym (subst (λ (s : Written). changes_written c g d.changes s ≡ Some w) begun found))
    (subst (λ (x : List Op). GivesPlan result (option_map (plan_with d) (numbered g c seq clock d (x ++ map (ack_of c) d.acks)))) same
    (subst (λ (x : Drafted). GivesPlan result (option_map (plan_with x) (numbered g c seq clock x (ops ++ map (ack_of c) x.acks)))) is h))

-- src/plan.rt:128:1
pub returns : goal.returns
returns g c =
    let kept = g.R.Replica.kept c.args.replica.now in
    after_changes c.args.gateway c.args.client.now (view c.args.client.now kept) (next_epoch c.args.client.now kept) (λ e. next_seq e c.args.gateway kept) (λ t. next_clock t kept) c.args.draft c.take_changes-changes.new.self c.in-Ok.writer c.write_all.new.self c.into_ops.result.items c.rest_of-2.result c.in-Ok.ensures c.take_changes-changes.ensures.left (subst (λ (changes : List _). changes_written c.args.client.now c.args.gateway changes c.in-Ok.writer ≡ Some c.write_all.new.self) c.take_changes-changes.ensures.taken c.in_default.ensures) c.into_ops.ensures c.rest_of-2.ensures
