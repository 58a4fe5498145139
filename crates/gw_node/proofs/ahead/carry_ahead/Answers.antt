use Rattle.std.proofs.Common.{◌≡◌, ◌++◌, Option, Some, List, ◌⊎◌, refl, sym, ap, ◌∙◌, subst, append-nil}
use Rattle.std.specs.Option.{option_to_list}
use Rattle.rep_op.specs.declared.op.Op.{Op}
use Rattle.rep_ops.specs.Making.{HaveOwnNames, IsDeltaOf}
use Rattle.rep_model.specs.Keep.{IsKeptOf}
use Rattle.sn_local.specs.Locals.{after_all}
use Rattle.gw_answer.specs.declared.out.Out.{Out}
use Rattle.gw_answer.specs.Answers.{only_sends}
use Rattle.gw_node.specs.Parts.{State, state_of}
use Rattle.gw_node.specs.Plans.{IsMisfit}
use Rattle.gw_node.specs.inner.Handling.{HaveNoDelta}
use Rattle.gw_node.specs.inner.Ahead.{MakesAhead}
use Rattle.gw_node.proofs.Unwritten.{made_ahead, not_ready}
use Rattle.gw_node.proofs.ahead.carry_ahead.Goals as goal

-- ---- the operations make no delta that can be taken

pub returns-in-Err-clause-call : goal.returns-in-Err-clause-call
returns-in-Err-clause-call g c =
    rw c.let_go.ensures (not_ready (state_of g.R.Replica.kept c.args.node.now)
    (record { config = c.args.node.now.config; kept = g.R.Replica.kept c.make_ready.new.replica; local = c.make_ready.new.dialogs.local; journal = c.args.node.now.journal; records = c.args.node.now.records })
    c.args.plan c.in-Err.refusal
    (subst (λ (ops : List Op). HaveNoDelta ops c.in-Err.refusal ⊎ ((delta : List Op) × IsDeltaOf ops delta × IsMisfit (g.R.Replica.kept c.args.node.now.replica) delta c.in-Err.refusal)) c.into_vec.ensures c.in-Err.ensures.err)
    (record { config = refl; kept = c.make_ready.ensures.unchanged; local = c.make_ready.ensures.local; journal = record { gateway = refl; slot = refl; generation = refl; halted = refl; disk = refl }; records = refl }))

pub returns-in-Err-clause-records : goal.returns-in-Err-clause-records
returns-in-Err-clause-records g c = sym (append-nil c.args.records.now)

pub returns-in-Err-clause-can : goal.returns-in-Err-clause-can
returns-in-Err-clause-can g c = (c.make_ready.ensures.aside c.args.aside.now c.requires.can).0

pub returns-in-Err-clause-back : goal.returns-in-Err-clause-back
returns-in-Err-clause-back g c = (c.make_ready.ensures.aside c.args.aside.now c.requires.can).1

-- ---- no memory for the answer, for what lies aside, or for the record

pub answer_made-requires-clause-can : goal.answer_made-requires-clause-can
answer_made-requires-clause-can g c = (c.make_ready.ensures.aside c.args.aside.now c.requires.can).0

pub returns-in_default-clause-records : goal.returns-in_default-clause-records
returns-in_default-clause-records g c = c.in_default.ensures.err ∙ sym (append-nil c.args.records.now)

pub returns-in_default-clause-back : goal.returns-in_default-clause-back
returns-in_default-clause-back g c = c.answer_made.ensures.back ∙ (c.make_ready.ensures.aside c.args.aside.now c.requires.can).1

-- ---- all is done

pub returns-clause-call : goal.returns-clause-call
returns-clause-call g c =
    let old = state_of g.R.Replica.kept c.args.node.now in
    let delta : List Op = c.in-Ok.ready.1 in
    let answer_is : c.in-Ok-answer_made.answer ≡ record (only_sends c.args.plan.sends) { made = Some delta } = c.in-Ok-answer_made.ensures.answer ∙ c.of_plan-out.ensures in
    let made_is : c.in-Ok-answer_made.answer.made ≡ Some delta = ap (λ (out : Out). out.made) answer_is in
    let new : State g.D.Disk = record { config = c.args.node.now.config; kept = g.R.Replica.kept c.commit.new.self; local = c.apply_local_after_delta-node.new.dialogs.local; journal = c.args.node.now.journal; records = c.args.node.now.records } in
    record {
      config = refl;
      records = refl;
      journal = record { gateway = refl; slot = refl; generation = refl; halted = refl; disk = refl };
      local = c.apply_local_after_delta-node.ensures.done ∙ ap (λ l. after_all l c.args.plan.local) c.make_ready.ensures.local;
      apart = subst HaveOwnNames c.into_vec.ensures c.in-Ok.ensures.apart;
      made = subst (λ (made : Option (List Op)). MakesAhead c.args.plan.ops made old new) (sym made_is)
          (made_ahead c.args.plan.ops delta old new c.requires.some
          (subst (λ (ops : List Op). IsDeltaOf ops delta) c.into_vec.ensures c.in-Ok.ensures.delta)
          c.in-Ok.ensures.fits
          (subst (λ (kept : List Op). IsKeptOf (g.R.Replica.kept c.args.node.now.replica ++ delta) kept) (sym c.commit.ensures.kept) c.in-Ok.ensures.taken)
          c.in-Ok.ensures.writable);
      answer = answer_is ∙ ap (λ (made : Option (List Op)). record (only_sends c.args.plan.sends) { made = made }) (sym made_is);
    }

pub returns-clause-records : goal.returns-clause-records
returns-clause-records g c =
    c.in-Ok-answer_made.ensures.ok ∙ ap (λ (out : Out). c.args.records.now ++ option_to_list out.made) (sym c.in-Ok-answer_made.ensures.answer)

pub returns-clause-can : goal.returns-clause-can
returns-clause-can g c = (c.commit.ensures.aside c.answer_made.new.aside c.in-Ok-answer_made.ensures.saved c.answer_made.ensures.can).0

pub returns-clause-back : goal.returns-clause-back
returns-clause-back g c =
    (c.commit.ensures.aside c.answer_made.new.aside c.in-Ok-answer_made.ensures.saved c.answer_made.ensures.can).1
    ∙ c.answer_made.ensures.back ∙ (c.make_ready.ensures.aside c.args.aside.now c.requires.can).1
