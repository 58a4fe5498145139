use Rattle.std.proofs.Common.{◌≡◌, ◌++◌, Option, Some, Ok, Err, List, ◌⊎◌, refl, sym, ap, ◌∙◌, subst}
use Rattle.rep_op.specs.declared.op.Op.{Op}
use Rattle.rep_ops.specs.Making.{HaveOwnNames, IsDeltaOf}
use Rattle.rep_model.specs.Keep.{IsKeptOf}
use Rattle.sn_local.specs.Locals.{after_all}
use Rattle.gw_answer.specs.declared.out.Out.{Out}
use Rattle.gw_node.specs.Parts.{state_of}
use Rattle.gw_answer.specs.Answers.{only_sends}
use Rattle.gw_node.specs.inner.Writing.{WrittenIfMade, refusal_of_journal}
use Rattle.gw_node.specs.Plans.{IsMisfit, Makes}
use Rattle.gw_node.specs.inner.Handling.{HaveNoDelta}
use Rattle.gw_node.proofs.Calling.{makes, not_ready, given_up}
use Rattle.gw_node.proofs.carrying.write_and_apply.Goals as goal

pub returns-in-Err : goal.returns-in-Err
returns-in-Err g c =
    rw c.refuse.ensures (not_ready (state_of g.R.Replica.kept c.args.node.now)
    (record { config = c.args.node.now.config; kept = g.R.Replica.kept c.make_ready.new.replica; local = c.make_ready.new.dialogs.local; journal = c.args.node.now.journal; records = c.args.node.now.records })
    c.args.plan c.args.excuse c.in-Err.refusal
    (subst (λ (ops : List Op). HaveNoDelta ops c.in-Err.refusal ⊎ ((delta : List Op) × IsDeltaOf ops delta × IsMisfit (g.R.Replica.kept c.args.node.now.replica) delta c.in-Err.refusal)) c.into_vec.ensures c.in-Err.ensures.err)
    (record { config = refl; kept = c.make_ready.ensures.unchanged; local = c.make_ready.ensures.local; journal = record { gateway = refl; slot = refl; generation = refl; halted = refl; disk = refl }; records = refl }))

pub returns-in-Ok-write_if_made : goal.returns-in-Ok-write_if_made
returns-in-Ok-write_if_made g c =
    let old = state_of g.R.Replica.kept c.args.node.now in
    let delta : List Op = c.in-Ok.ready.1 in
    let answer_is : c.in-Ok-shares_of.answer ≡ record (only_sends c.args.plan.sends) { made = Some delta } = c.in-Ok-shares_of.ensures.answer ∙ c.of_plan.ensures in
    let made_is : c.in-Ok-shares_of.answer.made ≡ Some delta = ap (λ (out : Out). out.made) answer_is in
    let given_is : c.out.result.now.made ≡ Some delta = ap (λ (out : Out). out.made) c.out.ensures ∙ made_is in
    record {
      config = refl;
      records = refl;
      local = c.apply_local_after_delta-node.ensures.done ∙ ap (λ l. after_all l c.args.plan.local) c.make_ready.ensures.local;
      apart = subst HaveOwnNames c.into_vec.ensures c.in-Ok.ensures.apart;
      made = subst (λ (made : Option (List Op)). Makes c.args.plan.ops made old
          (record { config = c.args.node.now.config; kept = g.R.Replica.kept c.commit.new.self; local = c.apply_local_after_delta-node.new.dialogs.local; journal = c.write_if_made.new.journal; records = c.args.node.now.records })) (sym made_is)
          (makes c.args.plan.ops delta old
          (record { config = c.args.node.now.config; kept = g.R.Replica.kept c.commit.new.self; local = c.apply_local_after_delta-node.new.dialogs.local; journal = c.write_if_made.new.journal; records = c.args.node.now.records })
          c.requires.some
          (subst (λ (ops : List Op). IsDeltaOf ops delta) c.into_vec.ensures c.in-Ok.ensures.delta)
          c.in-Ok.ensures.fits
          (subst (λ (kept : List Op). IsKeptOf (g.R.Replica.kept c.args.node.now.replica ++ delta) kept) (sym c.commit.ensures.kept) c.in-Ok.ensures.taken)
          (subst (λ (made : Option (List Op)). WrittenIfMade c.args.node.now.journal made (Ok c.in-Ok-write_if_made.field-0) c.write_if_made.new.journal) given_is c.in-Ok-write_if_made.ensures)
          c.in-Ok.ensures.writable);
      answer = answer_is ∙ ap (λ (made : Option (List Op)). record (only_sends c.args.plan.sends) { made = made }) (sym made_is);
    }

pub returns-in-Err-write_if_made : goal.returns-in-Err-write_if_made
returns-in-Err-write_if_made g c =
    let delta : List Op = c.in-Ok.ready.1 in
    let told : c.refused.result ≡ refusal_of_journal c.in-Err-write_if_made.fault c.args.excuse = c.refused.ensures ∙ ap (refusal_of_journal c.in-Err-write_if_made.fault) c.in-Ok-shares_of.ensures.excuse in
    let answer_is : c.in-Ok-shares_of.answer ≡ record (only_sends c.args.plan.sends) { made = Some delta } = c.in-Ok-shares_of.ensures.answer ∙ c.of_plan.ensures in
    let given_is : c.out.result.now.made ≡ Some delta = ap (λ (out : Out). out.made) c.out.ensures ∙ ap (λ (out : Out). out.made) answer_is in
    rw told (given_up (state_of g.R.Replica.kept c.args.node.now)
    (record { config = c.args.node.now.config; kept = g.R.Replica.kept c.make_ready.new.replica; local = c.make_ready.new.dialogs.local; journal = c.write_if_made.new.journal; records = c.args.node.now.records })
    c.args.plan c.args.excuse delta c.in-Err-write_if_made.fault c.requires.some c.requires.excuse
    (subst HaveOwnNames c.into_vec.ensures c.in-Ok.ensures.apart)
    (subst (λ (ops : List Op). IsDeltaOf ops delta) c.into_vec.ensures c.in-Ok.ensures.delta)
    c.in-Ok.ensures.limit c.in-Ok.ensures.fits refl c.make_ready.ensures.unchanged c.make_ready.ensures.local refl
    (subst (λ (made : Option (List Op)). WrittenIfMade c.args.node.now.journal made (Err c.in-Err-write_if_made.fault) c.write_if_made.new.journal) given_is c.in-Err-write_if_made.ensures))
