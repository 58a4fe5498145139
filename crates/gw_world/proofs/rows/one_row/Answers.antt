-- The calls that have answers now are done, and the others are asked for again.
use Rattle.std.proofs.Common.{◌≡◌, ℕ, ◌≤◌, ◌<◌, ◌-◌, length, take, drop, refl, sym, ap, ◌∙◌, subst, inl, inr, arith}
use Rattle.std.specs.Prelude.{vec_len}
use Rattle.std.specs.Arc.{arc_value}
use Rattle.gw_node.specs.Parts.{state_of}
use Rattle.gw_answer.specs.Answers.{said}
use Rattle.gw_world.proofs.Rowing.{NoneFailed, slice-rest, heard-row, heard-more, heard-most}
use Rattle.gw_world.proofs.rows.one_row.Goals as goal

pub returns-clause-row : goal.returns-clause-row
returns-clause-row g c =
    heard-row arc_value said (state_of g.R.Replica.kept c.args.node.now) (state_of g.R.Replica.kept c.step_whole-replies.new.self) c.args.steps.now (take (length c.args.steps.now - c.len.result) (drop c.len.result c.args.steps.now)) c.args.answers.now.items c.tell_all.new.answers.items c.step_whole-replies.result.items (vec_len c.args.answers.now) (vec_len c.tell_all.new.answers)
    (record {
      part_is = slice-rest c.len.result (vec_len c.args.answers.now) c.args.steps.now c.len.ensures;
      front = c.args.answers.now.ok.0;
      all = c.tell_all.new.answers.ok.0;
      told = c.in_ok-tell_all.ensures.told;
      some = c.step_whole-replies.ensures.some.0;
      most = c.step_whole-replies.ensures.some.1;
      less = c.requires.some;
    })
    tt (sym c.starved.ensures ∙ c.if-starved.false) c.requires.write c.in_ok-tell_all.ensures.fed c.step_whole-replies.ensures.events
    (elim (c.is_cut.ensures c.if-is_cut.false) [ inl none ↦ inl (subst NoneFailed c.as_slice.ensures.value (c.has_failure-has_failed.ensures none)) | inr all ↦ inr (subst (λ (n : ℕ). length c.args.steps.now ≤ n) c.len-2.ensures all) ])

pub returns-clause-more : goal.returns-clause-more
returns-clause-more g c =
    heard-more arc_value said (state_of g.R.Replica.kept c.args.node.now) (state_of g.R.Replica.kept c.step_whole-replies.new.self) c.args.steps.now (take (length c.args.steps.now - c.len.result) (drop c.len.result c.args.steps.now)) c.args.answers.now.items c.tell_all.new.answers.items c.step_whole-replies.result.items (vec_len c.args.answers.now) (vec_len c.tell_all.new.answers)
    (record {
      part_is = slice-rest c.len.result (vec_len c.args.answers.now) c.args.steps.now c.len.ensures;
      front = c.args.answers.now.ok.0;
      all = c.tell_all.new.answers.ok.0;
      told = c.in_ok-tell_all.ensures.told;
      some = c.step_whole-replies.ensures.some.0;
      most = c.step_whole-replies.ensures.some.1;
      less = c.requires.some;
    })

pub returns-clause-most : goal.returns-clause-most
returns-clause-most g c =
    heard-most arc_value said (state_of g.R.Replica.kept c.args.node.now) (state_of g.R.Replica.kept c.step_whole-replies.new.self) c.args.steps.now (take (length c.args.steps.now - c.len.result) (drop c.len.result c.args.steps.now)) c.args.answers.now.items c.tell_all.new.answers.items c.step_whole-replies.result.items (vec_len c.args.answers.now) (vec_len c.tell_all.new.answers)
    (record {
      part_is = slice-rest c.len.result (vec_len c.args.answers.now) c.args.steps.now c.len.ensures;
      front = c.args.answers.now.ok.0;
      all = c.tell_all.new.answers.ok.0;
      told = c.in_ok-tell_all.ensures.told;
      some = c.step_whole-replies.ensures.some.0;
      most = c.step_whole-replies.ensures.some.1;
      less = c.requires.some;
    })
