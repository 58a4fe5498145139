-- From the first call to the last.
use Rattle.std.proofs.Common.{◌≡◌, ◌≤◌, length, map, refl, sym, ap, ◌∙◌, subst, arith}
use Rattle.std.specs.Arc.{arc_value}
use Rattle.std.specs.Prelude.{vec_len}
use Rattle.gw_node.specs.Parts.{state_of}
use Rattle.gw_answer.specs.Answers.{said}
use Rattle.gw_world.proofs.Rowing.{row-starts, row-ends, both-long}
use Rattle.gw_world.proofs.rows.row_to.Goals as goal

pub rows-init : goal.rows-init
rows-init g c =
    let none = c.in_ok-answers.ensures.len in
    rw c.in_ok-answers.ensures.items (omega (arith, none), λ gateway shown along. row-starts (state_of g.R.Replica.kept c.args.node.now) (map arc_value c.args.steps.now) gateway shown along)

pub rows-preserved : goal.rows-preserved
rows-preserved g c = (c.in_ok-one_row.ensures.most, λ gateway shown along. c.in_ok-one_row.ensures.row gateway (c.rows.invariant.1 gateway shown along))

pub rows-smaller : goal.rows-smaller
rows-smaller g c = let more = c.in_ok-one_row.ensures.more in let most = c.in_ok-one_row.ensures.most in omega (arith, more, most)

pub returns : goal.returns
returns g c = λ gateway shown along.
    row-ends (state_of g.R.Replica.kept c.rows.node) (map arc_value c.args.steps.now) (map said c.rows.answers.items) gateway
    (both-long arc_value said c.args.steps.now c.rows.answers.items (vec_len c.rows.answers) c.len.result c.rows.answers.ok.0 c.len.ensures c.rows.invariant.0 c.rows-test.false)
    (c.rows.invariant.1 gateway shown along)
