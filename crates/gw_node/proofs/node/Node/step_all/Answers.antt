use Rattle.std.proofs.Common.{List, length, map, take, drop, ap, sym, subst, arith}
use Rattle.std.specs.Arc.{arc_value}
use Rattle.gw_answer.specs.declared.step.Step.{Step}
use Rattle.gw_node.specs.Parts.{state_of}
use Rattle.gw_node.specs.Standing.{EventsOn}
use Rattle.gw_node.specs.inner.Rows.{RowCall}
use Rattle.gw_node.proofs.Together.{row_events, row_some, row_failures}
use Rattle.gw_node.proofs.Finishing.{first_and_rest, rest_many, all_behind}
use Rattle.gw_node.proofs.node.Node.step_all.Goals as goal

pub play-requires : goal.play-requires
play-requires g c =
    let many = rest_many arc_value c.args.steps.now c.requires.some in
    let room = c.requires.room.1 in
    (c.requires.room.0, omega (arith, many, room))

pub returns-clause-some : goal.returns-clause-some
returns-clause-some g c =
    let old = state_of g.R.Replica.kept c.args.self.now in
    let new = state_of g.R.Replica.kept c.play.new.node in
    let rest = map arc_value (drop 1 c.args.steps.now) in
    let row : RowCall old (arc_value c.index-steps-0.result) rest c.play.result.items new =
    subst (λ (s : Step). RowCall old s rest c.play.result.items new) c.deref.ensures
    (subst (λ (cs : List Step). RowCall old c.deref.result.now cs c.play.result.items new) (ap (λ xs. map arc_value xs) (all_behind c.args.steps.now c.requires.some)) c.play.ensures) in
    let some = row_some old (arc_value c.index-steps-0.result) rest c.play.result.items new row in
    let first = some.0 in
    let few = some.1 in
    let many = rest_many arc_value c.args.steps.now c.requires.some in
    (omega (arith, first), omega (arith, few, many))

pub returns-clause-events : goal.returns-clause-events
returns-clause-events g c =
    let old = state_of g.R.Replica.kept c.args.self.now in
    let new = state_of g.R.Replica.kept c.play.new.node in
    let rest = map arc_value (drop 1 c.args.steps.now) in
    let row : RowCall old (arc_value c.index-steps-0.result) rest c.play.result.items new =
    subst (λ (s : Step). RowCall old s rest c.play.result.items new) c.deref.ensures
    (subst (λ (cs : List Step). RowCall old c.deref.result.now cs c.play.result.items new) (ap (λ xs. map arc_value xs) (all_behind c.args.steps.now c.requires.some)) c.play.ensures) in
    subst (λ (calls : List Step). EventsOn (state_of g.R.Replica.kept c.args.self.now) (take (length c.play.result.items) calls) c.play.result.items (state_of g.R.Replica.kept c.play.new.node))
    (sym (first_and_rest arc_value c.args.steps.now c.index-steps-0.result c.requires.some c.index-steps-0.is))
    (row_events old (arc_value c.index-steps-0.result) rest c.play.result.items new row)

pub returns-clause-failures : goal.returns-clause-failures
returns-clause-failures g c =
    let old = state_of g.R.Replica.kept c.args.self.now in
    let new = state_of g.R.Replica.kept c.play.new.node in
    let rest = map arc_value (drop 1 c.args.steps.now) in
    let row : RowCall old (arc_value c.index-steps-0.result) rest c.play.result.items new =
    subst (λ (s : Step). RowCall old s rest c.play.result.items new) c.deref.ensures
    (subst (λ (cs : List Step). RowCall old c.deref.result.now cs c.play.result.items new) (ap (λ xs. map arc_value xs) (all_behind c.args.steps.now c.requires.some)) c.play.ensures) in
    row_failures old (arc_value c.index-steps-0.result) rest c.play.result.items new row
