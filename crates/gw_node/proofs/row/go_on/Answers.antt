use Rattle.std.proofs.Common.{◌++◌, ◌∷◌, [], List, map, take, refl, sym, ap, ◌∙◌, subst, arith}
use Rattle.std.specs.Arc.{arc_value}
use Rattle.gw_answer.specs.declared.step.Step.{Step}
use Rattle.gw_node.specs.Parts.{state_of}
use Rattle.gw_node.proofs.Rows.{GoneOn, gone_none, gone_more, gone_stops, gone_all, gone_runs, one_more_of}
use Rattle.gw_node.proofs.row.go_on.Goals as goal

pub loop-index-init : goal.loop-index-init
loop-index-init g c =
    (gone_none (state_of g.R.Replica.kept c.args.node.now) c.args.replies.now.items c.args.unwritten.now.records, c.requires.can, refl, (let room = c.requires.room in omega (arith, room)))

pub one_more-requires-clause-runs : goal.one_more-requires-clause-runs
one_more-requires-clause-runs g c =
    gone_runs (state_of g.R.Replica.kept c.args.node.now) (state_of g.R.Replica.kept c.loop-index.node) (take c.loop-index.index (map arc_value c.args.rest.now)) c.args.replies.now.items c.loop-index.replies.items c.args.unwritten.now.records c.loop-index.unwritten.records
    c.requires.runs c.loop-index.invariant.0

pub one_more-requires-clause-can : goal.one_more-requires-clause-can
one_more-requires-clause-can g c = c.loop-index.invariant.1

pub one_more-requires-clause-room : goal.one_more-requires-clause-room
one_more-requires-clause-room g c = let room = c.loop-index.invariant.3 in let within = c.loop-index-test.true in omega (arith, room, within)

pub loop-index-preserved : goal.loop-index-preserved
loop-index-preserved g c =
    let old = state_of g.R.Replica.kept c.args.node.now in
    let mid = state_of g.R.Replica.kept c.loop-index.node in
    let new = state_of g.R.Replica.kept c.one_more.new.node in
    let steps = map arc_value c.args.rest.now in
    let step = c.index-rest-index.result in
    let calls = one_more_of arc_value c.args.rest.now c.loop-index.index step c.loop-index-test.true c.index-rest-index.is ∙ ap (λ (s : Step). take c.loop-index.index steps ++ s ∷ []) (sym c.deref.ensures) in (
      subst (λ (cs : List Step). GoneOn old cs c.args.replies.now.items c.args.unwritten.now.records c.one_more.new.replies.items c.one_more.new.unwritten.records new) (sym calls)
          (gone_more old mid new (take c.loop-index.index steps) c.deref.result.now c.args.replies.now.items c.loop-index.replies.items c.one_more.new.replies.items c.args.unwritten.now.records c.loop-index.unwritten.records c.one_more.new.unwritten.records
          c.loop-index.invariant.0 c.if-not-one_more.ensures.call),
      c.one_more.ensures.can,
      c.one_more.ensures.back ∙ c.loop-index.invariant.2,
      (let room = c.loop-index.invariant.3 in let within = c.loop-index-test.true in let capacity = c.one_more.ensures.room in let longer = c.if-not-one_more.ensures.length in omega (arith, room, within, capacity, longer)),
    )

pub returns-then-not-one_more-clause-calls : goal.returns-then-not-one_more-clause-calls
returns-then-not-one_more-clause-calls g c =
    gone_stops (state_of g.R.Replica.kept c.args.node.now) (state_of g.R.Replica.kept c.loop-index.node) (state_of g.R.Replica.kept c.one_more.new.node) c.loop-index.index (map arc_value c.args.rest.now) c.deref.result.now
    c.args.replies.now.items c.loop-index.replies.items c.one_more.new.replies.items c.args.unwritten.now.records c.loop-index.unwritten.records c.one_more.new.unwritten.records c.loop-index.invariant.0 c.if-not-one_more.ensures.call

pub returns-then-not-one_more-clause-back : goal.returns-then-not-one_more-clause-back
returns-then-not-one_more-clause-back g c = c.one_more.ensures.back ∙ c.loop-index.invariant.2

pub returns-clause-calls : goal.returns-clause-calls
returns-clause-calls g c =
    gone_all (state_of g.R.Replica.kept c.args.node.now) (state_of g.R.Replica.kept c.loop-index.node) c.loop-index.index (map arc_value c.args.rest.now) c.args.replies.now.items c.loop-index.replies.items c.args.unwritten.now.records c.loop-index.unwritten.records
    c.loop-index.invariant.0

pub returns-clause-can : goal.returns-clause-can
returns-clause-can g c = c.loop-index.invariant.1

pub returns-clause-back : goal.returns-clause-back
returns-clause-back g c = c.loop-index.invariant.2
