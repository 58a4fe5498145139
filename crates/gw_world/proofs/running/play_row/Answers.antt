-- The calls as the node was asked them, its answers, and what these tell of.
use Rattle.std.proofs.Common.{map, ap, ◌∙◌, sym, subst}
use Rattle.std.specs.Arc.{arc_value}
use Rattle.gw_world.specs.Field.{AreStepsOf}
use Rattle.std.specs.List.{AllByRecursion}
use Rattle.gw_answer.specs.Answers.{said}
use Rattle.gw_event.specs.Together.{CanWrite}
use Rattle.gw_node.specs.Parts.{state_of}
use Rattle.gw_world.specs.Whole.{made_of_all}
use Rattle.gw_world.specs.inner.Events.{listing, RowAt, Join}
use Rattle.gw_world.proofs.Agreeing.{steps-write}
use Rattle.gw_world.proofs.running.play_row.Goals as goal

pub row_at-requires-clause-write : goal.row_at-requires-clause-write
row_at-requires-clause-write g c =
    subst (λ ss. AllByRecursion CanWrite (map arc_value ss)) (sym c.as_slice-2.ensures.value)
    (steps-write (listing c.args.deltas.now.items) c.args.calls.now (map arc_value c.in-Ok.steps.items)
    (subst (λ ds. AreStepsOf (listing ds) c.args.calls.now (map arc_value c.in-Ok.steps.items)) c.as_slice.ensures.value c.in-Ok.ensures.ok))

pub returns-clause-ok : goal.returns-clause-ok
returns-clause-ok g c =
    let olds = map (λ node. state_of g.R.Replica.kept node) c.args.nodes.now.items in
    let news = map (λ node. state_of g.R.Replica.kept node) c.row_at.new.nodes.items in
    let is = c.new.ensures in (
      map arc_value c.in-Ok.steps.items,
      subst (λ ds. AreStepsOf (listing ds) c.args.calls.now (map arc_value c.in-Ok.steps.items)) c.as_slice.ensures.value c.in-Ok.ensures.ok,
      subst (λ answers. RowAt olds c.args.place (map arc_value c.in-Ok.steps.items) (map said answers) news) (sym is)
          (subst (λ ss. RowAt olds c.args.place (map arc_value ss) (map said c.in_ok-answers.answers.items) news) c.as_slice-2.ensures.value c.in_ok-answers.ensures),
      subst (λ answers. Join c.args.deltas.now.items (made_of_all (map said answers)) c.record_row.new.deltas.items) (c.as_slice-3.ensures.value ∙ sym is) c.in_ok-record_row.ensures,
    )
