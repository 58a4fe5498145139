use Rattle.std.proofs.Common.{◌≡◌, ◌≤◌, ◌++◌, List, length, map, ap, ◌∙◌, arith}
use Rattle.std.proofs.lemmas.List.{length-take-le}
use Rattle.std.specs.Arc.{arc_value}
use Rattle.std.proofs.Math.Logic.{∥∥₁_map}
use Rattle.gw_answer.specs.declared.step.Step.{Step}
use Rattle.gw_shift.specs.Calls.{Call}
use Rattle.gw_shift.specs.inner.Passes.{calls_of}
use Rattle.gw_shift.proofs.Histories.{go_on_together, do_so}
use Rattle.gw_shift.proofs.locked.Locked.make_all.Goals as goal

pub invariant_of-self-clause-legal : goal.invariant_of-self-clause-legal
invariant_of-self-clause-legal g c =
    let all = c.step_all-replies in
    let short = length-take-le c.args.most c.args.steps.now c.requires.some.1 in
    let few : length all.result.items ≤ c.args.most = omega (arith, all.ensures.some.1, short) in
    let entered = c.row_of-made.ensures.entries ∙ ap (λ (ss : List Step). calls_of c.args.place ss all.result.items) c.requires.room.shares in
    ∥∥₁_map
    c.args.self.now.legal
    (go_on_together
    _
    _
    _
    (calls_of c.args.place (map arc_value c.args.steps.now) all.result.items)
    _
    _
    _
    (c.move_behind.ensures.items ∙ ap (λ (calls : List Call). c.args.self.now.history.items ++ calls) entered)
    (do_so _ c.args.place c.args.most c.args.steps.now all.result.items _ all.ensures.some.0 few c.requires.some.1 all.ensures.events all.ensures.failures))
