-- It goes on as the gateway does for which it stands.
use Rattle.gw_answer.specs.declared.step.Step.TheVariants as steps
use Rattle.gw_node.specs.Parts.{state_of}
use Rattle.gw_answer.specs.Answers.{said}
use Rattle.gw_world.specs.inner.Events.{GoesOn}
use Rattle.gw_world.proofs.Going.{goes_on, if_fed}
use Rattle.gw_world.proofs.field.tick_to.Goals as goal

pub returns : goal.returns
returns g c =
    if_fed c.unless_starved.result said (said c.tick-answer.result) (λ answer. GoesOn (state_of g.R.Replica.kept c.args.node.now) (steps.Tick c.args.now) answer (state_of g.R.Replica.kept c.tick-answer.new.self))
    c.unless_starved.ensures.same c.unless_starved.ensures.memory c.unless_starved.ensures.fed
    (λ memory fed. goes_on (state_of g.R.Replica.kept c.args.node.now) (state_of g.R.Replica.kept c.tick-answer.new.self) (steps.Tick c.args.now) (said c.tick-answer.result) tt fed memory (λ gateway s. tt) c.tick-answer.ensures.event)
