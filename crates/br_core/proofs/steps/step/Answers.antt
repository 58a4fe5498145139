use Rattle.std.proofs.Common.{◌≡◌, List, OnOk, sym, subst}
use Rattle.br_core.specs.declared.action.Action.{Action}
use Rattle.br_core.specs.declared.event.Event.{Event}
use Rattle.br_core.specs.Steps.{step, ticks}
use Rattle.br_core.proofs.steps.step.Goals as goal

pub returns-in-Tick : goal.returns-in-Tick
returns-in-Tick c =
    let settings = c.args.settings.now in
    let new = c.ticks.new.bridge in
    let P : Event → Type 0 = λ event. OnOk c.ticks.result (new ≡ step settings event c.args.m c.args.bridge.now) in
    let Q : List Action → Type 0 = λ out. OnOk c.ticks.result (new ≡ ticks settings c.args.m (record c.args.bridge.now { out = out })) in
    subst P (sym c.in-Tick.is) (subst Q c.empty.ensures c.ticks.ensures)
