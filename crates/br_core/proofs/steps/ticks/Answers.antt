use Rattle.std.proofs.Common.{◌≡◌}
use Rattle.br_core.specs.Steps.{side_tick, ticks}
use Rattle.br_core.proofs.Seats.{on-ok}
use Rattle.br_core.proofs.Ticking.{all-ticked}
use Rattle.br_core.proofs.steps.ticks.Goals as goal

pub returns : goal.returns
returns c =
    let settings = c.args.settings.now in
    let down = c.down_tick.new.bridge in
    let new = c.side_tick.new.bridge in
    on-ok c.side_tick.result (new ≡ side_tick settings c.args.m down) (new ≡ ticks settings c.args.m c.args.bridge.now)
    (λ h. all-ticked settings c.args.m c.args.bridge.now c.rouses.new.bridge c.all_work.new.bridge down new c.in_ok-rouses.ensures c.in_ok-all_work.ensures c.in_ok-down_tick.ensures h)
    c.side_tick.ensures
