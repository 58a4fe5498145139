-- time goes by: one part of the bridge after the other
use Rattle.std.proofs.Common.{◌≡◌, ◌∙◌, ap}
use Rattle.br_core.specs.declared.settings.Settings.{Settings}
use Rattle.br_core.specs.declared.state.Bridge.{Bridge}
use Rattle.br_core.specs.declared.state.Moment.{Moment}
use Rattle.br_core.specs.Commands.{down_tick}
use Rattle.br_core.specs.Lanes.{lane_tick}
use Rattle.br_core.specs.Steps.{each_lane, rouses, side_tick, ticks}

pub all-ticked : (settings : Settings) (m : Moment) (b roused lanes down new : Bridge) → roused ≡ rouses settings m b → lanes ≡ each_lane settings (λ place. lane_tick place m) roused
    → down ≡ down_tick settings.commands m lanes → new ≡ side_tick settings m down → new ≡ ticks settings m b
all-ticked settings m b roused lanes down new e f g h =
    let F : Bridge → Bridge = λ x. each_lane settings (λ place. lane_tick place m) x in
    let G : Bridge → Bridge = λ x. down_tick settings.commands m x in
    let H : Bridge → Bridge = λ x. side_tick settings m x in
    h ∙ ap H (g ∙ ap G (f ∙ ap F e))
