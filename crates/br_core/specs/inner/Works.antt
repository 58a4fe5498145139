-- What a lane does without a frame of its gateway, by its kind.
use Rattle.std.specs.Prelude.{ℕ}
use Rattle.br_core.specs.declared.settings.LaneSettings.{LaneSettings}
use Rattle.br_core.specs.declared.state.Bridge.{Bridge}
use Rattle.br_core.specs.declared.state.Lane.{Lane}
use Rattle.br_core.specs.declared.steps.Work.{Work}
use Rattle.br_core.specs.declared.steps.Work.TheVariants as works
use Rattle.br_core.specs.Lanes.{answers, falls_asleep, keeps, lane_tick, wakes}

abbrev pub worked : Work → ℕ → LaneSettings → Lane → Bridge → Bridge
worked (works.Tick m) place = lane_tick place m
worked works.Sleep place = falls_asleep place
worked (works.Wake m) place = wakes place m
worked (works.Answer number) place = answers number place
worked (works.Keep below) place = keeps below place
