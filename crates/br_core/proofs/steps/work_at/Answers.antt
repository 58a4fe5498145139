use Rattle.std.proofs.Common.{◌≡◌, ◌∙◌, Some, sym, subst}
use Rattle.std.specs.Prelude.{slice_get}
use Rattle.br_core.specs.declared.settings.LaneSettings.{LaneSettings}
use Rattle.br_core.specs.declared.state.Bridge.{Bridge}
use Rattle.br_core.specs.declared.state.Lane.{Lane}
use Rattle.br_core.specs.inner.Works.{worked}
use Rattle.br_core.specs.Steps.{at_lane}
use Rattle.br_core.proofs.Seats.{at-lane-is, on-ok, there-is}
use Rattle.br_core.proofs.steps.work_at.Goals as goal

pub returns : goal.returns
returns c =
    let own : slice_get c.args.settings.now.lanes c.args.place ≡ Some c.in-Some.own.now =
    there-is LaneSettings c.args.settings.now.lanes c.as_slice.result.now c.args.place c.in-Some.own.now c.as_slice.ensures c.in-Some.ensures.lookup.3.0 c.in-Some.ensures.lookup.1 in
    let there : slice_get c.args.bridge.now.lanes c.args.place ≡ Some c.in-Some-get.lane.now =
    there-is Lane c.args.bridge.now.lanes c.as_slice-2.result.now c.args.place c.in-Some-get.lane.now c.as_slice-2.ensures c.in-Some-get.ensures.lookup.3.0 c.in-Some-get.ensures.lookup.1 in
    let f : LaneSettings → Lane → Bridge → Bridge = worked c.args.work c.args.place in
    let P : Lane → Type 0 = λ lane. f c.in-Some.own.now lane c.args.bridge.now ≡ at_lane c.args.settings.now c.args.place f c.args.bridge.now in
    let whole = subst P (sym c.in_ok-lane.ensures) (at-lane-is c.args.settings.now c.args.place f c.args.bridge.now c.in-Some.own.now c.in-Some-get.lane.now own there) in
    on-ok c.works.result (c.works.new.bridge ≡ f c.in-Some.own.now c.in_ok-lane.lane c.args.bridge.now)
    (c.works.new.bridge ≡ at_lane c.args.settings.now c.args.place f c.args.bridge.now) (λ e. e ∙ whole) c.works.ensures
