use Rattle.std.proofs.Common.{◌∙◌}
use Rattle.sn_tables.proofs.ReceivedPlaces.{answers}
use Rattle.sn_tables.proofs.received.Received.contains.Goals as goal

pub returns : goal.returns
returns c =
    let is = c.is_ok.ensures.value ∙ answers c.args.id c.as_slice.result.now c.place.result c.place.ensures in
    rw (← c.self.view_is, ← c.as_slice.ensures.value) is
