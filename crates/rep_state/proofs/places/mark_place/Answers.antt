use Rattle.std.proofs.Common.{sym}
use Rattle.rep_state.proofs.Asking.{set_marked, gap_same}
use Rattle.rep_state.proofs.places.mark_place.Goals as goal

pub returns-in-Ok : goal.returns-in-Ok
returns-in-Ok c =
    set_marked c.args.client.now c.args.marks c.args.places.now.items c.in-Ok.at c.index_mut.result.now c.index_mut.ensures.value (rw c.as_slice.ensures.value at c.in-Ok.ensures.1)

pub returns-in_default : goal.returns-in_default
returns-in_default c = sym (gap_same c.args.client.now c.args.marks c.args.places.now.items c.in_default.field-0 (rw c.as_slice.ensures.value at c.in_default.ensures.1))
