use Rattle.std.proofs.Common.{◌≡◌, ◌-◌, ◌+◌, ◌≤◌, ◌++◌, [], length, map, vec_len, vec_capacity, All}
use Rattle.std.specs.Vec.Iter.{into_iter_items}
use Rattle.crossbeam_channel.specs.Claims.{view, IsSeatAt}
use Rattle.crossbeam_channel.specs.Ends.{sends_on}
use Rattle.gw_serve.specs.inner.Queue.{hand, whole}
use Rattle.gw_serve.specs.inner.Work.{IsFreshSlot, pass_of}
use Rattle.gw_serve.proofs.serving.seated.Given as goal

abbrev pub invariant-loop-pass : goal.invariant-loop-pass
invariant-loop-pass l =
    IsSeatAt (sends_on l.sender) l.root
    × (view l.root ≡ hand (whole - length l.slots.items) [] [])
    × All (IsFreshSlot (sends_on l.sender)) l.slots.items
    × (map pass_of l.slots.items ++ into_iter_items l.pass-iterator ≡ l.fn.passes.items)
    × (vec_len l.slots + length (into_iter_items l.pass-iterator) ≤ vec_capacity l.slots)
