use Rattle.std.proofs.Common.{◌≡◌, ◌+◌, ◌<◌, ◌≤◌, ◌++◌, ℕ, Some, None, List, length, vec_len, vec_capacity, All}
use Rattle.std.specs.Vec.Iter.{into_iter_items}
use Rattle.crossbeam_channel.specs.Claims.{view, IsSeatAt}
use Rattle.crossbeam_channel.specs.Ends.{sends_on}
use Rattle.gw_serve.specs.inner.Queue.{whole}
use Rattle.gw_serve.specs.declared.worker.Trouble.TheVariants as troubles
use Rattle.gw_serve.specs.Serving.{EachGains, HaveSeen}
use Rattle.gw_serve.specs.inner.Work.{IsDone, DoneFrom, IsGathered}
use Rattle.gw_shift.specs.Calls.{Holder}
use Rattle.gw_serve.proofs.serving.gather.Given as goal

abbrev pub invariant-loop-slot : goal.invariant-loop-slot
invariant-loop-slot l =
    IsSeatAt (sends_on l.sender) l.root
    × ((view l.root).parts + length (into_iter_items l.slot-iterator) ≡ whole)
    × (0 < (view l.root).parts)
    × ((view l.root).sent ≡ (view l.fn.root).sent)
    × All (IsDone (sends_on l.sender)) (into_iter_items l.slot-iterator)
    × (vec_len l.back + length (into_iter_items l.slot-iterator) ≤ vec_capacity l.back)
    × (vec_len l.back + length (into_iter_items l.slot-iterator) ≡ length l.fn.slots.items)
    × ((before : List Holder) → DoneFrom (sends_on l.sender) before l.fn.slots.items
    → ((done : List Holder) × (rest : List Holder) × (before ≡ done ++ rest) × DoneFrom (sends_on l.sender) rest (into_iter_items l.slot-iterator)
    × ((steps : List ℕ) × EachGains done steps l.back.items)
    × (l.fault ≡ None → IsGathered done (view l.root) l.taken.items l.left.items l.back.items)))
    × (l.fault ≡ Some troubles.Behind → HaveSeen l.back.items)
