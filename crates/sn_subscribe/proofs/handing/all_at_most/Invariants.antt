-- What is made and what is left to make are the whole.
use Rattle.std.proofs.Common.{◌≡◌, ◌++◌, map}
use Rattle.std.specs.Vec.Iter.{into_iter_items}
use Rattle.sn_subscribe.specs.Handing.{at_most}
use Rattle.sn_subscribe.proofs.handing.all_at_most.Given as goal

abbrev pub invariant-loop-topic : goal.invariant-loop-topic
invariant-loop-topic l = l.handed.items ++ map (at_most l.qos) (into_iter_items l.topic-iterator) ≡ map (at_most l.qos) l.fn.offered.items
