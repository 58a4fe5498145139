use Rattle.std.proofs.Common.{◌≡◌, filter, take}
use Rattle.rep_model.specs.Topics.{is_offered}
use Rattle.rep_retain.proofs.table.offered.Given as goal

abbrev pub invariant-loop-topic : goal.invariant-loop-topic
invariant-loop-topic l = l.found.items ≡ filter (is_offered l.asked) (take l.topic-index l.entries)
