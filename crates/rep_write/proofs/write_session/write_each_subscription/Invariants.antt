use Rattle.std.proofs.Common.{◌≡◌, ◌++◌, take}
use Rattle.std.specs.List.{flat_map}
use Rattle.rep_op.specs.Sessions.{subscription_octets}
use Rattle.rep_write.proofs.write_session.write_each_subscription.Given as goal

abbrev pub invariant-loop-entry : goal.invariant-loop-entry
invariant-loop-entry l = l.out.items ≡ l.fn.out.items ++ flat_map subscription_octets (take l.entry-index l.entries)
