use Rattle.std.proofs.Common.{take, All}
use Rattle.rep_op.specs.Values.{IsSubscriptionValue}
use Rattle.rep_op.proofs.value.subscriptions_are_values.Given as goal

abbrev pub invariant-loop-entry : goal.invariant-loop-entry
invariant-loop-entry l = All IsSubscriptionValue (take l.entry-index l.entries)
