use Rattle.std.proofs.Common.{◌≡◌, take}
use Rattle.sn_tables.proofs.subscriptions.Subscriptions.copied.Given as goal

abbrev pub invariant-loop-entry : goal.invariant-loop-entry
invariant-loop-entry l = l.entries.items ≡ take l.entry-index l.entry-items
