use Rattle.std.proofs.Common.{◌≡◌, drop, fold}
use Rattle.sn_tables.specs.Subscriptions.{asked_qos, or_greater, subscribed_qos}
use Rattle.sn_tables.proofs.subscriptions.Subscriptions.subscribed_qos.Given as goal

-- what is left decides
abbrev pub invariant-loop-entry : goal.invariant-loop-entry
invariant-loop-entry l = fold or_greater l.greatest (asked_qos l.name (drop l.entry-index l.entry-items)) ≡ subscribed_qos l.name l.fn.self
