use Rattle.std.proofs.Common.{sym, ap}
use Rattle.std.specs.Option.{option_map}
use Rattle.sn_tables.specs.declared.subscriptions.Subscription.{Subscription}
use Rattle.sn_tables.proofs.SubscriptionPlaces.{found, absent}
use Rattle.sn_tables.proofs.subscriptions.Subscriptions.qos_of.Goals as goal

pub returns-in-Ok : goal.returns-in-Ok
returns-in-Ok c =
    let there = found c.as_slice-entries.result.now c.in-Ok.at c.args.filter.now c.index-entries-at.result c.in-Ok.ensures.1 in
    rw (← c.self.view_is, ← c.as_slice-entries.ensures.value) (sym (ap (option_map (λ (e : Subscription). e.qos)) there))

pub returns-in-Err : goal.returns-in-Err
returns-in-Err c =
    let gap = absent c.as_slice-entries.result.now c.in-Err.field-0 c.args.filter.now c.in-Err.ensures.1 in
    rw (← c.self.view_is, ← c.as_slice-entries.ensures.value) (sym (ap (option_map (λ (e : Subscription). e.qos)) gap))
