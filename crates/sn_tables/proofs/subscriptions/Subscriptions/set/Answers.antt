use Rattle.std.proofs.Common.{◌≡◌, sym, subst, ap, ◌∙◌, false, List, Result, Ok, Err, OnErr, is_none}
use Rattle.sn_tables.specs.declared.subscriptions.Subscription.{Subscription}
use Rattle.sn_tables.specs.Subscriptions.{filter_has_no_room}
use Rattle.sn_tables.proofs.SubscriptionPlaces.{room, absent, same_filter, set_is, insert_is, set_table, insert_table}
use Rattle.sn_tables.proofs.subscriptions.Subscriptions.set.Goals as goal

-- what holds before a call holds where it fails
at_errors : {T E P : Type 0} (r : Result T E) → P → OnErr r P
at_errors (Ok x) p = tt
at_errors (Err e) p = p

-- the filter is there, and its quality of service is written over
pub invariant_of-self : goal.invariant_of-self
invariant_of-self c =
    let entry : Subscription = record { filter = c.args.filter.now; qos = c.args.qos } in
    let place = rw c.as_slice.ensures.value at c.in-Ok.ensures.1 in
    let same = ap (λ (e : Subscription). e.filter) c.index_mut-entry.ensures.value ∙ same_filter c.self.inside.entries.items c.in-Ok.at c.args.filter.now c.index_mut-entry.result.now place in
    rw same (set_table c.self.inside.entries.items c.in-Ok.at entry c.self.invariant place)

pub returns-in-Ok-clause-ok : goal.returns-in-Ok-clause-ok
returns-in-Ok-clause-ok c =
    let entry : Subscription = record { filter = c.args.filter.now; qos = c.args.qos } in
    let place = rw c.as_slice.ensures.value at c.in-Ok.ensures.1 in
    let same = ap (λ (e : Subscription). e.filter) c.index_mut-entry.ensures.value ∙ same_filter c.self.inside.entries.items c.in-Ok.at c.args.filter.now c.index_mut-entry.result.now place in
    rw (same, ← c.self.view_is) (set_is c.self.inside.entries.items c.in-Ok.at entry place)

-- the filter is new
pub invariant_of-self-in-Continue-branch-2 : goal.invariant_of-self-in-Continue-branch-2
invariant_of-self-in-Continue-branch-2 c =
    let entry : Subscription = record { filter = c.in_ok-filter-in-Err.filter; qos = c.args.qos } in
    let place = rw (c.as_slice.ensures.value, ← c.in_ok-filter-in-Err.ensures) at c.in-Err.ensures in
    let P : List Subscription → Type 0 = λ entries. filter_has_no_room c.args.filter.now entries ≡ false in
    let free = rw (← c.in_ok-filter-in-Err.ensures) at (subst P (sym c.self.view_is) (sym c.if-has_no_room.ensures)) in
    rw c.in_ok-insert_at-in-Err.ensures.ok (insert_table _ _ entry c.self.invariant place.0 (room _ _ _ place.1 free) place.1)

pub returns-in_ok-insert_at-in-Err-clause-ok : goal.returns-in_ok-insert_at-in-Err-clause-ok
returns-in_ok-insert_at-in-Err-clause-ok c =
    let entry : Subscription = record { filter = c.in_ok-filter-in-Err.filter; qos = c.args.qos } in
    let place = rw (c.as_slice.ensures.value, ← c.in_ok-filter-in-Err.ensures) at c.in-Err.ensures in
    rw (c.in_ok-insert_at-in-Err.ensures.ok, ← c.in_ok-filter-in-Err.ensures, ← c.self.view_is) (insert_is c.self.inside.entries.items c.in-Err.at entry place.1)

-- memory runs out only for a filter that is new
pub returns-in_err-filter-in-Err-clause-absent : goal.returns-in_err-filter-in-Err-clause-absent
returns-in_err-filter-in-Err-clause-absent c =
    let place = rw c.as_slice.ensures.value at c.in-Err.ensures in
    rw (← c.self.view_is) (at_errors c.from_residual.result (ap is_none (absent c.self.inside.entries.items c.in-Err.at c.args.filter.now place.1)))

pub returns-in_err-insert_at-in-Err-clause-absent :
    goal.returns-in_err-insert_at-in-Err-clause-absent
returns-in_err-insert_at-in-Err-clause-absent c =
    let place = rw c.as_slice.ensures.value at c.in-Err.ensures in
    rw (← c.self.view_is) (at_errors c.from_residual-in_err-insert_at-in-Err.result (ap is_none (absent c.self.inside.entries.items c.in-Err.at c.args.filter.now place.1)))
