use Rattle.std.proofs.Common.{ℕ, List, sym, subst, ◌∙◌}
use Rattle.std.specs.List.{insert}
use Rattle.std.specs.Ordering.{nat_cmp}
use Rattle.sn_tables.specs.inner.Tables.{IsFoundAt, IsGap}
use Rattle.rep_digest.specs.WellMade.{OriginsAscend}
use Rattle.rep_digest.specs.declared.entry.OriginEntry.{OriginEntry}
use Rattle.rep_digest.proofs.Drafting.{ascend_from, gateway, put_nowhere, put_at, put_gap}
use Rattle.rep_digest.proofs.draft.note_put.Goals as goal

pub returns-then-not-is_gateway : goal.returns-then-not-is_gateway
returns-then-not-is_gateway c = λ A P e. e ∙ sym (put_nowhere A P c.args.put.now (sym c.if-not-is_gateway.ensures))

pub place-requires : goal.place-requires
place-requires c = subst OriginsAscend (sym c.as_slice.ensures.value) (ascend_from c.args.origins.now.items c.requires)

pub returns-in_ok-add_number-in-Ok : goal.returns-in_ok-add_number-in-Ok
returns-in_ok-add_number-in-Ok c = λ A P e.
    let entry : OriginEntry = c.index_mut-entry.result.now in
    let there = subst (λ (os : List OriginEntry). IsFoundAt (λ o. nat_cmp o.origin c.args.put.now.origin) os c.in-Ok.at) c.as_slice.ensures.value c.in-Ok.ensures.1 in
    put_at A P c.args.put.now c.args.origins.now.items c.in-Ok.at entry c.add_number.new.ranges (gateway c.args.put.now.origin (sym c.if-not-is_gateway.ensures)) e there c.index_mut-entry.ensures.value
    c.in_ok-add_number-in-Ok.ensures

pub returns-in_ok-insert-in-Err : goal.returns-in_ok-insert-in-Err
returns-in_ok-insert-in-Err c = λ A P e.
    let there = subst (λ (os : List OriginEntry). IsGap (λ o. nat_cmp o.origin c.args.put.now.origin) os c.in-Err.at) c.as_slice.ensures.value c.in-Err.ensures.1 in
    let entry : (acknowledged waiting : List (ℕ × ℕ)) → OriginEntry = λ acknowledged waiting. record { origin = c.args.put.now.origin; acknowledged = acknowledged; waiting = waiting } in
    c.in_ok-insert-in-Err.ensures.items
    ∙ (λ i. insert c.args.origins.now.items c.in-Err.at (entry (c.empty.ensures i) (c.in_ok-one_range-in-Err.ensures i)))
    ∙ put_gap A P c.args.put.now c.args.origins.now.items c.in-Err.at (gateway c.args.put.now.origin (sym c.if-not-is_gateway.ensures)) e there
