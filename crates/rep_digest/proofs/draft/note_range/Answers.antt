use Rattle.std.proofs.Common.{ℕ, List, set, sym, subst, ◌∙◌}
use Rattle.std.specs.List.{insert}
use Rattle.std.specs.Ordering.{nat_cmp}
use Rattle.sn_tables.specs.inner.Tables.{IsFoundAt, IsGap}
use Rattle.rep_digest.specs.WellMade.{OriginsAscend}
use Rattle.rep_digest.specs.declared.entry.OriginEntry.{OriginEntry}
use Rattle.rep_digest.proofs.Drafting.{ascend_from, gateway, ack_nowhere, ack_at, ack_gap}
use Rattle.rep_digest.proofs.draft.note_range.Goals as goal

pub returns-then-not-is_gateway : goal.returns-then-not-is_gateway
returns-then-not-is_gateway c = λ A P e. e ∙ sym (ack_nowhere A P c.args.range (sym c.if-not-is_gateway.ensures))

pub place-requires : goal.place-requires
place-requires c = subst OriginsAscend (sym c.as_slice.ensures.value) (ascend_from c.args.origins.now.items c.requires)

pub returns-in_ok-push-in-Ok : goal.returns-in_ok-push-in-Ok
returns-in_ok-push-in-Ok c = λ A P e.
    let entry : OriginEntry = c.index_mut-entry.result.now in
    let there = subst (λ (os : List OriginEntry). IsFoundAt (λ o. nat_cmp o.origin c.args.range.origin) os c.in-Ok.at) c.as_slice.ensures.value c.in-Ok.ensures.1 in
    (λ i. set c.args.origins.now.items c.in-Ok.at (record { origin = entry.origin; acknowledged = c.in_ok-push-in-Ok.ensures.ok i; waiting = entry.waiting }))
    ∙ ack_at A P c.args.range c.args.origins.now.items c.in-Ok.at entry (gateway c.args.range.origin (sym c.if-not-is_gateway.ensures)) e there c.index_mut-entry.ensures.value

pub returns-in_ok-insert-in-Err : goal.returns-in_ok-insert-in-Err
returns-in_ok-insert-in-Err c = λ A P e.
    let there = subst (λ (os : List OriginEntry). IsGap (λ o. nat_cmp o.origin c.args.range.origin) os c.in-Err.at) c.as_slice.ensures.value c.in-Err.ensures.1 in
    let entry : (acknowledged waiting : List (ℕ × ℕ)) → OriginEntry = λ acknowledged waiting. record { origin = c.args.range.origin; acknowledged = acknowledged; waiting = waiting } in
    c.in_ok-insert-in-Err.ensures.items
    ∙ (λ i. insert c.args.origins.now.items c.in-Err.at (entry (c.in_ok-one_range-in-Err.ensures i) (c.empty.ensures i)))
    ∙ ack_gap A P c.args.range c.args.origins.now.items c.in-Err.at (gateway c.args.range.origin (sym c.if-not-is_gateway.ensures)) e there
