use Rattle.std.proofs.Common.{◌≡◌, refl, sym, ap, subst, ◌∙◌, List, ℕ, is_some}
use Rattle.std.specs.FinMap.{find, put}
use Rattle.rep_op.specs.Orders.{client_cmp}
use Rattle.rep_state.specs.Tables.{by_client, ArePlaces}
use Rattle.rep_state.specs.Interests.{AreMarked}
use Rattle.rep_state.specs.inner.Interests.{marks_noted}
use Rattle.rep_state.proofs.Asking.{places_noted, marked_noted}
use Rattle.rep_state.proofs.Indexed.{places_pass}
use Rattle.rep_state.specs.inner.Groups.{held_of, base_at}
use Rattle.rep_entry.specs.Staging.{staged_of, IsReady}
use Rattle.rep_entry.specs.Applied.{entry_applied}
use Rattle.rep_state.proofs.Staging.{staged_last, last_change, last_ready, rest_staged, rest_movable, rest_moved, rest_kept}
use Rattle.rep_state.proofs.room.install_changes.Goals as goal

pub move_one-requires-clause-change : goal.move_one-requires-clause-change
move_one-requires-clause-change c =
    let es = by_client c.loop-client.table.entries in
    let gs = staged_of c.loop-client.changes.items in
    let rest = staged_of c.pop.new.self.items in
    let client = c.in-Some.client.items in
    let change = c.in-Some.change in
    let all = ap staged_of c.in-Some.ensures.items ∙ staged_last c.pop.new.self.items (c.in-Some.client, change) in
    last_change es (put client_cmp client (entry_applied (held_of client es) change) es) gs rest client change all refl c.loop-client.invariant.1 c.loop-client.invariant.2

pub move_one-requires-clause-ready : goal.move_one-requires-clause-ready
move_one-requires-clause-ready c =
    let es = by_client c.loop-client.table.entries in
    let gs = staged_of c.loop-client.changes.items in
    let rest = staged_of c.pop.new.self.items in
    let client = c.in-Some.client.items in
    let change = c.in-Some.change in
    let all = ap staged_of c.in-Some.ensures.items ∙ staged_last c.pop.new.self.items (c.in-Some.client, change) in
    let value = c.as_slice.ensures.value in
    subst (λ (k : List ℕ). IsReady (is_some (find client_cmp k es)) k (base_at k es) change) (sym value)
    (last_ready es (put client_cmp client (entry_applied (held_of client es) change) es) gs rest client change all refl c.loop-client.invariant.1 c.loop-client.invariant.2)

pub note_marks-requires : goal.note_marks-requires
note_marks-requires c = places_pass c.loop-client.table.entries c.loop-client.places.items c.loop-client.invariant.4

pub loop-client-preserved : goal.loop-client-preserved
loop-client-preserved c =
    let es = by_client c.loop-client.table.entries in
    let new = by_client c.move_one.new.table.entries in
    let gs = staged_of c.loop-client.changes.items in
    let rest = staged_of c.pop.new.self.items in
    let client = c.in-Some.client.items in
    let change = c.in-Some.change in
    let all = ap staged_of c.in-Some.ensures.items ∙ staged_last c.pop.new.self.items (c.in-Some.client, change) in
    let is : new ≡ put client_cmp client (entry_applied (held_of client es) change) es = c.move_one.ensures.put ∙ ap (λ (k : List ℕ). put client_cmp k (entry_applied (held_of k es) change) es) c.as_slice.ensures.value in
    let staged = c.loop-client.invariant.1 in
    let movable = c.loop-client.invariant.2 in
    let places = c.loop-client.places.items in
    let marks = c.marks_with-marks.result in
    let kept = c.loop-client.invariant.3 in (
      rest_moved es new gs rest client change all is staged movable ∙ c.loop-client.invariant.0,
      rest_staged es new gs rest client change all is staged movable,
      rest_movable es new gs rest client change all is staged movable,
      rest_kept es new gs rest client change all is staged movable kept,
      subst (ArePlaces c.move_one.new.table.entries) (sym c.note_marks.ensures) (places_noted c.move_one.new.table.entries c.as_slice-in-Some.result.now marks places (c.move_one.ensures.places places c.loop-client.invariant.4)),
      subst (AreMarked new) (sym (c.note_marks.ensures ∙ ap (λ k. marks_noted k marks places) c.as_slice-in-Some.ensures.value))
          (marked_noted es new client change marks places c.loop-client.invariant.5 is c.marks_with-marks.ensures),
    )
