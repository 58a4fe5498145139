use Rattle.std.proofs.Common.{◌≡◌, ℕ, List, map, Some, IsSome, sym, ap, subst, ◌∙◌, Vec, Global}
use Rattle.std.specs.FinMap.{find, put}
use Rattle.rep_op.specs.Orders.{client_cmp}
use Rattle.rep_shared.specs.Rows.{rows_with}
use Rattle.rep_entry.specs.declared.entry.Entry.{Entry}
use Rattle.rep_state.specs.Tables.{by_client, rows_of, ArePlaces}
use Rattle.rep_state.specs.Interests.{AreMarked}
use Rattle.rep_state.specs.inner.Interests.{marked}
use Rattle.rep_state.proofs.Asking.{places_noted, marked_anew}
use Rattle.rep_state.proofs.Indexed.{in_order, places_pass}
use Rattle.rep_state.proofs.Backs.{last_there, last_kept, rest_kept, rest_moved, rest_room, new_kept, entry_there, empty_of}
use Rattle.rep_state.proofs.asides.put_all_back.Goals as goal

pub set_entry-requires : goal.set_entry-requires
set_entry-requires c =
    let es = by_client c.loop-client.table.entries in
    let k = c.in-Some.client in
    let there = last_there k c.in-Some.entry c.loop-client.aside.entries c.pop.new.self.entries c.in-Some.ensures.entries c.in-Some.ensures.updates.1 in
    subst (λ (q : List ℕ). IsSome (find client_cmp q es)) (sym c.as_slice.ensures.value) (entry_there k.items es (c.loop-client.invariant.1 k.items there))

pub mark_place-requires : goal.mark_place-requires
mark_place-requires c = places_pass c.loop-client.table.entries c.loop-client.places.items c.loop-client.invariant.4

pub loop-client-preserved : goal.loop-client-preserved
loop-client-preserved c =
    let table = c.loop-client.table.entries in
    let es = by_client table in
    let new = by_client c.set_entry.new.table.entries in
    let k = c.in-Some.client in
    let x = c.in-Some.entry in
    let all = c.loop-client.aside.entries in
    let rest = c.pop.new.self.entries in
    let is = c.in-Some.ensures.entries in
    let gone = c.in-Some.ensures.updates.1 in
    let at : new ≡ put client_cmp k.items x es = c.set_entry.ensures.put ∙ ap (λ (q : List ℕ). put client_cmp q x es) c.as_slice.ensures.value in
    let places = c.loop-client.places.items in
    let marks = c.marks_of-marks.result in
    let more = c.mark_place.ensures ∙ ap (λ (q : List ℕ). map (marked q marks) places) c.as_slice-in-Some.ensures.value in (
      rest_moved k x all rest is gone es new at (in_order table) ∙ c.loop-client.invariant.0,
      rest_room k x all rest is gone es new at c.loop-client.invariant.1,
      rest_kept k x all rest is gone c.loop-client.invariant.2,
      new_kept k x all rest is gone es new at c.loop-client.invariant.3 (last_kept k x all rest is gone c.loop-client.invariant.2),
      subst (ArePlaces c.set_entry.new.table.entries) (sym more) (places_noted c.set_entry.new.table.entries k.items (Some marks) places (c.set_entry.ensures.places places c.loop-client.invariant.4)),
      subst (AreMarked new) (sym more) (marked_anew es new k.items x marks places c.loop-client.invariant.5 at c.marks_of-marks.ensures),
    )

pub returns-clause-rows : goal.returns-clause-rows
returns-clause-rows c =
    let rows = rows_of (by_client c.loop-client.table.entries) in
    let none = empty_of c.loop-client.aside.entries c.in_default.ensures.found.1 in
    sym (ap (λ (xs : List (Vec ℕ Global × Entry)). rows_with rows (rows_of (by_client xs))) none) ∙ c.loop-client.invariant.0
