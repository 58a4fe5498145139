use Rattle.std.proofs.Common.{◌≡◌, is_some, None, true≢false, sym, ap, subst, ◌∙◌}
use Rattle.std.specs.FinMap.{find, put}
use Rattle.rep_op.specs.Orders.{client_cmp}
use Rattle.rep_entry.specs.declared.entry.Entry.{Entry}
use Rattle.rep_entry.specs.Entries.{base_of}
use Rattle.rep_model.proofs.Readers.{client_exact}
use Rattle.rep_state.specs.Tables.{by_client, IsKept}
use Rattle.rep_entry.proofs.Owning.{found_holds}
use Rattle.rep_state.specs.inner.Groups.{or_nothing_held}
use Rattle.rep_entry.specs.Staging.{IsFit}
use Rattle.rep_entry.specs.Applied.{entry_applied}
use Rattle.rep_state.proofs.Rows.{written_by_client, found_by_client}
use Rattle.rep_state.proofs.Indexed.{places_written}
use Rattle.rep_state.proofs.room.move_one.Goals as goal

pub unreachable-requires : goal.unreachable-requires
unreachable-requires c =
    let client = c.args.client.now in
    let old = c.args.table.now.entries in
    let none : find client_cmp client (by_client old) ≡ None = sym (found_by_client client old) ∙ sym c.in-None.ensures.value in
    true≢false (sym c.requires.ready.is_there ∙ ap is_some none)

pub put_into-requires-clause-fit : goal.put_into-requires-clause-fit
put_into-requires-clause-fit c =
    let client = c.args.client.now in
    let old = c.args.table.now.entries in
    let found = sym (found_by_client client old) ∙ sym c.in-Some.ensures.value in
    (client, subst (λ (e : Entry). IsFit client (base_of e) c.args.change) (ap or_nothing_held found) c.requires.ready.fit)

pub put_into-requires-clause-rising : goal.put_into-requires-clause-rising
put_into-requires-clause-rising c =
    let client = c.args.client.now in
    let old = c.args.table.now.entries in
    let found = sym (found_by_client client old) ∙ sym c.in-Some.ensures.value in
    (found_holds client_cmp client_exact IsKept client c.in-Some.place.now (by_client old) c.requires.kept found).entry_is.rising

pub returns-clause-put : goal.returns-clause-put
returns-clause-put c =
    let client = c.args.client.now in
    let old = c.args.table.now.entries in
    let e = c.put_into.new.place in
    let wrote = c.get_mut.follows.holds e in
    let found = sym (found_by_client client old) ∙ sym c.in-Some.ensures.value in
    let there = ap is_some (found_by_client client old) ∙ c.requires.ready.is_there in
    written_by_client client e old (c.get_mut.follows.lender e).entries there wrote.0
    ∙ ap (λ x. put client_cmp client x (by_client old)) (c.put_into.ensures ∙ sym (ap (λ e. entry_applied e c.args.change) (ap or_nothing_held found)))

pub returns-clause-places : goal.returns-clause-places
returns-clause-places c =
    λ places h.
    let client = c.args.client.now in
    let old = c.args.table.now.entries in
    let e = c.put_into.new.place in
    let wrote = c.get_mut.follows.holds e in
    let new = (c.get_mut.follows.lender e).entries in
    let there = ap is_some (found_by_client client old) ∙ c.requires.ready.is_there in
    places_written old new places client e _ h c.requires.ready.is_there wrote.0 (written_by_client client e old new there wrote.0)
