use Rattle.std.proofs.Common.{◌≡◌, None, is_some, true≢false, sym, ap, ◌∙◌}
use Rattle.std.specs.FinMap.{find, put}
use Rattle.rep_op.specs.Orders.{client_cmp}
use Rattle.rep_state.specs.Tables.{by_client}
use Rattle.rep_state.proofs.Rows.{written_by_client, found_by_client}
use Rattle.rep_state.proofs.Indexed.{places_written}
use Rattle.rep_state.proofs.asides.set_entry.Goals as goal

pub unreachable-requires : goal.unreachable-requires
unreachable-requires c =
    let client = c.args.client.now in
    let old = c.args.table.now.entries in
    let none : find client_cmp client (by_client old) ≡ None = sym (found_by_client client old) ∙ sym c.in-None.ensures.value in
    true≢false (sym c.requires ∙ ap is_some none)

pub returns-clause-put : goal.returns-clause-put
returns-clause-put c =
    let client = c.args.client.now in
    let old = c.args.table.now.entries in
    let e = c.overwrite.new.place in
    let wrote = c.get_mut.follows.holds e in
    let there = ap is_some (found_by_client client old) ∙ c.requires in
    written_by_client client e old (c.get_mut.follows.lender e).entries there wrote.0
    ∙ ap (λ x. put client_cmp client x (by_client old)) c.overwrite.ensures

pub returns-clause-places : goal.returns-clause-places
returns-clause-places c =
    λ places h.
    let client = c.args.client.now in
    let old = c.args.table.now.entries in
    let e = c.overwrite.new.place in
    let wrote = c.get_mut.follows.holds e in
    let new = (c.get_mut.follows.lender e).entries in
    let there = ap is_some (found_by_client client old) ∙ c.requires in
    places_written old new places client e _ h c.requires wrote.0 (written_by_client client e old new there wrote.0)
