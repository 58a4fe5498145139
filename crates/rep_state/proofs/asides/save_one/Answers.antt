use Rattle.std.proofs.Common.{◌≡◌, Some, None, is_some, true≢false, sym, ap, ◌∙◌}
use Rattle.std.specs.FinMap.{find}
use Rattle.rep_op.specs.Orders.{client_cmp}
use Rattle.rep_model.proofs.Readers.{client_exact}
use Rattle.rep_entry.specs.Entries.{entry_row}
use Rattle.rep_entry.proofs.Owning.{found_holds}
use Rattle.rep_state.specs.Tables.{by_client, rows_of, IsKept}
use Rattle.rep_state.proofs.Rows.{found_by_client}
use Rattle.rep_state.proofs.Placing.{some_there, none_there}
use Rattle.rep_state.proofs.Reading.{own_found}
use Rattle.rep_state.proofs.Indexed.{in_order}
use Rattle.rep_state.proofs.Backs.{rows_sorted, none_of_rows, saving_itself, few_more}
use Rattle.rep_state.proofs.asides.save_one.Goals as goal

pub returns-then-contains_key-clause-saving : goal.returns-then-contains_key-clause-saving
returns-then-contains_key-clause-saving c = saving_itself (rows_of (by_client c.args.table.now.entries)) (rows_of (by_client c.args.aside.now.entries))

pub returns-then-contains_key-clause-saved : goal.returns-then-contains_key-clause-saved
returns-then-contains_key-clause-saved c =
    let client = c.args.client.now in
    let xs = c.args.aside.now.entries in
    some_there client (by_client xs) (ap is_some (sym (found_by_client client xs)) ∙ sym c.contains_key.ensures ∙ c.if-contains_key.true)

pub put_aside-requires-clause-kept : goal.put_aside-requires-clause-kept
put_aside-requires-clause-kept c =
    let client = c.args.client.now in
    let es = c.args.table.now.entries in
    found_holds client_cmp client_exact IsKept client c.in-Some.held.now (by_client es) c.requires.kept (sym (found_by_client client es) ∙ sym c.in-Some.ensures.value)

pub put_aside-requires-clause-absent : goal.put_aside-requires-clause-absent
put_aside-requires-clause-absent c =
    let client = c.args.client.now in
    let xs = c.args.aside.now.entries in
    none_there (find client_cmp client (by_client xs)) (ap is_some (sym (found_by_client client xs)) ∙ sym c.contains_key.ensures ∙ c.if-contains_key.false)

pub put_aside-requires-clause-few : goal.put_aside-requires-clause-few
put_aside-requires-clause-few c =
    let client = c.args.client.now in
    let es = c.args.table.now.entries in
    let xs = c.args.aside.now.entries in
    let absent = none_there (find client_cmp client (by_client xs)) (ap is_some (sym (found_by_client client xs)) ∙ sym c.contains_key.ensures ∙ c.if-contains_key.false) in
    let own = sym (own_found client (by_client es) (Some c.in-Some.held.now) (c.in-Some.ensures.value ∙ found_by_client client es)) in
    few_more (rows_of (by_client es)) (by_client xs) c.args.count.now client (entry_row client c.in-Some.held.now) (rows_sorted (by_client es) (in_order es)) c.requires.aside c.requires.can c.requires.there absent own

pub returns-clause-saving : goal.returns-clause-saving
returns-clause-saving c =
    let client = c.args.client.now in
    let es = c.args.table.now.entries in
    let own = sym (own_found client (by_client es) (Some c.in-Some.held.now) (c.in-Some.ensures.value ∙ found_by_client client es)) in
    c.put_aside.ensures.saving (rows_of (by_client es)) (rows_sorted (by_client es) (in_order es)) c.requires.there own

pub unreachable-requires : goal.unreachable-requires
unreachable-requires c =
    let client = c.args.client.now in
    let es = c.args.table.now.entries in
    let none : find client_cmp client (rows_of (by_client es)) ≡ None = none_of_rows client (by_client es) (sym (found_by_client client es) ∙ sym c.in-None.ensures.value) in
    true≢false (sym c.requires.there ∙ ap is_some none)
