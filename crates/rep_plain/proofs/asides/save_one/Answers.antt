use Rattle.std.proofs.Common.{◌≡◌, Some, None, is_some, true≢false, sym, ap, ◌∙◌}
use Rattle.std.specs.BTreeMap.{is_at}
use Rattle.std.specs.Map.{lookup}
use Rattle.std.specs.FinMap.{find}
use Rattle.rep_op.specs.Orders.{client_cmp}
use Rattle.rep_plain.specs.Tables.{rows_of}
use Rattle.rep_shared.proofs.Maps.{lookup_is_find}
use Rattle.rep_shared.proofs.Found.{none_there}
use Rattle.rep_plain.proofs.Found.{own_found}
use Rattle.rep_plain.proofs.Moves.{some_there, entry_found}
use Rattle.rep_plain.proofs.Backs.{rows_sorted, none_of_rows, saving_itself, few_more}
use Rattle.rep_plain.proofs.asides.save_one.Goals as goal

pub returns-then-contains_key-clause-saved : goal.returns-then-contains_key-clause-saved
returns-then-contains_key-clause-saved c = some_there c.args.client.now c.args.aside.now.entries (sym c.contains_key.ensures ∙ c.if-contains_key.true)

pub returns-then-contains_key-clause-saving : goal.returns-then-contains_key-clause-saving
returns-then-contains_key-clause-saving c = saving_itself (rows_of c.args.table.now.entries) (rows_of c.args.aside.now.entries)

pub put_aside-requires-clause-entry : goal.put_aside-requires-clause-entry
put_aside-requires-clause-entry c =
    let es = c.args.table.now.entries in
    entry_found c.args.client.now c.in-Some.held.now es c.requires.each (sym (c.in-Some.ensures.value ∙ lookup_is_find client_cmp c.args.client.now es))

pub put_aside-requires-clause-absent : goal.put_aside-requires-clause-absent
put_aside-requires-clause-absent c = none_there (lookup (is_at (client_cmp c.args.client.now)) c.args.aside.now.entries) (sym c.contains_key.ensures ∙ c.if-contains_key.false)

pub put_aside-requires-clause-few : goal.put_aside-requires-clause-few
put_aside-requires-clause-few c =
    let client = c.args.client.now in
    let es = c.args.table.now.entries in
    let xs = c.args.aside.now.entries in
    let absent = none_there (lookup (is_at (client_cmp client)) xs) (sym c.contains_key.ensures ∙ c.if-contains_key.false) in
    let own = sym (own_found client es (Some c.in-Some.held.now) c.in-Some.ensures.value) in
    few_more (rows_of es) xs c.args.named.now client c.in-Some.held.now.ops.items (rows_sorted es c.requires.sorted) c.requires.aside c.requires.can c.requires.there absent own

pub returns-clause-saving : goal.returns-clause-saving
returns-clause-saving c =
    let client = c.args.client.now in
    let es = c.args.table.now.entries in
    let own = sym (own_found client es (Some c.in-Some.held.now) c.in-Some.ensures.value) in
    c.put_aside.ensures.saving (rows_of es) (rows_sorted es c.requires.sorted) c.requires.there own

pub unreachable-requires : goal.unreachable-requires
unreachable-requires c =
    let client = c.args.client.now in
    let es = c.args.table.now.entries in
    let none : find client_cmp client (rows_of es) ≡ None = none_of_rows client es (sym c.in-None.ensures.value) in
    true≢false (sym c.requires.there ∙ ap is_some none)
