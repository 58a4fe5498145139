use Rattle.std.proofs.Common.{◌++◌, ◌∷◌, [], ℕ, List, Some, T, refl, sym, ap, subst, ◌∙◌}
use Rattle.std.specs.FinMap.{is_sorted}
use Rattle.std.specs.FinMap.Entries.{is_sorted-put}
use Rattle.std.specs.List.{insert}
use Rattle.sn_tables.specs.inner.Tables.{IsFoundAt, IsGap}
use Rattle.rep_op.specs.declared.op.Op.{Op}
use Rattle.rep_op.specs.Orders.{client_cmp, client_of}
use Rattle.rep_op.specs.Sets.{Same}
use Rattle.rep_model.specs.Keep.{keep}
use Rattle.rep_model.proofs.Readers.{client_total}
use Rattle.rep_shared.specs.Rows.{own}
use Rattle.rep_entry.specs.declared.entry.Entry.{Entry}
use Rattle.rep_entry.specs.declared.fresh.Fresh.{Fresh}
use Rattle.rep_entry.specs.Entries.{IsEntry, IsFresh, IsFreshStep, fresh_row}
use Rattle.rep_state.specs.Tables.{by_client, rows_of}
use Rattle.rep_state.specs.inner.Groups.{held_of, IsFirstChange, IsGroupOf}
use Rattle.rep_state.proofs.Gathering.{put_at}
use Rattle.rep_log.proofs.Sorting.{found_at, found_gap, put_gap}
use Rattle.rep_state.proofs.Working.{group_added, names_client, nothing_taken, held_is, held_row}
use Rattle.rep_state.proofs.grouping.add_to_group.Goals as goal

pub first_group-requires-clause-entry : goal.first_group-requires-clause-entry
first_group-requires-clause-entry c =
    let es = by_client c.args.table.now.entries in
    let client = client_of c.args.op.now in
    let held = c.entry_or_nothing-entry.ensures ∙ ap (λ k. held_of k es) c.client-client.ensures in
    subst (IsEntry client) (sym held) (held_is client es c.requires.kept)

pub note-requires-clause-fresh : goal.note-requires-clause-fresh
note-requires-clause-fresh c =
    let es = by_client c.args.table.now.entries in
    let client = client_of c.args.op.now in
    let groups = c.args.groups.now.items in
    let q = c.index_mut.result.now in
    let here = subst (λ k. IsFoundAt (λ (g : List ℕ × Fresh). client_cmp g.0 k) groups c.in-Ok.at) c.client-client.ensures (rw c.as_slice.ensures.value at c.in-Ok.ensures.1) in
    let found = found_at client_cmp client_total client groups c.in-Ok.at q here ∙ ap (λ (g : List ℕ × Fresh). Some g.1) (sym c.index_mut.ensures.value) in
    let group = subst (IsGroupOf client es c.requires.groups.0) found (c.requires.groups.1 client) in
    let held = c.entry_or_nothing-entry.ensures ∙ ap (λ k. held_of k es) c.client-client.ensures in
    (client, subst (λ (e : Entry). IsFresh client e q.1) (sym held) group.fresh_is)

pub returns-in_ok-note-in-Ok-clause-groups : goal.returns-in_ok-note-in-Ok-clause-groups
returns-in_ok-note-in-Ok-clause-groups c =
    λ D h.
    let es = by_client c.args.table.now.entries in
    let op = c.args.op.now in
    let client = client_of op in
    let groups = c.args.groups.now.items in
    let q = c.index_mut.result.now in
    let new = c.note.new.self in
    let here = subst (λ k. IsFoundAt (λ (g : List ℕ × Fresh). client_cmp g.0 k) groups c.in-Ok.at) c.client-client.ensures (rw c.as_slice.ensures.value at c.in-Ok.ensures.1) in
    let found = found_at client_cmp client_total client groups c.in-Ok.at q here ∙ ap (λ (g : List ℕ × Fresh). Some g.1) (sym c.index_mut.ensures.value) in
    let group = subst (IsGroupOf client es D) found (h client) in
    let held = c.entry_or_nothing-entry.ensures ∙ ap (λ k. held_of k es) c.client-client.ensures in
    let step = subst (λ (e : Entry). IsFreshStep client e q.1 new op) held (c.in_ok-note-in-Ok.ensures client (subst (λ (e : Entry). IsFresh client e q.1) (sym held) group.fresh_is) (names_client op c.requires.client c.requires.made)) in
    group_added es D op groups _ client (fresh_row client (held_of client es) q.1) new refl h group.taken step (put_at client_cmp client_total client new groups c.in-Ok.at q c.index_mut.ensures.value here)

pub returns-in_ok-note-in-Ok-clause-sorted : goal.returns-in_ok-note-in-Ok-clause-sorted
returns-in_ok-note-in-Ok-clause-sorted c =
    let client = client_of c.args.op.now in
    let groups = c.args.groups.now.items in
    let q = c.index_mut.result.now in
    let new = c.note.new.self in
    let here = subst (λ k. IsFoundAt (λ (g : List ℕ × Fresh). client_cmp g.0 k) groups c.in-Ok.at) c.client-client.ensures (rw c.as_slice.ensures.value at c.in-Ok.ensures.1) in
    subst (λ (gs : List (List ℕ × Fresh)). T (is_sorted client_cmp gs)) (sym (put_at client_cmp client_total client new groups c.in-Ok.at q c.index_mut.ensures.value here)) (is_sorted-put client_cmp client_total client new groups c.requires.sorted)

pub returns-in_ok-insert-in-Err-clause-groups : goal.returns-in_ok-insert-in-Err-clause-groups
returns-in_ok-insert-in-Err-clause-groups c =
    λ D h.
    let es = by_client c.args.table.now.entries in
    let op = c.args.op.now in
    let client = client_of op in
    let groups = c.args.groups.now.items in
    let at = c.in-Err.at in
    let group = c.in_ok-group-in-Err.group in
    let gap = subst (λ k. IsGap (λ (g : List ℕ × Fresh). client_cmp g.0 k) groups at) c.client-client.ensures (rw c.as_slice.ensures.value at c.in-Err.ensures.1) in
    let none = subst (IsGroupOf client es D) (found_gap client_cmp client_total client groups at gap) (h client) in
    let held = c.entry_or_nothing-entry.ensures ∙ ap (λ k. held_of k es) c.client-client.ensures in
    let begun = subst (λ (e : Entry). IsFirstChange client e group.1 op) held c.in_ok-group-in-Err.ensures.fresh in
    let step : IsFresh client (held_of client es) group.1 × Same (fresh_row client (held_of client es) group.1) (keep (own client (rows_of es) ++ op ∷ [])) = (begun.0, subst (λ (ops : List Op). Same (fresh_row client (held_of client es) group.1) (keep (ops ++ op ∷ []))) (held_row client es) begun.1) in
    let is = c.in_ok-insert-in-Err.ensures.items ∙ ap (λ k. insert groups at (k, group.1)) c.in_ok-group-in-Err.ensures.client ∙ put_gap client_cmp client_total client group.1 groups at gap in
    group_added es D op groups _ client (own client (rows_of es)) group.1 refl h (nothing_taken client es D c.requires.kept none) step is

pub returns-in_ok-insert-in-Err-clause-sorted : goal.returns-in_ok-insert-in-Err-clause-sorted
returns-in_ok-insert-in-Err-clause-sorted c =
    let client = client_of c.args.op.now in
    let groups = c.args.groups.now.items in
    let at = c.in-Err.at in
    let group = c.in_ok-group-in-Err.group in
    let gap = subst (λ k. IsGap (λ (g : List ℕ × Fresh). client_cmp g.0 k) groups at) c.client-client.ensures (rw c.as_slice.ensures.value at c.in-Err.ensures.1) in
    let is = c.in_ok-insert-in-Err.ensures.items ∙ ap (λ k. insert groups at (k, group.1)) c.in_ok-group-in-Err.ensures.client ∙ put_gap client_cmp client_total client group.1 groups at gap in
    subst (λ (gs : List (List ℕ × Fresh)). T (is_sorted client_cmp gs)) (sym is) (is_sorted-put client_cmp client_total client group.1 groups c.requires.sorted)
