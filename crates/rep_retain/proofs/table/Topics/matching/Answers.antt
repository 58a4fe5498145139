use Rattle.std.proofs.Common.{◌≡◌, ℕ, List, filter, IfOk, IsTrue, sym, ap, subst, ◌∙◌}
use Rattle.sn_tables.specs.Tables.{is_ascending}
use Rattle.sn_tables.proofs.Ascending.{from_test}
use Rattle.rep_op.specs.declared.op.Retained.{Retained}
use Rattle.rep_model.specs.Topics.{is_offered, retained_matching}
use Rattle.rep_retain.specs.Tables.{IsTopicTable, entry_cmp, ops_of}
use Rattle.rep_retain.proofs.Found.{entry_total}
use Rattle.rep_retain.proofs.Ready.{lists_table}
use Rattle.rep_retain.proofs.table.Topics.matching.Goals as goal

-- of the slice that is read, and of the set that the table stands for, the same is offered
listed : (asked : List ℕ) (read es now : List (List ℕ × Retained)) → IsTopicTable es → read ≡ es → es ≡ now → filter (is_offered asked) read ≡ retained_matching asked (ops_of now)
listed asked read es now table is seen =
    ap (filter (is_offered asked)) (is ∙ sym (lists_table es (from_test entry_cmp entry_total es table.ascending)))
    ∙ ap (λ es. retained_matching asked (ops_of es)) seen

pub named-requires-clause-table : goal.named-requires-clause-table
named-requires-clause-table c = subst (λ es. IsTrue (is_ascending entry_cmp es)) (sym c.as_slice-entries.ensures.value) c.self.invariant.ascending

pub named-requires-clause-plain : goal.named-requires-clause-plain
named-requires-clause-plain c = sym c.has_wildcard.ensures ∙ c.if-has_wildcard.false

pub returns-then-has_wildcard : goal.returns-then-has_wildcard
returns-then-has_wildcard c =
    let same = listed c.args.asked.now c.as_slice-entries.result.now c.self.inside.entries.items c.args.self.now c.self.invariant c.as_slice-entries.ensures.value c.self.view_is in
    subst (λ all. IfOk c.offered.result (λ found. found.items ≡ all)) same c.offered.ensures

pub returns-else-has_wildcard : goal.returns-else-has_wildcard
returns-else-has_wildcard c =
    let same = listed c.args.asked.now c.as_slice-entries.result.now c.self.inside.entries.items c.args.self.now c.self.invariant c.as_slice-entries.ensures.value c.self.view_is in
    subst (λ all. IfOk c.named.result (λ found. found.items ≡ all)) same c.named.ensures
