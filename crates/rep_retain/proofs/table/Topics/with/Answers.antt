use Rattle.std.proofs.Common.{◌≡◌, ◌<◌, ◌≤◌, ◌++◌, IsTrue, length, refl, sym, ap, subst, ◌∙◌, arith}
use Rattle.sn_tables.specs.Tables.{is_ascending}
use Rattle.sn_tables.proofs.Ascending.{Ascends, from_test, to_test}
use Rattle.rep_ops.specs.Making.{AreWellMade}
use Rattle.rep_model.specs.Keep.{IsKeptOf}
use Rattle.rep_retain.specs.Tables.{IsTopicTable, entry_cmp, ops_of}
use Rattle.rep_retain.specs.inner.Tables.{with_ops}
use Rattle.rep_retain.proofs.Found.{entry_total, ascends_ops}
use Rattle.rep_retain.proofs.Keeping.{kept_of}
use Rattle.rep_retain.proofs.Placing.{ascending_ops}
use Rattle.rep_retain.proofs.Ready.{made_ops, few_ops, many_ops}
use Rattle.rep_retain.proofs.table.Topics.with.Goals as goal

pub put_ops-requires : goal.put_ops-requires
put_ops-requires c = subst (λ es. IsTrue (is_ascending entry_cmp es)) (sym c.as_slice.ensures.value) c.self.invariant.ascending

pub returns-then-len-gt-MOST_RETAINED-clause-fault : goal.returns-then-len-gt-MOST_RETAINED-clause-fault
returns-then-len-gt-MOST_RETAINED-clause-fault c =
    let es = c.args.self.now in
    let ops = c.args.ops.now in
    let table : IsTopicTable es = subst IsTopicTable c.self.view_is c.self.invariant in
    let next : c.in_ok-entries.entries.items ≡ with_ops es ops = c.in_ok-entries.ensures ∙ ap (λ es. with_ops es ops) (c.as_slice.ensures.value ∙ c.self.view_is) in
    let long : c.len.result ≡ length (with_ops es ops) = c.len.ensures ∙ c.in_ok-entries.entries.ok.0 ∙ ap length next in
    (refl, many_ops es ops (from_test entry_cmp entry_total es table.ascending) (omega (arith, long, c.if-len-gt-MOST_RETAINED.true)))

pub invariant_of-result : goal.invariant_of-result
invariant_of-result c =
    let es = c.args.self.now in
    let ops = c.args.ops.now in
    let table : IsTopicTable es = subst IsTopicTable c.self.view_is c.self.invariant in
    let next : c.in_ok-entries.entries.items ≡ with_ops es ops = c.in_ok-entries.ensures ∙ ap (λ es. with_ops es ops) (c.as_slice.ensures.value ∙ c.self.view_is) in
    let long : c.len.result ≡ length (with_ops es ops) = c.len.ensures ∙ c.in_ok-entries.entries.ok.0 ∙ ap length next in
    subst IsTopicTable (sym next) (record {
      ascending = ascending_ops es ops table.ascending;
      well_made = made_ops es ops table.well_made c.requires.made;
      few = omega (arith, long, c.if-len-gt-MOST_RETAINED.false);
    })

pub returns-clause-few : goal.returns-clause-few
returns-clause-few c =
    let es = c.args.self.now in
    let ops = c.args.ops.now in
    let table : IsTopicTable es = subst IsTopicTable c.self.view_is c.self.invariant in
    let next : c.in_ok-entries.entries.items ≡ with_ops es ops = c.in_ok-entries.ensures ∙ ap (λ es. with_ops es ops) (c.as_slice.ensures.value ∙ c.self.view_is) in
    let long : c.len.result ≡ length (with_ops es ops) = c.len.ensures ∙ c.in_ok-entries.entries.ok.0 ∙ ap length next in
    few_ops es ops (from_test entry_cmp entry_total es table.ascending) (omega (arith, long, c.if-len-gt-MOST_RETAINED.false))

pub returns-clause-kept : goal.returns-clause-kept
returns-clause-kept c =
    let es = c.args.self.now in
    let ops = c.args.ops.now in
    let table : IsTopicTable es = subst IsTopicTable c.self.view_is c.self.invariant in
    let next : c.in_ok-entries.entries.items ≡ with_ops es ops = c.in_ok-entries.ensures ∙ ap (λ es. with_ops es ops) (c.as_slice.ensures.value ∙ c.self.view_is) in
    subst (λ xs. IsKeptOf (ops_of es ++ ops) (ops_of xs)) (sym next) (kept_of es ops (from_test entry_cmp entry_total es table.ascending) c.requires.topics)
