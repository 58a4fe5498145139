use Rattle.std.proofs.Common.{◌≡◌, ℕ, ◌≤◌, ◌++◌, [], List, Option, Some, length, IsTrue, IfSome, sym, ap, subst, ◌∙◌}
use Rattle.sn_tables.specs.Tables.{is_ascending}
use Rattle.sn_tables.proofs.Ascending.{from_test}
use Rattle.rep_op.specs.declared.op.Retained.{Retained}
use Rattle.rep_op.specs.declared.op.Op.{Op}
use Rattle.rep_model.specs.Keep.{IsKeptOf}
use Rattle.rep_retain.specs.declared.staged.TopicsStaged.{TopicsStaged}
use Rattle.rep_retain.specs.Tables.{IsTopicTable, entry_cmp, ops_of}
use Rattle.rep_retain.specs.inner.Tables.{with_ops}
use Rattle.rep_retain.specs.inner.Steps.{IsStagedOf}
use Rattle.rep_retain.proofs.Found.{entry_total}
use Rattle.rep_retain.proofs.Keeping.{kept_of}
use Rattle.rep_retain.proofs.Ready.{few_ops, no_ops, same_without}
use Rattle.rep_retain.proofs.Staging.{staged_few, staged_kept, staged_ready}
use Rattle.rep_retain.proofs.table.Topics.prepare.Goals as goal

pub alone-requires : goal.alone-requires
alone-requires c = subst (λ es. IsTrue (is_ascending entry_cmp es)) (sym c.as_slice.ensures.value) c.self.invariant.ascending

-- what was found of the slice that is read, for the table
told : (read es : List (List ℕ × Retained)) (ops : List Op) (found : Option TopicsStaged) (staged : TopicsStaged) → read ≡ es → found ≡ Some staged → IfSome found (λ staged. IsStagedOf read ops staged) → IsStagedOf es ops staged
told read es ops found staged seen is h = subst (λ (xs : List (List ℕ × Retained)). IsStagedOf xs ops staged) seen (subst (λ (o : Option TopicsStaged). IfSome o (λ staged. IsStagedOf read ops staged)) is h)

pub returns-then-is_empty-clause-few : goal.returns-then-is_empty-clause-few
returns-then-is_empty-clause-few c =
    let es = c.args.self.now in
    let ops = c.args.ops.now in
    let table : IsTopicTable es = subst IsTopicTable c.self.view_is c.self.invariant in
    let same = same_without es ops (no_ops ops (sym c.is_empty.ensures ∙ c.if-is_empty.true)) in
    few_ops es ops (from_test entry_cmp entry_total es table.ascending) (subst (λ xs. length xs ≤ 4096) (sym same) table.few)

pub returns-then-is_empty-clause-kept : goal.returns-then-is_empty-clause-kept
returns-then-is_empty-clause-kept c =
    let es = c.args.self.now in
    let ops = c.args.ops.now in
    let table : IsTopicTable es = subst IsTopicTable c.self.view_is c.self.invariant in
    let same = same_without es ops (no_ops ops (sym c.is_empty.ensures ∙ c.if-is_empty.true)) in
    subst (λ xs. IsKeptOf (ops_of es ++ ops) (ops_of xs)) same (kept_of es ops (from_test entry_cmp entry_total es table.ascending) c.requires.topics)

pub returns-in-Some-clause-few : goal.returns-in-Some-clause-few
returns-in-Some-clause-few c =
    let table : IsTopicTable c.args.self.now = subst IsTopicTable c.self.view_is c.self.invariant in
    let s = told c.as_slice.result.now c.args.self.now c.args.ops.now c.in_ok-found.found c.in-Some.staged (c.as_slice.ensures.value ∙ c.self.view_is) c.in-Some.is c.in_ok-found.ensures in
    staged_few c.args.self.now c.args.ops.now table c.in-Some.staged s

pub returns-in-Some-clause-kept : goal.returns-in-Some-clause-kept
returns-in-Some-clause-kept c =
    let table : IsTopicTable c.args.self.now = subst IsTopicTable c.self.view_is c.self.invariant in
    let s = told c.as_slice.result.now c.args.self.now c.args.ops.now c.in_ok-found.found c.in-Some.staged (c.as_slice.ensures.value ∙ c.self.view_is) c.in-Some.is c.in_ok-found.ensures in
    staged_kept c.args.self.now c.args.ops.now table c.in-Some.staged s c.requires.topics

pub returns-in-Some-clause-ready : goal.returns-in-Some-clause-ready
returns-in-Some-clause-ready c =
    let table : IsTopicTable c.args.self.now = subst IsTopicTable c.self.view_is c.self.invariant in
    let s = told c.as_slice.result.now c.args.self.now c.args.ops.now c.in_ok-found.found c.in-Some.staged (c.as_slice.ensures.value ∙ c.self.view_is) c.in-Some.is c.in_ok-found.ensures in
    staged_ready c.args.self.now c.args.ops.now table c.in-Some.staged s c.requires.made
