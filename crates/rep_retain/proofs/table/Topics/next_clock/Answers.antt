use Rattle.std.proofs.Common.{ℕ, List, IsTrue, Some, None, sym, ap, subst, ◌∙◌}
use Rattle.sn_tables.specs.Tables.{is_ascending}
use Rattle.sn_tables.proofs.Ascending.{from_test}
use Rattle.rep_op.specs.declared.op.Retained.{Retained}
use Rattle.rep_model.specs.Fresh.{one_more, next_clock}
use Rattle.rep_retain.specs.Tables.{entry_cmp, ops_of}
use Rattle.rep_retain.specs.inner.Tables.{kept_in}
use Rattle.rep_retain.proofs.Found.{entry_total}
use Rattle.rep_retain.proofs.Ready.{clock_or_none, clock_found, next_one}
use Rattle.rep_retain.proofs.table.Topics.next_clock.Goals as goal

pub find-requires : goal.find-requires
find-requires c = subst (λ es. IsTrue (is_ascending entry_cmp es)) (sym c.as_slice.ensures.value) c.self.invariant.ascending

pub returns-in-None : goal.returns-in-None
returns-in-None c =
    let t = c.args.topic.now in
    let es = c.self.inside.entries.items in
    ap (λ o. one_more (clock_or_none o)) (c.in-None.ensures ∙ ap (kept_in t) c.as_slice.ensures.value)
    ∙ sym (clock_found t es (from_test entry_cmp entry_total es c.self.invariant.ascending)) ∙ ap (λ (es : List (List ℕ × Retained)). next_clock t (ops_of es)) c.self.view_is

pub returns-in-Some : goal.returns-in-Some
returns-in-Some c =
    let t = c.args.topic.now in
    let es = c.self.inside.entries.items in
    next_one c.in-Some.own.now.clock c.checked_add.result c.checked_add.ensures
    ∙ ap (λ o. one_more (clock_or_none o)) (c.in-Some.ensures ∙ ap (kept_in t) c.as_slice.ensures.value)
    ∙ sym (clock_found t es (from_test entry_cmp entry_total es c.self.invariant.ascending)) ∙ ap (λ (es : List (List ℕ × Retained)). next_clock t (ops_of es)) c.self.view_is
