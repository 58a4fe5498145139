use Rattle.std.proofs.Common.{IsTrue, sym, ap, subst, ◌∙◌}
use Rattle.sn_tables.specs.Tables.{is_ascending}
use Rattle.sn_tables.proofs.Ascending.{from_test}
use Rattle.rep_model.specs.Topics.{retained}
use Rattle.rep_retain.specs.Tables.{entry_cmp, ops_of}
use Rattle.rep_retain.specs.inner.Tables.{kept_in}
use Rattle.rep_retain.proofs.Found.{entry_total, retained_found}
use Rattle.rep_retain.proofs.table.Topics.get.Goals as goal

pub find-requires : goal.find-requires
find-requires c = subst (λ es. IsTrue (is_ascending entry_cmp es)) (sym c.as_slice.ensures.value) c.self.invariant.ascending

pub returns : goal.returns
returns c =
    let t = c.args.topic.now in
    let es = c.self.inside.entries.items in
    c.find.ensures ∙ ap (kept_in t) c.as_slice.ensures.value ∙ sym (retained_found t es (from_test entry_cmp entry_total es c.self.invariant.ascending)) ∙ ap (λ es. retained t (ops_of es)) c.self.view_is
