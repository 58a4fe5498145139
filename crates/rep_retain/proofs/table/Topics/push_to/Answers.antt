use Rattle.std.proofs.Common.{◌≡◌, ◌++◌, ℕ, List, OnOk, subst, ◌∙◌}
use Rattle.sn_tables.proofs.Ascending.{from_test}
use Rattle.rep_op.specs.Sets.{retain_at}
use Rattle.rep_op.specs.declared.op.Retained.{Retained}
use Rattle.rep_ops.specs.Making.{AreWellMade}
use Rattle.rep_model.specs.Keep.{keep}
use Rattle.rep_retain.specs.Tables.{entry_cmp, ops_of}
use Rattle.rep_retain.proofs.Found.{entry_total}
use Rattle.rep_retain.proofs.Keeping.{table_kept}
use Rattle.rep_retain.proofs.table.Topics.push_to.Goals as goal

pub returns-clause-ok : goal.returns-clause-ok
returns-clause-ok c = subst (λ es. OnOk c.push_ops.result (c.push_ops.new.ops.items ≡ c.args.ops.now.items ++ ops_of es)) (c.as_slice.ensures.value ∙ c.self.view_is) c.push_ops.ensures

pub returns-clause-made : goal.returns-clause-made
returns-clause-made c = subst (λ es. AreWellMade (ops_of es)) c.self.view_is c.self.invariant.well_made

pub returns-clause-stays : goal.returns-clause-stays
returns-clause-stays c =
    let es = c.self.inside.entries.items in
    subst (λ (es : List (List ℕ × Retained)). (t : List ℕ) (name : ℕ × ℕ) → retain_at t (keep (ops_of es)) name ≡ retain_at t (ops_of es) name) c.self.view_is (table_kept es (from_test entry_cmp entry_total es c.self.invariant.ascending))
