use Rattle.std.proofs.Common.{◌≡◌, IsTrue, OnOk, IfErr, sym, ap, subst, ◌∙◌}
use Rattle.sn_tables.specs.Tables.{is_ascending}
use Rattle.rep_model.specs.Taking.{AllAgree}
use Rattle.rep_retain.specs.Tables.{entry_cmp, ops_of}
use Rattle.rep_retain.specs.Refusals.{IsContradiction}
use Rattle.rep_retain.proofs.table.Topics.check.Goals as goal

pub check_all-requires-clause-table : goal.check_all-requires-clause-table
check_all-requires-clause-table c = subst (λ es. IsTrue (is_ascending entry_cmp es)) (sym c.as_slice.ensures.value) c.self.invariant.ascending

pub returns-clause-agree : goal.returns-clause-agree
returns-clause-agree c = subst (λ es. OnOk c.check_all.result (AllAgree (ops_of es) c.args.ops.now)) (c.as_slice.ensures.value ∙ c.self.view_is) c.check_all.ensures.agree

pub returns-clause-fault : goal.returns-clause-fault
returns-clause-fault c = subst (λ es. IfErr c.check_all.result (IsContradiction (ops_of es) c.args.ops.now)) (c.as_slice.ensures.value ∙ c.self.view_is) c.check_all.ensures.fault
