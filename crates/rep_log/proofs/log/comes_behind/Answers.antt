use Rattle.std.proofs.Common.{◌≡◌, Less, sym, ◌∙◌, ℕ}
use Rattle.sn_session.specs.declared.change.SessionOp.{SessionOp}
use Rattle.rep_op.specs.declared.op.Stamp.{Stamp}
use Rattle.rep_op.specs.Orders.{operation_cmp}
use Rattle.rep_model.proofs.Readers.{operation_total}
use Rattle.rep_log.proofs.Sorting.{none_last, behind_all}
use Rattle.rep_log.proofs.log.comes_behind.Goals as goal

pub returns-in-None : goal.returns-in-None
returns-in-None c = λ _. none_last (λ (e : (Stamp × ℕ) × SessionOp). operation_cmp e.0 c.args.name ≡ Less) c.args.ops.now (sym c.in-None.ensures.value)

pub returns-in-Some : goal.returns-in-Some
returns-in-Some c = λ behind. behind_all operation_cmp operation_total c.args.name c.args.ops.now c.in-Some.last.now c.requires (sym c.in-Some.ensures.value) (sym c.goes_before.ensures ∙ behind)
