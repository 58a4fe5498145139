use Rattle.std.proofs.Common.{List, IfOk, IfSome, sym, subst}
use Rattle.rep_op.specs.declared.op.Op.{Op}
use Rattle.rep_retain.specs.inner.Steps.{IsStagedOf}
use Rattle.rep_retain.proofs.staged.alone.Goals as goal

pub staged_at-requires-clause-place : goal.staged_at-requires-clause-place
staged_at-requires-clause-place c = c.in-Ok.ensures.1

pub returns-in-Ok : goal.returns-in-Ok
returns-in-Ok c =
    let es = c.args.entries.now in
    subst (λ (ops : List Op). IfOk c.staged_at.result (λ found. IfSome found (λ staged. IsStagedOf es ops staged))) (sym c.in-Some.ensures) c.staged_at.ensures
