use Rattle.std.proofs.Common.{◌≡◌, ℕ, rules}
use Rattle.std.proofs.lemmas.Fn.{always_returns_same}
use Rattle.sn_session.specs.declared.change.SessionOp.{SessionOp}
use Rattle.sn_tables.proofs.Places.{placed}
use Rattle.rep_op.specs.declared.op.Stamp.{Stamp}
use Rattle.rep_op.specs.Orders.{operation_cmp}
use Rattle.rep_model.proofs.Readers.{operation_total}
use Rattle.rep_log.proofs.Sorting.{ascends}
use Rattle.rep_log.proofs.named_ops.place_of.Goals as goal

-- the closure compares an operation's name with the one that is sought
pub returns-clause-place : goal.returns-clause-place
returns-clause-place c =
    let q : Stamp × ℕ = (c.args.stamp, c.args.counter) in
    let named = c.binary_search_by.ensures.position (λ (e : (Stamp × ℕ) × SessionOp). operation_cmp e.0 q) (always_returns_same _ (λ a r. r ≡ operation_cmp a.0.now.0 q) _ (λ a r g called. search rules)) in
    placed (λ (e : (Stamp × ℕ) × SessionOp). e.0) operation_cmp operation_total q c.args.ops.now (ascends operation_cmp c.args.ops.now c.requires) c.binary_search_by.result c.binary_search_by.ensures.bound named
