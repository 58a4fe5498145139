use Rattle.std.proofs.Common.{sym, ap, ◌∙◌}
use Rattle.std.specs.BTreeMap.{insert_entry}
use Rattle.rep_op.specs.Orders.{operation_cmp}
use Rattle.rep_shared.proofs.Entering.{entered_operation}
use Rattle.rep_shared.proofs.replay.note_operation.Goals as goal

pub returns-in_ok-insert-in-Session : goal.returns-in_ok-insert-in-Session
returns-in_ok-insert-in-Session c =
    λ S h. c.in_ok-insert-in-Session.ensures.entries
    ∙ ap (λ v. insert_entry operation_cmp c.args.known.now.entries (c.in-Session.stamp, c.in-Session.counter) v) c.in_ok-copied-in-Session.ensures
    ∙ entered_operation c.args.client.now c.in-Session.owner c.in-Session.stamp c.in-Session.counter c.in-Session.change c.args.op.now S c.args.known.now.entries c.in-Session.is (sym c.eq.ensures ∙ c.if-eq.true) h
