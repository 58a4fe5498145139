use Rattle.std.proofs.Common.{ℕ, sym, ap, ◌∙◌}
use Rattle.std.specs.FinMap.{find}
use Rattle.rep_op.specs.declared.op.Stamp.{Stamp}
use Rattle.rep_op.specs.Orders.{operation_cmp}
use Rattle.rep_model.proofs.Lookup.{or_else, find_both}
use Rattle.rep_log.proofs.replay.find_among.Goals as goal

pub returns-in-Some : goal.returns-in-Some
returns-in-Some c =
    let q : Stamp × ℕ = (c.args.stamp, c.args.counter) in
    ap (λ o. or_else o (find operation_cmp q c.args.more.now)) c.in-Some.ensures ∙ sym (find_both operation_cmp q c.args.first.now c.args.more.now)

pub returns-in-None : goal.returns-in-None
returns-in-None c =
    let q : Stamp × ℕ = (c.args.stamp, c.args.counter) in
    c.find_op-in-None.ensures ∙ ap (λ o. or_else o (find operation_cmp q c.args.more.now)) c.in-None.ensures ∙ sym (find_both operation_cmp q c.args.first.now c.args.more.now)
