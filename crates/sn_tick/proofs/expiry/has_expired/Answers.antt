-- Before the least moment nothing expires.
use Rattle.std.proofs.Common.{◌&&◌, not, List, sym, ap, ◌∙◌}
use Rattle.rep_op.specs.declared.op.Put.{Put}
use Rattle.sn_tick.specs.Expiry.{under_way, is_stretched, any_expires}
use Rattle.sn_tick.proofs.Resting.{none_expires}
use Rattle.sn_tick.proofs.expiry.has_expired.Goals as goal

pub returns-then-may : goal.returns-then-may
returns-then-may c =
    let now = c.args.now in
    c.any_expires.ensures
    ∙ ap (λ name. any_expires now name c.as_slice-puts.result.now) c.under_way-name.ensures
    ∙ ap (λ (ps : List Put). any_expires now (under_way ps c.args.address c.args.session.now) ps) c.as_slice-puts.ensures

pub returns-else-may : goal.returns-else-may
returns-else-may c =
    let name = under_way c.args.pending.now c.args.address c.args.session.now in
    sym (ap (λ b. b && not (is_stretched c.args.now name c.args.pending.now))
    (none_expires c.args.now name c.args.pending.now (c.may_be_past-may.ensures c.if-may.false)))
