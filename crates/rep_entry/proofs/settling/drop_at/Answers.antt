use Rattle.std.proofs.Common.{suc, get_or, drop, remove, filter, List, refl, sym, ap, ◌∙◌}
use Rattle.rep_op.specs.declared.op.Put.{Put}
use Rattle.rep_log.specs.Mail.{is_uncovered}
use Rattle.rep_log.specs.Origins.{ranges_in}
use Rattle.rep_entry.proofs.Spans.{stays, goes}
use Rattle.rep_entry.proofs.settling.drop_at.Goals as goal

pub returns-then-is_left : goal.returns-then-is_left
returns-then-is_left c =
    λ whole lt is.
    let rs = ranges_in c.args.acks.now in
    let at = c.args.at in
    let p = c.index.result.now in
    let left = ap (λ (ps : List Put). is_uncovered rs (get_or ps at p)) (sym is) ∙ ap (is_uncovered rs) (sym c.index.ensures) ∙ sym c.is_left.ensures ∙ c.if-is_left.true in
    is ∙ stays rs at whole (filter (is_uncovered rs) (drop (suc at) whole)) p refl lt left

pub returns : goal.returns
returns c =
    λ whole lt is.
    let rs = ranges_in c.args.acks.now in
    let at = c.args.at in
    let p = c.index.result.now in
    let gone = ap (λ (ps : List Put). is_uncovered rs (get_or ps at p)) (sym is) ∙ ap (is_uncovered rs) (sym c.index.ensures) ∙ sym c.is_left.ensures ∙ c.if-is_left.false in
    c.remove.ensures.items ∙ ap (λ (ps : List Put). remove ps at) is ∙ goes rs at whole (filter (is_uncovered rs) (drop (suc at) whole)) p refl lt gone
