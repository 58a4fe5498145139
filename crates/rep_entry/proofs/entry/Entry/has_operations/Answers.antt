use Rattle.std.proofs.Common.{◌||◌, ◌==◌, not, length, sym, ap, ◌∙◌}
use Rattle.rep_entry.proofs.Anything.{any_row}
use Rattle.rep_entry.proofs.entry.Entry.has_operations.Goals as goal

pub returns : goal.returns
returns c =
    λ client.
    c.any_of.ensures
    ∙ (λ i. (c.any_change-log.ensures ∙ ap (λ ops. not (length ops == 0)) c.as_slice.ensures.items) i || ((c.any_put-mail.ensures ∙ ap (λ ps. not (length ps == 0)) c.as_slice-2.ensures) i || c.has_ranges.ensures i))
    ∙ sym (any_row client c.args.self.now)
