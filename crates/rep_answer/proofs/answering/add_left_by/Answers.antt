use Rattle.std.proofs.Common.{ℕ, ◌++◌, refl, ap, sym, ◌∙◌, map}
use Rattle.rep_answer.specs.inner.Steps.{ending_from, beginning_by, outside, ack_of_range, left_by_entry}
use Rattle.std.specs.Prelude.{Some}
use Rattle.rep_answer.proofs.Reaching.{outside_ending, outside_beginning}
use Rattle.rep_answer.proofs.answering.add_left_by.Goals as goal

pub returns-in_ok-add_outside-in-Ack : goal.returns-in_ok-add_outside-in-Ack
returns-in_ok-add_outside-in-Ack c =
    let range : ℕ × ℕ = (c.in-Ack.first, c.in-Ack.last) in
    let ranges = c.acknowledged_in.result.now in
    let piece = ack_of_range c.in-Ack.client c.in-Ack.origin in
    c.in_ok-add_outside-in-Ack.ensures
    ∙ ap (λ rs. c.args.left.now.items ++ map piece (outside range rs)) (c.ending_from-ranges.ensures ∙ ap (ending_from c.in-Ack.first) c.beginning_by-ranges.ensures.ranges)
    ∙ ap (λ rs. c.args.left.now.items ++ map piece rs) (outside_ending range (beginning_by c.in-Ack.last ranges) ∙ outside_beginning c.in-Ack.last 0 range ranges refl c.acknowledged_in.ensures.apart)
    ∙ ap (λ rs. c.args.left.now.items ++ map piece (outside range rs)) c.acknowledged_in.ensures.ranges
    ∙ ap (λ op. c.args.left.now.items ++ left_by_entry (Some c.args.entry.now) op) (sym c.in-Ack.is)
