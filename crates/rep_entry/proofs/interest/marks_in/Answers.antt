use Rattle.std.proofs.Common.{sym, ap, ◌∙◌}
use Rattle.rep_entry.specs.Interests.{mark_of}
use Rattle.rep_entry.proofs.Asking.{among_all, asks_for_itself, one_shifted}
use Rattle.rep_entry.proofs.interest.marks_in.Goals as goal

pub returns-then-has_wildcard : goal.returns-then-has_wildcard
returns-then-has_wildcard c = λ topic _. among_all topic

pub returns-else-has_wildcard : goal.returns-else-has_wildcard
returns-else-has_wildcard c = λ topic is.
    let asked = c.args.filter.now in
    let same = asks_for_itself asked topic (sym c.has_wildcard.ensures ∙ c.if-has_wildcard.false) is in
    one_shifted c.mark_of.result (mark_of topic) c.mark_of.ensures.few (c.mark_of.ensures.value ∙ ap mark_of (c.bytes.ensures.octets ∙ same))
