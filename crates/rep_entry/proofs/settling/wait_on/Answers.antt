-- What is left has no moment before the least of what waited and what is new.
use Rattle.std.proofs.Common.{List, ap, subst, ◌∙◌, filter}
use Rattle.rep_op.specs.declared.op.Put.{Put}
use Rattle.rep_model.specs.Moments.{AllLast}
use Rattle.rep_log.specs.Mail.{weave, is_uncovered}
use Rattle.rep_log.specs.Origins.{ranges_in}
use Rattle.rep_entry.proofs.Lasting.{left_last}
use Rattle.rep_entry.proofs.settling.wait_on.Goals as goal

pub puts_of-requires : goal.puts_of-requires
puts_of-requires c =
    let news = c.args.news.items in
    let rs = ranges_in c.args.acks.now in
    left_last c.soonest_with-soonest.result rs c.args.waiting news c.without_acknowledged-left.result.items
    c.soonest_with-soonest.ensures.these
    (subst (AllLast c.soonest_with-soonest.result) c.as_slice.ensures.value c.soonest_with-soonest.ensures.others)
    (c.without_acknowledged-left.ensures ∙ ap (λ (ps : List Put). filter (is_uncovered rs) (weave ps news)) c.into_items-waiting.ensures)
