use Rattle.std.proofs.Common.{◌≡◌, List, sym, ap, subst, ◌∙◌}
use Rattle.rep_op.specs.declared.op.Put.{Put}
use Rattle.rep_entry.specs.declared.entry.Entry.{Entry}
use Rattle.rep_log.specs.Mail.{Rising, weave}
use Rattle.rep_entry.proofs.Rising.{rising_weave}
use Rattle.rep_entry.proofs.Freshness.{are_apart}
use Rattle.rep_entry.proofs.change.put_into.Goals as goal

pub wait_on-left-requires-clause-woven : goal.wait_on-left-requires-clause-woven
wait_on-left-requires-clause-woven c =
    let waiting = c.args.place.now.seen.pending in
    let news = c.args.change.news.items in
    let is : c.replace-waiting.result ≡ waiting = c.replace-waiting.ensures.value ∙ ap (λ (e : Entry). e.seen.pending) c.put_log.ensures in
    subst (λ (ps : List Put). Rising (weave ps news)) (sym is) (rising_weave waiting news c.requires.rising c.requires.change.rising (are_apart waiting news c.requires.fit.1.apart))
