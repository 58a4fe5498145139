use Rattle.std.proofs.Common.{◌≡◌, ◌+◌, ℕ, IfOk, sym, subst, ◌∙◌}
use Rattle.std.proofs.lemmas.List.Sums.{length-filter}
use Rattle.rep_log.specs.Mail.{is_uncovered}
use Rattle.rep_log.specs.Origins.{ranges_in}
use Rattle.rep_entry.proofs.Applied.{weave_count}
use Rattle.rep_entry.proofs.settling.count_settled.Goals as goal

pub returns : goal.returns
returns c =
    λ waits comes free new.
    let test = is_uncovered (ranges_in c.args.acks.now) in
    let ps = c.args.waiting.now in
    let ns = c.args.news.now in
    subst (λ (n : ℕ). IfOk c.sum.result (λ count. count ≡ n))
    ((λ i. (c.count_left.ensures waits free ∙ sym (length-filter test ps)) i + (c.count_left-2.ensures comes new ∙ sym (length-filter test ns)) i) ∙ sym (weave_count test ps ns)) c.sum.ensures
