use Rattle.std.proofs.Common.{◌++◌, ap, ◌∙◌, append-nil}
use Rattle.rep_log.proofs.log.Log.of.Goals as goal

pub returns : goal.returns
returns c =
    λ known.
    let all = ap (λ more. known ++ more) c.new.ensures ∙ append-nil known in
    λ i. record { stamp = c.args.seen.now.stamp; prefix = c.args.seen.now.prefix; session = c.in_ok-session.ensures i; known = all i }
