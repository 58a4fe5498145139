use Rattle.std.proofs.Common.{sym, ◌∙◌}
use Rattle.rep_same.proofs.Equal.{topics_told}
use Rattle.rep_same.proofs.change.are_same_topics.Goals as goal

pub returns : goal.returns
returns c =
    let told = topics_told c.args.a.now c.args.b.now in
    (λ h. told.0 (sym c.eq.ensures ∙ h), λ e. c.eq.ensures ∙ told.1 e)
