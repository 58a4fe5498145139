use Rattle.std.proofs.Common.{◌==◌, List, sym, ap, subst, ◌∙◌}
use Rattle.std.specs.List.{find}
use Rattle.rep_model.specs.Ranges.{AreApart}
use Rattle.rep_digest.specs.WellMade.{IsOriginEntry}
use Rattle.rep_digest.specs.declared.entry.OriginEntry.{OriginEntry}
use Rattle.rep_answer.proofs.Finding.{found_all}
use Rattle.rep_answer.proofs.cover.acknowledged_in.Goals as goal

pub returns-in-Some-clause-apart : goal.returns-in-Some-clause-apart
returns-in-Some-clause-apart c =
    let said : OriginEntry = c.in-Some.said.now in
    let there = ap (λ (os : List OriginEntry). find (λ o. c.args.origin == o.origin) os) (sym c.as_slice.ensures) ∙ c.in-Some.ensures in
    subst (λ (rs : List _). AreApart rs) (sym c.as_slice-in-Some.ensures) (found_all IsOriginEntry (λ o. c.args.origin == o.origin) c.args.entry.now.origins c.requires.origins said there).acknowledged.1
