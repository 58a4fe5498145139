use Rattle.std.proofs.Common.{◌≡◌, not, sym, ◌∙◌, arith, rules}
use Rattle.std.proofs.lemmas.Grind.{common_steps}
use Rattle.br_map.specs.Apart.{are_filters_apart}
use Rattle.br_map.proofs.Meeting.{apart_rule}
use Rattle.br_map.proofs.filters.apart.Goals as goal

pub returns-then-dollar_apart-2-clause-rule : goal.returns-then-dollar_apart-2-clause-rule
returns-then-dollar_apart-2-clause-rule c =
    let value : c.if-dollar_apart.value ≡ are_filters_apart c.args.first.now c.args.second.now = first_of (search rules, grind (arith, common_steps)) in
    λ holds. apart_rule c.args.first.now c.args.second.now (sym value ∙ holds)

pub returns-else-dollar_apart-2-clause-rule : goal.returns-else-dollar_apart-2-clause-rule
returns-else-dollar_apart-2-clause-rule c =
    let value : not c.overlap.result ≡ are_filters_apart c.args.first.now c.args.second.now = first_of (search rules, grind (arith, common_steps)) in
    λ holds. apart_rule c.args.first.now c.args.second.now (sym value ∙ holds)
