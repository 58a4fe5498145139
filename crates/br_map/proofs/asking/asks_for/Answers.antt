use Rattle.std.proofs.Common.{◌≡◌, ◌↔◌, IsTrue, Bool, sym, subst, rules}
use Rattle.sn_topic.specs.Matching.{Matches, is_match}
use Rattle.sn_topic.proofs.Rule.{is_match-Matches}
use Rattle.br_map.proofs.asking.asks_for.Goals as goal

pub returns-clause-rule : goal.returns-clause-rule
returns-clause-rule c =
    let value : c.levels_match.result ≡ is_match c.args.filter.now c.args.topic.now = search rules in
    let P : Bool → Type 0 = λ answer. IsTrue answer ↔ Matches c.args.filter.now c.args.topic.now in
    subst P (sym value) (is_match-Matches c.args.filter.now c.args.topic.now)
