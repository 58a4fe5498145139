use Rattle.std.proofs.Common.{◌≡◌, ℕ, ◌++◌, true, List, sym, subst, arith, rules}
use Rattle.std.proofs.lemmas.Grind.{common_steps}
use Rattle.sn_topic.specs.Matching.{Matches}
use Rattle.br_map.specs.Apart.{ends_a_level}
use Rattle.br_map.proofs.Below.{below_matches}
use Rattle.br_map.proofs.filters.apart_below.Goals as goal

pub returns-clause-rule : goal.returns-clause-rule
returns-clause-rule c =
    let whole : c.deref.result.now ≡ c.args.prefix.now ++ c.args.filter.now = first_of (search rules, grind (arith, common_steps)) in
    let ends : ends_a_level c.args.prefix.now ≡ true = first_of (search rules, grind (arith, common_steps)) in
    λ holds topic m n.
    let P : List ℕ → Type 0 = λ x. Matches x (c.args.prefix.now ++ topic) in
    c.apart.ensures.rule holds (c.args.prefix.now ++ topic) (subst P (sym whole) (below_matches c.args.prefix.now c.args.filter.now topic c.bytes.ensures.valid.2 ends m)) n
