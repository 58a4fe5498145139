use Rattle.std.proofs.Common.{◌≡◌, ◌≤◌, ℕ, [], Option, MatchOption, Contains, All, sym, subst, arith}
use Rattle.std.proofs.lemmas.Grind.{common_steps}
use Rattle.sn_topic.specs.Table.{ids_of, least}
use Rattle.sn_topic.proofs.Least.{least-is}
use Rattle.sn_topic.proofs.predefined.Predefined.id.Goals as goal

pub returns-clause-rule : goal.returns-clause-rule
returns-clause-rule c =
    let value : c.loop-id.least ≡ least (ids_of c.args.name.now c.args.self.now) = grind (arith, common_steps) in
    let P : Option ℕ → Type 0 = λ answer. MatchOption answer (ids_of c.args.name.now c.args.self.now ≡ []) (λ id. Contains (ids_of c.args.name.now c.args.self.now) id × All (λ other. id ≤ other) (ids_of c.args.name.now c.args.self.now)) in
    subst P (sym value) (least-is (ids_of c.args.name.now c.args.self.now))
