use Rattle.std.proofs.Common.{◌≡◌, ℕ, List, length, take, refl, sym, subst, arith}
use Rattle.std.proofs.lemmas.Grind.{common_steps}
use Rattle.std.proofs.lemmas.List.{take_at}
use Rattle.std.proofs.lemmas.Slice.Eq.{bytes_eq-Decides}
use Rattle.br_map.proofs.prefix.Prefix.strip.Goals as goal

pub returns-else-eq : goal.returns-else-eq
returns-else-eq c =
    λ rest e.
    let P : List ℕ → Type 0 = λ x. take (length c.args.self.now) x ≡ c.args.self.now in
    let front : take (length c.args.self.now) c.args.topic.now ≡ c.args.self.now = subst P (sym e) (take_at c.args.self.now rest (length c.args.self.now) refl) in
    let same : c.split_at.result.0.now ≡ c.bytes-prefix.result.now = grind (arith, common_steps) in
    let is = (bytes_eq-Decides c.split_at.result.0.now c.bytes-prefix.result.now).1 same in
    grind (arith, common_steps)
