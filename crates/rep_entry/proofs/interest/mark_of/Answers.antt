use Rattle.std.proofs.Common.{◌≡◌, ◌/◌, fold, ap, arith}
use Rattle.std.proofs.lemmas.Grind.{common_steps}
use Rattle.rep_entry.specs.Interests.{mixed_with, mark_of}
use Rattle.rep_entry.proofs.interest.mark_of.Goals as goal

pub returns-clause-value : goal.returns-clause-value
unfolding mark_of
returns-clause-value c =
    let mixed : c.loop-octet.mixed ≡ fold mixed_with 2166136261 c.args.octets.now = grind (arith, common_steps) in
    ap (λ m. m / 67108864) mixed
