use Rattle.std.proofs.Common.{All, subst, ◌<◌, ◌^◌}
use Rattle.std.proofs.lemmas.List.Elements.{recursion_from_All}
use Rattle.std.proofs.lemmas.List.{take_all}
use Rattle.rep_op.proofs.value.ids_are_values.Goals as goal

pub returns : goal.returns
returns c = recursion_from_All (λ id. id < 2 ^ 16) c.args.ids.now (subst (All (λ id. id < 2 ^ 16)) (take_all c.loop-id.id-index c.args.ids.now c.loop-id-test.false) c.loop-id.invariant)
