use Rattle.std.proofs.Common.{take, All, ◌<◌, ◌^◌}
use Rattle.rep_op.proofs.value.ids_are_values.Given as goal

abbrev pub invariant-loop-id : goal.invariant-loop-id
invariant-loop-id l = All (λ id. id < 2 ^ 16) (take l.id-index l.ids)
