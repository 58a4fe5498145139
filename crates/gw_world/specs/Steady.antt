-- A field in which no gateway contradicts itself.
use Rattle.std.specs.Prelude.{ℕ, List}
use Rattle.std.specs.List.{AllByRecursion}
use Rattle.rep_op.specs.declared.op.Op.{Op}
use Rattle.sn_plan.specs.Own.{AddsNothingOwn}
use Rattle.sn_plan.specs.Flush.{HaveNoGap}
use Rattle.gw_event.specs.Gateways.{Gateway}
use Rattle.gw_world.specs.Field.{Field, IsAt}

-- the delta has no session operation under a stamp of the gateway that the gateway has not
abbrev pub IsKnown : ℕ → List Op → List Op → Type 0
IsKnown number taken delta = (c : List ℕ) → AddsNothingOwn number c taken delta

-- each gateway that events reach is flush, and no delta of the field has news for it of what it
-- wrote itself
pub record IsSteady (field : Field) : Type 0 where
  pub flush : (number i : ℕ) (gateway : Gateway) → IsAt field number i gateway
      → HaveNoGap number gateway.taken
  pub known : (number i : ℕ) (gateway : Gateway) → IsAt field number i gateway
      → AllByRecursion (IsKnown number gateway.taken) field.deltas
