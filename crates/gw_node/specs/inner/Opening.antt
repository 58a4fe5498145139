-- Opening a node: it takes what its journal holds.
use Rattle.std.specs.Prelude.{List}
use Rattle.rep_op.specs.declared.op.Op.{Op}
use Rattle.gw_answer.specs.declared.refusal.Refusal.{Refusal}
use Rattle.gw_answer.specs.declared.refusal.Refusal.TheVariants as refusals
use Rattle.gw_node.specs.Opening.{HasMisfit}

-- why deltas are not taken, one after the other
abbrev pub DoNotFit : List (List Op) → Refusal → Type 0
DoNotFit deltas (refusals.Conflict client) = HasMisfit deltas (refusals.Conflict client)
DoNotFit deltas refusals.Full = HasMisfit deltas refusals.Full
DoNotFit deltas refusals.Memory = Unit {0}
DoNotFit deltas refusal = ⊥
