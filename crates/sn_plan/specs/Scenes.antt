-- What a step reads beside the frame.
use Rattle.std.specs.Prelude.{List}
use Rattle.rep_op.specs.declared.op.Op.{Op}
use Rattle.sn_local.specs.Seen.{Seen, seen_of}
use Rattle.sn_plan.specs.declared.scene.Scene.{Scene}

-- what the gateway of a scene sees of the set that it keeps
abbrev pub seen_in : {R Z : Type 0} → (R → List Op) → Scene R Z → Seen
seen_in kept scene = seen_of (kept scene.replica.now)
