-- Whether deltas can be taken one after the other within the limits.
use Rattle.std.specs.Prelude.{◌≡◌, ℕ, List, None, take}
use Rattle.rep_op.specs.declared.op.Op.{Op}
use Rattle.rep_ops.specs.Splitting.{all_of}
use Rattle.rep_model.specs.Limits.{first_passed}

-- no front part of these deltas passes a limit, so that there is room to take one after the other
abbrev pub IsRoomy : List (List Op) → Type 0
IsRoomy deltas = (k : ℕ) → first_passed (all_of (take k deltas)) ≡ None
