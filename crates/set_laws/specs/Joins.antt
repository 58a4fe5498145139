-- What it is to be the join of two sets.
use Rattle.std.specs.Prelude.{List}
use Rattle.rep_op.specs.declared.op.Op.{Op}
use Rattle.rep_model.specs.Keep.{Below}

-- J is above A and B, and below whatever is above both
pub record IsLeastAbove (A B J : List Op) : Type 0 where
  pub left : Below A J
  pub right : Below B J
  pub least : (C : List Op) → Below A C → Below B C → Below J C
