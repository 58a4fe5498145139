-- What records come to.
use Rattle.std.specs.Prelude.{◌≡◌, List, Some, take, slice_get}
use Rattle.rep_op.specs.declared.op.Op.{Op}
use Rattle.rep_ops.specs.Splitting.{all_of}
use Rattle.rep_model.specs.Keep.{CountsAs}
use Rattle.rep_model.specs.Taking.{IsFaultOf}
use Rattle.jr_read.specs.declared.folding.Misfit.{Misfit}

-- the record after so many others has this fault beside what is kept of them
pub record IsRecordMisfit (deltas : List (List Op)) (misfit : Misfit) : Type 0 where
  pub delta : List Op
  pub delta_is : slice_get deltas misfit.before ≡ Some delta
  pub kept : List Op
  pub counts : CountsAs (all_of (take misfit.before deltas)) kept
  pub fault : IsFaultOf kept delta misfit.fault
