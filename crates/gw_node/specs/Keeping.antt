-- What a replica keeps of the set that its gateway has taken.
use Rattle.std.specs.Prelude.{◌≡◌, ℕ, List, Some, Contains}
use Rattle.sn_session.specs.declared.change.SessionOp.{SessionOp}
use Rattle.rep_op.specs.declared.op.Stamp.{Stamp}
use Rattle.rep_op.specs.declared.op.Put.{Put}
use Rattle.rep_op.specs.declared.op.Op.{Op}
use Rattle.rep_op.specs.declared.op.Op.TheVariants.{Session as OfSession, Put as OfPut, Retain as OfRetain}
use Rattle.rep_op.specs.declared.op.Retained.{Retained}
use Rattle.rep_op.specs.Orders.{clock_of}
use Rattle.rep_op.specs.Sets.{operation_at, put_at, retain_at}
use Rattle.rep_model.specs.Keep.{CountsAs}

-- what is kept counts as what was taken, and nothing is kept that was not taken
pub record Keeps (taken kept : List Op) : Type 0 where
  pub counts : CountsAs taken kept
  pub operations_taken : (c : List ℕ) (name : Stamp × ℕ) (change : SessionOp)
      → operation_at c kept name ≡ Some change → Contains taken (OfSession c name.0 name.1 change)
  pub puts_taken : (c : List ℕ) (name : ℕ × ℕ) (put : Put) → put_at c kept name ≡ Some put
      → Contains taken (OfPut c put) × ((put.seq, put.origin) ≡ name)
  pub retains_taken : (t : List ℕ) (name : ℕ × ℕ) (last : Retained)
      → retain_at t kept name ≡ Some last
      → Contains taken (OfRetain t last) × (clock_of last ≡ name)
