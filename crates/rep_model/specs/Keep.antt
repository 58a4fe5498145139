-- What a gateway may not forget of a set. A set is called S, or K if it is what a replica keeps of
-- one.
use Rattle.std.specs.Prelude.{ℕ, Bool, true, false, not, List, ◌++◌, filter, Option, Some, None}
use Rattle.std.specs.Ordering.{is_lt}
use Rattle.rep_op.specs.declared.op.Stamp.{Stamp}
use Rattle.rep_op.specs.declared.op.Op.{Op}
use Rattle.rep_op.specs.declared.op.Op.TheVariants.{Session as OfSession, Put as OfPut, Ack, Retain as OfRetain}
use Rattle.rep_op.specs.Orders.{stamp_cmp, clock_of, clock_cmp}
use Rattle.rep_op.specs.Sets.{is_acknowledged, Within, Same}
use Rattle.rep_model.specs.Views.{visible}
use Rattle.rep_model.specs.Topics.{latest}

-- whether the stamp is below the visible one
abbrev pub is_below : Stamp → Option Stamp → Bool
is_below stamp None = false
is_below stamp (Some seen) = is_lt (stamp_cmp stamp seen)

-- whether something later was retained
abbrev pub is_outdone : ℕ × ℕ → Option (ℕ × ℕ) → Bool
is_outdone name None = false
is_outdone name (Some last) = is_lt (clock_cmp name last)

-- whether an operation is kept: all but session operations below the visible stamp, acknowledged
-- puts, and what was retained of a topic before the last
abbrev pub is_kept : List Op → Op → Bool
is_kept S (OfSession c stamp counter change) = not (is_below stamp (visible c S))
is_kept S (OfPut c put) = not (is_acknowledged c S (put.seq, put.origin))
is_kept S (Ack c origin first last) = true
is_kept S (OfRetain t kept) = not (is_outdone (clock_of kept) (latest t S))

-- the set without session operations below the visible stamp, without acknowledged puts, and with
-- what was retained last of each topic
abbrev pub keep : List Op → List Op
keep S = filter (is_kept S) S

-- K lies between keep(S) and S: what a replica may hold of S
pub record IsKeptOf (S K : List Op) : Type 0 where
  pub lower : Within (keep S) K
  pub upper : Within K S

-- K counts as S: what must be kept of both is the same set
abbrev pub CountsAs : List Op → List Op → Type 0
CountsAs S K = Same (keep K) (keep S)

-- A is below B: B together with A keeps what B keeps, so B has all of A that counts
abbrev pub Below : List Op → List Op → Type 0
Below A B = Same (keep (A ++ B)) (keep B)
