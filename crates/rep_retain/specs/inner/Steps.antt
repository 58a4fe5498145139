-- What is staged of operations of which a table has the topics already.
use Rattle.std.specs.Prelude.{◌≡◌, ℕ, ◌<◌, List, length}
use Rattle.rep_op.specs.declared.op.Retained.{Retained}
use Rattle.rep_op.specs.declared.op.Op.{Op}
use Rattle.rep_retain.specs.declared.staged.TopicsStaged.{TopicsStaged}
use Rattle.rep_retain.specs.declared.staged.TopicsStaged.TheVariants.{Nothing, Entry, Table}
use Rattle.rep_retain.specs.inner.Tables.{with_ops}
use Rattle.rep_retain.specs.Staging.{topics_moved}

-- an entry takes a place in the table
abbrev pub HasPlace : List (List ℕ × Retained) → TopicsStaged → Type 0
HasPlace es Nothing = Unit {0}
HasPlace es (Entry at e) = at < length es
HasPlace es (Table next) = Unit {0}

-- in its place it makes the table with the operations, which is as long as it was
pub record IsStagedOf (es : List (List ℕ × Retained)) (ops : List Op)
    (staged : TopicsStaged) : Type 0 where
  pub moves : topics_moved es staged ≡ with_ops es ops
  pub stands : HasPlace es staged
  pub long : length (with_ops es ops) ≡ length es
