-- What a step reads of a set of operations.
use Rattle.std.specs.Prelude.{ℕ, Bool, List, Option}
use Rattle.rep_op.specs.declared.op.Op.{Op}
use Rattle.rep_op.specs.declared.op.Retained.{Retained}
use Rattle.rep_model.specs.declared.view.ClientView.{ClientView}
use Rattle.rep_model.specs.Views.{view, is_named, clients}
use Rattle.rep_model.specs.Topics.{all_retained, retained}
use Rattle.rep_model.specs.Fresh.{next_epoch, next_seq, next_clock}

-- all that a step reads of a set of operations: the clients that it names, their views, and the
-- numbers that are next; the topics of which something was ever retained, what is retained of each,
-- and the clock that is next
pub record Seen : Type 0 where
  pub all : List (List ℕ)
  pub is_there : List ℕ → Bool
  pub of : List ℕ → ClientView
  pub epoch : List ℕ → Option ℕ
  pub seq : List ℕ → ℕ → Option ℕ
  pub topics : List (List ℕ × Retained)
  pub retained : List ℕ → Option Retained
  pub clock : List ℕ → Option ℕ

-- what a step reads of this set
abbrev pub seen_of : List Op → Seen
seen_of S =
    record {
      all = clients S;
      is_there = λ c. is_named c S;
      of = λ c. view c S;
      epoch = λ c. next_epoch c S;
      seq = λ c g. next_seq c g S;
      topics = all_retained S;
      retained = λ t. retained t S;
      clock = λ t. next_clock t S;
    }
