use Rattle.std.proofs.Common.{append_assoc}
use Rattle.rep_model.proofs.laws.join_laws.Goals as goal
use Rattle.rep_model.proofs.Thin.{thin-same, view-thin}
use Rattle.rep_model.proofs.Joins.{same-twice, same-turned, below-left, below-right, below-least}

pub returns : goal.returns
returns c = record {
  idempotent = same-twice;
  commutative = same-turned;
  associative = append_assoc;
  left = below-left;
  right = below-right;
  least = below-least;
  equal = λ c A B s. view-thin A B (thin-same A B s) c;
}
