use Rattle.set_laws.proofs.Order.{join-least, join-alone}
use Rattle.set_laws.proofs.laws.set_joins.Goals as goal

pub returns : goal.returns
returns c = record {
  least = join-least;
  alone = join-alone;
}
