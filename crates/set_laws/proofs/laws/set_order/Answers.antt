use Rattle.set_laws.proofs.Order.{below-itself, below-on, below-both, below-alike}
use Rattle.set_laws.proofs.laws.set_order.Goals as goal

pub returns : goal.returns
returns c = record {
  itself = below-itself;
  on = below-on;
  both = below-both;
  alike = below-alike;
}
