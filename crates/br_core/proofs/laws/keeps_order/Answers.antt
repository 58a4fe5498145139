use Rattle.br_core.proofs.Order.{keeps-order}
use Rattle.br_core.proofs.laws.keeps_order.Goals as goal

pub returns : goal.returns
returns c = keeps-order
