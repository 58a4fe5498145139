use Rattle.row_laws.proofs.laws.own_names.Goals as goal
use Rattle.row_laws.proofs.Names.{plan-own, plan-apart}

pub returns : goal.returns
returns c = record { own = plan-own; apart = plan-apart }
