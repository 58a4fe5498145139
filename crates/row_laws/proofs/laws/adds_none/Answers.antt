use Rattle.row_laws.proofs.laws.adds_none.Goals as goal
use Rattle.row_laws.proofs.Known.{known-own, known-others, known-stays, same-behind}

pub returns : goal.returns
returns c = record { own = known-own; others = known-others; stays = known-stays; together = same-behind }
