use Rattle.field_laws.proofs.fields.nothing_vanishes.Goals as goal
use Rattle.field_laws.proofs.Remaining.{places}
use Rattle.field_laws.proofs.Staying.{grows, stays, moves, retained-stays, retained-moves}

pub returns : goal.returns
returns c = record { places = places; grows = grows; stays = stays; moves = moves; retained = retained-stays; retained_moves = retained-moves }
