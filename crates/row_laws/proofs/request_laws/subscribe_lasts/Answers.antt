use Rattle.row_laws.proofs.Subscribed.{lasts}
use Rattle.row_laws.proofs.request_laws.subscribe_lasts.Goals as goal

pub returns : goal.returns
returns c = lasts
