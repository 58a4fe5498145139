use Rattle.row_laws.proofs.Subscribed.{ends}
use Rattle.row_laws.proofs.request_laws.unsubscribe_ends.Goals as goal

pub returns : goal.returns
returns c = ends
