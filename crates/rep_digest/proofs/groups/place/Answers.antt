use Rattle.rep_op.specs.Orders.{client_cmp}
use Rattle.rep_model.proofs.Readers.{client_total}
use Rattle.sn_tables.proofs.Places.{placed}
use Rattle.rep_digest.proofs.Grouping.{ascends_from}
use Rattle.rep_digest.proofs.groups.place.Goals as goal

pub returns : goal.returns
returns c = placed (λ d. d) client_cmp client_total c.args.client.now c.args.clients.now (ascends_from c.args.clients.now c.requires) c.binary_search.result c.binary_search.ensures.bound c.binary_search.ensures.position
