use Rattle.std.proofs.Common.{◌∙◌, sym}
use Rattle.gw_relay.proofs.Covering.{no_clients}
use Rattle.gw_relay.proofs.news.has_of_clients.Goals as goal

pub returns-then-not-is_of_client : goal.returns-then-not-is_of_client
returns-then-not-is_of_client c = no_clients c.args.op.now (sym c.is_of_client.ensures ∙ c.if-not-is_of_client.true) c.args.digest.now.clients
