use Rattle.gw_relay.proofs.Fields.{reaches}
use Rattle.gw_relay.proofs.laws.reaches_all.Goals as goal

pub returns : goal.returns
returns c = record { reaches = reaches }
