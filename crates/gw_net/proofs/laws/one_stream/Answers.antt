use Rattle.gw_net.proofs.laws.one_stream.Goals as goal
use Rattle.gw_net.proofs.Joining.{joined, one}

pub returns : goal.returns
returns c = record { joined = joined; one = one }
