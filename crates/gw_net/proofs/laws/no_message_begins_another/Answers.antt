use Rattle.gw_net.proofs.Cutting.{one_message, cut_waits}
use Rattle.gw_net.proofs.laws.no_message_begins_another.Goals as goal

pub returns : goal.returns
returns c = record { free = one_message; cut = cut_waits }
