use Rattle.gw_node.proofs.Refused.{single_whole, single_within}
use Rattle.gw_node.proofs.laws.single_refusal.Goals as goal

pub returns : goal.returns
returns c = record { whole = single_whole; within = single_within }
