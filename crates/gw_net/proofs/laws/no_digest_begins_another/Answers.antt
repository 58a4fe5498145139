use Rattle.gw_net.proofs.Digests.{one_digest, digest_cut, digest_more}
use Rattle.gw_net.proofs.laws.no_digest_begins_another.Goals as goal

pub returns : goal.returns
returns c = record { free = one_digest; cut = digest_cut; more = digest_more }
