-- Which operations hold octets.
use Rattle.std.specs.Prelude.{Bool, true, false, is_some}
use Rattle.sn_session.specs.declared.change.SessionOp.{SessionOp}
use Rattle.sn_session.specs.declared.change.SessionOp.TheVariants.{Take, Register, Subscribe, Unsubscribe, WillTopic, WillMsg}

-- whether a copy of the operation takes memory
abbrev pub holds_octets : SessionOp → Bool
holds_octets (Take taken) = true
holds_octets (Register id name known) = true
holds_octets (Subscribe filter qos) = true
holds_octets (Unsubscribe filter) = true
holds_octets (WillTopic asked) = is_some asked
holds_octets (WillMsg message) = true
holds_octets change = false
