use Rattle.std.proofs.Common.{◌∙◌, sym}
use Rattle.br_core.proofs.Sending.{stops}
use Rattle.br_core.proofs.sides.sends.Goals as goal

pub returns : goal.returns
returns c = sym (stops c.args.settings.now c.sending.bridge (sym c.first_goes.ensures ∙ c.sending-test.false)) ∙ c.sending.invariant
