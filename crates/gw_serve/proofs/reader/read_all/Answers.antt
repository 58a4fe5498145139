use Rattle.std.proofs.Common.{◌<◌, subst, sym}
use Rattle.gw_serve.specs.declared.queue.Hand.{Hand}
use Rattle.gw_serve.proofs.Balance.{sends, learns_nothing}
use Rattle.gw_serve.proofs.reader.read_all.Goals as goal

pub try_send_as-requires-clause-rule : goal.try_send_as-requires-clause-rule
try_send_as-requires-clause-rule g c =
    (sends _ _ _ _ (subst (λ (v : Hand). 0 < v.parts) (sym c.loop-turn.invariant.1) c.requires.part), learns_nothing _ _)
