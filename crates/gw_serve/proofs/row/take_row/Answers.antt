use Rattle.std.proofs.Common.{◌∙◌, ap, arith}
use Rattle.gw_serve.specs.declared.queue.Hand.{Hand}
use Rattle.gw_serve.proofs.Balance.{takes, learns_nothing}
use Rattle.gw_serve.proofs.row.take_row.Goals as goal

pub try_recv_as-requires-clause-rule : goal.try_recv_as-requires-clause-rule
try_recv_as-requires-clause-rule g c =
    let one = ap (λ (v : Hand). v.parts) c.loop-count.invariant.taken ∙ c.requires.part in
    (takes _ _ (omega (arith, one)), learns_nothing _ _)
