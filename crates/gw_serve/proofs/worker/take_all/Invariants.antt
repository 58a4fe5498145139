use Rattle.crossbeam_channel.specs.Claims.{view, IsSeatAt}
use Rattle.crossbeam_channel.specs.Ends.{receives_on}
use Rattle.gw_serve.specs.inner.Work.{IsWorking}
use Rattle.gw_serve.proofs.worker.take_all.Given as goal

abbrev pub invariant-loop : goal.invariant-loop
invariant-loop g l =
    IsSeatAt (receives_on l.receiver) l.ticket
    × IsWorking l.fn.seat.pass (view l.ticket) l.taken.items l.left.items l.pass
