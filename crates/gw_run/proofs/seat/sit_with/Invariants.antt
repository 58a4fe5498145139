use Rattle.gw_link.specs.Adding.{Adds, is_of_link}
use Rattle.gw_run.proofs.seat.sit_with.Given as goal

abbrev pub invariant-loop : goal.invariant-loop
invariant-loop g l = Adds is_of_link l.fn.pass l.pass
