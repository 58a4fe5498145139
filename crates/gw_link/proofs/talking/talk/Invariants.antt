use Rattle.gw_link.specs.Adding.{Adds, is_of_link}
use Rattle.gw_link.proofs.talking.talk.Given as goal

abbrev pub invariant-loop : goal.invariant-loop
invariant-loop g l = Adds is_of_link l.fn.pass l.pass
