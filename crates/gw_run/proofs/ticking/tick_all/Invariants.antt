use Rattle.std.proofs.Common.{None}
use Rattle.gw_run.specs.Clock.{AddsOfClock}
use Rattle.gw_run.proofs.ticking.tick_all.Given as goal

abbrev pub invariant-loop : goal.invariant-loop
invariant-loop g l = AddsOfClock l.fn.pass None l.pass
