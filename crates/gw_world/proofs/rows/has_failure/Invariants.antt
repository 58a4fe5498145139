-- None of those so far.
use Rattle.std.proofs.Common.{take}
use Rattle.std.specs.List.{AllByRecursion}
use Rattle.gw_world.specs.inner.Events.{IsNoFailure}
use Rattle.gw_world.proofs.rows.has_failure.Given as goal

abbrev pub invariant-loop-reply : goal.invariant-loop-reply
invariant-loop-reply l = AllByRecursion IsNoFailure (take l.reply-index l.replies)
