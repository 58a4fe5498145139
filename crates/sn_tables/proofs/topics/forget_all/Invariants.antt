-- what was gone over is unknown, what is left stays
use Rattle.std.proofs.Common.{◌≡◌, ◌++◌, map, take, drop}
use Rattle.sn_tables.specs.Topics.{unknown}
use Rattle.sn_tables.proofs.topics.forget_all.Given as goal

abbrev pub invariant-loop-entry : goal.invariant-loop-entry
invariant-loop-entry l = l.entry-items ≡ map unknown (take l.entry-index l.fn.entries.items) ++ drop l.entry-index l.fn.entries.items
