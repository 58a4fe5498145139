use Rattle.std.proofs.Common.{◌≡◌, ◌≤◌, ◌+◌, drop}
use Rattle.sn_tables.specs.Topics.{least_unused}
use Rattle.sn_tables.proofs.topics.least_unused.Given as goal

-- what is left decides, and each entry adds one at most
abbrev pub invariant-loop-entry : goal.invariant-loop-entry
invariant-loop-entry l = (least_unused 1 l.entries ≡ least_unused l.free (drop l.entry-index l.entries)) × (l.free ≤ l.entry-index + 1)
