use Rattle.std.proofs.Common.{◌≡◌, ◌≤◌, length}
use Rattle.rep_entry.specs.inner.Mail.{left_from}
use Rattle.rep_log.specs.Origins.{ranges_in}
use Rattle.rep_entry.proofs.settling.drop_each.Given as goal

abbrev pub invariant-loop-at : goal.invariant-loop-at
invariant-loop-at l = (l.from ≤ l.at) × (l.at ≤ length l.fn.all.items) × (l.all.items ≡ left_from (ranges_in l.acks) l.at l.fn.all.items)

abbrev pub decreases-loop-at : goal.decreases-loop-at
decreases-loop-at l = l.at
