use Rattle.std.proofs.Common.{sym, ◌∙◌}
use Rattle.std.specs.Ordering.{nat_cmp}
use Rattle.sn_tables.proofs.Ascending.{short}
use Rattle.sn_tables.proofs.received.is_ascending.Goals as goal

-- fewer than two are left
pub returns : goal.returns
returns c = sym (c.loop-left.invariant ∙ short nat_cmp c.loop-left.left.now c.in_default.len_below)
