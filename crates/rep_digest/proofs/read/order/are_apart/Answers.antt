use Rattle.std.proofs.Common.{sym, ◌∙◌}
use Rattle.rep_digest.proofs.Format.{short_ranges_apart}
use Rattle.rep_digest.proofs.read.order.are_apart.Goals as goal

-- fewer than two are left
pub returns : goal.returns
returns c = sym (c.loop-left.invariant ∙ short_ranges_apart c.loop-left.left.now c.in_default.len_below)
