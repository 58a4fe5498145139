use Rattle.std.proofs.Common.{sym, ◌∙◌}
use Rattle.rep_digest.proofs.Format.{short_origins_ascend}
use Rattle.rep_digest.proofs.read.order.origins_ascend.Goals as goal

-- fewer than two are left
pub returns : goal.returns
returns c = sym (c.loop-left.invariant ∙ short_origins_ascend c.loop-left.left.now c.in_default.len_below)
