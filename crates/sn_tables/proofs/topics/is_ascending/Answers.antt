use Rattle.std.proofs.Common.{sym, ◌∙◌}
use Rattle.sn_tables.specs.Topics.{topic_cmp}
use Rattle.sn_tables.proofs.Ascending.{short}
use Rattle.sn_tables.proofs.topics.is_ascending.Goals as goal

-- fewer than two are left
pub returns : goal.returns
returns c = sym (c.loop-left.invariant ∙ short topic_cmp c.loop-left.left.now c.in_default.len_below)
