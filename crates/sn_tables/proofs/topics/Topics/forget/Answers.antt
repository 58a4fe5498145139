use Rattle.std.proofs.Common.{◌≡◌}
use Rattle.sn_tables.proofs.Unknown.{unknown_table}
use Rattle.sn_tables.proofs.topics.Topics.forget.Goals as goal

pub invariant_of-self : goal.invariant_of-self
invariant_of-self c = rw c.forget_all.ensures (unknown_table _ c.self.invariant)
