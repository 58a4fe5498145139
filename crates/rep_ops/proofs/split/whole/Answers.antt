use Rattle.rep_ops.proofs.Stable.{whole_made}
use Rattle.rep_ops.proofs.split.whole.Goals as goal

pub returns : goal.returns
returns c =
    whole_made c.args.ops.items c.sort_stably.new.ops.items c.requires c.sort_stably.ensures.same c.sort_stably.ensures.stable c.in_ok-sort_stably.ensures.sorted c.join_names.result c.join_names.ensures
