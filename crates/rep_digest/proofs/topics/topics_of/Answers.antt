use Rattle.std.proofs.Common.{sym, ◌∙◌}
use Rattle.rep_model.specs.Topics.{all_retained}
use Rattle.rep_digest.proofs.Retaining.{said_more, said_all, topics_said}
use Rattle.rep_digest.proofs.topics.topics_of.Goals as goal

pub loop-behind-preserved : goal.loop-behind-preserved
loop-behind-preserved g c =
    said_more c.loop-behind.entries.items c.push_entry.new.entries.items (all_retained (g.R.Replica.kept c.args.replica.now)) c.loop-behind.place c.in-Some.behind (c.in-Some.topic.now, c.in-Some.kept.now)
    c.in-Some.ensures.0 c.in_ok-push_entry.ensures c.loop-behind.invariant

pub returns : goal.returns
returns g c =
    let K = g.R.Replica.kept c.args.replica.now in
    said_all c.loop-behind.entries.items (all_retained K) c.loop-behind.place c.in_default.ensures c.loop-behind.invariant ∙ sym (topics_said K)
