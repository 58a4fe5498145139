use Rattle.std.proofs.Common.{◌∙◌, sym, ap, subst}
use Rattle.std.specs.List.{list_any}
use Rattle.rep_op.specs.declared.op.Op.{Op}
use Rattle.rep_op.specs.declared.op.Op.TheVariants.{Retain as OfRetain}
use Rattle.rep_op.specs.Orders.{is_of_client}
use Rattle.rep_digest.specs.WellMade.{TopicsAscend}
use Rattle.gw_relay.specs.News.{is_retained_by}
use Rattle.gw_relay.proofs.Covering.{no_topics}
use Rattle.gw_relay.proofs.news.has_of_topics.Goals as goal

pub has_topic-requires : goal.has_topic-requires
has_topic-requires c = subst TopicsAscend (sym c.topics.ensures.entries) c.topics.ensures.digest.topics.ascend

pub returns-in-Session : goal.returns-in-Session
returns-in-Session c = no_topics c.args.op.now (ap is_of_client c.in-Session.is) c.args.digest.now.topics

pub returns-in-Put : goal.returns-in-Put
returns-in-Put c = no_topics c.args.op.now (ap is_of_client c.in-Put.is) c.args.digest.now.topics

pub returns-in-Ack : goal.returns-in-Ack
returns-in-Ack c = no_topics c.args.op.now (ap is_of_client c.in-Ack.is) c.args.digest.now.topics

pub returns-in-Retain : goal.returns-in-Retain
returns-in-Retain c =
    c.has_topic.ensures
    ∙ ap (list_any (is_retained_by (OfRetain c.in-Retain.topic c.in-Retain.retained))) c.topics.ensures.entries
    ∙ ap (λ (op : Op). list_any (is_retained_by op) c.args.digest.now.topics) (sym c.in-Retain.is)
