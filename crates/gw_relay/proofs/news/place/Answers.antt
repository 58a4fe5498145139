use Rattle.std.proofs.Common.{◌≡◌, rules}
use Rattle.std.proofs.lemmas.Fn.{always_returns_same}
use Rattle.rep_op.specs.Orders.{topic_name_cmp}
use Rattle.rep_model.proofs.Readers.{topic_total}
use Rattle.sn_tables.proofs.Places.{placed}
use Rattle.gw_relay.proofs.Covering.{topics_ascend}
use Rattle.gw_relay.proofs.news.place.Goals as goal

-- the closure compares an entry's topic with the one that is sought
pub returns : goal.returns
returns c =
    let by_topic = c.binary_search_by.ensures.position (λ e. topic_name_cmp e.topic c.args.topic.now) (always_returns_same _ (λ a r. r ≡ topic_name_cmp a.0.now.topic c.args.topic.now) _ (λ a r g called. search rules)) in
    placed (λ e. e.topic) topic_name_cmp topic_total c.args.topic.now c.args.entries.now (topics_ascend c.args.entries.now c.requires) c.binary_search_by.result c.binary_search_by.ensures.bound by_topic
