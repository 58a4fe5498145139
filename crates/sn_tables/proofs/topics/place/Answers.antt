use Rattle.std.proofs.Common.{rules}
use Rattle.std.specs.Ordering.{nat_cmp}
use Rattle.std.specs.Cmp.{nat_cmp_total, on_total}
use Rattle.std.proofs.lemmas.List.Sorted.{answers_always}
use Rattle.sn_tables.specs.Topics.{topic_cmp}
use Rattle.sn_tables.specs.declared.topics.TopicEntry.{TopicEntry}
use Rattle.sn_tables.proofs.Ascending.{from_test}
use Rattle.sn_tables.proofs.Places.{placed}
use Rattle.sn_tables.proofs.topics.place.Goals as goal

-- the closure gives an entry's id
pub returns : goal.returns
returns c =
    let up = from_test topic_cmp (on_total (λ (e : TopicEntry). e.id) nat_cmp_total) c.args.entries.now c.requires in
    let by_key = c.binary_search_by_key.ensures.position (λ e. e.id) (answers_always _ _ _ (λ f a r g called. search rules)) in
    placed (λ e. e.id) nat_cmp nat_cmp_total c.args.id c.args.entries.now up c.binary_search_by_key.result c.binary_search_by_key.ensures.bound by_key
