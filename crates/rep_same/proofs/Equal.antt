-- Where the entries of two tables are told apart, so are the tables.
use Rattle.std.proofs.Common.{◌≡◌, List, ap, Decides}
use mathlib.Core.Bool.{beq}
use Rattle.std.specs.Cmp.{booleans_Decides}
use Rattle.std.specs.Cmp.Lexicographic.{pointwise, pointwise_decides}
use Rattle.std.proofs.lemmas.Bool.Decides.{Decides-and, Decides-like, Decides-eqb}
use Rattle.std.proofs.lemmas.Slice.Eq.{bytes_eq-Decides}
use Rattle.std.specs.Prelude.{bytes_eq, nat_eq, ◌&&◌}
use Rattle.sn_tables.specs.declared.topics.TopicEntry.{TopicEntry}
use Rattle.sn_tables.specs.declared.subscriptions.Subscription.{Subscription}
use Rattle.sn_tables.specs.Topics.{topic_eq}
use Rattle.sn_tables.specs.Subscriptions.{subscription_eq}

topic_is : (a b : TopicEntry) → (a.id ≡ b.id) × ((a.name ≡ b.name) × (a.known ≡ b.known)) → a ≡ b
topic_is a b (id, (name, known)) = λ i. record { id = id i; name = name i; known = known i }

topic_told : (a b : TopicEntry) → Decides (topic_eq a b) (a ≡ b)
topic_told a b =
    Decides-like (topic_eq a b) (topic_is a b) (λ e. (ap (λ t. t.id) e, (ap (λ t. t.name) e, ap (λ t. t.known) e)))
    (Decides-and (nat_eq a.id b.id) (bytes_eq a.name b.name && beq a.known b.known) (Decides-eqb a.id b.id)
    (Decides-and (bytes_eq a.name b.name) (beq a.known b.known) (bytes_eq-Decides a.name b.name) (booleans_Decides a.known b.known)))

pub topics_told : (a b : List TopicEntry) → Decides (pointwise topic_eq a b) (a ≡ b)
topics_told a b = pointwise_decides topic_told a b

subscription_is : (a b : Subscription) → (a.filter ≡ b.filter) × (a.qos ≡ b.qos) → a ≡ b
subscription_is a b (filter, qos) = λ i. record { filter = filter i; qos = qos i }

subscription_told : (a b : Subscription) → Decides (subscription_eq a b) (a ≡ b)
subscription_told a b =
    Decides-like (subscription_eq a b) (subscription_is a b) (λ e. (ap (λ t. t.filter) e, ap (λ t. t.qos) e))
    (Decides-and (bytes_eq a.filter b.filter) (nat_eq a.qos b.qos) (bytes_eq-Decides a.filter b.filter) (Decides-eqb a.qos b.qos))

pub subscriptions_told : (a b : List Subscription) → Decides (pointwise subscription_eq a b) (a ≡ b)
subscriptions_told a b = pointwise_decides subscription_told a b
