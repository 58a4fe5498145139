-- worked examples of the definitions
use Rattle.std.proofs.Common.{◌≡◌, ℕ, ◌+◌, true, List, [], ◌∷◌, Some, None, refl}
use Rattle.std.specs.Prelude.{codes}
use Rattle.std.specs.List.{flat_map}
use Rattle.std.specs.Ordering.{nat_cmp}
use Rattle.sn_tables.specs.declared.topics.TopicEntry.{TopicEntry}
use Rattle.sn_tables.specs.declared.subscriptions.Subscription.{Subscription}
use Rattle.sn_tables.specs.Tables.{is_ascending}
use Rattle.sn_tables.specs.Topics.{topic_id, free_id}
use Rattle.sn_tables.specs.Subscriptions.{subscribed_qos}

abbrev pub topic : ℕ → List ℕ → TopicEntry
topic id name = record { id = id; name = name; known = true }

abbrev pub asks : List ℕ → ℕ → Subscription
asks filter qos = record { filter = filter; qos = qos }

-- of two ids of one name the least counts
least_id : topic_id (codes "t") (topic 2 (codes "t") ∷ topic 4 (codes "t") ∷ []) ≡ Some 2
least_id = refl

-- the least id that is not in use fills a gap
first_id : free_id [] ≡ Some 1
first_id = refl

gap_filled : free_id (topic 1 (codes "a") ∷ topic 2 (codes "t") ∷ topic 4 (codes "t") ∷ []) ≡ Some 3
gap_filled = refl

id_zero_is_below : free_id (topic 0 (codes "a") ∷ topic 1 (codes "t") ∷ []) ≡ Some 2
id_zero_is_below = refl

-- the greatest quality of service of those that match; `#` asks for no name that begins with `$`
greatest_counts : subscribed_qos (codes "t/a") (asks (codes "#") 1 ∷ asks (codes "t/#") 2 ∷ asks (codes "t/a") 0 ∷ []) ≡ Some 2
greatest_counts = refl

dollar_is_not_asked_for : subscribed_qos (codes "$x") (asks (codes "#") 1 ∷ []) ≡ None
dollar_is_not_asked_for = refl

-- the ids 1 to 256
abbrev pub sixteen : ℕ → List ℕ
sixteen n =
    (n + 1) ∷ (n + 2) ∷ (n + 3) ∷ (n + 4) ∷ (n + 5) ∷ (n + 6) ∷ (n + 7) ∷ (n + 8) ∷ (n + 9) ∷ (n + 10) ∷ (n + 11) ∷ (n + 12) ∷ (n + 13) ∷ (n + 14) ∷ (n + 15) ∷ (n + 16) ∷ []

abbrev pub all_ids : List ℕ
all_ids = flat_map sixteen (0 ∷ 16 ∷ 32 ∷ 48 ∷ 64 ∷ 80 ∷ 96 ∷ 112 ∷ 128 ∷ 144 ∷ 160 ∷ 176 ∷ 192 ∷ 208 ∷ 224 ∷ 240 ∷ [])

ids_are_a_table : is_ascending nat_cmp all_ids ≡ true
ids_are_a_table = refl
