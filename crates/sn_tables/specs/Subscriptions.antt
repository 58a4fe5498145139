-- The subscriptions of a session: a table of entries ascending by filter.
use Rattle.std.specs.Prelude.{ℕ, ◌≤◌, Bool, not, ◌&&◌, List, map, max, filter, fold, Option, Some, None, is_none, bytes_eq, nat_eq, All, Contains}
use Rattle.std.specs.Option.{option_map}
use Rattle.std.specs.declared.cmp.Ordering.{Ordering}
use Rattle.std.specs.Ordering.{nat_cmp, on, eq_of_both}
use Rattle.std.specs.Cmp.{IsEquivalence, and_equiv, on_equiv, nat_eq_equiv}
use Rattle.std.specs.Cmp.Lexicographic.{slice_cmp, pointwise, nat_list_eq_equiv}
use Rattle.std.specs.List.{find}
use Rattle.sn_topic.specs.Matching.{is_match}
use Rattle.sn_tables.specs.declared.subscriptions.Subscription.{Subscription}
use Rattle.sn_tables.specs.Tables.{is_table_full, with_entry}

-- subscriptions are ordered by the octets of their filters, as words in a dictionary
abbrev pub subscription_cmp : Subscription → Subscription → Ordering
subscription_cmp a b = slice_cmp nat_cmp a.filter b.filter

-- the table with this subscription for its filter
abbrev pub with_subscription : Subscription → List Subscription → List Subscription
with_subscription subscription subscriptions =
    with_entry subscription_cmp subscription subscriptions

-- the table without the subscription of a filter
abbrev pub without_filter : List ℕ → List Subscription → List Subscription
without_filter asked subscriptions = filter (λ s. not (bytes_eq s.filter asked)) subscriptions

-- the subscription of a filter
abbrev pub subscription_of : List ℕ → List Subscription → Option Subscription
subscription_of asked subscriptions = find (λ s. bytes_eq s.filter asked) subscriptions

-- the quality of service of a filter
abbrev pub filter_qos : List ℕ → List Subscription → Option ℕ
filter_qos asked subscriptions = option_map (λ s. s.qos) (subscription_of asked subscriptions)

-- this filter cannot be set: it would be one more than there is room for
abbrev pub filter_has_no_room : List ℕ → List Subscription → Bool
filter_has_no_room asked subscriptions =
    is_table_full subscriptions && is_none (subscription_of asked subscriptions)

-- the qualities of service of the filters that ask for a topic
abbrev pub asked_qos : List ℕ → List Subscription → List ℕ
asked_qos name subscriptions = map (λ s. s.qos) (filter (λ s. is_match s.filter name) subscriptions)

-- the greater of a number so far, if there is one, and another
abbrev pub or_greater : Option ℕ → ℕ → Option ℕ
or_greater None q = Some q
or_greater (Some best) q = Some (max best q)

-- the greatest quality of service of the filters that ask for a topic
abbrev pub subscribed_qos : List ℕ → List Subscription → Option ℕ
subscribed_qos name subscriptions = fold or_greater None (asked_qos name subscriptions)

-- the greatest of these numbers
pub record IsGreatest (numbers : List ℕ) (greatest : ℕ) : Type 0 where
  pub among : Contains numbers greatest
  pub greatest_of_all : All (λ n. n ≤ greatest) numbers

-- equality of subscriptions as a test
abbrev pub subscription_eq : Subscription → Subscription → Bool
subscription_eq a b =
    eq_of_both (on (λ s. s.filter) (pointwise nat_eq)) (on (λ s. s.qos) nat_eq) a b

-- the test of equality is an equivalence: reflexive, symmetric and transitive
pub subscription_equiv : IsEquivalence subscription_eq
subscription_equiv =
    and_equiv (on_equiv (λ s. s.filter) nat_list_eq_equiv) (on_equiv (λ s. s.qos) nat_eq_equiv)
