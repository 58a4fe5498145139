-- The readers of a session and of its parts.
use Rattle.std.proofs.Common.{◌≡◌, ℕ, ◌<◌, ◌≤◌, ◌^◌, Bool, true, ◌&&◌, List, [], ◌∷◌, ◌++◌, length, Option, Some, None, refl, sym, ◌∙◌, append_assoc, arith}
use Rattle.std.specs.Prelude.{nat_le}
use Rattle.std.specs.Int.{w16, w64, to_be_bytes}
use Rattle.std.specs.List.{list_all, AllByRecursion}
use Rattle.std.specs.Ordering.{nat_cmp}
use Rattle.std.proofs.lemmas.Bool.{and_parts, and_from, leb-true, le-leb}
use Rattle.byteorder.specs.Endian.{big_bytes}
use Rattle.sn_topic.specs.Topics.{IsName, IsFilter}
use Rattle.sn_tables.specs.Topics.{topic_cmp}
use Rattle.sn_tables.specs.Subscriptions.{subscription_cmp}
use Rattle.sn_session.specs.declared.presence.Presence.{Presence}
use Rattle.sn_session.specs.declared.session.Session.{Session}
use Rattle.sn_tables.specs.declared.topics.TopicEntry.{TopicEntry}
use Rattle.sn_tables.specs.declared.subscriptions.Subscription.{Subscription}
use Rattle.sn_session.specs.declared.will.Will.{Will}
use Rattle.sn_session.specs.declared.will.WillTopic.{WillTopic}
use Rattle.sn_session.specs.declared.outbound.Outbound.{Outbound}
use Rattle.sn_tables.specs.Levels.{is_qos}
use Rattle.sn_topic.specs.Table.{is_topic_id}
use Rattle.rep_op.specs.Ranges.{is_topic, is_subscription, is_will, is_will_topic, is_exchange, is_session}
use Rattle.rep_read.specs.Reading.{both, made_from, ranged, octet_at, number_at, is_positive, topic_at, filter_at, body_at, flag_at, presence_at, phase_at, qos_at, topic_entry_from, entry_at, subscription_from, subscription_at, will_topic_of, will_topic_at, will_from, will_at, exchange_of, exchange_at, topics_at, subscriptions_at, received_at, some_will_at, some_topic_at, some_exchange_at, Head, head_at, SessionParts, parts_at, session_from, session_at}
use Rattle.rep_op.specs.Sessions.{text_octets, flag_octet, presence_octet, phase_octet, option_octets, table_octets, topic_octets, subscription_octets, will_topic_octets, session_will_octets, exchange_octets, session_octets}
use Rattle.rep_op.specs.Values.{IsEntryValue, IsSubscriptionValue, IsWillValue, IsWillTopicValue, IsExchangeValue, IsSessionValue}
use Rattle.rep_read.proofs.Laws.{Law, both_law, made_law, ranged_law, octet_law, wide16, wide64, number_law}
use Rattle.rep_read.proofs.Fields.{one_octet, IsOctet, topic_law, filter_law, body_law, flag_law, presence_law, phase_law, IsQos, qos_law}
use Rattle.rep_read.proofs.Tables.{FitsOption, option_law, FitsTable, table_law}

-- ---- numbers from 1 on

abbrev pub IsEight : ℕ → Type 0
IsEight n = (n < 2 ^ 64) × (is_positive n ≡ true)

pub eight_law : Law (ranged is_positive (number_at w64)) (to_be_bytes w64) IsEight
eight_law = ranged_law is_positive (number_at w64) (to_be_bytes w64) (λ n. n < 2 ^ 64) (number_law w64 (2 ^ 64) wide64)

abbrev pub IsOne : ℕ → Type 0
IsOne n = IsOctet n × (is_positive n ≡ true)

pub one_law : Law (ranged is_positive octet_at) one_octet IsOne
one_law = ranged_law is_positive octet_at one_octet IsOctet octet_law

pub two_law : Law (number_at w16) (to_be_bytes w16) (λ n. n < 2 ^ 16)
two_law = number_law w16 (2 ^ 16) wide16

abbrev pub IsTwo : ℕ → Type 0
IsTwo n = (n < 2 ^ 16) × (is_positive n ≡ true)

pub counted_two_law : Law (ranged is_positive (number_at w16)) (to_be_bytes w16) IsTwo
counted_two_law = ranged_law is_positive (number_at w16) (to_be_bytes w16) (λ n. n < 2 ^ 16) two_law

abbrev pub IsId : ℕ → Type 0
IsId n = (n < 2 ^ 16) × (is_topic_id n ≡ true)

id_law : Law (ranged is_topic_id (number_at w16)) (to_be_bytes w16) IsId
id_law = ranged_law is_topic_id (number_at w16) (to_be_bytes w16) (λ n. n < 2 ^ 16) two_law

abbrev flag_text : Bool → List ℕ
flag_text b = one_octet (flag_octet b)

-- ---- entries

abbrev pub FitsEntry : TopicEntry → Type 0
FitsEntry e = IsId e.id × IsName e.name

pub entry_law : Law entry_at topic_octets FitsEntry
unfolding entry_at
entry_law =
    made_law topic_entry_from (both (ranged is_topic_id (number_at w16)) (both flag_at topic_at)) _ _
    (both_law (ranged is_topic_id (number_at w16)) (to_be_bytes w16) IsId id_law (both flag_at topic_at) _ _ (both_law flag_at flag_text (λ b. Unit {0}) flag_law topic_at text_octets IsName topic_law))
    topic_octets FitsEntry (λ x h. (refl, (h.0, h.1.1))) (λ e h. ((e.id, (e.known, e.name)), refl, (h.0, (tt, h.1)), refl))

abbrev pub FitsSubscription : Subscription → Type 0
FitsSubscription s = IsFilter s.filter × IsQos s.qos

pub subscription_law : Law subscription_at subscription_octets FitsSubscription
unfolding subscription_at
subscription_law =
    made_law subscription_from (both filter_at qos_at) _ _ (both_law filter_at text_octets IsFilter filter_law qos_at one_octet IsQos qos_law)
    subscription_octets FitsSubscription (λ x h. (refl, h)) (λ s h. ((s.filter, s.qos), refl, h, refl))

abbrev pub FitsWillTopic : WillTopic → Type 0
FitsWillTopic a = IsQos a.qos × IsName a.topic

will_topic_law : Law will_topic_at will_topic_octets FitsWillTopic
unfolding will_topic_at
will_topic_law =
    made_law will_topic_of (both qos_at (both flag_at topic_at)) _ _
    (both_law qos_at one_octet IsQos qos_law (both flag_at topic_at) _ _ (both_law flag_at flag_text (λ b. Unit {0}) flag_law topic_at text_octets IsName topic_law))
    will_topic_octets FitsWillTopic (λ x h. (refl, (h.0, h.1.1))) (λ a h. ((a.qos, (a.retain, a.topic)), refl, (h.0, (tt, h.1)), refl))

abbrev pub FitsWill : Will → Type 0
FitsWill w = (IsQos w.qos × IsName w.topic) × (length w.message ≤ 4096)

abbrev topic_of_will : Will → WillTopic
topic_of_will w = record { topic = w.topic; qos = w.qos; retain = w.retain }

will_law : Law will_at session_will_octets FitsWill
unfolding will_at
will_law =
    made_law will_from (both will_topic_at body_at) _ _ (both_law will_topic_at will_topic_octets FitsWillTopic will_topic_law body_at text_octets (λ t. length t ≤ 4096) body_law)
    session_will_octets FitsWill (λ x h. (refl, h)) (λ w h. ((topic_of_will w, w.message), refl, h, refl))

abbrev pub FitsExchange : Outbound → Type 0
FitsExchange x = IsOne x.origin × (IsEight x.seq × (x.msg_id < 2 ^ 16))

exchange_law : Law exchange_at exchange_octets FitsExchange
unfolding exchange_at
exchange_law =
    made_law exchange_of (both (ranged is_positive octet_at) (both (ranged is_positive (number_at w64)) (both (number_at w16) phase_at))) _ _
    (both_law (ranged is_positive octet_at) one_octet IsOne one_law
    (both (ranged is_positive (number_at w64)) (both (number_at w16) phase_at)) _ _ (both_law (ranged is_positive (number_at w64)) (to_be_bytes w64) IsEight eight_law
    (both (number_at w16) phase_at) _ _ (both_law (number_at w16) (to_be_bytes w16) (λ n. n < 2 ^ 16) two_law phase_at (λ p. one_octet (phase_octet p)) (λ p. Unit {0}) phase_law)))
    exchange_octets FitsExchange (λ x h. (refl, (h.0, (h.1.0, h.1.1.0)))) (λ e h. ((e.origin, (e.seq, (e.msg_id, e.phase))), refl, (h.0, (h.1.0, (h.1.1, tt))), refl))

-- ---- the parts of a session

topics_law : Law topics_at (table_octets topic_octets) (FitsTable topic_cmp FitsEntry)
unfolding topics_at
topics_law = table_law topic_cmp entry_at topic_octets FitsEntry entry_law

subscriptions_law : Law subscriptions_at (table_octets subscription_octets) (FitsTable subscription_cmp FitsSubscription)
unfolding subscriptions_at
subscriptions_law = table_law subscription_cmp subscription_at subscription_octets FitsSubscription subscription_law

abbrev IsShort : ℕ → Type 0
IsShort n = n < 2 ^ 16

received_law : Law received_at (table_octets (big_bytes 2)) (FitsTable nat_cmp IsShort)
unfolding received_at
received_law = table_law nat_cmp (number_at w16) (to_be_bytes w16) IsShort two_law

some_will_law : Law some_will_at (option_octets session_will_octets) (FitsOption FitsWill)
unfolding some_will_at
some_will_law = option_law will_at session_will_octets FitsWill will_law

pub some_topic_law : Law some_topic_at (option_octets will_topic_octets) (FitsOption FitsWillTopic)
unfolding some_topic_at
some_topic_law = option_law will_topic_at will_topic_octets FitsWillTopic will_topic_law

pub some_exchange_law : Law some_exchange_at (option_octets exchange_octets) (FitsOption FitsExchange)
unfolding some_exchange_at
some_exchange_law = option_law exchange_at exchange_octets FitsExchange exchange_law

abbrev head_text : Head → List ℕ
head_text x = one_octet (presence_octet x.0) ++ (flag_text x.1.0 ++ (to_be_bytes w16 x.1.1.0 ++ to_be_bytes w16 x.1.1.1))

abbrev FitsHead : Head → Type 0
FitsHead x = Unit {0} × (Unit {0} × (IsShort x.1.1.0 × IsTwo x.1.1.1))

head_law : Law head_at head_text FitsHead
unfolding head_at
head_law =
    both_law presence_at (λ p. one_octet (presence_octet p)) (λ p. Unit {0}) presence_law
    (both flag_at (both (number_at w16) (ranged is_positive (number_at w16)))) _ _ (both_law flag_at flag_text (λ b. Unit {0}) flag_law
    (both (number_at w16) (ranged is_positive (number_at w16))) _ _ (both_law (number_at w16) (to_be_bytes w16) IsShort two_law (ranged is_positive (number_at w16)) (to_be_bytes w16) IsTwo counted_two_law))

abbrev parts_text : SessionParts → List ℕ
parts_text x =
    table_octets topic_octets x.0 ++ (table_octets subscription_octets x.1.0 ++ (option_octets session_will_octets x.1.1.0 ++ (table_octets (big_bytes 2) x.1.1.1.0 ++ option_octets exchange_octets x.1.1.1.1)))

abbrev FitsParts : SessionParts → Type 0
FitsParts x =
    FitsTable topic_cmp FitsEntry x.0 × (FitsTable subscription_cmp FitsSubscription x.1.0 × (FitsOption FitsWill x.1.1.0 × (FitsTable nat_cmp IsShort x.1.1.1.0 × FitsOption FitsExchange x.1.1.1.1)))

parts_law : Law parts_at parts_text FitsParts
unfolding parts_at
parts_law =
    both_law topics_at (table_octets topic_octets) (FitsTable topic_cmp FitsEntry) topics_law
    (both subscriptions_at (both some_will_at (both received_at some_exchange_at))) _ _ (both_law subscriptions_at (table_octets subscription_octets) (FitsTable subscription_cmp FitsSubscription) subscriptions_law
    (both some_will_at (both received_at some_exchange_at)) _ _ (both_law some_will_at (option_octets session_will_octets) (FitsOption FitsWill) some_will_law
    (both received_at some_exchange_at) _ _ (both_law received_at (table_octets (big_bytes 2)) (FitsTable nat_cmp IsShort) received_law
    some_exchange_at (option_octets exchange_octets) (FitsOption FitsExchange) some_exchange_law)))

-- ---- a session

abbrev split : Session → Head × SessionParts
split s = ((s.presence, (s.clean, (s.duration, s.next_id))), (s.topics, (s.subscriptions, (s.will, (s.received, s.outbound)))))

abbrev pub FitsSession : Session → Type 0
FitsSession s = FitsHead (split s).0 × FitsParts (split s).1

regroup : (h a b c d e : List ℕ) → h ++ (a ++ (b ++ (c ++ (d ++ e)))) ≡ ((((h ++ a) ++ b) ++ c) ++ d) ++ e
regroup h a b c d e = simp append_assoc

session_text : (x : Head × SessionParts) → head_text x.0 ++ parts_text x.1 ≡ session_octets (session_from x)
session_text x =
    regroup (head_text x.0) (table_octets topic_octets x.1.0) (table_octets subscription_octets x.1.1.0) (option_octets session_will_octets x.1.1.1.0) (table_octets (big_bytes 2) x.1.1.1.1.0) (option_octets exchange_octets x.1.1.1.1.1)

pub session_law : Law session_at session_octets FitsSession
unfolding session_at
session_law =
    made_law session_from (both head_at parts_at) _ _ (both_law head_at head_text FitsHead head_law parts_at parts_text FitsParts parts_law)
    session_octets FitsSession (λ x h. (session_text x, h)) (λ s h. (split s, refl, h, session_text (split s)))

-- ---- what fits is in range and a value

qos_fits : (n : ℕ) → is_qos n ≡ true → IsQos n
qos_fits n e = (let le = leb-true n 2 e in omega arith, e)

entries_fit : (xs : List TopicEntry) → list_all is_topic xs ≡ true → AllByRecursion IsEntryValue xs → AllByRecursion FitsEntry xs
entries_fit [] e h = tt
entries_fit (x ∷ xs) e h = let p = and_parts _ _ e in (((h.0.0, p.0), h.0.1), entries_fit xs p.1 h.1)

entries_are : (xs : List TopicEntry) → AllByRecursion FitsEntry xs → (list_all is_topic xs ≡ true) × AllByRecursion IsEntryValue xs
entries_are [] h = (refl, tt)
entries_are (x ∷ xs) h = let more = entries_are xs h.1 in (and_from _ _ h.0.0.1 more.0, ((h.0.0.0, h.0.1), more.1))

subscriptions_fit : (xs : List Subscription) → list_all is_subscription xs ≡ true → AllByRecursion IsSubscriptionValue xs → AllByRecursion FitsSubscription xs
subscriptions_fit [] e h = tt
subscriptions_fit (x ∷ xs) e h = let p = and_parts _ _ e in ((h.0, qos_fits x.qos p.0), subscriptions_fit xs p.1 h.1)

subscriptions_are : (xs : List Subscription) → AllByRecursion FitsSubscription xs → (list_all is_subscription xs ≡ true) × AllByRecursion IsSubscriptionValue xs
subscriptions_are [] h = (refl, tt)
subscriptions_are (x ∷ xs) h = let more = subscriptions_are xs h.1 in (and_from _ _ h.0.1.1 more.0, (h.0.0, more.1))

will_fits : (w : Option Will) → is_will w ≡ true → IsWillValue w → FitsOption FitsWill w
will_fits None e h = tt
will_fits (Some w) e h = let p = and_parts _ _ e in ((qos_fits w.qos p.0, h), leb-true _ _ p.1)

will_is : (w : Option Will) → FitsOption FitsWill w → (is_will w ≡ true) × IsWillValue w
will_is None h = (refl, tt)
will_is (Some w) h = (and_from _ _ h.0.0.1 (le-leb _ _ h.1), h.0.1)

pub will_topic_fits : (w : Option WillTopic) → is_will_topic w ≡ true → IsWillTopicValue w → FitsOption FitsWillTopic w
will_topic_fits None e h = tt
will_topic_fits (Some w) e h = (qos_fits w.qos e, h)

pub will_topic_is : (w : Option WillTopic) → FitsOption FitsWillTopic w → (is_will_topic w ≡ true) × IsWillTopicValue w
will_topic_is None h = (refl, tt)
will_topic_is (Some w) h = (h.0.1, h.1)

pub exchange_fits : (x : Option Outbound) → is_exchange x ≡ true → IsExchangeValue x → FitsOption FitsExchange x
exchange_fits None e h = tt
exchange_fits (Some x) e h = let p = and_parts _ _ e in ((h.0, p.0), ((h.1, p.1), h.2))

pub exchange_is : (x : Option Outbound) → FitsOption FitsExchange x → (is_exchange x ≡ true) × IsExchangeValue x
exchange_is None h = (refl, tt)
exchange_is (Some x) h = (and_from _ _ h.0.1 h.1.0.1, (h.0.0, h.1.0.0, h.1.1))

pub subscription_fits : (f : List ℕ) (q : ℕ) → is_qos q ≡ true → IsFilter f → IsFilter f × IsQos q
subscription_fits f q e h = (h, qos_fits q e)

pub session_fits : (s : Session) → is_session s ≡ true → IsSessionValue s → FitsSession s
session_fits s e v =
    let a = and_parts _ _ e in
    let b = and_parts _ _ a.0 in
    let c = and_parts _ _ b.0 in
    let d = and_parts _ _ c.0 in (
      (tt, (tt, (v.duration, (v.next_id, d.0)))),
      (
        (v.topics.0, entries_fit s.topics d.1 v.topics.1),
        (
          (v.subscriptions.0, subscriptions_fit s.subscriptions c.1 v.subscriptions.1),
          (will_fits s.will b.1 v.will, (v.received, exchange_fits s.outbound a.1 v.outbound)),
        ),
      ),
    )

pub session_is : (s : Session) → FitsSession s → (is_session s ≡ true) × IsSessionValue s
session_is s h =
    let topics = entries_are s.topics h.1.0.1 in
    let subscriptions = subscriptions_are s.subscriptions h.1.1.0.1 in
    let will = will_is s.will h.1.1.1.0 in
    let outbound = exchange_is s.outbound h.1.1.1.1.1 in (
      and_from _ _ (and_from _ _ (and_from _ _ (and_from _ _ h.0.1.1.1.1 topics.0) subscriptions.0) will.0) outbound.0,
      record {
        duration = h.0.1.1.0;
        next_id = h.0.1.1.1.0;
        topics = (h.1.0.0, topics.1);
        subscriptions = (h.1.1.0.0, subscriptions.1);
        will = will.1;
        received = h.1.1.1.1.0;
        outbound = outbound.1;
      },
    )
