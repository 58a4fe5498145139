-- Sessions whose values are in range stay so, and so the sessions of sets of well made operations are.
use Rattle.std.proofs.Common.{◌≡◌, ℕ, Bool, true, false, cond, ◌&&◌, nat_le, if◌then◌else◌, List, [], ◌∷◌, map, filter, fold, length, Option, Some, None, IfSome, unwrap_or, refl, sym, ap, ◌∙◌, subst}
use Rattle.std.specs.List.{AllByRecursion, list_all, find}
use Rattle.std.proofs.lemmas.Bool.{and_parts, and_from}
use Rattle.sn_session.specs.declared.session.Session.{Session}
use Rattle.sn_tables.specs.declared.topics.TopicEntry.{TopicEntry}
use Rattle.sn_tables.specs.declared.subscriptions.Subscription.{Subscription}
use Rattle.sn_session.specs.declared.will.Will.{Will}
use Rattle.sn_session.specs.declared.will.WillTopic.{WillTopic}
use Rattle.sn_session.specs.declared.change.SessionOp.{SessionOp}
use Rattle.sn_session.specs.declared.change.SessionOp.TheVariants.{Take, Presence as SetPresence, Register, Subscribe, Unsubscribe, WillTopic as SetWillTopic, WillMsg, Received, Released, Outbound as SetOutbound}
use Rattle.sn_plan.proofs.Entered.{all-entered, all-filtered}
use Rattle.sn_tables.specs.Topics.{unknown, topic_cmp}
use Rattle.sn_tables.specs.Subscriptions.{subscription_cmp}
use Rattle.sn_session.specs.Wills.{with_will_topic, with_will_message}
use Rattle.sn_session.specs.Session.{empty_session, is_full, session_changed, applied}
use Rattle.sn_tables.specs.Levels.{is_qos}
use Rattle.rep_op.specs.Ranges.{is_message, is_topic, is_subscription, is_will, is_will_topic, is_exchange, is_session, is_change}

-- the parts of a session in range
pub record Fine (s : Session) : Type 0 where
  pub next : nat_le 1 s.next_id ≡ true
  pub topics : list_all is_topic s.topics ≡ true
  pub subscriptions : list_all is_subscription s.subscriptions ≡ true
  pub will : is_will s.will ≡ true
  pub exchange : is_exchange s.outbound ≡ true

abbrev pub IsChange : SessionOp → Type 0
IsChange change = is_change change ≡ true

pub fine-from : (s : Session) → is_session s ≡ true → Fine s
fine-from s h =
    let next : Bool = nat_le 1 s.next_id in
    let topics : Bool = list_all is_topic s.topics in
    let subscriptions : Bool = list_all is_subscription s.subscriptions in
    let will : Bool = is_will s.will in
    let a = and_parts (next && topics && subscriptions && will) (is_exchange s.outbound) h in
    let b = and_parts (next && topics && subscriptions) will a.0 in
    let c = and_parts (next && topics) subscriptions b.0 in
    let d = and_parts next topics c.0 in
    record { next = d.0; topics = d.1; subscriptions = c.1; will = b.1; exchange = a.1 }

pub fine-to : (s : Session) → Fine s → is_session s ≡ true
fine-to s f =
    let next : Bool = nat_le 1 s.next_id in
    let topics : Bool = list_all is_topic s.topics in
    let subscriptions : Bool = list_all is_subscription s.subscriptions in
    let will : Bool = is_will s.will in
    and_from (next && topics && subscriptions && will) (is_exchange s.outbound)
    (and_from (next && topics && subscriptions) will
    (and_from (next && topics) subscriptions (and_from next topics f.next f.topics) f.subscriptions)
    f.will) f.exchange

-- ---- tables

module _ {E : Type 0} (p : E → Bool) where
  -- what is found is one of them
  pub all-found : (test : E → Bool) (xs : List E) → list_all p xs ≡ true → IfSome (find test xs) (λ x. p x ≡ true)
  all-found test [] all = tt
  all-found test (x ∷ xs) all =
      let parts = and_parts (p x) (list_all p xs) all in
      elim (test x) as (λ b. IfSome (cond b (Some x) (find test xs)) (λ x. p x ≡ true)) [
        | true ↦ parts.0
        | false ↦ all-found test xs parts.1
      ]

pub unknown-fine : (topics : List TopicEntry) → list_all is_topic topics ≡ true → list_all is_topic (map unknown topics) ≡ true
unknown-fine [] all = refl
unknown-fine (e ∷ rest) all =
    let parts = and_parts (is_topic e) (list_all is_topic rest) all in
    and_from (is_topic e) (list_all is_topic (map unknown rest)) parts.0 (unknown-fine rest parts.1)

-- ---- one change

topic-fine : (asked : Option WillTopic) (will : Option Will) → is_will_topic asked ≡ true → is_will will ≡ true → is_will (with_will_topic asked will) ≡ true
topic-fine None will h k = refl
topic-fine (Some asked) None h k = and_from (is_qos asked.qos) (is_message []) h refl
topic-fine (Some asked) (Some will) h k = and_from (is_qos asked.qos) (is_message will.message) h (and_parts (is_qos will.qos) (is_message will.message) k).1

message-fine : (message : List ℕ) (will : Option Will) → is_message message ≡ true → is_will will ≡ true → is_will (with_will_message message will) ≡ true
message-fine message None h k = refl
message-fine message (Some will) h k = and_from (is_qos will.qos) (is_message message) (and_parts (is_qos will.qos) (is_message will.message) k).0 h

changed-fine : (s : Session) (change : SessionOp) → Fine s → IsChange change → Fine (session_changed s change)
changed-fine s (Take taken) f h = fine-from taken h
changed-fine s (SetPresence presence duration) f h = record { next = f.next; topics = f.topics; subscriptions = f.subscriptions; will = f.will; exchange = f.exchange }
changed-fine s (Register id name known) f h =
    record { next = f.next; topics = all-entered is_topic topic_cmp (record { id = id; name = name; known = known }) s.topics h f.topics; subscriptions = f.subscriptions; will = f.will; exchange = f.exchange }
changed-fine s (Subscribe filter qos) f h =
    record { next = f.next; topics = f.topics; subscriptions = all-entered is_subscription subscription_cmp (record { filter = filter; qos = qos }) s.subscriptions h f.subscriptions; will = f.will; exchange = f.exchange }
changed-fine s (Unsubscribe asked) f h =
    record { next = f.next; topics = f.topics; subscriptions = all-filtered is_subscription _ s.subscriptions f.subscriptions; will = f.will; exchange = f.exchange }
changed-fine s (SetWillTopic asked) f h = record { next = f.next; topics = f.topics; subscriptions = f.subscriptions; will = topic-fine asked s.will h f.will; exchange = f.exchange }
changed-fine s (WillMsg message) f h = record { next = f.next; topics = f.topics; subscriptions = f.subscriptions; will = message-fine message s.will h f.will; exchange = f.exchange }
changed-fine s (Received id) f h = record { next = f.next; topics = f.topics; subscriptions = f.subscriptions; will = f.will; exchange = f.exchange }
changed-fine s (Released id) f h = record { next = f.next; topics = f.topics; subscriptions = f.subscriptions; will = f.will; exchange = f.exchange }
changed-fine s (SetOutbound exchange next_id) f h =
    let parts = and_parts (nat_le 1 next_id) (is_exchange exchange) h in
    record { next = parts.0; topics = f.topics; subscriptions = f.subscriptions; will = f.will; exchange = parts.1 }

choose-fine : (b : Bool) (s t : Session) → Fine s → Fine t → Fine (if b then s else t)
choose-fine true s t f g = f
choose-fine false s t f g = g

pub applied-fine : (s : Session) (change : SessionOp) → Fine s → IsChange change → Fine (applied s change)
applied-fine s change f h = choose-fine (is_full s change) s (session_changed s change) f (changed-fine s change f h)

-- and so after many
pub fold-fine : (s : Session) (changes : List SessionOp) → Fine s → AllByRecursion IsChange changes → Fine (fold applied s changes)
fold-fine s [] f all = f
fold-fine s (change ∷ rest) f all = fold-fine (applied s change) rest (applied-fine s change f all.0) all.1

pub empty-fine : Fine empty_session
empty-fine = record { next = refl; topics = refl; subscriptions = refl; will = refl; exchange = refl }
