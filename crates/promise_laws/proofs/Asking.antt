-- Who asks for a publication and can get it is a recipient, and the topic is the one that the field means.
use Rattle.std.proofs.Common.{◌≡◌, ℕ, ◌≤◌, ◌<◌, ◌==◌, Bool, true, false, cond, ◌&&◌, ◌||◌, nat_lt, min, max, ◌⊎◌, List, [], ◌∷◌, map, filter, fold, length, if◌then◌else◌, Option, Some, None, option_map, option_and_then, Contains, refl, sym, ap, ◌∙◌, subst, inl, inr, arith, eqb-true, true≢false}
use Rattle.std.proofs.lemmas.Bool.{and_parts, lt-ltb, ltb-false, ltb-true}
use Rattle.std.proofs.lemmas.List.Elements.{All-contains}
use Rattle.std.proofs.lemmas.Option.{none-some, same_Some}
use Rattle.sn_topic.specs.Matching.{is_match}
use Rattle.sn_topic.specs.Table.{Entries, name_of_id}
use Rattle.sn_topic.specs.Topics.{is_name, name_asked}
use Rattle.sn_topic.proofs.Rule.{is_match-Matches}
use Rattle.sn_tables.specs.declared.subscriptions.Subscription.{Subscription}
use Rattle.sn_tables.specs.declared.topics.TopicEntry.{TopicEntry}
use Rattle.sn_tables.specs.Subscriptions.{or_greater, asked_qos, subscribed_qos}
use Rattle.sn_tables.specs.Topics.{topic_of}
use Rattle.sn_tables.proofs.Greatest.{greatest_is}
use Rattle.sn_session.specs.declared.presence.Presence.{Presence}
use Rattle.sn_session.specs.declared.presence.Presence.TheVariants.{Active, Asleep, Awake, Disconnected, Lost}
use Rattle.sn_session.specs.declared.session.Session.{Session}
use Rattle.sn_session.specs.Messages.{is_too_long}
use Rattle.sn_frame.specs.declared.flags.TopicIdType.{TopicIdType}
use Rattle.sn_frame.specs.declared.flags.TopicIdType.TheVariants as kinds
use Rattle.sn_frame.specs.FlagBits.{kind_of}
use Rattle.rep_model.specs.declared.view.ClientView.{ClientView}
use Rattle.sn_plan.specs.Others.{is_up}
use Rattle.sn_publish.specs.declared.meaning.Meant.{Meant}
use Rattle.sn_publish.specs.declared.meaning.Meant.TheVariants.{Topic, Refused}
use Rattle.sn_publish.specs.Publishing.{topic_or_refused, short_name, entry_name, topic_meant, within_limit, publication_meant}
use Rattle.sn_publish.specs.Recipients.{effective_qos, qos_in, qos_for}
use Rattle.put_laws.proofs.Acked.{none-there}
use Rattle.promise_laws.specs.Asked.{IsThere, AsksFor, IsNameFor, IsAbout}
use Rattle.promise_laws.proofs.Serving.{head_there, behind_there, head_or}

-- ---- the filters that match

asked-there : (name : List ℕ) (subscriptions : List Subscription) (s : Subscription) → Contains subscriptions s → is_match s.filter name ≡ true → Contains (asked_qos name subscriptions) s.qos
asked-there name [] s h match = absurd (none-there s h)
asked-there name (x ∷ rest) s h match =
    let others : List Subscription = filter (λ (y : Subscription). is_match y.filter name) rest in
    elim (head_or x s rest h) [
      | inl same ↦
          subst (λ (y : Subscription). Contains (asked_qos name (y ∷ rest)) s.qos) (sym same)
          (subst (λ (b : Bool). Contains (map (λ (y : Subscription). y.qos) (cond b (s ∷ others) others)) s.qos) (sym match)
          (head_there s.qos (map (λ (y : Subscription). y.qos) others)))
      | inr more ↦
          elim (is_match x.filter name) as (λ b. Contains (map (λ (y : Subscription). y.qos) (cond b (x ∷ others) others)) s.qos) [
            | true ↦ behind_there x.qos s.qos (map (λ (y : Subscription). y.qos) others) (asked-there name rest s more match)
            | false ↦ asked-there name rest s more match
          ]
    ]

-- some number is the greatest
some-fold : (qs : List ℕ) (best : ℕ) → (m : ℕ) × (fold or_greater (Some best) qs ≡ Some m)
some-fold [] best = (best, refl)
some-fold (q ∷ qs) best = some-fold qs (max best q)

some-greatest : (qs : List ℕ) (q : ℕ) → Contains qs q → (m : ℕ) × (fold or_greater None qs ≡ Some m) × (q ≤ m)
some-greatest [] q h = absurd (none-there q h)
some-greatest (x ∷ qs) q h =
    let found = some-fold qs x in
    let greatest = greatest_is (x ∷ qs) (Some found.0) (sym found.1) in
    (found.0, found.1, All-contains (λ n. n ≤ found.0) (x ∷ qs) q greatest.greatest_of_all h)

-- ---- a recipient

there-up : (presence : Presence) → IsThere presence → is_up presence ≡ true
there-up presence (inl active) = ap is_up active
there-up presence (inr (inl asleep)) = ap is_up asleep
there-up presence (inr (inr awake)) = ap is_up awake

or_right_true : (a : Bool) → (a || true) ≡ true
or_right_true true = refl
or_right_true false = refl

-- it is there, or gets it at least once
can-get : (presence : Presence) (qos low high : ℕ) → low ≤ high → IsThere presence ⊎ (0 < min qos low) → (is_up presence || nat_lt 0 (min qos high)) ≡ true
can-get presence qos low high le (inl there) = ap (λ (b : Bool). b || nat_lt 0 (min qos high)) (there-up presence there)
can-get presence qos low high le (inr above) =
    let more : 0 < min qos high = omega (arith, le, above) in
    ap (λ (b : Bool). is_up presence || b) (lt-ltb 0 (min qos high) more) ∙ or_right_true (is_up presence)

pub asks-gets : (name : List ℕ) (qos : ℕ) (v : ClientView) (asks : AsksFor name qos v) → (q : ℕ) × (qos_for name qos v ≡ Some q) × (q ≤ qos) × (min qos asks.subscription.qos ≤ q)
asks-gets name qos v asks =
    let s : Session = asks.session in
    let low : ℕ = asks.subscription.qos in
    let match : is_match asks.subscription.filter name ≡ true = (is_match-Matches asks.subscription.filter name).1 asks.matches in
    let best = some-greatest (asked_qos name s.subscriptions) low (asked-there name s.subscriptions asks.subscription asks.among match) in
    let q : ℕ = min qos best.0 in
    let room : nat_lt (length v.pending) 1024 ≡ true = lt-ltb (length v.pending) 1024 asks.room in
    let gets : (is_up s.presence || nat_lt 0 q) ≡ true = can-get s.presence qos low best.0 best.2 asks.there in
    let at : qos_in v.pending name qos s ≡ Some q =
    subst (λ (o : Option ℕ). option_and_then (λ (asked : ℕ). if nat_lt (length v.pending) 1024 && (is_up s.presence || nat_lt 0 (min qos asked)) then Some (min qos asked) else None) o ≡ Some q) (sym best.1)
    (ap (λ (b : Bool). if b && (is_up s.presence || nat_lt 0 q) then Some q else None) room ∙ ap (λ (b : Bool). if b then Some q else None) gets) in (
      q,
      subst (λ (o : Option Session). option_and_then (qos_in v.pending name qos) o ≡ Some q) (sym asks.has_session) at,
      omega (arith),
      omega (arith, best.2),
    )

-- ---- who is a recipient asks for it

asked-only : (name : List ℕ) (subscriptions : List Subscription) (q : ℕ) → Contains (asked_qos name subscriptions) q → (s : Subscription) × Contains subscriptions s × (is_match s.filter name ≡ true) × (s.qos ≡ q)
asked-only name [] q h = absurd (none-there q h)
asked-only name (x ∷ rest) q h =
    let others : List Subscription = filter (λ (y : Subscription). is_match y.filter name) rest in
    elim (is_match x.filter name) as (λ b. is_match x.filter name ≡ b → Contains (map (λ (y : Subscription). y.qos) (cond b (x ∷ others) others)) q
    → (s : Subscription) × Contains (x ∷ rest) s × (is_match s.filter name ≡ true) × (s.qos ≡ q)) [
      | true ↦ λ match there.
          elim (head_or x.qos q (map (λ (y : Subscription). y.qos) others) there) [
            | inl same ↦ (x, head_there x rest, match, same)
            | inr more ↦ let w = asked-only name rest q more in (w.0, behind_there x w.0 rest w.1, w.2, w.3)
          ]
      | false ↦ λ match there. let w = asked-only name rest q there in (w.0, behind_there x w.0 rest w.1, w.2, w.3)
    ] refl h

up-there : (presence : Presence) → is_up presence ≡ true → IsThere presence
up-there Active e = inl refl
up-there Asleep e = inr (inl refl)
up-there Awake e = inr (inr refl)
up-there Disconnected e = absurd (true≢false (sym e))
up-there Lost e = absurd (true≢false (sym e))

if-some : (b : Bool) (q r : ℕ) → (if b then Some q else None) ≡ Some r → b ≡ true
if-some true q r e = refl
if-some false q r e = absurd (none-some r e)

-- it is there, or gets the message at least once
there-or : (presence : Presence) (q : ℕ) → (is_up presence || nat_lt 0 q) ≡ true → IsThere presence ⊎ (0 < q)
there-or presence q e =
    elim (is_up presence) as (λ b. is_up presence ≡ b → (b || nat_lt 0 q) ≡ true → IsThere presence ⊎ (0 < q)) [
      | true ↦ λ up _. inl (up-there presence up)
      | false ↦ λ up above. inr (ltb-true 0 q above)
    ] refl e

module _ (name : List ℕ) (qos : ℕ) (v : ClientView) (q : ℕ) where
  of-greatest : (s : Session) → v.session ≡ Some s → (m : ℕ) → subscribed_qos name s.subscriptions ≡ Some m → effective_qos v.pending qos s m ≡ Some q → AsksFor name qos v
  of-greatest s is m greatest e =
      let test = and_parts (nat_lt (length v.pending) 1024) (is_up s.presence || nat_lt 0 (min qos m)) (if-some (nat_lt (length v.pending) 1024 && (is_up s.presence || nat_lt 0 (min qos m))) (min qos m) q e) in
      let w = asked-only name s.subscriptions m (greatest_is (asked_qos name s.subscriptions) (Some m) (sym greatest)).among in
      record {
        session = s;
        has_session = is;
        subscription = w.0;
        among = w.1;
        matches = (is_match-Matches w.0.filter name).0 w.2;
        room = ltb-true (length v.pending) 1024 test.0;
        there = subst (λ (n : ℕ). IsThere s.presence ⊎ (0 < min qos n)) (sym w.3) (there-or s.presence (min qos m) test.1);
      }

  of-session : (s : Session) → v.session ≡ Some s → qos_in v.pending name qos s ≡ Some q → AsksFor name qos v
  of-session s is e =
      elim (subscribed_qos name s.subscriptions) as (λ o. subscribed_qos name s.subscriptions ≡ o → option_and_then (effective_qos v.pending qos s) o ≡ Some q → AsksFor name qos v) [
        | None ↦ λ _ none. absurd (none-some q none)
        | Some m ↦ λ greatest gets. of-greatest s is m greatest gets
      ] refl e

  pub gets-asks : qos_for name qos v ≡ Some q → AsksFor name qos v
  gets-asks e =
      elim v.session as (λ o. v.session ≡ o → option_and_then (qos_in v.pending name qos) o ≡ Some q → AsksFor name qos v) [
        | None ↦ λ _ none. absurd (none-some q none)
        | Some s ↦ λ is gets. of-session s is gets
      ] refl e

-- ---- the topic

-- the name of a topic that is meant
abbrev name_or : Meant → List ℕ → List ℕ
name_or (Refused code) other = other
name_or (Topic name) other = name

abbrev is-refused : Meant → Bool
is-refused (Refused code) = true
is-refused (Topic name) = false

no-topic : (code : ℕ) (name : List ℕ) → Refused code ≡ Topic name → ⊥
no-topic code name e = true≢false (ap is-refused e)

same-topic : (one other : List ℕ) → Topic one ≡ Topic other → one ≡ other
same-topic one other e = ap (λ (m : Meant). name_or m []) e

-- a name that is there is the one that is meant
named-is : (o : Option (List ℕ)) (name : List ℕ) → topic_or_refused o ≡ Topic name → o ≡ Some name
named-is None name e = absurd (no-topic 2 name e)
named-is (Some found) name e = ap Some (same-topic found name e)

entry-there : (topic : ℕ) (topics : List TopicEntry) (name : List ℕ) → option_map entry_name (topic_of topic topics) ≡ Some name → (entry : TopicEntry) × Contains topics entry × (entry.id ≡ topic) × (entry.name ≡ name)
entry-there topic [] name e = absurd (none-some name e)
entry-there topic (x ∷ rest) name e =
    elim (x.id == topic) as (λ b. (x.id == topic) ≡ b → option_map entry_name (cond b (Some x) (topic_of topic rest)) ≡ Some name → (entry : TopicEntry) × Contains (x ∷ rest) entry × (entry.id ≡ topic) × (entry.name ≡ name)) [
      | true ↦ λ t is. (x, head_there x rest, eqb-true x.id topic t, same_Some x.name name is)
      | false ↦ λ t is. let w = entry-there topic rest name is in (w.0, behind_there x w.0 rest w.1, w.2, w.3)
    ] refl e

short-is : (b : Bool) (octets name : List ℕ) → (if b then Some octets else None) ≡ Some name → name ≡ octets
short-is true octets name e = sym (same_Some octets name e)
short-is false octets name e = absurd (none-some name e)

meant-name : (predefined : Entries) (s : Session) (kind : TopicIdType) (topic : ℕ) (name : List ℕ) → topic_meant predefined s kind topic ≡ Topic name → IsNameFor predefined s kind topic name
meant-name predefined s kinds.Normal topic name e = entry-there topic s.topics name (named-is (option_map entry_name (topic_of topic s.topics)) name e)
meant-name predefined s kinds.Predefined topic name e = named-is (name_of_id topic predefined) name e
meant-name predefined s kinds.Short topic name e = short-is (is_name (short_name topic)) (short_name topic) name (named-is (name_asked (short_name topic)) name e)
meant-name predefined s kinds.Reserved topic name e = absurd (no-topic 3 name e)

within-is : (body : List ℕ) (meant : Meant) (name : List ℕ) → within_limit body meant ≡ Topic name → (meant ≡ Topic name) × (length body ≤ 4096)
within-is body (Refused code) name e = absurd (no-topic code name e)
within-is body (Topic found) name e =
    elim (is_too_long body) as (λ b. is_too_long body ≡ b → (if b then Refused 3 else Topic found) ≡ Topic name → (Topic found ≡ Topic name) × (length body ≤ 4096)) [
      | true ↦ λ long is. absurd (no-topic 3 name is)
      | false ↦ λ short is. (is, ltb-false 4096 (length body) short)
    ] refl e

pub meant-about : (predefined : Entries) (s : Session) (bits topic : ℕ) (body name : List ℕ) → publication_meant predefined s bits topic body ≡ Topic name → IsAbout predefined s bits topic body name
meant-about predefined s bits topic body name e =
    let w = within-is body (topic_meant predefined s (kind_of bits) topic) name e in
    (meant-name predefined s (kind_of bits) topic name w.0, w.1)
