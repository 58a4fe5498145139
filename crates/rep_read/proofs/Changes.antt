-- The reader of changes of a session.
use Rattle.std.proofs.Common.{◌≡◌, ℕ, zero, suc, ◌<◌, ◌≤◌, ◌^◌, Bool, true, false, cond, ◌&&◌, List, ◌∷◌, ◌++◌, length, Option, Result, Ok, refl, sym, ap, subst, ◌∙◌, inl, inr, arith}
use Rattle.std.specs.Prelude.{nat_le, nat_lt, ◌==◌}
use Rattle.std.specs.Int.{w16, to_be_bytes}
use Rattle.std.proofs.lemmas.Bool.{cases_Bool, and_parts, and_from, leb-true, le-leb, eqb-true, eq-eqb, eqb-false, ne_eqb, lt-ltb, ltb-true}
use Rattle.std.proofs.lemmas.Bool.Decides.{nat_tests}
use Rattle.byteorder.specs.Endian.{big_bytes}
use Rattle.sn_topic.specs.Topics.{IsFilter}
use Rattle.sn_session.specs.declared.presence.Presence.{Presence}
use Rattle.sn_session.specs.declared.outbound.Outbound.{Outbound}
use Rattle.sn_session.specs.declared.will.WillTopic.{WillTopic}
use Rattle.sn_tables.specs.declared.topics.TopicEntry.{TopicEntry}
use Rattle.sn_tables.specs.declared.subscriptions.Subscription.{Subscription}
use Rattle.sn_session.specs.declared.session.Session.{Session}
use Rattle.sn_session.specs.declared.change.SessionOp.{SessionOp}
use Rattle.sn_session.specs.declared.change.SessionOp.TheVariants.{Take, Presence as SetPresence, Register, Subscribe, Unsubscribe, WillTopic as SetWillTopic, WillMsg, Received, Released, Outbound as SetOutbound}
use Rattle.rep_op.specs.declared.fault.OpsFault.{OpsFault}
use Rattle.rep_op.specs.Ranges.{is_change}
use Rattle.rep_read.specs.Reading.{Reader, ◌>>=◌, both, made_from, ranged, octet_at, number_at, is_positive, filter_at, body_at, presence_at, entry_at, subscription_at, some_topic_at, some_exchange_at, session_at, set_presence_at, set_outbound_at, fields_at, is_tag, change_at}
use Rattle.rep_op.specs.Sessions.{text_octets, presence_octet, option_octets, topic_octets, subscription_octets, will_topic_octets, exchange_octets, session_octets, change_octets}
use Rattle.rep_op.specs.Values.{IsChangeValue}
use Rattle.rep_op.specs.WellMade.{is_counted as is_counted_change}
use Rattle.rep_read.proofs.Laws.{IsBytes, Taken, IsStable, Law, bind_ok, bind_stable, ok_is, both_law, ranged_law, octet_law}
use Rattle.rep_read.proofs.Fields.{one_octet, IsOctet, filter_law, body_law, presence_law}
use Rattle.rep_read.proofs.Tables.{FitsOption}
use Rattle.rep_read.proofs.Parts.{two_law, IsTwo, counted_two_law, FitsEntry, entry_law, FitsSubscription, subscription_law, FitsWillTopic, some_topic_law, FitsExchange, some_exchange_law, FitsSession, session_law, will_topic_fits, will_topic_is, exchange_fits, exchange_is, subscription_fits, session_fits, session_is}

pub record FitsChange (counter : ℕ) (o : SessionOp) : Type 0 where
  pub counted : is_counted_change counter o ≡ true
  pub change : is_change o ≡ true
  pub value : IsChangeValue o

abbrev pair_at : Reader (Presence × ℕ)
pair_at = both presence_at (number_at w16)

abbrev pair_text : Presence × ℕ → List ℕ
pair_text x = one_octet (presence_octet x.0) ++ to_be_bytes w16 x.1

abbrev FitsPair : Presence × ℕ → Type 0
FitsPair x = Unit {0} × (x.1 < 2 ^ 16)

pair_law : Law pair_at pair_text FitsPair
pair_law = both_law presence_at (λ p. one_octet (presence_octet p)) (λ p. Unit {0}) presence_law (number_at w16) (to_be_bytes w16) (λ n. n < 2 ^ 16) two_law

abbrev next_at : Reader (ℕ × Option Outbound)
next_at = both (ranged is_positive (number_at w16)) some_exchange_at

abbrev next_text : ℕ × Option Outbound → List ℕ
next_text x = to_be_bytes w16 x.0 ++ option_octets exchange_octets x.1

abbrev FitsNext : ℕ × Option Outbound → Type 0
FitsNext x = IsTwo x.0 × FitsOption FitsExchange x.1

next_law : Law next_at next_text FitsNext
next_law = both_law (ranged is_positive (number_at w16)) (to_be_bytes w16) IsTwo counted_two_law some_exchange_at (option_octets exchange_octets) (FitsOption FitsExchange) some_exchange_law

-- ---- what was read of a tag and its fields

kind_takes : {A : Type 0} (counter tag : ℕ) (f : A → SessionOp) (p : Reader A) (text : A → List ℕ) (Fits : A → Type 0) → Law p text Fits
    → ((a : A) → Fits a → (tag ∷ text a ≡ change_octets (f a)) × FitsChange counter (f a))
    → (after : List ℕ) (x : SessionOp × List ℕ) → IsBytes after → made_from f p after ≡ Ok x → Taken change_octets (FitsChange counter) (tag ∷ after) x
kind_takes {A} counter tag f p text Fits lp over after x fits e =
    let b = bind_ok (p after) (λ x. Ok (f x.0, x.1)) x e in
    let t = lp.takes after b.0 fits b.1 in
    let o = over b.0.0 t.fits in
    let whole : SessionOp × List ℕ = (f b.0.0, b.0.1) in
    subst (λ (y : SessionOp × List ℕ). Taken change_octets (FitsChange counter) (tag ∷ after) y) (ok_is whole x b.2)
    (record { parts = ap (λ (z : List ℕ). tag ∷ z) t.parts ∙ ap (λ (z : List ℕ). z ++ b.0.1) o.0; rest = t.rest; fits = o.1 })

tag_up : (counter tag : ℕ) → is_tag counter tag ≡ true → 1 ≤ tag → 0 < counter
tag_up counter tag e le = grind (arith, nat_tests)

-- tags from 1 on stand at counters from 1 on
later : (counter tag : ℕ) → is_tag counter tag ≡ true → 1 ≤ tag → nat_lt 0 counter ≡ true
later counter tag e le = lt-ltb 0 counter (tag_up counter tag e le)

zero_down : (counter tag : ℕ) → is_tag counter tag ≡ true → tag ≡ 0 → counter ≡ 0
zero_down counter tag e z = grind (arith, nat_tests)

-- tag 0 stands at counter 0 alone
at_zero : (counter : ℕ) → is_tag counter 0 ≡ true → (counter == 0) ≡ true
at_zero counter e = eq-eqb counter 0 (zero_down counter 0 e refl)

tag_most : (counter tag : ℕ) → is_tag counter tag ≡ true → tag ≤ 9
tag_most counter tag e = grind (arith, nat_tests)

tag_zero : (counter : ℕ) → (counter == 0) ≡ true → is_tag counter 0 ≡ true
tag_zero counter e = rw e refl

tag_later : (counter tag : ℕ) → nat_lt 0 counter ≡ true → (nat_le 1 tag && nat_le tag 9) ≡ true → is_tag counter tag ≡ true
tag_later counter tag e h =
    let up : 0 < counter = ltb-true 0 counter e in
    let other : (counter == 0) ≡ false = ne_eqb counter 0 (λ z. omega arith) in
    rw other h

fields_take : (counter tag : ℕ) (after : List ℕ) (x : SessionOp × List ℕ) → is_tag counter tag ≡ true → IsBytes after → fields_at tag after ≡ Ok x → Taken change_octets (FitsChange counter) (tag ∷ after) x
unfolding set_presence_at set_outbound_at
fields_take counter zero after x at fits e =
    kind_takes counter 0 (λ s. Take s) session_at session_octets FitsSession session_law
    (λ s h. (refl, let v = session_is s h in record { counted = at_zero counter at; change = v.0; value = v.1 })) after x fits e
fields_take counter (suc zero) after x at fits e =
    kind_takes counter 1 (λ x. SetPresence x.0 x.1) pair_at pair_text FitsPair pair_law
    (λ x h. (refl, record { counted = later counter 1 at (omega arith); change = refl; value = h.1 })) after x fits e
fields_take counter (suc (suc zero)) after x at fits e =
    kind_takes counter 2 (λ entry. Register entry.id entry.name entry.known) entry_at topic_octets FitsEntry entry_law
    (λ a h. (refl, record { counted = later counter 2 at (omega arith); change = h.0.1; value = (h.0.0, h.1) })) after x fits e
fields_take counter (suc (suc (suc zero))) after x at fits e =
    kind_takes counter 3 (λ s. Subscribe s.filter s.qos) subscription_at subscription_octets FitsSubscription subscription_law
    (λ a h. (refl, record { counted = later counter 3 at (omega arith); change = h.1.1; value = h.0 })) after x fits e
fields_take counter (suc (suc (suc (suc zero)))) after x at fits e =
    kind_takes counter 4 (λ asked. Unsubscribe asked) filter_at text_octets IsFilter filter_law
    (λ a h. (refl, record { counted = later counter 4 at (omega arith); change = refl; value = h })) after x fits e
fields_take counter (suc (suc (suc (suc (suc zero))))) after x at fits e =
    kind_takes counter 5 (λ asked. SetWillTopic asked) some_topic_at (option_octets will_topic_octets) (FitsOption FitsWillTopic) some_topic_law
    (λ a h. (refl, let v = will_topic_is a h in record { counted = later counter 5 at (omega arith); change = v.0; value = v.1 })) after x fits e
fields_take counter (suc (suc (suc (suc (suc (suc zero)))))) after x at fits e =
    kind_takes counter 6 (λ message. WillMsg message) body_at text_octets (λ t. length t ≤ 4096) body_law
    (λ a h. (refl, record { counted = later counter 6 at (omega arith); change = le-leb _ _ h; value = tt })) after x fits e
fields_take counter (suc (suc (suc (suc (suc (suc (suc zero))))))) after x at fits e =
    kind_takes counter 7 (λ id. Received id) (number_at w16) (to_be_bytes w16) (λ n. n < 2 ^ 16) two_law
    (λ a h. (refl, record { counted = later counter 7 at (omega arith); change = refl; value = h })) after x fits e
fields_take counter (suc (suc (suc (suc (suc (suc (suc (suc zero)))))))) after x at fits e =
    kind_takes counter 8 (λ id. Released id) (number_at w16) (to_be_bytes w16) (λ n. n < 2 ^ 16) two_law
    (λ a h. (refl, record { counted = later counter 8 at (omega arith); change = refl; value = h })) after x fits e
fields_take counter (suc (suc (suc (suc (suc (suc (suc (suc (suc zero))))))))) after x at fits e =
    kind_takes counter 9 (λ x. SetOutbound x.1 x.0) next_at next_text FitsNext next_law
    (λ a h. (refl, let v = exchange_is a.1 h.1 in record { counted = later counter 9 at (omega arith); change = and_from _ _ h.0.1 v.0; value = (h.0.0, v.1) })) after x fits e
fields_take counter (suc (suc (suc (suc (suc (suc (suc (suc (suc (suc tag)))))))))) after x at fits e = absurd (let most = tag_most counter (suc (suc (suc (suc (suc (suc (suc (suc (suc (suc tag)))))))))) at in omega arith)

-- ---- what was written

carry : {A : Type 0} (f : A → SessionOp) (p : Reader A) (a : A) (bytes rest : List ℕ) → p bytes ≡ Ok (a, rest) → made_from f p bytes ≡ Ok (f a, rest)
carry {A} f p a bytes rest e = ap (λ (r : Result (A × List ℕ) OpsFault). r >>= λ x. Ok (f x.0, x.1)) e

fields_again : (counter : ℕ) (o : SessionOp) (rest : List ℕ) → FitsChange counter o → (tag : ℕ) × (after : List ℕ) × (change_octets o ≡ tag ∷ after) × (tag < 256) × (is_tag counter tag ≡ true) × (fields_at tag (after ++ rest) ≡ Ok (o, rest))
unfolding set_presence_at set_outbound_at
fields_again counter (Take s) rest h =
    (0, session_octets s, refl, omega arith, tag_zero counter h.counted, carry (λ s. Take s) session_at s (session_octets s ++ rest) rest (session_law.again s rest (session_fits s h.change h.value)))
fields_again counter (SetPresence p d) rest h =
    (1, pair_text (p, d), refl, omega arith, tag_later counter 1 h.counted refl, carry (λ x. SetPresence x.0 x.1) pair_at (p, d) (pair_text (p, d) ++ rest) rest (pair_law.again (p, d) rest (tt, h.value)))
fields_again counter (Register id name known) rest h =
    let a : TopicEntry = record { id = id; name = name; known = known } in
    (2, topic_octets a, refl, omega arith, tag_later counter 2 h.counted refl, carry (λ entry. Register entry.id entry.name entry.known) entry_at a (topic_octets a ++ rest) rest (entry_law.again a rest ((h.value.0, h.change), h.value.1)))
fields_again counter (Subscribe filter qos) rest h =
    let a : Subscription = record { filter = filter; qos = qos } in
    (3, subscription_octets a, refl, omega arith, tag_later counter 3 h.counted refl, carry (λ s. Subscribe s.filter s.qos) subscription_at a (subscription_octets a ++ rest) rest (subscription_law.again a rest (subscription_fits filter qos h.change h.value)))
fields_again counter (Unsubscribe filter) rest h =
    (4, text_octets filter, refl, omega arith, tag_later counter 4 h.counted refl, carry (λ asked. Unsubscribe asked) filter_at filter (text_octets filter ++ rest) rest (filter_law.again filter rest h.value))
fields_again counter (SetWillTopic asked) rest h = (
  5,
  option_octets will_topic_octets asked,
  refl,
  omega arith,
  tag_later counter 5 h.counted refl,
  carry (λ asked. SetWillTopic asked) some_topic_at asked (option_octets will_topic_octets asked ++ rest) rest (some_topic_law.again asked rest (will_topic_fits asked h.change h.value)),
)
fields_again counter (WillMsg message) rest h =
    (6, text_octets message, refl, omega arith, tag_later counter 6 h.counted refl, carry (λ message. WillMsg message) body_at message (text_octets message ++ rest) rest (body_law.again message rest (leb-true _ _ h.change)))
fields_again counter (Received id) rest h =
    (7, big_bytes 2 id, refl, omega arith, tag_later counter 7 h.counted refl, carry (λ id. Received id) (number_at w16) id (to_be_bytes w16 id ++ rest) rest (two_law.again id rest h.value))
fields_again counter (Released id) rest h =
    (8, big_bytes 2 id, refl, omega arith, tag_later counter 8 h.counted refl, carry (λ id. Released id) (number_at w16) id (to_be_bytes w16 id ++ rest) rest (two_law.again id rest h.value))
fields_again counter (SetOutbound exchange next_id) rest h =
    let p = and_parts _ _ h.change in
    let a : ℕ × Option Outbound = (next_id, exchange) in
    (9, next_text a, refl, omega arith, tag_later counter 9 h.counted refl, carry (λ x. SetOutbound x.1 x.0) next_at a (next_text a ++ rest) rest (next_law.again a rest ((h.value.0, p.0), exchange_fits exchange p.1 h.value.1)))

-- ---- changes

abbrev tag_at : ℕ → Reader ℕ
tag_at counter = ranged (is_tag counter) octet_at

tag_law : (counter : ℕ) → Law (tag_at counter) one_octet (λ n. IsOctet n × (is_tag counter n ≡ true))
tag_law counter = ranged_law (is_tag counter) octet_at one_octet IsOctet octet_law

made_stable : {A : Type 0} (f : A → SessionOp) (p : Reader A) (text : A → List ℕ) (Fits : A → Type 0) → Law p text Fits → (after more : List ℕ) → IsStable more (made_from f p after) (made_from f p (after ++ more))
made_stable f p text Fits lp after more = bind_stable more (p after) (p (after ++ more)) (λ x. Ok (f x.0, x.1)) (lp.stable after more) (λ x. inr refl)

outbound_stable : (after more : List ℕ) → IsStable more (set_outbound_at after) (set_outbound_at (after ++ more))
unfolding set_outbound_at
outbound_stable after more = made_stable (λ x. SetOutbound x.1 x.0) next_at next_text FitsNext next_law after more

presence_stable : (after more : List ℕ) → IsStable more (set_presence_at after) (set_presence_at (after ++ more))
unfolding set_presence_at
presence_stable after more = made_stable (λ x. SetPresence x.0 x.1) pair_at pair_text FitsPair pair_law after more

chosen : {A : Type 0} (more : List ℕ) (b : Bool) (p q : Reader A) (after : List ℕ) → IsStable more (p after) (p (after ++ more)) → IsStable more (q after) (q (after ++ more))
    → IsStable more (cond b (p after) (q after)) (cond b (p (after ++ more)) (q (after ++ more)))
chosen more true p q after hp hq = hp
chosen more false p q after hp hq = hq

fields_stable : (tag : ℕ) (after more : List ℕ) → IsStable more (fields_at tag after) (fields_at tag (after ++ more))
fields_stable tag after more =
    let s8 = chosen more (tag == 8) (made_from (λ id. Released id) (number_at w16)) set_outbound_at after (made_stable (λ id. Released id) (number_at w16) _ _ two_law after more) (outbound_stable after more) in
    let r8 : Reader SessionOp = λ b. cond (tag == 8) (made_from (λ id. Released id) (number_at w16) b) (set_outbound_at b) in
    let s7 = chosen more (tag == 7) (made_from (λ id. Received id) (number_at w16)) r8 after (made_stable (λ id. Received id) (number_at w16) _ _ two_law after more) s8 in
    let r7 : Reader SessionOp = λ b. cond (tag == 7) (made_from (λ id. Received id) (number_at w16) b) (r8 b) in
    let s6 = chosen more (tag == 6) (made_from (λ m. WillMsg m) body_at) r7 after (made_stable (λ m. WillMsg m) body_at _ _ body_law after more) s7 in
    let r6 : Reader SessionOp = λ b. cond (tag == 6) (made_from (λ m. WillMsg m) body_at b) (r7 b) in
    let s5 = chosen more (tag == 5) (made_from (λ a. SetWillTopic a) some_topic_at) r6 after (made_stable (λ a. SetWillTopic a) some_topic_at _ _ some_topic_law after more) s6 in
    let r5 : Reader SessionOp = λ b. cond (tag == 5) (made_from (λ a. SetWillTopic a) some_topic_at b) (r6 b) in
    let s4 = chosen more (tag == 4) (made_from (λ a. Unsubscribe a) filter_at) r5 after (made_stable (λ a. Unsubscribe a) filter_at _ _ filter_law after more) s5 in
    let r4 : Reader SessionOp = λ b. cond (tag == 4) (made_from (λ a. Unsubscribe a) filter_at b) (r5 b) in
    let s3 = chosen more (tag == 3) (made_from (λ s. Subscribe s.filter s.qos) subscription_at) r4 after (made_stable (λ s. Subscribe s.filter s.qos) subscription_at _ _ subscription_law after more) s4 in
    let r3 : Reader SessionOp = λ b. cond (tag == 3) (made_from (λ s. Subscribe s.filter s.qos) subscription_at b) (r4 b) in
    let s2 = chosen more (tag == 2) (made_from (λ e. Register e.id e.name e.known) entry_at) r3 after (made_stable (λ e. Register e.id e.name e.known) entry_at _ _ entry_law after more) s3 in
    let r2 : Reader SessionOp = λ b. cond (tag == 2) (made_from (λ e. Register e.id e.name e.known) entry_at b) (r3 b) in
    let s1 = chosen more (tag == 1) set_presence_at r2 after (presence_stable after more) s2 in
    let r1 : Reader SessionOp = λ b. cond (tag == 1) (set_presence_at b) (r2 b) in
    chosen more (tag == 0) (made_from (λ s. Take s) session_at) r1 after (made_stable (λ s. Take s) session_at _ _ session_law after more) s1

abbrev by_tag : ℕ × List ℕ → Result (SessionOp × List ℕ) OpsFault
by_tag tag = fields_at tag.0 tag.1

change_again : (counter : ℕ) (o : SessionOp) (rest : List ℕ) → FitsChange counter o → change_at counter (change_octets o ++ rest) ≡ Ok (o, rest)
unfolding change_at
change_again counter o rest h =
    let f = fields_again counter o rest h in
    ap (λ (z : List ℕ). tag_at counter (z ++ rest) >>= by_tag) f.2
    ∙ (ap (λ (r : Result (ℕ × List ℕ) OpsFault). r >>= by_tag) ((tag_law counter).again f.0 (f.1 ++ rest) (f.3, f.4)) ∙ f.5)

pub change_law : (counter : ℕ) → Law (change_at counter) change_octets (FitsChange counter)
unfolding change_at
change_law counter = record {
  takes = λ bytes x fits e.
      let b = bind_ok (tag_at counter bytes) by_tag x e in
      let t = (tag_law counter).takes bytes b.0 fits b.1 in
      let f = fields_take counter b.0.0 b.0.1 x t.fits.1 t.rest b.2 in
      record { parts = t.parts ∙ f.parts; rest = f.rest; fits = f.fits };
  again = change_again counter;
  stable = λ bytes more. bind_stable more (tag_at counter bytes) (tag_at counter (bytes ++ more)) by_tag ((tag_law counter).stable bytes more) (λ x. fields_stable x.0 x.1 more);
}
