-- The reader of digests.
use Rattle.std.proofs.Common.{◌≡◌, ℕ, suc, ◌+◌, ◌*◌, ◌<◌, ◌≤◌, ◌^◌, Bool, true, false, cond, List, [], ◌∷◌, ◌++◌, length, take, get_or, Result, Ok, Err, refl, sym, ap, subst, ◌∙◌, inl, inr, arith, leb-true, le-leb, Less, Ordering, Equal, Greater, is_lt}
use Rattle.std.specs.Prelude.{nat_lt, ◌==◌}
use Rattle.std.specs.List.{list_all, flat_map, AllByRecursion}
use Rattle.std.proofs.lemmas.Bool.{cases_Bool, and_parts, and_from, eqb-true, ltb-true, lt-ltb}
use Rattle.std.proofs.lemmas.Bool.Decides.{nat_tests}
use Rattle.std.proofs.lemmas.List.{length-append}
use Rattle.std.proofs.lemmas.List.Folds.{length-flat_map-take}
use Rattle.rep_op.specs.declared.fault.OpsFault.{OpsFault}
use Rattle.rep_op.specs.declared.fault.OpsFault.TheVariants as faults
use Rattle.rep_op.specs.declared.version.Version.TheVariants.{One, Two}
use Rattle.rep_op.specs.Sessions.{text_octets}
use Rattle.rep_op.specs.Orders.{client_cmp, topic_name_cmp}
use Rattle.rep_read.specs.Reading.{Reader, ◌>>=◌, both, made_from, octet_at}
use Rattle.rep_read.proofs.Laws.{IsBytes, Taken, IsStable, Law, bind_ok, bind_stable, both_law, made_law, ok_is, octet_law}
use Rattle.rep_ops.specs.Reading.{AreOctets, follows_last, values_at}
use Rattle.byteorder.specs.Endian.{big_bytes}
use Rattle.rep_op.specs.Spelling.{client_octets}
use Rattle.rep_ops.specs.Spelling.{text_of, max_octets}
use Rattle.rep_ops.proofs.Listed.{FitsText, Order, values_law}
use Rattle.rep_ops.proofs.Whole.{takes, again}
use Rattle.rep_model.specs.Ranges.{AreApartFrom, AreApart}
use Rattle.rep_model.proofs.Joins.{all-both, all-right}
use Rattle.rep_digest.specs.declared.entry.OriginEntry.{OriginEntry}
use Rattle.rep_digest.specs.declared.entry.ClientEntry.{ClientEntry}
use Rattle.rep_digest.specs.declared.entry.RetainedEntry.{RetainedEntry}
use Rattle.rep_digest.specs.Digests.{Digested}
use Rattle.rep_digest.specs.WellMade.{IsRange, IsOriginEntry, OriginsAscend, IsDigestEntry, ClientsAscend, AreClients, IsRetained, TopicsAscend, AreTopics, IsDigest}
use Rattle.rep_digest.specs.Spelling.{ranges_octets, range_octets, origin_octets, seen_octets, origins_octets, entry_octets, retained_entry_octets, topics_octets, spelled, digest_spelling, IsDigestWithinLimit}
use Rattle.rep_digest.specs.inner.Spelling.{HaveFewRanges, IsEntryWritable}
use Rattle.rep_digest.specs.Reading.{client_entry_at, retained_at, ranges_apart, are_apart, origins_ascend, is_ordered, is_client_next, entry_may_follow, topic_may_follow, retained_entries_at, of_clients, of_both, clients_at, digest_at, digest_reading}
use Rattle.rep_digest.proofs.Entries.{FitsOrigin, FitsEntry, entry_law, FitsRetained, retained_law}

-- ---- the order

apart_behind : (r : ℕ × ℕ) (rest : List (ℕ × ℕ)) → AllByRecursion IsRange rest → ranges_apart (r ∷ rest) ≡ true → AreApartFrom (r.1 + 2) rest
apart_behind r [] h e = tt
apart_behind r (s ∷ rest) h e =
    let w = and_parts (nat_lt (r.1 + 1) s.0) (ranges_apart (s ∷ rest)) e in
    let far = ltb-true (r.1 + 1) s.0 w.0 in
    (omega (arith, far), h.0.last, apart_behind s rest h.1 w.1)

apart_from : (rs : List (ℕ × ℕ)) → AllByRecursion IsRange rs → ranges_apart rs ≡ true → AreApart rs
apart_from [] h e = tt
apart_from (r ∷ rest) h e = (omega arith, h.0.last, apart_behind r rest h.1 e)

from_apart : (start : ℕ) (rs : List (ℕ × ℕ)) → AreApartFrom start rs → ranges_apart rs ≡ true
from_apart start [] h = refl
from_apart start (r ∷ []) h = refl
from_apart start (r ∷ s ∷ rest) h =
    let far = h.2.0 in
    and_from (nat_lt (r.1 + 1) s.0) (ranges_apart (s ∷ rest)) (lt-ltb (r.1 + 1) s.0 (omega (arith, far))) (from_apart (r.1 + 2) (s ∷ rest) h.2)

ascend_from : (os : List OriginEntry) → origins_ascend os ≡ true → OriginsAscend os
ascend_from [] e = tt
ascend_from (a ∷ []) e = tt
ascend_from (a ∷ b ∷ rest) e = let w = and_parts (nat_lt a.origin b.origin) (origins_ascend (b ∷ rest)) e in (ltb-true a.origin b.origin w.0, ascend_from (b ∷ rest) w.1)

from_ascend : (os : List OriginEntry) → OriginsAscend os → origins_ascend os ≡ true
from_ascend [] h = refl
from_ascend (a ∷ []) h = refl
from_ascend (a ∷ b ∷ rest) h = and_from (nat_lt a.origin b.origin) (origins_ascend (b ∷ rest)) (lt-ltb a.origin b.origin h.0) (from_ascend (b ∷ rest) h.1)

-- fewer than two are in order
pub short_ranges_apart : (rs : List (ℕ × ℕ)) → length rs < 2 → ranges_apart rs ≡ true
short_ranges_apart [] lt = refl
short_ranges_apart (r ∷ []) lt = refl
short_ranges_apart (r ∷ s ∷ rest) lt = absurd (omega (arith, lt))

pub short_origins_ascend : (os : List OriginEntry) → length os < 2 → origins_ascend os ≡ true
short_origins_ascend [] lt = refl
short_origins_ascend (a ∷ []) lt = refl
short_origins_ascend (a ∷ b ∷ rest) lt = absurd (omega (arith, lt))

-- entries that are in order, and clients that ascend
abbrev Up : List ClientEntry → Type 0
Up d = AllByRecursion (λ e. is_ordered e ≡ true) d × ClientsAscend d

lt_less : (o : Ordering) → is_lt o ≡ true → o ≡ Less
lt_less Less e = refl
lt_less Equal e = absurd cc
lt_less Greater e = absurd cc

clients_push : (front : List ClientEntry) (e : ClientEntry) → ClientsAscend front → follows_last is_client_next front e ≡ true → ClientsAscend (front ++ e ∷ [])
clients_push [] e up t = tt
clients_push (a ∷ []) e up t = (lt_less (client_cmp a.client e.client) t, tt)
clients_push (a ∷ b ∷ more) e up t = (up.0, clients_push (b ∷ more) e up.1 t)

clients_from : (front : List ClientEntry) (e : ClientEntry) (new : List ClientEntry) → ClientsAscend (front ++ e ∷ new) → follows_last is_client_next front e ≡ true
clients_from [] e new up = refl
clients_from (a ∷ []) e new up = ap is_lt up.0
clients_from (a ∷ b ∷ more) e new up = clients_from (b ∷ more) e new up.1

order : Order entry_may_follow Up
order = record {
  none = (tt, tt);
  push = λ front e up t.
      let w = and_parts (is_ordered e) (follows_last is_client_next front e) t in
      (all-both (λ (x : ClientEntry). is_ordered x ≡ true) front (e ∷ []) up.0 (w.0, tt), clients_push front e up.1 w.1);
  from = λ front e new up. and_from (is_ordered e) (follows_last is_client_next front e) (all-right (λ (x : ClientEntry). is_ordered x ≡ true) front (e ∷ new) up.0).0 (clients_from front e new up.1);
}

-- ---- what was read is a digest

an_origin : (o : OriginEntry) → FitsOrigin o → are_apart o ≡ true → IsOriginEntry o
an_origin o h e =
    let w = and_parts (ranges_apart o.acknowledged) (ranges_apart o.waiting) e in
    record {
      number = leb-true 1 o.origin h.0.0.1;
      octet = h.0.0.0;
      some = h.1;
      acknowledged = (h.0.1.0.1, apart_from o.acknowledged h.0.1.0.1 w.0);
      waiting = (h.0.1.1.1, apart_from o.waiting h.0.1.1.1 w.1);
    }

some_origins : (os : List OriginEntry) → AllByRecursion FitsOrigin os → list_all are_apart os ≡ true → AllByRecursion IsOriginEntry os
some_origins [] h e = tt
some_origins (o ∷ os) h e = let w = and_parts (are_apart o) (list_all are_apart os) e in (an_origin o h.0 w.0, some_origins os h.1 w.1)

an_entry : (e : ClientEntry) → FitsEntry e → is_ordered e ≡ true → IsDigestEntry e
an_entry e h t =
    let w = and_parts (list_all are_apart e.origins) (origins_ascend e.origins) t in
    record { client = h.client; seen = h.seen; origins = some_origins e.origins h.origins.1 w.0; ascend = ascend_from e.origins w.1 }

some_entries : (d : List ClientEntry) → AllByRecursion FitsEntry d → AllByRecursion (λ e. is_ordered e ≡ true) d → AllByRecursion IsDigestEntry d
some_entries [] h up = tt
some_entries (e ∷ d) h up = (an_entry e h.0 up.0, some_entries d h.1 up.1)

-- ---- a digest can be read

-- what is said of each part that is no longer than the whole
module _ {A : Type 0} (text : A → List ℕ) (P : A → Type 0) where
  each_within : (xs : List A) (n : ℕ) → length (flat_map text xs) ≤ n → ((x : A) → length (text x) ≤ n → P x) → AllByRecursion P xs
  each_within [] n size h = tt
  each_within (x ∷ xs) n size h =
      let sum = length-append (text x) (flat_map text xs) in
      (h x (omega (arith, sum, size)), each_within xs n (omega (arith, sum, size)) h)

-- a part and what stands before it are no longer than the whole
pub length_more : {A : Type 0} (text : A → List ℕ) (xs : List A) (i : ℕ) (x : A) → i < length xs → x ≡ get_or xs i x → length (flat_map text (take i xs)) + length (text x) ≤ length (flat_map text xs)
length_more text xs i x lt e = rw e (length-flat_map-take text xs i x lt)

pub length_each_range : (rs : List (ℕ × ℕ)) → length (flat_map range_octets rs) ≡ 16 * length rs
length_each_range [] = refl
length_each_range (r ∷ rs) = let more = length_each_range rs in let sum = length-append (range_octets r) (flat_map range_octets rs) in omega (arith, more, sum)

pub length_entries : (d : List ClientEntry) → length d ≤ length (flat_map entry_octets d)
length_entries [] = omega arith
length_entries (e ∷ d) = let more = length_entries d in let sum = length-append (entry_octets e) (flat_map entry_octets d) in omega (arith, more, sum)

abbrev BeginsAt : ℕ → List OriginEntry → Type 0
BeginsAt start [] = Unit {0}
BeginsAt start (o ∷ os) = start ≤ o.origin

begins : (o : OriginEntry) (os : List OriginEntry) → OriginsAscend (o ∷ os) → BeginsAt (o.origin + 1) os × OriginsAscend os
begins o [] up = (tt, tt)
begins o (p ∷ os) up = (omega (arith, up.0), up.1)

-- at most one origin for each number
few_origins : (os : List OriginEntry) (start : ℕ) → AllByRecursion IsOriginEntry os → OriginsAscend os → BeginsAt start os → start ≤ 256 → length os + start ≤ 256
few_origins [] start h up low le = omega (arith, le)
few_origins (o ∷ os) start h up low le =
    let top = h.0.octet in
    let b = begins o os up in
    let more = few_origins os (o.origin + 1) h.1 b.1 b.0 (omega (arith, top)) in
    omega (arith, more, low)

few_ranges : (rs : List (ℕ × ℕ)) (n : ℕ) → length (ranges_octets rs) ≤ n → n ≤ max_octets → length rs < 2 ^ 32
few_ranges rs n size le =
    let some = length_each_range rs in
    let sum = length-append (big_bytes 4 (length rs)) (flat_map range_octets rs) in
    omega (arith, some, sum, size, le)

fits_origin : (o : OriginEntry) (n : ℕ) → length (origin_octets o) ≤ n → n ≤ max_octets → IsOriginEntry o → FitsOrigin o
fits_origin o n size le h =
    let sum = length-append (ranges_octets o.acknowledged) (ranges_octets o.waiting) in
    let first : length (ranges_octets o.acknowledged) ≤ n = omega (arith, sum, size) in
    let second : length (ranges_octets o.waiting) ≤ n = omega (arith, sum, size) in
    (((h.octet, le-leb 1 o.origin h.number), ((few_ranges o.acknowledged n first le, h.acknowledged.0), (few_ranges o.waiting n second le, h.waiting.0))), h.some)

each_weaker : {A : Type 0} (P Q : A → Type 0) → ((x : A) → P x → Q x) → (xs : List A) → AllByRecursion P xs → AllByRecursion Q xs
each_weaker P Q f [] h = tt
each_weaker P Q f (x ∷ xs) h = (f x h.0, each_weaker P Q f xs h.1)

-- what follows from each is there for each
followed : {A : Type 0} (P Q : A → Type 0) (xs : List A) → AllByRecursion (λ x. P x → Q x) xs → AllByRecursion P xs → AllByRecursion Q xs
followed P Q [] f h = tt
followed P Q (x ∷ xs) f h = (f.0 h.0, followed P Q xs f.1 h.1)

first_number : (os : List OriginEntry) → AllByRecursion IsOriginEntry os → BeginsAt 1 os
first_number [] h = tt
first_number (o ∷ os) h = h.0.number

fits_entry : (e : ClientEntry) (n : ℕ) → length (entry_octets e) ≤ n → n ≤ max_octets → IsDigestEntry e → FitsEntry e
fits_entry e n size le h =
    let outer = length-append (client_octets e.client) (seen_octets e.stamp e.prefix ++ origins_octets e.origins) in
    let inner = length-append (seen_octets e.stamp e.prefix) (origins_octets e.origins) in
    let count = length-append (big_bytes 2 (length e.origins)) (flat_map origin_octets e.origins) in
    let part : length (flat_map origin_octets e.origins) ≤ n = omega (arith, outer, inner, count, size) in
    let few = few_origins e.origins 1 h.origins h.ascend (first_number e.origins h.origins) (omega arith) in
    record {
      client = h.client;
      seen = h.seen;
      origins = (
        omega (arith, few),
        followed IsOriginEntry FitsOrigin e.origins
            (each_within origin_octets (λ (o : OriginEntry). IsOriginEntry o → FitsOrigin o) e.origins n part (λ o s. fits_origin o n s le)) h.origins,
      );
    }

all_apart : (os : List OriginEntry) → AllByRecursion IsOriginEntry os → list_all are_apart os ≡ true
all_apart [] h = refl
all_apart (o ∷ os) h = and_from (are_apart o) (list_all are_apart os)
    (and_from (ranges_apart o.acknowledged) (ranges_apart o.waiting) (from_apart 0 o.acknowledged h.0.acknowledged.1) (from_apart 0 o.waiting h.0.waiting.1)) (all_apart os h.1)

ordered : (e : ClientEntry) → IsDigestEntry e → is_ordered e ≡ true
ordered e h = and_from (list_all are_apart e.origins) (origins_ascend e.origins) (all_apart e.origins h.origins) (from_ascend e.origins h.ascend)

all_ordered : (d : List ClientEntry) → AllByRecursion IsDigestEntry d → AllByRecursion (λ e. is_ordered e ≡ true) d
all_ordered [] h = tt
all_ordered (e ∷ d) h = (ordered e h.0, all_ordered d h.1)

pub fits_text : (d : List ClientEntry) → AreClients d → length (text_of One entry_octets d) ≤ max_octets → FitsText FitsEntry Up d
fits_text d h size =
    let some = length_entries d in
    let sum = length-append (big_bytes 4 (length d)) (flat_map entry_octets d) in
    let part : length (flat_map entry_octets d) ≤ max_octets = omega (arith, sum, size) in
    record {
      few = omega (arith, some, part);
      fits = followed IsDigestEntry FitsEntry d (each_within entry_octets (λ (e : ClientEntry). IsDigestEntry e → FitsEntry e) d max_octets part (λ e s. fits_entry e max_octets s (omega arith))) h.entries;
      ascending = (all_ordered d h.entries, h.ascend);
    }

-- ---- topics

topics_push : (front : List RetainedEntry) (e : RetainedEntry) → TopicsAscend front → topic_may_follow front e ≡ true → TopicsAscend (front ++ e ∷ [])
topics_push [] e up t = tt
topics_push (a ∷ []) e up t = (lt_less (topic_name_cmp a.topic e.topic) t, tt)
topics_push (a ∷ b ∷ more) e up t = (up.0, topics_push (b ∷ more) e up.1 t)

topics_from : (front : List RetainedEntry) (e : RetainedEntry) (new : List RetainedEntry) → TopicsAscend (front ++ e ∷ new) → topic_may_follow front e ≡ true
topics_from [] e new up = refl
topics_from (a ∷ []) e new up = ap is_lt up.0
topics_from (a ∷ b ∷ more) e new up = topics_from (b ∷ more) e new up.1

topics_order : Order topic_may_follow TopicsAscend
topics_order = record { none = tt; push = topics_push; from = topics_from }

a_topic : (e : RetainedEntry) → FitsRetained e → IsRetained e
a_topic e h = record {
  topic = h.0;
  clock = (leb-true 1 e.clock h.1.0.1, h.1.0.0);
  gateway = (leb-true 1 e.gateway h.1.1.1, h.1.1.0);
}

of_topic : (e : RetainedEntry) → IsRetained e → FitsRetained e
of_topic e h = (h.topic, ((h.clock.1, le-leb 1 e.clock h.clock.0), (h.gateway.1, le-leb 1 e.gateway h.gateway.0)))

pub length_topics : (ts : List RetainedEntry) → length ts ≤ length (flat_map retained_entry_octets ts)
length_topics [] = omega arith
length_topics (e ∷ ts) =
    let more = length_topics ts in
    let sum = length-append (retained_entry_octets e) (flat_map retained_entry_octets ts) in
    let one = length-append (text_octets e.topic) (big_bytes 8 e.clock ++ e.gateway ∷ []) in
    let last = length-append (big_bytes 8 e.clock) (e.gateway ∷ []) in
    omega (arith, more, sum, one, last)

pub fits_topics : (ts : List RetainedEntry) → AreTopics ts → length (topics_octets ts) ≤ max_octets → FitsText FitsRetained TopicsAscend ts
fits_topics ts h size =
    let some = length_topics ts in
    let sum = length-append (big_bytes 4 (length ts)) (flat_map retained_entry_octets ts) in
    record {
      few = omega (arith, some, sum, size);
      fits = each_weaker IsRetained FitsRetained of_topic ts h.entries;
      ascending = h.ascend;
    }

-- ---- both

abbrev clients_text : List ClientEntry → List ℕ
clients_text d = big_bytes 4 (length d) ++ flat_map entry_octets d

abbrev FitsClients : List ClientEntry → Type 0
FitsClients d = FitsText FitsEntry Up d

abbrev FitsTopics : List RetainedEntry → Type 0
FitsTopics ts = FitsText FitsRetained TopicsAscend ts

clients_law : Law clients_at clients_text FitsClients
clients_law = values_law client_entry_at entry_octets FitsEntry entry_law entry_may_follow Up order

listed_law : Law (values_at retained_at topic_may_follow) topics_octets FitsTopics
listed_law = values_law retained_at retained_entry_octets FitsRetained retained_law topic_may_follow TopicsAscend topics_order

abbrev if_some : List RetainedEntry × List ℕ → Result (List RetainedEntry × List ℕ) OpsFault
if_some x = cond (length x.0 == 0) (Err faults.Version) (Ok x)

some_ok : (b : Bool) (x y : List RetainedEntry × List ℕ) → cond b (Err faults.Version) (Ok x) ≡ Ok y → (b ≡ false) × (x ≡ y)
some_ok true x y e = absurd (let wrong : Err faults.Version ≡ Ok y = e in cc)
some_ok false x y e = (refl, ok_is x y e)

some_again : (b : Bool) (x : List RetainedEntry × List ℕ) → b ≡ false → cond b (Err faults.Version) (Ok x) ≡ Ok x
some_again b x e = rw e refl

some_stable : (b : Bool) (x : List RetainedEntry × List ℕ) (more : List ℕ) → IsStable more (cond b (Err faults.Version) (Ok x)) (cond b (Err faults.Version) (Ok (x.0, x.1 ++ more)))
some_stable true x more = inr refl
some_stable false x more = inr refl

abbrev AreSome : List RetainedEntry → Type 0
AreSome ts = FitsTopics ts × ((length ts == 0) ≡ false)

topics_law : Law retained_entries_at topics_octets AreSome
unfolding retained_entries_at
topics_law = record {
  takes = λ bytes x fits e.
      let b = bind_ok (values_at retained_at topic_may_follow bytes) if_some x e in
      let t = listed_law.takes bytes b.0 fits b.1 in
      let g = some_ok (length b.0.0 == 0) b.0 x b.2 in
      subst (λ (y : List RetainedEntry × List ℕ). Taken topics_octets AreSome bytes y) g.1 (record { parts = t.parts; rest = t.rest; fits = (t.fits, g.0) });
  again = λ d rest h.
      ap (λ (r : Result (List RetainedEntry × List ℕ) OpsFault). r >>= if_some) (listed_law.again d rest h.0) ∙ some_again (length d == 0) (d, rest) h.1;
  stable = λ bytes more. bind_stable more (values_at retained_at topic_may_follow bytes) (values_at retained_at topic_may_follow (bytes ++ more)) if_some (listed_law.stable bytes more) (λ x. some_stable (length x.0 == 0) x more);
}

abbrev FitsAlone : Digested → Type 0
FitsAlone d = FitsClients d.clients × (d.topics ≡ [])

alone_law : Law (made_from of_clients clients_at) (λ d. clients_text d.clients) FitsAlone
alone_law = made_law of_clients clients_at clients_text FitsClients clients_law (λ d. clients_text d.clients) FitsAlone
    (λ cs h. (refl, (h, refl))) (λ d h. (d.clients, (λ i. record { clients = d.clients; topics = sym h.1 i }), h.0, refl))

abbrev FitsBoth : Digested → Type 0
FitsBoth d = FitsClients d.clients × AreSome d.topics

abbrev both_text : Digested → List ℕ
both_text d = clients_text d.clients ++ topics_octets d.topics

two_law : Law (made_from of_both (both clients_at retained_entries_at)) both_text FitsBoth
two_law = made_law of_both (both clients_at retained_entries_at) (λ x. clients_text x.0 ++ topics_octets x.1) (λ x. FitsClients x.0 × AreSome x.1)
    (both_law clients_at clients_text FitsClients clients_law retained_entries_at topics_octets AreSome topics_law) both_text FitsBoth
    (λ x h. (refl, h)) (λ d h. ((d.clients, d.topics), refl, h, refl))

abbrev pub FitsDigest : Digested → Type 0
FitsDigest d = FitsClients d.clients × FitsTopics d.topics

no_topics : FitsTopics []
no_topics = record { few = omega arith; fits = tt; ascending = tt }

spelled_two : (cs : List ClientEntry) (ts : List RetainedEntry) → (length ts == 0) ≡ false → spelled cs ts ≡ 2 ∷ (clients_text cs ++ topics_octets ts)
spelled_two cs [] e = absurd (let wrong : true ≡ false = e in cc)
spelled_two cs (t ∷ ts) e = refl

took_one : (octet : ℕ) (bytes after : List ℕ) (x : Digested × List ℕ) → octet ≡ 1 → bytes ≡ octet ∷ after → IsBytes after → made_from of_clients clients_at after ≡ Ok x → Taken digest_spelling FitsDigest bytes x
took_one octet bytes after x is parts fits e =
    let t = alone_law.takes after x fits e in
    let none = t.fits.1 in
    record {
      parts = parts ∙ (λ i. is i ∷ t.parts i) ∙ ap (λ ts. spelled x.0.clients ts ++ x.1) (sym none);
      rest = t.rest;
      fits = (t.fits.0, subst FitsTopics (sym none) no_topics);
    }

took_two : (octet : ℕ) (bytes after : List ℕ) (x : Digested × List ℕ) → octet ≡ 2 → bytes ≡ octet ∷ after → IsBytes after → made_from of_both (both clients_at retained_entries_at) after ≡ Ok x → Taken digest_spelling FitsDigest bytes x
took_two octet bytes after x is parts fits e =
    let t = two_law.takes after x fits e in
    record {
      parts = parts ∙ (λ i. is i ∷ t.parts i) ∙ ap (λ (z : List ℕ). z ++ x.1) (sym (spelled_two x.0.clients x.0.topics t.fits.1.1));
      rest = t.rest;
      fits = (t.fits.0, t.fits.1.0);
    }

abbrev by_version : ℕ × List ℕ → Result (Digested × List ℕ) OpsFault
by_version x = cond (x.0 == 1) (made_from of_clients clients_at x.1) (cond (x.0 == 2) (made_from of_both (both clients_at retained_entries_at) x.1) (Err faults.Version))

digest_takes : (bytes : List ℕ) (x : Digested × List ℕ) → IsBytes bytes → digest_at bytes ≡ Ok x → Taken digest_spelling FitsDigest bytes x
unfolding digest_at
digest_takes bytes x fits e =
    let b = bind_ok (octet_at bytes) by_version x e in
    let t = octet_law.takes bytes b.0 fits b.1 in
    elim (cases_Bool (b.0.0 == 1)) [
      | inl one ↦ (let read : made_from of_clients clients_at b.0.1 ≡ Ok x = rw one at b.2 in took_one b.0.0 bytes b.0.1 x (eqb-true _ _ one) t.parts t.rest read)
      | inr not_one ↦ (
          let next : cond (b.0.0 == 2) (made_from of_both (both clients_at retained_entries_at) b.0.1) (Err faults.Version) ≡ Ok x = rw not_one at b.2 in
          elim (cases_Bool (b.0.0 == 2)) [
            | inl two ↦ (let read : made_from of_both (both clients_at retained_entries_at) b.0.1 ≡ Ok x = rw two at next in took_two b.0.0 bytes b.0.1 x (eqb-true _ _ two) t.parts t.rest read)
            | inr neither ↦ absurd (let wrong : Err faults.Version ≡ Ok x = rw neither at next in cc)
          ])
    ]

again_in : (cs : List ClientEntry) (ts : List RetainedEntry) (rest : List ℕ) → FitsClients cs → FitsTopics ts → digest_at (spelled cs ts ++ rest) ≡ Ok (of_both (cs, ts), rest)
unfolding digest_at
again_in cs [] rest c t = alone_law.again (of_clients cs) rest (c, refl)
again_in cs (e ∷ ts) rest c t = two_law.again (of_both (cs, e ∷ ts)) rest (c, (t, some_more (length ts)))
  where
    some_more : (n : ℕ) → (suc n == 0) ≡ false
    some_more n = grind (arith, nat_tests)

version_stable : (octet : ℕ) (after more : List ℕ) → IsStable more (by_version (octet, after)) (by_version (octet, after ++ more))
version_stable octet after more =
    elim (cases_Bool (octet == 1)) [
      | inl one ↦ rw one (alone_law.stable after more)
      | inr not_one ↦ rw not_one (elim (cases_Bool (octet == 2)) [
        | inl two ↦ rw two (two_law.stable after more)
        | inr neither ↦ rw neither (inr refl)
      ])
    ]

pub digest_law : Law digest_at digest_spelling FitsDigest
unfolding digest_at
digest_law = record {
  takes = digest_takes;
  again = λ d rest h. again_in d.clients d.topics rest h.0 h.1;
  stable = λ bytes more. bind_stable more (octet_at bytes) (octet_at (bytes ++ more)) by_version (octet_law.stable bytes more) (λ x. version_stable x.0 x.1 more);
}

-- ---- no part is longer than the whole

pub clients_within : (cs : List ClientEntry) (ts : List RetainedEntry) → length (text_of One entry_octets cs) ≤ length (spelled cs ts)
clients_within cs [] = omega arith
clients_within cs (e ∷ ts) =
    let sum = length-append (text_of Two entry_octets cs) (topics_octets (e ∷ ts)) in
    omega (arith, sum)

pub topics_within : (cs : List ClientEntry) (ts : List RetainedEntry) → length (topics_octets ts) ≤ length (spelled cs ts)
topics_within cs [] = omega arith
topics_within cs (e ∷ ts) =
    let sum = length-append (text_of Two entry_octets cs) (topics_octets (e ∷ ts)) in
    omega (arith, sum)

pub fits_digest : (d : Digested) → IsDigest d → IsDigestWithinLimit d → FitsDigest d
fits_digest d h size =
    let front = clients_within d.clients d.topics in
    let back = topics_within d.clients d.topics in
    (fits_text d.clients h.clients (omega (arith, front, size)), fits_topics d.topics h.topics (omega (arith, back, size)))

-- ---- what is written has counts that fit

few_origin : (o : OriginEntry) → FitsOrigin o → HaveFewRanges o
few_origin o h = (h.0.1.0.0, h.0.1.1.0)

a_writable : (e : ClientEntry) → FitsEntry e → IsEntryWritable e
a_writable e h = record { origins = h.origins.0; ranges = each_weaker FitsOrigin HaveFewRanges few_origin e.origins h.origins.1 }

pub writable : (d : List ClientEntry) → AreClients d → length (text_of One entry_octets d) ≤ max_octets → AllByRecursion IsEntryWritable d
writable d h size = each_weaker FitsEntry IsEntryWritable a_writable d (fits_text d h size).fits

-- ---- the whole

-- what is read is a digest, written so
pub read_spelled : (bytes : List ℕ) (d : Digested) → AreOctets bytes → digest_reading bytes ≡ Ok d → IsDigest d × IsDigestWithinLimit d × (bytes ≡ digest_spelling d)
read_spelled bytes d octets e =
    let w = takes digest_at digest_spelling FitsDigest digest_law bytes d octets e in (
      record {
        clients = record { entries = some_entries d.clients w.1.0.fits w.1.0.ascending.0; ascend = w.1.0.ascending.1 };
        topics = record { entries = each_weaker FitsRetained IsRetained a_topic d.topics w.1.1.fits; ascend = w.1.1.ascending };
      },
      w.2,
      w.0,
    )

-- and what is written is read
pub read_again : (d : Digested) → IsDigest d → IsDigestWithinLimit d → digest_reading (digest_spelling d) ≡ Ok d
read_again d h size = again digest_at digest_spelling FitsDigest digest_law d (fits_digest d h size) size
