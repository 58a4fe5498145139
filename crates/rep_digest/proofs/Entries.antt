-- The readers of the entries of a digest.
use Rattle.std.proofs.Common.{◌≡◌, ℕ, ◌<◌, ◌^◌, true, false, ◌&&◌, ◌==◌, if◌then◌else◌, List, ◌∷◌, ◌++◌, Option, Some, None, refl, ap, ◌∙◌, arith, leb-true, le-leb, eqb-true, eq-eqb}
use Rattle.std.specs.Prelude.{nat_le}
use Rattle.std.specs.Int.{w16, w32, w64, to_be_bytes}
use Rattle.std.proofs.lemmas.Bool.{and_parts, and_from, ne_eqb, eqb-false}
use Rattle.rep_op.specs.ClientIds.{IsClientId}
use Rattle.rep_op.specs.declared.op.Stamp.{Stamp}
use Rattle.rep_read.specs.Reading.{both, made_from, ranged, octet_at, number_at, is_positive, client_id_at, topic_at, range_at}
use Rattle.sn_topic.specs.Topics.{IsName}
use Rattle.rep_op.specs.Sessions.{text_octets}
use Rattle.rep_op.specs.Spelling.{client_octets}
use Rattle.rep_read.proofs.Laws.{Law, both_law, made_law, ranged_law, same_law, octet_law, number_law, wide16, wide32, wide64}
use Rattle.rep_read.proofs.Fields.{one_octet, IsOctet, client_law, topic_law}
use Rattle.rep_read.proofs.Parts.{IsEight, eight_law, IsOne, one_law, two_law}
use Rattle.rep_read.proofs.Tables.{FitsCounted, counted_law}
use Rattle.rep_read.proofs.Operations.{range_text, FitsRange, range_law}
use Rattle.rep_digest.specs.declared.entry.OriginEntry.{OriginEntry}
use Rattle.rep_digest.specs.declared.entry.ClientEntry.{ClientEntry}
use Rattle.rep_digest.specs.declared.entry.RetainedEntry.{RetainedEntry}
use Rattle.rep_digest.specs.Digests.{has_ranges}
use Rattle.rep_digest.specs.WellMade.{IsRange, IsSeen}
use Rattle.rep_digest.specs.Spelling.{range_octets, ranges_octets, origin_octets, seen_octets, origins_octets, entry_octets, retained_entry_octets}
use Rattle.rep_digest.specs.Reading.{ranges_at, origin_of, origin_at, is_seen, stamp_from, seen_at, origins_at, client_entry_from, client_entry_at, retained_entry_from, retained_at}

-- ---- ranges

a_range : (r : ℕ × ℕ) → FitsRange r → (range_text r ≡ range_octets r) × IsRange r
a_range r h = (refl, record { first = leb-true 1 r.0 h.0.0.1; last = leb-true r.0 r.1 h.1; wide = h.0.1 })

of_range : (r : ℕ × ℕ) → IsRange r → FitsRange r
of_range r h = (((omega (arith, h.last, h.wide), le-leb 1 r.0 h.first), h.wide), le-leb r.0 r.1 h.last)

one_range_law : Law range_at range_octets IsRange
one_range_law = same_law range_at range_text FitsRange range_law range_octets IsRange a_range of_range

-- fewer than a number of four octets tells
abbrev pub IsFew : ℕ → Type 0
IsFew n = n < 2 ^ 32

abbrev pub FitsRanges : List (ℕ × ℕ) → Type 0
FitsRanges ranges = FitsCounted IsFew IsRange ranges

ranges_law : Law ranges_at ranges_octets FitsRanges
unfolding ranges_at
ranges_law = counted_law (number_at w32) w32 IsFew (number_law w32 (2 ^ 32) wide32) range_at range_octets IsRange one_range_law

-- ---- origins

abbrev FitsParts : OriginEntry → Type 0
FitsParts o = IsOne o.origin × (FitsRanges o.acknowledged × FitsRanges o.waiting)

abbrev pub FitsOrigin : OriginEntry → Type 0
FitsOrigin o = FitsParts o × (has_ranges o ≡ true)

parts_law : Law (made_from origin_of (both (ranged is_positive octet_at) (both ranges_at ranges_at))) origin_octets FitsParts
parts_law =
    made_law origin_of (both (ranged is_positive octet_at) (both ranges_at ranges_at)) _ _
    (both_law (ranged is_positive octet_at) one_octet IsOne one_law (both ranges_at ranges_at) _ _ (both_law ranges_at ranges_octets FitsRanges ranges_law ranges_at ranges_octets FitsRanges ranges_law))
    origin_octets FitsParts (λ x h. (refl, h)) (λ o h. ((o.origin, (o.acknowledged, o.waiting)), refl, h, refl))

origin_law : Law origin_at origin_octets FitsOrigin
unfolding origin_at
origin_law = ranged_law has_ranges (made_from origin_of (both (ranged is_positive octet_at) (both ranges_at ranges_at))) origin_octets FitsParts parts_law

abbrev IsShort : ℕ → Type 0
IsShort n = n < 2 ^ 16

abbrev pub FitsOrigins : List OriginEntry → Type 0
FitsOrigins origins = FitsCounted IsShort FitsOrigin origins

origins_law : Law origins_at origins_octets FitsOrigins
unfolding origins_at
origins_law = counted_law (number_at w16) w16 IsShort (number_law w16 (2 ^ 16) wide16) origin_at origin_octets FitsOrigin origin_law

-- ---- stamp and prefix

abbrev Numbers : Type 0
Numbers = ℕ × (ℕ × ℕ)

abbrev seen_text : Numbers → List ℕ
seen_text x = to_be_bytes w64 x.0 ++ (one_octet x.1.0 ++ to_be_bytes w16 x.1.1)

abbrev AreNumbers : Numbers → Type 0
AreNumbers x = (x.0 < 2 ^ 64) × (IsOctet x.1.0 × (x.1.1 < 2 ^ 16))

abbrev FitsSeen : Numbers → Type 0
FitsSeen x = AreNumbers x × (is_seen x ≡ true)

seen_law : Law seen_at seen_text FitsSeen
unfolding seen_at
seen_law =
    ranged_law is_seen (both (number_at w64) (both octet_at (number_at w16))) seen_text AreNumbers
    (both_law (number_at w64) (to_be_bytes w64) (λ n. n < 2 ^ 64) (number_law w64 (2 ^ 64) wide64)
    (both octet_at (number_at w16)) _ _ (both_law octet_at one_octet IsOctet octet_law (number_at w16) (to_be_bytes w16) (λ n. n < 2 ^ 16) two_law))

seen_over : (x : Numbers) → FitsSeen x → (seen_text x ≡ seen_octets (stamp_from x) x.1.1) × IsSeen (stamp_from x) x.1.1
seen_over x h =
    elim (x.0 == 0) as (λ b. (x.0 == 0) ≡ b → (if b then (x.1.0 == 0) && (x.1.1 == 0) else nat_le 1 x.1.0 && nat_le 1 x.1.1 && nat_le x.1.1 256) ≡ true
    → (seen_text x ≡ seen_octets (if b then None else Some (record { epoch = x.0; gateway = x.1.0 })) x.1.1) × IsSeen (if b then None else Some (record { epoch = x.0; gateway = x.1.0 })) x.1.1) [
      | true ↦ λ e t.
          let w = and_parts (x.1.0 == 0) (x.1.1 == 0) t in
          let epoch : x.0 ≡ 0 = eqb-true x.0 0 e in
          let gateway : x.1.0 ≡ 0 = eqb-true x.1.0 0 w.0 in
          ((λ i. to_be_bytes w64 (epoch i) ++ (gateway i ∷ to_be_bytes w16 x.1.1)), eqb-true x.1.1 0 w.1)
      | false ↦ λ e t.
          let w = and_parts _ _ t in
          let v = and_parts _ _ w.0 in
          let some = eqb-false x.0 0 e in
          (refl, (omega (arith, some), h.0.0, leb-true 1 x.1.0 v.0, h.0.1.0, leb-true 1 x.1.1 v.1, leb-true x.1.1 256 w.1))
    ] refl h.1

abbrev numbers_of : Option Stamp → ℕ → Numbers
numbers_of None prefix = (0, (0, prefix))
numbers_of (Some s) prefix = (s.epoch, (s.gateway, prefix))

record SeenBack (o : Option Stamp) (prefix : ℕ) : Type 0 where
  stamp : stamp_from (numbers_of o prefix) ≡ o
  prefix_is : (numbers_of o prefix).1.1 ≡ prefix
  fits : FitsSeen (numbers_of o prefix)
  text : seen_text (numbers_of o prefix) ≡ seen_octets o prefix

seen_back : (o : Option Stamp) (prefix : ℕ) → IsSeen o prefix → SeenBack o prefix
seen_back None prefix h = record {
  stamp = refl;
  prefix_is = refl;
  fits = ((omega arith, (omega arith, omega (arith, h))), eq-eqb prefix 0 h);
  text = refl;
}
seen_back (Some s) prefix h =
    let apart : (s.epoch == 0) ≡ false = ne_eqb s.epoch 0 (λ e. omega (arith, e, h.0)) in
    record {
      stamp = ap (λ b. if b then None else Some (record { epoch = s.epoch; gateway = s.gateway })) apart;
      prefix_is = refl;
      fits = (
        (h.1, (h.3, omega (arith, h.5))),
        ap (λ b. if b then (s.gateway == 0) && (prefix == 0) else nat_le 1 s.gateway && nat_le 1 prefix && nat_le prefix 256) apart
            ∙ and_from _ _ (and_from _ _ (le-leb 1 s.gateway h.2) (le-leb 1 prefix h.4)) (le-leb prefix 256 h.5),
      );
      text = refl;
    }

-- ---- entries

pub record FitsEntry (e : ClientEntry) : Type 0 where
  pub client : IsClientId e.client
  pub seen : IsSeen e.stamp e.prefix
  pub origins : FitsOrigins e.origins

abbrev EntryParts : Type 0
EntryParts = List ℕ × (Numbers × List OriginEntry)

abbrev entry_text : EntryParts → List ℕ
entry_text x = client_octets x.0 ++ (seen_text x.1.0 ++ origins_octets x.1.1)

abbrev FitsEntryParts : EntryParts → Type 0
FitsEntryParts x = IsClientId x.0 × (FitsSeen x.1.0 × FitsOrigins x.1.1)

entry_over : (x : EntryParts) → FitsEntryParts x → (entry_text x ≡ entry_octets (client_entry_from x)) × FitsEntry (client_entry_from x)
entry_over x h =
    let s = seen_over x.1.0 h.1.0 in
    (ap (λ (z : List ℕ). client_octets x.0 ++ (z ++ origins_octets x.1.1)) s.0, record { client = h.0; seen = s.1; origins = h.1.1 })

entry_back : (e : ClientEntry) → FitsEntry e → (x : EntryParts) × (client_entry_from x ≡ e) × FitsEntryParts x × (entry_text x ≡ entry_octets e)
entry_back e h =
    let b = seen_back e.stamp e.prefix h.seen in
    let x : EntryParts = (e.client, (numbers_of e.stamp e.prefix, e.origins)) in
    let same : client_entry_from x ≡ e = λ i. record { client = e.client; stamp = b.stamp i; prefix = b.prefix_is i; origins = e.origins } in
    (x, same, (h.client, (b.fits, h.origins)), ap (λ (z : List ℕ). client_octets e.client ++ (z ++ origins_octets e.origins)) b.text)

pub entry_law : Law client_entry_at entry_octets FitsEntry
unfolding client_entry_at
entry_law =
    made_law client_entry_from (both client_id_at (both seen_at origins_at)) entry_text FitsEntryParts
    (both_law client_id_at client_octets IsClientId client_law (both seen_at origins_at) _ _ (both_law seen_at seen_text FitsSeen seen_law origins_at origins_octets FitsOrigins origins_law))
    entry_octets FitsEntry entry_over entry_back

-- ---- topics

abbrev pub FitsRetained : RetainedEntry → Type 0
FitsRetained e = IsName e.topic × (IsEight e.clock × IsOne e.gateway)

pub retained_law : Law retained_at retained_entry_octets FitsRetained
unfolding retained_at
retained_law =
    made_law retained_entry_from (both topic_at (both (ranged is_positive (number_at w64)) (ranged is_positive octet_at))) _ _
    (both_law topic_at text_octets IsName topic_law (both (ranged is_positive (number_at w64)) (ranged is_positive octet_at)) _ _
    (both_law (ranged is_positive (number_at w64)) (to_be_bytes w64) IsEight eight_law (ranged is_positive octet_at) one_octet IsOne one_law))
    retained_entry_octets FitsRetained (λ x h. (refl, h)) (λ e h. ((e.topic, (e.clock, e.gateway)), refl, h, refl))
