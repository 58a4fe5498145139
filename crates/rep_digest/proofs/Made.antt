-- The digest of a set of operations that a delta may hold is a digest.
use Rattle.std.proofs.Common.{◌≡◌, ℕ, zero, suc, ◌+◌, ◌<◌, ◌≤◌, ◌^◌, true, false, cond, ◌||◌, if◌then◌else◌, nat_le, List, [], ◌∷◌, map, filter, length, Option, Some, None, is_some, IfSome, refl, sym, subst, ◌∙◌, arith, true≢false, leb-true, le-leb}
use Rattle.std.specs.Prelude.{IsTrue}
use Rattle.std.specs.List.{filter_map, AllByRecursion}
use Rattle.std.specs.List.Sorted.{IsStrictlySortedBy}
use Rattle.std.proofs.lemmas.Bool.{and_parts, and_from, or_left, or_right}
use Rattle.rep_op.specs.ClientIds.{IsClientId}
use Rattle.sn_session.specs.declared.change.SessionOp.{SessionOp}
use Rattle.rep_op.specs.declared.op.Stamp.{Stamp}
use Rattle.rep_op.specs.declared.op.Put.{Put}
use Rattle.rep_op.specs.declared.op.Op.{Op}
use Rattle.rep_op.specs.declared.op.Op.TheVariants.{Session as OfSession, Put as OfPut, Ack, Retain as OfRetain}
use Rattle.rep_op.specs.Orders.{client_cmp, operation_cmp, put_cmp, stamp_cmp}
use Rattle.rep_op.specs.Sets.{same_client, operation_of, operation_at, put_of, put_at, acknowledges, is_acknowledged}
use Rattle.rep_ops.specs.Making.{AreWellMade}
use Rattle.rep_op.specs.WellMade.{is_well_made}
use Rattle.rep_op.specs.Values.{AreValues, IsOpValue}
use Rattle.rep_model.specs.Views.{gapless, then_more, visible, history_at, history, pending, clients, names_client, is_named}
use Rattle.rep_model.specs.Limits.{acknowledged}
use Rattle.rep_model.specs.Ranges.{in_ranges, is_within, AreApartFrom, AreApart}
use Rattle.rep_model.proofs.Lookup.{find-all}
use Rattle.rep_model.proofs.Readers.{stamp_total, operation_exact, put_exact, same_client-true, takes, has_take}
use Rattle.rep_model.proofs.Joins.{all-moved as all_moved}
use Rattle.rep_model.proofs.Ranges.{apart-joined}
use Rattle.rep_model.proofs.Greatest.{has, greatest-has}
use Rattle.rep_model.proofs.Named.{clients-named, clients-ascend}
use Rattle.rep_model.proofs.Limits.{in-acknowledged, apart-acknowledged}
use Rattle.rep_digest.specs.Digests.{number_as_range, waiting, origin_entry, has_ranges, numbers_from, origin_entries, client_entry, client_entries, digest}
use Rattle.rep_digest.specs.WellMade.{IsRange, IsOriginEntry, IsSeen, IsDigestEntry, ClientsAscend, AreClients, IsDigest}
use Rattle.rep_digest.proofs.Waiting.{waiting_there}
use Rattle.rep_digest.proofs.Said.{are_numbers}
use Rattle.rep_digest.proofs.Occurring.{origins_up}
use Rattle.rep_digest.proofs.Retaining.{topics_made}

-- ---- what is found stands in the list

-- a stamp of 64 and 8 bits that begins at 1
abbrev IsStampValue : Stamp → Type 0
IsStampValue s = (1 ≤ s.epoch) × (s.epoch < 2 ^ 64) × (1 ≤ s.gateway) × (s.gateway < 2 ^ 8)

abbrev IsNumber : ℕ → Type 0
IsNumber n = (1 ≤ n) × (n < 2 ^ 64)

module _ (c : List ℕ) where
  one_stamp : (op : Op) → IsTrue (is_well_made op) → IsOpValue op → IfSome (operation_of c op) (λ e. IsStampValue e.0.0)
  one_stamp (OfSession d s i change) m v =
      let w = and_parts _ _ m in
      let x = and_parts _ _ w.0 in
      let y = and_parts (nat_le 1 s.epoch) (nat_le 1 s.gateway) x.0 in
      elim (same_client c d) as (λ b. IfSome {T = (Stamp × ℕ) × SessionOp} (if b then Some ((s, i), change) else None) (λ e. IsStampValue e.0.0)) [
        | true ↦ (leb-true 1 s.epoch y.0, v.1, leb-true 1 s.gateway y.1, v.2)
        | false ↦ tt
      ]
  one_stamp (OfPut d p) m v = tt
  one_stamp (Ack d o f l) m v = tt
  one_stamp (OfRetain t k) m v = tt

  one_put : (op : Op) → IsTrue (is_well_made op) → IsOpValue op → IfSome (put_of c op) (λ e. IsNumber e.0.0)
  one_put (OfSession d s i change) m v = tt
  one_put (OfPut d p) m v =
      let u = and_parts _ _ m in
      let w = and_parts _ _ u.0 in
      let y = and_parts (nat_le 1 p.origin) (nat_le 1 p.seq) w.0 in
      elim (same_client c d) as (λ b. IfSome {T = (ℕ × ℕ) × Put} (if b then Some ((p.seq, p.origin), p) else None) (λ e. IsNumber e.0.0)) [
        | true ↦ (leb-true 1 p.seq y.1, v.2)
        | false ↦ tt
      ]
  one_put (Ack d o f l) m v = tt
  one_put (OfRetain t k) m v = tt

  one_ack : (name : ℕ × ℕ) (op : Op) → IsTrue (is_well_made op) → IsOpValue op → acknowledges c name op ≡ true → IsNumber name.0
  one_ack name (OfSession d s i change) m v e = absurd (true≢false (sym e))
  one_ack name (OfPut d p) m v e = absurd (true≢false (sym e))
  one_ack name (OfRetain t k) m v e = absurd (true≢false (sym e))
  one_ack name (Ack d o f l) m v e =
      let w = and_parts _ (nat_le f l) m in
      let x = and_parts (nat_le 1 o) (nat_le 1 f) w.0 in
      let y = and_parts _ (nat_le name.0 l) e in
      let z = and_parts _ (nat_le f name.0) y.0 in
      let low = leb-true 1 f x.1 in
      let from = leb-true f name.0 z.1 in
      let upto = leb-true name.0 l y.1 in
      (omega (arith, low, from), omega (arith, upto, v.3))

paired : {A : Type 0} (P Q R : A → Type 0) → ((x : A) → P x → Q x → R x) → (xs : List A) → AllByRecursion P xs → AllByRecursion Q xs → AllByRecursion R xs
paired P Q R f [] p q = tt
paired P Q R f (x ∷ xs) p q = (f x p.0 q.0, paired P Q R f xs p.1 q.1)

found_value : {X : Type 0} (o : Option X) (P : Type 0) → IfSome o (λ _. P) → is_some o ≡ true → P
found_value None P h e = absurd (true≢false (sym e))
found_value (Some x) P h e = h

module _ (W : List Op) (made : AreWellMade W) (values : AreValues W) where
  stamp_there : (c : List ℕ) (name : Stamp × ℕ) → is_some (operation_at c W name) ≡ true → IsStampValue name.0
  stamp_there c name e = found_value (operation_at c W name) (IsStampValue name.0)
      (find-all operation_cmp operation_exact (operation_of c) (λ n _. IsStampValue n.0) W
      (paired (λ op. IsTrue (is_well_made op)) IsOpValue (λ op. IfSome (operation_of c op) (λ e. IsStampValue e.0.0)) (one_stamp c) W made values) name) e

  put_there : (c : List ℕ) (name : ℕ × ℕ) → is_some (put_at c W name) ≡ true → IsNumber name.0
  put_there c name e = found_value (put_at c W name) (IsNumber name.0)
      (find-all put_cmp put_exact (put_of c) (λ n _. IsNumber n.0) W
      (paired (λ op. IsTrue (is_well_made op)) IsOpValue (λ op. IfSome (put_of c op) (λ e. IsNumber e.0.0)) (one_put c) W made values) name) e

  ack_there : (c : List ℕ) (name : ℕ × ℕ) (V : List Op) → AreWellMade V → AreValues V → is_acknowledged c V name ≡ true → IsNumber name.0
  ack_there c name [] m v e = absurd (true≢false (sym e))
  ack_there c name (op ∷ V) m v e =
      elim (acknowledges c name op) as (λ b. acknowledges c name op ≡ b → (b || is_acknowledged c V name) ≡ true → IsNumber name.0) [
        | true ↦ λ is _. one_ack c name op m.0 v.0 is
        | false ↦ λ _ rest. ack_there c name V m.1 v.1 rest
      ] refl e

  apart-waiting : (c : List ℕ) (o : ℕ) → AreApart (waiting c o W)
  apart-waiting c o = apart-joined (filter_map (number_as_range o) (pending c W)) (are_numbers o (pending c W))

  -- ---- ranges

  -- ranges that are apart, of numbers that are values
  are_ranges : (c : List ℕ) (k : ℕ) (rs : List (ℕ × ℕ)) → AreApartFrom k rs → ((n : ℕ) → in_ranges n rs ≡ true → IsNumber n) → AllByRecursion IsRange rs
  are_ranges c k [] h each = tt
  are_ranges c k (r ∷ rs) h each =
      let low = each r.0 (or_left (is_within r.0 r) (in_ranges r.0 rs) (and_from (nat_le r.0 r.0) (nat_le r.0 r.1) (le-leb r.0 r.0 (omega arith)) (le-leb r.0 r.1 h.1))) in
      let high = each r.1 (or_left (is_within r.1 r) (in_ranges r.1 rs) (and_from (nat_le r.0 r.1) (nat_le r.1 r.1) (le-leb r.0 r.1 h.1) (le-leb r.1 r.1 (omega arith)))) in
      (record { first = low.0; last = h.1; wide = high.1 }, are_ranges c (r.1 + 2) rs h.2 (λ n e. each n (or_right (is_within n r) (in_ranges n rs) e)))

  an_origin : (c : List ℕ) (o : ℕ) → 1 ≤ o → o < 256 → has_ranges (origin_entry c W o) ≡ true → IsOriginEntry (origin_entry c W o)
  an_origin c o low high some = record {
    number = low;
    octet = high;
    some = some;
    acknowledged = (are_ranges c 0 (acknowledged c o W) (apart-acknowledged c o W) (λ n e. ack_there c (n, o) W made values (sym (in-acknowledged c o n W) ∙ e)), apart-acknowledged c o W);
    waiting = (are_ranges c 0 (waiting c o W) (apart-waiting c o) (λ n e. put_there c (n, o) (waiting_there c o n W e)), apart-waiting c o);
  }

  origins_made : (c : List ℕ) (start n : ℕ) → 1 ≤ start → start + n ≤ 256 → AllByRecursion IsOriginEntry (filter has_ranges (map (origin_entry c W) (numbers_from start n)))
  unfolding numbers_from
  origins_made c start zero low high = tt
  origins_made c start (suc n) low high =
      let rest = origins_made c (start + 1) n (omega (arith, low)) (omega (arith, high)) in
      elim (has_ranges (origin_entry c W start)) as (λ b. has_ranges (origin_entry c W start) ≡ b → AllByRecursion IsOriginEntry (cond b (origin_entry c W start ∷ filter has_ranges (map (origin_entry c W) (numbers_from (start + 1) n))) (filter has_ranges (map (origin_entry c W) (numbers_from (start + 1) n))))) [
        | true ↦ λ some. (an_origin c start low (omega (arith, high)) some, rest)
        | false ↦ λ _. rest
      ] refl

  -- ---- the entry of a client

  gapless_room : (at : ℕ → Option SessionOp) (room k : ℕ) → length (gapless at room k) ≤ room
  unfolding gapless
  gapless_room at zero k = omega arith
  gapless_room at (suc room) k =
      let rest = gapless_room at room (k + 1) in
      elim (at k) as (λ o. length (then_more o (gapless at room (k + 1))) ≤ suc room) [ None ↦ omega arith | Some x ↦ omega (arith, rest) ]

  first_there : (at : ℕ → Option SessionOp) → is_some (at 0) ≡ true → 1 ≤ length (gapless at 256 0)
  unfolding gapless
  first_there at = elim (at 0) as (λ o. is_some o ≡ true → 1 ≤ length (then_more o (gapless at 255 1))) [ None ↦ λ e. absurd (true≢false (sym e)) | Some x ↦ λ _. omega arith ]

  seen_made : (c : List ℕ) → IsSeen (visible c W) (length (history c W))
  seen_made c =
      elim (visible c W) as (λ v. IfSome v (λ s. has stamp_cmp s (takes c W) ≡ true) → IsSeen v (length (history_at (operation_at c W) v))) [
        | None ↦ λ _. refl
        | Some s ↦ λ h.
            let there = sym (has_take c W s) ∙ h in
            let v = stamp_there c (s, 0) there in
            (v.0, v.1, v.2, v.3, first_there (λ k. operation_at c W (s, k)) there, gapless_room (λ k. operation_at c W (s, k)) 256 0)
      ] (greatest-has stamp_cmp stamp_total (takes c W))

  client_made : (c : List ℕ) → is_named c W ≡ true → IsClientId c
  client_made c e = named_in c W values e
    where
      one : (c d : List ℕ) → same_client c d ≡ true → IsClientId d → IsClientId c
      one c d e h = subst IsClientId (sym (same_client-true c d e)) h

      client_value : (c : List ℕ) (op : Op) → IsOpValue op → names_client c op ≡ true → IsClientId c
      client_value c (OfSession d s i change) v e = one c d e v.0
      client_value c (OfPut d p) v e = one c d e v.0
      client_value c (Ack d o f l) v e = one c d (and_parts (same_client c d) (nat_le f l) e).0 v.0
      client_value c (OfRetain t k) v e = absurd (true≢false (sym e))

      named_in : (c : List ℕ) (V : List Op) → AreValues V → is_named c V ≡ true → IsClientId c
      named_in c [] v e = absurd (true≢false (sym e))
      named_in c (op ∷ V) v e =
          elim (names_client c op) as (λ b. names_client c op ≡ b → (b || is_named c V) ≡ true → IsClientId c) [
            | true ↦ λ is _. client_value c op v.0 is
            | false ↦ λ _ rest. named_in c V v.1 rest
          ] refl e

  entry_made : (c : List ℕ) → is_named c W ≡ true → IsDigestEntry (client_entry W c)
  unfolding origin_entries
  entry_made c named = record {
    client = client_made c named;
    seen = seen_made c;
    origins = origins_made c 1 255 (omega arith) (omega arith);
    ascend = (origins_up (origin_entry c W) (λ m. refl) 1 255).1;
  }

  entries_made : (cs : List (List ℕ)) → AllByRecursion (λ c. is_named c W ≡ true) cs → AllByRecursion IsDigestEntry (map (client_entry W) cs)
  entries_made [] h = tt
  entries_made (c ∷ cs) h = (entry_made c h.0, entries_made cs h.1)

  clients_up : (cs : List (List ℕ)) → IsStrictlySortedBy client_cmp cs → ClientsAscend (map (client_entry W) cs)
  unfolding IsStrictlySortedBy
  clients_up [] h = tt
  clients_up (c ∷ []) h = tt
  clients_up (c ∷ d ∷ cs) h = (h.0.0, clients_up (d ∷ cs) h.1)

  clients_made : AreClients (client_entries W)
  clients_made = record {
    entries = entries_made (clients W) (all_moved (λ c. is_named c W ≡ true) (clients W) (λ c there. (clients-named c W).1 there));
    ascend = clients_up (clients W) (clients-ascend W);
  }

  pub digest_made : IsDigest (digest W)
  digest_made = record { clients = clients_made; topics = topics_made W made values }
