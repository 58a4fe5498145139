-- What the steps of a draft come to.
use Rattle.std.proofs.Common.{◌≡◌, ℕ, zero, suc, ◌+◌, ◌<◌, ◌≤◌, ◌==◌, true, false, ◌&&◌, if◌then◌else◌, nat_le, List, [], ◌∷◌, ◌++◌, fold, length, get_or, set, Option, Some, None, refl, sym, ap, subst, ◌∙◌, arith, append-nil, le-leb, leb-true, eq-eqb, true≢false}
use Rattle.std.specs.Prelude.{nat_lt}
use Rattle.std.specs.List.{filter_map, cons_option, insert}
use Rattle.std.specs.Ordering.{nat_cmp}
use Rattle.std.proofs.lemmas.Bool.{or_left, or_right, lt-ltb, ne_eqb, and_from, and_parts}
use Rattle.std.proofs.lemmas.List.Elements.{filter_map-append}
use Rattle.std.proofs.lemmas.List.Sums.{fold-append}
use Rattle.sn_tables.specs.inner.Tables.{IsFoundAt, IsGap}
use Rattle.rep_op.specs.declared.op.Put.{Put}
use Rattle.rep_digest.specs.declared.groups.Acknowledged.{Acknowledged}
use Rattle.rep_digest.specs.declared.entry.OriginEntry.{OriginEntry}
use Rattle.rep_digest.specs.Digests.{has_ranges}
use Rattle.rep_digest.specs.WellMade.{OriginsAscend}
use Rattle.rep_digest.specs.inner.Steps.{numbers_of, seq_if_own, with_number, in_ranges_of, drafted, drafted_origins, AreDrafted}
use Rattle.rep_digest.proofs.Occurring.{silent, unchanged, at_place, at_gap, origins_up, none_listed}

-- ---- a number after the others

-- the first number
pub first_number : (rs new : List (ℕ × ℕ)) (n : ℕ) → length rs ≡ 0 → new ≡ rs ++ (n, n) ∷ [] → new ≡ with_number rs n
first_number [] new n none is = is
first_number (r ∷ rs) new n none is = absurd (omega (arith, none))

-- it touches the last range
pub joins_last : (rs new : List (ℕ × ℕ)) (at : ℕ) (r d : ℕ × ℕ) (n : ℕ) → suc at ≡ length rs → r ≡ get_or rs at d → (r.1 + 1 == n) ≡ true → new ≡ set rs at (r.0, n) → new ≡ with_number rs n
joins_last [] new at r d n size last touches is = absurd (omega (arith, size))
joins_last (s ∷ []) new zero r d n size last touches is =
    is ∙ ap (λ x. (x.0, n) ∷ []) last ∙ ap (λ b. if b then (s.0, n) ∷ [] else s ∷ (n, n) ∷ []) (sym touches ∙ ap (λ x. x.1 + 1 == n) last)
joins_last (s ∷ []) new (suc at) r d n size last touches is = absurd (omega (arith, size))
joins_last (s ∷ t ∷ rest) new zero r d n size last touches is = absurd (omega (arith, size))
joins_last (s ∷ t ∷ rest) new (suc at) r d n size last touches is =
    is ∙ ap (λ x. s ∷ x) (joins_last (t ∷ rest) (set (t ∷ rest) at (r.0, n)) at r d n (omega (arith, size)) last touches refl)

-- it does not
pub behind_last : (rs new : List (ℕ × ℕ)) (at : ℕ) (r d : ℕ × ℕ) (n : ℕ) → suc at ≡ length rs → r ≡ get_or rs at d → (r.1 + 1 == n) ≡ false → new ≡ rs ++ (n, n) ∷ [] → new ≡ with_number rs n
behind_last [] new at r d n size last apart is = absurd (omega (arith, size))
behind_last (s ∷ []) new zero r d n size last apart is =
    is ∙ ap (λ b. if b then (s.0, n) ∷ [] else s ∷ (n, n) ∷ []) (sym apart ∙ ap (λ x. x.1 + 1 == n) last)
behind_last (s ∷ []) new (suc at) r d n size last apart is = absurd (omega (arith, size))
behind_last (s ∷ t ∷ rest) new zero r d n size last apart is = absurd (omega (arith, size))
behind_last (s ∷ t ∷ rest) new (suc at) r d n size last apart is =
    is ∙ ap (λ x. s ∷ x) (behind_last (t ∷ rest) ((t ∷ rest) ++ (n, n) ∷ []) at r d n (omega (arith, size)) last apart refl)

-- ---- an acknowledgement more

some_behind : (xs : List (ℕ × ℕ)) (r : ℕ × ℕ) → nat_lt 0 (length (xs ++ r ∷ [])) ≡ true
some_behind [] r = refl
some_behind (x ∷ xs) r = lt-ltb 0 (suc (length (xs ++ r ∷ []))) (omega arith)

some_number : (rs : List (ℕ × ℕ)) (n : ℕ) → nat_lt 0 (length (with_number rs n)) ≡ true
some_number [] n = refl
some_number (r ∷ []) n = elim (r.1 + 1 == n) as (λ b. nat_lt 0 (length (if b then (r.0, n) ∷ [] else r ∷ (n, n) ∷ [])) ≡ true) [ true ↦ refl | false ↦ refl ]
some_number (r ∷ s ∷ rest) n = lt-ltb 0 (suc (length (with_number (s ∷ rest) n))) (omega arith)

abbrev pub IsGateway : ℕ → Type 0
IsGateway o = (1 ≤ o) × (o ≤ 255)

-- no gateway has the number
no_gateway : (o m : ℕ) → (nat_le 1 o && nat_le o 255) ≡ false → 1 ≤ m → m < 1 + 255 → m ≡ o → ⊥
no_gateway o m none low high is = true≢false (sym (and_from (nat_le 1 o) (nat_le o 255) (le-leb 1 o (omega (arith, low, is))) (le-leb o 255 (omega (arith, high, is)))) ∙ none)

module _ (A : List Acknowledged) (P : List Put) where
  pub ascend_drafted : OriginsAscend (drafted_origins A P)
  ascend_drafted = (origins_up (drafted A P) (λ m. refl) 1 255).1

  module _ (a : Acknowledged) where
    abbrev with_ack : ℕ → OriginEntry
    with_ack = drafted (A ++ a ∷ []) P

    numbers_with : (m : ℕ) (o : Option (ℕ × ℕ)) → numbers_of m a ≡ o → filter_map (numbers_of m) (A ++ a ∷ []) ≡ filter_map (numbers_of m) A ++ cons_option o []
    numbers_with m o e = filter_map-append (numbers_of m) A (a ∷ []) ∙ ap (λ x. filter_map (numbers_of m) A ++ cons_option x []) e

    ack_others : (m : ℕ) → (m ≡ a.origin → ⊥) → with_ack m ≡ drafted A P m
    ack_others m apart = λ i. record {
      origin = m;
      acknowledged = (numbers_with m None (ap (λ b. if b then Some (a.first, a.last) else None) (ne_eqb m a.origin apart)) ∙ append-nil (filter_map (numbers_of m) A)) i;
      waiting = in_ranges_of (filter_map (seq_if_own m) P);
    }

    -- the ranges of its origin
    ack_own : filter_map (numbers_of a.origin) (A ++ a ∷ []) ≡ filter_map (numbers_of a.origin) A ++ (a.first, a.last) ∷ []
    ack_own = numbers_with a.origin (Some (a.first, a.last)) (ap (λ b. if b then Some (a.first, a.last) else None) (eq-eqb a.origin a.origin refl))

    ack_some : has_ranges (with_ack a.origin) ≡ true
    ack_some = or_left (nat_lt 0 (length (filter_map (numbers_of a.origin) (A ++ a ∷ [])))) (nat_lt 0 (length (in_ranges_of (filter_map (seq_if_own a.origin) P))))
        (ap (λ (rs : List (ℕ × ℕ)). nat_lt 0 (length rs)) ack_own ∙ some_behind (filter_map (numbers_of a.origin) A) (a.first, a.last))

    pub ack_nowhere : (nat_le 1 a.origin && nat_le a.origin 255) ≡ false → drafted_origins (A ++ a ∷ []) P ≡ drafted_origins A P
    ack_nowhere none = unchanged a.origin (drafted A P) with_ack (λ m. refl) ack_others 1 255 (λ m low high. no_gateway a.origin m none low high)

    pub ack_at : (os : List OriginEntry) (at : ℕ) (e : OriginEntry) → IsGateway a.origin → os ≡ drafted_origins A P → IsFoundAt (λ o. nat_cmp o.origin a.origin) os at → e ≡ get_or os at e
        → set os at (record { origin = e.origin; acknowledged = e.acknowledged ++ (a.first, a.last) ∷ []; waiting = e.waiting }) ≡ drafted_origins (A ++ a ∷ []) P
    ack_at os at e gateway is there here =
        let r = at_place a.origin (drafted A P) with_ack (λ m. refl) ack_others ack_some 1 255 at e gateway.0 (omega (arith, gateway.1)) (subst (λ (x : List OriginEntry). IsFoundAt (λ o. nat_cmp o.origin a.origin) x at) is there) in
        let own : e ≡ drafted A P a.origin = here ∙ ap (λ (x : List OriginEntry). get_or x at e) is ∙ r.0 in
        (λ i. set (is i) at (record { origin = (own i).origin; acknowledged = (own i).acknowledged ++ (a.first, a.last) ∷ []; waiting = (own i).waiting }))
        ∙ (λ i. set (drafted_origins A P) at (record { origin = a.origin; acknowledged = sym ack_own i; waiting = in_ranges_of (filter_map (seq_if_own a.origin) P) }))
        ∙ sym r.1

    pub ack_gap : (os : List OriginEntry) (at : ℕ) → IsGateway a.origin → os ≡ drafted_origins A P → IsGap (λ o. nat_cmp o.origin a.origin) os at
        → insert os at (record { origin = a.origin; acknowledged = (a.first, a.last) ∷ []; waiting = [] }) ≡ drafted_origins (A ++ a ∷ []) P
    ack_gap os at gateway is there =
        let r = at_gap a.origin (drafted A P) with_ack (λ m. refl) ack_others ack_some 1 255 at gateway.0 (omega (arith, gateway.1)) (subst (λ (x : List OriginEntry). IsGap (λ o. nat_cmp o.origin a.origin) x at) is there) in
        let none = silent (drafted A P a.origin) r.0 in
        let acks : (a.first, a.last) ∷ [] ≡ filter_map (numbers_of a.origin) (A ++ a ∷ []) = ap (λ (rs : List (ℕ × ℕ)). rs ++ (a.first, a.last) ∷ []) (sym none.0) ∙ sym ack_own in
        (λ i. insert (is i) at (record { origin = a.origin; acknowledged = acks i; waiting = sym none.1 i })) ∙ sym r.1

  -- ---- a message more

  module _ (p : Put) where
    abbrev with_put : ℕ → OriginEntry
    with_put = drafted A (P ++ p ∷ [])

    ranges_with : (m : ℕ) (o : Option ℕ) → seq_if_own m p ≡ o → in_ranges_of (filter_map (seq_if_own m) (P ++ p ∷ [])) ≡ fold with_number (in_ranges_of (filter_map (seq_if_own m) P)) (cons_option o [])
    ranges_with m o e =
        ap in_ranges_of (filter_map-append (seq_if_own m) P (p ∷ []) ∙ ap (λ x. filter_map (seq_if_own m) P ++ cons_option x []) e)
        ∙ fold-append with_number [] (filter_map (seq_if_own m) P) (cons_option o [])

    put_others : (m : ℕ) → (m ≡ p.origin → ⊥) → with_put m ≡ drafted A P m
    put_others m apart = λ i. record {
      origin = m;
      acknowledged = filter_map (numbers_of m) A;
      waiting = ranges_with m None (ap (λ b. if b then Some p.seq else None) (ne_eqb m p.origin apart)) i;
    }

    put_own : in_ranges_of (filter_map (seq_if_own p.origin) (P ++ p ∷ [])) ≡ with_number (in_ranges_of (filter_map (seq_if_own p.origin) P)) p.seq
    put_own = ranges_with p.origin (Some p.seq) (ap (λ b. if b then Some p.seq else None) (eq-eqb p.origin p.origin refl))

    put_some : has_ranges (with_put p.origin) ≡ true
    put_some = or_right (nat_lt 0 (length (filter_map (numbers_of p.origin) A))) (nat_lt 0 (length (in_ranges_of (filter_map (seq_if_own p.origin) (P ++ p ∷ [])))))
        (ap (λ (rs : List (ℕ × ℕ)). nat_lt 0 (length rs)) put_own ∙ some_number (in_ranges_of (filter_map (seq_if_own p.origin) P)) p.seq)

    pub put_nowhere : (nat_le 1 p.origin && nat_le p.origin 255) ≡ false → drafted_origins A (P ++ p ∷ []) ≡ drafted_origins A P
    put_nowhere none = unchanged p.origin (drafted A P) with_put (λ m. refl) put_others 1 255 (λ m low high. no_gateway p.origin m none low high)

    pub put_at : (os : List OriginEntry) (at : ℕ) (e : OriginEntry) (waiting : List (ℕ × ℕ)) → IsGateway p.origin → os ≡ drafted_origins A P → IsFoundAt (λ o. nat_cmp o.origin p.origin) os at → e ≡ get_or os at e
        → waiting ≡ with_number e.waiting p.seq → set os at (record { origin = e.origin; acknowledged = e.acknowledged; waiting = waiting }) ≡ drafted_origins A (P ++ p ∷ [])
    put_at os at e waiting gateway is there here more =
        let r = at_place p.origin (drafted A P) with_put (λ m. refl) put_others put_some 1 255 at e gateway.0 (omega (arith, gateway.1)) (subst (λ (x : List OriginEntry). IsFoundAt (λ o. nat_cmp o.origin p.origin) x at) is there) in
        let own : e ≡ drafted A P p.origin = here ∙ ap (λ (x : List OriginEntry). get_or x at e) is ∙ r.0 in
        (λ i. set (is i) at (record { origin = (own i).origin; acknowledged = (own i).acknowledged; waiting = (more ∙ ap (λ (x : OriginEntry). with_number x.waiting p.seq) own ∙ sym put_own) i }))
        ∙ sym r.1

    pub put_gap : (os : List OriginEntry) (at : ℕ) → IsGateway p.origin → os ≡ drafted_origins A P → IsGap (λ o. nat_cmp o.origin p.origin) os at
        → insert os at (record { origin = p.origin; acknowledged = []; waiting = (p.seq, p.seq) ∷ [] }) ≡ drafted_origins A (P ++ p ∷ [])
    put_gap os at gateway is there =
        let r = at_gap p.origin (drafted A P) with_put (λ m. refl) put_others put_some 1 255 at gateway.0 (omega (arith, gateway.1)) (subst (λ (x : List OriginEntry). IsGap (λ o. nat_cmp o.origin p.origin) x at) is there) in
        let none = silent (drafted A P p.origin) r.0 in
        let waits : (p.seq, p.seq) ∷ [] ≡ in_ranges_of (filter_map (seq_if_own p.origin) (P ++ p ∷ [])) = ap (λ (rs : List (ℕ × ℕ)). with_number rs p.seq) (sym none.1) ∙ sym put_own in
        (λ i. insert (is i) at (record { origin = p.origin; acknowledged = sym none.0 i; waiting = waits i })) ∙ sym r.1

-- ---- nothing yet

pub drafted_none : [] ≡ drafted_origins [] []
drafted_none = sym (none_listed (drafted [] []) (λ m. refl) (λ m. refl) 1 255)

pub ascend_from : (os : List OriginEntry) → AreDrafted os → OriginsAscend os
ascend_from os d = subst OriginsAscend (sym d.2) (ascend_drafted d.0 d.1)

pub gateway : (o : ℕ) → (nat_le 1 o && nat_le o 255) ≡ true → IsGateway o
gateway o e = let w = and_parts (nat_le 1 o) (nat_le o 255) e in (leb-true 1 o w.0, leb-true o 255 w.1)
