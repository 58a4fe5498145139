-- Where what is acknowledged anew lies among messages in order.
use Rattle.std.proofs.Common.{◌≡◌, ℕ, zero, suc, ◌+◌, ◌-◌, ◌<◌, ◌≤◌, min, max, Bool, true, false, cond, ◌&&◌, ◌||◌, ◌==◌, nat_le, nat_lt, List, [], ◌∷◌, ◌++◌, map, take, drop, remove, length, get_or, filter, count_by, refl, sym, ap, ◌∙◌, arith, true≢false, length-append, length-drop, length-take-le, take-append-drop}
use Rattle.std.specs.List.{AllByRecursion, list_any}
use Rattle.std.specs.List.Sorted.{IsPartitionedBy}
use Rattle.std.proofs.lemmas.Bool.{and_parts, and_from, ltb-true, lt-ltb, leb-true, le-leb, false_from_ne_true}
use Rattle.std.proofs.lemmas.List.Elements.{filter-append}
use Rattle.std.proofs.lemmas.List.Sums.{length-filter}
use Rattle.rep_op.specs.declared.op.Put.{Put}
use Rattle.rep_op.specs.Orders.{name_of}
use Rattle.rep_model.proofs.Joins.{all-weaker}
use Rattle.rep_entry.specs.declared.span.Span.{Span}
use Rattle.rep_log.specs.Mail.{Range, covers, is_uncovered, Above, Rising, NoneCovered}
use Rattle.rep_entry.specs.Spans.{lies_in, IsFreeOutside, AreFreeOutside}
use Rattle.rep_entry.specs.inner.Mail.{left_from, widened}
use Rattle.rep_entry.proofs.Names.{not_after}
use Rattle.rep_entry.proofs.Counts.{left_all}

-- ---- numbers outside of a span

not_le : (a n : ℕ) → nat_lt n a ≡ true → nat_le a n ≡ false
not_le a n lt = false_from_ne_true (nat_le a n) (λ e. let x = ltb-true n a lt in let y = leb-true a n e in omega (arith, x, y))

and_none : (a b : Bool) → b ≡ false → (a && b) ≡ false
and_none true b e = e
and_none false b e = refl

pub before_span : (span : Span) (n : ℕ) → nat_lt n span.first ≡ true → lies_in span n ≡ false
before_span span n lt = ap (λ b. b && nat_le n span.last) (not_le span.first n lt)

pub behind_span : (span : Span) (n : ℕ) → nat_le n span.last ≡ false → lies_in span n ≡ false
behind_span span n above = and_none (nat_le span.first n) (nat_le n span.last) above

pub none_within : (span : Span) (n : ℕ) → span.last < span.first → lies_in span n ≡ false
none_within span n lt = false_from_ne_true (lies_in span n) (λ e.
    let p = and_parts (nat_le span.first n) (nat_le n span.last) e in
    let lo = leb-true span.first n p.0 in
    let hi = leb-true n span.last p.1 in
    omega (arith, lo, hi, lt))

-- what lies outside of a wider span lies outside of both
module _ (old : Span) (first last n : ℕ) (out : lies_in (widened old first last) n ≡ false) where
  pub outside_old : lies_in old n ≡ false
  outside_old = false_from_ne_true (lies_in old n) (λ e.
      let p = and_parts (nat_le old.first n) (nat_le n old.last) e in
      let lo = leb-true old.first n p.0 in
      let hi = leb-true n old.last p.1 in
      true≢false (sym (and_from (nat_le (min old.first first) n) (nat_le n (max old.last last)) (le-leb (min old.first first) n (omega (arith, lo))) (le-leb n (max old.last last) (omega (arith, hi)))) ∙ out))

  pub outside_more : (nat_le first n && nat_le n last) ≡ false
  outside_more = false_from_ne_true (nat_le first n && nat_le n last) (λ e.
      let p = and_parts (nat_le first n) (nat_le n last) e in
      let lo = leb-true first n p.0 in
      let hi = leb-true n last p.1 in
      true≢false (sym (and_from (nat_le (min old.first first) n) (nat_le n (max old.last last)) (le-leb (min old.first first) n (omega (arith, lo))) (le-leb n (max old.last last) (omega (arith, hi)))) ∙ out))

not_covered : (x u v : Bool) → (u && v) ≡ false → ((x && u) && v) ≡ false
not_covered true u v e = e
not_covered false u v e = refl

-- one range of acknowledged numbers more, and the span as wide
pub free_wider : (old : Span) (r : Range) (rs more : List Range) → ((q : ℕ × ℕ) → list_any (covers q) more ≡ (list_any (covers q) rs || covers q r)) → (p : Put) → IsFreeOutside old rs p → IsFreeOutside (widened old r.1.0 r.1.1) more p
free_wider old r rs more is p h out =
    let own = h (outside_old old r.1.0 r.1.1 p.seq out) in
    let new = not_covered (p.origin == r.0) (nat_le r.1.0 p.seq) (nat_le p.seq r.1.1) (outside_more old r.1.0 r.1.1 p.seq out) in
    is (name_of p) ∙ (λ i. own i || new i)

-- where nothing is acknowledged, nothing is outside of any span
pub free_anywhere : (span : Span) (rs : List Range) (ps : List Put) → NoneCovered rs ps → AreFreeOutside span rs ps
free_anywhere span rs ps h = all-weaker (λ p. list_any (covers (name_of p)) rs ≡ false) (IsFreeOutside span rs) (λ p e out. e) ps h

pub free_messages : (span : Span) (rs : List Range) (es : List ((ℕ × ℕ) × Put)) → AllByRecursion (λ (e : (ℕ × ℕ) × Put). IsFreeOutside span rs e.1) es → AreFreeOutside span rs (map (λ e. e.1) es)
free_messages span rs [] h = tt
free_messages span rs (e ∷ es) h = (h.0, free_messages span rs es h.1)

-- ---- a part of a list

module _ (P : Put → Type 0) where
  pub all_take : (ps : List Put) (at : ℕ) → ((j : ℕ) (d : Put) → j < at → P (get_or ps j d)) → AllByRecursion P (take at ps)
  all_take [] zero h = tt
  all_take [] (suc at) h = tt
  all_take (p ∷ ps) zero h = tt
  all_take (p ∷ ps) (suc at) h = (h zero p (omega arith), all_take ps at (λ j d lt. h (suc j) d (omega (arith, lt))))

  pub all_drop : (ps : List Put) (at : ℕ) → ((j : ℕ) (d : Put) → at ≤ j → j < length ps → P (get_or ps j d)) → AllByRecursion P (drop at ps)
  all_drop [] zero h = tt
  all_drop [] (suc at) h = tt
  all_drop (p ∷ ps) zero h = (h zero p (omega arith) (omega arith), all_drop ps zero (λ j d from lt. h (suc j) d (omega arith) (omega (arith, lt))))
  all_drop (p ∷ ps) (suc at) h = all_drop ps at (λ j d from lt. h (suc j) d (omega (arith, from)) (omega (arith, lt)))

  pub take_every : (ps : List Put) (at : ℕ) → AllByRecursion P ps → AllByRecursion P (take at ps)
  take_every [] zero h = tt
  take_every [] (suc at) h = tt
  take_every (p ∷ ps) zero h = tt
  take_every (p ∷ ps) (suc at) h = (h.0, take_every ps at h.1)

  pub drop_every : (ps : List Put) (at : ℕ) → AllByRecursion P ps → AllByRecursion P (drop at ps)
  drop_every [] zero h = tt
  drop_every [] (suc at) h = tt
  drop_every (p ∷ ps) zero h = h
  drop_every (p ∷ ps) (suc at) h = drop_every ps at h.1

pub rising_drop : (ps : List Put) (at : ℕ) → Rising ps → Rising (drop at ps)
rising_drop [] zero h = tt
rising_drop [] (suc at) h = tt
rising_drop (p ∷ ps) zero h = h
rising_drop (p ∷ ps) (suc at) h = rising_drop ps at h.1

-- messages whose numbers are outside, of which none is acknowledged there
pub free_there : (span : Span) (rs : List Range) (Q : Put → Type 0) → ((p : Put) → Q p → lies_in span p.seq ≡ false) → (ps : List Put) → AllByRecursion Q ps → AreFreeOutside span rs ps → NoneCovered rs ps
free_there span rs Q out [] t h = tt
free_there span rs Q out (p ∷ ps) t h = (h.0 (out p t.0), free_there span rs Q out ps t.1 h.1)

pub free_empty : (span : Span) (rs : List Range) → ((n : ℕ) → lies_in span n ≡ false) → (ps : List Put) → AreFreeOutside span rs ps → NoneCovered rs ps
free_empty span rs out ps h = all-weaker (IsFreeOutside span rs) (λ p. list_any (covers (name_of p)) rs ≡ false) (λ p free. free (out p.seq)) ps h

-- ---- in order, the numbers do not fall

seq_above : (p : Put) (ps : List Put) (j : ℕ) (d : Put) → Above p ps → j < length ps → p.seq ≤ (get_or ps j d).seq
seq_above p [] j d h lt = absurd (omega (arith, lt))
seq_above p (q ∷ ps) zero d h lt = not_after p.seq q.seq p.origin q.origin h.0
seq_above p (q ∷ ps) (suc j) d h lt = seq_above p ps j d h.1 (omega (arith, lt))

pub seqs_up : (ps : List Put) (i j : ℕ) (d : Put) → Rising ps → i ≤ j → j < length ps → (get_or ps i d).seq ≤ (get_or ps j d).seq
seqs_up [] i j d h le lt = absurd (omega (arith, lt))
seqs_up (p ∷ ps) zero zero d h le lt = omega arith
seqs_up (p ∷ ps) zero (suc j) d h le lt = seq_above p ps j d h.0 (omega (arith, lt))
seqs_up (p ∷ ps) (suc i) zero d h le lt = absurd (omega (arith, le))
seqs_up (p ∷ ps) (suc i) (suc j) d h le lt = seqs_up ps i j d h.1 (omega (arith, le)) (omega (arith, lt))

pub parted_below : (n : ℕ) (ps : List Put) → Rising ps → IsPartitionedBy (λ (p : Put). nat_lt p.seq n) ps
parted_below n ps h = λ i j d le lt e.
    let up = seqs_up ps i j d h le lt in
    let below = ltb-true (get_or ps j d).seq n e in
    lt-ltb (get_or ps i d).seq n (omega (arith, up, below))

pub parted_up_to : (n : ℕ) (ps : List Put) → Rising ps → IsPartitionedBy (λ (p : Put). nat_le p.seq n) ps
parted_up_to n ps h = λ i j d le lt e.
    let up = seqs_up ps i j d h le lt in
    let below = leb-true (get_or ps j d).seq n e in
    le-leb (get_or ps i d).seq n (omega (arith, up, below))

-- ---- what is left, where only a part is asked

module _ (rs : List Range) where
  pub left_none : (at : ℕ) (ps : List Put) → NoneCovered rs (drop at ps) → ps ≡ left_from rs at ps
  left_none at ps h = sym (ap (λ xs. take at ps ++ xs) (left_all rs (drop at ps) h) ∙ take-append-drop at ps)

  pub left_whole : (at : ℕ) (ps : List Put) → NoneCovered rs (take at ps) → left_from rs at ps ≡ filter (is_uncovered rs) ps
  left_whole at ps h = sym (ap (filter (is_uncovered rs)) (sym (take-append-drop at ps)) ∙ filter-append (is_uncovered rs) (take at ps) (drop at ps) ∙ ap (λ xs. xs ++ filter (is_uncovered rs) (drop at ps)) (left_all rs (take at ps) h))

  pub left_long : (at : ℕ) (ps : List Put) → at ≤ length ps → at ≤ length (left_from rs at ps)
  left_long at ps le = let both = length-append (take at ps) (filter (is_uncovered rs) (drop at ps)) in let front = length-take-le at ps le in omega (arith, both, front)

  -- the message at the place stays, or goes
  pub stays : (at : ℕ) (ps rest : List Put) (d : Put) → rest ≡ filter (is_uncovered rs) (drop (suc at) ps) → at < length ps → is_uncovered rs (get_or (take (suc at) ps ++ rest) at d) ≡ true → take (suc at) ps ++ rest ≡ left_from rs at ps
  stays at [] rest d is lt left = absurd (omega (arith, lt))
  stays zero (p ∷ ps) rest d is lt left = ap (λ xs. p ∷ xs) is ∙ ap (λ b. cond b (p ∷ filter (is_uncovered rs) ps) (filter (is_uncovered rs) ps)) (sym left)
  stays (suc at) (p ∷ ps) rest d is lt left = ap (λ xs. p ∷ xs) (stays at ps rest d is (omega (arith, lt)) left)

  pub goes : (at : ℕ) (ps rest : List Put) (d : Put) → rest ≡ filter (is_uncovered rs) (drop (suc at) ps) → at < length ps → is_uncovered rs (get_or (take (suc at) ps ++ rest) at d) ≡ false → remove (take (suc at) ps ++ rest) at ≡ left_from rs at ps
  goes at [] rest d is lt gone = absurd (omega (arith, lt))
  goes zero (p ∷ ps) rest d is lt gone = is ∙ ap (λ b. cond b (p ∷ filter (is_uncovered rs) ps) (filter (is_uncovered rs) ps)) (sym gone)
  goes (suc at) (p ∷ ps) rest d is lt gone = ap (λ xs. p ∷ xs) (goes at ps rest d is (omega (arith, lt)) gone)

  module _ (from count : ℕ) (ps : List Put) (front : NoneCovered rs (take from ps)) (back : NoneCovered rs (drop count (drop from ps))) where
    parts : filter (is_uncovered rs) ps ≡ take from ps ++ (filter (is_uncovered rs) (take count (drop from ps)) ++ drop count (drop from ps))
    parts =
        let rest = drop from ps in
        let second = ap (filter (is_uncovered rs)) (sym (take-append-drop count rest)) ∙ filter-append (is_uncovered rs) (take count rest) (drop count rest) ∙ ap (λ xs. filter (is_uncovered rs) (take count rest) ++ xs) (left_all rs (drop count rest) back) in
        ap (filter (is_uncovered rs)) (sym (take-append-drop from ps)) ∙ filter-append (is_uncovered rs) (take from ps) rest ∙ (λ i. left_all rs (take from ps) front i ++ second i)

    -- how many are left
    pub counted : from + count ≤ length ps → length ps - count + count_by (is_uncovered rs) (take count (drop from ps)) ≡ count_by (is_uncovered rs) ps
    counted le =
        let rest = drop from ps in
        let asked = take count rest in
        let all = sym (length-filter (is_uncovered rs) ps) ∙ ap length parts in
        let outer = length-append (take from ps) (filter (is_uncovered rs) asked ++ drop count rest) in
        let inner = length-append (filter (is_uncovered rs) asked) (drop count rest) in
        let mid = length-filter (is_uncovered rs) asked in
        let a = length-take-le from ps (omega (arith, le)) in
        let b = length-drop from ps in
        let d = length-drop count rest in
        omega (arith, le, all, outer, inner, mid, a, b, d)
