-- Where a topic stands in a table, and what a change at that place makes.
use Rattle.std.proofs.Common.{◌≡◌, ℕ, zero, suc, ◌+◌, ◌<◌, Bool, true, false, not, cond, if◌then◌else◌, List, [], ◌∷◌, length, drop, get_or, set, Option, Some, None, IsTrue, refl, sym, ap, ◌∙◌, subst, Ordering, Less, Equal, Greater, is_eq, is_lt, add-one, drop-cons, arith}
use Rattle.std.specs.List.{insert}
use Rattle.std.specs.Ordering.{ordering_reverse}
use Rattle.std.specs.Cmp.{IsTotalOrder}
use Rattle.std.proofs.lemmas.Slice.Eq.{bytes_eq-Decides}
use Rattle.sn_tables.specs.Tables.{is_ascending, with_entry, by_order}
use Rattle.sn_tables.specs.inner.Tables.{AllAbove, IsFoundAt, IsGap}
use Rattle.sn_tables.proofs.Ascending.{Ascends, from_test, to_test}
use Rattle.sn_tables.proofs.Places.{with_at, with_gap}
use Rattle.rep_op.specs.declared.op.Retained.{Retained}
use Rattle.rep_op.specs.declared.op.Op.{Op}
use Rattle.rep_op.specs.Orders.{topic_name_cmp, clock_of, clock_cmp}
use Rattle.rep_op.specs.Sets.{same_topic}
use Rattle.rep_model.proofs.Readers.{topic_total}
use Rattle.rep_retain.specs.Tables.{entry_cmp}
use Rattle.rep_retain.specs.inner.Tables.{by_topic, kept_in, latest_of, with_kept, with_op, with_ops}
use Rattle.rep_retain.proofs.Found.{entry_total, apart, tied, turned, ascends_op, ascends_ops}

-- a list from a place on
pub next_of : {A : Type 0} (xs : List A) (i : ℕ) (d : A) → i < length xs → drop i xs ≡ get_or xs i d ∷ drop (i + 1) xs
next_of xs i d h = rw (add-one, drop-cons xs i d) refl

turns : (e x : List ℕ × Retained) → entry_cmp e x ≡ ordering_reverse (by_topic e.0 x)
turns e x = topic_total.antisymm e.0 x.0

is_same : (t : List ℕ) (e : List ℕ × Retained) → by_topic t e ≡ Equal → same_topic t e.0 ≡ true
is_same t e h = (bytes_eq-Decides t e.0).1 (sym (tied e.0 t h))

is_other : (t : List ℕ) (e : List ℕ × Retained) (o : Ordering) → by_topic t e ≡ o → is_eq o ≡ false → same_topic t e.0 ≡ false
is_other t e o h differ = turned e.0 t (apart e.0 t o h differ)

-- what stands at its place is found
pub found : (t : List ℕ) (es : List (List ℕ × Retained)) (i : ℕ) (d : List ℕ × Retained) → IsFoundAt (by_topic t) es i → kept_in t es ≡ Some (get_or es i d).1
found t [] i d h = absurd h
found t (e ∷ es) zero d h = ap (λ b. if b then Some e.1 else kept_in t es) (is_same t e h.0)
found t (e ∷ es) (suc i) d h = ap (λ b. if b then Some e.1 else kept_in t es) (is_other t e Less h.0 refl) ∙ found t es i d h.1

none_above : (t : List ℕ) (es : List (List ℕ × Retained)) → AllAbove (by_topic t) es → kept_in t es ≡ None
none_above t [] h = refl
none_above t (e ∷ es) h = ap (λ b. if b then Some e.1 else kept_in t es) (is_other t e Greater h.0 refl) ∙ none_above t es h.1

-- and nothing where there is a gap
pub absent : (t : List ℕ) (es : List (List ℕ × Retained)) (i : ℕ) → IsGap (by_topic t) es i → kept_in t es ≡ None
absent t es zero h = none_above t es h
absent t [] (suc i) h = absurd h
absent t (e ∷ es) (suc i) h = ap (λ b. if b then Some e.1 else kept_in t es) (is_other t e Less h.0 refl) ∙ absent t es i h.1

-- the entry of a place, put into the table again
same_entry : (t : List ℕ) (es : List (List ℕ × Retained)) (i : ℕ) (d : List ℕ × Retained) → IsFoundAt (by_topic t) es i → with_entry entry_cmp (t, (get_or es i d).1) es ≡ es
same_entry t [] i d h = absurd h
same_entry t (e ∷ es) zero d h =
    ap (λ o. by_order o ((t, e.1) ∷ e ∷ es) ((t, e.1) ∷ es) (e ∷ with_entry entry_cmp (t, e.1) es)) (turns (t, e.1) e ∙ ap ordering_reverse h.0)
    ∙ ap (λ u. (u, e.1) ∷ es) (sym (tied e.0 t h.0))
same_entry t (e ∷ es) (suc i) d h =
    let own = (get_or es i d).1 in
    ap (λ o. by_order o ((t, own) ∷ e ∷ es) ((t, own) ∷ es) (e ∷ with_entry entry_cmp (t, own) es)) (turns (t, own) e ∙ ap ordering_reverse h.0)
    ∙ ap (λ rest. e ∷ rest) (same_entry t es i d h.1)

module _ (t : List ℕ) (k : Retained) (es : List (List ℕ × Retained)) (i : ℕ) where
  -- what stands there is later, or as late
  pub stays : (d : List ℕ × Retained) → IsFoundAt (by_topic t) es i → is_lt (clock_cmp (clock_of (get_or es i d).1) (clock_of k)) ≡ false → es ≡ with_kept t k es
  stays d h later =
      let own = (get_or es i d).1 in
      let latest : latest_of (kept_in t es) k ≡ own = ap (λ o. latest_of o k) (found t es i d h) ∙ ap (λ b. if b then k else own) later in
      sym (ap (λ v. with_entry entry_cmp (t, v) es) latest ∙ same_entry t es i d h)

  -- what stands there is outdone
  pub set_is : (d : List ℕ × Retained) → IsFoundAt (by_topic t) es i → is_lt (clock_cmp (clock_of (get_or es i d).1) (clock_of k)) ≡ true → set es i (t, k) ≡ with_kept t k es
  set_is d h later =
      let own = (get_or es i d).1 in
      let latest : latest_of (kept_in t es) k ≡ k = ap (λ o. latest_of o k) (found t es i d h) ∙ ap (λ b. if b then k else own) later in
      sym (with_at (by_topic t) entry_cmp (t, k) (turns (t, k)) es i h) ∙ ap (λ v. with_entry entry_cmp (t, v) es) (sym latest)

  -- nothing stands there
  pub insert_is : IsGap (by_topic t) es i → insert es i (t, k) ≡ with_kept t k es
  insert_is h =
      sym (with_gap (by_topic t) entry_cmp (t, k) (turns (t, k)) es i h)
      ∙ ap (λ v. with_entry entry_cmp (t, v) es) (sym (ap (λ o. latest_of o k) (absent t es i h)))

-- ---- order

pub ascending_op : (es : List (List ℕ × Retained)) (op : Op) → IsTrue (is_ascending entry_cmp es) → IsTrue (is_ascending entry_cmp (with_op es op))
ascending_op es op h = to_test entry_cmp (with_op es op) (ascends_op es op (from_test entry_cmp entry_total es h))

pub ascending_ops : (es : List (List ℕ × Retained)) (ops : List Op) → IsTrue (is_ascending entry_cmp es) → IsTrue (is_ascending entry_cmp (with_ops es ops))
ascending_ops es ops h = to_test entry_cmp (with_ops es ops) (ascends_ops es ops (from_test entry_cmp entry_total es h))
