-- where an entry stands in a table, or would go
use Rattle.std.proofs.Common.{◌≡◌, ℕ, zero, suc, ◌<◌, ◌≤◌, Bool, true, false, not, cond, List, [], ◌∷◌, IsTrue, length, length-set, get_or, set, Some, None, Result, Ok, Err, refl, sym, ap, subst, ◌∙◌, add-one, arith}
use Rattle.std.specs.declared.cmp.Ordering.{Ordering}
use Rattle.std.specs.declared.cmp.Ordering.TheVariants.{Less, Equal, Greater}
use Rattle.std.specs.Ordering.{is_lt, ordering_reverse, ordering_index}
use Rattle.std.specs.Cmp.{IsTotalOrder, alike_right, on_total}
use Rattle.std.specs.List.{AllByRecursion, filter, find, insert, remove}
use Rattle.std.specs.List.Sorted.{IsSearchInRange, IsBinarySearchResult, IsNonDecreasingBy}
use Rattle.std.proofs.lemmas.List.Sorted.{searchable_from_sorted}
use Rattle.std.proofs.lemmas.List.Edits.{length-insert}
use Rattle.sn_tables.specs.Tables.{is_ascending, with_entry, IsTable}
use Rattle.sn_tables.specs.inner.Tables.{AllAbove, IsFoundAt, IsGap, IsPlace}
use Rattle.sn_tables.proofs.Ascending.{Ascends, all_weaker, from_test, to_test, ascends_with, ascends_filter}

-- neighbours of a list that ascends do not go down
not_down : {E : Type 0} (cmp : E → E → Ordering) (total : IsTotalOrder cmp) (x y : E) → cmp x y ≡ Less → is_lt (cmp y x) ≡ false
not_down cmp total x y h = ap is_lt (total.antisymm y x ∙ ap ordering_reverse h)

neighbours : {E : Type 0} (cmp : E → E → Ordering) (total : IsTotalOrder cmp) (xs : List E) → Ascends cmp xs → (k : ℕ) (d : E) → suc k < length xs → is_lt (cmp (get_or xs (suc k) d) (get_or xs k d)) ≡ false
neighbours cmp total [] h k d lt = absurd (omega arith)
neighbours cmp total (x ∷ []) h k d lt = absurd (omega arith)
neighbours cmp total (x ∷ y ∷ rest) h zero d lt = not_down cmp total x y h.0.0
neighbours cmp total (x ∷ y ∷ rest) h (suc k) d lt = neighbours cmp total (y ∷ rest) h.1 k d (omega arith)

module _ {E : Type 0} (sought : E → Ordering) where
  -- entries that are above by place are above
  all_above : (xs : List E) → ((j : ℕ) (d : E) → j < length xs → sought (get_or xs j d) ≡ Greater) → AllAbove sought xs
  all_above [] h = tt
  all_above (x ∷ xs) h = (h zero x (omega arith), all_above xs (λ j d lt. h (suc j) d (omega arith)))

  -- where entries are below up to a place and above from it on, the place is a gap
  pub gap_from : (xs : List E) (i : ℕ) → i ≤ length xs → ((j : ℕ) (d : E) → j < i → sought (get_or xs j d) ≡ Less) → ((j : ℕ) (d : E) → i ≤ j → j < length xs → sought (get_or xs j d) ≡ Greater) → IsGap sought xs i
  gap_from xs zero le below above = all_above xs (λ j d lt. above j d (omega arith) lt)
  gap_from [] (suc i) le below above = absurd (omega arith)
  gap_from (x ∷ xs) (suc i) le below above =
      (below zero x (omega arith), gap_from xs i (omega arith) (λ j d lt. below (suc j) d (omega arith)) (λ j d le lt. above (suc j) d (omega arith) (omega arith)))

  -- the place is one of the list
  pub at_within : (xs : List E) (i : ℕ) → IsFoundAt sought xs i → i < length xs
  at_within [] i h = absurd h
  at_within (x ∷ xs) zero h = omega arith
  at_within (x ∷ xs) (suc i) h = let lt = at_within xs i h.1 in omega arith

  -- what stands there is what is sought
  pub at_equal : (xs : List E) (i : ℕ) (d : E) → IsFoundAt sought xs i → sought (get_or xs i d) ≡ Equal
  at_equal [] i d h = absurd h
  at_equal (x ∷ xs) zero d h = h.0
  at_equal (x ∷ xs) (suc i) d h = at_equal xs i d h.1

  -- a test that passes what is sought and nothing else
  module _ (test : E → Bool) (passes : (x : E) → sought x ≡ Equal → test x ≡ true) (below : (x : E) → sought x ≡ Less → test x ≡ false) (above : (x : E) → sought x ≡ Greater → test x ≡ false) where
    -- what is above is not found
    find_above : (xs : List E) → AllAbove sought xs → find test xs ≡ None
    find_above [] h = refl
    find_above (x ∷ xs) h = rw (above x h.0) (find_above xs h.1)

    -- what is above is kept
    keep_above : (xs : List E) → AllAbove sought xs → filter (λ x. not (test x)) xs ≡ xs
    keep_above [] h = refl
    keep_above (x ∷ xs) h = rw (above x h.0) (ap (λ rest. x ∷ rest) (keep_above xs h.1))

    -- it is found at its place
    pub find_at : (xs : List E) (i : ℕ) (d : E) → IsFoundAt sought xs i → find test xs ≡ Some (get_or xs i d)
    find_at [] i d h = absurd h
    find_at (x ∷ xs) zero d h = rw (passes x h.0) refl
    find_at (x ∷ xs) (suc i) d h = rw (below x h.0) (find_at xs i d h.1)

    -- it is not found where there is a gap
    pub find_gap : (xs : List E) (i : ℕ) → IsGap sought xs i → find test xs ≡ None
    find_gap xs zero h = find_above xs h
    find_gap [] (suc i) h = absurd h
    find_gap (x ∷ xs) (suc i) h = rw (below x h.0) (find_gap xs i h.1)

    -- taking it away
    pub without_at : (xs : List E) (i : ℕ) → IsFoundAt sought xs i → filter (λ x. not (test x)) xs ≡ remove xs i
    without_at [] i h = absurd h
    without_at (x ∷ xs) zero h = rw (passes x h.0) (keep_above xs h.1)
    without_at (x ∷ xs) (suc i) h = rw (below x h.0) (ap (λ rest. x ∷ rest) (without_at xs i h.1))

    -- nothing to take away
    pub without_gap : (xs : List E) (i : ℕ) → IsGap sought xs i → filter (λ x. not (test x)) xs ≡ xs
    without_gap xs zero h = keep_above xs h
    without_gap [] (suc i) h = absurd h
    without_gap (x ∷ xs) (suc i) h = rw (below x h.0) (ap (λ rest. x ∷ rest) (without_gap xs i h.1))

  -- setting an entry e, when each entry is compared with it
  module _ (cmp : E → E → Ordering) (e : E) (turns : (x : E) → cmp e x ≡ ordering_reverse (sought x)) where
    -- in its place
    pub with_at : (xs : List E) (i : ℕ) → IsFoundAt sought xs i → with_entry cmp e xs ≡ set xs i e
    with_at [] i h = absurd h
    with_at (x ∷ xs) zero h = rw (turns x ∙ ap ordering_reverse h.0) refl
    with_at (x ∷ xs) (suc i) h = rw (turns x ∙ ap ordering_reverse h.0) (ap (λ rest. x ∷ rest) (with_at xs i h.1))

    -- or in the gap for it
    pub with_gap : (xs : List E) (i : ℕ) → IsGap sought xs i → with_entry cmp e xs ≡ insert xs i e
    with_gap [] zero h = refl
    with_gap (x ∷ xs) zero h = rw (turns x ∙ ap ordering_reverse h.0) refl
    with_gap [] (suc i) h = absurd h
    with_gap (x ∷ xs) (suc i) h = rw (turns x ∙ ap ordering_reverse h.0) (ap (λ rest. x ∷ rest) (with_gap xs i h.1))

module _ {E K : Type 0} (key : E → K) (R : K → K → Ordering) (total : IsTotalOrder R) (k : K) where
  -- what comes after what is sought is above it
  after : (x : E) → R (key x) k ≡ Equal → (y : E) → R (key x) (key y) ≡ Less → R (key y) k ≡ Greater
  after x here y below = total.antisymm (key y) k ∙ ap ordering_reverse (sym (total.congr (key x) k (key y) here) ∙ below)

  -- what comes before what is sought is below it
  before : (x y : E) → R (key x) (key y) ≡ Less → R (key y) k ≡ Equal → R (key x) k ≡ Less
  before x y below here = sym (alike_right total (key y) k (key x) here) ∙ below

  -- all later entries are above the first, by place
  later : (P : E → Type 0) (xs : List E) (i : ℕ) (d : E) → i < length xs → AllByRecursion P xs → P (get_or xs i d)
  later P [] i d lt h = absurd (omega arith)
  later P (x ∷ xs) zero d lt h = h.0
  later P (x ∷ xs) (suc i) d lt h = later P xs i d (omega arith) h.1

  -- an entry with the key in a list that ascends
  pub at_from : (xs : List E) (i : ℕ) → Ascends (λ x y. R (key x) (key y)) xs → i < length xs → ((d : E) → R (key (get_or xs i d)) k ≡ Equal) → IsFoundAt (λ x. R (key x) k) xs i
  at_from [] i up lt here = absurd (omega arith)
  at_from (x ∷ xs) zero up lt here = (here x, all_weaker (λ y. R (key x) (key y) ≡ Less) (λ y. R (key y) k ≡ Greater) (λ y below. after x (here x) y below) xs up.0)
  at_from (x ∷ xs) (suc i) up lt here =
      (before x (get_or xs i x) (later (λ y. R (key x) (key y) ≡ Less) xs i x (omega arith) up.0) (here x), at_from xs i up.1 (omega arith) (λ d. here d))

  -- comparisons with the key rise along a list that ascends, as a binary search asks
  rising : (xs : List E) → Ascends (λ x y. R (key x) (key y)) xs → IsNonDecreasingBy (λ x. ordering_index (R (key x) k)) xs
  rising xs up = searchable_from_sorted total key xs k (λ i d low lt. rw add-one (neighbours (λ x y. R (key x) (key y)) (on_total key total) xs up i d (omega arith)))

  -- a binary search ends at the entry, or at the gap for it
  pub placed : (xs : List E) → Ascends (λ x y. R (key x) (key y)) xs → (r : Result ℕ ℕ) → IsSearchInRange r (length xs) → IsBinarySearchResult (λ x. R (key x) k) xs r → IsPlace (λ x. R (key x) k) xs r
  placed xs up (Ok at) lt found = (lt, at_from xs at up lt found)
  placed xs up (Err at) le parted =
      let parts = parted (rising xs up) in
      (le, gap_from (λ x. R (key x) k) xs at le (λ j d lt. parts.0 j d (omega arith) lt) (λ j d from lt. parts.1 j d from lt))

module _ {E : Type 0} (cmp : E → E → Ordering) (total : IsTotalOrder cmp) where
  -- the table with an entry is a table, where there is room for it
  table_with : (e : E) (xs ys : List E) → IsTrue (is_ascending cmp xs) → ys ≡ with_entry cmp e xs → length ys ≤ 256 → IsTable cmp ys
  table_with e xs ys up is le =
      (subst (λ l. is_ascending cmp l ≡ true) (sym is) (to_test cmp (with_entry cmp e xs) (ascends_with cmp total e xs (from_test cmp total xs up))), le)

  -- a write over the entry of the same place
  pub table_set : (sought : E → Ordering) (e : E) → ((x : E) → cmp e x ≡ ordering_reverse (sought x)) → (xs : List E) (i : ℕ) → IsTable cmp xs → IsFoundAt sought xs i → IsTable cmp (set xs i e)
  table_set sought e turns xs i table at = table_with e xs (set xs i e) table.0 (sym (with_at sought cmp e turns xs i at)) (let same = length-set xs i e in omega (arith, table.1))

  -- an entry put into the gap for it
  pub table_insert : (sought : E → Ordering) (e : E) → ((x : E) → cmp e x ≡ ordering_reverse (sought x)) → (xs : List E) (i : ℕ) → IsTable cmp xs → i ≤ length xs → length xs < 256 → IsGap sought xs i → IsTable cmp (insert xs i e)
  table_insert sought e turns xs i table le room gap = table_with e xs (insert xs i e) table.0 (sym (with_gap sought cmp e turns xs i gap)) (let more = length-insert xs i e le in omega arith)

  -- some entries are no more than all
  length_filter : (keeps : E → Bool) (xs : List E) → length (filter keeps xs) ≤ length xs
  length_filter keeps [] = omega arith
  length_filter keeps (x ∷ xs) =
      let rest : length (filter keeps xs) ≤ length xs = length_filter keeps xs in
      elim (keeps x) as (λ b. length (cond b (x ∷ filter keeps xs) (filter keeps xs)) ≤ suc (length xs)) [ true ↦ omega arith | false ↦ omega arith ]

  -- some entries of a table
  pub table_filter : (keeps : E → Bool) (xs : List E) → IsTable cmp xs → IsTable cmp (filter keeps xs)
  table_filter keeps xs table = (to_test cmp (filter keeps xs) (ascends_filter cmp keeps xs (from_test cmp total xs table.0)), (let le = length_filter keeps xs in omega (arith, le, table.1)))
