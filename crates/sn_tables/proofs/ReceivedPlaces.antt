-- what a search among message ids finds, and what a change at that place makes
use Rattle.std.proofs.Common.{◌≡◌, ℕ, zero, suc, ◌<◌, ◌≤◌, ◌==◌, true, false, not, List, [], ◌∷◌, length, Result, Ok, Err, is_ok, refl, sym, ap, ◌∙◌}
use Rattle.std.specs.declared.cmp.Ordering.{Ordering}
use Rattle.std.specs.declared.cmp.Ordering.TheVariants.{Equal}
use Rattle.std.specs.Ordering.{nat_cmp, ordering_reverse}
use Rattle.std.specs.Cmp.{nat_cmp_total}
use Rattle.std.specs.List.{insert, remove}
use Rattle.std.proofs.lemmas.Cmp.{ranked}
use Rattle.sn_tables.specs.Tables.{IsTable}
use Rattle.sn_tables.specs.inner.Tables.{IsFoundAt, IsGap, IsPlace, AllAbove}
use Rattle.sn_tables.specs.Received.{with_received, without_received, is_received, id_has_no_room}
use Rattle.sn_tables.proofs.Numbers.{tied, lower, higher, room_left}
use Rattle.sn_tables.proofs.Places.{with_gap, table_insert, table_filter, without_at, without_gap}

-- how each id compares with one
abbrev pub by_number : ℕ → ℕ → Ordering
by_number id n = nat_cmp n id

turns : (e x : ℕ) → nat_cmp e x ≡ ordering_reverse (by_number e x)
turns e x = nat_cmp_total.antisymm e x

module _ (id : ℕ) where
  pub there : (xs : List ℕ) (i : ℕ) → IsFoundAt (by_number id) xs i → is_received id xs ≡ true
  there [] i h = absurd h
  there (x ∷ xs) zero h = rw (tied x id h.0) refl
  there (x ∷ xs) (suc i) h = rw (lower x id h.0) (there xs i h.1)

  none_above : (xs : List ℕ) → AllAbove (by_number id) xs → is_received id xs ≡ false
  none_above [] h = refl
  none_above (x ∷ xs) h = rw (higher x id h.0) (none_above xs h.1)

  pub not_there : (xs : List ℕ) (i : ℕ) → IsGap (by_number id) xs i → is_received id xs ≡ false
  not_there xs zero h = none_above xs h
  not_there [] (suc i) h = absurd h
  not_there (x ∷ xs) (suc i) h = rw (lower x id h.0) (not_there xs i h.1)

  -- a search answers whether it is there
  pub answers : (xs : List ℕ) (r : Result ℕ ℕ) → IsPlace (by_number id) xs r → is_ok r ≡ is_received id xs
  answers xs (Ok i) h = sym (there xs i h.1)
  answers xs (Err i) h = sym (not_there xs i h.1)

  -- adding one that is there
  pub with_there : (xs : List ℕ) (i : ℕ) → IsFoundAt (by_number id) xs i → with_received id xs ≡ xs
  with_there [] i h = absurd h
  with_there (x ∷ xs) zero h = rw (turns id x ∙ ap ordering_reverse h.0) (ap (λ n. n ∷ xs) (sym (ranked x id Equal (sym h.0))))
  with_there (x ∷ xs) (suc i) h = rw (turns id x ∙ ap ordering_reverse h.0) (ap (λ rest. x ∷ rest) (with_there xs i h.1))

  module _ (xs : List ℕ) (i : ℕ) where
    -- a gap in a table that has room for the id
    pub room : IsGap (by_number id) xs i → id_has_no_room id xs ≡ false → length xs < 256
    room h free = room_left (length xs) (not (is_received id xs)) free (ap not (not_there xs i h))

    pub insert_is : IsGap (by_number id) xs i → insert xs i id ≡ with_received id xs
    insert_is h = sym (with_gap (by_number id) nat_cmp id (turns id) xs i h)

    pub insert_table : IsTable nat_cmp xs → i ≤ length xs → length xs < 256 → IsGap (by_number id) xs i → IsTable nat_cmp (insert xs i id)
    insert_table table le room h = table_insert nat_cmp nat_cmp_total (by_number id) id (turns id) xs i table le room h

    pub remove_is : IsFoundAt (by_number id) xs i → remove xs i ≡ without_received id xs
    remove_is h = sym (without_at (by_number id) (λ n. n == id) (λ n. tied n id) (λ n. lower n id) (λ n. higher n id) xs i h)

    pub remove_none : IsGap (by_number id) xs i → xs ≡ without_received id xs
    remove_none h = sym (without_gap (by_number id) (λ n. n == id) (λ n. tied n id) (λ n. lower n id) (λ n. higher n id) xs i h)

    pub remove_table : IsTable nat_cmp xs → IsFoundAt (by_number id) xs i → IsTable nat_cmp (remove xs i)
    remove_table table h = rw (remove_is h) (table_filter nat_cmp nat_cmp_total (λ n. not (n == id)) xs table)
