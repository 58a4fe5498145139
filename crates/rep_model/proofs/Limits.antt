-- What is counted against the limits, of thin sets.
use Rattle.std.proofs.Common.{◌≡◌, ℕ, ◌≤◌, zero, suc, ◌+◌, Bool, true, false, cond, not, ◌&&◌, ◌||◌, ◌==◌, T, nat_le, nat_lt, if◌then◌else◌, List, [], ◌∷◌, ◌++◌, filter_map, length, Option, Some, None, refl, sym, ap, ◌∙◌, arith, leb-true, leb-false}
use Rattle.std.specs.List.{list_any, cons_option, AllByRecursion}
use Rattle.std.specs.FinMap.{find}
use Rattle.std.specs.FinMap.Entries.{find-where_key, is_sorted, is_sorted-where_key, same_entries}
use Rattle.std.proofs.lemmas.Bool.{and_parts, false_from_ne_true}
use Rattle.rep_op.specs.declared.op.Stamp.{Stamp}
use Rattle.rep_op.specs.declared.op.Op.{Op}
use Rattle.rep_op.specs.declared.op.Op.TheVariants.{Session as OfSession, Put as OfPut, Ack, Retain as OfRetain}
use Rattle.rep_op.specs.Orders.{operation_cmp}
use Rattle.rep_op.specs.Sets.{same_client, operations, operation_at, is_acknowledged}
use Rattle.rep_model.specs.declared.fault.Limit.{Limit}
use Rattle.rep_model.specs.declared.fault.Limit.TheVariants.{Clients, Pending, Parked, Exceptions, Retained}
use Rattle.rep_model.specs.Views.{visible, history, in_order, pending}
use Rattle.rep_model.specs.Keep.{is_below, CountsAs}
use Rattle.rep_model.specs.Ranges.{is_within, in_ranges, AreApart}
use Rattle.rep_model.specs.Limits.{is_in_prefix, parked, range_of, acknowledged, above_a_gap, sum_to, exceptions, first_passed}
use Rattle.rep_model.proofs.Lookup.{find-in_order, is_sorted-in_order}
use Rattle.rep_model.proofs.Readers.{operation_total, operation_exact}
use Rattle.rep_model.proofs.Thin.{Thin, visible-thin, history-thin, pending-thin}
use Rattle.rep_model.proofs.Joins.{same_by_counts, counts-more}
use Rattle.rep_model.proofs.Ranges.{IsRange, in-joined, apart-joined, same_ranges}
use Rattle.rep_model.proofs.Named.{clients-thin}
use Rattle.rep_model.proofs.Topics.{topics-thin}

-- ---- parked operations

abbrev is_parked_name : Option Stamp → ℕ → Stamp × ℕ → Bool
is_parked_name seen prefix name = not (is_below name.0 seen) && not (is_in_prefix seen prefix name)

find-parked : (c : List ℕ) (S : List Op) (q : Stamp × ℕ) → find operation_cmp q (parked c S) ≡ cond (is_parked_name (visible c S) (length (history c S)) q) (operation_at c S q) None
find-parked c S q =
    let p = is_parked_name (visible c S) (length (history c S)) in
    find-where_key operation_cmp p q (λ x t. ap p (sym (operation_exact q x t))) (in_order operation_cmp (operations c S))
    ∙ ap (λ o. cond (p q) o None) (find-in_order operation_cmp operation_total q (operations c S))

sorted-parked : (c : List ℕ) (S : List Op) → T (is_sorted operation_cmp (parked c S))
sorted-parked c S = is_sorted-where_key operation_cmp (is_parked_name (visible c S) (length (history c S))) (in_order operation_cmp (operations c S)) (is_sorted-in_order operation_cmp operation_total (operations c S))

-- ---- acknowledgements as ranges

one_range : (a b : Bool) (first last n : ℕ) (tail : List (ℕ × ℕ)) (r : Bool) → in_ranges n tail ≡ r → in_ranges n (cons_option (if a && b && nat_le first last then Some (first, last) else None) tail) ≡ ((a && b && nat_le first n && nat_le n last) || r)
one_range false b first last n tail r h = h
one_range true false first last n tail r h = h
one_range true true first last n tail r h =
    elim (nat_le first last) as (λ l. nat_le first last ≡ l → in_ranges n (cons_option (if l then Some (first, last) else None) tail) ≡ ((nat_le first n && nat_le n last) || r)) [
      | true ↦ λ _. ap (λ x. is_within n (first, last) || x) h
      | false ↦ λ e. h ∙ ap (λ x. x || r) (sym (false_from_ne_true (nat_le first n && nat_le n last) (λ f.
          let w = and_parts (nat_le first n) (nat_le n last) f in
          let low : first ≤ n = leb-true first n w.0 in
          let high : n ≤ last = leb-true n last w.1 in
          let none = leb-false first last e in
          omega arith)))
    ] refl

is_range : (a : Bool) (first last : ℕ) (tail : List (ℕ × ℕ)) → AllByRecursion IsRange tail → AllByRecursion IsRange (cons_option (if a && nat_le first last then Some (first, last) else None) tail)
is_range false first last tail h = h
is_range true first last tail h =
    elim (nat_le first last) as (λ l. nat_le first last ≡ l → AllByRecursion IsRange (cons_option (if l then Some (first, last) else None) tail)) [
      | true ↦ λ e. (leb-true first last e, h)
      | false ↦ λ _. h
    ] refl

is_range_two : (a b : Bool) (first last : ℕ) (tail : List (ℕ × ℕ)) → AllByRecursion IsRange tail → AllByRecursion IsRange (cons_option (if a && b && nat_le first last then Some (first, last) else None) tail)
is_range_two false b first last tail h = h
is_range_two true b first last tail h = is_range b first last tail h

module _ (c : List ℕ) (origin : ℕ) where
  pub in-ranges_of : (n : ℕ) (S : List Op) → in_ranges n (filter_map (range_of c origin) S) ≡ is_acknowledged c S (n, origin)
  in-ranges_of n [] = refl
  in-ranges_of n (OfSession d stamp counter change ∷ S) = in-ranges_of n S
  in-ranges_of n (OfPut d put ∷ S) = in-ranges_of n S
  in-ranges_of n (OfRetain u k ∷ S) = in-ranges_of n S
  in-ranges_of n (Ack d o first last ∷ S) = one_range (same_client c d) (origin == o) first last n (filter_map (range_of c origin) S) (is_acknowledged c S (n, origin)) (in-ranges_of n S)

  are-ranges_of : (S : List Op) → AllByRecursion IsRange (filter_map (range_of c origin) S)
  are-ranges_of [] = tt
  are-ranges_of (OfSession d stamp counter change ∷ S) = are-ranges_of S
  are-ranges_of (OfPut d put ∷ S) = are-ranges_of S
  are-ranges_of (OfRetain u k ∷ S) = are-ranges_of S
  are-ranges_of (Ack d o first last ∷ S) = is_range_two (same_client c d) (origin == o) first last (filter_map (range_of c origin) S) (are-ranges_of S)

  -- the ranges say what is acknowledged
  pub in-acknowledged : (n : ℕ) (S : List Op) → in_ranges n (acknowledged c origin S) ≡ is_acknowledged c S (n, origin)
  in-acknowledged n S = in-joined n (filter_map (range_of c origin) S) ∙ in-ranges_of n S

  pub apart-acknowledged : (S : List Op) → AreApart (acknowledged c origin S)
  apart-acknowledged S = apart-joined (filter_map (range_of c origin) S) (are-ranges_of S)

-- ---- thin sets

sum_to-same : (f g : ℕ → ℕ) → ((n : ℕ) → f n ≡ g n) → (n : ℕ) → sum_to f n ≡ sum_to g n
sum_to-same f g h zero = refl
sum_to-same f g h (suc n) = λ i. h (suc n) i + sum_to-same f g h n i

module _ (N W : List Op) (t : Thin N W) where
  pub parked-thin : (c : List ℕ) → parked c N ≡ parked c W
  parked-thin c = same_entries operation_cmp operation_total operation_exact (parked c N) (parked c W) (sorted-parked c N) (sorted-parked c W)
      (λ q. find-parked c N q
      ∙ (λ i. cond (is_parked_name (visible-thin N W t c i) (length (history-thin N W t c i)) q) (operation_at c N q) None)
      ∙ elim (is_below q.0 (visible c W)) as (λ b. is_below q.0 (visible c W) ≡ b → cond (not b && not (is_in_prefix (visible c W) (length (history c W)) q)) (operation_at c N q) None ≡ cond (not b && not (is_in_prefix (visible c W) (length (history c W)) q)) (operation_at c W q) None) [
        | true ↦ λ _. refl
        | false ↦ λ e. ap (λ o. cond (not (is_in_prefix (visible c W) (length (history c W)) q)) o None) (t.operations_same c q e)
      ] refl
      ∙ sym (find-parked c W q))

  pub acknowledged-thin : (c : List ℕ) (origin : ℕ) → acknowledged c origin N ≡ acknowledged c origin W
  acknowledged-thin c origin = same_ranges 0 0 (acknowledged c origin N) (acknowledged c origin W) (apart-acknowledged c origin N) (apart-acknowledged c origin W)
      (λ n. in-acknowledged c origin n N ∙ t.acknowledgements_same c (n, origin) ∙ sym (in-acknowledged c origin n W))

  pub exceptions-thin : (c : List ℕ) → exceptions c N ≡ exceptions c W
  unfolding exceptions
  exceptions-thin c = sum_to-same (λ origin. above_a_gap (acknowledged c origin N)) (λ origin. above_a_gap (acknowledged c origin W)) (λ origin. ap above_a_gap (acknowledged-thin c origin)) 255

abbrev passed : List (List ℕ) → (List ℕ → ℕ) → (List ℕ → ℕ) → (List ℕ → ℕ) → List (List ℕ) → Option Limit
passed all pend park except kept =
    if nat_lt 4096 (length all) then Some Clients
    else (if list_any (λ c. nat_lt 16384 (pend c)) all then Some Pending
    else (if list_any (λ c. nat_lt 4096 (park c)) all then Some Parked
    else (if list_any (λ c. nat_lt 16384 (except c)) all then Some Exceptions
    else (if nat_lt 4096 (length kept) then Some Retained else None))))

pub first_passed-thin : (N W : List Op) → Thin N W → first_passed N ≡ first_passed W
first_passed-thin N W t = λ i. passed (clients-thin N W t i) (λ c. length (pending-thin N W t c i)) (λ c. length (parked-thin N W t c i)) (λ c. exceptions-thin N W t c i) (topics-thin N W t i)

pub parked-counts : (c : List ℕ) (S K : List Op) → CountsAs S K → parked c K ≡ parked c S
parked-counts c = same_by_counts (parked c) (λ N W t. parked-thin N W t c)

pub pending-counts : (c : List ℕ) (S K : List Op) → CountsAs S K → pending c K ≡ pending c S
pending-counts c = same_by_counts (pending c) (λ N W t. pending-thin N W t c)

pub acknowledged-counts : (c : List ℕ) (origin : ℕ) (S K : List Op) → CountsAs S K → acknowledged c origin K ≡ acknowledged c origin S
acknowledged-counts c origin = same_by_counts (acknowledged c origin) (λ N W t. acknowledged-thin N W t c origin)

pub first_passed-counts : (S K : List Op) → CountsAs S K → first_passed K ≡ first_passed S
first_passed-counts = same_by_counts first_passed first_passed-thin

-- with the same more after both
pub first_passed-more : (S K Y : List Op) → CountsAs S K → first_passed (K ++ Y) ≡ first_passed (S ++ Y)
first_passed-more S K Y h = first_passed-counts (S ++ Y) (K ++ Y) (counts-more S K Y h)
