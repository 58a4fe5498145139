-- Of a delta of which nothing need be dropped, each part from the first operation on passes no limit that the whole does not pass.
use Rattle.std.proofs.Common.{◌≡◌, ℕ, zero, suc, ◌+◌, ◌<◌, ◌≤◌, Bool, true, false, cond, not, ◌&&◌, ◌||◌, if◌then◌else◌, List, [], ◌∷◌, ◌++◌, length, map, take, drop, append_assoc, Option, Some, None, is_some, IfSome, T, Contains, refl, sym, ap, ◌∙◌, subst, true≢false, arith}
use Rattle.std.specs.Cmp.{IsTotalOrder}
use Rattle.std.specs.FinMap.{find}
use Rattle.std.specs.FinMap.Entries.{where_key, is_sorted, find-where_key, is_sorted-where_key, length_without}
use Rattle.std.specs.List.{filter_map, list_any, AllByRecursion}
use Rattle.std.specs.Ordering.{eq_by_cmp, is_eq, nat_cmp, ordering_then}
use Rattle.std.specs.Prelude.{nat_lt, nat_le, sum_by, IsTrue}
use Rattle.std.specs.declared.cmp.Ordering.{Ordering}
use Rattle.std.specs.declared.cmp.Ordering.TheVariants.{Less, Equal}
use Rattle.std.proofs.lemmas.Bool.{and_parts, and_from, ltb-true, ltb-false, lt-ltb, le-ltb}
use Rattle.std.proofs.lemmas.Cmp.{eq_by_cmp_equiv, ranked}
use Rattle.std.proofs.lemmas.List.Elements.{filter_map-append, All-from_recursion, All-contains, Contains-append_right}
use Rattle.std.proofs.lemmas.List.Folds.{list_any-append}
use Rattle.std.proofs.lemmas.List.Sums.{sum_by-append}
use Rattle.std.proofs.lemmas.Map.Lookups.{CmpEqualImpliesEq}
use Rattle.sn_session.specs.declared.change.SessionOp.{SessionOp}
use Rattle.rep_ops.specs.Making.{AreWellMade}
use Rattle.rep_op.specs.Orders.{stamp_cmp, operation_cmp, put_cmp, client_cmp, topic_name_cmp}
use Rattle.rep_op.specs.Sets.{operations, operation_at, put_at, is_acknowledged, retain_at, Same}
use Rattle.rep_ops.specs.Splitting.{all_of}
use Rattle.rep_op.specs.WellMade.{is_well_made}
use Rattle.rep_op.specs.declared.op.Op.{Op}
use Rattle.rep_op.specs.declared.op.Op.TheVariants.{Session as OfSession}
use Rattle.rep_op.specs.declared.op.Put.{Put}
use Rattle.rep_op.specs.declared.op.Stamp.{Stamp}
use Rattle.rep_ops.proofs.Joined.{rising_ascending}
use Rattle.rep_ops.proofs.Rising.{Rising, Past}
use Rattle.rep_model.specs.Held.{IsHeld}
use Rattle.rep_model.specs.Topics.{latest, topic_in, topics, names_topic, has_topic}
use Rattle.rep_model.specs.Keep.{is_below, is_outdone, keep, IsKeptOf, CountsAs}
use Rattle.rep_model.specs.Limits.{is_in_prefix, parked, range_of, acknowledged, size_of, above_a_gap, sum_to, exceptions, any_above, first_passed}
use Rattle.rep_model.specs.Roomy.{IsRoomy}
use Rattle.rep_model.specs.Views.{visible, history, in_order, unacknowledged, pending, pending_at, named, names_client, clients, is_named, gapless, then_more, history_at}
use Rattle.rep_model.specs.declared.fault.Limit.{Limit}
use Rattle.rep_model.specs.declared.fault.Limit.TheVariants.{Clients, Pending, Parked, Exceptions, Retained}
use Rattle.rep_model.proofs.Apart.{ranges_rising}
use Rattle.rep_model.proofs.Greatest.{same_greatest, has}
use Rattle.rep_model.proofs.Joins.{all-left, all-right, same_sym, same_trans}
use Rattle.rep_model.proofs.Limits.{apart-acknowledged, first_passed-counts}
use Rattle.rep_model.proofs.Lookup.{or_else, find-in_order, is_sorted-in_order}
use Rattle.rep_model.proofs.Named.{find_clients, clients-named}
use Rattle.rep_model.proofs.Topics.{find_topics}
use Rattle.rep_model.proofs.Occurring.{equal_of, operation_occurs}
use Rattle.rep_model.proofs.Ranges.{in-joined, same_ranges}
use Rattle.rep_model.proofs.Readers.{operation_total, operation_exact, put_total, put_exact, client_total, client_exact, operation_at_both, put_at_both, operation_at_keep, put_at_keep, is_acknowledged_keep, retain_at_keep, topic_total, topic_exact, stamp_total, stamp_exact, takes, has_take}
use Rattle.rep_model.proofs.Thin.{pending_at-reads, some_left, same_kept, thin-same, thin-keep}

is_none_of : {X : Type 0} (b : Bool) (x : Option X) → is_some (cond b x None) ≡ true → (b ≡ true) × (is_some x ≡ true)
is_none_of true x e = (refl, e)
is_none_of false x e = absurd (true≢false (sym e))

module _ {K X : Type 0} (R : K → K → Ordering) (o : IsTotalOrder R) (exact : CmpEqualImpliesEq R) where
  rest_of : (k q : K) (es : List (K × X)) → find R q (where_key R (λ x. not (eq_by_cmp R k x)) es) ≡ cond (not (eq_by_cmp R k q)) (find R q es) None
  rest_of k q es = find-where_key R (λ x. not (eq_by_cmp R k x)) q (λ x t. ap (λ y. not (eq_by_cmp R k y)) (sym (exact q x t))) es

  -- a sorted list that has the names of another is not shorter
  pub sorted_le : (n : ℕ) (es fs : List (K × X)) → length es ≡ n → T (is_sorted R es) → T (is_sorted R fs) → ((q : K) → is_some (find R q es) ≡ true → is_some (find R q fs) ≡ true) → length es ≤ length fs
  sorted_le zero es fs len se sf sub = omega (arith, len)
  sorted_le (suc n) [] fs len se sf sub = omega arith
  sorted_le (suc n) (e ∷ es) fs len se sf sub =
      let k = e.0 in
      let here : is_some (find R k (e ∷ es)) ≡ true = ap (λ b. is_some (cond b (Some e.1) (find R k es))) ((eq_by_cmp_equiv o).refl k) in
      let there : is_some (find R k fs) ≡ true = sub k here in
      let one : 1 + length (where_key R (λ x. not (eq_by_cmp R k x)) (e ∷ es)) ≡ length (e ∷ es) = sym (ap (λ b. cond b 1 0 + length (where_key R (λ x. not (eq_by_cmp R k x)) (e ∷ es))) here) ∙ length_without R o k (e ∷ es) se in
      let two : 1 + length (where_key R (λ x. not (eq_by_cmp R k x)) fs) ≡ length fs = sym (ap (λ b. cond b 1 0 + length (where_key R (λ x. not (eq_by_cmp R k x)) fs)) there) ∙ length_without R o k fs sf in
      let less = sorted_le n (where_key R (λ x. not (eq_by_cmp R k x)) (e ∷ es)) (where_key R (λ x. not (eq_by_cmp R k x)) fs) (omega (arith, one, len))
      (is_sorted-where_key R (λ x. not (eq_by_cmp R k x)) (e ∷ es) se) (is_sorted-where_key R (λ x. not (eq_by_cmp R k x)) fs sf)
      (λ q h.
      let p = is_none_of (not (eq_by_cmp R k q)) (find R q (e ∷ es)) (sym (ap is_some (rest_of k q (e ∷ es))) ∙ h) in
      ap is_some (rest_of k q fs) ∙ (ap (λ b. is_some (cond b (find R q fs) None)) p.0 ∙ sub q p.1)) in
      omega (arith, one, two, less)

is_some_of : {X : Type 0} (b : Bool) (o : Option X) (x : X) → cond b o None ≡ Some x → o ≡ Some x
is_some_of true o x e = e
is_some_of false o x e = absurd (cc)

length_of_map : {A B : Type 0} (f : A → B) (xs : List A) → length (map f xs) ≡ length xs
length_of_map f [] = refl
length_of_map f (x ∷ xs) = ap (λ n. suc n) (length_of_map f xs)

-- ---- a part of a whole

module _ (P Q : List Op) (whole : Same (keep (P ++ Q)) (P ++ Q)) where
  operation_in : (c : List ℕ) (name : Stamp × ℕ) → is_some (operation_at c P name) ≡ true → is_some (operation_at c (P ++ Q) name) ≡ true
  operation_in c name h = ap is_some (operation_at_both c P Q name) ∙ some_left (operation_at c P name) (operation_at c Q name) h

  put_in : (c : List ℕ) (name : ℕ × ℕ) → is_some (put_at c P name) ≡ true → is_some (put_at c (P ++ Q) name) ≡ true
  put_in c name h = ap is_some (put_at_both c P Q name) ∙ some_left (put_at c P name) (put_at c Q name) h

  not_below : (c : List ℕ) (name : Stamp × ℕ) → is_some (operation_at c (P ++ Q) name) ≡ true → is_below name.0 (visible c (P ++ Q)) ≡ false
  not_below c name h =
      elim (is_below name.0 (visible c (P ++ Q))) as (λ b. is_below name.0 (visible c (P ++ Q)) ≡ b → b ≡ false) [
        | true ↦ λ e. absurd (true≢false (sym h ∙ ap is_some (sym (whole.operations_same c name) ∙ operation_at_keep c (P ++ Q) name ∙ ap (λ b. cond (not b) (operation_at c (P ++ Q) name) None) e)))
        | false ↦ λ _. refl
      ] refl

  not_acknowledged : (c : List ℕ) (name : ℕ × ℕ) → is_some (put_at c (P ++ Q) name) ≡ true → is_acknowledged c (P ++ Q) name ≡ false
  not_acknowledged c name h =
      elim (is_acknowledged c (P ++ Q) name) as (λ b. is_acknowledged c (P ++ Q) name ≡ b → b ≡ false) [
        | true ↦ λ e. absurd (true≢false (sym h ∙ ap is_some (sym (whole.puts_same c name) ∙ put_at_keep c (P ++ Q) name ∙ ap (λ b. cond (not b) (put_at c (P ++ Q) name) None) e)))
        | false ↦ λ _. refl
      ] refl

  -- ---- clients

  named_left : (c : List ℕ) (A : List Op) → is_named c A ≡ true → is_named c (A ++ Q) ≡ true
  named_left c [] h = absurd (true≢false (sym h))
  named_left c (op ∷ A) h = either (names_client c op) (is_named c A) (is_named c (A ++ Q)) (named_left c A) h
    where
      either : (a b d : Bool) → (b ≡ true → d ≡ true) → (a || b) ≡ true → (a || d) ≡ true
      either true b d f e = refl
      either false b d f e = f e

  some_named : (b : Bool) (c : List ℕ) → is_some (if b then Some c else None) ≡ b
  some_named true c = refl
  some_named false c = refl

  clients_le : length (clients P) ≤ length (clients (P ++ Q))
  clients_le =
      let less = sorted_le client_cmp client_total client_exact (length (in_order client_cmp (filter_map named P))) (in_order client_cmp (filter_map named P)) (in_order client_cmp (filter_map named (P ++ Q))) refl
      (is_sorted-in_order client_cmp client_total (filter_map named P)) (is_sorted-in_order client_cmp client_total (filter_map named (P ++ Q)))
      (λ q h. ap is_some (find_clients q (P ++ Q)) ∙ some_named (is_named q (P ++ Q)) q ∙ named_left q P (sym (some_named (is_named q P) q) ∙ sym (ap is_some (find_clients q P)) ∙ h)) in
      omega (arith, less, length_of_map (λ (e : List ℕ × List ℕ). e.0) (in_order client_cmp (filter_map named P)), length_of_map (λ (e : List ℕ × List ℕ). e.0) (in_order client_cmp (filter_map named (P ++ Q))))

  -- ---- messages that wait

  pending_sub : (c : List ℕ) (q : ℕ × ℕ) → is_some (pending_at c P q) ≡ true → is_some (pending_at c (P ++ Q) q) ≡ true
  pending_sub c q h =
      let p = is_none_of (not (is_acknowledged c P q)) (put_at c P q) (sym (ap is_some (pending_at-reads c P q)) ∙ h) in
      let there = put_in c q p.1 in
      ap is_some (pending_at-reads c (P ++ Q) q) ∙ (ap (λ b. is_some (cond (not b) (put_at c (P ++ Q) q) None)) (not_acknowledged c q there) ∙ there)

  pending_le : (c : List ℕ) → length (pending c P) ≤ length (pending c (P ++ Q))
  pending_le c =
      let less = sorted_le put_cmp put_total put_exact (length (in_order put_cmp (unacknowledged c P))) (in_order put_cmp (unacknowledged c P)) (in_order put_cmp (unacknowledged c (P ++ Q))) refl
      (is_sorted-in_order put_cmp put_total (unacknowledged c P)) (is_sorted-in_order put_cmp put_total (unacknowledged c (P ++ Q)))
      (λ q h. ap is_some (find-in_order put_cmp put_total q (unacknowledged c (P ++ Q))) ∙ pending_sub c q (sym (ap is_some (find-in_order put_cmp put_total q (unacknowledged c P))) ∙ h)) in
      omega (arith, less, length_of_map (λ (e : (ℕ × ℕ) × Put). e.1) (in_order put_cmp (unacknowledged c P)), length_of_map (λ (e : (ℕ × ℕ) × Put). e.1) (in_order put_cmp (unacknowledged c (P ++ Q))))

-- ---- acknowledgements

sum_le : (xs ys : List (ℕ × ℕ)) → sum_by size_of xs ≤ sum_by size_of (xs ++ ys)
sum_le xs ys = subst (λ n. sum_by size_of xs ≤ n) (sym (sum_by-append size_of xs ys)) (omega arith)

gap_le : (xs ys : List (ℕ × ℕ)) → above_a_gap xs ≤ above_a_gap (xs ++ ys)
gap_le [] ys = omega arith
gap_le (r ∷ rest) ys = elim (nat_le r.0 1) as (λ b. (if b then sum_by size_of rest else sum_by size_of (r ∷ rest)) ≤ (if b then sum_by size_of (rest ++ ys) else sum_by size_of (r ∷ (rest ++ ys)))) [
  | true ↦ sum_le rest ys
  | false ↦ sum_le (r ∷ rest) ys
]

sum_to_le : (f g : ℕ → ℕ) → ((n : ℕ) → f n ≤ g n) → (n : ℕ) → sum_to f n ≤ sum_to g n
sum_to_le f g h zero = omega arith
sum_to_le f g h (suc n) = omega (arith, h (suc n), sum_to_le f g h n)

rising_left : (P Q : List Op) → Rising 1 (P ++ Q) → Rising 1 P
rising_left [] Q up = tt
rising_left (a ∷ P) Q up = (all-left (Past 1 a) P Q up.0, rising_left P Q up.1)

acknowledged_is : (c : List ℕ) (o : ℕ) (S : List Op) → AreWellMade S → Rising 1 S → acknowledged c o S ≡ filter_map (range_of c o) S
acknowledged_is c o S made up = same_ranges 0 0 (acknowledged c o S) (filter_map (range_of c o) S) (apart-acknowledged c o S) (ranges_rising c o S made up) (λ n. in-joined n (filter_map (range_of c o) S))

acknowledged_front : (c : List ℕ) (o : ℕ) (P Q : List Op) → AreWellMade P → AreWellMade (P ++ Q) → Rising 1 (P ++ Q) → acknowledged c o (P ++ Q) ≡ acknowledged c o P ++ filter_map (range_of c o) Q
acknowledged_front c o P Q made_part made up =
    acknowledged_is c o (P ++ Q) made up ∙ (filter_map-append (range_of c o) P Q ∙ ap (λ rs. rs ++ filter_map (range_of c o) Q) (sym (acknowledged_is c o P made_part (rising_left P Q up))))

exceptions_le : (c : List ℕ) (P Q : List Op) → AreWellMade P → AreWellMade (P ++ Q) → Rising 1 (P ++ Q) → exceptions c P ≤ exceptions c (P ++ Q)
unfolding exceptions
exceptions_le c P Q made_part made up =
    sum_to_le (λ o. above_a_gap (acknowledged c o P)) (λ o. above_a_gap (acknowledged c o (P ++ Q)))
    (λ o. subst (λ (rs : List (ℕ × ℕ)). above_a_gap (acknowledged c o P) ≤ above_a_gap rs) (sym (acknowledged_front c o P Q made_part made up)) (gap_le (acknowledged c o P) (filter_map (range_of c o) Q)))
    255

-- ---- without a gap

module _ (at : ℕ → Option SessionOp) where
  gap_all : (room k i : ℕ) → i < length (gapless at room k) → is_some (at (k + i)) ≡ true
  unfolding gapless
  gap_all zero k i lt = absurd (omega (arith, lt))
  gap_all (suc room) k i lt =
      elim (at k) as (λ o. at k ≡ o → i < length (then_more o (gapless at room (k + 1))) → is_some (at (k + i)) ≡ true) [
        | None ↦ λ _ l. absurd (omega (arith, l))
        | Some x ↦ λ e l. by_place (gap_all room (k + 1)) i e l
      ] refl lt
    where
      by_place : ((i : ℕ) → i < length (gapless at room (k + 1)) → is_some (at (k + 1 + i)) ≡ true) → (i : ℕ) {x : SessionOp} → at k ≡ Some x → i < suc (length (gapless at room (k + 1))) → is_some (at (k + i)) ≡ true
      by_place more zero e l = ap (λ n. is_some (at n)) (let z : k + 0 ≡ k = omega arith in z) ∙ ap is_some e
      by_place more (suc i) e l = ap (λ n. is_some (at n)) (let z : k + suc i ≡ k + 1 + i = omega arith in z) ∙ more i (omega (arith, l))

  gap_reach : (room k n : ℕ) → ((i : ℕ) → i ≤ n → is_some (at (k + i)) ≡ true) → n < room → n < length (gapless at room k)
  unfolding gapless
  gap_reach zero k n h lt = absurd (omega (arith, lt))
  gap_reach (suc room) k n h lt =
      elim (at k) as (λ o. at k ≡ o → n < length (then_more o (gapless at room (k + 1)))) [
        | None ↦ λ e. absurd (true≢false (sym (h 0 (omega arith)) ∙ ap (λ m. is_some (at m)) (let z : k + 0 ≡ k = omega arith in z) ∙ ap is_some e))
        | Some x ↦ λ e. by_place (gap_reach room (k + 1)) n h lt
      ] refl
    where
      by_place : ((n : ℕ) → ((i : ℕ) → i ≤ n → is_some (at (k + 1 + i)) ≡ true) → n < room → n < length (gapless at room (k + 1))) → (n : ℕ) → ((i : ℕ) → i ≤ n → is_some (at (k + i)) ≡ true) → n < suc room → n < suc (length (gapless at room (k + 1)))
      by_place reach zero h l = omega arith
      by_place reach (suc n) h l =
          let more = reach n (λ i le. ap (λ m. is_some (at m)) (let z : k + 1 + i ≡ k + suc i = omega arith in z) ∙ h (suc i) (omega (arith, le))) (omega (arith, l)) in
          omega (arith, more)

  gap_bound : (room k : ℕ) → length (gapless at room k) ≤ room
  unfolding gapless
  gap_bound zero k = omega arith
  gap_bound (suc room) k =
      elim (at k) as (λ o. length (then_more o (gapless at room (k + 1))) ≤ suc room) [
        | None ↦ omega arith
        | Some x ↦ omega (arith, gap_bound room (k + 1))
      ]

-- ---- operations that wait

abbrev is_parked_name : Option Stamp → ℕ → Stamp × ℕ → Bool
is_parked_name seen prefix name = not (is_below name.0 seen) && not (is_in_prefix seen prefix name)

find-parked : (c : List ℕ) (S : List Op) (q : Stamp × ℕ) → find operation_cmp q (parked c S) ≡ cond (is_parked_name (visible c S) (length (history c S)) q) (operation_at c S q) None
find-parked c S q =
    let p = is_parked_name (visible c S) (length (history c S)) in
    find-where_key operation_cmp p q (λ x t. ap p (sym (operation_exact q x t))) (in_order operation_cmp (operations c S))
    ∙ ap (λ o. cond (p q) o None) (find-in_order operation_cmp operation_total q (operations c S))

sorted-parked : (c : List ℕ) (S : List Op) → T (is_sorted operation_cmp (parked c S))
sorted-parked c S = is_sorted-where_key operation_cmp (is_parked_name (visible c S) (length (history c S))) (in_order operation_cmp (operations c S)) (is_sorted-in_order operation_cmp operation_total (operations c S))

rising_pair : (P Q : List Op) → Rising 1 (P ++ Q) → AllByRecursion (λ a. AllByRecursion (Past 1 a) Q) P
rising_pair [] Q up = tt
rising_pair (a ∷ P) Q up = (all-right (Past 1 a) P Q up.0, rising_pair P Q up.1)

counter_less : (c : List ℕ) (v : Stamp) (k j : ℕ) → ordering_then (client_cmp c c) (operation_cmp (v, k) (v, j)) ≡ Less → k < j
counter_less c v k j h =
    let whose : client_cmp c c ≡ Equal = equal_of (client_cmp c c) ((eq_by_cmp_equiv client_total).refl c) in
    let same : stamp_cmp v v ≡ Equal = equal_of (stamp_cmp v v) ((eq_by_cmp_equiv stamp_total).refl v) in
    let inner : nat_cmp k j ≡ Less = ap (λ o. ordering_then o (nat_cmp k j)) (sym same) ∙ (ap (λ o. ordering_then o (operation_cmp (v, k) (v, j))) (sym whose) ∙ h) in
    ranked k j Less (sym inner)

module _ (P Q : List Op) (up : Rising 1 (P ++ Q)) (whole : Same (keep (P ++ Q)) (P ++ Q)) (c : List ℕ) where
  -- what comes before an operation of the part is in the part
  front : (v : Stamp) (k j : ℕ) → is_some (operation_at c P (v, k)) ≡ true → j ≤ k → is_some (operation_at c (P ++ Q) (v, j)) ≡ true → is_some (operation_at c P (v, j)) ≡ true
  front v k j here le there =
      elim (operation_at c P (v, j)) as (λ o. operation_at c P (v, j) ≡ o → is_some o ≡ true) [
        | Some x ↦ λ _. refl
        | None ↦ λ none. absurd (later none (operation_at c P (v, k)) (operation_at c Q (v, j)) refl refl here (ap (λ o. is_some (or_else o (operation_at c Q (v, j)))) (sym none) ∙ (sym (ap is_some (operation_at_both c P Q (v, j))) ∙ there)))
      ] refl
    where
      later : operation_at c P (v, j) ≡ None → (a b : Option SessionOp) → operation_at c P (v, k) ≡ a → operation_at c Q (v, j) ≡ b → is_some a ≡ true → is_some b ≡ true → ⊥
      later none None b e f g h = true≢false (sym g)
      later none (Some x) None e f g h = true≢false (sym h)
      later none (Some x) (Some y) e f g h =
          let first = All-contains (λ (a : Op). AllByRecursion (Past 1 a) Q) P (OfSession c v k x) (All-from_recursion (λ (a : Op). AllByRecursion (Past 1 a) Q) P (rising_pair P Q up)) (operation_occurs c P (v, k) x e) in
          let past : Past 1 (OfSession c v k x) (OfSession c v j y) = All-contains (Past 1 (OfSession c v k x)) Q (OfSession c v j y) (All-from_recursion (Past 1 (OfSession c v k x)) Q first) (operation_occurs c Q (v, j) y f) in
          let less = counter_less c v k j past.below in
          absurd (omega (arith, less, le))

  not_below_here : (name : Stamp × ℕ) → is_some (operation_at c (P ++ Q) name) ≡ true → is_below name.0 (visible c (P ++ Q)) ≡ false
  not_below_here name h = not_below P Q whole c name h

  -- where the Take of the visible stamp is in the part, it is visible there
  visible_part : (v : Stamp) → visible c (P ++ Q) ≡ Some v → is_some (operation_at c P (v, 0)) ≡ true → visible c P ≡ Some v
  visible_part v e here =
      same_greatest stamp_cmp stamp_total stamp_exact (takes c P) (takes c (P ++ Q))
      (λ s h. has_take c (P ++ Q) s ∙ operation_in P Q whole c (s, 0) (sym (has_take c P s) ∙ h))
      (subst (λ o. IfSome o (λ g. has stamp_cmp g (takes c P) ≡ true)) (sym e) (has_take c P v ∙ here))
      ∙ e

  -- an operation of the part that stands without a gap in the whole does so in the part
  prefix_part : (q : Stamp × ℕ) → is_some (operation_at c P q) ≡ true → is_in_prefix (visible c (P ++ Q)) (length (history c (P ++ Q))) q ≡ true → is_in_prefix (visible c P) (length (history c P)) q ≡ true
  prefix_part q here h = go (visible c (P ++ Q)) refl h
    where
      go : (seen : Option Stamp) → visible c (P ++ Q) ≡ seen → is_in_prefix seen (length (history c (P ++ Q))) q ≡ true → is_in_prefix (visible c P) (length (history c P)) q ≡ true
      go None e h = absurd (true≢false (sym h))
      go (Some v) e h =
          let w = and_parts (is_eq (stamp_cmp q.0 v)) (nat_lt q.1 (length (history c (P ++ Q)))) h in
          let same : q.0 ≡ v = stamp_exact q.0 v (equal_of (stamp_cmp q.0 v) w.0) in
          let far : q.1 < length (history c (P ++ Q)) = ltb-true q.1 (length (history c (P ++ Q))) w.1 in
          let all_of_it : history c (P ++ Q) ≡ gapless (λ k. operation_at c (P ++ Q) (v, k)) 256 0 = ap (λ o. history_at (operation_at c (P ++ Q)) o) e in
          let reach : q.1 < length (gapless (λ k. operation_at c (P ++ Q) (v, k)) 256 0) = subst (λ (xs : List SessionOp). q.1 < length xs) all_of_it far in
          let own : is_some (operation_at c P (v, q.1)) ≡ true = subst (λ (s : Stamp). is_some (operation_at c P (s, q.1)) ≡ true) same here in
          let each : (i : ℕ) → i ≤ q.1 → is_some (operation_at c P (v, 0 + i)) ≡ true = λ i le.
          ap (λ n. is_some (operation_at c P (v, n))) (let z : 0 + i ≡ i = omega arith in z)
          ∙ front v q.1 i own le (ap (λ n. is_some (operation_at c (P ++ Q) (v, n))) (let z : i ≡ 0 + i = omega arith in z) ∙ gap_all (λ k. operation_at c (P ++ Q) (v, k)) 256 0 i (omega (arith, le, reach))) in
          let seen : visible c P ≡ Some v = visible_part v e (each 0 (omega arith)) in
          let within : q.1 < length (gapless (λ k. operation_at c P (v, k)) 256 0) = gap_reach (λ k. operation_at c P (v, k)) 256 0 q.1 each (omega (arith, reach, gap_bound (λ k. operation_at c (P ++ Q) (v, k)) 256 0)) in
          let there : q.1 < length (history c P) = subst (λ (xs : List SessionOp). q.1 < length xs) (sym (ap (λ o. history_at (operation_at c P) o) seen)) within in
          ap (λ o. is_in_prefix o (length (history c P)) q) seen ∙ and_from (is_eq (stamp_cmp q.0 v)) (nat_lt q.1 (length (history c P))) w.0 (lt-ltb q.1 (length (history c P)) there)

  parked_sub : (q : Stamp × ℕ) → is_some (find operation_cmp q (parked c P)) ≡ true → is_some (find operation_cmp q (parked c (P ++ Q))) ≡ true
  parked_sub q h =
      let p = is_none_of (is_parked_name (visible c P) (length (history c P)) q) (operation_at c P q) (sym (ap is_some (find-parked c P q)) ∙ h) in
      let there = operation_in P Q whole c q p.1 in
      let parts = and_parts (not (is_below q.0 (visible c P))) (not (is_in_prefix (visible c P) (length (history c P)) q)) p.0 in
      let out : is_in_prefix (visible c (P ++ Q)) (length (history c (P ++ Q))) q ≡ false =
      elim (is_in_prefix (visible c (P ++ Q)) (length (history c (P ++ Q))) q) as (λ b. is_in_prefix (visible c (P ++ Q)) (length (history c (P ++ Q))) q ≡ b → b ≡ false) [
        | true ↦ λ e. absurd (true≢false (sym parts.1 ∙ ap not (prefix_part q p.1 e)))
        | false ↦ λ _. refl
      ] refl in
      let waits : is_parked_name (visible c (P ++ Q)) (length (history c (P ++ Q))) q ≡ true = and_from (not (is_below q.0 (visible c (P ++ Q)))) (not (is_in_prefix (visible c (P ++ Q)) (length (history c (P ++ Q))) q)) (ap not (not_below_here q there)) (ap not out) in
      ap is_some (find-parked c (P ++ Q) q) ∙ (ap (λ b. is_some (cond b (operation_at c (P ++ Q) q) None)) waits ∙ there)

  parked_le : length (parked c P) ≤ length (parked c (P ++ Q))
  parked_le = sorted_le operation_cmp operation_total operation_exact (length (parked c P)) (parked c P) (parked c (P ++ Q)) refl (sorted-parked c P) (sorted-parked c (P ++ Q)) parked_sub

-- ---- the five limits

any_le : (most : ℕ) (f g : List ℕ → ℕ) (xs ys : List (List ℕ)) → ((c : List ℕ) → Contains xs c → Contains ys c) → ((c : List ℕ) → f c ≤ g c) → list_any (λ c. nat_lt most (g c)) ys ≡ false → list_any (λ c. nat_lt most (f c)) xs ≡ false
any_le most f g [] ys sub le none = refl
any_le most f g (x ∷ xs) ys sub le none =
    or_false (nat_lt most (f x)) (list_any (λ c. nat_lt most (f c)) xs)
    (small x (sub x (0, omega arith, refl)))
    (any_le most f g xs ys (λ c h. sub c (Contains-append_right (x ∷ []) xs c h)) le none)
  where
    or_false : (a b : Bool) → a ≡ false → b ≡ false → (a || b) ≡ false
    or_false true b p q = p
    or_false false b p q = q

    small : (x : List ℕ) → Contains ys x → nat_lt most (f x) ≡ false
    small x h =
        let one : nat_lt most (g x) ≡ false = All-contains (λ c. nat_lt most (g c) ≡ false) ys x (All-from_recursion (λ c. nat_lt most (g c) ≡ false) ys (each ys none)) h in
        let bound = ltb-false most (g x) one in
        le-ltb most (f x) (omega (arith, bound, le x))
      where
        each : (zs : List (List ℕ)) → list_any (λ c. nat_lt most (g c)) zs ≡ false → AllByRecursion (λ c. nat_lt most (g c) ≡ false) zs
        each [] h = tt
        each (z ∷ zs) h = let p = or_parts (nat_lt most (g z)) (list_any (λ c. nat_lt most (g c)) zs) h in (p.0, each zs p.1)
          where
            or_parts : (a b : Bool) → (a || b) ≡ false → (a ≡ false) × (b ≡ false)
            or_parts true b e = absurd (true≢false e)
            or_parts false b e = (refl, e)

abbrev limited : Bool → Bool → Bool → Bool → Bool → Option Limit
limited a b d e f = if a then Some Clients else (if b then Some Pending else (if d then Some Parked else (if e then Some Exceptions else (if f then Some Retained else None))))

none_parts : (a b d e f : Bool) → limited a b d e f ≡ None → (a ≡ false) × (b ≡ false) × (d ≡ false) × (e ≡ false) × (f ≡ false)
none_parts true b d e f h = absurd cc
none_parts false true d e f h = absurd cc
none_parts false false true e f h = absurd cc
none_parts false false false true f h = absurd cc
none_parts false false false false true h = absurd cc
none_parts false false false false false h = (refl, refl, refl, refl, refl)

all_none : (a b d e f : Bool) → a ≡ false → b ≡ false → d ≡ false → e ≡ false → f ≡ false → limited a b d e f ≡ None
all_none a b d e f p q r t u = λ i. limited (p i) (q i) (r i) (t i) (u i)

-- a part has no more topics than the whole
topics_le : (P Q : List Op) → length (topics P) ≤ length (topics (P ++ Q))
topics_le P Q =
    let es = in_order topic_name_cmp (filter_map topic_in P) in
    let fs = in_order topic_name_cmp (filter_map topic_in (P ++ Q)) in
    let less = sorted_le topic_name_cmp topic_total topic_exact (length es) es fs refl (is_sorted-in_order topic_name_cmp topic_total (filter_map topic_in P)) (is_sorted-in_order topic_name_cmp topic_total (filter_map topic_in (P ++ Q)))
    (λ q h. ap is_some (find_topics q (P ++ Q)) ∙ some_of (has_topic q (P ++ Q)) q (there q (is_topic_of (has_topic q P) q (sym (ap is_some (find_topics q P)) ∙ h)))) in
    omega (arith, less, length_of_map (λ (e : List ℕ × List ℕ). e.0) es, length_of_map (λ (e : List ℕ × List ℕ). e.0) fs)
  where
    some_of : (b : Bool) (q : List ℕ) → b ≡ true → is_some (if b then Some q else None) ≡ true
    some_of true q e = refl
    some_of false q e = absurd (true≢false (sym e))

    is_topic_of : (b : Bool) (q : List ℕ) → is_some (if b then Some q else None) ≡ true → b ≡ true
    is_topic_of true q e = refl
    is_topic_of false q e = absurd (true≢false (sym e))

    there : (q : List ℕ) → has_topic q P ≡ true → has_topic q (P ++ Q) ≡ true
    there q h = list_any-append (names_topic q) P Q ∙ ap (λ b. b || has_topic q Q) h

-- the law: a part from the first operation on passes no limit that the whole does not pass
pub front_room : (P Q : List Op) → AreWellMade P → AreWellMade (P ++ Q) → Rising 1 (P ++ Q) → Same (keep (P ++ Q)) (P ++ Q) → first_passed (P ++ Q) ≡ None → first_passed P ≡ None
front_room P Q made_part made up whole room =
    let W = P ++ Q in
    let r = none_parts (nat_lt 4096 (length (clients W))) (any_above 16384 (λ c. length (pending c W)) W) (any_above 4096 (λ c. length (parked c W)) W) (any_above 16384 (λ c. exceptions c W) W) (nat_lt 4096 (length (topics W))) room in
    let sub : (c : List ℕ) → Contains (clients P) c → Contains (clients W) c = λ c h. (clients-named c W).0 (named_left P Q whole c P ((clients-named c P).1 h)) in
    let few = ltb-false 4096 (length (clients W)) r.0 in
    let few_topics = ltb-false 4096 (length (topics W)) r.4 in
    all_none (nat_lt 4096 (length (clients P))) (any_above 16384 (λ c. length (pending c P)) P) (any_above 4096 (λ c. length (parked c P)) P) (any_above 16384 (λ c. exceptions c P) P) (nat_lt 4096 (length (topics P)))
    (le-ltb 4096 (length (clients P)) (omega (arith, few, clients_le P Q whole)))
    (any_le 16384 (λ c. length (pending c P)) (λ c. length (pending c W)) (clients P) (clients W) sub (λ c. pending_le P Q whole c) r.1)
    (any_le 4096 (λ c. length (parked c P)) (λ c. length (parked c W)) (clients P) (clients W) sub (λ c. parked_le P Q up whole c) r.2)
    (any_le 16384 (λ c. exceptions c P) (λ c. exceptions c W) (clients P) (clients W) sub (λ c. exceptions_le c P Q made_part made up) r.3)
    (le-ltb 4096 (length (topics P)) (omega (arith, few_topics, topics_le P Q)))

all_split : (ds : List (List Op)) (k : ℕ) → all_of ds ≡ all_of (take k ds) ++ all_of (drop k ds)
all_split [] zero = refl
all_split [] (suc k) = refl
all_split (d ∷ ds) zero = refl
all_split (d ∷ ds) (suc k) = ap (λ ys. d ++ ys) (all_split ds k) ∙ sym (append_assoc d (all_of (take k ds)) (all_of (drop k ds)))

pub kept_once : (S W : List Op) → Same W (keep S) → Same (keep W) (keep S)
kept_once S W h = same_trans (same_kept W (keep S) (thin-same W (keep S) h)) (same_kept (keep S) S (thin-keep S))

-- together the deltas are what must be kept
base_same : (S : List Op) (base : List (List Op)) → IsHeld S base → Same (all_of base) (keep S)
base_same S base (W, d, split) = subst (λ (X : List Op). Same X (keep S)) (sym split.whole) d.same

pub base_counts : (S : List Op) (base : List (List Op)) → IsHeld S base → CountsAs S (all_of base)
base_counts S base held = kept_once S (all_of base) (base_same S base held)

-- and they are nothing that the set has not
pub base_between : (S : List Op) (base : List (List Op)) → IsHeld S base → IsKeptOf S (all_of base)
base_between S base held =
    let same = base_same S base held in
    record {
      lower = record {
        operations_in = λ c name change e. same.operations_same c name ∙ e;
        puts_in = λ c name put e. same.puts_same c name ∙ e;
        acknowledgements_in = λ c name e. same.acknowledgements_same c name ∙ e;
        retains_in = λ t name k e. same.retains_same t name ∙ e;
      };
      upper = record {
        operations_in = λ c name change e. is_some_of (not (is_below name.0 (visible c S))) (operation_at c S name) change (sym (operation_at_keep c S name) ∙ sym (same.operations_same c name) ∙ e);
        puts_in = λ c name put e. is_some_of (not (is_acknowledged c S name)) (put_at c S name) put (sym (put_at_keep c S name) ∙ sym (same.puts_same c name) ∙ e);
        acknowledgements_in = λ c name e. sym (is_acknowledged_keep c S name) ∙ sym (same.acknowledgements_same c name) ∙ e;
        retains_in = λ t name k e. is_some_of (not (is_outdone name (latest t S))) (retain_at t S name) k (sym (retain_at_keep t S name) ∙ sym (same.retains_same t name) ∙ e);
      };
    }

-- and so they can be taken, one after the other
pub base_is_roomy : (S : List Op) (base : List (List Op)) → IsHeld S base → first_passed S ≡ None → IsRoomy base
base_is_roomy S base (W, d, split) room k =
    let P = all_of (take k base) in
    let Q = all_of (drop k base) in
    let is : W ≡ P ++ Q = sym split.whole ∙ all_split base k in
    let whole_kept : Same (keep W) (keep S) = kept_once S W d.same in
    let all_room : first_passed W ≡ None = first_passed-counts S W whole_kept ∙ room in
    let made : AreWellMade (P ++ Q) = subst (λ (X : List Op). AreWellMade X) is d.delta.well_made in
    let up : Rising 1 (P ++ Q) = subst (λ (X : List Op). Rising 1 X) is (rising_ascending W d.delta.well_made d.delta.ascending) in
    let whole : Same (keep (P ++ Q)) (P ++ Q) = subst (λ (X : List Op). Same (keep X) X) is (same_trans whole_kept (same_sym d.same)) in
    front_room P Q (all-left (λ op. IsTrue (is_well_made op)) P Q made) made up whole (ap first_passed (sym is) ∙ all_room)
