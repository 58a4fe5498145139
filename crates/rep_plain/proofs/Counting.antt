-- How much the rows hold once a delta is taken.
use Rattle.std.proofs.Common.{◌≡◌, ℕ, ◌≤◌, ◌+◌, Bool, true, false, cond, ◌||◌, if◌then◌else◌, nat_lt, List, [], ◌∷◌, length, Some, None, is_some, T, refl, sym, ap, ◌∙◌, subst, true≢false, arith}
use Rattle.std.specs.List.{filter_map, list_any, AllByRecursion}
use Rattle.std.specs.Ordering.{eq_by_cmp}
use Rattle.std.specs.FinMap.{find, is_sorted}
use Rattle.std.specs.FinMap.Entries.{is_some-find}
use Rattle.std.proofs.lemmas.Map.Views.{tells_apart}
use Rattle.rep_op.specs.declared.op.Op.{Op}
use Rattle.rep_op.specs.Orders.{client_cmp}
use Rattle.rep_model.specs.Views.{named, in_order, clients, is_named, pending}
use Rattle.rep_model.specs.Limits.{parked, exceptions, first_passed}
use Rattle.rep_model.proofs.Lookup.{or_else, list_any-weaker}
use Rattle.rep_model.proofs.Readers.{client_total, client_exact}
use Rattle.rep_model.proofs.Joins.{all-weaker}
use Rattle.rep_model.proofs.Named.{find_clients}
use Rattle.rep_plain.specs.declared.entry.Entry.{Entry}
use Rattle.rep_shared.specs.Steps.{capped}
use Rattle.rep_plain.specs.Entries.{IsWorkedOut}
use Rattle.rep_shared.specs.Rows.{flat, own, or_nothing, rows_with, has_any, count_named, IsOwn}
use Rattle.rep_shared.specs.inner.Rows.{count_new, AreRows, of_client}
use Rattle.rep_plain.specs.Tables.{rows_of, IsPlainEntry, AreEntries}
use Rattle.rep_shared.specs.inner.Tables.{passed_of}
use Rattle.rep_plain.specs.inner.Tables.{passed_by, too_many_pending, too_many_parked, too_many_exceptions}
use Rattle.std.specs.Option.{option_map}
use Rattle.std.proofs.lemmas.Bool.Decides.{nat_tests}
use Rattle.rep_model.specs.declared.view.ClientView.{ClientView}
use Rattle.rep_plain.proofs.Found.{find_rows}
use Rattle.rep_shared.proofs.Single.{pending_own, parked_own, exceptions_own}
use Rattle.rep_shared.proofs.Flat.{of_flat, find_in_moved, rows_moved, count_clients, named_flat}
use Rattle.rep_shared.proofs.Counting.{all_found, count_moved, passed_of_clients}
use Rattle.rep_shared.proofs.Kept.{rows_of_clients}

-- ---- limits of single clients

or_false_left : (a b : Bool) → (a || b) ≡ false → a ≡ false
or_false_left true b e = e
or_false_left false b e = refl

or_false_right : (a b : Bool) → (a || b) ≡ false → b ≡ false
or_false_right true b e = absurd (true≢false e)
or_false_right false b e = e

module _ (P : List ℕ → Bool) (test : List ℕ × Entry → Bool) where
  none_passes : (fresh : List (List ℕ × Entry)) → AllByRecursion (λ f. P f.0 ≡ test f) fresh → list_any test fresh ≡ false → (c : List ℕ) → (find client_cmp c fresh ≡ None → P c ≡ false) → P c ≡ false
  none_passes [] h none c other = other refl
  none_passes (f ∷ fresh) h none c other =
      elim (eq_by_cmp client_cmp c f.0) as (λ b. eq_by_cmp client_cmp c f.0 ≡ b → (cond b (Some f.1) (find client_cmp c fresh) ≡ None → P c ≡ false) → P c ≡ false) [
        | true ↦ λ t _. ap P (tells_apart client_exact c f.0 t) ∙ h.0 ∙ or_false_left (test f) (list_any test fresh) none
        | false ↦ λ _ other. none_passes fresh h.1 (or_false_right (test f) (list_any test fresh) none) c other
      ] refl other

  one_passes : (S : List Op) (fresh : List (List ℕ × Entry)) → AllByRecursion (λ f. P f.0 ≡ test f) fresh → AllByRecursion (λ f. is_named f.0 S ≡ true) fresh → list_any test fresh ≡ true → list_any P (clients S) ≡ true
  one_passes S [] h is e = absurd (true≢false (sym e))
  one_passes S (f ∷ fresh) h is e =
      elim (test f) as (λ b. test f ≡ b → (b || list_any test fresh) ≡ true → list_any P (clients S) ≡ true) [
        | true ↦ λ t _. list_any-weaker (eq_by_cmp client_cmp f.0) P (λ x same. ap P (sym (tells_apart client_exact f.0 x same)) ∙ h.0 ∙ t) (clients S)
            (sym (is_some-find client_cmp f.0 (in_order client_cmp (filter_map named S))) ∙ ap is_some (find_clients f.0 S ∙ ap (λ b. if b then Some f.0 else None) is.0))
        | false ↦ λ _ e. one_passes S fresh h.1 is.1 e
      ] refl e

  nothing_passes : ((c : List ℕ) → P c ≡ false) → (cs : List (List ℕ)) → list_any P cs ≡ false
  nothing_passes h [] = refl
  nothing_passes h (c ∷ cs) = ap (λ b. b || list_any P cs) (h c) ∙ nothing_passes h cs

  -- any client passes a limit exactly where a fresh one does
  pub any_fresh : (S : List Op) (fresh : List (List ℕ × Entry)) → AllByRecursion (λ f. P f.0 ≡ test f) fresh → AllByRecursion (λ f. is_named f.0 S ≡ true) fresh → ((c : List ℕ) → find client_cmp c fresh ≡ None → P c ≡ false) → list_any P (clients S) ≡ list_any test fresh
  any_fresh S fresh h is other =
      elim (list_any test fresh) as (λ b. list_any test fresh ≡ b → list_any P (clients S) ≡ b) [
        | true ↦ λ e. one_passes S fresh h is e
        | false ↦ λ e. nothing_passes (λ c. none_passes fresh h e c (other c)) (clients S)
      ] refl

-- ---- the first limit

empty_own : (limit : ℕ) (m : List ℕ → List Op → ℕ) (c : List ℕ) → ((c : List ℕ) → nat_lt limit (m c []) ≡ false) → ((c : List ℕ) (e : Entry) → IsPlainEntry c e → nat_lt limit (m c e.ops.items) ≡ false) → (es : List (List ℕ × Entry)) → AreEntries es → nat_lt limit (m c (own c (rows_of es))) ≡ false
empty_own limit m c none fits [] h = none c
empty_own limit m c none fits (e ∷ es) h =
    elim (eq_by_cmp client_cmp c e.0) as (λ b. eq_by_cmp client_cmp c e.0 ≡ b → nat_lt limit (m c (or_nothing (cond b (Some e.1.ops.items) (find client_cmp c (rows_of es))))) ≡ false) [
      | true ↦ λ t. ap (λ x. nat_lt limit (m x e.1.ops.items)) (tells_apart client_exact c e.0 t) ∙ fits e.0 e.1 h.0
      | false ↦ λ _. empty_own limit m c none fits es h.1
    ] refl

pub entries_from_rows : (Q : List ℕ → List Op → Type 0) (fs : List (List ℕ × Entry)) → AllByRecursion (λ row. Q row.0 row.1) (rows_of fs) → AllByRecursion (λ f. Q f.0 f.1.ops.items) fs
entries_from_rows Q [] h = tt
entries_from_rows Q (f ∷ fs) h = (h.0, entries_from_rows Q fs h.1)

no_exceptions : (c : List ℕ) → nat_lt 16384 (exceptions c []) ≡ false
unfolding exceptions
no_exceptions c = refl

-- the fresh entries are those of clients with operations, in order
pub record AreFresh (fresh : List (List ℕ × Entry)) : Type 0 where
  pub sorted : T (is_sorted client_cmp (rows_of fresh))
  pub owned : AllByRecursion (λ row. IsOwn row.0 row.1) (rows_of fresh)
  pub any : AllByRecursion (λ row. has_any row.1 ≡ true) (rows_of fresh)
  pub worked_out : AllByRecursion (λ f. IsWorkedOut f.0 f.1) fresh

module _ (es fs : List (List ℕ × Entry)) (are : AreRows (rows_of es)) (each : AreEntries es) (h : AreFresh fs) where
  abbrev after : List (List ℕ × List Op)
  after = rows_with (rows_of es) (rows_of fs)

  are_after : AreRows after
  are_after = rows_moved (rows_of es) (rows_of fs) are h.owned

  own_after : AllByRecursion (λ f. own f.0 after ≡ f.1.ops.items) fs
  own_after = entries_from_rows (λ c ops. own c after ≡ ops) fs
      (all-weaker (λ row. find client_cmp row.0 (rows_of fs) ≡ Some row.1) (λ row. own row.0 after ≡ row.1)
      (λ row found. ap or_nothing (find_in_moved row.0 (rows_of es) (rows_of fs) ∙ ap (λ x. or_else x (find client_cmp row.0 (rows_of es))) found))
      (rows_of fs) (all_found client_cmp client_total (rows_of fs) h.sorted))

  named_after : AllByRecursion (λ f. is_named f.0 (flat after) ≡ true) fs
  named_after = go fs own_after (entries_from_rows (λ c ops. has_any ops ≡ true) fs h.any)
    where
      go : (xs : List (List ℕ × Entry)) → AllByRecursion (λ f. own f.0 after ≡ f.1.ops.items) xs → AllByRecursion (λ f. has_any f.1.ops.items ≡ true) xs → AllByRecursion (λ f. is_named f.0 (flat after) ≡ true) xs
      go [] a b = tt
      go (x ∷ xs) a b = (named_flat x.0 after are_after ∙ ap has_any a.0 ∙ b.0, go xs a.1 b.1)

  -- a limit on a number that is read off a client's own operations
  passed_one : (limit : ℕ) (m : List ℕ → List Op → ℕ) (test : List ℕ × Entry → Bool)
      → ((c : List ℕ) (S : List Op) → m c S ≡ m c (of_client c S))
      → ((c : List ℕ) → nat_lt limit (m c []) ≡ false)
      → ((c : List ℕ) (e : Entry) → IsPlainEntry c e → nat_lt limit (m c e.ops.items) ≡ false)
      → ((f : List ℕ × Entry) → IsWorkedOut f.0 f.1 → nat_lt limit (m f.0 f.1.ops.items) ≡ test f)
      → list_any (λ c. nat_lt limit (m c (flat after))) (clients (flat after)) ≡ list_any test fs
  passed_one limit m test reads none fits says =
      any_fresh (λ c. nat_lt limit (m c (flat after))) test (flat after) fs (go fs own_after h.worked_out) named_after
      (λ c absent. ap (nat_lt limit) (read c ∙ ap (m c) (ap or_nothing (find_in_moved c (rows_of es) (rows_of fs) ∙ ap (λ x. or_else x (find client_cmp c (rows_of es))) (find_rows c fs ∙ ap (option_map (λ (e : Entry). e.ops.items)) absent)))) ∙ empty_own limit m c none fits es each)
    where
      read : (c : List ℕ) → m c (flat after) ≡ m c (own c after)
      read c = reads c (flat after) ∙ ap (m c) (of_flat c after are_after)

      go : (xs : List (List ℕ × Entry)) → AllByRecursion (λ f. own f.0 after ≡ f.1.ops.items) xs → AllByRecursion (λ f. IsWorkedOut f.0 f.1) xs → AllByRecursion (λ f. nat_lt limit (m f.0 (flat after)) ≡ test f) xs
      go [] a b = tt
      go (x ∷ xs) a b = (ap (nat_lt limit) (read x.0 ∙ ap (m x.0) a.0) ∙ says x b.0, go xs a.1 b.1)

  -- the first limit that is passed once the fresh entries are in their places
  pub first_passed_after : (count : ℕ) → count ≡ count_named (rows_of es) + count_new (rows_of es) (rows_of fs) → passed_by count fs ≡ first_passed (flat after)
  first_passed_after count is =
      let all : count ≡ length (clients (flat after)) = is ∙ sym (count_moved (rows_of es) (rows_of fs) are h.sorted h.owned h.any) ∙ sym (count_clients after are_after) in
      let pend = passed_one 16384 (λ c S. length (pending c S)) too_many_pending (λ c S. ap length (pending_own c S)) (λ c. refl)
      (λ c e i. not_above 16384 (length (pending c e.ops.items)) (subst (λ n. n ≤ 16384) (ap (λ (v : ClientView). length v.pending) i.worked_out.seen) i.pending))
      (λ f w. ap (nat_lt 16384) (sym (ap (λ (v : ClientView). length v.pending) w.seen))) in
      let park = passed_one 4096 (λ c S. length (parked c S)) too_many_parked (λ c S. ap length (parked_own c S)) (λ c. refl)
      (λ c e i. not_above 4096 (length (parked c e.ops.items)) (subst (λ n. n ≤ 4096) i.worked_out.parked i.parked))
      (λ f w. ap (nat_lt 4096) (sym w.parked)) in
      let except = passed_one 16384 exceptions too_many_exceptions exceptions_own (λ c. no_exceptions c)
      (λ c e i. sym (above_capped (exceptions c e.ops.items)) ∙ not_above 16384 (capped (exceptions c e.ops.items)) (subst (λ n. n ≤ 16384) i.worked_out.exceptions i.exceptions))
      (λ f w. sym (above_capped (exceptions f.0 f.1.ops.items)) ∙ ap (nat_lt 16384) (sym w.exceptions)) in
      ap (λ n. passed_of n (list_any too_many_pending fs) (list_any too_many_parked fs) (list_any too_many_exceptions fs)) all ∙ sym (λ i. passed_of (length (clients (flat after))) (pend i) (park i) (except i)) ∙ passed_of_clients (flat after) (rows_of_clients after are_after.owned)
    where
      not_above : (limit n : ℕ) → n ≤ limit → nat_lt limit n ≡ false
      not_above limit n h = grind (arith, nat_tests)

      above_capped : (n : ℕ) → nat_lt 16384 (capped n) ≡ nat_lt 16384 n
      above_capped n = grind (arith, nat_tests)
