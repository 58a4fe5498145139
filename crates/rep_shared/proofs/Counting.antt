-- Entries of lists in order are found; how many clients have operations after a move; and which
-- limit operations of clients pass.
use Rattle.std.proofs.Common.{◌≡◌, ℕ, suc, ◌+◌, Bool, true, false, not, cond, ◌&&◌, nat_lt, if◌then◌else◌, List, [], ◌∷◌, length, filter, count_by, Some, None, T, refl, sym, ap, ◌∙◌, arith, Ordering, Less, Equal, Greater, is_eq}
use Rattle.std.specs.List.{list_any, AllByRecursion}
use Rattle.std.specs.Ordering.{is_lt, ordering_reverse}
use Rattle.std.specs.Cmp.{IsTotalOrder, tied_itself}
use Rattle.std.specs.FinMap.{find, is_sorted}
use Rattle.std.specs.FinMap.Entries.{below_all}
use Rattle.std.proofs.lemmas.List.Sums.{length-filter}
use Rattle.rep_op.specs.declared.op.Op.{Op}
use Rattle.rep_op.specs.Orders.{client_cmp, AreOfClients}
use Rattle.rep_model.specs.declared.fault.Limit.TheVariants.{Clients, Pending, Parked, Exceptions, Retained as OfRetained}
use Rattle.rep_model.specs.Views.{clients, pending}
use Rattle.rep_model.specs.Topics.{topics}
use Rattle.rep_model.specs.Limits.{parked, exceptions, first_passed}
use Rattle.rep_model.proofs.Lookup.{or_else}
use Rattle.rep_model.proofs.Beside.{no_topics_of}
use Rattle.rep_shared.specs.Rows.{own, or_nothing, rows_with, has_any, count_named, IsOwn}
use Rattle.rep_shared.specs.inner.Rows.{count_new, AreRows}
use Rattle.rep_shared.specs.inner.Tables.{passed_of}
use Rattle.rep_shared.proofs.Flat.{find_in_moved, rows_moved, count_put, find_below, one_if}

first : (a b : Bool) → T (a && b) → T a
first true b p = tt
first false b p = p

second : (a b : Bool) → T (a && b) → T b
second true b p = p
second false b p = absurd p

less : (r : Ordering) → T (is_lt r) → r ≡ Less
less Less p = refl
less Equal p = absurd p
less Greater p = absurd p

module _ {K X : Type 0} (R : K → K → Ordering) (o : IsTotalOrder R) where
  still_found : (e : K × X) (es xs : List (K × X)) → T (below_all R e.0 xs) → AllByRecursion (λ x. find R x.0 es ≡ Some x.1) xs → AllByRecursion (λ x. find R x.0 (e ∷ es) ≡ Some x.1) xs
  still_found e es [] below h = tt
  still_found e es (x ∷ xs) below h =
      let above : R x.0 e.0 ≡ Greater = o.antisymm x.0 e.0 ∙ ap ordering_reverse (less (R e.0 x.0) (first (is_lt (R e.0 x.0)) (below_all R e.0 xs) below)) in
      (ap (λ r. cond (is_eq r) (Some e.1) (find R x.0 es)) above ∙ h.0, still_found e es xs (second (is_lt (R e.0 x.0)) (below_all R e.0 xs) below) h.1)

  -- each entry of a list in order is found
  pub all_found : (es : List (K × X)) → T (is_sorted R es) → AllByRecursion (λ e. find R e.0 es ≡ Some e.1) es
  all_found [] h = tt
  all_found (e ∷ es) h =
      (ap (λ r. cond (is_eq r) (Some e.1) (find R e.0 es)) (tied_itself o e.0), still_found e es es (first (below_all R e.0 es) (is_sorted R es) h) (all_found es (second (below_all R e.0 es) (is_sorted R es) h)))

-- ---- clients

count_head : {A : Type 0} (p : A → Bool) (x : A) (xs : List A) → count_by p (x ∷ xs) ≡ one_if (p x) + count_by p xs
count_head p x xs = sym (length-filter p (x ∷ xs)) ∙ elim (p x) as (λ b. length (cond b (x ∷ filter p xs) (filter p xs)) ≡ one_if b + count_by p xs) [
  | true ↦ ap suc (length-filter p xs) ∙ (let e : suc (count_by p xs) ≡ 1 + count_by p xs = omega arith in e)
  | false ↦ length-filter p xs ∙ (let e : count_by p xs ≡ 0 + count_by p xs = omega arith in e)
]

pub count_moved : (rows fresh : List (List ℕ × List Op)) → AreRows rows → T (is_sorted client_cmp fresh) → AllByRecursion (λ row. IsOwn row.0 row.1) fresh → AllByRecursion (λ row. has_any row.1 ≡ true) fresh → count_named (rows_with rows fresh) ≡ count_named rows + count_new rows fresh
count_moved rows [] are sorted owned any = let e : count_named rows ≡ count_named rows + 0 = omega arith in e
count_moved rows (row ∷ fresh) are sorted owned any =
    let X = rows_with rows fresh in
    let rest = count_moved rows fresh are (second (below_all client_cmp row.0 fresh) (is_sorted client_cmp fresh) sorted) owned.1 any.1 in
    let none = find_below client_cmp row.0 fresh (first (below_all client_cmp row.0 fresh) (is_sorted client_cmp fresh) sorted) in
    let same : own row.0 X ≡ own row.0 rows = ap or_nothing (find_in_moved row.0 rows fresh ∙ ap (λ x. or_else x (find client_cmp row.0 rows)) none) in
    let more = count_put row.0 row.1 X (rows_moved rows fresh are owned.1).sorted in
    let here : one_if (has_any row.1) ≡ 1 = ap one_if any.0 in
    let before : one_if (has_any (own row.0 X)) ≡ one_if (has_any (own row.0 rows)) = ap (λ ops. one_if (has_any ops)) same in
    let head = count_head (λ (row : List ℕ × List Op). not (has_any (own row.0 rows))) row fresh in
    let turned : one_if (not (has_any (own row.0 rows))) + one_if (has_any (own row.0 rows)) ≡ 1 = elim (has_any (own row.0 rows)) as (λ b. one_if (not b) + one_if b ≡ 1) [ true ↦ refl | false ↦ refl ] in
    omega (arith, rest, more, here, before, head, turned)

-- ---- limits

-- operations of clients pass one of the first four limits, or none
pub passed_of_clients : (S : List Op) → AreOfClients S
    → passed_of (length (clients S)) (list_any (λ c. nat_lt 16384 (length (pending c S))) (clients S)) (list_any (λ c. nat_lt 4096 (length (parked c S))) (clients S)) (list_any (λ c. nat_lt 16384 (exceptions c S)) (clients S)) ≡ first_passed S
passed_of_clients S h = go (nat_lt 4096 (length (clients S))) (list_any (λ c. nat_lt 16384 (length (pending c S))) (clients S)) (list_any (λ c. nat_lt 4096 (length (parked c S))) (clients S)) (list_any (λ c. nat_lt 16384 (exceptions c S)) (clients S))
  where
    few : nat_lt 4096 (length (topics S)) ≡ false
    few = ap (λ (ts : List (List ℕ)). nat_lt 4096 (length ts)) (no_topics_of S h)

    go : (p q s v : Bool) → (if p then Some Clients else (if q then Some Pending else (if s then Some Parked else (if v then Some Exceptions else None)))) ≡ (if p then Some Clients else (if q then Some Pending else (if s then Some Parked else (if v then Some Exceptions else (if nat_lt 4096 (length (topics S)) then Some OfRetained else None)))))
    go true q s v = refl
    go false true s v = refl
    go false false true v = refl
    go false false false true = refl
    go false false false false = sym (ap (λ b. if b then Some OfRetained else None) few)
