-- Rows of clients as one list of operations.
use Rattle.std.proofs.Common.{◌≡◌, ℕ, suc, ◌+◌, Bool, true, false, cond, ◌&&◌, ◌||◌, if◌then◌else◌, nat_le, List, [], ◌∷◌, ◌++◌, length, map, filter, Option, Some, None, T, refl, sym, ap, ◌∙◌, subst, arith, Ordering, Less, Equal, Greater, is_eq, append-nil}
use Rattle.std.specs.List.{filter_map, cons_option, AllByRecursion}
use Rattle.std.specs.Ordering.{is_lt, eq_by_cmp}
use Rattle.std.specs.Cmp.{IsTotalOrder, tied_itself}
use Rattle.std.specs.FinMap.{find, put, is_sorted}
use Rattle.std.specs.FinMap.Entries.{below_all, by_order, is_sorted-put, find-put}
use Rattle.std.proofs.lemmas.List.Elements.{filter-append}
use Rattle.std.proofs.lemmas.Map.Lookups.{CmpEqualImpliesEq}
use Rattle.std.proofs.lemmas.Map.Views.{tells_apart}
use Rattle.std.proofs.lemmas.Map.Text.{is_eq-slice_cmp}
use Rattle.rep_op.specs.declared.op.Op.{Op}
use Rattle.rep_op.specs.declared.op.Op.TheVariants.{Session as OfSession, Put as OfPut, Ack, Retain as OfRetain}
use Rattle.rep_op.specs.Orders.{client_cmp, client_of}
use Rattle.rep_op.specs.Sets.{same_client}
use Rattle.rep_model.specs.Views.{named, in_order, names, clients, names_client, is_named}
use Rattle.rep_model.proofs.Lookup.{or_else}
use Rattle.rep_model.proofs.Readers.{client_total, client_exact}
use Rattle.rep_shared.specs.Rows.{flat, own, or_nothing, rows_with, has_any, count_named, IsOwn}
use Rattle.rep_shared.specs.inner.Rows.{AreRows, of_client}
use Rattle.rep_shared.proofs.Single.{is_named_own}

abbrev twice : List ℕ → Option (List ℕ × List ℕ)
twice c = Some (c, c)

none_some : {A P : Type 0} (x : A) → None ≡ Some x → P
none_some x h = cc

-- ---- lists of entries in order

first : (a b : Bool) → T (a && b) → T a
first true b p = tt
first false b p = p

second : (a b : Bool) → T (a && b) → T b
second true b p = p
second false b p = absurd p

both : (a b : Bool) → T a → T b → T (a && b)
both true b p q = q
both false b p q = p

less : (r : Ordering) → T (is_lt r) → r ≡ Less
less Less p = refl
less Equal p = absurd p
less Greater p = absurd p

module _ {K X : Type 0} (R : K → K → Ordering) where
  -- a name below all others is not found
  pub find_below : (q : K) (es : List (K × X)) → T (below_all R q es) → find R q es ≡ None
  find_below q [] h = refl
  find_below q (e ∷ es) h = ap (λ r. cond (is_eq r) (Some e.1) (find R q es)) (less (R q e.0) (first (is_lt (R q e.0)) (below_all R q es) h)) ∙ find_below q es (second (is_lt (R q e.0)) (below_all R q es) h)

  pub find_moved : IsTotalOrder R → (q k : K) (v : X) (es : List (K × X)) (x : Option X) → or_else (cond (eq_by_cmp R q k) (Some v) x) (find R q es) ≡ cond (eq_by_cmp R q k) (Some v) (or_else x (find R q es))
  find_moved o q k v es x = elim (eq_by_cmp R q k) as (λ b. or_else (cond b (Some v) x) (find R q es) ≡ cond b (Some v) (or_else x (find R q es))) [ true ↦ refl | false ↦ refl ]

-- what holds of each row holds of each after a change of one
pub all_put : {K X : Type 0} (R : K → K → Ordering) → CmpEqualImpliesEq R → (P : K → X → Type 0) (k : K) (v : X) (es : List (K × X)) → P k v → AllByRecursion (λ e. P e.0 e.1) es → AllByRecursion (λ e. P e.0 e.1) (put R k v es)
all_put R exact P k v [] here h = (here, tt)
all_put R exact P k v (e ∷ es) here h =
    elim (R k e.0) as (λ r. R k e.0 ≡ r → AllByRecursion (λ e. P e.0 e.1) (by_order r ((k, v) ∷ e ∷ es) ((e.0, v) ∷ es) (e ∷ put R k v es))) [
      | Less ↦ λ _. (here, h)
      | Equal ↦ λ t. (subst (λ x. P x v) (exact k e.0 t) here, h.1)
      | Greater ↦ λ _. (h.0, all_put R exact P k v es here h.1)
    ] refl

-- and of those that are left of them
pub all_filter : {A : Type 0} (P : A → Type 0) (p : A → Bool) (xs : List A) → AllByRecursion P xs → AllByRecursion P (filter p xs)
all_filter P p [] h = tt
all_filter P p (x ∷ xs) h =
    let rest = all_filter P p xs h.1 in
    elim (p x) as (λ b. AllByRecursion P (cond b (x ∷ filter p xs) (filter p xs))) [ true ↦ (h.0, rest) | false ↦ rest ]

-- ---- the operations of one client

pub named_client : (d : List ℕ) (op : Op) → named op ≡ Some (d, d) → client_of op ≡ d
named_client d (OfSession c stamp counter change) e = ap (λ (x : Option (List ℕ × List ℕ)). elim x [ None ↦ c | Some p ↦ p.0 ]) e
named_client d (OfPut c p) e = ap (λ (x : Option (List ℕ × List ℕ)). elim x [ None ↦ c | Some p ↦ p.0 ]) e
named_client d (Ack c origin low high) e =
    elim (nat_le low high) as (λ b. (if b then twice c else None) ≡ twice d → c ≡ d) [
      | true ↦ λ e. ap (λ (x : Option (List ℕ × List ℕ)). elim x [ None ↦ c | Some p ↦ p.0 ]) e
      | false ↦ λ e. none_some (d, d) e
    ] e
named_client d (OfRetain t k) e = none_some (d, d) e

same_itself : (c : List ℕ) → same_client c c ≡ true
same_itself c = sym (is_eq-slice_cmp c c) ∙ ap is_eq (tied_itself client_total c)

own_all : (c : List ℕ) (ops : List Op) → IsOwn c ops → of_client c ops ≡ ops
own_all c [] h = refl
own_all c (op ∷ ops) h =
    ap (λ b. cond b (op ∷ of_client c ops) (of_client c ops)) (ap (same_client c) (named_client c op h.0.0) ∙ same_itself c) ∙ ap (λ rest. op ∷ rest) (own_all c ops h.1)

own_other : (c d : List ℕ) (ops : List Op) → IsOwn d ops → same_client c d ≡ false → of_client c ops ≡ []
own_other c d [] h e = refl
own_other c d (op ∷ ops) h e =
    ap (λ b. cond b (op ∷ of_client c ops) (of_client c ops)) (ap (same_client c) (named_client d op h.0.0) ∙ e) ∙ own_other c d ops h.1 e

tail_rows : (row : List ℕ × List Op) (rows : List (List ℕ × List Op)) → AreRows (row ∷ rows) → AreRows rows
tail_rows row rows h = record { sorted = second (below_all client_cmp row.0 rows) (is_sorted client_cmp rows) h.sorted; owned = h.owned.1 }

-- of the client, the rows have what they have in its row
pub of_flat : (c : List ℕ) (rows : List (List ℕ × List Op)) → AreRows rows → of_client c (flat rows) ≡ own c rows
of_flat c [] h = refl
of_flat c (row ∷ rows) h =
    let rest = of_flat c rows (tail_rows row rows h) in
    filter-append (λ op. same_client c (client_of op)) row.1 (flat rows)
    ∙ elim (eq_by_cmp client_cmp c row.0) as (λ b. eq_by_cmp client_cmp c row.0 ≡ b → of_client c row.1 ++ of_client c (flat rows) ≡ or_nothing (cond b (Some row.1) (find client_cmp c rows))) [
      | true ↦ λ t.
          let same = tells_apart client_exact c row.0 t in
          let none = find_below client_cmp c rows (subst (λ x. T (below_all client_cmp x rows)) (sym same) (first (below_all client_cmp row.0 rows) (is_sorted client_cmp rows) h.sorted)) in
          (λ i. own_all c row.1 (subst (λ x. IsOwn x row.1) (sym same) h.owned.0) i ++ (rest ∙ ap or_nothing none) i) ∙ append-nil row.1
      | false ↦ λ t. (λ i. own_other c row.0 row.1 h.owned.0 (sym (is_eq-slice_cmp c row.0) ∙ t) i ++ rest i)
    ] refl

-- ---- the clients

doubles : List (List ℕ × List Op) → List (List ℕ × List ℕ)
doubles rows = map (λ row. (row.0, row.0)) (filter (λ row. has_any row.1) rows)

below_doubles : (c : List ℕ) (rows : List (List ℕ × List Op)) → T (below_all client_cmp c rows) → T (below_all client_cmp c (doubles rows))
unfolding doubles
below_doubles c [] h = tt
below_doubles c (row ∷ rows) h =
    let rest = below_doubles c rows (second (is_lt (client_cmp c row.0)) (below_all client_cmp c rows) h) in
    elim (has_any row.1) as (λ b. T (below_all client_cmp c (map (λ row. (row.0, row.0)) (cond b (row ∷ filter (λ row. has_any row.1) rows) (filter (λ row. has_any row.1) rows))))) [
      | true ↦ both (is_lt (client_cmp c row.0)) (below_all client_cmp c (doubles rows)) (first (is_lt (client_cmp c row.0)) (below_all client_cmp c rows) h) rest
      | false ↦ rest
    ]

put_front : (c : List ℕ) (es : List (List ℕ × List ℕ)) → T (below_all client_cmp c es) → put client_cmp c c es ≡ (c, c) ∷ es
put_front c [] h = refl
put_front c (e ∷ es) h = ap (λ r. by_order r ((c, c) ∷ e ∷ es) ((e.0, c) ∷ es) (e ∷ put client_cmp c c es)) (less (client_cmp c e.0) (first (is_lt (client_cmp c e.0)) (below_all client_cmp c es) h))

put_again : (c : List ℕ) (es : List (List ℕ × List ℕ)) → put client_cmp c c ((c, c) ∷ es) ≡ (c, c) ∷ es
put_again c es = ap (λ r. by_order r ((c, c) ∷ (c, c) ∷ es) ((c, c) ∷ es) ((c, c) ∷ put client_cmp c c es)) (tied_itself client_total c)

with_row : (c : List ℕ) (ops S : List Op) (es : List (List ℕ × List ℕ)) → IsOwn c ops → T (below_all client_cmp c es) → in_order client_cmp (filter_map named S) ≡ es → in_order client_cmp (filter_map named (ops ++ S)) ≡ cond (has_any ops) ((c, c) ∷ es) es
with_row c [] S es own below h = h
with_row c (op ∷ ops) S es own below h =
    ap (λ o. in_order client_cmp (cons_option o (filter_map named (ops ++ S)))) own.0.0
    ∙ ap (put client_cmp c c) (with_row c ops S es own.1 below h)
    ∙ elim ops as (λ rest. put client_cmp c c (cond (has_any rest) ((c, c) ∷ es) es) ≡ (c, c) ∷ es) [
      | [] ↦ put_front c es below
      | x ∷ xs ↦ put_again c es
    ]

clients_doubles : (rows : List (List ℕ × List Op)) → AreRows rows → in_order client_cmp (filter_map named (flat rows)) ≡ doubles rows
unfolding doubles
clients_doubles [] h = refl
clients_doubles (row ∷ rows) h =
    with_row row.0 row.1 (flat rows) (doubles rows) h.owned.0 (below_doubles row.0 rows (first (below_all client_cmp row.0 rows) (is_sorted client_cmp rows) h.sorted)) (clients_doubles rows (tail_rows row rows h))
    ∙ elim (has_any row.1) as (λ b. cond b ((row.0, row.0) ∷ doubles rows) (doubles rows) ≡ map (λ row. (row.0, row.0)) (cond b (row ∷ filter (λ row. has_any row.1) rows) (filter (λ row. has_any row.1) rows))) [ true ↦ refl | false ↦ refl ]

names_doubles : (rows : List (List ℕ × List Op)) → names (doubles rows) ≡ map (λ row. row.0) (filter (λ row. has_any row.1) rows)
unfolding doubles
names_doubles rows = again (filter (λ row. has_any row.1) rows)
  where
    again : (rows : List (List ℕ × List Op)) → names (map (λ row. (row.0, row.0)) rows) ≡ map (λ row. row.0) rows
    again [] = refl
    again (row ∷ rows) = ap (λ rest. row.0 ∷ rest) (again rows)

-- the clients are those of the rows that have operations
pub clients_flat : (rows : List (List ℕ × List Op)) → AreRows rows → clients (flat rows) ≡ map (λ row. row.0) (filter (λ row. has_any row.1) rows)
clients_flat rows h = ap names (clients_doubles rows h) ∙ names_doubles rows

length_map : {A B : Type 0} (f : A → B) (xs : List A) → length (map f xs) ≡ length xs
length_map f [] = refl
length_map f (x ∷ xs) = ap suc (length_map f xs)

pub count_clients : (rows : List (List ℕ × List Op)) → AreRows rows → length (clients (flat rows)) ≡ count_named rows
count_clients rows h = ap length (clients_flat rows h) ∙ length_map (λ row. row.0) (filter (λ row. has_any row.1) rows)

-- whether a client is named
names_own : (c : List ℕ) (op : Op) → named op ≡ Some (c, c) → names_client c op ≡ true
names_own c (OfSession d stamp counter change) e = ap (same_client c) (named_client c (OfSession d stamp counter change) e) ∙ same_itself c
names_own c (OfPut d p) e = ap (same_client c) (named_client c (OfPut d p) e) ∙ same_itself c
names_own c (Ack d origin low high) e =
    ap (λ x. same_client c x && nat_le low high) (named_client c (Ack d origin low high) e)
    ∙ ap (λ b. b && nat_le low high) (same_itself c)
    ∙ elim (nat_le low high) as (λ b. (if b then twice d else None) ≡ twice c → b ≡ true) [ true ↦ λ _. refl | false ↦ λ e. none_some (c, c) e ] e
names_own c (OfRetain t k) e = none_some (c, c) e

pub named_any : (c : List ℕ) (ops : List Op) → IsOwn c ops → is_named c ops ≡ has_any ops
named_any c [] h = refl
named_any c (op ∷ ops) h = ap (λ b. b || is_named c ops) (names_own c op h.0.0)

pub found_own : (c : List ℕ) (rows : List (List ℕ × List Op)) → AllByRecursion (λ row. IsOwn row.0 row.1) rows → IsOwn c (own c rows)
found_own c [] h = tt
found_own c (row ∷ rows) h =
    elim (eq_by_cmp client_cmp c row.0) as (λ b. eq_by_cmp client_cmp c row.0 ≡ b → IsOwn c (or_nothing (cond b (Some row.1) (find client_cmp c rows)))) [
      | true ↦ λ t. subst (λ x. IsOwn x row.1) (sym (tells_apart client_exact c row.0 t)) h.0
      | false ↦ λ _. found_own c rows h.1
    ] refl

pub named_flat : (c : List ℕ) (rows : List (List ℕ × List Op)) → AreRows rows → is_named c (flat rows) ≡ has_any (own c rows)
named_flat c rows h = is_named_own c (flat rows) ∙ ap (is_named c) (of_flat c rows h) ∙ named_any c (own c rows) (found_own c rows h.owned)

-- ---- rows after a move

pub find_in_moved : (c : List ℕ) (rows fresh : List (List ℕ × List Op)) → find client_cmp c (rows_with rows fresh) ≡ or_else (find client_cmp c fresh) (find client_cmp c rows)
find_in_moved c rows [] = refl
find_in_moved c rows (row ∷ fresh) =
    find-put client_cmp client_total c row.0 row.1 (rows_with rows fresh)
    ∙ ap (cond (eq_by_cmp client_cmp c row.0) (Some row.1)) (find_in_moved c rows fresh)
    ∙ sym (find_moved client_cmp client_total c row.0 row.1 rows (find client_cmp c fresh))

pub rows_put : (c : List ℕ) (ops : List Op) (rows : List (List ℕ × List Op)) → IsOwn c ops → AreRows rows → AreRows (put client_cmp c ops rows)
rows_put c ops rows is h = record {
  sorted = is_sorted-put client_cmp client_total c ops rows h.sorted;
  owned = all_put client_cmp client_exact IsOwn c ops rows is h.owned;
}

pub rows_moved : (rows fresh : List (List ℕ × List Op)) → AreRows rows → AllByRecursion (λ row. IsOwn row.0 row.1) fresh → AreRows (rows_with rows fresh)
rows_moved rows [] h owned = h
rows_moved rows (row ∷ fresh) h owned = rows_put row.0 row.1 (rows_with rows fresh) owned.0 (rows_moved rows fresh h owned.1)

-- the last fresh row first
pub moved_last : (rows fresh : List (List ℕ × List Op)) (row : List ℕ × List Op) → rows_with rows (fresh ++ row ∷ []) ≡ rows_with (put client_cmp row.0 row.1 rows) fresh
moved_last rows [] row = refl
moved_last rows (other ∷ fresh) row = ap (put client_cmp other.0 other.1) (moved_last rows fresh row)

-- one row more or another in its place: how many have operations
abbrev pub one_if : Bool → ℕ
one_if b = if b then 1 else 0

pub head_count : (row : List ℕ × List Op) (rows : List (List ℕ × List Op)) → count_named (row ∷ rows) ≡ one_if (has_any row.1) + count_named rows
head_count row rows = elim (has_any row.1) as (λ b. length (cond b (row ∷ filter (λ row. has_any row.1) rows) (filter (λ row. has_any row.1) rows)) ≡ one_if b + count_named rows) [ true ↦ omega arith | false ↦ omega arith ]

pub count_put : (c : List ℕ) (ops : List Op) (rows : List (List ℕ × List Op)) → T (is_sorted client_cmp rows) → count_named (put client_cmp c ops rows) + one_if (has_any (own c rows)) ≡ count_named rows + one_if (has_any ops)
count_put c ops [] h = ap (λ n. n + 0) (head_count (c, ops) []) ∙ (let e : (one_if (has_any ops) + 0) + 0 ≡ 0 + one_if (has_any ops) = omega arith in e)
count_put c ops (row ∷ rows) h =
    let head = head_count row rows in
    elim (client_cmp c row.0) as (λ r. client_cmp c row.0 ≡ r → count_named (by_order r ((c, ops) ∷ row ∷ rows) ((row.0, ops) ∷ rows) (row ∷ put client_cmp c ops rows)) + one_if (has_any (or_nothing (cond (is_eq r) (Some row.1) (find client_cmp c rows)))) ≡ count_named (row ∷ rows) + one_if (has_any ops)) [
      | Less ↦ λ t.
          let none = find_below client_cmp c (row ∷ rows) (both (is_lt (client_cmp c row.0)) (below_all client_cmp c rows) (subst (λ r. T (is_lt r)) (sym t) tt) (below_less c row.0 rows t (first (below_all client_cmp row.0 rows) (is_sorted client_cmp rows) h))) in
          let gone : find client_cmp c rows ≡ None = sym (ap (λ r. cond (is_eq r) (Some row.1) (find client_cmp c rows)) t) ∙ none in
          ap (λ o. count_named ((c, ops) ∷ row ∷ rows) + one_if (has_any (or_nothing o))) gone
          ∙ ap (λ n. n + 0) (head_count (c, ops) (row ∷ rows))
          ∙ (let e : (one_if (has_any ops) + count_named (row ∷ rows)) + 0 ≡ count_named (row ∷ rows) + one_if (has_any ops) = omega arith in e)
      | Equal ↦ λ _. ap (λ n. n + one_if (has_any row.1)) (head_count (row.0, ops) rows)
          ∙ (let e : (one_if (has_any ops) + count_named rows) + one_if (has_any row.1) ≡ (one_if (has_any row.1) + count_named rows) + one_if (has_any ops) = omega arith in e)
          ∙ ap (λ n. n + one_if (has_any ops)) (sym head)
      | Greater ↦ λ _.
          let rest = count_put c ops rows (second (below_all client_cmp row.0 rows) (is_sorted client_cmp rows) h) in
          ap (λ n. n + one_if (has_any (own c rows))) (head_count row (put client_cmp c ops rows))
          ∙ (let e : (one_if (has_any row.1) + count_named (put client_cmp c ops rows)) + one_if (has_any (own c rows)) ≡ (one_if (has_any row.1) + count_named rows) + one_if (has_any ops) = omega (arith, rest) in e)
          ∙ ap (λ n. n + one_if (has_any ops)) (sym head)
    ] refl
  where
    below_less : (x y : List ℕ) (es : List (List ℕ × List Op)) → client_cmp x y ≡ Less → T (below_all client_cmp y es) → T (below_all client_cmp x es)
    below_less x y [] p h = tt
    below_less x y (e ∷ es) p h =
        both (is_lt (client_cmp x e.0)) (below_all client_cmp x es)
        (subst (λ r. T (is_lt r)) (sym (client_total.trans x y e.0 p (less (client_cmp y e.0) (first (is_lt (client_cmp y e.0)) (below_all client_cmp y es) h)))) tt)
        (below_less x y es p (second (is_lt (client_cmp y e.0)) (below_all client_cmp y es) h))
