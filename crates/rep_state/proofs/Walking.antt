-- The clients of the table in order.
use Rattle.std.proofs.Common.{◌≡◌, ℕ, ◌+◌, ◌≤◌, zero, suc, true, false, cond, List, [], ◌∷◌, ◌++◌, map, filter, length, drop, Some, None, Option, IfSome, MatchOption, Bor, T, refl, sym, ap, ◌∙◌, subst, arith}
use Rattle.std.proofs.lemmas.List.{drop-map}
use Rattle.std.specs.List.{AllByRecursion}
use Rattle.std.specs.Map.{keys_of}
use Rattle.std.specs.FinMap.{find, is_sorted}
use Rattle.rep_op.specs.declared.op.Op.{Op}
use Rattle.rep_op.specs.Orders.{client_cmp}
use Rattle.rep_model.proofs.Readers.{client_total}
use Rattle.rep_shared.specs.Rows.{flat, own, or_nothing, has_any, count_named}
use Rattle.rep_shared.specs.inner.Rows.{named_rows}
use Rattle.rep_shared.proofs.Counting.{all_found}
use Rattle.rep_entry.specs.declared.entry.Entry.{Entry}
use Rattle.rep_state.specs.Tables.{rows_of}
use Rattle.rep_state.specs.inner.Tables.{own_of_all}
use Rattle.rep_state.proofs.Rows.{sorted_rows}

pub keys_rows : (es : List (List ℕ × Entry)) → keys_of (rows_of es) ≡ keys_of es
keys_rows [] = refl
keys_rows (e ∷ es) = ap (λ rest. e.0 ∷ rest) (keys_rows es)

sorted_table : (es : List (List ℕ × Entry)) → T (is_sorted client_cmp es) → T (is_sorted client_cmp (rows_of es))
sorted_table es h = subst T (sym (sorted_rows es)) h

walked : (rows all : List (List ℕ × List Op)) → AllByRecursion (λ row. find client_cmp row.0 all ≡ Some row.1) rows → own_of_all (keys_of rows) all ≡ flat rows
walked [] all h = refl
walked (row ∷ rows) all h = λ i. or_nothing (h.0 i) ++ walked rows all h.1 i

pub walked_all : (es : List (List ℕ × Entry)) → T (is_sorted client_cmp es) → own_of_all (keys_of es) (rows_of es) ≡ flat (rows_of es)
walked_all es h =
    let rows = rows_of es in
    ap (λ cs. own_of_all cs rows) (sym (keys_rows es)) ∙ walked rows rows (all_found client_cmp client_total rows (sorted_table es h))

kept_named : (rows all : List (List ℕ × List Op)) → AllByRecursion (λ row. find client_cmp row.0 all ≡ Some row.1) rows → filter (λ c. has_any (own c all)) (keys_of rows) ≡ named_rows rows
kept_named [] all h = refl
kept_named (row ∷ rows) all h =
    let rest = kept_named rows all h.1 in
    ap (λ o. cond (has_any (or_nothing o)) (row.0 ∷ filter (λ c. has_any (own c all)) (keys_of rows)) (filter (λ c. has_any (own c all)) (keys_of rows))) h.0
    ∙ elim (has_any row.1) as (λ b. cond b (row.0 ∷ filter (λ c. has_any (own c all)) (keys_of rows)) (filter (λ c. has_any (own c all)) (keys_of rows)) ≡ map (λ row. row.0) (cond b (row ∷ filter (λ row. has_any row.1) rows) (filter (λ row. has_any row.1) rows))) [
      | true ↦ ap (λ rest. row.0 ∷ rest) rest
      | false ↦ rest
    ]

pub named_all : (es : List (List ℕ × Entry)) → T (is_sorted client_cmp es) → filter (λ c. has_any (own c (rows_of es))) (keys_of es) ≡ named_rows (rows_of es)
named_all es h =
    let rows = rows_of es in
    ap (filter (λ c. has_any (own c rows))) (sym (keys_rows es)) ∙ kept_named rows rows (all_found client_cmp client_total rows (sorted_table es h))

-- ---- where all have operations

few_named : (rows : List (List ℕ × List Op)) → count_named rows ≤ length rows
few_named [] = omega arith
few_named (row ∷ rows) =
    let rest = few_named rows in
    elim (has_any row.1) as (λ b. length (cond b (row ∷ filter (λ row. has_any row.1) rows) (filter (λ row. has_any row.1) rows)) ≤ suc (length rows)) [
      | true ↦ omega (arith, rest)
      | false ↦ omega (arith, rest)
    ]

all_have : (rows : List (List ℕ × List Op)) → length rows ≤ count_named rows → filter (λ row. has_any row.1) rows ≡ rows
all_have [] h = refl
all_have (row ∷ rows) h =
    elim (has_any row.1) as (λ b. suc (length rows) ≤ length (cond b (row ∷ filter (λ row. has_any row.1) rows) (filter (λ row. has_any row.1) rows)) → cond b (row ∷ filter (λ row. has_any row.1) rows) (filter (λ row. has_any row.1) rows) ≡ row ∷ rows) [
      | true ↦ λ le. ap (λ rest. row ∷ rest) (all_have rows (omega (arith, le)))
      | false ↦ λ le. absurd (let few = few_named rows in omega (arith, le, few))
    ] h

-- as many have operations as have a place: all of them
pub all_named : (es : List (List ℕ × Entry)) → length es ≤ count_named (rows_of es) → named_rows (rows_of es) ≡ keys_of es
all_named es h = ap (map (λ (row : List ℕ × List Op). row.0)) (all_have (rows_of es) (subst (λ n. n ≤ count_named (rows_of es)) (sym (same_length es)) h)) ∙ keys_rows es
  where
    same_length : (es : List (List ℕ × Entry)) → length (rows_of es) ≡ length es
    same_length [] = refl
    same_length (e ∷ es) = ap suc (same_length es)

-- ---- places

all_drop : {A : Type 0} (P : A → Type 0) (n : ℕ) (xs : List A) → AllByRecursion P xs → AllByRecursion P (drop n xs)
all_drop P zero xs h = h
all_drop P (suc n) [] h = h
all_drop P (suc n) (x ∷ xs) h = all_drop P n xs h.1

-- the client at a place is found by its name
pub found_at : (es rest : List (List ℕ × Entry)) (n : ℕ) (c : List ℕ) (e : Entry) → T (is_sorted client_cmp es) → drop n es ≡ (c, e) ∷ rest → find client_cmp c es ≡ Some e
found_at es rest n c e sorted is =
    (subst (AllByRecursion (λ (x : List ℕ × Entry). find client_cmp x.0 es ≡ Some x.1)) is (all_drop (λ (x : List ℕ × Entry). find client_cmp x.0 es ≡ Some x.1) n es (all_found client_cmp client_total es sorted))).0

-- the names from a place on
pub names_from : (n : ℕ) (es : List (List ℕ × Entry)) → drop n (keys_of es) ≡ keys_of (drop n es)
names_from n es = drop-map (λ (e : List ℕ × Entry). e.0) n es

-- ---- a place among all is one among those that have operations, where all have some

pub named_place : (es : List (List ℕ × Entry)) (n : ℕ) (o : Option (Bor (List ℕ) × Bor Entry)) → length es ≤ count_named (rows_of es)
    → MatchOption o (drop n es ≡ []) (λ found. drop n es ≡ (found.0.now, found.1.now) ∷ drop (n + 1) es)
    → MatchOption o (drop n (named_rows (rows_of es)) ≡ []) (λ found. drop n (named_rows (rows_of es)) ≡ found.0.now ∷ drop (n + 1) (named_rows (rows_of es)))
named_place es n None all h = ap (drop n) (all_named es all) ∙ names_from n es ∙ ap keys_of h
named_place es n (Some found) all h =
    ap (drop n) (all_named es all) ∙ names_from n es ∙ ap keys_of h
    ∙ ap (λ cs. found.0.now ∷ cs) (sym (ap (drop (n + 1)) (all_named es all) ∙ names_from (n + 1) es))

pub found_place : (es : List (List ℕ × Entry)) (n : ℕ) (o : Option (Bor (List ℕ) × Bor Entry)) → T (is_sorted client_cmp es)
    → MatchOption o (drop n es ≡ []) (λ found. drop n es ≡ (found.0.now, found.1.now) ∷ drop (n + 1) es)
    → IfSome o (λ found. find client_cmp found.0.now es ≡ Some found.1.now)
found_place es n None sorted h = tt
found_place es n (Some found) sorted h = found_at es (drop (n + 1) es) n found.0.now found.1.now sorted h
