-- A look-up in the table is one in its rows.
use Rattle.std.proofs.Common.{◌≡◌, ℕ, Bool, true, false, cond, ◌&&◌, if◌then◌else◌, List, [], ◌∷◌, Option, Some, None, is_some, T, refl, sym, ap, ◌∙◌, subst, true≢false, Less, Equal, Greater, Vec, Global}
use Rattle.std.specs.List.{AllByRecursion}
use Rattle.std.specs.Option.{option_map}
use Rattle.std.specs.Ordering.{is_lt, eq_by_cmp}
use Rattle.std.specs.Map.{lookup, set_value}
use Rattle.std.specs.FinMap.{find, put, is_sorted}
use Rattle.std.specs.FinMap.Entries.{below_all, by_order, find-put, is_sorted-put, same_entries}
use Rattle.std.specs.Prelude.{bytes_eq}
use Rattle.std.specs.Cmp.Lexicographic.{nat_list_eq_equiv}
use Rattle.std.proofs.lemmas.Map.Text.{is_eq-slice_cmp}
use Rattle.std.proofs.lemmas.Map.Views.{tells_apart}
use Rattle.rep_op.specs.Orders.{client_cmp}
use Rattle.rep_model.specs.Views.{in_order}
use Rattle.rep_model.proofs.Lookup.{find-in_order, is_sorted-in_order}
use Rattle.rep_model.proofs.Readers.{client_total, client_exact, same_client-true}
use Rattle.rep_shared.specs.Rows.{IsOwn}
use Rattle.rep_shared.specs.inner.Rows.{AreRows}
use Rattle.rep_entry.specs.declared.entry.Entry.{Entry}
use Rattle.rep_entry.specs.Entries.{entry_row}
use Rattle.rep_state.specs.Tables.{plain_of, by_client, rows_of, AreKept, IsEntryTable}
use Rattle.rep_state.proofs.Entering.{own_entry}
use Rattle.indexmap.specs.IndexMap.{insert_entry}

-- ---- entries and rows

pub find_rows : (c : List ℕ) (es : List (List ℕ × Entry)) → find client_cmp c (rows_of es) ≡ option_map (entry_row c) (find client_cmp c es)
find_rows c [] = refl
find_rows c (e ∷ es) =
    elim (eq_by_cmp client_cmp c e.0) as (λ b. eq_by_cmp client_cmp c e.0 ≡ b → cond b (Some (entry_row e.0 e.1)) (find client_cmp c (rows_of es)) ≡ option_map (entry_row c) (cond b (Some e.1) (find client_cmp c es))) [
      | true ↦ λ t. ap (λ d. Some (entry_row d e.1)) (sym (tells_apart client_exact c e.0 t))
      | false ↦ λ _. find_rows c es
    ] refl

pub rows_put : (c : List ℕ) (x : Entry) (es : List (List ℕ × Entry)) → rows_of (put client_cmp c x es) ≡ put client_cmp c (entry_row c x) (rows_of es)
rows_put c x [] = refl
rows_put c x (e ∷ es) =
    elim (client_cmp c e.0) as (λ r. client_cmp c e.0 ≡ r → rows_of (by_order r ((c, x) ∷ e ∷ es) ((e.0, x) ∷ es) (e ∷ put client_cmp c x es)) ≡ by_order r ((c, entry_row c x) ∷ (e.0, entry_row e.0 e.1) ∷ rows_of es) ((e.0, entry_row c x) ∷ rows_of es) ((e.0, entry_row e.0 e.1) ∷ put client_cmp c (entry_row c x) (rows_of es))) [
      | Less ↦ λ _. refl
      | Equal ↦ λ t. ap (λ d. (e.0, entry_row d x) ∷ rows_of es) (sym (client_exact c e.0 t))
      | Greater ↦ λ _. ap (λ rest. (e.0, entry_row e.0 e.1) ∷ rest) (rows_put c x es)
    ] refl

below_rows : (c : List ℕ) (es : List (List ℕ × Entry)) → below_all client_cmp c (rows_of es) ≡ below_all client_cmp c es
below_rows c [] = refl
below_rows c (e ∷ es) = ap (λ b. is_lt (client_cmp c e.0) && b) (below_rows c es)

pub sorted_rows : (es : List (List ℕ × Entry)) → is_sorted client_cmp (rows_of es) ≡ is_sorted client_cmp es
sorted_rows [] = refl
sorted_rows (e ∷ es) = λ i. below_rows e.0 es i && sorted_rows es i

owned_rows : (es : List (List ℕ × Entry)) → AreKept es → AllByRecursion (λ row. IsOwn row.0 row.1) (rows_of es)
owned_rows [] h = tt
owned_rows (e ∷ es) h = (own_entry e.0 e.1 h.0.entry_is, owned_rows es h.1)

pub table_rows : (es : List (List ℕ × Entry)) (n : ℕ) → IsEntryTable es n → AreRows (rows_of es)
table_rows es n h = record { sorted = subst T (sym (sorted_rows es)) h.sorted; owned = owned_rows es h.each }

-- ---- look-ups by octets

module _ {X : Type 0} where
  -- a look-up by equal octets is one by the order
  pub lookup_client : (c : List ℕ) (es : List (List ℕ × X)) → lookup (bytes_eq c) es ≡ find client_cmp c es
  lookup_client c [] = refl
  lookup_client c (e ∷ es) = λ i. cond (sym (is_eq-slice_cmp c e.0) i) (Some e.1) (lookup_client c es i)

  pub found_in_order : (c : List ℕ) (es : List (List ℕ × X)) → lookup (bytes_eq c) es ≡ find client_cmp c (in_order client_cmp es)
  found_in_order c es = lookup_client c es ∙ sym (find-in_order client_cmp client_total c es)

  -- where one client has another value and all others have theirs
  pub put_in_order : (c : List ℕ) (x : X) (es new : List (List ℕ × X)) → ((q : List ℕ) → lookup (bytes_eq q) new ≡ cond (bytes_eq c q) (Some x) (lookup (bytes_eq q) es)) → in_order client_cmp new ≡ put client_cmp c x (in_order client_cmp es)
  put_in_order c x es new h = same_entries client_cmp client_total client_exact (in_order client_cmp new) (put client_cmp c x (in_order client_cmp es))
      (is_sorted-in_order client_cmp client_total new)
      (is_sorted-put client_cmp client_total c x (in_order client_cmp es) (is_sorted-in_order client_cmp client_total es))
      (λ q. sym (found_in_order q new) ∙ h q ∙ (λ i. cond (turned q i) (Some x) (found_in_order q es i)) ∙ sym (find-put client_cmp client_total q c x (in_order client_cmp es)))
    where
      turned : (q : List ℕ) → bytes_eq c q ≡ eq_by_cmp client_cmp q c
      turned q = nat_list_eq_equiv.symm c q ∙ sym (is_eq-slice_cmp q c)

  -- an insertion at a list of octets
  inserted : (k q : List ℕ) (x : X) (es : List (List ℕ × X)) → lookup (bytes_eq q) (insert_entry bytes_eq es k x) ≡ cond (bytes_eq k q) (Some x) (lookup (bytes_eq q) es)
  inserted k q x [] = ap (λ b. cond b (Some x) None) (nat_list_eq_equiv.symm q k)
  inserted k q x (e ∷ es) =
      elim (bytes_eq k e.0) as (λ b. bytes_eq k e.0 ≡ b → lookup (bytes_eq q) (if b then (e.0, x) ∷ es else e ∷ insert_entry bytes_eq es k x) ≡ cond (bytes_eq k q) (Some x) (cond (bytes_eq q e.0) (Some e.1) (lookup (bytes_eq q) es))) [
        | true ↦ λ t.
            ap (λ b. cond b (Some x) (lookup (bytes_eq q) es)) (ap (bytes_eq q) (sym (same_client-true k e.0 t)) ∙ nat_list_eq_equiv.symm q k)
            ∙ both (bytes_eq k q) (bytes_eq q e.0) (nat_list_eq_equiv.symm k q ∙ ap (bytes_eq q) (same_client-true k e.0 t)) x e.1 (lookup (bytes_eq q) es)
        | false ↦ λ f. elim (bytes_eq q e.0) as (λ b. bytes_eq q e.0 ≡ b → cond b (Some e.1) (lookup (bytes_eq q) (insert_entry bytes_eq es k x)) ≡ cond (bytes_eq k q) (Some x) (cond b (Some e.1) (lookup (bytes_eq q) es))) [
          | true ↦ λ t. ap (λ b. cond b (Some x) (Some e.1)) (sym (ap (bytes_eq k) (same_client-true q e.0 t) ∙ f))
          | false ↦ λ _. inserted k q x es
        ] refl
      ] refl
    where
      both : (a b : Bool) → a ≡ b → (x y : X) (o : Option X) → cond a (Some x) o ≡ cond a (Some x) (cond b (Some y) o)
      both true b e x y o = refl
      both false true e x y o = absurd (true≢false (sym e))
      both false false e x y o = refl

-- ---- the table

plain_inserted : (k : Vec ℕ Global) (x : Entry) (es : List (Vec ℕ Global × Entry)) → plain_of (insert_entry (λ (a b : Vec ℕ Global). bytes_eq a.items b.items) es k x) ≡ insert_entry bytes_eq (plain_of es) k.items x
plain_inserted k x [] = refl
plain_inserted k x (e ∷ es) = elim (bytes_eq k.items e.0.items) as (λ b. plain_of (if b then (e.0, x) ∷ es else e ∷ insert_entry (λ (a b : Vec ℕ Global). bytes_eq a.items b.items) es k x) ≡ (if b then (e.0.items, x) ∷ plain_of es else (e.0.items, e.1) ∷ insert_entry bytes_eq (plain_of es) k.items x)) [
  | true ↦ refl
  | false ↦ ap (λ rest. (e.0.items, e.1) ∷ rest) (plain_inserted k x es)
]

-- an insertion puts the entry in the client's place
pub put_by_client : (k : Vec ℕ Global) (x : Entry) (es new : List (Vec ℕ Global × Entry)) → new ≡ insert_entry (λ (a b : Vec ℕ Global). bytes_eq a.items b.items) es k x → by_client new ≡ put client_cmp k.items x (by_client es)
put_by_client k x es new is = put_in_order k.items x (plain_of es) (plain_of new) (λ q. ap (λ es. lookup (bytes_eq q) (plain_of es)) is ∙ ap (lookup (bytes_eq q)) (plain_inserted k x es) ∙ inserted k.items q x (plain_of es))

lookup_plain : (c : List ℕ) (es : List (Vec ℕ Global × Entry)) → lookup (λ (k : Vec ℕ Global). bytes_eq c k.items) es ≡ lookup (bytes_eq c) (plain_of es)
lookup_plain c [] = refl
lookup_plain c (e ∷ es) = ap (cond (bytes_eq c e.0.items) (Some e.1)) (lookup_plain c es)

-- a look-up finds the client's entry
pub found_by_client : (c : List ℕ) (es : List (Vec ℕ Global × Entry)) → lookup (λ (k : Vec ℕ Global). bytes_eq c k.items) es ≡ find client_cmp c (by_client es)
found_by_client c es = lookup_plain c es ∙ found_in_order c (plain_of es)

-- a write in a client's place puts the entry there
plain_written : (c : List ℕ) (x : Entry) (es : List (Vec ℕ Global × Entry)) → is_some (lookup (λ (k : Vec ℕ Global). bytes_eq c k.items) es) ≡ true → plain_of (set_value (λ (k : Vec ℕ Global). bytes_eq c k.items) es x) ≡ insert_entry bytes_eq (plain_of es) c x
plain_written c x [] h = absurd (true≢false (sym h))
plain_written c x (e ∷ es) h = elim (bytes_eq c e.0.items) as (λ b. is_some (cond b (Some e.1) (lookup (λ (k : Vec ℕ Global). bytes_eq c k.items) es)) ≡ true → plain_of (cond b ((e.0, x) ∷ es) (e ∷ set_value (λ (k : Vec ℕ Global). bytes_eq c k.items) es x)) ≡ (if b then (e.0.items, x) ∷ plain_of es else (e.0.items, e.1) ∷ insert_entry bytes_eq (plain_of es) c x)) [
  | true ↦ λ _. refl
  | false ↦ λ there. ap (λ rest. (e.0.items, e.1) ∷ rest) (plain_written c x es there)
] h

pub written_by_client : (c : List ℕ) (x : Entry) (es new : List (Vec ℕ Global × Entry)) → is_some (lookup (λ (k : Vec ℕ Global). bytes_eq c k.items) es) ≡ true → new ≡ set_value (λ (k : Vec ℕ Global). bytes_eq c k.items) es x → by_client new ≡ put client_cmp c x (by_client es)
written_by_client c x es new there is = put_in_order c x (plain_of es) (plain_of new) (λ q. ap (λ es. lookup (bytes_eq q) (plain_of es)) is ∙ ap (lookup (bytes_eq q)) (plain_written c x es there) ∙ inserted c q x (plain_of es))
