-- The entries that the groups of a delta make.
use Rattle.std.proofs.Common.{◌≡◌, ℕ, Bool, true, false, cond, ◌&&◌, nat_le, if◌then◌else◌, List, [], ◌∷◌, ◌++◌, Option, Some, None, IsTrue, T, refl, sym, ap, ◌∙◌, subst, true≢false, append-nil}
use Rattle.std.specs.List.{AllByRecursion}
use Rattle.std.specs.Option.{option_map}
use Rattle.std.specs.Ordering.{is_lt, eq_by_cmp}
use Rattle.std.specs.FinMap.{find, put, is_sorted}
use Rattle.std.specs.FinMap.Entries.{below_all, find-put}
use Rattle.std.proofs.lemmas.Map.Text.{is_eq-slice_cmp}
use Rattle.std.proofs.lemmas.Map.Views.{tells_apart}
use Rattle.rep_op.specs.declared.op.Op.{Op}
use Rattle.rep_op.specs.declared.op.Op.TheVariants.{Session as OfSession, Put as OfPut, Ack, Retain as OfRetain}
use Rattle.rep_ops.specs.Making.{AreWellMade}
use Rattle.rep_op.specs.Orders.{client_cmp, client_of, is_of_client, AreOfClients}
use Rattle.rep_op.specs.Sets.{same_client, Same}
use Rattle.rep_op.specs.WellMade.{is_well_made}
use Rattle.rep_model.specs.Keep.{keep}
use Rattle.rep_model.proofs.Joins.{all-both, all-weaker}
use Rattle.rep_model.proofs.Readers.{client_total, client_exact, same_client-true}
use Rattle.rep_shared.specs.Rows.{flat, own, or_nothing, has_any, IsOwn, IsOwnOp}
use Rattle.rep_shared.specs.inner.Rows.{of_client}
use Rattle.rep_shared.proofs.Kept.{made_rows}
use Rattle.rep_shared.proofs.Counting.{all_found}
use Rattle.rep_shared.proofs.Flat.{of_flat, found_own}
use Rattle.rep_entry.specs.declared.entry.Entry.{Entry}
use Rattle.rep_entry.specs.declared.fresh.Fresh.{Fresh}
use Rattle.rep_entry.specs.Entries.{entry_row, IsEntry, IsFresh, fresh_row}
use Rattle.rep_state.specs.Tables.{rows_of, AreKept, IsKept, IsEntryTable}
use Rattle.rep_state.specs.inner.Tables.{AreWorkedOut}
use Rattle.rep_state.specs.inner.Groups.{held_of, or_nothing_held, IsKeptAfter, IsGroup, IsGroupOf, AreGroups, fresh_rows, IsRowOf, AreRowsOf}
use Rattle.rep_entry.proofs.Client.{itself}
use Rattle.rep_state.proofs.Entering.{own_entry}
use Rattle.rep_entry.proofs.Empty.{nothing_is}
use Rattle.rep_state.proofs.Rows.{find_rows, table_rows}
use Rattle.rep_entry.proofs.Owning.{found_holds}
use Rattle.rep_state.proofs.Groups.{group_more, group_apart, any_taken, own_keeps, same_kept_by_client, rows_of_groups}
use Rattle.rep_state.proofs.Passing.{AreFresh}

-- ---- what is held of a client

pub held_is : (c : List ℕ) (es : List (List ℕ × Entry)) → AreKept es → IsEntry c (held_of c es)
held_is c es each = at (find client_cmp c es) refl
  where
    at : (o : Option Entry) → find client_cmp c es ≡ o → IsEntry c (or_nothing_held o)
    at None e = nothing_is c
    at (Some x) e = (found_holds client_cmp client_exact IsKept c x es each e).entry_is

-- it is the client's row
pub held_row : (c : List ℕ) (es : List (List ℕ × Entry)) → entry_row c (held_of c es) ≡ own c (rows_of es)
held_row c es = at (find client_cmp c es) ∙ sym (ap or_nothing (find_rows c es))
  where
    at : (o : Option Entry) → entry_row c (or_nothing_held o) ≡ or_nothing (option_map (entry_row c) o)
    at None = refl
    at (Some x) = refl

-- ---- an operation names its client

and_last : (a b : Bool) → IsTrue (a && b) → b ≡ true
and_last true b h = h
and_last false b h = absurd (true≢false (sym h))

pub names_client : (op : Op) → is_of_client op ≡ true → IsTrue (is_well_made op) → IsOwnOp (client_of op) op
names_client (OfSession c stamp counter change) e h = (refl, h)
names_client (OfPut c p) e h = (refl, h)
names_client (OfRetain t k) e h = absurd (true≢false (sym e))
names_client (Ack c origin low high) e h = (ap (λ b. if◌then◌else◌ {A = Option (List ℕ × List ℕ)} b (Some (c, c)) None) (and_last (nat_le 1 origin && nat_le 1 low) (nat_le low high) h), h)

own_of : (c : List ℕ) (N : List Op) → AreOfClients N → AllByRecursion (λ op. IsTrue (is_well_made op)) N → IsOwn c (of_client c N)
own_of c [] e h = tt
own_of c (op ∷ N) e h =
    let rest = own_of c N e.1 h.1 in
    elim (same_client c (client_of op)) as (λ b. same_client c (client_of op) ≡ b → IsOwn c (cond b (op ∷ of_client c N) (of_client c N))) [
      | true ↦ λ t. (subst (λ x. IsOwnOp x op) (sym (same_client-true c (client_of op) t)) (names_client op e.0 h.0), rest)
      | false ↦ λ _. rest
    ] refl

-- ---- groups

-- nothing is said of the client
pub nothing_taken : (c : List ℕ) (es : List (List ℕ × Entry)) (D : List Op) → AreKept es → of_client c D ≡ [] → IsKeptAfter c es D (own c (rows_of es))
nothing_taken c es D each none =
    let ops = own c (rows_of es) in
    subst (λ rest. Same ops (keep (ops ++ rest))) (sym none) (subst (λ S. Same ops (keep S)) (sym (append-nil ops)) (own_keeps c es each))

-- an operation more in the group of its client
pub group_added : (es : List (List ℕ × Entry)) (D : List Op) (op : Op) (groups new : List (List ℕ × Fresh)) (client : List ℕ) (ops : List Op) (fresh : Fresh) → client ≡ client_of op
    → AreGroups es D groups
    → IsKeptAfter client es D ops
    → IsFresh client (held_of client es) fresh × Same (fresh_row client (held_of client es) fresh) (keep (ops ++ op ∷ []))
    → new ≡ put client_cmp client fresh groups
    → AreGroups es (D ++ op ∷ []) new
group_added es D op groups new client ops fresh is h taken more entered q =
    subst (IsGroupOf q es (D ++ op ∷ [])) (sym (ap (find client_cmp q) entered ∙ find-put client_cmp client_total q client fresh groups))
    (elim (eq_by_cmp client_cmp q client) as (λ b. eq_by_cmp client_cmp q client ≡ b → IsGroupOf q es (D ++ op ∷ []) (cond b (Some fresh) (find client_cmp q groups))) [
      | true ↦ λ t. subst (λ x. IsGroup x es (D ++ op ∷ []) fresh) (sym (tells_apart client_exact q client t))
          (group_more client es D op ops fresh (ap (same_client client) (sym is) ∙ itself client) taken more)
      | false ↦ λ f. group_apart q es D op (find client_cmp q groups) (ap (same_client q) (sym is) ∙ sym (is_eq-slice_cmp q client) ∙ f) (h q)
    ] refl)

pub groups_fresh : (es : List (List ℕ × Entry)) (D : List Op) (groups : List (List ℕ × Fresh)) → AreGroups es D groups → T (is_sorted client_cmp groups) → AllByRecursion (λ g. IsFresh g.0 (held_of g.0 es) g.1) groups
groups_fresh es D groups h sorted =
    all-weaker (λ (g : List ℕ × Fresh). find client_cmp g.0 groups ≡ Some g.1) (λ (g : List ℕ × Fresh). IsFresh g.0 (held_of g.0 es) g.1)
    (λ g found. (subst (IsGroupOf g.0 es D) found (h g.0)).fresh_is) groups (all_found client_cmp client_total groups sorted)

below_fresh : (es : List (List ℕ × Entry)) (c : List ℕ) (gs : List (List ℕ × Fresh)) → below_all client_cmp c (fresh_rows es gs) ≡ below_all client_cmp c gs
below_fresh es c [] = refl
below_fresh es c (g ∷ gs) = ap (λ b. is_lt (client_cmp c g.0) && b) (below_fresh es c gs)

sorted_fresh : (es : List (List ℕ × Entry)) (gs : List (List ℕ × Fresh)) → is_sorted client_cmp (fresh_rows es gs) ≡ is_sorted client_cmp gs
sorted_fresh es [] = refl
sorted_fresh es (g ∷ gs) = λ i. below_fresh es g.0 gs i && sorted_fresh es gs i

owned_entries : (fs : List (List ℕ × Entry)) → AreWorkedOut fs → AllByRecursion (λ row. IsOwn row.0 row.1) (rows_of fs)
owned_entries [] h = tt
owned_entries (f ∷ fs) h = (own_entry f.0 f.1 h.0, owned_entries fs h.1)

module _ (es : List (List ℕ × Entry)) (n : ℕ) (t : IsEntryTable es n) (D : List Op) (clients : AreOfClients D) (made : AllByRecursion (λ op. IsTrue (is_well_made op)) D) (fs : List (List ℕ × Entry)) (groups : List (List ℕ × Fresh)) (h : AreGroups es D groups) (sorted : T (is_sorted client_cmp groups)) (is : rows_of fs ≡ fresh_rows es groups) (worked : AreWorkedOut fs) where
  pub fresh_rows_of : AreRowsOf es D (rows_of fs)
  fresh_rows_of = subst (AreRowsOf es D) (sym is) (rows_of_groups es D groups h)

  any_rows : (rows : List (List ℕ × List Op)) → AllByRecursion (λ row. IsOwn row.0 row.1) rows → AllByRecursion (λ row. find client_cmp row.0 (rows_of fs) ≡ Some row.1) rows → AllByRecursion (λ row. has_any row.1 ≡ true) rows
  any_rows [] owned found = tt
  any_rows (row ∷ rows) owned found =
      let r = subst (IsRowOf row.0 es D) found.0 (fresh_rows_of row.0) in (
        any_taken row.0 es D row.1 owned.0 (all-both (IsOwnOp row.0) (own row.0 (rows_of es)) (of_client row.0 D) (found_own row.0 (rows_of es) (table_rows es n t).owned) (own_of row.0 D clients made)) r.1 r.0,
        any_rows rows owned.1 found.1,
      )

  pub are_fresh : AreFresh fs
  are_fresh =
      let in_order : T (is_sorted client_cmp (rows_of fs)) = subst (λ rows. T (is_sorted client_cmp rows)) (sym is) (subst T (sym (sorted_fresh es groups)) sorted) in
      let owned = owned_entries fs worked in
      record {
        sorted = in_order;
        owned = owned;
        any = any_rows (rows_of fs) owned (all_found client_cmp client_total (rows_of fs) in_order);
        worked_out = worked;
      }

-- ---- what is held

module _ (es : List (List ℕ × Entry)) (n : ℕ) (t : IsEntryTable es n) where
  pub made_flat : AreWellMade (flat (rows_of es))
  made_flat = made_rows (rows_of es) (table_rows es n t).owned

  -- what is kept keeps itself
  pub keeps_flat : Same (flat (rows_of es)) (keep (flat (rows_of es)))
  keeps_flat = same_kept_by_client (flat (rows_of es)) (flat (rows_of es)) (λ c. subst (λ S. Same S (keep S)) (sym (of_flat c (rows_of es) (table_rows es n t))) (own_keeps c es t.each))
