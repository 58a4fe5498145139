-- Groups of clients, and the rows that they make.
use Rattle.std.proofs.Common.{◌≡◌, ℕ, Bool, true, false, not, cond, List, [], ◌∷◌, ◌++◌, Option, Some, None, refl, sym, ap, ◌∙◌, subst, append-nil, append_assoc}
use Rattle.std.specs.Option.{option_map}
use Rattle.std.specs.List.{AllByRecursion}
use Rattle.std.specs.Ordering.{eq_by_cmp}
use Rattle.std.specs.FinMap.{find}
use Rattle.std.proofs.lemmas.Map.Views.{tells_apart}
use Rattle.std.proofs.lemmas.List.Elements.{filter-append}
use Rattle.rep_op.specs.declared.op.Op.{Op}
use Rattle.rep_op.specs.declared.op.Retained.{Retained}
use Rattle.rep_op.specs.Orders.{client_cmp, client_of, clock_cmp}
use Rattle.rep_op.specs.Sets.{same_client, Same}
use Rattle.rep_model.specs.Views.{greatest, names}
use Rattle.rep_model.specs.Keep.{keep, is_below, is_outdone}
use Rattle.rep_model.proofs.Lookup.{or_else}
use Rattle.rep_model.proofs.Readers.{client_exact, operation_at_keep, put_at_keep, is_acknowledged_keep, retain_at_keep}
use Rattle.rep_model.proofs.Joins.{counts-between}
use Rattle.rep_model.proofs.Named.{is_named-counts}
use Rattle.rep_shared.specs.Rows.{flat, own, or_nothing, rows_with, has_any, IsOwn}
use Rattle.rep_shared.specs.inner.Rows.{of_client, AreRows}
use Rattle.rep_shared.proofs.Single.{operation_at_own, put_at_own, is_acknowledged_own, visible_own, retains_own, retain_at_own}
use Rattle.rep_shared.proofs.Flat.{of_flat, find_in_moved, rows_moved, named_any}
use Rattle.rep_entry.specs.declared.entry.Entry.{Entry}
use Rattle.rep_entry.specs.declared.fresh.Fresh.{Fresh}
use Rattle.rep_entry.specs.Entries.{entry_row, IsFresh, fresh_row}
use Rattle.rep_state.specs.Tables.{rows_of, AreKept, IsKept}
use Rattle.rep_state.specs.inner.Groups.{held_of, IsKeptAfter, IsGroup, IsGroupOf, AreGroups, fresh_rows, IsRowOf, AreRowsOf}
use Rattle.rep_entry.proofs.Steps.{kept_step, kept_between}
use Rattle.rep_state.proofs.Entering.{keeps_row}
use Rattle.rep_state.proofs.Rows.{find_rows}
use Rattle.rep_entry.proofs.Owning.{found_holds}

-- ---- one operation more in its client's group

behind : (c : List ℕ) (D : List Op) (op : Op) (b : Bool) → same_client c (client_of op) ≡ b → of_client c (D ++ op ∷ []) ≡ of_client c D ++ cond b (op ∷ []) []
behind c D op b e = filter-append (λ op. same_client c (client_of op)) D (op ∷ []) ∙ ap (λ b. of_client c D ++ cond b (op ∷ []) []) e

any_behind : (ops : List Op) (op : Op) → has_any (ops ++ op ∷ []) ≡ true
any_behind [] op = refl
any_behind (x ∷ ops) op = refl

-- the client of the operation, of whom these must be kept so far
pub group_more : (c : List ℕ) (es : List (List ℕ × Entry)) (D : List Op) (op : Op) (ops : List Op) (new : Fresh) → same_client c (client_of op) ≡ true
    → IsKeptAfter c es D ops
    → IsFresh c (held_of c es) new × Same (fresh_row c (held_of c es) new) (keep (ops ++ op ∷ []))
    → IsGroup c es (D ++ op ∷ []) new
group_more c es D op ops new mine taken more =
    let w = held_of c es in
    let K = own c (rows_of es) in
    let all : of_client c (D ++ op ∷ []) ≡ of_client c D ++ op ∷ [] = behind c D op true mine in
    record {
      fresh_is = more.0;
      taken = subst (λ said. Same (fresh_row c w new) (keep (K ++ said))) (sym all)
          (subst (λ said. Same (fresh_row c w new) (keep said)) (append_assoc K (of_client c D) (op ∷ []))
          (kept_step (K ++ of_client c D) (op ∷ []) ops (fresh_row c w new) taken more.1));
      any = ap has_any all ∙ any_behind (of_client c D) op;
    }

-- another client
pub group_apart : (c : List ℕ) (es : List (List ℕ × Entry)) (D : List Op) (op : Op) (o : Option Fresh) → same_client c (client_of op) ≡ false → IsGroupOf c es D o → IsGroupOf c es (D ++ op ∷ []) o
group_apart c es D op o other h = at o h
  where
    same : of_client c (D ++ op ∷ []) ≡ of_client c D
    same = behind c D op false other ∙ append-nil (of_client c D)

    at : (o : Option Fresh) → IsGroupOf c es D o → IsGroupOf c es (D ++ op ∷ []) o
    at None h = same ∙ h
    at (Some f) h = record {
      fresh_is = h.fresh_is;
      taken = subst (λ ops. Same (fresh_row c (held_of c es) f) (keep (own c (rows_of es) ++ ops))) (sym same) h.taken;
      any = ap has_any same ∙ h.any;
    }

-- ---- of all clients

nothing_said : (c : List ℕ) (ops : List Op) → Same ops (keep ops) → Same ops (keep (ops ++ []))
nothing_said c ops h = subst (λ S. Same ops (keep S)) (sym (append-nil ops)) h

-- the client's row keeps itself
pub own_keeps : (c : List ℕ) (es : List (List ℕ × Entry)) → AreKept es → Same (own c (rows_of es)) (keep (own c (rows_of es)))
own_keeps c es each = subst (λ o. Same (or_nothing o) (keep (or_nothing o))) (sym (find_rows c es)) (at (find client_cmp c es) refl)
  where
    at : (o : Option Entry) → find client_cmp c es ≡ o → Same (or_nothing (option_map (entry_row c) o)) (keep (or_nothing (option_map (entry_row c) o)))
    at None e = record { operations_same = λ c name. refl; puts_same = λ c name. refl; acknowledgements_same = λ c name. refl; retains_same = λ t name. refl }
    at (Some x) e = keeps_row c x (found_holds client_cmp client_exact IsKept c x es each e).entry_is

module _ (es : List (List ℕ × Entry)) (D : List Op) (rows : List (List ℕ × List Op)) (each : AreKept es) (h : AreRowsOf es D rows) where
  -- what is kept of each client once the rows are in their places
  pub own_taken : (room : List (List ℕ × List Op)) → ((c : List ℕ) → own c room ≡ own c (rows_of es)) → (c : List ℕ) → IsKeptAfter c es D (own c (rows_with room rows))
  own_taken room same c = subst (λ ops. IsKeptAfter c es D ops) (sym (ap or_nothing (find_in_moved c room rows))) (at (find client_cmp c rows) (h c))
    where
      at : (o : Option (List Op)) → IsRowOf c es D o → IsKeptAfter c es D (or_nothing (or_else o (find client_cmp c room)))
      at None none = subst (λ ops. IsKeptAfter c es D ops) (sym (same c)) (subst (λ ops. Same (own c (rows_of es)) (keep (own c (rows_of es) ++ ops))) (sym none) (nothing_said c (own c (rows_of es)) (own_keeps c es each)))
      at (Some ops) is = is.0

-- sets that have of each client what must be kept of the other's
pub same_kept_by_client : (A W : List Op) → ((c : List ℕ) → Same (of_client c A) (keep (of_client c W))) → Same A (keep W)
same_kept_by_client A W h = record {
  operations_same = λ c name. operation_at_own c A name ∙ (h c).operations_same c name ∙ operation_at_keep c (of_client c W) name
      ∙ (λ i. cond (not (is_below name.0 (sym (visible_own c W) i))) (sym (operation_at_own c W name) i) None) ∙ sym (operation_at_keep c W name);
  puts_same = λ c name. put_at_own c A name ∙ (h c).puts_same c name ∙ put_at_keep c (of_client c W) name
      ∙ (λ i. cond (not (sym (is_acknowledged_own c W name) i)) (sym (put_at_own c W name) i) None) ∙ sym (put_at_keep c W name);
  acknowledgements_same = λ c name. is_acknowledged_own c A name ∙ (h c).acknowledgements_same c name ∙ is_acknowledged_keep c (of_client c W) name
      ∙ sym (is_acknowledged_own c W name) ∙ sym (is_acknowledged_keep c W name);
  retains_same = λ t name. retain_at_own A t name ∙ (h []).retains_same t name ∙ retain_at_keep t (of_client [] W) name
      ∙ sym (ap (λ (es : List ((ℕ × ℕ) × Retained)). cond (not (is_outdone name (greatest clock_cmp (names es)))) (find clock_cmp name es) None) (retains_own W t)) ∙ sym (retain_at_keep t W name);
}

-- what is kept after the commit
pub same_after : (es : List (List ℕ × Entry)) (D : List Op) (rows room : List (List ℕ × List Op)) → AreKept es → AreRowsOf es D rows → AreRows (rows_of es) → AreRows room → AllByRecursion (λ row. IsOwn row.0 row.1) rows
    → ((c : List ℕ) → own c room ≡ own c (rows_of es)) → Same (flat (rows_with room rows)) (keep (flat (rows_of es) ++ D))
same_after es D rows room each h are place owned same = same_kept_by_client (flat (rows_with room rows)) (flat (rows_of es) ++ D) (λ c.
    let left = of_flat c (rows_with room rows) (rows_moved room rows place owned) in
    let right = filter-append (λ op. same_client c (client_of op)) (flat (rows_of es)) D ∙ ap (λ ops. ops ++ of_client c D) (of_flat c (rows_of es) are) in
    subst (λ S. Same S (keep (of_client c (flat (rows_of es) ++ D)))) (sym left) (subst (λ S. Same (own c (rows_with room rows)) (keep S)) (sym right) (own_taken es D rows each h room same c)))

-- a row that the list names has operations
pub any_taken : (c : List ℕ) (es : List (List ℕ × Entry)) (D ops : List Op) → IsOwn c ops → IsOwn c (own c (rows_of es) ++ of_client c D) → has_any (of_client c D) ≡ true → IsKeptAfter c es D ops → has_any ops ≡ true
any_taken c es D ops mine all any taken =
    let W = own c (rows_of es) ++ of_client c D in
    sym (named_any c ops mine)
    ∙ is_named-counts c W ops (counts-between W ops (kept_between W ops taken))
    ∙ named_any c W all
    ∙ any_right (own c (rows_of es)) (of_client c D) any
  where
    any_right : (a b : List Op) → has_any b ≡ true → has_any (a ++ b) ≡ true
    any_right [] b h = h
    any_right (x ∷ a) b h = refl

-- the rows of groups
pub rows_of_groups : (es : List (List ℕ × Entry)) (D : List Op) (groups : List (List ℕ × Fresh)) → AreGroups es D groups → AreRowsOf es D (fresh_rows es groups)
rows_of_groups es D groups h c = subst (IsRowOf c es D) (sym (find_fresh c groups)) (at (find client_cmp c groups) (h c))
  where
    find_fresh : (c : List ℕ) (gs : List (List ℕ × Fresh)) → find client_cmp c (fresh_rows es gs) ≡ option_map (fresh_row c (held_of c es)) (find client_cmp c gs)
    find_fresh c [] = refl
    find_fresh c (g ∷ gs) =
        elim (eq_by_cmp client_cmp c g.0) as (λ b. eq_by_cmp client_cmp c g.0 ≡ b → cond b (Some (fresh_row g.0 (held_of g.0 es) g.1)) (find client_cmp c (fresh_rows es gs)) ≡ option_map (fresh_row c (held_of c es)) (cond b (Some g.1) (find client_cmp c gs))) [
          | true ↦ λ t. ap (λ d. Some (fresh_row d (held_of d es) g.1)) (sym (tells_apart client_exact c g.0 t))
          | false ↦ λ _. find_fresh c gs
        ] refl

    at : (o : Option Fresh) → IsGroupOf c es D o → IsRowOf c es D (option_map (fresh_row c (held_of c es)) o)
    at None h = h
    at (Some f) h = (h.taken, h.any)
