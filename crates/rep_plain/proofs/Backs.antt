-- What lies aside of the table, and the way back.
use Rattle.std.proofs.Common.{◌≡◌, ℕ, zero, suc, ◌+◌, ◌<◌, ◌≤◌, Bool, List, [], ◌∷◌, ◌++◌, length, get_or, Option, Some, None, IsSome, T, refl, sym, ap, ◌∙◌, subst, arith}
use Rattle.std.specs.Option.{option_map}
use Rattle.std.specs.List.{AllByRecursion}
use Rattle.std.specs.BTreeMap.{insert_entry, is_at}
use Rattle.std.specs.Map.{lookup}
use Rattle.std.specs.FinMap.{find, put, is_sorted}
use Rattle.std.specs.FinMap.Entries.{is_sorted-put}
use Rattle.rep_op.specs.declared.op.Op.{Op}
use Rattle.rep_op.specs.Orders.{client_cmp}
use Rattle.rep_model.specs.declared.view.ClientView.{ClientView}
use Rattle.rep_model.specs.declared.fault.TheConstants.{MOST_CLIENTS, MOST_PENDING, MOST_PARKED, MOST_EXCEPTIONS}
use Rattle.rep_model.specs.Views.{view}
use Rattle.rep_model.specs.Limits.{parked, exceptions}
use Rattle.rep_model.proofs.Readers.{client_total, client_exact}
use Rattle.rep_model.proofs.Joins.{all-both, all-weaker}
use Rattle.rep_plain.specs.declared.entry.Entry.{Entry}
use Rattle.rep_shared.specs.Steps.{capped}
use Rattle.rep_shared.specs.Rows.{flat, own, or_nothing, rows_with, has_any, count_named, CanGoBack, AreSaved, IsOwn}
use Rattle.rep_plain.specs.Tables.{rows_of, IsPlainEntry, AreEntries, IsPlainTable, HaveRoom}
use Rattle.rep_plain.specs.inner.Tables.{AreMovable, IsSaving}
use Rattle.rep_shared.proofs.Flat.{all_put, count_put, head_count, one_if}
use Rattle.rep_shared.proofs.Found.{sorted_map}
use Rattle.rep_shared.proofs.Maps.{insert_is_put, lookup_is_find}
use Rattle.rep_shared.proofs.Undo.{save_back, moved_saved, count_aside, moved_first, room_put, sorted_rest}
use Rattle.rep_plain.proofs.Found.{find_rows}
use Rattle.rep_plain.proofs.Moves.{rows_put}

abbrev Rows : Type 0
Rows = List (List ℕ × List Op)

abbrev Entries : Type 0
Entries = List (List ℕ × Entry)

pub rows_sorted : (es : Entries) → T (is_sorted client_cmp es) → T (is_sorted client_cmp (rows_of es))
rows_sorted es h = subst T (sym (sorted_map client_cmp (λ (e : Entry). e.ops.items) es)) h

pub none_of_rows : (c : List ℕ) (es : Entries) → lookup (is_at (client_cmp c)) es ≡ None → find client_cmp c (rows_of es) ≡ None
none_of_rows c es absent = find_rows c es ∙ ap (option_map (λ (e : Entry). e.ops.items)) (sym (lookup_is_find client_cmp c es) ∙ absent)

-- ---- an equal entry

pub entry_again : (c : List ℕ) (e made : Entry) → made.ops.items ≡ e.ops.items → made.seen ≡ e.seen → made.parked ≡ e.parked → made.exceptions ≡ e.exceptions → IsPlainEntry c e → IsPlainEntry c made
entry_again c e made ops seen waiting apart h = record {
  own = subst (IsOwn c) (sym ops) h.own;
  worked_out = record {
    seen = seen ∙ h.worked_out.seen ∙ ap (view c) (sym ops);
    parked = waiting ∙ h.worked_out.parked ∙ ap (λ (S : List Op). length (parked c S)) (sym ops);
    exceptions = apart ∙ h.worked_out.exceptions ∙ ap (λ (S : List Op). capped (exceptions c S)) (sym ops);
  };
  pending = subst (λ (v : ClientView). length v.pending ≤ MOST_PENDING) (sym seen) h.pending;
  parked = subst (λ (n : ℕ). n ≤ MOST_PARKED) (sym waiting) h.parked;
  exceptions = subst (λ (n : ℕ). n ≤ MOST_EXCEPTIONS) (sym apart) h.exceptions;
}

-- ---- more lies aside

pub saving_itself : (rows old : Rows) → IsSaving rows old old
saving_itself rows old = record { can = λ h. h; same = refl; found = λ c h. h }

pub saving_then : {rows a b c : Rows} → IsSaving rows a b → IsSaving rows b c → IsSaving rows a c
saving_then h k = record {
  can = λ can. k.can (h.can can);
  same = k.same ∙ h.same;
  found = λ q s. k.found q (h.found q s);
}

module _ (es new : Entries) (c : List ℕ) (e : Entry) (S : List Op) (is : new ≡ insert_entry client_cmp es c e) (ops : e.ops.items ≡ S) (absent : lookup (is_at (client_cmp c)) es ≡ None) where
  at : new ≡ put client_cmp c e es
  at = is ∙ insert_is_put client_cmp c e es

  with_row : rows_of new ≡ put client_cmp c S (rows_of es)
  with_row = ap rows_of at ∙ rows_put c e es ∙ ap (λ (ops : List Op). put client_cmp c ops (rows_of es)) ops

  pub saving_more : (rows : Rows) → T (is_sorted client_cmp rows) → IsSome (find client_cmp c rows) → own c rows ≡ S → IsSaving rows (rows_of es) (rows_of new)
  saving_more rows sorted there own_is =
      let none = none_of_rows c es absent in
      let row : rows_of new ≡ put client_cmp c (own c rows) (rows_of es) = with_row ∙ sym (ap (λ (ops : List Op). put client_cmp c ops (rows_of es)) own_is) in
      record {
        can = λ can. subst (CanGoBack rows) (sym row) (save_back rows (rows_of es) c sorted there none can).0;
        same = ap (rows_with rows) row ∙ moved_saved rows (rows_of es) c sorted there none;
        found = λ q h. subst (λ (rs : Rows). IsSome (find client_cmp q rs)) (sym row) (room_put q c (own c rows) (rows_of es) h);
      }

  -- one more of them has operations, or as many as before
  pub aside_more : (n m : ℕ) → IsPlainTable es n → IsPlainEntry c e → m ≡ n + one_if (has_any S) → count_named (put client_cmp c S (rows_of es)) ≤ MOST_CLIENTS → IsPlainTable new m
  aside_more n m t entry count few =
      let counts = count_put c S (rows_of es) (rows_sorted es t.sorted) in
      let none : one_if (has_any (own c (rows_of es))) ≡ 0 = ap (λ (o : Option (List Op)). one_if (has_any (or_nothing o))) (none_of_rows c es absent) in
      let before = t.counted in
      let all : m ≡ count_named (put client_cmp c S (rows_of es)) = omega (arith, counts, none, count, before) in
      record {
        sorted = subst (λ (es : Entries). T (is_sorted client_cmp es)) (sym at) (is_sorted-put client_cmp client_total c e es t.sorted);
        each = subst AreEntries (sym at) (all_put client_cmp client_exact IsPlainEntry c e es entry t.each);
        counted = all ∙ sym (ap count_named with_row);
        few = subst (λ (k : ℕ). k ≤ MOST_CLIENTS) (sym all) few;
      }

-- there is room for a row more
pub few_more : (rows : Rows) (xs : Entries) (n : ℕ) (c : List ℕ) (S : List Op) → T (is_sorted client_cmp rows) → IsPlainTable xs n → CanGoBack rows (rows_of xs) → IsSome (find client_cmp c rows) → lookup (is_at (client_cmp c)) xs ≡ None → own c rows ≡ S → count_named (put client_cmp c S (rows_of xs)) ≤ MOST_CLIENTS
few_more rows xs n c S sorted t can there absent own_is =
    let order = rows_sorted xs t.sorted in
    subst (λ (ops : List Op). count_named (put client_cmp c ops (rows_of xs)) ≤ MOST_CLIENTS) own_is
    (count_aside rows (put client_cmp c (own c rows) (rows_of xs)) sorted (is_sorted-put client_cmp client_total c (own c rows) (rows_of xs) order) (save_back rows (rows_of xs) c sorted there (none_of_rows c xs absent) can).0)

-- one more of them lies aside
pub saved_more : (rows old new : Rows) (done : Rows) (row : List ℕ × List Op) → IsSaving rows old new → AreSaved old done → IsSome (find client_cmp row.0 new) → AreSaved new (done ++ row ∷ [])
saved_more rows old new done row h saved here =
    all-both (λ (row : List ℕ × List Op). IsSome (find client_cmp row.0 new)) done (row ∷ [])
    (all-weaker (λ (row : List ℕ × List Op). IsSome (find client_cmp row.0 old)) (λ (row : List ℕ × List Op). IsSome (find client_cmp row.0 new)) (λ row s. h.found row.0 s) done saved) (here, tt)

pub all_get : {A : Type 0} (P : A → Type 0) (xs : List A) (i : ℕ) (d : A) → i < length xs → AllByRecursion P xs → P (get_or xs i d)
all_get P [] i d lt h = absurd (omega (arith, lt))
all_get P (x ∷ xs) zero d lt h = h.0
all_get P (x ∷ xs) (suc i) d lt h = all_get P xs i d (omega (arith, lt)) h.1

-- ---- what a caller says of the rows

pub saving_can : (rows now old aside new : Rows) → rows ≡ now → old ≡ aside → IsSaving rows old new → CanGoBack now aside → CanGoBack now new
saving_can rows now old aside new p q s can =
    subst (λ (rs : Rows). CanGoBack rs new) p (s.can (subst (CanGoBack rows) (sym q) (subst (λ (rs : Rows). CanGoBack rs aside) (sym p) can)))

pub saving_same : (rows now old aside new : Rows) → rows ≡ now → old ≡ aside → IsSaving rows old new → flat (rows_with now new) ≡ flat (rows_with now aside)
saving_same rows now old aside new p q s = sym (ap (λ (rs : Rows). flat (rows_with rs new)) p) ∙ ap flat s.same ∙ (λ i. flat (rows_with (p i) (q i)))

-- ---- the way back

module _ (es new all rest : Entries) (c : List ℕ) (e : Entry) (steps : all ≡ (c, e) ∷ rest) (is : new ≡ insert_entry client_cmp es c e) where
  put_at : new ≡ put client_cmp c e es
  put_at = is ∙ insert_is_put client_cmp c e es

  row_at : rows_of new ≡ put client_cmp c e.ops.items (rows_of es)
  row_at = ap rows_of put_at ∙ rows_put c e es

  pub back_first : T (is_sorted client_cmp (rows_of es)) → T (is_sorted client_cmp (rows_of all)) → rows_with (rows_of new) (rows_of rest) ≡ rows_with (rows_of es) (rows_of all)
  back_first h s =
      ap (λ (rs : Rows). rows_with rs (rows_of rest)) row_at
      ∙ moved_first (rows_of es) (rows_of rest) c e.ops.items h (subst (λ (xs : Entries). T (is_sorted client_cmp (rows_of xs))) steps s)
      ∙ sym (ap (λ (xs : Entries). rows_with (rows_of es) (rows_of xs)) steps)

  pub back_room : HaveRoom (rows_of es) (rows_of all) → HaveRoom (rows_of new) (rows_of rest)
  back_room h =
      let left = (subst (λ (xs : Entries). HaveRoom (rows_of es) (rows_of xs)) steps h).1 in
      subst (λ (rs : Rows). HaveRoom rs (rows_of rest)) (sym row_at)
      (all-weaker (λ (row : List ℕ × List Op). IsSome (find client_cmp row.0 (rows_of es))) (λ (row : List ℕ × List Op). IsSome (find client_cmp row.0 (put client_cmp c e.ops.items (rows_of es)))) (λ row s. room_put row.0 c e.ops.items (rows_of es) s) (rows_of rest) left)

  pub back_movable : AreMovable es all → AreMovable new rest
  back_movable h =
      let each = subst AreEntries steps h.fresh_each in
      record {
        sorted = subst (λ (xs : Entries). T (is_sorted client_cmp xs)) (sym put_at) (is_sorted-put client_cmp client_total c e es h.sorted);
        each = subst AreEntries (sym put_at) (all_put client_cmp client_exact IsPlainEntry c e es each.0 h.each);
        fresh_each = each.1;
      }

  pub back_rest : T (is_sorted client_cmp (rows_of all)) → T (is_sorted client_cmp (rows_of rest))
  back_rest s = sorted_rest (c, e.ops.items) (rows_of rest) (subst (λ (xs : Entries). T (is_sorted client_cmp (rows_of xs))) steps s)

-- who has a place has an entry
pub held_there : (c : List ℕ) (es : Entries) → IsSome (find client_cmp c (rows_of es)) → IsSome (lookup (is_at (client_cmp c)) es)
held_there c es h = mapped (lookup (is_at (client_cmp c)) es) (subst (λ (o : Option (List Op)). IsSome o) (find_rows c es ∙ ap (option_map (λ (e : Entry). e.ops.items)) (sym (lookup_is_find client_cmp c es))) h)
  where
    mapped : (o : Option Entry) → IsSome (option_map (λ (e : Entry). e.ops.items) o) → IsSome o
    mapped None h = h
    mapped (Some e) h = refl

-- ---- how many have operations

pub count_front : (x : List ℕ × Entry) (all rest : Entries) (b : Bool) → all ≡ x ∷ rest → has_any x.1.ops.items ≡ b → count_named (rows_of all) ≡ one_if b + count_named (rows_of rest)
count_front x all rest b steps any =
    ap (λ (xs : Entries). count_named (rows_of xs)) steps ∙ head_count (x.0, x.1.ops.items) (rows_of rest) ∙ ap (λ (b : Bool). one_if b + count_named (rows_of rest)) any
