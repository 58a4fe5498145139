-- Places in the table, and moves into them.
use Rattle.std.proofs.Common.{◌≡◌, ℕ, true, false, cond, List, [], ◌∷◌, ◌++◌, length, Option, Some, None, is_some, IsSome, T, refl, sym, ap, ◌∙◌, subst, arith, Less, Equal, Greater, is_eq, true≢false}
use Rattle.std.specs.Option.{option_map}
use Rattle.std.specs.Ordering.{eq_by_cmp}
use Rattle.std.specs.Cmp.{tied_itself}
use Rattle.std.specs.FinMap.{find, put, is_sorted}
use Rattle.std.specs.FinMap.Entries.{by_order, is_sorted-put, find-put}
use Rattle.rep_op.specs.declared.op.Op.{Op}
use Rattle.rep_op.specs.Orders.{client_cmp}
use Rattle.rep_model.specs.Limits.{parked, exceptions}
use Rattle.rep_model.proofs.Readers.{client_total, client_exact}
use Rattle.rep_shared.specs.Rows.{flat, own, or_nothing, rows_with, has_any, count_named, CanGoBack}
use Rattle.rep_shared.specs.Steps.{capped}
use Rattle.rep_shared.proofs.Flat.{all_put, count_put, moved_last, one_if}
use Rattle.rep_shared.proofs.Undo.{place_back}
use Rattle.rep_entry.specs.declared.entry.Entry.{Entry}
use Rattle.rep_entry.specs.Entries.{entry_row, IsEntry}
use Rattle.rep_state.specs.Tables.{rows_of, IsKept, AreKept}
use Rattle.rep_state.specs.inner.Tables.{IsRoomier}
use Rattle.rep_state.proofs.Rows.{find_rows, rows_put, table_rows}

pub roomier_itself : (es : List (List ℕ × Entry)) → IsRoomier es es
roomier_itself es = record { same = refl; table = λ count h. h; found = λ c h. h; back = λ count t aside can. (can, refl) }

pub roomier_then : {a b c : List (List ℕ × Entry)} → IsRoomier a b → IsRoomier b c → IsRoomier a c
roomier_then h k = record {
  same = k.same ∙ h.same;
  table = λ count t. k.table count (h.table count t);
  found = λ q s. k.found q (h.found q s);
  back = λ count t aside can.
      let first = h.back count t aside can in
      let second = k.back count (h.table count t) aside first.0 in
      (second.0, second.1 ∙ first.1);
}

none_some : {A P : Type 0} (x : A) → Some x ≡ None → P
none_some x h = cc

-- an empty row more
flat_put : (c : List ℕ) (rows : List (List ℕ × List Op)) → find client_cmp c rows ≡ None → flat (put client_cmp c [] rows) ≡ flat rows
flat_put c [] h = refl
flat_put c (row ∷ rows) h =
    elim (client_cmp c row.0) as (λ r. cond (is_eq r) (Some row.1) (find client_cmp c rows) ≡ None → flat (by_order r ((c, []) ∷ row ∷ rows) ((row.0, []) ∷ rows) (row ∷ put client_cmp c [] rows)) ≡ flat (row ∷ rows)) [
      | Less ↦ λ _. refl
      | Equal ↦ λ found. none_some row.1 found
      | Greater ↦ λ none. ap (λ rest. row.1 ++ rest) (flat_put c rows none)
    ] h

found_put : (q c : List ℕ) (ops : List Op) (rows : List (List ℕ × List Op)) → IsSome (find client_cmp q rows) → IsSome (find client_cmp q (put client_cmp c ops rows))
found_put q c ops rows h = subst (λ o. IsSome o) (sym (find-put client_cmp client_total q c ops rows))
    (elim (eq_by_cmp client_cmp q c) as (λ b. IsSome (cond b (Some ops) (find client_cmp q rows))) [ true ↦ refl | false ↦ h ])

pub there_put : (c : List ℕ) (ops : List Op) (rows : List (List ℕ × List Op)) → find client_cmp c (put client_cmp c ops rows) ≡ Some ops
there_put c ops rows = find-put client_cmp client_total c c ops rows ∙ ap (λ r. cond (is_eq r) (Some ops) (find client_cmp c rows)) (tied_itself client_total c)

pub empty_kept : (c : List ℕ) (e : Entry) → IsEntry c e → entry_row c e ≡ [] → e.seen.pending ≡ [] → IsKept c e
unfolding exceptions
empty_kept c e h row none =
    let parked_none : e.parked ≡ 0 = h.parked ∙ ap (λ (S : List Op). length (parked c S)) row in
    let exceptions_none : e.exceptions ≡ 0 = h.exceptions ∙ ap (λ (S : List Op). capped (exceptions c S)) row in
    let pending_none : length e.seen.pending ≡ 0 = ap length none in
    record {
      entry_is = h;
      pending = omega (arith, pending_none);
      parked = omega (arith, parked_none);
      exceptions = omega (arith, exceptions_none);
    }

-- a place more
pub roomier_place : (es new : List (List ℕ × Entry)) (c : List ℕ) (e : Entry) → new ≡ put client_cmp c e es → find client_cmp c es ≡ None → entry_row c e ≡ [] → IsKept c e → IsRoomier es new
roomier_place es new c e at absent row entry =
    let none : find client_cmp c (rows_of es) ≡ None = find_rows c es ∙ ap (option_map (entry_row c)) absent in
    let rows : rows_of new ≡ put client_cmp c [] (rows_of es) = ap rows_of at ∙ rows_put c e es ∙ ap (λ S. put client_cmp c S (rows_of es)) row in
    record {
      same = ap flat rows ∙ flat_put c (rows_of es) none;
      table = λ count t.
          let counts = count_put c [] (rows_of es) (table_rows es count t).sorted in
          let zero : one_if (has_any (own c (rows_of es))) ≡ 0 = ap (λ o. one_if (has_any (or_nothing o))) none in
          let same : count_named (put client_cmp c [] (rows_of es)) ≡ count_named (rows_of es) = omega (arith, counts, zero) in
          record {
            sorted = subst (λ es. T (is_sorted client_cmp es)) (sym at) (is_sorted-put client_cmp client_total c e es t.sorted);
            each = subst AreKept (sym at) (all_put client_cmp client_exact IsKept c e es entry t.each);
            counted = t.counted ∙ sym (ap count_named rows ∙ same);
            few = t.few;
          };
      found = λ q h. subst (λ rows. IsSome (find client_cmp q rows)) (sym rows) (found_put q c [] (rows_of es) h);
      back = λ count t aside can. subst (λ (rs : List (List ℕ × List Op)). CanGoBack rs aside × (flat (rows_with rs aside) ≡ flat (rows_with (rows_of es) aside))) (sym rows) (place_back (rows_of es) aside c (table_rows es count t).sorted none can);
    }

pub place_there : (es new : List (List ℕ × Entry)) (c : List ℕ) (e : Entry) → new ≡ put client_cmp c e es → IsSome (find client_cmp c (rows_of new))
place_there es new c e is = subst (λ o. IsSome o) (sym (ap (λ es. find client_cmp c (rows_of es)) is ∙ ap (find client_cmp c) (rows_put c e es) ∙ there_put c (entry_row c e) (rows_of es))) refl

pub some_there : (c : List ℕ) (es : List (List ℕ × Entry)) → is_some (find client_cmp c es) ≡ true → IsSome (find client_cmp c (rows_of es))
some_there c es h = subst (λ o. IsSome o) (sym (find_rows c es)) (mapped (find client_cmp c es) h)
  where
    mapped : (o : Option Entry) → is_some o ≡ true → IsSome (option_map (entry_row c) o)
    mapped None h = h
    mapped (Some e) h = refl

pub none_there : {X : Type 0} (o : Option X) → is_some o ≡ false → o ≡ None
none_there None h = refl
none_there (Some x) h = absurd (true≢false h)

-- ---- moves

pub rows_last : (fs : List (List ℕ × Entry)) (f : List ℕ × Entry) → rows_of (fs ++ f ∷ []) ≡ rows_of fs ++ (f.0, entry_row f.0 f.1) ∷ []
rows_last [] f = refl
rows_last (x ∷ fs) f = ap (λ rest. (x.0, entry_row x.0 x.1) ∷ rest) (rows_last fs f)

-- the last of the fresh entries goes to its place
pub move_last : (es new fs rest : List (List ℕ × Entry)) (c : List ℕ) (e : Entry) → fs ≡ rest ++ (c, e) ∷ [] → new ≡ put client_cmp c e es → rows_with (rows_of new) (rows_of rest) ≡ rows_with (rows_of es) (rows_of fs)
move_last es new fs rest c e all is =
    ap (λ es. rows_with (rows_of es) (rows_of rest)) is
    ∙ ap (λ rows. rows_with rows (rows_of rest)) (rows_put c e es)
    ∙ sym (ap (λ fs. rows_with (rows_of es) (rows_of fs)) all ∙ ap (rows_with (rows_of es)) (rows_last rest (c, e)) ∙ moved_last (rows_of es) (rows_of rest) (c, entry_row c e))
