-- Places in the table, and moves into them.
use Rattle.std.proofs.Common.{◌≡◌, ℕ, true, false, not, cond, ◌==◌, List, [], ◌∷◌, ◌++◌, length, Option, Some, None, is_some, IsSome, T, refl, sym, ap, ◌∙◌, subst, arith, Less, Equal, Greater, is_eq}
use Rattle.std.specs.Option.{option_map}
use Rattle.std.specs.List.{AllByRecursion}
use Rattle.std.specs.Ordering.{eq_by_cmp}
use Rattle.std.specs.Cmp.{tied_itself}
use Rattle.std.specs.BTreeMap.{insert_entry, is_at}
use Rattle.std.specs.Map.{lookup}
use Rattle.std.specs.FinMap.{find, put, is_sorted}
use Rattle.std.specs.FinMap.Entries.{by_order, is_sorted-put, find-put}
use Rattle.std.proofs.lemmas.Map.Views.{tells_apart}
use Rattle.std.proofs.lemmas.Bool.Decides.{nat_tests}
use Rattle.std.proofs.lemmas.Option.{same_Some}
use Rattle.rep_op.specs.declared.op.Op.{Op}
use Rattle.rep_op.specs.Orders.{client_cmp}
use Rattle.rep_model.specs.Views.{view, is_named}
use Rattle.rep_model.proofs.Readers.{client_total, client_exact}
use Rattle.rep_model.proofs.Joins.{all-both, all-weaker}
use Rattle.rep_plain.specs.declared.entry.Entry.{Entry}
use Rattle.rep_plain.specs.Entries.{IsWorkedOut}
use Rattle.rep_shared.specs.Rows.{flat, own, or_nothing, rows_with, has_any, count_named, CanGoBack, IsOwn}
use Rattle.rep_plain.specs.Tables.{rows_of, IsPlainEntry, AreEntries, IsPlainTable, HaveRoom}
use Rattle.rep_plain.specs.inner.Tables.{IsRoomier, AreMovable}
use Rattle.rep_shared.proofs.Maps.{insert_is_put, lookup_is_find}
use Rattle.rep_shared.proofs.Single.{view_own}
use Rattle.rep_shared.proofs.Flat.{all_put, of_flat, named_flat, count_put, moved_last, one_if}
use Rattle.rep_shared.proofs.Undo.{place_back}
use Rattle.rep_plain.proofs.Found.{find_rows, table_rows, own_found}
use Rattle.rep_shared.proofs.Found.{map_put}

pub roomier_itself : (es : List (List ℕ × Entry)) → IsRoomier es es
roomier_itself es = record { same = refl; table = λ count h. h; found = λ c h. h; back = λ count t aside can. (can, refl) }

pub roomier_then : {a b c : List (List ℕ × Entry)} → IsRoomier a b → IsRoomier b c → IsRoomier a c
roomier_then h k = record {
  same = k.same ∙ h.same;
  table = λ count t. k.table count (h.table count t);
  found = λ q s. k.found q (h.found q s);
  back = λ count t aside can.
      let first = h.back count t aside can in
      let second = k.back count (h.table count t) aside first.0 in
      (second.0, second.1 ∙ first.1);
}

pub rows_put : (c : List ℕ) (e : Entry) (es : List (List ℕ × Entry)) → rows_of (put client_cmp c e es) ≡ put client_cmp c e.ops.items (rows_of es)
rows_put c e es = map_put client_cmp (λ (e : Entry). e.ops.items) c e es

none_some : {A P : Type 0} (x : A) → Some x ≡ None → P
none_some x h = cc

-- an empty row more
flat_put : (c : List ℕ) (rows : List (List ℕ × List Op)) → find client_cmp c rows ≡ None → flat (put client_cmp c [] rows) ≡ flat rows
flat_put c [] h = refl
flat_put c (row ∷ rows) h =
    elim (client_cmp c row.0) as (λ r. cond (is_eq r) (Some row.1) (find client_cmp c rows) ≡ None → flat (by_order r ((c, []) ∷ row ∷ rows) ((row.0, []) ∷ rows) (row ∷ put client_cmp c [] rows)) ≡ flat (row ∷ rows)) [
      | Less ↦ λ _. refl
      | Equal ↦ λ found. none_some row.1 found
      | Greater ↦ λ none. ap (λ rest. row.1 ++ rest) (flat_put c rows none)
    ] h

found_put : (q c : List ℕ) (ops : List Op) (rows : List (List ℕ × List Op)) → IsSome (find client_cmp q rows) → IsSome (find client_cmp q (put client_cmp c ops rows))
found_put q c ops rows h = subst (λ o. IsSome o) (sym (find-put client_cmp client_total q c ops rows))
    (elim (eq_by_cmp client_cmp q c) as (λ b. IsSome (cond b (Some ops) (find client_cmp q rows))) [ true ↦ refl | false ↦ h ])

there_put : (c : List ℕ) (ops : List Op) (rows : List (List ℕ × List Op)) → find client_cmp c (put client_cmp c ops rows) ≡ Some ops
there_put c ops rows = find-put client_cmp client_total c c ops rows ∙ ap (λ r. cond (is_eq r) (Some ops) (find client_cmp c rows)) (tied_itself client_total c)

pub entry_empty : (c : List ℕ) (e : Entry) → e.ops.items ≡ [] → IsWorkedOut c e → length e.seen.pending ≡ 0 → e.parked ≡ 0 → e.exceptions ≡ 0 → IsPlainEntry c e
entry_empty c e ops worked pending parked exceptions = record {
  own = subst (IsOwn c) (sym ops) tt;
  worked_out = worked;
  pending = omega (arith, pending);
  parked = omega (arith, parked);
  exceptions = omega (arith, exceptions);
}

-- a place more
pub roomier_place : (es new : List (List ℕ × Entry)) (c : List ℕ) (e : Entry) → new ≡ insert_entry client_cmp es c e → lookup (is_at (client_cmp c)) es ≡ None → e.ops.items ≡ [] → IsPlainEntry c e → IsRoomier es new
roomier_place es new c e is absent ops entry =
    let at : new ≡ put client_cmp c e es = is ∙ insert_is_put client_cmp c e es in
    let none : find client_cmp c (rows_of es) ≡ None = find_rows c es ∙ ap (option_map (λ (e : Entry). e.ops.items)) (sym (lookup_is_find client_cmp c es) ∙ absent) in
    let rows : rows_of new ≡ put client_cmp c [] (rows_of es) = ap rows_of at ∙ rows_put c e es ∙ ap (λ S. put client_cmp c S (rows_of es)) ops in
    record {
      same = ap flat rows ∙ flat_put c (rows_of es) none;
      table = λ count t.
          let counts = count_put c [] (rows_of es) (table_rows es count t).sorted in
          let zero : one_if (has_any (own c (rows_of es))) ≡ 0 = ap (λ o. one_if (has_any (or_nothing o))) none in
          let same : count_named (put client_cmp c [] (rows_of es)) ≡ count_named (rows_of es) = omega (arith, counts, zero) in
          record {
            sorted = subst (λ es. T (is_sorted client_cmp es)) (sym at) (is_sorted-put client_cmp client_total c e es t.sorted);
            each = subst AreEntries (sym at) (all_put client_cmp client_exact IsPlainEntry c e es entry t.each);
            counted = t.counted ∙ sym (ap count_named rows ∙ same);
            few = t.few;
          };
      found = λ q h. subst (λ rows. IsSome (find client_cmp q rows)) (sym rows) (found_put q c [] (rows_of es) h);
      back = λ count t aside can. subst (λ (rs : List (List ℕ × List Op)). CanGoBack rs aside × (flat (rows_with rs aside) ≡ flat (rows_with (rows_of es) aside))) (sym rows) (place_back (rows_of es) aside c (table_rows es count t).sorted none can);
    }

pub place_there : (es new : List (List ℕ × Entry)) (c : List ℕ) (e : Entry) → new ≡ insert_entry client_cmp es c e → IsSome (find client_cmp c (rows_of new))
place_there es new c e is = subst (λ o. IsSome o) (sym (ap (λ es. find client_cmp c (rows_of es)) (is ∙ insert_is_put client_cmp c e es) ∙ ap (find client_cmp c) (rows_put c e es) ∙ there_put c e.ops.items (rows_of es))) refl

pub some_there : (c : List ℕ) (es : List (List ℕ × Entry)) → is_some (lookup (is_at (client_cmp c)) es) ≡ true → IsSome (find client_cmp c (rows_of es))
some_there c es h = subst (λ o. IsSome o) (sym (find_rows c es ∙ ap (option_map (λ (e : Entry). e.ops.items)) (sym (lookup_is_find client_cmp c es)))) (mapped (lookup (is_at (client_cmp c)) es) h)
  where
    mapped : (o : Option Entry) → is_some o ≡ true → IsSome (option_map (λ (e : Entry). e.ops.items) o)
    mapped None h = h
    mapped (Some e) h = refl

-- room for one more
pub room_more : (old new : List (List ℕ × Entry)) (done : List (List ℕ × List Op)) (row : List ℕ × List Op) → IsRoomier old new → HaveRoom (rows_of old) done → IsSome (find client_cmp row.0 (rows_of new)) → HaveRoom (rows_of new) (done ++ row ∷ [])
room_more old new done row h room here = all-both (λ (row : List ℕ × List Op). IsSome (find client_cmp row.0 (rows_of new))) done (row ∷ []) (all-weaker (λ (row : List ℕ × List Op). IsSome (find client_cmp row.0 (rows_of old))) (λ (row : List ℕ × List Op). IsSome (find client_cmp row.0 (rows_of new))) (λ row s. h.found row.0 s) done room) (here, tt)

-- ---- moves

pub rows_last : (fs : List (List ℕ × Entry)) (f : List ℕ × Entry) → rows_of (fs ++ f ∷ []) ≡ rows_of fs ++ (f.0, f.1.ops.items) ∷ []
rows_last [] f = refl
rows_last (x ∷ fs) f = ap (λ rest. (x.0, x.1.ops.items) ∷ rest) (rows_last fs f)

all_front : {A : Type 0} (P : A → Type 0) (xs : List A) (x : A) → AllByRecursion P (xs ++ x ∷ []) → AllByRecursion P xs × P x
all_front P [] x h = (tt, h.0)
all_front P (y ∷ xs) x h = let rest = all_front P xs x h.1 in ((h.0, rest.0), rest.1)

-- the last of the fresh entries goes to its place
pub move_last : (es new fs rest : List (List ℕ × Entry)) (c : List ℕ) (e : Entry) → fs ≡ rest ++ (c, e) ∷ [] → new ≡ insert_entry client_cmp es c e → rows_with (rows_of new) (rows_of rest) ≡ rows_with (rows_of es) (rows_of fs)
move_last es new fs rest c e all is =
    ap (λ es. rows_with (rows_of es) (rows_of rest)) (is ∙ insert_is_put client_cmp c e es)
    ∙ ap (λ rows. rows_with rows (rows_of rest)) (rows_put c e es)
    ∙ sym (ap (λ fs. rows_with (rows_of es) (rows_of fs)) all ∙ ap (rows_with (rows_of es)) (rows_last rest (c, e)) ∙ moved_last (rows_of es) (rows_of rest) (c, e.ops.items))

pub room_left : (es new fs rest : List (List ℕ × Entry)) (c : List ℕ) (e : Entry) → fs ≡ rest ++ (c, e) ∷ [] → new ≡ insert_entry client_cmp es c e → HaveRoom (rows_of es) (rows_of fs) → HaveRoom (rows_of new) (rows_of rest)
room_left es new fs rest c e all is h =
    let front = all_front (λ (row : List ℕ × List Op). IsSome (find client_cmp row.0 (rows_of es))) (rows_of rest) (c, e.ops.items) (subst (HaveRoom (rows_of es)) (ap rows_of all ∙ rows_last rest (c, e)) h) in
    let rows : rows_of new ≡ put client_cmp c e.ops.items (rows_of es) = ap rows_of (is ∙ insert_is_put client_cmp c e es) ∙ rows_put c e es in
    subst (λ rows. HaveRoom rows (rows_of rest)) (sym rows)
    (all-weaker (λ (row : List ℕ × List Op). IsSome (find client_cmp row.0 (rows_of es))) (λ (row : List ℕ × List Op). IsSome (find client_cmp row.0 (put client_cmp c e.ops.items (rows_of es)))) (λ row s. found_put row.0 c e.ops.items (rows_of es) s) (rows_of rest) front.0)

-- the last of the fresh clients has a place
pub room_last : (es fs rest : List (List ℕ × Entry)) (c : List ℕ) (e : Entry) → fs ≡ rest ++ (c, e) ∷ [] → HaveRoom (rows_of es) (rows_of fs) → is_some (lookup (is_at (client_cmp c)) es) ≡ true
room_last es fs rest c e all h =
    let front = all_front (λ (row : List ℕ × List Op). IsSome (find client_cmp row.0 (rows_of es))) (rows_of rest) (c, e.ops.items) (subst (HaveRoom (rows_of es)) (ap rows_of all ∙ rows_last rest (c, e)) h) in
    mapped (lookup (is_at (client_cmp c)) es) (subst (λ o. IsSome o) (find_rows c es ∙ ap (option_map (λ (e : Entry). e.ops.items)) (sym (lookup_is_find client_cmp c es))) front.1)
  where
    mapped : (o : Option Entry) → IsSome (option_map (λ (e : Entry). e.ops.items) o) → is_some o ≡ true
    mapped None h = h
    mapped (Some e) h = refl

pub movable_left : (es new fs rest : List (List ℕ × Entry)) (c : List ℕ) (e : Entry) → fs ≡ rest ++ (c, e) ∷ [] → new ≡ insert_entry client_cmp es c e → AreMovable es fs → AreMovable new rest
movable_left es new fs rest c e all is h =
    let at : new ≡ put client_cmp c e es = is ∙ insert_is_put client_cmp c e es in
    let front = all_front (λ (f : List ℕ × Entry). IsPlainEntry f.0 f.1) rest (c, e) (subst AreEntries all h.fresh_each) in
    record {
      sorted = subst (λ es. T (is_sorted client_cmp es)) (sym at) (is_sorted-put client_cmp client_total c e es h.sorted);
      each = subst AreEntries (sym at) (all_put client_cmp client_exact IsPlainEntry c e es front.1 h.each);
      fresh_each = front.0;
    }

-- ---- answers

pub entry_found : (c : List ℕ) (e : Entry) (es : List (List ℕ × Entry)) → AreEntries es → find client_cmp c es ≡ Some e → IsPlainEntry c e
entry_found c e [] h is = none_there_some e is
  where
    none_there_some : {A P : Type 0} (x : A) → None ≡ Some x → P
    none_there_some x h = cc
entry_found c e (f ∷ es) h is =
    elim (eq_by_cmp client_cmp c f.0) as (λ b. eq_by_cmp client_cmp c f.0 ≡ b → cond b (Some f.1) (find client_cmp c es) ≡ Some e → IsPlainEntry c e) [
      | true ↦ λ t is. subst (λ x. IsPlainEntry x e) (sym (tells_apart client_exact c f.0 t)) (subst (IsPlainEntry f.0) (same_Some f.1 e is) h.0)
      | false ↦ λ _ is. entry_found c e es h.1 is
    ] refl is

pub seen_found : (c : List ℕ) (es : List (List ℕ × Entry)) (n : ℕ) (e : Entry) → IsPlainTable es n → Some e ≡ lookup (is_at (client_cmp c)) es → e.seen ≡ view c (flat (rows_of es))
seen_found c es n e t is =
    (entry_found c e es t.each (sym (is ∙ lookup_is_find client_cmp c es))).worked_out.seen
    ∙ ap (view c) (own_found c es (Some e) is)
    ∙ sym (view_own c (flat (rows_of es)) ∙ ap (view c) (of_flat c (rows_of es) (table_rows es n t)))

pub named_found : (c : List ℕ) (es : List (List ℕ × Entry)) (n : ℕ) (o : Option Entry) → IsPlainTable es n → o ≡ lookup (is_at (client_cmp c)) es → is_named c (flat (rows_of es)) ≡ has_any (or_nothing (option_map (λ (e : Entry). e.ops.items) o))
named_found c es n o t is = named_flat c (rows_of es) (table_rows es n t) ∙ ap has_any (sym (own_found c es o is))

pub any_length : (ops : List Op) → has_any ops ≡ not (length ops == 0)
any_length [] = refl
any_length (op ∷ ops) = let e : (length (op ∷ ops) == 0) ≡ false = grind (arith, nat_tests) in sym (ap not e)
