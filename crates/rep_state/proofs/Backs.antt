-- What lies aside of the table, and the way back.
use Rattle.std.proofs.Common.{◌≡◌, ℕ, zero, suc, ◌+◌, ◌<◌, ◌≤◌, Bool, true, false, cond, if◌then◌else◌, List, [], ◌∷◌, ◌++◌, length, drop, get_or, Option, Some, None, IsSome, T, refl, sym, ap, ◌∙◌, subst, arith, true≢false, Vec, Global}
use Rattle.std.specs.Option.{option_map}
use Rattle.std.specs.Ordering.{is_eq, eq_by_cmp}
use Rattle.std.specs.Cmp.{tied_itself}
use Rattle.std.specs.List.{AllByRecursion, slice_get}
use Rattle.std.specs.Map.{lookup, keys_of}
use Rattle.std.specs.FinMap.{find, put, is_sorted}
use Rattle.std.specs.FinMap.Entries.{is_sorted-put, find-put}
use Rattle.std.specs.Prelude.{bytes_eq}
use Rattle.std.proofs.lemmas.Map.Views.{tells_apart}
use Rattle.indexmap.specs.IndexMap.{insert_entry}
use Rattle.rep_op.specs.declared.op.Op.{Op}
use Rattle.rep_op.specs.Orders.{client_cmp}
use Rattle.rep_model.specs.declared.fault.TheConstants.{MOST_CLIENTS}
use Rattle.rep_model.proofs.Readers.{client_total, client_exact}
use Rattle.rep_model.proofs.Joins.{all-both, all-weaker}
use Rattle.rep_shared.specs.Rows.{flat, own, or_nothing, rows_with, has_any, count_named, CanGoBack, AreSaved}
use Rattle.rep_shared.proofs.Flat.{all_put, count_put, head_count, one_if}
use Rattle.rep_shared.proofs.Counting.{all_found}
use Rattle.rep_shared.proofs.Undo.{save_back, moved_saved, moved_swap, count_aside, room_put}
use Rattle.sn_tables.specs.Tables.{with_entry}
use Rattle.sn_tables.proofs.Ascending.{all_with}
use Rattle.rep_entry.specs.declared.entry.Entry.{Entry}
use Rattle.rep_entry.specs.declared.change.Change.{Change}
use Rattle.rep_entry.specs.Entries.{entry_row}
use Rattle.rep_entry.specs.Interests.{SessionWithin}
use Rattle.rep_entry.specs.Staging.{staged_of, AreReady}
use Rattle.rep_entry.proofs.Owning.{found_holds}
use Rattle.rep_state.specs.declared.places.Place.{Place}
use Rattle.rep_state.specs.Tables.{by_client, rows_of, names_at, IsKept, AreKept, IsEntryTable}
use Rattle.rep_state.specs.Interests.{EntryWithin, AreMarked}
use Rattle.rep_state.specs.inner.Staging.{HavePlaces}
use Rattle.rep_state.specs.inner.Tables.{place_cmp, IsSaving, HaveTheirPlaces, AreKeptAside}
use Rattle.rep_state.proofs.Rows.{find_rows, rows_put, sorted_rows, put_by_client, found_by_client}
use Rattle.rep_state.proofs.Placing.{there_put}
use Rattle.rep_state.proofs.Indexed.{same_some, none_is_some}

abbrev Rows : Type 0
Rows = List (List ℕ × List Op)

abbrev Entries : Type 0
Entries = List (List ℕ × Entry)

abbrev Table : Type 0
Table = List (Vec ℕ Global × Entry)

pub rows_sorted : (es : Entries) → T (is_sorted client_cmp es) → T (is_sorted client_cmp (rows_of es))
rows_sorted es h = subst T (sym (sorted_rows es)) h

pub none_of_rows : (c : List ℕ) (es : Entries) → find client_cmp c es ≡ None → find client_cmp c (rows_of es) ≡ None
none_of_rows c es absent = find_rows c es ∙ ap (option_map (entry_row c)) absent

-- ---- more lies aside

pub saving_itself : (rows old : Rows) → IsSaving rows old old
saving_itself rows old = record { can = λ h. h; same = refl; found = λ c h. h }

pub saving_then : {rows a b c : Rows} → IsSaving rows a b → IsSaving rows b c → IsSaving rows a c
saving_then h k = record {
  can = λ can. k.can (h.can can);
  same = k.same ∙ h.same;
  found = λ q s. k.found q (h.found q s);
}

module _ (es new : Entries) (c : List ℕ) (e : Entry) (at : new ≡ put client_cmp c e es) (absent : find client_cmp c es ≡ None) where
  with_row : rows_of new ≡ put client_cmp c (entry_row c e) (rows_of es)
  with_row = ap rows_of at ∙ rows_put c e es

  pub saving_more : (rows : Rows) → T (is_sorted client_cmp rows) → IsSome (find client_cmp c rows) → own c rows ≡ entry_row c e → IsSaving rows (rows_of es) (rows_of new)
  saving_more rows sorted there own_is =
      let none = none_of_rows c es absent in
      let row : rows_of new ≡ put client_cmp c (own c rows) (rows_of es) = with_row ∙ sym (ap (λ (ops : List Op). put client_cmp c ops (rows_of es)) own_is) in
      record {
        can = λ can. subst (CanGoBack rows) (sym row) (save_back rows (rows_of es) c sorted there none can).0;
        same = ap (rows_with rows) row ∙ moved_saved rows (rows_of es) c sorted there none;
        found = λ q h. subst (λ (rs : Rows). IsSome (find client_cmp q rs)) (sym row) (room_put q c (own c rows) (rows_of es) h);
      }

  -- one more of them has operations, or as many as before
  pub aside_more : (n m : ℕ) → IsEntryTable es n → IsKept c e → m ≡ n + one_if (has_any (entry_row c e)) → count_named (put client_cmp c (entry_row c e) (rows_of es)) ≤ MOST_CLIENTS → IsEntryTable new m
  aside_more n m t entry count few =
      let counts = count_put c (entry_row c e) (rows_of es) (rows_sorted es t.sorted) in
      let none : one_if (has_any (own c (rows_of es))) ≡ 0 = ap (λ (o : Option (List Op)). one_if (has_any (or_nothing o))) (none_of_rows c es absent) in
      let before = t.counted in
      let all : m ≡ count_named (put client_cmp c (entry_row c e) (rows_of es)) = omega (arith, counts, none, count, before) in
      record {
        sorted = subst (λ (es : Entries). T (is_sorted client_cmp es)) (sym at) (is_sorted-put client_cmp client_total c e es t.sorted);
        each = subst AreKept (sym at) (all_put client_cmp client_exact IsKept c e es entry t.each);
        counted = all ∙ sym (ap count_named with_row);
        few = subst (λ (k : ℕ). k ≤ MOST_CLIENTS) (sym all) few;
      }

  pub row_there : IsSome (find client_cmp c (rows_of new))
  row_there = subst (λ (o : Option (List Op)). IsSome o) (sym (ap (find client_cmp c) with_row ∙ there_put c (entry_row c e) (rows_of es))) refl

-- there is room for a row more
pub few_more : (rows : Rows) (xs : Entries) (n : ℕ) (c : List ℕ) (S : List Op) → T (is_sorted client_cmp rows) → IsEntryTable xs n → CanGoBack rows (rows_of xs) → IsSome (find client_cmp c rows) → find client_cmp c xs ≡ None → own c rows ≡ S → count_named (put client_cmp c S (rows_of xs)) ≤ MOST_CLIENTS
few_more rows xs n c S sorted t can there absent own_is =
    let order = rows_sorted xs t.sorted in
    subst (λ (ops : List Op). count_named (put client_cmp c ops (rows_of xs)) ≤ MOST_CLIENTS) own_is
    (count_aside rows (put client_cmp c (own c rows) (rows_of xs)) sorted (is_sorted-put client_cmp client_total c (own c rows) (rows_of xs) order) (save_back rows (rows_of xs) c sorted there (none_of_rows c xs absent) can).0)

-- one more of them lies aside
pub saved_more : (rows old new : Rows) (done : List (List ℕ × Change)) (g : List ℕ × Change) → IsSaving rows old new → AreSaved old done → IsSome (find client_cmp g.0 new) → AreSaved new (done ++ g ∷ [])
saved_more rows old new done g h saved here =
    all-both (λ (g : List ℕ × Change). IsSome (find client_cmp g.0 new)) done (g ∷ [])
    (all-weaker (λ (g : List ℕ × Change). IsSome (find client_cmp g.0 old)) (λ (g : List ℕ × Change). IsSome (find client_cmp g.0 new)) (λ g s. h.found g.0 s) done saved) (here, tt)

pub all_get : {A : Type 0} (P : A → Type 0) (xs : List A) (i : ℕ) (d : A) → i < length xs → AllByRecursion P xs → P (get_or xs i d)
all_get P [] i d lt h = absurd (omega (arith, lt))
all_get P (x ∷ xs) zero d lt h = h.0
all_get P (x ∷ xs) (suc i) d lt h = all_get P xs i d (omega (arith, lt)) h.1

-- what holds of each staged client
pub of_staged : (P : List ℕ → Type 0) (gs : List (Vec ℕ Global × Change)) → AllByRecursion (λ g. P g.0) (staged_of gs) → AllByRecursion (λ g. P g.0.items) gs
of_staged P [] h = tt
of_staged P (g ∷ gs) h = (h.0, of_staged P gs h.1)

-- ---- what a caller says of the rows

pub saving_can : (rows now old aside new : Rows) → rows ≡ now → old ≡ aside → IsSaving rows old new → CanGoBack now aside → CanGoBack now new
saving_can rows now old aside new p q s can =
    subst (λ (rs : Rows). CanGoBack rs new) p (s.can (subst (CanGoBack rows) (sym q) (subst (λ (rs : Rows). CanGoBack rs aside) (sym p) can)))

pub saving_same : (rows now old aside new : Rows) → rows ≡ now → old ≡ aside → IsSaving rows old new → flat (rows_with now new) ≡ flat (rows_with now aside)
saving_same rows now old aside new p q s = sym (ap (λ (rs : Rows). flat (rows_with rs new)) p) ∙ ap flat s.same ∙ (λ i. flat (rows_with (p i) (q i)))

-- ---- one place more, with marks of its own

-- each place is that of an entry
all_named : (all : Entries) (places : List Place) (xs : Entries) → names_at places ≡ keys_of xs → AllByRecursion (λ x. find client_cmp x.0 all ≡ Some x.1) xs → AllByRecursion (λ p. find client_cmp p.name all ≡ None → ⊥) places
all_named all [] xs e h = tt
all_named all (p ∷ places) [] e h = absurd (let long = ap length e in omega (arith, long))
all_named all (p ∷ places) (x ∷ xs) e h =
    let name : Some p.name ≡ Some x.0 = ap (λ (ks : List (List ℕ)). slice_get ks 0) e in (
      λ none. none_is_some x.1 (sym none ∙ ap (λ k. find client_cmp k all) (same_some p.name x.0 name) ∙ h.0),
      all_named all places xs (ap (drop 1) e) h.1,
    )

module _ (es new : Entries) (places so : List Place) (c : List ℕ) (e : Entry) (p : Place) (is : new ≡ put client_cmp c e es) (absent : find client_cmp c es ≡ None) where
  at_other : (q : Place) → (find client_cmp q.name es ≡ None → ⊥) → EntryWithin q.marks (find client_cmp q.name es) → EntryWithin q.marks (find client_cmp q.name new)
  at_other q there old =
      let turned : eq_by_cmp client_cmp q.name c ≡ false =
      elim (eq_by_cmp client_cmp q.name c) as (λ b. eq_by_cmp client_cmp q.name c ≡ b → b ≡ false) [
        | true ↦ λ t. absurd (there (ap (λ k. find client_cmp k es) (tells_apart client_exact q.name c t) ∙ absent))
        | false ↦ λ _. refl
      ] refl in
      subst (EntryWithin q.marks) (sym (ap (find client_cmp q.name) is ∙ find-put client_cmp client_total q.name c e es ∙ ap (λ b. cond b (Some e) (find client_cmp q.name es)) turned)) old

  at_all : (places : List Place) → AllByRecursion (λ q. find client_cmp q.name es ≡ None → ⊥) places → AreMarked es places → AreMarked new places
  at_all [] there h = tt
  at_all (q ∷ places) there h = (at_other q there.0 h.0, at_all places there.1 h.1)

  pub marked_more : T (is_sorted client_cmp es) → names_at places ≡ keys_of es → AreMarked es places → SessionWithin p.marks e.seen.session → p.name ≡ c → so ≡ with_entry place_cmp p places → AreMarked new so
  marked_more sorted names h within name more =
      let found = ap (λ (k : List ℕ). find client_cmp k new) name ∙ ap (find client_cmp c) is ∙ found_put_here in
      let here : EntryWithin p.marks (find client_cmp p.name new) = subst (EntryWithin p.marks) (sym found) within in
      let others = at_all places (all_named es places es names (all_found client_cmp client_total es sorted)) h in
      subst (AreMarked new) (sym more) (all_with place_cmp (λ (q : Place). EntryWithin q.marks (find client_cmp q.name new)) p places here others)
    where
      found_put_here : find client_cmp c (put client_cmp c e es) ≡ Some e
      found_put_here = find-put client_cmp client_total c c e es ∙ ap (λ r. cond (is_eq r) (Some e) (find client_cmp c es)) (tied_itself client_total c)

-- ---- the way back

insert_last : (k : Vec ℕ Global) (x : Entry) (es : Table) → lookup (λ (j : Vec ℕ Global). bytes_eq k.items j.items) es ≡ None → insert_entry (λ (a b : Vec ℕ Global). bytes_eq a.items b.items) es k x ≡ es ++ (k, x) ∷ []
insert_last k x [] h = refl
insert_last k x (e ∷ es) h =
    elim (bytes_eq k.items e.0.items) as (λ b. cond b (Some e.1) (lookup (λ (j : Vec ℕ Global). bytes_eq k.items j.items) es) ≡ None → (if b then (e.0, x) ∷ es else e ∷ insert_entry (λ (a b : Vec ℕ Global). bytes_eq a.items b.items) es k x) ≡ e ∷ (es ++ (k, x) ∷ [])) [
      | true ↦ λ some. none_is_some e.1 (sym some)
      | false ↦ λ none. ap (λ rest. e ∷ rest) (insert_last k x es none)
    ] h

-- the last of those that lie aside
module _ (k : Vec ℕ Global) (x : Entry) (all rest : Table) (is : all ≡ rest ++ (k, x) ∷ []) (gone : lookup (λ (j : Vec ℕ Global). bytes_eq k.items j.items) rest ≡ None) where
  pub last_by_client : by_client all ≡ put client_cmp k.items x (by_client rest)
  last_by_client = put_by_client k x rest all (is ∙ sym (insert_last k x rest gone))

  pub none_left : find client_cmp k.items (by_client rest) ≡ None
  none_left = sym (found_by_client k.items rest) ∙ gone

  last_rows : rows_of (by_client all) ≡ put client_cmp k.items (entry_row k.items x) (rows_of (by_client rest))
  last_rows = ap rows_of last_by_client ∙ rows_put k.items x (by_client rest)

  pub last_there : IsSome (find client_cmp k.items (rows_of (by_client all)))
  last_there = subst (λ (o : Option (List Op)). IsSome o) (sym (ap (find client_cmp k.items) last_rows ∙ there_put k.items (entry_row k.items x) (rows_of (by_client rest)))) refl

  pub last_kept : AreKeptAside (by_client all) → IsKept k.items x
  last_kept h = h k.items x (ap (find client_cmp k.items) last_by_client ∙ find-put client_cmp client_total k.items k.items x (by_client rest) ∙ ap (λ r. cond (is_eq r) (Some x) (find client_cmp k.items (by_client rest))) (tied_itself client_total k.items))

  pub rest_kept : AreKeptAside (by_client all) → AreKeptAside (by_client rest)
  rest_kept h = λ q e found.
      let apart : eq_by_cmp client_cmp q k.items ≡ false =
      elim (eq_by_cmp client_cmp q k.items) as (λ b. eq_by_cmp client_cmp q k.items ≡ b → b ≡ false) [
        | true ↦ λ t. none_is_some e (sym none_left ∙ ap (λ c. find client_cmp c (by_client rest)) (sym (tells_apart client_exact q k.items t)) ∙ found)
        | false ↦ λ _. refl
      ] refl in
      h q e (ap (find client_cmp q) last_by_client ∙ find-put client_cmp client_total q k.items x (by_client rest) ∙ ap (λ b. cond b (Some x) (find client_cmp q (by_client rest))) apart ∙ found)

-- it goes back
module _ (k : Vec ℕ Global) (x : Entry) (all rest : Table) (is : all ≡ rest ++ (k, x) ∷ []) (gone : lookup (λ (j : Vec ℕ Global). bytes_eq k.items j.items) rest ≡ None) (es new : Entries) (at : new ≡ put client_cmp k.items x es) where
  new_rows : rows_of new ≡ put client_cmp k.items (entry_row k.items x) (rows_of es)
  new_rows = ap rows_of at ∙ rows_put k.items x es

  pub rest_moved : T (is_sorted client_cmp es) → rows_with (rows_of new) (rows_of (by_client rest)) ≡ rows_with (rows_of es) (rows_of (by_client all))
  rest_moved sorted =
      ap (λ (rs : Rows). rows_with rs (rows_of (by_client rest))) new_rows
      ∙ moved_swap (rows_of es) (rows_of (by_client rest)) k.items (entry_row k.items x) (rows_sorted es sorted) (none_of_rows k.items (by_client rest) (none_left k x all rest is gone))
      ∙ sym (ap (rows_with (rows_of es)) (last_rows k x all rest is gone))

  pub rest_room : HaveTheirPlaces es (by_client all) → HaveTheirPlaces new (by_client rest)
  rest_room h = λ q s.
      let there = h q (subst (λ (rs : Rows). IsSome (find client_cmp q rs)) (sym (last_rows k x all rest is gone)) (room_put q k.items (entry_row k.items x) (rows_of (by_client rest)) s)) in
      subst (λ (rs : Rows). IsSome (find client_cmp q rs)) (sym new_rows) (room_put q k.items (entry_row k.items x) (rows_of es) there)

  pub new_kept : AreKept es → IsKept k.items x → AreKept new
  new_kept h here = subst AreKept (sym at) (all_put client_cmp client_exact IsKept k.items x es here h)

-- nothing is left
pub empty_of : {X : Type 0} (es : List X) → (0 < length es → false ≡ true) → es ≡ []
empty_of [] h = refl
empty_of (e ∷ es) h = let more : 0 < length (e ∷ es) = omega arith in absurd (true≢false (sym (h more)))

-- who has a row has an entry
pub entry_there : (c : List ℕ) (es : Entries) → IsSome (find client_cmp c (rows_of es)) → IsSome (find client_cmp c es)
entry_there c es h = mapped (find client_cmp c es) (subst (λ (o : Option (List Op)). IsSome o) (find_rows c es) h)
  where
    mapped : (o : Option Entry) → IsSome (option_map (entry_row c) o) → IsSome o
    mapped None h = h
    mapped (Some e) h = refl

pub kept_aside : (es : Entries) → AreKept es → AreKeptAside es
kept_aside es h = λ c e found. found_holds client_cmp client_exact IsKept c e es h found

-- ---- how many have operations

pub count_at : (es : Entries) (i : ℕ) (x : List ℕ × Entry) (b : Bool) → drop i es ≡ x ∷ drop (i + 1) es → b ≡ has_any (entry_row x.0 x.1) → count_named (rows_of (drop i es)) ≡ one_if b + count_named (rows_of (drop (i + 1) es))
count_at es i x b is any =
    ap (λ (xs : Entries). count_named (rows_of xs)) is
    ∙ head_count (x.0, entry_row x.0 x.1) (rows_of (drop (i + 1) es))
    ∙ ap (λ (b : Bool). one_if b + count_named (rows_of (drop (i + 1) es))) (sym any)

-- whose change is ready has a place
pub ready_room : (es : Entries) (gs : List (List ℕ × Change)) → AreReady (rows_of es) gs → HavePlaces es gs
ready_room es [] h = tt
ready_room es (g ∷ gs) h = (h.0.is_there, ready_room es gs h.1)
