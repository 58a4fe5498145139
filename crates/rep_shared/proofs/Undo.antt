-- What was put aside of rows can be put back, however they changed since.
use Rattle.std.proofs.Common.{◌≡◌, ℕ, ◌+◌, ◌≤◌, Bool, true, false, cond, ◌&&◌, List, [], ◌∷◌, ◌++◌, map, Option, Some, None, IsSome, T, refl, sym, ap, ◌∙◌, subst, arith, Less, Equal, Greater, is_eq, true≢false}
use Rattle.std.specs.Ordering.{eq_by_cmp}
use Rattle.std.specs.Cmp.{tied_itself}
use Rattle.std.specs.FinMap.{find, put, is_sorted}
use Rattle.std.specs.FinMap.Entries.{below_all, by_order, is_sorted-put, find-put, same_entries}
use Rattle.std.proofs.lemmas.Map.Views.{tells_apart}
use Rattle.rep_op.specs.declared.op.Op.{Op}
use Rattle.rep_op.specs.Orders.{client_cmp}
use Rattle.rep_model.specs.declared.fault.TheConstants.{MOST_CLIENTS}
use Rattle.rep_model.proofs.Lookup.{or_else}
use Rattle.rep_model.proofs.Readers.{client_total, client_exact}
use Rattle.rep_shared.specs.Rows.{flat, or_nothing, own, rows_with, has_any, count_named, CanGoBack, AreSaved}
use Rattle.rep_shared.proofs.Flat.{find_below, find_moved, find_in_moved, all_put, head_count, count_put, one_if}

abbrev Rows : Type 0
Rows = List (List ℕ × List Op)

none_some : {A P : Type 0} (x : A) → Some x ≡ None → P
none_some x h = cc

pub sorted_moved : (rows fresh : Rows) → T (is_sorted client_cmp rows) → T (is_sorted client_cmp (rows_with rows fresh))
sorted_moved rows [] h = h
sorted_moved rows (row ∷ fresh) h = is_sorted-put client_cmp client_total row.0 row.1 (rows_with rows fresh) (sorted_moved rows fresh h)

-- ---- a change of rows that lie aside does not matter

over : (s n r : Option (List Op)) → (s ≡ None → n ≡ None) → or_else s (or_else n r) ≡ or_else s r
over (Some x) n r h = refl
over None n r h = ap (λ (m : Option (List Op)). or_else m r) (h refl)

pub moved_over : (rows news aside : Rows) → T (is_sorted client_cmp rows) → ((q : List ℕ) → find client_cmp q aside ≡ None → find client_cmp q news ≡ None) → rows_with (rows_with rows news) aside ≡ rows_with rows aside
moved_over rows news aside h covers =
    same_entries client_cmp client_total client_exact (rows_with (rows_with rows news) aside) (rows_with rows aside) (sorted_moved (rows_with rows news) aside (sorted_moved rows news h)) (sorted_moved rows aside h)
    (λ q.
    find_in_moved q (rows_with rows news) aside ∙ ap (or_else (find client_cmp q aside)) (find_in_moved q rows news)
    ∙ over (find client_cmp q aside) (find client_cmp q news) (find client_cmp q rows) (covers q)
    ∙ sym (find_in_moved q rows aside))

-- ---- a row more aside, as it is, does not matter

there : (x : Option (List Op)) → IsSome x → Some (or_nothing x) ≡ x
there None h = cc
there (Some x) h = refl

saved_too : (b : Bool) (s r : Option (List Op)) (v : List Op) → (b ≡ true → (s ≡ None) × (Some v ≡ r)) → or_else (cond b (Some v) s) r ≡ or_else s r
saved_too true s r v h = let k = h refl in k.1 ∙ sym (ap (λ (x : Option (List Op)). or_else x r) k.0)
saved_too false s r v h = refl

pub moved_saved : (rows aside : Rows) (c : List ℕ) → T (is_sorted client_cmp rows) → IsSome (find client_cmp c rows) → find client_cmp c aside ≡ None → rows_with rows (put client_cmp c (own c rows) aside) ≡ rows_with rows aside
moved_saved rows aside c h is new =
    let saved : Rows = put client_cmp c (own c rows) aside in
    same_entries client_cmp client_total client_exact (rows_with rows saved) (rows_with rows aside) (sorted_moved rows saved h) (sorted_moved rows aside h)
    (λ q.
    find_in_moved q rows saved
    ∙ ap (λ (x : Option (List Op)). or_else x (find client_cmp q rows)) (find-put client_cmp client_total q c (own c rows) aside)
    ∙ saved_too (eq_by_cmp client_cmp q c) (find client_cmp q aside) (find client_cmp q rows) (own c rows)
    (λ t. let same : q ≡ c = tells_apart client_exact q c t in (ap (λ k. find client_cmp k aside) same ∙ new, there (find client_cmp c rows) is ∙ ap (λ k. find client_cmp k rows) (sym same)))
    ∙ sym (find_in_moved q rows aside))

-- ---- an empty place more

flat_place : (c : List ℕ) (rows : Rows) → find client_cmp c rows ≡ None → flat (put client_cmp c [] rows) ≡ flat rows
flat_place c [] h = refl
flat_place c (row ∷ rows) h =
    elim (client_cmp c row.0) as (λ r. cond (is_eq r) (Some row.1) (find client_cmp c rows) ≡ None → flat (by_order r ((c, []) ∷ row ∷ rows) ((row.0, []) ∷ rows) (row ∷ put client_cmp c [] rows)) ≡ flat (row ∷ rows)) [
      | Less ↦ λ _. refl
      | Equal ↦ λ found. none_some row.1 found
      | Greater ↦ λ none. ap (λ rest. row.1 ++ rest) (flat_place c rows none)
    ] h

other : (b : Bool) (s r : Option (List Op)) (v : List Op) → (b ≡ true → s ≡ None) → or_else s (cond b (Some v) r) ≡ cond b (Some v) (or_else s r)
other true s r v h = ap (λ (x : Option (List Op)). or_else x (Some v)) (h refl)
other false s r v h = refl

pub moved_put : (rows aside : Rows) (c : List ℕ) (ops : List Op) → T (is_sorted client_cmp rows) → find client_cmp c aside ≡ None → rows_with (put client_cmp c ops rows) aside ≡ put client_cmp c ops (rows_with rows aside)
moved_put rows aside c ops h unsaved =
    same_entries client_cmp client_total client_exact (rows_with (put client_cmp c ops rows) aside) (put client_cmp c ops (rows_with rows aside))
    (sorted_moved (put client_cmp c ops rows) aside (is_sorted-put client_cmp client_total c ops rows h)) (is_sorted-put client_cmp client_total c ops (rows_with rows aside) (sorted_moved rows aside h))
    (λ q.
    find_in_moved q (put client_cmp c ops rows) aside
    ∙ ap (or_else (find client_cmp q aside)) (find-put client_cmp client_total q c ops rows)
    ∙ other (eq_by_cmp client_cmp q c) (find client_cmp q aside) (find client_cmp q rows) ops (λ t. ap (λ k. find client_cmp k aside) (tells_apart client_exact q c t) ∙ unsaved)
    ∙ sym (find-put client_cmp client_total q c ops (rows_with rows aside) ∙ ap (cond (eq_by_cmp client_cmp q c) (Some ops)) (find_in_moved q rows aside)))

pub moved_place : (rows aside : Rows) (c : List ℕ) → T (is_sorted client_cmp rows) → find client_cmp c aside ≡ None → rows_with (put client_cmp c [] rows) aside ≡ put client_cmp c [] (rows_with rows aside)
moved_place rows aside c h unsaved = moved_put rows aside c [] h unsaved

-- a row more aside goes over all
pub moved_aside : (rows aside : Rows) (c : List ℕ) (ops : List Op) → T (is_sorted client_cmp rows) → rows_with rows (put client_cmp c ops aside) ≡ put client_cmp c ops (rows_with rows aside)
moved_aside rows aside c ops h =
    let more : Rows = put client_cmp c ops aside in
    same_entries client_cmp client_total client_exact (rows_with rows more) (put client_cmp c ops (rows_with rows aside))
    (sorted_moved rows more h) (is_sorted-put client_cmp client_total c ops (rows_with rows aside) (sorted_moved rows aside h))
    (λ q.
    find_in_moved q rows more
    ∙ ap (λ (x : Option (List Op)). or_else x (find client_cmp q rows)) (find-put client_cmp client_total q c ops aside)
    ∙ find_moved client_cmp client_total q c ops rows (find client_cmp q aside)
    ∙ sym (find-put client_cmp client_total q c ops (rows_with rows aside) ∙ ap (cond (eq_by_cmp client_cmp q c) (Some ops)) (find_in_moved q rows aside)))

-- what goes back anyway may go back first
pub moved_swap : (rows aside : Rows) (c : List ℕ) (ops : List Op) → T (is_sorted client_cmp rows) → find client_cmp c aside ≡ None → rows_with (put client_cmp c ops rows) aside ≡ rows_with rows (put client_cmp c ops aside)
moved_swap rows aside c ops h unsaved = moved_put rows aside c ops h unsaved ∙ sym (moved_aside rows aside c ops h)

none_moved : (rows aside : Rows) (c : List ℕ) → find client_cmp c rows ≡ None → find client_cmp c aside ≡ None → find client_cmp c (rows_with rows aside) ≡ None
none_moved rows aside c none unsaved = find_in_moved c rows aside ∙ ap (λ (x : Option (List Op)). or_else x (find client_cmp c rows)) unsaved ∙ none

pub flat_roomier : (rows aside : Rows) (c : List ℕ) → T (is_sorted client_cmp rows) → find client_cmp c rows ≡ None → find client_cmp c aside ≡ None → flat (rows_with (put client_cmp c [] rows) aside) ≡ flat (rows_with rows aside)
flat_roomier rows aside c h none unsaved = ap flat (moved_place rows aside c h unsaved) ∙ flat_place c (rows_with rows aside) (none_moved rows aside c none unsaved)

pub count_roomier : (rows aside : Rows) (c : List ℕ) → T (is_sorted client_cmp rows) → find client_cmp c rows ≡ None → find client_cmp c aside ≡ None → count_named (rows_with (put client_cmp c [] rows) aside) ≡ count_named (rows_with rows aside)
count_roomier rows aside c h none unsaved =
    let counts = count_put c [] (rows_with rows aside) (sorted_moved rows aside h) in
    let zero : one_if (has_any (own c (rows_with rows aside))) ≡ 0 = ap (λ (o : Option (List Op)). one_if (has_any (or_nothing o))) (none_moved rows aside c none unsaved) in
    let same : count_named (put client_cmp c [] (rows_with rows aside)) ≡ count_named (rows_with rows aside) = omega (arith, counts, zero) in
    ap count_named (moved_place rows aside c h unsaved) ∙ same

-- ---- who has a place keeps it

some_or : (x y : Option (List Op)) → IsSome y → IsSome (or_else x y)
some_or None y h = h
some_or (Some x) y h = refl

pub room_moved : (q : List ℕ) (rows news : Rows) → IsSome (find client_cmp q rows) → IsSome (find client_cmp q (rows_with rows news))
room_moved q rows news h = subst (λ (o : Option (List Op)). IsSome o) (sym (find_in_moved q rows news)) (some_or (find client_cmp q news) (find client_cmp q rows) h)

pub room_put : (q c : List ℕ) (v : List Op) (rows : Rows) → IsSome (find client_cmp q rows) → IsSome (find client_cmp q (put client_cmp c v rows))
room_put q c v rows h = room_moved q rows ((c, v) ∷ []) h

room_all : (rows new aside : Rows) → ((q : List ℕ) → IsSome (find client_cmp q rows) → IsSome (find client_cmp q new)) → AreSaved rows aside → AreSaved new aside
room_all rows new [] f h = tt
room_all rows new (row ∷ aside) f h = (f row.0 h.0, room_all rows new aside f h.1)

-- ---- what lies aside can be put back still

not_both : (o : Option (List Op)) → IsSome o → o ≡ None → ⊥
not_both None h e = cc
not_both (Some x) h e = cc

-- whoever does not lie aside is not among those of whom all do
covered : {X : Type 0} (q : List ℕ) (aside : Rows) (news : List (List ℕ × X)) → AreSaved aside news → find client_cmp q aside ≡ None → find client_cmp q news ≡ None
covered q aside [] h none = refl
covered {X} q aside (row ∷ news) h none =
    elim (eq_by_cmp client_cmp q row.0) as (λ b. eq_by_cmp client_cmp q row.0 ≡ b → cond b (Some row.1) (find client_cmp q news) ≡ None) [
      | true ↦ λ t. absurd (not_both (find client_cmp row.0 aside) h.0 (ap (λ k. find client_cmp k aside) (sym (tells_apart client_exact q row.0 t)) ∙ none))
      | false ↦ λ _. covered q aside news h.1 none
    ] refl

pub saved_map : {X : Type 0} (aside : Rows) (f : List ℕ × X → List Op) (news : List (List ℕ × X)) → AreSaved aside news → AreSaved aside (map (λ g. (g.0, f g)) news)
saved_map aside f [] h = tt
saved_map aside f (row ∷ news) h = (h.0, saved_map aside f news h.1)

-- who lies aside has a place
pub room_of : (q : List ℕ) (rows aside : Rows) → AreSaved rows aside → IsSome (find client_cmp q aside) → IsSome (find client_cmp q rows)
room_of q rows [] h s = absurd (true≢false (sym s))
room_of q rows (row ∷ aside) h s =
    elim (eq_by_cmp client_cmp q row.0) as (λ b. eq_by_cmp client_cmp q row.0 ≡ b → IsSome (cond b (Some row.1) (find client_cmp q aside)) → IsSome (find client_cmp q rows)) [
      | true ↦ λ t _. subst (λ (k : List ℕ). IsSome (find client_cmp k rows)) (sym (tells_apart client_exact q row.0 t)) h.0
      | false ↦ λ _ s. room_of q rows aside h.1 s
    ] refl s

-- with nothing aside
pub begin_back : (rows : Rows) → count_named rows ≤ MOST_CLIENTS → CanGoBack rows []
begin_back rows h = record { room = tt; few = h }

-- behind a commit of what lies aside
pub commit_back : (rows news aside : Rows) → T (is_sorted client_cmp rows) → AreSaved aside news → CanGoBack rows aside → CanGoBack (rows_with rows news) aside × (flat (rows_with (rows_with rows news) aside) ≡ flat (rows_with rows aside))
commit_back rows news aside h saved can =
    let same : rows_with (rows_with rows news) aside ≡ rows_with rows aside = moved_over rows news aside h (λ q none. covered q aside news saved none) in (
      record { room = room_all rows (rows_with rows news) aside (λ q s. room_moved q rows news s) can.room; few = subst (λ (rs : Rows). count_named rs ≤ MOST_CLIENTS) (sym same) can.few },
      ap flat same,
    )

-- with an empty place more
pub place_back : (rows aside : Rows) (c : List ℕ) → T (is_sorted client_cmp rows) → find client_cmp c rows ≡ None → CanGoBack rows aside → CanGoBack (put client_cmp c [] rows) aside × (flat (rows_with (put client_cmp c [] rows) aside) ≡ flat (rows_with rows aside))
place_back rows aside c h none can =
    let unsaved : find client_cmp c aside ≡ None = covered c rows aside can.room none in (
      record {
        room = room_all rows (put client_cmp c [] rows) aside (λ q s. room_put q c [] rows s) can.room;
        few = subst (λ (n : ℕ). n ≤ MOST_CLIENTS) (sym (count_roomier rows aside c h none unsaved)) can.few;
      },
      flat_roomier rows aside c h none unsaved,
    )

-- with one row more aside
pub save_back : (rows aside : Rows) (c : List ℕ) → T (is_sorted client_cmp rows) → IsSome (find client_cmp c rows) → find client_cmp c aside ≡ None → CanGoBack rows aside
    → CanGoBack rows (put client_cmp c (own c rows) aside) × (rows_with rows (put client_cmp c (own c rows) aside) ≡ rows_with rows aside)
save_back rows aside c h is new can =
    let same : rows_with rows (put client_cmp c (own c rows) aside) ≡ rows_with rows aside = moved_saved rows aside c h is new in (
      record {
        room = all_put client_cmp client_exact (λ (k : List ℕ) (v : List Op). IsSome (find client_cmp k rows)) c (own c rows) aside is can.room;
        few = subst (λ (rs : Rows). count_named rs ≤ MOST_CLIENTS) (sym same) can.few;
      },
      same,
    )

-- ---- the first of those that lie aside goes back

first_of : (a b : Bool) → T (a && b) → T a
first_of true b p = tt
first_of false b p = p

second_of : (a b : Bool) → T (a && b) → T b
second_of true b p = p
second_of false b p = absurd p

pub sorted_rest : {X : Type 0} (x : List ℕ × X) (es : List (List ℕ × X)) → T (is_sorted client_cmp (x ∷ es)) → T (is_sorted client_cmp es)
sorted_rest x es h = second_of (below_all client_cmp x.0 es) (is_sorted client_cmp es) h

none_below : {X : Type 0} (x : List ℕ × X) (es : List (List ℕ × X)) → T (is_sorted client_cmp (x ∷ es)) → find client_cmp x.0 es ≡ None
none_below x es h = find_below client_cmp x.0 es (first_of (below_all client_cmp x.0 es) (is_sorted client_cmp es) h)

pub moved_first : (rows aside : Rows) (c : List ℕ) (ops : List Op) → T (is_sorted client_cmp rows) → T (is_sorted client_cmp ((c, ops) ∷ aside)) → rows_with (put client_cmp c ops rows) aside ≡ rows_with rows ((c, ops) ∷ aside)
moved_first rows aside c ops h s = moved_put rows aside c ops h (none_below (c, ops) aside s)

-- ---- no more of the clients have operations aside than do once those are put back

-- where each client with operations here has some there
fewer : (xs ys : Rows) → T (is_sorted client_cmp xs) → T (is_sorted client_cmp ys) → ((q : List ℕ) → has_any (own q xs) ≡ true → has_any (own q ys) ≡ true) → count_named xs ≤ count_named ys
fewer [] ys s t h = omega arith
fewer (x ∷ xs) ys s t h =
    subst (λ (n : ℕ). n ≤ count_named ys) (sym (head_count x xs))
    (elim (has_any x.1) as (λ b. has_any x.1 ≡ b → one_if b + count_named xs ≤ count_named ys) [
      | true ↦ λ e.
          let named : has_any (own x.0 ys) ≡ true = h x.0 (ap (λ r. has_any (or_nothing (cond (is_eq r) (Some x.1) (find client_cmp x.0 xs)))) (tied_itself client_total x.0) ∙ e) in
          let one : one_if (has_any (own x.0 ys)) ≡ 1 = ap one_if named in
          let counts : count_named (put client_cmp x.0 [] ys) + one_if (has_any (own x.0 ys)) ≡ count_named ys + 0 = count_put x.0 [] ys t in
          let rest : count_named xs ≤ count_named (put client_cmp x.0 [] ys) = fewer xs (put client_cmp x.0 [] ys) tail (is_sorted-put client_cmp client_total x.0 [] ys t)
          (λ q any. ap (λ (o : Option (List Op)). has_any (or_nothing o)) (find-put client_cmp client_total q x.0 [] ys ∙ ap (λ b. cond b (Some []) (find client_cmp q ys)) (apart q any)) ∙ h q (here q any)) in
          let all : 1 + count_named xs ≤ count_named ys = omega (arith, one, counts, rest) in
          all
      | false ↦ λ _.
          let rest : count_named xs ≤ count_named ys = fewer xs ys tail t (λ q any. h q (here q any)) in
          let all : 0 + count_named xs ≤ count_named ys = omega (arith, rest) in
          all
    ] refl)
  where
    tail : T (is_sorted client_cmp xs)
    tail = sorted_rest x xs s

    apart : (q : List ℕ) → has_any (own q xs) ≡ true → eq_by_cmp client_cmp q x.0 ≡ false
    apart q any =
        elim (eq_by_cmp client_cmp q x.0) as (λ b. eq_by_cmp client_cmp q x.0 ≡ b → b ≡ false) [
          | true ↦ λ t. absurd (true≢false (sym any ∙ ap (λ k. has_any (own k xs)) (tells_apart client_exact q x.0 t) ∙ ap (λ (o : Option (List Op)). has_any (or_nothing o)) (none_below x xs s)))
          | false ↦ λ _. refl
        ] refl

    here : (q : List ℕ) → has_any (own q xs) ≡ true → has_any (own q (x ∷ xs)) ≡ true
    here q any = ap (λ b. has_any (or_nothing (cond b (Some x.1) (find client_cmp q xs)))) (apart q any) ∙ any

some_left : (x y : Option (List Op)) → has_any (or_nothing x) ≡ true → has_any (or_nothing (or_else x y)) ≡ true
some_left None y h = absurd (true≢false (sym h))
some_left (Some x) y h = h

pub count_aside : (rows aside : Rows) → T (is_sorted client_cmp rows) → T (is_sorted client_cmp aside) → CanGoBack rows aside → count_named aside ≤ MOST_CLIENTS
count_aside rows aside h s can =
    let less : count_named aside ≤ count_named (rows_with rows aside) = fewer aside (rows_with rows aside) s (sorted_moved rows aside h)
    (λ q any. ap (λ (o : Option (List Op)). has_any (or_nothing o)) (find_in_moved q rows aside) ∙ some_left (find client_cmp q aside) (find client_cmp q rows) any) in
    omega (arith, less, can.few)
