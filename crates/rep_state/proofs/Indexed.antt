-- The names of the clients in order, each with the index of its entry.
use Rattle.std.proofs.Common.{◌≡◌, ℕ, zero, suc, ◌+◌, Bool, true, false, cond, ◌&&◌, if◌then◌else◌, List, [], ◌∷◌, ◌++◌, map, length, drop, Some, None, Option, is_some, IsSome, T, refl, sym, ap, ◌∙◌, subst, arith, true≢false, Less, Equal, Greater, Ordering, Vec, Global}
use Rattle.std.proofs.lemmas.List.{drop-drop}
use Rattle.std.proofs.lemmas.Option.{slice_get-map}
use Rattle.std.specs.Option.{option_map, unwrap_or}
use Rattle.std.specs.Ordering.{is_lt, ordering_reverse}
use Rattle.std.specs.Cmp.{IsTotalOrder, on_total}
use Rattle.std.specs.List.{AllByRecursion, slice_get}
use Rattle.std.specs.Map.{lookup, keys_of, set_value}
use Rattle.std.specs.FinMap.{find, put, is_sorted}
use Rattle.std.specs.FinMap.Entries.{below_all, by_order, length-put}
use Rattle.std.specs.Prelude.{bytes_eq}
use Rattle.indexmap.specs.IndexMap.{insert_entry}
use Rattle.rep_op.specs.Orders.{client_cmp}
use Rattle.rep_model.proofs.Lookup.{is_sorted-in_order}
use Rattle.rep_model.proofs.Readers.{client_total, client_exact}
use Rattle.rep_shared.proofs.Counting.{all_found}
use Rattle.sn_tables.specs.Tables.{is_ascending, with_entry}
use Rattle.sn_tables.specs.inner.Tables.{IsFoundAt, IsGap}
use Rattle.sn_tables.proofs.Ascending.{Ascends, to_test, all_with, less}
use Rattle.sn_tables.proofs.Places.{with_at, with_gap}
use Rattle.rep_entry.specs.declared.entry.Entry.{Entry}
use Rattle.rep_state.specs.declared.places.Place.{Place}
use Rattle.rep_state.specs.Tables.{plain_of, by_client, arrivals, names_at, ArePlaces}
use Rattle.rep_state.specs.inner.Tables.{place_cmp}

pub same_some : {A : Type 0} (x y : A) → Some x ≡ Some y → x ≡ y
same_some x y e = ap (λ o. unwrap_or o x) e

pub none_is_some : {A P : Type 0} (x : A) → None ≡ Some x → P
none_is_some x h = absurd (true≢false (sym (ap is_some h)))

pub in_order : (es : List (Vec ℕ Global × Entry)) → T (is_sorted client_cmp (by_client es))
in_order es = is_sorted-in_order client_cmp client_total (plain_of es)

-- ---- a client at a place

module _ (all : List (List ℕ × Entry)) (c : List ℕ) (e : Entry) (found : find client_cmp c all ≡ Some e) where
  go : (xs : List (List ℕ × Entry)) (i : ℕ) → AllByRecursion (λ x. find client_cmp x.0 all ≡ Some x.1) xs → slice_get (keys_of xs) i ≡ Some c → drop i xs ≡ (c, e) ∷ drop 1 (drop i xs)
  go [] i h is = none_is_some c is
  go (x ∷ xs) zero h is =
      let name : x.0 ≡ c = same_some x.0 c is in
      let entry : x.1 ≡ e = same_some x.1 e (sym h.0 ∙ ap (λ k. find client_cmp k all) name ∙ found) in
      λ j. (name j, entry j) ∷ xs
  go (x ∷ xs) (suc i) h is = go xs i h.1 is

-- the one whose name stands there, with the entry that is found under it
pub entry_at : (es : List (List ℕ × Entry)) (i : ℕ) (c : List ℕ) (e : Entry) → T (is_sorted client_cmp es) → slice_get (keys_of es) i ≡ Some c → find client_cmp c es ≡ Some e → drop i es ≡ (c, e) ∷ drop (i + 1) es
entry_at es i c e sorted is found = go es c e found es i (all_found client_cmp client_total es sorted) is ∙ ap (λ rest. (c, e) ∷ rest) (drop-drop 1 i es)

-- nobody after the last
pub none_at : (es : List (List ℕ × Entry)) (i : ℕ) → slice_get (keys_of es) i ≡ None → drop i es ≡ []
none_at [] zero h = refl
none_at [] (suc i) h = refl
none_at (e ∷ es) zero h = none_is_some e.0 (sym h)
none_at (e ∷ es) (suc i) h = none_at es i h

pub name_at : (es : List (Vec ℕ Global × Entry)) (places : List Place) (i : ℕ) (o : Option Place) → ArePlaces es places → o ≡ slice_get places i → slice_get (keys_of (by_client es)) i ≡ option_map (λ (p : Place). p.name) o
name_at es places i o h is = ap (λ ks. slice_get ks i) (sym h.names) ∙ slice_get-map (λ (p : Place). p.name) places i ∙ ap (option_map (λ (p : Place). p.name)) (sym is)

all_get : {A : Type 0} (P : A → Type 0) (xs : List A) (i : ℕ) (x : A) → AllByRecursion P xs → slice_get xs i ≡ Some x → P x
all_get P [] i x h is = none_is_some x is
all_get P (y ∷ xs) zero x h is = subst P (same_some y x is) h.0
all_get P (y ∷ xs) (suc i) x h is = all_get P xs i x h.1 is

-- the name of the entry that a place leads to
pub led_to : (es : List (Vec ℕ Global × Entry)) (places : List Place) (i : ℕ) (p : Place) (o : Option (Vec ℕ Global × Entry)) → ArePlaces es places → Some p ≡ slice_get places i → o ≡ slice_get es p.index → option_map (λ (e : Vec ℕ Global × Entry). e.0.items) o ≡ Some p.name
led_to es places i p o h is found =
    ap (option_map (λ (e : Vec ℕ Global × Entry). e.0.items)) found
    ∙ sym (slice_get-map (λ (e : Vec ℕ Global × Entry). e.0.items) es p.index)
    ∙ all_get (λ (p : Place). slice_get (arrivals es) p.index ≡ Some p.name) places i p h.each (sym is)

-- ---- one place more

keys_put : (c : List ℕ) (x : Entry) (es : List (List ℕ × Entry)) → keys_of (put client_cmp c x es) ≡ with_entry client_cmp c (keys_of es)
keys_put c x [] = refl
keys_put c x (e ∷ es) =
    elim (client_cmp c e.0) as (λ r. client_cmp c e.0 ≡ r → keys_of (by_order r ((c, x) ∷ e ∷ es) ((e.0, x) ∷ es) (e ∷ put client_cmp c x es)) ≡ Rattle.sn_tables.specs.Tables.by_order r (c ∷ e.0 ∷ keys_of es) (c ∷ keys_of es) (e.0 ∷ with_entry client_cmp c (keys_of es))) [
      | Less ↦ λ _. refl
      | Equal ↦ λ t. ap (λ d. d ∷ keys_of es) (sym (client_exact c e.0 t))
      | Greater ↦ λ _. ap (λ rest. e.0 ∷ rest) (keys_put c x es)
    ] refl

names_with : (p : Place) (places : List Place) → names_at (with_entry place_cmp p places) ≡ with_entry client_cmp p.name (names_at places)
names_with p [] = refl
names_with p (q ∷ places) =
    elim (client_cmp p.name q.name) as (λ r. names_at (Rattle.sn_tables.specs.Tables.by_order r (p ∷ q ∷ places) (p ∷ places) (q ∷ with_entry place_cmp p places)) ≡ Rattle.sn_tables.specs.Tables.by_order r (p.name ∷ q.name ∷ names_at places) (p.name ∷ names_at places) (q.name ∷ with_entry client_cmp p.name (names_at places))) [
      | Less ↦ refl
      | Equal ↦ refl
      | Greater ↦ ap (λ rest. q.name ∷ rest) (names_with p places)
    ]

still_there : {A : Type 0} (xs ys : List A) (i : ℕ) (x : A) → slice_get xs i ≡ Some x → slice_get (xs ++ ys) i ≡ Some x
still_there [] ys i x h = none_is_some x h
still_there (y ∷ xs) ys zero x h = h
still_there (y ∷ xs) ys (suc i) x h = still_there xs ys i x h

last_there : {A : Type 0} (xs : List A) (x : A) → slice_get (xs ++ x ∷ []) (length xs) ≡ Some x
last_there [] x = refl
last_there (y ∷ xs) x = last_there xs x

-- a new client comes last
came_last : (k : Vec ℕ Global) (x : Entry) (es : List (Vec ℕ Global × Entry)) → lookup (λ (j : Vec ℕ Global). bytes_eq k.items j.items) es ≡ None → arrivals (insert_entry (λ (a b : Vec ℕ Global). bytes_eq a.items b.items) es k x) ≡ arrivals es ++ k.items ∷ []
came_last k x [] h = refl
came_last k x (e ∷ es) h =
    elim (bytes_eq k.items e.0.items) as (λ b. cond b (Some e.1) (lookup (λ (j : Vec ℕ Global). bytes_eq k.items j.items) es) ≡ None → arrivals (if b then (e.0, x) ∷ es else e ∷ insert_entry (λ (a b : Vec ℕ Global). bytes_eq a.items b.items) es k x) ≡ e.0.items ∷ arrivals es ++ k.items ∷ []) [
      | true ↦ λ some. none_is_some e.1 (sym some)
      | false ↦ λ none. ap (λ rest. e.0.items ∷ rest) (came_last k x es none)
    ] h

all_more : {A : Type 0} (P Q : A → Type 0) → ((x : A) → P x → Q x) → (xs : List A) → AllByRecursion P xs → AllByRecursion Q xs
all_more P Q weaker [] h = tt
all_more P Q weaker (x ∷ xs) h = (weaker x h.0, all_more P Q weaker xs h.1)

pub places_with : (es new : List (Vec ℕ Global × Entry)) (places so : List Place) (k : Vec ℕ Global) (x : Entry) (p : Place)
    → ArePlaces es places
    → lookup (λ (j : Vec ℕ Global). bytes_eq k.items j.items) es ≡ None
    → new ≡ insert_entry (λ (a b : Vec ℕ Global). bytes_eq a.items b.items) es k x
    → by_client new ≡ put client_cmp k.items x (by_client es)
    → p.name ≡ k.items → p.index ≡ length es
    → so ≡ with_entry place_cmp p places
    → ArePlaces new so
places_with es new places so k x p h none is at name index more =
    let last : arrivals new ≡ arrivals es ++ k.items ∷ [] = ap arrivals is ∙ came_last k x es none in
    let old = all_more (λ (q : Place). slice_get (arrivals es) q.index ≡ Some q.name) (λ (q : Place). slice_get (arrivals new) q.index ≡ Some q.name)
    (λ q there. ap (λ ks. slice_get ks q.index) last ∙ still_there (arrivals es) (k.items ∷ []) q.index q.name there) places h.each in
    let here : slice_get (arrivals new) p.index ≡ Some p.name =
    ap (λ ks. slice_get ks p.index) last ∙ ap (slice_get (arrivals es ++ k.items ∷ [])) (index ∙ sym (as_long es)) ∙ last_there (arrivals es) k.items ∙ ap (λ c. Some c) (sym name) in
    record {
      names = ap names_at more ∙ names_with p places ∙ ap (with_entry client_cmp p.name) h.names ∙ ap (λ c. with_entry client_cmp c (keys_of (by_client es))) name ∙ sym (keys_put k.items x (by_client es)) ∙ ap keys_of (sym at);
      each = subst (AllByRecursion (λ (q : Place). slice_get (arrivals new) q.index ≡ Some q.name)) (sym more) (all_with place_cmp (λ (q : Place). slice_get (arrivals new) q.index ≡ Some q.name) p places here old);
    }
  where
    as_long : (es : List (Vec ℕ Global × Entry)) → length (arrivals es) ≡ length es
    as_long [] = refl
    as_long (e ∷ es) = ap suc (as_long es)

-- ---- an entry in its place

both_parts : (a b : Bool) → T (a && b) → T b
both_parts true b h = h
both_parts false b h = absurd h

keys_there : (c : List ℕ) (x : Entry) (es : List (List ℕ × Entry)) → T (is_sorted client_cmp es) → IsSome (find client_cmp c es) → keys_of (put client_cmp c x es) ≡ keys_of es
keys_there c x [] sorted h = absurd (true≢false (sym h))
keys_there c x (e ∷ es) sorted h =
    let long : length (put client_cmp c x (e ∷ es)) ≡ suc (length es) =
    length-put client_cmp client_total c x (e ∷ es) sorted ∙ ap (λ b. cond b (suc (length es)) (suc (length es) + 1)) h in
    elim (client_cmp c e.0) as (λ r. client_cmp c e.0 ≡ r → IsSome (find client_cmp c (e ∷ es)) → keys_of (by_order r ((c, x) ∷ e ∷ es) ((e.0, x) ∷ es) (e ∷ put client_cmp c x es)) ≡ e.0 ∷ keys_of es) [
      | Less ↦ λ t _. absurd (longer (length es) (ap (λ r. length (by_order r ((c, x) ∷ e ∷ es) ((e.0, x) ∷ es) (e ∷ put client_cmp c x es))) (sym t) ∙ long))
      | Equal ↦ λ _ _. refl
      | Greater ↦ λ t there. ap (λ rest. e.0 ∷ rest) (keys_there c x es (both_parts (below_all client_cmp e.0 es) (is_sorted client_cmp es) sorted) (ap (λ r. is_some (cond (Rattle.std.specs.Ordering.is_eq r) (Some e.1) (find client_cmp c es))) (sym t) ∙ there))
    ] refl h
  where
    longer : (n : ℕ) → suc (suc n) ≡ suc n → ⊥
    longer n h = omega (arith, h)

came_before_write : (test : Vec ℕ Global → Bool) (x : Entry) (es : List (Vec ℕ Global × Entry)) → arrivals (set_value test es x) ≡ arrivals es
came_before_write test x [] = refl
came_before_write test x (e ∷ es) = elim (test e.0) as (λ b. arrivals (cond b ((e.0, x) ∷ es) (e ∷ set_value test es x)) ≡ e.0.items ∷ arrivals es) [
  | true ↦ refl
  | false ↦ ap (λ rest. e.0.items ∷ rest) (came_before_write test x es)
]

pub places_written : (es new : List (Vec ℕ Global × Entry)) (places : List Place) (c : List ℕ) (x : Entry) (test : Vec ℕ Global → Bool)
    → ArePlaces es places
    → IsSome (find client_cmp c (by_client es))
    → new ≡ set_value test es x
    → by_client new ≡ put client_cmp c x (by_client es)
    → ArePlaces new places
places_written es new places c x test h there is at =
    let same : arrivals new ≡ arrivals es = ap arrivals is ∙ came_before_write test x es in
    record {
      names = h.names ∙ sym (ap keys_of at ∙ keys_there c x (by_client es) (in_order es) there);
      each = subst (λ ks. AllByRecursion (λ (q : Place). slice_get ks q.index ≡ Some q.name) places) (sym same) h.each;
    }

-- ---- the order of places

place_total : IsTotalOrder place_cmp
place_total = on_total (λ (p : Place). p.name) client_total

ascending_keys : (es : List (List ℕ × Entry)) → T (is_sorted client_cmp es) → Ascends client_cmp (keys_of es)
ascending_keys [] h = tt
ascending_keys (e ∷ es) h = (below e.0 es (front (below_all client_cmp e.0 es) (is_sorted client_cmp es) h), ascending_keys es (both_parts (below_all client_cmp e.0 es) (is_sorted client_cmp es) h))
  where
    front : (a b : Bool) → T (a && b) → T a
    front true b h = tt
    front false b h = absurd h

    is_less : (r : Ordering) → T (is_lt r) → r ≡ Less
    is_less Less h = refl
    is_less Equal h = absurd h
    is_less Greater h = absurd h

    below : (c : List ℕ) (es : List (List ℕ × Entry)) → T (below_all client_cmp c es) → AllByRecursion (λ d. client_cmp c d ≡ Less) (keys_of es)
    below c [] h = tt
    below c (e ∷ es) h = (is_less (client_cmp c e.0) (front (is_lt (client_cmp c e.0)) (below_all client_cmp c es) h), below c es (both_parts (is_lt (client_cmp c e.0)) (below_all client_cmp c es) h))

ascending_names : (places : List Place) → Ascends client_cmp (names_at places) → Ascends place_cmp places
ascending_names [] h = tt
ascending_names (p ∷ places) h = (below p places h.0, ascending_names places h.1)
  where
    below : (p : Place) (places : List Place) → AllByRecursion (λ d. client_cmp p.name d ≡ Less) (names_at places) → AllByRecursion (λ q. place_cmp p q ≡ Less) places
    below p [] h = tt
    below p (q ∷ places) h = (h.0, below p places h.1)

pub places_ascend : (es : List (Vec ℕ Global × Entry)) (places : List Place) → ArePlaces es places → Ascends place_cmp places
places_ascend es places h = ascending_names places (subst (Ascends client_cmp) (sym h.names) (ascending_keys (by_client es) (in_order es)))

pub places_pass : (es : List (Vec ℕ Global × Entry)) (places : List Place) → ArePlaces es places → is_ascending place_cmp places ≡ true
places_pass es places h = to_test place_cmp places (places_ascend es places h)

pub ascend_tested : (places : List Place) → is_ascending place_cmp places ≡ true → Ascends place_cmp places
ascend_tested places h = Rattle.sn_tables.proofs.Ascending.from_test place_cmp place_total places h

-- ---- where a place goes

turns : (p q : Place) → place_cmp p q ≡ ordering_reverse (client_cmp q.name p.name)
turns p q = client_total.antisymm p.name q.name

pub set_is : (places : List Place) (i : ℕ) (p : Place) → IsFoundAt (λ q. client_cmp q.name p.name) places i → Rattle.std.proofs.Common.set places i p ≡ with_entry place_cmp p places
set_is places i p h = sym (with_at (λ (q : Place). client_cmp q.name p.name) place_cmp p (turns p) places i h)

pub insert_is : (places : List Place) (i : ℕ) (p : Place) → IsGap (λ q. client_cmp q.name p.name) places i → Rattle.std.specs.List.insert places i p ≡ with_entry place_cmp p places
insert_is places i p h = sym (with_gap (λ (q : Place). client_cmp q.name p.name) place_cmp p (turns p) places i h)

-- what is so in the case that is
pub chosen : {X : Type 0} (b : Bool) (x y z : X) → b ≡ true → z ≡ (if b then x else y) → z ≡ x
chosen true x y z e is = is
chosen false x y z e is = absurd (true≢false (sym e))

-- as many places as clients
pub as_many : (es : List (Vec ℕ Global × Entry)) (places : List Place) → ArePlaces es places → length places ≡ length (by_client es)
as_many es places h = sym (long places) ∙ ap length h.names ∙ short (by_client es)
  where
    long : (places : List Place) → length (names_at places) ≡ length places
    long [] = refl
    long (p ∷ places) = ap suc (long places)

    short : (es : List (List ℕ × Entry)) → length (keys_of es) ≡ length es
    short [] = refl
    short (e ∷ es) = ap suc (short es)
