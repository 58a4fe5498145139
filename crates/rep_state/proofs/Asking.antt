-- What the marks of a client say of the topics that it asks for.
use Rattle.std.proofs.Common.{◌≡◌, ℕ, suc, zero, ◌+◌, ◌<◌, Bool, true, false, cond, fold, map, filter, List, [], ◌∷◌, ◌++◌, drop, set, get_or, length, Some, None, Option, option_and_then, is_some, refl, sym, ap, ◌∙◌, subst, arith, true≢false, Ordering, Less, Greater, Vec, Global}
use Rattle.std.proofs.lemmas.List.{drop-map}
use Rattle.std.specs.Map.{keys_of}
use Rattle.std.specs.List.{AllByRecursion, slice_get}
use Rattle.std.specs.Ordering.{is_eq, eq_by_cmp}
use Rattle.std.specs.FinMap.{find, put}
use Rattle.std.specs.FinMap.Entries.{find-put}
use Rattle.std.proofs.lemmas.Map.Views.{tells_apart}
use Rattle.sn_topic.specs.Matching.{is_match}
use Rattle.sn_tables.specs.Tables.{with_entry}
use Rattle.sn_tables.specs.inner.Tables.{IsFoundAt, IsGap, AllAbove}
use Rattle.sn_tables.specs.Subscriptions.{asked_qos, subscribed_qos, or_greater}
use Rattle.sn_session.specs.declared.session.Session.{Session}
use Rattle.sn_tables.specs.declared.subscriptions.Subscription.{Subscription}
use Rattle.sn_tables.proofs.Ascending.{all_with}
use Rattle.rep_op.specs.Orders.{client_cmp}
use Rattle.rep_model.specs.Asking.{is_subscribed, NoneAsks}
use Rattle.rep_model.specs.Views.{view}
use Rattle.rep_model.proofs.Readers.{client_total, client_exact}
use Rattle.rep_shared.specs.Rows.{flat, own}
use Rattle.rep_shared.proofs.Flat.{of_flat}
use Rattle.rep_shared.proofs.Single.{view_own}
use Rattle.rep_state.proofs.Entering.{seen_row}
use Rattle.rep_entry.proofs.Owning.{found_holds}
use Rattle.rep_state.proofs.Reading.{own_found}
use Rattle.rep_state.proofs.Rows.{table_rows}
use Rattle.rep_state.proofs.Walking.{names_from}
use Rattle.rep_entry.specs.declared.entry.Entry.{Entry}
use Rattle.rep_state.specs.declared.places.Place.{Place}
use Rattle.rep_log.specs.declared.log.Log.{Log}
use Rattle.rep_entry.specs.declared.change.Change.{Change}
use Rattle.rep_log.specs.Logs.{session_on}
use Rattle.rep_entry.specs.Applied.{entry_applied}
use Rattle.rep_state.specs.Tables.{arrivals, names_at, rows_of, ArePlaces, IsKept, IsEntryTable}
use Rattle.rep_state.specs.inner.Tables.{place_cmp}
use Rattle.rep_entry.specs.Interests.{mark_of, has_mark, AskWithin, SessionWithin}
use Rattle.rep_state.specs.Interests.{EntryWithin, AreMarked}
use Rattle.rep_state.specs.inner.Groups.{held_of, or_nothing_held}
use Rattle.rep_state.specs.inner.Interests.{marked, AreMarksOf, marks_noted, NoneMarked, IsPassed, IsSilent, AreSilent, IsNext}

-- ---- a client without the mark does not ask

none_asked : (marks : ℕ) (topic : List ℕ) (subscriptions : List Subscription) → AskWithin marks subscriptions → has_mark marks (mark_of topic) ≡ false → asked_qos topic subscriptions ≡ []
none_asked marks topic [] h unmarked = refl
none_asked marks topic (s ∷ rest) h unmarked =
    elim (is_match s.filter topic) as (λ b. is_match s.filter topic ≡ b → map (λ (s : Subscription). s.qos) (cond b (s ∷ filter (λ (s : Subscription). is_match s.filter topic) rest) (filter (λ (s : Subscription). is_match s.filter topic) rest)) ≡ []) [
      | true ↦ λ t. absurd (true≢false (sym (h.0 topic t) ∙ unmarked))
      | false ↦ λ _. none_asked marks topic rest h.1 unmarked
    ] refl

pub session_silent : (marks : ℕ) (topic : List ℕ) (session : Option Session) → SessionWithin marks session → has_mark marks (mark_of topic) ≡ false → is_some (option_and_then (λ (s : Session). subscribed_qos topic s.subscriptions) session) ≡ false
session_silent marks topic None h unmarked = refl
session_silent marks topic (Some session) h unmarked = ap (λ qs. is_some (fold or_greater None qs)) (none_asked marks topic session.subscriptions h unmarked)

pub silent : (marks : ℕ) (topic : List ℕ) (found : Option Entry) → EntryWithin marks found → has_mark marks (mark_of topic) ≡ false → IsSilent topic found
silent marks topic None h unmarked = tt
silent marks topic (Some entry) h unmarked = session_silent marks topic entry.seen.session h unmarked

-- ---- places with their marks

all_drop : {A : Type 0} (P : A → Type 0) (n : ℕ) (xs : List A) → AllByRecursion P xs → AllByRecursion P (drop n xs)
all_drop P zero xs h = h
all_drop P (suc n) [] h = h
all_drop P (suc n) (x ∷ xs) h = all_drop P n xs h.1

all_front : {A : Type 0} (P : A → Type 0) (xs ys : List A) → AllByRecursion P (xs ++ ys) → AllByRecursion P xs
all_front P [] ys h = tt
all_front P (x ∷ xs) ys h = (h.0, all_front P xs ys h.1)

-- names of places without the mark
pub silent_names : (topic : List ℕ) (es : List (List ℕ × Entry)) (places : List Place) → AreMarked es places → NoneMarked (mark_of topic) places → AreSilent topic es (names_at places)
silent_names topic es [] h unmarked = tt
silent_names topic es (p ∷ places) h unmarked = (silent p.marks topic (find client_cmp p.name es) h.0 unmarked.0, silent_names topic es places h.1 unmarked.1)

-- the same from a place on
pub silent_from : (topic : List ℕ) (es : List (List ℕ × Entry)) (places passed rest : List Place) (from : ℕ) → AreMarked es places → drop from places ≡ passed ++ rest → NoneMarked (mark_of topic) passed → AreSilent topic es (names_at passed)
silent_from topic es places passed rest from h is unmarked =
    silent_names topic es passed (all_front (λ (p : Place). EntryWithin p.marks (find client_cmp p.name es)) passed rest (subst (AllByRecursion (λ (p : Place). EntryWithin p.marks (find client_cmp p.name es))) is (all_drop (λ (p : Place). EntryWithin p.marks (find client_cmp p.name es)) from places h))) unmarked

-- ---- an entry in its place

kept_within : (q : List ℕ) (marks : ℕ) (c : List ℕ) (e : Entry) (es : List (List ℕ × Entry)) → (eq_by_cmp client_cmp q c ≡ true → SessionWithin marks e.seen.session) → EntryWithin marks (find client_cmp q es) → EntryWithin marks (find client_cmp q (put client_cmp c e es))
kept_within q marks c e es new old =
    subst (EntryWithin marks) (sym (find-put client_cmp client_total q c e es))
    (elim (eq_by_cmp client_cmp q c) as (λ b. eq_by_cmp client_cmp q c ≡ b → EntryWithin marks (cond b (Some e) (find client_cmp q es))) [
      | true ↦ λ t. new t
      | false ↦ λ _. old
    ] refl)

-- one more that asks for nothing
pub marked_with : (es new : List (List ℕ × Entry)) (places so : List Place) (c : List ℕ) (e : Entry) (p : Place) → AreMarked es places → new ≡ put client_cmp c e es → e.seen.session ≡ None → find client_cmp p.name es ≡ None → so ≡ with_entry place_cmp p places → AreMarked new so
marked_with es new places so c e p h is none absent more =
    let P : Place → Type 0 = λ q. EntryWithin q.marks (find client_cmp q.name new) in
    let nothing : (marks : ℕ) → SessionWithin marks e.seen.session = λ marks. subst (SessionWithin marks) (sym none) tt in
    let at : (q : Place) → EntryWithin q.marks (find client_cmp q.name es) → P q = λ q old. subst (λ xs. EntryWithin q.marks (find client_cmp q.name xs)) (sym is) (kept_within q.name q.marks c e es (λ _. nothing q.marks) old) in
    let here : P p = at p (subst (EntryWithin p.marks) (sym absent) tt) in
    subst (AllByRecursion P) (sym more) (all_with place_cmp P p places here (all_at P at places h))
  where
    all_at : (P : Place → Type 0) → ((q : Place) → EntryWithin q.marks (find client_cmp q.name es) → P q) → (places : List Place) → AreMarked es places → AllByRecursion P places
    all_at P at [] h = tt
    all_at P at (q ∷ places) h = (at q h.0, all_at P at places h.1)

-- one that asks for something else
pub marked_anew : (es new : List (List ℕ × Entry)) (c : List ℕ) (e : Entry) (marks : ℕ) (places : List Place) → AreMarked es places → new ≡ put client_cmp c e es → SessionWithin marks e.seen.session → AreMarked new (map (marked c marks) places)
marked_anew es new c e marks [] h is within = tt
marked_anew es new c e marks (p ∷ places) h is within = (one, marked_anew es new c e marks places h.1 is within)
  where
    Q : Place → Type 0
    Q q = EntryWithin q.marks (find client_cmp q.name new)

    there : (b : Bool) → eq_by_cmp client_cmp p.name c ≡ b → Q (cond b (record { name = p.name; index = p.index; marks = marks }) p)
    there true t =
        subst (EntryWithin marks) (sym (ap (find client_cmp p.name) is ∙ find-put client_cmp client_total p.name c e es ∙ ap (λ b. cond b (Some e) (find client_cmp p.name es)) t)) within
    there false t =
        subst (EntryWithin p.marks) (sym (ap (find client_cmp p.name) is ∙ find-put client_cmp client_total p.name c e es ∙ ap (λ b. cond b (Some e) (find client_cmp p.name es)) t)) h.0

    one : Q (marked c marks p)
    one = there (is_eq (client_cmp p.name c)) refl

-- one that asks for what it asked for
pub marked_as_before : (es new : List (List ℕ × Entry)) (c : List ℕ) (e : Entry) (places : List Place) → AreMarked es places → new ≡ put client_cmp c e es → e.seen.session ≡ (held_of c es).seen.session → AreMarked new places
marked_as_before es new c e [] h is same = tt
marked_as_before es new c e (p ∷ places) h is same = (one (eq_by_cmp client_cmp p.name c) refl, marked_as_before es new c e places h.1 is same)
  where
    found : (b : Bool) → eq_by_cmp client_cmp p.name c ≡ b → find client_cmp p.name new ≡ cond b (Some e) (find client_cmp p.name es)
    found b t = ap (find client_cmp p.name) is ∙ find-put client_cmp client_total p.name c e es ∙ ap (λ b. cond b (Some e) (find client_cmp p.name es)) t

    session : (o : Option Entry) → EntryWithin p.marks o → SessionWithin p.marks (or_nothing_held o).seen.session
    session None w = tt
    session (Some x) w = w

    one : (b : Bool) → eq_by_cmp client_cmp p.name c ≡ b → EntryWithin p.marks (find client_cmp p.name new)
    one true t =
        let name = tells_apart client_exact p.name c t in
        subst (EntryWithin p.marks) (sym (found true t)) (subst (SessionWithin p.marks) (sym same) (session (find client_cmp c es) (subst (λ k. EntryWithin p.marks (find client_cmp k es)) name h.0)))
    one false t = subst (EntryWithin p.marks) (sym (found false t)) h.0

-- the marks after a change
pub marked_noted : (es new : List (List ℕ × Entry)) (c : List ℕ) (ch : Change) (marks : Option ℕ) (places : List Place) → AreMarked es places → new ≡ put client_cmp c (entry_applied (held_of c es) ch) es → AreMarksOf ch.log marks → AreMarked new (marks_noted c marks places)
marked_noted es new c ch marks places h is are = by ch.log marks refl are
  where
    by : (log : Option Log) (marks : Option ℕ) → ch.log ≡ log → AreMarksOf log marks → AreMarked new (marks_noted c marks places)
    by None None e are = marked_as_before es new c (entry_applied (held_of c es) ch) places h is (ap (session_on (held_of c es).seen.session) e)
    by None (Some m) e are = some_none are
      where
        some_none : {P : Type 0} → Some m ≡ None → P
        some_none p = cc
    by (Some log) None e are = absurd are
    by (Some log) (Some m) e are = marked_anew es new c (entry_applied (held_of c es) ch) m places h is (subst (SessionWithin m) (sym (ap (session_on (held_of c es).seen.session) e)) are)

-- marks move unmarked place
pub places_marked : (entries : List (Vec ℕ Global × Entry)) (c : List ℕ) (marks : ℕ) (places : List Place) → ArePlaces entries places → ArePlaces entries (map (marked c marks) places)
places_marked entries c marks places h = record { names = names places ∙ h.names; each = each places h.each }
  where
    name : (p : Place) (b : Bool) → (cond b (record { name = p.name; index = p.index; marks = marks }) p).name ≡ p.name
    name p true = refl
    name p false = refl

    leads_to : Place → Type 0
    leads_to p = slice_get (arrivals entries) p.index ≡ Some p.name

    leads : (p : Place) (b : Bool) → leads_to p → leads_to (cond b (record { name = p.name; index = p.index; marks = marks }) p)
    leads p true h = h
    leads p false h = h

    names : (places : List Place) → names_at (map (marked c marks) places) ≡ names_at places
    names [] = refl
    names (p ∷ places) = let rest = names places in let first = name p (is_eq (client_cmp p.name c)) in λ i. first i ∷ rest i

    each : (places : List Place) → AllByRecursion leads_to places → AllByRecursion leads_to (map (marked c marks) places)
    each [] h = tt
    each (p ∷ places) h = (leads p (is_eq (client_cmp p.name c)) h.0, each places h.1)

pub places_noted : (entries : List (Vec ℕ Global × Entry)) (c : List ℕ) (marks : Option ℕ) (places : List Place) → ArePlaces entries places → ArePlaces entries (marks_noted c marks places)
places_noted entries c None places h = h
places_noted entries c (Some m) places h = places_marked entries c m places h

-- ---- the place of a client

module _ (c : List ℕ) (marks : ℕ) where
  same_marked : (p : Place) (r : Ordering) → client_cmp p.name c ≡ r → is_eq r ≡ false → marked c marks p ≡ p
  same_marked p r is unmarked = ap (λ r. cond (is_eq r) (record { name = p.name; index = p.index; marks = marks }) p) is ∙ ap (λ b. cond b (record { name = p.name; index = p.index; marks = marks }) p) unmarked

  above_same : (places : List Place) → AllAbove (λ (q : Place). client_cmp q.name c) places → map (marked c marks) places ≡ places
  above_same [] h = refl
  above_same (p ∷ places) h = let first = same_marked p Greater h.0 refl in let rest = above_same places h.1 in λ i. first i ∷ rest i

  pub gap_same : (places : List Place) (i : ℕ) → IsGap (λ (q : Place). client_cmp q.name c) places i → map (marked c marks) places ≡ places
  gap_same places zero h = above_same places h
  gap_same [] (suc i) h = refl
  gap_same (p ∷ places) (suc i) h = let first = same_marked p Less h.0 refl in let rest = gap_same places i h.1 in λ j. first j ∷ rest j

  pub set_marked : (places : List Place) (i : ℕ) (q : Place) → q ≡ get_or places i q → IsFoundAt (λ (q : Place). client_cmp q.name c) places i → set places i (record { name = q.name; index = q.index; marks = marks }) ≡ map (marked c marks) places
  set_marked [] i q is h = absurd h
  set_marked (p ∷ places) zero q is h =
      let here = ap (λ (p : Place). record { name = p.name; index = p.index; marks = marks }) is in
      let first = ap (λ r. cond (is_eq r) (record { name = p.name; index = p.index; marks = marks }) p) h.0 in
      let rest = above_same places h.1 in
      λ j. (here ∙ sym first) j ∷ sym rest j
  set_marked (p ∷ places) (suc i) q is h =
      let first = same_marked p Less h.0 refl in
      let rest = set_marked places i q is h.1 in
      λ j. sym first j ∷ rest j

-- ---- passed over

all_append : {A : Type 0} (P : A → Type 0) (xs ys : List A) → AllByRecursion P xs → AllByRecursion P ys → AllByRecursion P (xs ++ ys)
all_append P [] ys h g = g
all_append P (x ∷ xs) ys h g = (h.0, all_append P xs ys h.1 g)

behind_one : {A : Type 0} (xs ys : List A) (x : A) → xs ++ x ∷ ys ≡ (xs ++ x ∷ []) ++ ys
behind_one [] ys x = refl
behind_one (y ∷ xs) ys x = ap (λ rest. y ∷ rest) (behind_one xs ys x)

none_behind : {A : Type 0} (xs : List A) → xs ++ [] ≡ xs
none_behind [] = refl
none_behind (x ∷ xs) = ap (λ rest. x ∷ rest) (none_behind xs)

pub passed_none : (mark : ℕ) (places : List Place) (from : ℕ) → IsPassed mark places from from
passed_none mark places from = record { passed = []; stands = refl; none_marked = tt }

pub passed_one : (mark : ℕ) (places : List Place) (from at : ℕ) (p : Place) → IsPassed mark places from at → drop at places ≡ p ∷ drop (at + 1) places → has_mark p.marks mark ≡ false → IsPassed mark places from (at + 1)
passed_one mark places from at p h is unmarked = record {
  passed = h.passed ++ p ∷ [];
  stands = h.stands ∙ ap (λ rest. h.passed ++ rest) is ∙ behind_one h.passed (drop (at + 1) places) p;
  none_marked = all_append (λ (p : Place). has_mark p.marks mark ≡ false) h.passed (p ∷ []) h.none_marked (unmarked, tt);
}

pub passed_all : (mark : ℕ) (places : List Place) (from at : ℕ) → IsPassed mark places from at → drop at places ≡ [] → NoneMarked mark (drop from places)
passed_all mark places from at h is =
    subst (NoneMarked mark) (sym (h.stands ∙ ap (λ rest. h.passed ++ rest) is ∙ none_behind h.passed)) h.none_marked

-- somebody stands at a place within
pub not_past : {A : Type 0} (xs : List A) (n : ℕ) → n < length xs → drop n xs ≡ [] → ⊥
not_past [] n lt h = omega (arith, lt)
not_past (x ∷ xs) zero lt h = let long = ap length h in omega (arith, long)
not_past (x ∷ xs) (suc n) lt h = not_past xs n (omega (arith, lt)) h

names_append : (xs ys : List Place) → names_at (xs ++ ys) ≡ names_at xs ++ names_at ys
names_append [] ys = refl
names_append (x ∷ xs) ys = ap (λ rest. x.name ∷ rest) (names_append xs ys)

module _ (topic : List ℕ) (es : List (List ℕ × Entry)) (cs : List (List ℕ)) (places : List Place) (from : ℕ) (h : AreMarked es places) (names : names_at places ≡ keys_of es) (all : cs ≡ keys_of es) where
  -- the clients from a place on
  from_names : (n : ℕ) → drop n cs ≡ names_at (drop n places)
  from_names n = ap (drop n) (all ∙ sym names) ∙ drop-map (λ (p : Place). p.name) n places

  pub none_asks : NoneMarked (mark_of topic) (drop from places) → AreSilent topic es (drop from cs)
  none_asks unmarked =
      subst (AreSilent topic es) (sym (from_names from))
      (silent_names topic es (drop from places) (all_drop (λ (p : Place). EntryWithin p.marks (find client_cmp p.name es)) from places h) unmarked)

  pub next_asks : (at : ℕ) (c : List ℕ) (e : Entry) → IsPassed (mark_of topic) places from at → drop at es ≡ (c, e) ∷ drop (at + 1) es → IsNext topic es cs from (at + 1) c
  next_asks at c e passed is = record {
    passed = names_at passed.passed;
    stands =
        from_names from ∙ ap names_at passed.stands ∙ names_append passed.passed (drop at places)
        ∙ ap (λ rest. names_at passed.passed ++ rest) (sym (from_names at) ∙ ap (drop at) all ∙ names_from at es ∙ ap keys_of is ∙ ap (λ rest. c ∷ rest) (sym (names_from (at + 1) es) ∙ sym (ap (drop (at + 1)) all)));
    silent = silent_from topic es places passed.passed (drop at places) from h passed.stands passed.none_marked;
  }

-- ---- what a view says of a client that is silent

module _ (topic : List ℕ) (es : List (List ℕ × Entry)) (n : ℕ) (t : IsEntryTable es n) where
  pub silent_view : (c : List ℕ) → IsSilent topic (find client_cmp c es) → is_subscribed topic (view c (flat (rows_of es))) ≡ false
  silent_view c h =
      let shown : view c (flat (rows_of es)) ≡ view c (own c (rows_of es)) = view_own c (flat (rows_of es)) ∙ ap (view c) (of_flat c (rows_of es) (table_rows es n t)) in
      elim (find client_cmp c es) as (λ o. o ≡ find client_cmp c es → IsSilent topic o → is_subscribed topic (view c (flat (rows_of es))) ≡ false) [
        | None ↦ λ is _. ap (is_subscribed topic) (shown ∙ ap (view c) (sym (own_found c es None is)))
        | Some e ↦ λ is unmarked.
            let kept = found_holds client_cmp client_exact IsKept c e es t.each (sym is) in
            ap (is_subscribed topic) (shown ∙ sym (seen_row c e kept.entry_is ∙ ap (view c) (own_found c es (Some e) is))) ∙ unmarked
      ] refl h

  pub silent_views : (cs : List (List ℕ)) → AreSilent topic es cs → NoneAsks topic (flat (rows_of es)) cs
  silent_views [] h = tt
  silent_views (c ∷ cs) h = (silent_view c h.0, silent_views cs h.1)
