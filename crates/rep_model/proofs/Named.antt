-- The clients that a set names.
use Rattle.std.proofs.Common.{◌≡◌, ℕ, ◌≤◌, Bool, true, false, cond, not, ◌&&◌, ◌||◌, ◌==◌, ◌↔◌, T, nat_le, if◌then◌else◌, List, [], ◌∷◌, filter, filter_map, map, length, Option, Some, None, is_some, IsTrue, Contains, refl, sym, ap, ◌∙◌, true≢false, Ordering, Less, Equal, Greater, is_eq, is_lt, arith, leb-true, le-leb, eq-eqb}
use Rattle.std.specs.List.{list_any, cons_option, AllByRecursion}
use Rattle.std.specs.List.Sorted.{IsStrictlySortedBy}
use Rattle.std.specs.Ordering.{eq_by_cmp}
use Rattle.std.specs.FinMap.{find}
use Rattle.std.specs.FinMap.Entries.{below_all, is_sorted, is_some-find, same_entries}
use Rattle.std.proofs.lemmas.Bool.{or_parts, and_parts}
use Rattle.std.proofs.lemmas.Cmp.{tied_itself, eq_by_cmp_equiv}
use Rattle.std.proofs.lemmas.Map.Text.{is_eq-slice_cmp}
use Rattle.std.proofs.lemmas.Map.Views.{tells_apart, Contains-from_any, list_any-from_Contains}
use Rattle.rep_op.specs.declared.op.Stamp.{Stamp}
use Rattle.rep_op.specs.declared.op.Op.{Op}
use Rattle.rep_op.specs.declared.op.Op.TheVariants.{Session as OfSession, Put as OfPut, Ack, Retain as OfRetain}
use Rattle.rep_op.specs.Orders.{stamp_cmp, operation_cmp, put_cmp, client_cmp}
use Rattle.rep_op.specs.Sets.{same_client, operation_of, operations, operation_at, put_of, put_at, acknowledges, is_acknowledged}
use Rattle.rep_model.specs.Views.{greatest, take_stamp, names, visible, history_at, session_made, in_order, unacknowledged, view, unseen, named, clients, names_client, is_named}
use Rattle.rep_model.specs.Fresh.{largest, one_more, next_epoch, seq_of, next_seq}
use Rattle.rep_model.specs.Keep.{is_below, CountsAs}
use Rattle.rep_model.proofs.Lookup.{is_entry_of, is_some-find_map, list_any-weaker, list_any-picks, find-in_order, is_sorted-in_order}
use Rattle.rep_model.proofs.Readers.{operation_total, put_total, client_total, client_exact, same_client-true}
use Rattle.rep_model.proofs.Thin.{Thin, taken_above}
use Rattle.rep_model.proofs.Joins.{same_by_counts}

-- what a set is asked for
data Name : Type 0 where
  at_operation : Stamp × ℕ → Name
  at_put : ℕ × ℕ → Name
  at_acknowledgement : ℕ × ℕ → Name

-- ---- a client is named exactly if a reader finds something of it

module _ (c : List ℕ) where
  abbrev finds : Name → Op → Bool
  finds (at_operation n) op = is_entry_of operation_cmp n (operation_of c op)
  finds (at_put n) op = is_entry_of put_cmp n (put_of c op)
  finds (at_acknowledgement n) op = acknowledges c n op

  abbrev is_there : List Op → Name → Bool
  is_there S (at_operation n) = is_some (operation_at c S n)
  is_there S (at_put n) = is_some (put_at c S n)
  is_there S (at_acknowledgement n) = is_acknowledged c S n

  finds-reads : (S : List Op) (n : Name) → list_any (finds n) S ≡ is_there S n
  finds-reads S (at_operation n) = sym (is_some-find_map operation_cmp (operation_of c) n S)
  finds-reads S (at_put n) = sym (is_some-find_map put_cmp (put_of c) n S)
  finds-reads S (at_acknowledgement n) = refl

  four_from : (a b p q : Bool) → a ≡ true → b ≡ true → p ≡ true → q ≡ true → (a && b && p && q) ≡ true
  four_from a b p q e f g h = λ i. e i && f i && g i && h i

  names-finds : (op : Op) → names_client c op ≡ true → (n : Name) × (finds n op ≡ true)
  names-finds (OfSession d stamp counter change) h =
      (at_operation (stamp, counter), ap (λ b. is_entry_of operation_cmp (stamp, counter) (if b then Some ((stamp, counter), change) else None)) h ∙ ap is_eq (tied_itself operation_total (stamp, counter)))
  names-finds (OfPut d p) h =
      (at_put (p.seq, p.origin), ap (λ b. is_entry_of put_cmp (p.seq, p.origin) (if b then Some ((p.seq, p.origin), p) else None)) h ∙ ap is_eq (tied_itself put_total (p.seq, p.origin)))
  names-finds (Ack d origin first last) h =
      let w = and_parts (same_client c d) (nat_le first last) h in
      (at_acknowledgement (first, origin), four_from (same_client c d) (origin == origin) (nat_le first first) (nat_le first last) w.0 (eq-eqb origin origin refl) (le-leb first first (omega arith)) w.1)
  names-finds (OfRetain u k) h = absurd (true≢false (sym h))

  ranged : (a b : Bool) (first last m : ℕ) → (a && b && nat_le first m && nat_le m last) ≡ true → (a && nat_le first last) ≡ true
  ranged false b first last m e = absurd (true≢false (sym e))
  ranged true false first last m e = absurd (true≢false (sym e))
  ranged true true first last m e =
      let w = and_parts (nat_le first m) (nat_le m last) e in
      let f : first ≤ m = leb-true first m w.0 in
      let g : m ≤ last = leb-true m last w.1 in
      le-leb first last (omega arith)

  entry_named : {K X : Type 0} (R : K → K → Ordering) (k : K) (a : Bool) (e : K × X) → is_entry_of R k (if a then Some e else None) ≡ true → a ≡ true
  entry_named R k true e h = refl
  entry_named R k false e h = h

  finds-names : (n : Name) (op : Op) → finds n op ≡ true → names_client c op ≡ true
  finds-names (at_operation n) (OfSession d stamp counter change) h = entry_named operation_cmp n (same_client c d) ((stamp, counter), change) h
  finds-names (at_operation n) (OfPut d p) h = absurd (true≢false (sym h))
  finds-names (at_operation n) (Ack d origin first last) h = absurd (true≢false (sym h))
  finds-names (at_operation n) (OfRetain u k) h = absurd (true≢false (sym h))
  finds-names (at_put n) (OfSession d stamp counter change) h = absurd (true≢false (sym h))
  finds-names (at_put n) (OfPut d p) h = entry_named put_cmp n (same_client c d) ((p.seq, p.origin), p) h
  finds-names (at_put n) (Ack d origin first last) h = absurd (true≢false (sym h))
  finds-names (at_put n) (OfRetain u k) h = absurd (true≢false (sym h))
  finds-names (at_acknowledgement n) (OfSession d stamp counter change) h = absurd (true≢false (sym h))
  finds-names (at_acknowledgement n) (OfPut d p) h = absurd (true≢false (sym h))
  finds-names (at_acknowledgement n) (OfRetain u k) h = absurd (true≢false (sym h))
  finds-names (at_acknowledgement n) (Ack d origin first last) h = ranged (same_client c d) (n.1 == origin) first last n.0 h

  named-there : (S : List Op) → is_named c S ≡ true → (n : Name) × (is_there S n ≡ true)
  named-there S h = let w = list_any-picks (names_client c) finds names-finds S h in (w.0, sym (finds-reads S w.0) ∙ w.1)

  there-named : (S : List Op) (n : Name) → is_there S n ≡ true → is_named c S ≡ true
  there-named S n h = list_any-weaker (finds n) (names_client c) (finds-names n) S (finds-reads S n ∙ h)

  module _ (N W : List Op) (t : Thin N W) where
    there-thin : (n : Name) → is_there N n ≡ true → is_there W n ≡ true
    there-thin (at_operation n) h = t.operations_there c n h
    there-thin (at_put n) h = t.puts_there c n h
    there-thin (at_acknowledgement n) h = sym (t.acknowledgements_same c n) ∙ h

    there-back : (n : Name) → is_there W n ≡ true → (m : Name) × (is_there N m ≡ true)
    there-back (at_operation n) h = elim (is_below n.0 (visible c W)) as (λ b. is_below n.0 (visible c W) ≡ b → (m : Name) × (is_there N m ≡ true)) [
      | true ↦ λ e. let w = taken_above N W t c n.0 e in (at_operation (w.0, 0), w.2)
      | false ↦ λ e. (at_operation n, ap is_some (t.operations_same c n e) ∙ h)
    ] refl
    there-back (at_put n) h = elim (is_acknowledged c W n) as (λ b. is_acknowledged c W n ≡ b → (m : Name) × (is_there N m ≡ true)) [
      | true ↦ λ e. (at_acknowledgement n, t.acknowledgements_same c n ∙ e)
      | false ↦ λ e. (at_put n, ap is_some (t.puts_same c n e) ∙ h)
    ] refl
    there-back (at_acknowledgement n) h = (at_acknowledgement n, t.acknowledgements_same c n ∙ h)

    agree_test : (a b : Bool) → (a ≡ true → b ≡ true) → (b ≡ true → a ≡ true) → a ≡ b
    agree_test true b f g = sym (f refl)
    agree_test false true f g = g refl
    agree_test false false f g = refl

    pub is_named-thin : is_named c N ≡ is_named c W
    is_named-thin = agree_test (is_named c N) (is_named c W)
        (λ h. let w = named-there N h in there-named W w.0 (there-thin w.0 w.1))
        (λ h. let w = named-there W h in let v = there-back w.0 w.1 in there-named N v.0 v.1)

pub is_named-counts : (c : List ℕ) (S K : List Op) → CountsAs S K → is_named c K ≡ is_named c S
is_named-counts c = same_by_counts (is_named c) (λ N W t. is_named-thin c N W t)

-- ---- the list of clients

pub one_client : (c d : List ℕ) (r : Option (List ℕ)) (b : Bool) → r ≡ (if b then Some c else None) → cond (eq_by_cmp client_cmp c d) (Some d) r ≡ (if same_client c d || b then Some c else None)
one_client c d r b h = ap (λ t. cond t (Some d) r) (is_eq-slice_cmp c d)
    ∙ elim (same_client c d) as (λ t. same_client c d ≡ t → cond t (Some d) r ≡ (if t || b then Some c else None)) [
      | true ↦ λ e. ap Some (sym (same_client-true c d e))
      | false ↦ λ _. h
    ] refl

and_true : (b : Bool) → b ≡ (b && true)
and_true true = refl
and_true false = refl

and_false : (b : Bool) → false ≡ (b && false)
and_false true = refl
and_false false = refl

pub find_named : (c : List ℕ) (S : List Op) → find client_cmp c (filter_map named S) ≡ (if is_named c S then Some c else None)
find_named c [] = refl
find_named c (OfSession d stamp counter change ∷ S) = one_client c d (find client_cmp c (filter_map named S)) (is_named c S) (find_named c S)
find_named c (OfPut d p ∷ S) = one_client c d (find client_cmp c (filter_map named S)) (is_named c S) (find_named c S)
find_named c (OfRetain u k ∷ S) = find_named c S
find_named c (Ack d origin first last ∷ S) =
    elim (nat_le first last) as (λ l. find client_cmp c (cons_option (if l then Some (d, d) else None) (filter_map named S)) ≡ (if (same_client c d && l) || is_named c S then Some c else None)) [
      | true ↦ one_client c d (find client_cmp c (filter_map named S)) (is_named c S) (find_named c S) ∙ ap (λ b. if b || is_named c S then Some c else None) (and_true (same_client c d))
      | false ↦ find_named c S ∙ ap (λ b. if b || is_named c S then Some c else None) (and_false (same_client c d))
    ]

pub find_clients : (c : List ℕ) (S : List Op) → find client_cmp c (in_order client_cmp (filter_map named S)) ≡ (if is_named c S then Some c else None)
find_clients c S = find-in_order client_cmp client_total c (filter_map named S) ∙ find_named c S

pub clients-thin : (N W : List Op) → Thin N W → clients N ≡ clients W
clients-thin N W t = ap names (same_entries client_cmp client_total client_exact (in_order client_cmp (filter_map named N)) (in_order client_cmp (filter_map named W))
    (is_sorted-in_order client_cmp client_total (filter_map named N)) (is_sorted-in_order client_cmp client_total (filter_map named W))
    (λ q. find_clients q N ∙ ap (λ b. if b then Some q else None) (is_named-thin q N W t) ∙ sym (find_clients q W)))

pub clients-counts : (S K : List Op) → CountsAs S K → clients K ≡ clients S
clients-counts = same_by_counts clients clients-thin

some_if : (b : Bool) (c : List ℕ) → is_some (if b then Some c else None) ≡ b
some_if true c = refl
some_if false c = refl

any_client : (c : List ℕ) (S : List Op) → list_any (eq_by_cmp client_cmp c) (clients S) ≡ is_named c S
any_client c S = sym (is_some-find client_cmp c (in_order client_cmp (filter_map named S))) ∙ ap is_some (find_clients c S) ∙ some_if (is_named c S) c

-- the clients are those that the set names
pub clients-named : (c : List ℕ) (S : List Op) → IsTrue (is_named c S) ↔ Contains (clients S) c
clients-named c S = (
  λ h. Contains-from_any (tells_apart client_exact) c (clients S) (any_client c S ∙ h),
  λ h. sym (any_client c S) ∙ list_any-from_Contains (eq_by_cmp_equiv client_total) c (clients S) h,
)

first : (a b : Bool) → T (a && b) → T a
first true b p = tt
first false b p = p

second : (a b : Bool) → T (a && b) → T b
second true b p = p
second false b p = absurd p

less : (r : Ordering) → T (is_lt r) → r ≡ Less
less Less p = refl
less Equal p = absurd p
less Greater p = absurd p

module _ {K X : Type 0} (R : K → K → Ordering) where
  below_names : (k : K) (es : List (K × X)) → T (below_all R k es) → AllByRecursion (λ y. R k y ≡ Less) (names es)
  below_names k [] h = tt
  below_names k (e ∷ es) h = (less (R k e.0) (first (is_lt (R k e.0)) (below_all R k es) h), below_names k es (second (is_lt (R k e.0)) (below_all R k es) h))

  pub sorted_names : (es : List (K × X)) → T (is_sorted R es) → IsStrictlySortedBy R (names es)
  unfolding IsStrictlySortedBy
  sorted_names [] h = tt
  sorted_names (e ∷ es) h = (below_names e.0 es (first (below_all R e.0 es) (is_sorted R es) h), sorted_names es (second (below_all R e.0 es) (is_sorted R es) h))

pub clients-ascend : (S : List Op) → IsStrictlySortedBy client_cmp (clients S)
clients-ascend S = sorted_names client_cmp (in_order client_cmp (filter_map named S)) (is_sorted-in_order client_cmp client_total (filter_map named S))

-- ---- a client that is not named

nothing_of : {A B : Type 0} (f : A → Option B) (t : A → Bool) → ((a : A) → t a ≡ false → f a ≡ None) → (S : List A) → list_any t S ≡ false → filter_map f S ≡ []
nothing_of f t h [] e = refl
nothing_of f t h (a ∷ S) e =
    let w = or_parts (t a) (list_any t S) e in
    ap (λ o. cons_option o (filter_map f S)) (h a w.0) ∙ nothing_of f t h S w.1

nothing_largest : {A : Type 0} (f : A → ℕ) (t : A → Bool) → ((a : A) → t a ≡ false → f a ≡ 0) → (S : List A) → list_any t S ≡ false → largest f S ≡ 0
nothing_largest f t h [] e = refl
nothing_largest f t h (a ∷ S) e =
    let w = or_parts (t a) (list_any t S) e in
    omega (arith, h a w.0, nothing_largest f t h S w.1)

module _ (c : List ℕ) where
  no_operation : (op : Op) → names_client c op ≡ false → operation_of c op ≡ None
  no_operation (OfSession d stamp counter change) h = ap (λ b. if b then Some ((stamp, counter), change) else None) h
  no_operation (OfPut d p) h = refl
  no_operation (Ack d origin first last) h = refl
  no_operation (OfRetain u k) h = refl

  no_put : (op : Op) → names_client c op ≡ false → put_of c op ≡ None
  no_put (OfSession d stamp counter change) h = refl
  no_put (OfPut d p) h = ap (λ b. if b then Some ((p.seq, p.origin), p) else None) h
  no_put (Ack d origin first last) h = refl
  no_put (OfRetain u k) h = refl

  no_last : (a b : Bool) (first last : ℕ) → (a && nat_le first last) ≡ false → (if a && b && nat_le first last then last else 0) ≡ 0
  no_last false b first last h = refl
  no_last true false first last h = refl
  no_last true true first last h = ap (λ l. if l then last else 0) h

  no_seq : (gateway : ℕ) (op : Op) → names_client c op ≡ false → seq_of c gateway op ≡ 0
  no_seq gateway (OfSession d stamp counter change) h = refl
  no_seq gateway (OfPut d p) h = ap (λ b. if b && (gateway == p.origin) then p.seq else 0) h
  no_seq gateway (Ack d origin first last) h = no_last (same_client c d) (gateway == origin) first last h
  no_seq gateway (OfRetain u k) h = refl

  module _ (S : List Op) (h : is_named c S ≡ false) where
    no_operations : operations c S ≡ []
    no_operations = nothing_of (operation_of c) (names_client c) no_operation S h

    no_visible : visible c S ≡ None
    no_visible = ap (λ es. greatest stamp_cmp (filter_map take_stamp (names es))) no_operations

    no_unacknowledged : unacknowledged c S ≡ []
    no_unacknowledged = ap (filter (λ e. not (is_acknowledged c S e.0))) (nothing_of (put_of c) (names_client c) no_put S h)

    pub unnamed-unseen : view c S ≡ unseen
    unnamed-unseen = λ i. record {
      stamp = no_visible i;
      prefix = length (history_at (operation_at c S) (no_visible i));
      session = session_made (history_at (operation_at c S) (no_visible i));
      pending = map (λ e. e.1) (in_order put_cmp (no_unacknowledged i));
    }

    pub unnamed-next_epoch : next_epoch c S ≡ Some 1
    unnamed-next_epoch = ap (λ es. one_more (largest (λ (name : Stamp × ℕ). name.0.epoch) (names es))) no_operations

    pub unnamed-next_seq : (gateway : ℕ) → next_seq c gateway S ≡ Some 1
    unnamed-next_seq gateway = ap one_more (nothing_largest (seq_of c gateway) (names_client c) (no_seq gateway) S h)
