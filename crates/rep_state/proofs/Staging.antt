-- What is staged of each client, and the entries that it makes.
use Rattle.std.proofs.Common.{◌≡◌, ℕ, suc, ◌+◌, ◌≤◌, Bool, true, false, cond, ◌&&◌, ◌||◌, nat_lt, List, [], ◌∷◌, ◌++◌, filter, length, count_by, Option, Some, None, is_some, IsSome, T, refl, sym, ap, ◌∙◌, subst, Ordering, Less, Equal, Greater, Vec, Global}
use Rattle.std.specs.List.{AllByRecursion, filter_map, list_any}
use Rattle.std.specs.Option.{option_map}
use Rattle.std.specs.Ordering.{is_lt, is_eq, eq_by_cmp}
use Rattle.std.specs.FinMap.{find, put, is_sorted}
use Rattle.std.specs.FinMap.Entries.{below_all, find-put}
use Rattle.std.proofs.lemmas.List.Elements.{filter_map-append}
use Rattle.std.proofs.lemmas.List.Sums.{length-filter}
use Rattle.rep_op.specs.declared.op.Put.{Put}
use Rattle.rep_op.specs.declared.op.Op.{Op}
use Rattle.rep_op.specs.Orders.{client_cmp}
use Rattle.rep_model.proofs.Readers.{client_total, client_exact}
use Rattle.rep_shared.specs.Rows.{own, rows_with}
use Rattle.rep_shared.specs.inner.Tables.{passed_of}
use Rattle.rep_shared.proofs.Flat.{all_put}
use Rattle.sn_session.specs.declared.change.SessionOp.{SessionOp}
use Rattle.rep_op.specs.declared.op.Stamp.{Stamp}
use Rattle.rep_model.specs.Limits.{parked, exceptions}
use Rattle.rep_entry.specs.declared.entry.Entry.{Entry}
use Rattle.rep_entry.specs.declared.change.Change.{Change}
use Rattle.rep_log.specs.Mail.{Range}
use Rattle.rep_log.specs.Origins.{ranges_in}
use Rattle.rep_log.specs.Kept.{of_log, of_mail, of_acks, kept_ops}
use Rattle.rep_entry.specs.Entries.{IsEntry, messages, entry_row, base_of}
use Rattle.rep_state.specs.Tables.{rows_of, IsKept, AreKept}
use Rattle.rep_entry.specs.Staging.{staged_of, IsChange, acked_range, base_in, planned_row, planned_rows, IsReady, AreReady, AreStaged}
use Rattle.rep_state.specs.inner.Groups.{held_of, base_at, or_nothing_held}
use Rattle.rep_state.specs.inner.Tables.{IsRoomier, passed_by, too_many_pending, too_many_parked, too_many_exceptions}
use Rattle.rep_state.specs.inner.Staging.{future, AreMovable, HavePlaces, AreChangesWorkedOut}
use Rattle.rep_entry.specs.Applied.{entry_applied}
use Rattle.rep_entry.proofs.Client.{kept_operations, kept_puts}
use Rattle.rep_entry.proofs.Rising.{values_named}
use Rattle.rep_state.proofs.Rows.{find_rows}
use Rattle.rep_state.proofs.Placing.{move_last}
use Rattle.rep_state.proofs.Working.{held_is, held_row}
use Rattle.rep_entry.proofs.Applied.{row_applied, entry_of}

-- ---- entries and rows

log_ranges : (c : List ℕ) (es : List ((Stamp × ℕ) × SessionOp)) → filter_map acked_range (of_log c es) ≡ []
log_ranges c [] = refl
log_ranges c (e ∷ es) = log_ranges c es

mail_ranges : (c : List ℕ) (ps : List Put) → filter_map acked_range (of_mail c ps) ≡ []
mail_ranges c [] = refl
mail_ranges c (p ∷ ps) = mail_ranges c ps

acks_ranges : (c : List ℕ) (rs : List Range) → filter_map acked_range (of_acks c rs) ≡ rs
acks_ranges c [] = refl
acks_ranges c (r ∷ rs) = ap (λ rest. r ∷ rest) (acks_ranges c rs)

-- the ranges among what is kept
kept_ranges : (c : List ℕ) (es : List ((Stamp × ℕ) × SessionOp)) (ps : List Put) (rs : List Range) → filter_map acked_range (kept_ops c es ps rs) ≡ rs
kept_ranges c es ps rs =
    filter_map-append acked_range (of_log c es) (of_mail c ps ++ of_acks c rs)
    ∙ (λ i. log_ranges c es i ++ (filter_map-append acked_range (of_mail c ps) (of_acks c rs) ∙ (λ j. mail_ranges c ps j ++ acks_ranges c rs j)) i)

-- what a change builds on is read off the row
base_row : (c : List ℕ) (e : Entry) → base_in c (entry_row c e) ≡ base_of e
base_row c e =
    let rs = ranges_in e.acks in
    let waits = ap messages (kept_puts c e.known e.seen.pending rs) ∙ values_named e.seen.pending in
    λ i. record { known = kept_operations c e.known e.seen.pending rs i; waiting = waits i; ranges = kept_ranges c e.known e.seen.pending rs i }

pub base_same : (c : List ℕ) (es : List (List ℕ × Entry)) → base_in c (own c (rows_of es)) ≡ base_at c es
base_same c es = ap (base_in c) (sym (held_row c es)) ∙ base_row c (held_of c es)

pub there_same : (c : List ℕ) (es : List (List ℕ × Entry)) → is_some (find client_cmp c (rows_of es)) ≡ is_some (find client_cmp c es)
there_same c es = ap is_some (find_rows c es) ∙ at (find client_cmp c es)
  where
    at : (o : Option Entry) → is_some (option_map (entry_row c) o) ≡ is_some o
    at None = refl
    at (Some e) = refl

pub planned_future : (rows : List (List ℕ × List Op)) (es : List (List ℕ × Entry)) → ((c : List ℕ) → own c rows ≡ own c (rows_of es)) → (gs : List (List ℕ × Change)) → planned_rows rows gs ≡ rows_of (future es gs)
planned_future rows es same [] = refl
planned_future rows es same (g ∷ gs) =
    let row = ap (λ ops. planned_row g.0 (base_in g.0 ops) g.1) (same g.0) ∙ ap (λ base. planned_row g.0 base g.1) (base_same g.0 es) ∙ sym (row_applied g.0 (held_of g.0 es) g.1) in
    λ i. (g.0, row i) ∷ planned_future rows es same gs i

below_future : (es : List (List ℕ × Entry)) (c : List ℕ) (gs : List (List ℕ × Change)) → below_all client_cmp c (rows_of (future es gs)) ≡ below_all client_cmp c gs
below_future es c [] = refl
below_future es c (g ∷ gs) = ap (λ b. is_lt (client_cmp c g.0) && b) (below_future es c gs)

sorted_future : (es : List (List ℕ × Entry)) (gs : List (List ℕ × Change)) → is_sorted client_cmp (rows_of (future es gs)) ≡ is_sorted client_cmp gs
sorted_future es [] = refl
sorted_future es (g ∷ gs) = λ i. below_future es g.0 gs i && sorted_future es gs i

pub future_worked_out : (es : List (List ℕ × Entry)) (gs : List (List ℕ × Change)) → ((c : List ℕ) → IsEntry c (held_of c es)) → AreChangesWorkedOut es gs → AllByRecursion (λ f. IsEntry f.0 f.1) (future es gs)
future_worked_out es [] held h = tt
future_worked_out es (g ∷ gs) held h = (entry_of g.0 (held_of g.0 es) g.1 (held g.0) h.0.change_is h.0.fit, future_worked_out es gs held h.1)

-- ---- limits

pub any_staged : (test : Change → Bool) (xs : List (Vec ℕ Global × Change)) → list_any (λ (x : Vec ℕ Global × Change). test x.1) xs ≡ list_any (λ (g : List ℕ × Change). test g.1) (staged_of xs)
any_staged test [] = refl
any_staged test (x ∷ xs) = ap (λ b. test x.1 || b) (any_staged test xs)

any_pending : (es : List (List ℕ × Entry)) (gs : List (List ℕ × Change)) → AreChangesWorkedOut es gs → list_any (λ (g : List ℕ × Change). nat_lt 16384 g.1.pending) gs ≡ list_any too_many_pending (future es gs)
any_pending es [] h = refl
any_pending es (g ∷ gs) h = λ i. nat_lt 16384 (h.0.counted i) || any_pending es gs h.1 i

any_parked : (es : List (List ℕ × Entry)) (gs : List (List ℕ × Change)) → list_any (λ (g : List ℕ × Change). nat_lt 4096 g.1.parked) gs ≡ list_any too_many_parked (future es gs)
any_parked es [] = refl
any_parked es (g ∷ gs) = ap (λ b. nat_lt 4096 g.1.parked || b) (any_parked es gs)

any_exceptions : (es : List (List ℕ × Entry)) (gs : List (List ℕ × Change)) → list_any (λ (g : List ℕ × Change). nat_lt 16384 g.1.exceptions) gs ≡ list_any too_many_exceptions (future es gs)
any_exceptions es [] = refl
any_exceptions es (g ∷ gs) = ap (λ b. nat_lt 16384 g.1.exceptions || b) (any_exceptions es gs)

pub passed_future : (n : ℕ) (es : List (List ℕ × Entry)) (xs : List (Vec ℕ Global × Change)) → AreChangesWorkedOut es (staged_of xs)
    → passed_of n (list_any (λ (x : Vec ℕ Global × Change). nat_lt 16384 x.1.pending) xs) (list_any (λ (x : Vec ℕ Global × Change). nat_lt 4096 x.1.parked) xs) (list_any (λ (x : Vec ℕ Global × Change). nat_lt 16384 x.1.exceptions) xs) ≡ passed_by n (future es (staged_of xs))
passed_future n es xs h =
    let a = any_staged (λ ch. nat_lt 16384 ch.pending) xs ∙ any_pending es (staged_of xs) h in
    let b = any_staged (λ ch. nat_lt 4096 ch.parked) xs ∙ any_parked es (staged_of xs) in
    let d = any_staged (λ ch. nat_lt 16384 ch.exceptions) xs ∙ any_exceptions es (staged_of xs) in
    λ i. passed_of n (a i) (b i) (d i)

unnamed_length : (test : List ℕ → Bool) (es : List (List ℕ × Entry)) (xs : List (Vec ℕ Global × Change)) → length (filter (λ (x : Vec ℕ Global × Change). test x.0.items) xs) ≡ length (filter (λ (row : List ℕ × List Op). test row.0) (rows_of (future es (staged_of xs))))
unnamed_length test es [] = refl
unnamed_length test es (x ∷ xs) = elim (test x.0.items) as (λ b. length (cond b (x ∷ filter (λ (x : Vec ℕ Global × Change). test x.0.items) xs) (filter (λ (x : Vec ℕ Global × Change). test x.0.items) xs)) ≡ length (cond b ((x.0.items, entry_row x.0.items (entry_applied (held_of x.0.items es) x.1)) ∷ filter (λ (row : List ℕ × List Op). test row.0) (rows_of (future es (staged_of xs)))) (filter (λ (row : List ℕ × List Op). test row.0) (rows_of (future es (staged_of xs)))))) [
  | true ↦ ap suc (unnamed_length test es xs)
  | false ↦ unnamed_length test es xs
]

pub count_future : (test : List ℕ → Bool) (es : List (List ℕ × Entry)) (xs : List (Vec ℕ Global × Change)) → count_by (λ (x : Vec ℕ Global × Change). test x.0.items) xs ≡ count_by (λ (row : List ℕ × List Op). test row.0) (rows_of (future es (staged_of xs)))
count_future test es xs = sym (length-filter (λ (x : Vec ℕ Global × Change). test x.0.items) xs) ∙ unnamed_length test es xs ∙ length-filter (λ (row : List ℕ × List Op). test row.0) (rows_of (future es (staged_of xs)))

-- ---- what fits is ready

changes_each : (es : List (List ℕ × Entry)) (gs : List (List ℕ × Change)) → AreChangesWorkedOut es gs → AllByRecursion (λ g. IsChange g.1) gs
changes_each es [] h = tt
changes_each es (g ∷ gs) h = (h.0.change_is, changes_each es gs h.1)

few_parked : (es : List (List ℕ × Entry)) (gs : List (List ℕ × Change)) → AreKept (future es gs) → AllByRecursion (λ g. g.1.parked ≤ 4096) gs
few_parked es [] h = tt
few_parked es (g ∷ gs) h = (h.0.parked, few_parked es gs h.1)

few_exceptions : (es : List (List ℕ × Entry)) (gs : List (List ℕ × Change)) → AreKept (future es gs) → AllByRecursion (λ g. g.1.exceptions ≤ 16384) gs
few_exceptions es [] h = tt
few_exceptions es (g ∷ gs) h = (h.0.exceptions, few_exceptions es gs h.1)

pub are_staged : (es : List (List ℕ × Entry)) (gs : List (List ℕ × Change)) → AreChangesWorkedOut es gs → T (is_sorted client_cmp (rows_of (future es gs))) → AreKept (future es gs) → AreStaged gs
are_staged es gs h sorted kept = record {
  sorted = subst T (sorted_future es gs) sorted;
  each = changes_each es gs h;
  parked = few_parked es gs kept;
  exceptions = few_exceptions es gs kept;
}

pub are_ready : (es room : List (List ℕ × Entry)) (gs : List (List ℕ × Change)) → ((c : List ℕ) → own c (rows_of room) ≡ own c (rows_of es)) → HavePlaces room gs → AreChangesWorkedOut es gs → AreKept (future es gs) → AreReady (rows_of room) gs
are_ready es room [] same r h kept = tt
are_ready es room (g ∷ gs) same r h kept =
    let base = ap (base_in g.0) (same g.0) ∙ base_same g.0 es in (
      subst (λ base. IsReady (is_some (find client_cmp g.0 (rows_of room))) g.0 base g.1) (sym base) (record { is_there = r.0; fit = h.0.fit; few = kept.0.pending }),
      are_ready es room gs same r.1 h.1 kept.1,
    )

pub are_movable : (es : List (List ℕ × Entry)) (gs : List (List ℕ × Change)) → AreReady (rows_of es) gs → AreMovable es gs
are_movable es [] h = tt
are_movable es (g ∷ gs) h = (
  subst (λ there. IsReady there g.0 (base_at g.0 es) g.1) (there_same g.0 es) (subst (λ base. IsReady (is_some (find client_cmp g.0 (rows_of es))) g.0 base g.1) (base_same g.0 es) h.0),
  are_movable es gs h.1,
)

-- room for one more
pub room_more : (old new : List (List ℕ × Entry)) (done : List (List ℕ × Change)) (g : List ℕ × Change) → IsRoomier old new → HavePlaces old done → IsSome (find client_cmp g.0 (rows_of new)) → HavePlaces new (done ++ g ∷ [])
room_more old new [] g h room here = (here, tt)
room_more old new (x ∷ done) g h room here = (h.found x.0 room.0, room_more old new done g h room.1 here)

-- ---- one by one, from the last

pub staged_last : (xs : List (Vec ℕ Global × Change)) (x : Vec ℕ Global × Change) → staged_of (xs ++ x ∷ []) ≡ staged_of xs ++ (x.0.items, x.1) ∷ []
staged_last [] x = refl
staged_last (y ∷ xs) x = ap (λ rest. (y.0.items, y.1) ∷ rest) (staged_last xs x)

pub future_last : (es : List (List ℕ × Entry)) (gs : List (List ℕ × Change)) (g : List ℕ × Change) → future es (gs ++ g ∷ []) ≡ future es gs ++ (g.0, entry_applied (held_of g.0 es) g.1) ∷ []
future_last es [] g = refl
future_last es (x ∷ gs) g = ap (λ rest. (x.0, entry_applied (held_of x.0 es) x.1) ∷ rest) (future_last es gs g)

all_front : {A : Type 0} (P : A → Type 0) (xs : List A) (x : A) → AllByRecursion P (xs ++ x ∷ []) → AllByRecursion P xs × P x
all_front P [] x h = (tt, h.0)
all_front P (y ∷ xs) x h = let rest = all_front P xs x h.1 in ((h.0, rest.0), rest.1)

first : (a b : Bool) → T (a && b) → T a
first true b p = tt
first false b p = p

second : (a b : Bool) → T (a && b) → T b
second true b p = p
second false b p = absurd p

both : (a b : Bool) → T a → T b → T (a && b)
both true b p q = q
both false b p q = p

not_equal : (r : Ordering) → T (is_lt r) → is_eq r ≡ false
not_equal Less p = refl
not_equal Equal p = absurd p
not_equal Greater p = refl

abbrev AreOthers : List ℕ → List (List ℕ × Change) → Type 0
AreOthers c gs = AllByRecursion (λ g. eq_by_cmp client_cmp g.0 c ≡ false) gs

below_front : (c : List ℕ) (gs : List (List ℕ × Change)) (x : List ℕ × Change) → T (below_all client_cmp c (gs ++ x ∷ [])) → T (below_all client_cmp c gs) × (eq_by_cmp client_cmp c x.0 ≡ false)
below_front c [] x h = (tt, not_equal (client_cmp c x.0) (first (is_lt (client_cmp c x.0)) true h))
below_front c (g ∷ gs) x h =
    let rest = below_front c gs x (second (is_lt (client_cmp c g.0)) (below_all client_cmp c (gs ++ x ∷ [])) h) in
    (both (is_lt (client_cmp c g.0)) (below_all client_cmp c gs) (first (is_lt (client_cmp c g.0)) (below_all client_cmp c (gs ++ x ∷ [])) h) rest.0, rest.1)

sorted_front : (gs : List (List ℕ × Change)) (x : List ℕ × Change) → T (is_sorted client_cmp (gs ++ x ∷ [])) → T (is_sorted client_cmp gs) × AreOthers x.0 gs
sorted_front [] x h = (tt, tt)
sorted_front (g ∷ gs) x h =
    let below = below_front g.0 gs x (first (below_all client_cmp g.0 (gs ++ x ∷ [])) (is_sorted client_cmp (gs ++ x ∷ [])) h) in
    let rest = sorted_front gs x (second (below_all client_cmp g.0 (gs ++ x ∷ [])) (is_sorted client_cmp (gs ++ x ∷ [])) h) in
    (both (below_all client_cmp g.0 gs) (is_sorted client_cmp gs) below.0 rest.0, (below.1, rest.1))

pub staged_front : (gs : List (List ℕ × Change)) (x : List ℕ × Change) → AreStaged (gs ++ x ∷ []) → AreStaged gs × AreOthers x.0 gs × IsChange x.1 × (x.1.parked ≤ 4096) × (x.1.exceptions ≤ 16384)
staged_front gs x h =
    let s = sorted_front gs x h.sorted in
    let e = all_front (λ (g : List ℕ × Change). IsChange g.1) gs x h.each in
    let p = all_front (λ (g : List ℕ × Change). g.1.parked ≤ 4096) gs x h.parked in
    let n = all_front (λ (g : List ℕ × Change). g.1.exceptions ≤ 16384) gs x h.exceptions in
    (record { sorted = s.0; each = e.0; parked = p.0; exceptions = n.0 }, s.1, e.1, p.1, n.1)

found_other : (c q : List ℕ) (e : Entry) (es : List (List ℕ × Entry)) → eq_by_cmp client_cmp q c ≡ false → find client_cmp q (put client_cmp c e es) ≡ find client_cmp q es
found_other c q e es other = find-put client_cmp client_total q c e es ∙ ap (λ b. cond b (Some e) (find client_cmp q es)) other

future_other : (c : List ℕ) (e : Entry) (es : List (List ℕ × Entry)) (gs : List (List ℕ × Change)) → AreOthers c gs → future (put client_cmp c e es) gs ≡ future es gs
future_other c e es [] h = refl
future_other c e es (g ∷ gs) h = λ i. (g.0, entry_applied (or_nothing_held (found_other c g.0 e es h.0 i)) g.1) ∷ future_other c e es gs h.1 i

movable_other : (c : List ℕ) (e : Entry) (es : List (List ℕ × Entry)) (gs : List (List ℕ × Change)) → AreOthers c gs → AreMovable es gs → AreMovable (put client_cmp c e es) gs
movable_other c e es [] others h = tt
movable_other c e es (g ∷ gs) others h = (
  subst (λ (o : Option Entry). IsReady (is_some o) g.0 (base_of (or_nothing_held o)) g.1) (sym (found_other c g.0 e es others.0)) h.0,
  movable_other c e es gs others.1 h.1,
)

module _ (es new : List (List ℕ × Entry)) (gs rest : List (List ℕ × Change)) (c : List ℕ) (ch : Change) (all : gs ≡ rest ++ (c, ch) ∷ []) (is : new ≡ put client_cmp c (entry_applied (held_of c es) ch) es) (staged : AreStaged gs) (movable : AreMovable es gs) where
  front : AreStaged rest × AreOthers c rest × IsChange ch × (ch.parked ≤ 4096) × (ch.exceptions ≤ 16384)
  front = staged_front rest (c, ch) (subst AreStaged all staged)

  ready : AreMovable es rest × IsReady (is_some (find client_cmp c es)) c (base_at c es) ch
  ready = all_front (λ (g : List ℕ × Change). IsReady (is_some (find client_cmp g.0 es)) g.0 (base_at g.0 es) g.1) rest (c, ch) (subst (AreMovable es) all movable)

  pub last_change : IsChange ch
  last_change = front.2

  pub last_ready : IsReady (is_some (find client_cmp c es)) c (base_at c es) ch
  last_ready = ready.1

  pub rest_staged : AreStaged rest
  rest_staged = front.0

  pub rest_movable : AreMovable new rest
  rest_movable = subst (λ es. AreMovable es rest) (sym is) (movable_other c (entry_applied (held_of c es) ch) es rest front.1 ready.0)

  pub rest_moved : rows_with (rows_of new) (rows_of (future new rest)) ≡ rows_with (rows_of es) (rows_of (future es gs))
  rest_moved =
      ap (λ fs. rows_with (rows_of new) (rows_of fs)) (ap (λ es. future es rest) is ∙ future_other c (entry_applied (held_of c es) ch) es rest front.1)
      ∙ move_last es new (future es gs) (future es rest) c (entry_applied (held_of c es) ch) (ap (future es) all ∙ future_last es rest (c, ch)) is

  pub rest_kept : AreKept es → AreKept new
  rest_kept kept =
      let e : IsKept c (entry_applied (held_of c es) ch) = record { entry_is = entry_of c (held_of c es) ch (held_is c es kept) front.2 ready.1.fit; pending = ready.1.few; parked = front.3; exceptions = front.4 } in
      subst AreKept (sym is) (all_put client_cmp client_exact IsKept c (entry_applied (held_of c es) ch) es e kept)
