-- What is known once a delta is found to fit.
use Rattle.std.proofs.Common.{◌≡◌, ℕ, ◌≤◌, ◌+◌, Bool, true, false, not, cond, ◌&&◌, ◌||◌, if◌then◌else◌, nat_le, nat_lt, List, [], ◌∷◌, ◌++◌, length, filter, count_by, Option, Some, None, IsTrue, T, refl, sym, ap, ◌∙◌, subst, arith, true≢false}
use Rattle.std.specs.List.{AllByRecursion, list_any}
use Rattle.std.specs.FinMap.{find, is_sorted}
use Rattle.std.proofs.lemmas.Option.{same_Some}
use Rattle.std.proofs.lemmas.Bool.Decides.{nat_tests}
use Rattle.rep_op.specs.declared.op.Op.{Op}
use Rattle.rep_op.specs.declared.op.Op.TheVariants.{Session as OfSession, Put as OfPut, Ack, Retain as OfRetain}
use Rattle.rep_op.specs.Orders.{client_cmp, client_of, is_of_client, AreOfClients}
use Rattle.rep_op.specs.Sets.{same_client, Same}
use Rattle.rep_op.specs.WellMade.{is_well_made}
use Rattle.rep_ops.specs.Making.{AreWellMade}
use Rattle.rep_model.specs.declared.fault.Limit.TheVariants.{Clients, Pending, Parked, Exceptions}
use Rattle.rep_model.specs.Views.{named}
use Rattle.rep_model.specs.Limits.{first_passed}
use Rattle.rep_model.proofs.Readers.{client_total, same_client-true}
use Rattle.rep_model.proofs.Joins.{same_trans, all-both, all-weaker}
use Rattle.rep_model.proofs.Thin.{thin-same}
use Rattle.rep_model.proofs.Limits.{first_passed-thin}
use Rattle.rep_plain.specs.declared.entry.Entry.{Entry}
use Rattle.rep_plain.specs.Entries.{IsWorkedOut}
use Rattle.rep_shared.specs.Rows.{flat, own, rows_with, has_any, count_named, IsOwn, IsOwnOp}
use Rattle.rep_shared.specs.inner.Rows.{count_new, AreRows, of_client}
use Rattle.rep_plain.specs.inner.Rows.{row_grown, IsGrown}
use Rattle.rep_plain.specs.Tables.{rows_of, AreEntries, IsPlainTable}
use Rattle.rep_plain.specs.inner.Tables.{IsRoomier, is_op_there, passed_by, too_many_pending, too_many_parked, too_many_exceptions}
use Rattle.rep_shared.proofs.Flat.{of_flat, found_own, all_filter}
use Rattle.rep_plain.proofs.Found.{table_rows}
use Rattle.rep_plain.proofs.Taking.{same_news, same_grown}
use Rattle.rep_plain.proofs.Counting.{AreFresh, first_passed_after, entries_from_rows}
use Rattle.rep_shared.proofs.Counting.{all_found, count_moved}

-- ---- each operation of a delta names its client

IsNamed : Op → Type 0
IsNamed op = (named op ≡ Some (client_of op, client_of op)) × IsTrue (is_well_made op)

and_last : (a b : Bool) → IsTrue (a && b) → b ≡ true
and_last true b h = h
and_last false b h = absurd (true≢false (sym h))

named_forward : (c : List ℕ) (origin low high : ℕ) → IsTrue (is_well_made (Ack c origin low high)) → named (Ack c origin low high) ≡ Some (c, c)
named_forward c origin low high h = ap (λ b. if◌then◌else◌ {A = Option (List ℕ × List ℕ)} b (Some (c, c)) None) (and_last (nat_le 1 origin && nat_le 1 low) (nat_le low high) h)

well_named : (op : Op) → is_of_client op ≡ true → IsTrue (is_well_made op) → IsNamed op
unfolding IsNamed
well_named (OfSession c stamp counter change) e h = (refl, h)
well_named (OfPut c p) e h = (refl, h)
well_named (Ack c origin low high) e h = (named_forward c origin low high h, h)
well_named (OfRetain t k) e h = absurd (true≢false (sym e))

all_well_named : (D : List Op) → AreOfClients D → AreWellMade D → AllByRecursion IsNamed D
all_well_named [] e h = tt
all_well_named (op ∷ D) e h = (well_named op e.0 h.0, all_well_named D e.1 h.1)

own_of : (c : List ℕ) (N : List Op) → AllByRecursion IsNamed N → IsOwn c (of_client c N)
unfolding IsNamed
own_of c [] h = tt
own_of c (op ∷ N) h =
    let rest = own_of c N h.1 in
    elim (same_client c (client_of op)) as (λ b. same_client c (client_of op) ≡ b → IsOwn c (cond b (op ∷ of_client c N) (of_client c N))) [
      | true ↦ λ t. ((subst (λ x. named op ≡ Some (x, x)) (sym (same_client-true c (client_of op) t)) h.0.0, h.0.1), rest)
      | false ↦ λ _. rest
    ] refl

any_right : (a b : List Op) → has_any b ≡ true → has_any (a ++ b) ≡ true
any_right [] b h = h
any_right (x ∷ a) b h = refl

none_some : {A P : Type 0} (x : A) → None ≡ Some x → P
none_some x h = cc

grown_some : (rows : List (List ℕ × List Op)) (N : List Op) (c : List ℕ) (ops : List Op) → AreRows rows → AllByRecursion IsNamed N → row_grown c rows N ≡ Some ops → IsOwn c ops × (has_any ops ≡ true)
grown_some rows N c ops are each is =
    elim (has_any (of_client c N)) as (λ b. has_any (of_client c N) ≡ b → (if b then Some (own c rows ++ of_client c N) else None) ≡ Some ops → IsOwn c ops × (has_any ops ≡ true)) [
      | true ↦ λ any is.
          let same = same_Some (own c rows ++ of_client c N) ops is in (
            subst (IsOwn c) same (all-both (IsOwnOp c) (own c rows) (of_client c N) (found_own c rows are.owned) (own_of c N each)),
            ap has_any (sym same) ∙ any_right (own c rows) (of_client c N) any,
          )
      | false ↦ λ _ is. none_some ops is
    ] refl is

-- ---- the fresh entries

module _ (es : List (List ℕ × Entry)) (n : ℕ) (t : IsPlainTable es n) (D : List Op) (made : AreWellMade D) (clients : AreOfClients D) (N : List Op)
    (news : N ≡ filter (λ op. not (is_op_there (flat (rows_of es)) op)) D) (fs : List (List ℕ × Entry))
    (g : IsGrown (rows_of es) N (rows_of fs)) (sorted : T (is_sorted client_cmp (rows_of fs)))
    (worked : AllByRecursion (λ f. IsWorkedOut f.0 f.1) fs) where
  are : AreRows (rows_of es)
  are = table_rows es n t

  all_named : AllByRecursion IsNamed N
  all_named = subst (AllByRecursion IsNamed) (sym news) (all_filter IsNamed (λ op. not (is_op_there (flat (rows_of es)) op)) D (all_well_named D clients made))

  each_row : AllByRecursion (λ row. IsOwn row.0 row.1 × (has_any row.1 ≡ true)) (rows_of fs)
  each_row = all-weaker (λ row. find client_cmp row.0 (rows_of fs) ≡ Some row.1) (λ row. IsOwn row.0 row.1 × (has_any row.1 ≡ true))
      (λ row found. grown_some (rows_of es) N row.0 row.1 are all_named (sym (g row.0) ∙ found))
      (rows_of fs) (all_found client_cmp client_total (rows_of fs) sorted)

  pub are_fresh : AreFresh fs
  are_fresh = record {
    sorted = sorted;
    owned = all-weaker (λ row. IsOwn row.0 row.1 × (has_any row.1 ≡ true)) (λ row. IsOwn row.0 row.1) (λ row h. h.0) (rows_of fs) each_row;
    any = all-weaker (λ row. IsOwn row.0 row.1 × (has_any row.1 ≡ true)) (λ row. has_any row.1 ≡ true) (λ row h. h.1) (rows_of fs) each_row;
    worked_out = worked;
  }

  own_room : (room : List (List ℕ × Entry)) → IsRoomier es room → (c : List ℕ) → own c (rows_of room) ≡ own c (rows_of es)
  own_room room r c = sym (of_flat c (rows_of room) (table_rows room n (r.table n t))) ∙ ap (of_client c) r.same ∙ of_flat c (rows_of es) are

  -- the set that is kept after the commit
  pub same_after : (room : List (List ℕ × Entry)) → IsRoomier es room → Same (flat (rows_with (rows_of room) (rows_of fs))) (flat (rows_of es) ++ D)
  same_after room r =
      same_trans (same_grown (rows_of es) (rows_of room) (rows_of fs) N are (table_rows room n (r.table n t)) are_fresh.owned (own_room room r) g)
      (subst (λ N. Same (flat (rows_of es) ++ N) (flat (rows_of es) ++ D)) (sym news) (same_news (flat (rows_of es)) D))

  -- the limit that is passed
  pub first_passed_both : (m : ℕ) → m ≡ n + count_new (rows_of es) (rows_of fs) → IsRoomier es es → passed_by m fs ≡ first_passed (flat (rows_of es) ++ D)
  first_passed_both m is r =
      first_passed_after es fs are t.each are_fresh m (is ∙ ap (λ n. n + count_new (rows_of es) (rows_of fs)) t.counted)
      ∙ first_passed-thin (flat (rows_with (rows_of es) (rows_of fs))) (flat (rows_of es) ++ D) (thin-same (flat (rows_with (rows_of es) (rows_of fs))) (flat (rows_of es) ++ D) (same_after es r))

  pub counted_after : (room : List (List ℕ × Entry)) → IsRoomier es room → (m : ℕ) → m ≡ n + count_new (rows_of es) (rows_of fs) → m ≡ count_named (rows_with (rows_of room) (rows_of fs))
  counted_after room r m is =
      is ∙ ap (λ k. k + count_new (rows_of es) (rows_of fs)) (r.table n t).counted
      ∙ sym (λ i. count_named (rows_of room) + count_by (λ (row : List ℕ × List Op). not (has_any (own_room room r row.0 i))) (rows_of fs))
      ∙ sym (count_moved (rows_of room) (rows_of fs) (table_rows room n (r.table n t)) sorted are_fresh.owned are_fresh.any)

-- ---- no limit is passed

pub record IsPassedBy (m : ℕ) (fs : List (List ℕ × Entry)) : Type 0 where
  pub few : nat_lt 4096 m ≡ false
  pub pending : list_any too_many_pending fs ≡ false
  pub parked : list_any too_many_parked fs ≡ false
  pub exceptions : list_any too_many_exceptions fs ≡ false

some_none : {A P : Type 0} (x : A) → Some x ≡ None → P
some_none x h = cc

nothing_passed : (m : ℕ) (fs : List (List ℕ × Entry)) → passed_by m fs ≡ None → IsPassedBy m fs
nothing_passed m fs h = go (nat_lt 4096 m) (list_any too_many_pending fs) (list_any too_many_parked fs) (list_any too_many_exceptions fs) refl refl refl refl h
  where
    go : (a b c d : Bool) → nat_lt 4096 m ≡ a → list_any too_many_pending fs ≡ b → list_any too_many_parked fs ≡ c → list_any too_many_exceptions fs ≡ d
        → (if a then Some Clients else (if b then Some Pending else (if c then Some Parked else (if d then Some Exceptions else None)))) ≡ None → IsPassedBy m fs
    go true b c d ea eb ec ed h = some_none Clients h
    go false true c d ea eb ec ed h = some_none Pending h
    go false false true d ea eb ec ed h = some_none Parked h
    go false false false true ea eb ec ed h = some_none Exceptions h
    go false false false false ea eb ec ed h = record { few = ea; pending = eb; parked = ec; exceptions = ed }

or_left : (a b : Bool) → (a || b) ≡ false → a ≡ false
or_left true b e = e
or_left false b e = refl

or_right : (a b : Bool) → (a || b) ≡ false → b ≡ false
or_right true b e = absurd (true≢false e)
or_right false b e = e

not_above : (limit n : ℕ) → nat_lt limit n ≡ false → n ≤ limit
not_above limit n h = grind (arith, nat_tests)

fit_entries : (fs : List (List ℕ × Entry)) → AllByRecursion (λ f. IsOwn f.0 f.1.ops.items) fs → AllByRecursion (λ f. IsWorkedOut f.0 f.1) fs → list_any too_many_pending fs ≡ false → list_any too_many_parked fs ≡ false → list_any too_many_exceptions fs ≡ false → AreEntries fs
fit_entries [] o w a b c = tt
fit_entries (f ∷ fs) o w a b c = (
  record {
    own = o.0;
    worked_out = w.0;
    pending = not_above 16384 (length f.1.seen.pending) (or_left (too_many_pending f) (list_any too_many_pending fs) a);
    parked = not_above 4096 f.1.parked (or_left (too_many_parked f) (list_any too_many_parked fs) b);
    exceptions = not_above 16384 f.1.exceptions (or_left (too_many_exceptions f) (list_any too_many_exceptions fs) c);
  },
  fit_entries fs o.1 w.1 (or_right (too_many_pending f) (list_any too_many_pending fs) a) (or_right (too_many_parked f) (list_any too_many_parked fs) b) (or_right (too_many_exceptions f) (list_any too_many_exceptions fs) c),
)

-- where no limit is passed, the fresh entries pass none
pub fresh_fit : (m : ℕ) (fs : List (List ℕ × Entry)) → AreFresh fs → passed_by m fs ≡ None → AreEntries fs × (m ≤ 4096)
fresh_fit m fs h none =
    let p = nothing_passed m fs none in
    (fit_entries fs (entries_from_rows IsOwn fs h.owned) h.worked_out p.pending p.parked p.exceptions, not_above 4096 m p.few)
