-- What is known once a delta is found to fit.
use Rattle.std.proofs.Common.{◌≡◌, ℕ, ◌≤◌, ◌+◌, Bool, true, false, not, ◌||◌, if◌then◌else◌, nat_lt, List, [], ◌∷◌, ◌++◌, length, count_by, Some, None, refl, sym, ap, ◌∙◌, arith, true≢false}
use Rattle.std.specs.List.{AllByRecursion, list_any}
use Rattle.std.proofs.lemmas.Bool.Decides.{nat_tests}
use Rattle.rep_op.specs.declared.op.Op.{Op}
use Rattle.rep_model.specs.declared.fault.Limit.TheVariants.{Clients, Pending, Parked, Exceptions}
use Rattle.rep_model.specs.Keep.{IsKeptOf}
use Rattle.rep_model.specs.Limits.{first_passed}
use Rattle.rep_model.proofs.Limits.{first_passed-thin}
use Rattle.rep_model.proofs.Thin.{thin-between}
use Rattle.rep_shared.specs.Rows.{flat, own, rows_with, has_any, count_named}
use Rattle.rep_shared.specs.inner.Rows.{count_new, of_client}
use Rattle.rep_shared.proofs.Flat.{of_flat}
use Rattle.rep_shared.proofs.Counting.{count_moved}
use Rattle.rep_entry.specs.declared.entry.Entry.{Entry}
use Rattle.rep_entry.specs.Entries.{IsEntry}
use Rattle.rep_state.specs.Tables.{rows_of, AreKept, IsEntryTable}
use Rattle.rep_state.specs.inner.Tables.{IsRoomier, passed_by, too_many_pending, too_many_parked, too_many_exceptions}
use Rattle.rep_state.specs.inner.Groups.{AreRowsOf}
use Rattle.rep_state.proofs.Rows.{table_rows}
use Rattle.rep_entry.proofs.Steps.{kept_between}
use Rattle.rep_state.proofs.Groups.{same_after}
use Rattle.rep_state.proofs.Passing.{AreFresh, first_passed_after}

-- ---- the fresh entries, where their rows are those of the delta

module _ (es : List (List ℕ × Entry)) (n : ℕ) (t : IsEntryTable es n) (D : List Op) (fs : List (List ℕ × Entry)) (h : AreFresh fs) (rows : AreRowsOf es D (rows_of fs)) where
  pub own_room : (room : List (List ℕ × Entry)) → IsRoomier es room → (c : List ℕ) → own c (rows_of room) ≡ own c (rows_of es)
  own_room room r c = sym (of_flat c (rows_of room) (table_rows room n (r.table n t))) ∙ ap (of_client c) r.same ∙ of_flat c (rows_of es) (table_rows es n t)

  -- the set that is kept after the commit is what must be kept of all
  pub kept_after : (room : List (List ℕ × Entry)) → IsRoomier es room → IsKeptOf (flat (rows_of es) ++ D) (flat (rows_with (rows_of room) (rows_of fs)))
  kept_after room r = kept_between (flat (rows_of es) ++ D) (flat (rows_with (rows_of room) (rows_of fs)))
      (same_after es D (rows_of fs) (rows_of room) t.each rows (table_rows es n t) (table_rows room n (r.table n t)) h.owned (own_room room r))

  -- the limit that is passed
  pub first_passed_both : (m : ℕ) → m ≡ n + count_new (rows_of es) (rows_of fs) → IsRoomier es es → passed_by m fs ≡ first_passed (flat (rows_of es) ++ D)
  first_passed_both m is r =
      first_passed_after es fs (table_rows es n t) t.each h m (is ∙ ap (λ n. n + count_new (rows_of es) (rows_of fs)) t.counted)
      ∙ first_passed-thin (flat (rows_with (rows_of es) (rows_of fs))) (flat (rows_of es) ++ D) (thin-between (flat (rows_of es) ++ D) (flat (rows_with (rows_of es) (rows_of fs))) (kept_after es r))

  pub counted_after : (room : List (List ℕ × Entry)) → IsRoomier es room → (m : ℕ) → m ≡ n + count_new (rows_of es) (rows_of fs) → m ≡ count_named (rows_with (rows_of room) (rows_of fs))
  counted_after room r m is =
      is ∙ ap (λ k. k + count_new (rows_of es) (rows_of fs)) (r.table n t).counted
      ∙ sym (λ i. count_named (rows_of room) + count_by (λ (row : List ℕ × List Op). not (has_any (own_room room r row.0 i))) (rows_of fs))
      ∙ sym (count_moved (rows_of room) (rows_of fs) (table_rows room n (r.table n t)) h.sorted h.owned h.any)

-- ---- no limit is passed

pub record IsPassedBy (m : ℕ) (fs : List (List ℕ × Entry)) : Type 0 where
  pub few : nat_lt 4096 m ≡ false
  pub pending : list_any too_many_pending fs ≡ false
  pub parked : list_any too_many_parked fs ≡ false
  pub exceptions : list_any too_many_exceptions fs ≡ false

some_none : {A P : Type 0} (x : A) → Some x ≡ None → P
some_none x h = cc

nothing_passed : (m : ℕ) (fs : List (List ℕ × Entry)) → passed_by m fs ≡ None → IsPassedBy m fs
nothing_passed m fs h = go (nat_lt 4096 m) (list_any too_many_pending fs) (list_any too_many_parked fs) (list_any too_many_exceptions fs) refl refl refl refl h
  where
    go : (a b c d : Bool) → nat_lt 4096 m ≡ a → list_any too_many_pending fs ≡ b → list_any too_many_parked fs ≡ c → list_any too_many_exceptions fs ≡ d
        → (if a then Some Clients else (if b then Some Pending else (if c then Some Parked else (if d then Some Exceptions else None)))) ≡ None → IsPassedBy m fs
    go true b c d ea eb ec ed h = some_none Clients h
    go false true c d ea eb ec ed h = some_none Pending h
    go false false true d ea eb ec ed h = some_none Parked h
    go false false false true ea eb ec ed h = some_none Exceptions h
    go false false false false ea eb ec ed h = record { few = ea; pending = eb; parked = ec; exceptions = ed }

or_left : (a b : Bool) → (a || b) ≡ false → a ≡ false
or_left true b e = e
or_left false b e = refl

or_right : (a b : Bool) → (a || b) ≡ false → b ≡ false
or_right true b e = absurd (true≢false e)
or_right false b e = e

not_above : (limit n : ℕ) → nat_lt limit n ≡ false → n ≤ limit
not_above limit n h = grind (arith, nat_tests)

fit_entries : (fs : List (List ℕ × Entry)) → AllByRecursion (λ f. IsEntry f.0 f.1) fs → list_any too_many_pending fs ≡ false → list_any too_many_parked fs ≡ false → list_any too_many_exceptions fs ≡ false → AreKept fs
fit_entries [] w a b c = tt
fit_entries (f ∷ fs) w a b c = (
  record {
    entry_is = w.0;
    pending = not_above 16384 (length f.1.seen.pending) (or_left (too_many_pending f) (list_any too_many_pending fs) a);
    parked = not_above 4096 f.1.parked (or_left (too_many_parked f) (list_any too_many_parked fs) b);
    exceptions = not_above 16384 f.1.exceptions (or_left (too_many_exceptions f) (list_any too_many_exceptions fs) c);
  },
  fit_entries fs w.1 (or_right (too_many_pending f) (list_any too_many_pending fs) a) (or_right (too_many_parked f) (list_any too_many_parked fs) b) (or_right (too_many_exceptions f) (list_any too_many_exceptions fs) c),
)

-- where no limit is passed, the fresh entries pass none
pub fresh_fit : (m : ℕ) (fs : List (List ℕ × Entry)) → AllByRecursion (λ f. IsEntry f.0 f.1) fs → passed_by m fs ≡ None → AreKept fs × (m ≤ 4096)
fresh_fit m fs h none =
    let p = nothing_passed m fs none in
    (fit_entries fs h p.pending p.parked p.exceptions, not_above 4096 m p.few)
