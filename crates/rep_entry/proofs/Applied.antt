-- The entry that a change makes, and how many messages are left in it.
use Rattle.std.proofs.Common.{◌≡◌, ℕ, suc, ◌+◌, ◌==◌, eqb-true, Bool, true, false, cond, List, [], ◌∷◌, ◌++◌, filter, length, Option, Some, None, IsTrue, T, vec_capacity, sym, ap, ◌∙◌, subst, arith}
use Rattle.std.specs.FinMap.{is_sorted}
use Rattle.std.proofs.lemmas.List.{length-append}
use Rattle.std.proofs.lemmas.List.Elements.{filter-append}
use Rattle.rep_op.specs.declared.op.Put.{Put}
use Rattle.rep_op.specs.WellMade.{is_put}
use Rattle.rep_shared.specs.Steps.{capped}
use Rattle.rep_shared.proofs.Flat.{all_filter}
use Rattle.rep_op.specs.Orders.{operation_cmp}
use Rattle.rep_model.specs.Limits.{parked, exceptions}
use Rattle.rep_log.specs.declared.log.Log.{Log}
use Rattle.rep_entry.specs.declared.entry.Entry.{Entry}
use Rattle.rep_entry.specs.declared.change.Change.{Change}
use Rattle.rep_log.specs.Logs.{IsFolded, known_on}
use Rattle.rep_log.specs.Mail.{NoneCovered, is_uncovered, front_before, rest_from, weave}
use Rattle.rep_log.specs.Origins.{ranges_in, AreOrigins, origins_after, ranges_on}
use Rattle.rep_log.specs.Kept.{kept_ops}
use Rattle.rep_entry.specs.Entries.{AreChanges, IsEntry, entry_row, whole_after, base_of, left_on}
use Rattle.rep_entry.specs.Staging.{IsChange, IsLogFit, AreAcksFit, IsFit, planned_row}
use Rattle.rep_entry.specs.Applied.{entry_applied}
use Rattle.rep_entry.proofs.Rising.{front_rest, rising_weave, weave_all}
use Rattle.rep_entry.proofs.Changes.{none_covered}
use Rattle.rep_entry.proofs.Freshness.{ranges_same, rising_filter, are_apart, weave_none}

-- ---- how many are left

long_both : {A : Type 0} (xs ys : List A) → length (xs ++ ys) ≡ length xs + length ys
long_both xs ys = length-append xs ys

none_before : (n : ℕ) → n ≡ 0 + n
none_before n = omega arith

module _ (test : Put → Bool) where
  left_both : (xs ys : List Put) → length (filter test (xs ++ ys)) ≡ length (filter test xs) + length (filter test ys)
  left_both xs ys = ap length (filter-append test xs ys) ∙ long_both (filter test xs) (filter test ys)

  pub weave_count : (ps ns : List Put) → length (filter test (weave ps ns)) ≡ length (filter test ps) + length (filter test ns)
  weave_count [] ns = none_before (length (filter test ns))
  weave_count (p ∷ ps) ns =
      let rest = weave_count ps (rest_from p ns) in
      let new = sym (left_both (front_before p ns) (rest_from p ns)) ∙ ap (λ xs. length (filter test xs)) (front_rest p ns) in
      left_both (front_before p ns) (p ∷ weave ps (rest_from p ns))
      ∙ elim (test p) as (λ b. length (filter test (front_before p ns)) + length (cond b (p ∷ filter test (weave ps (rest_from p ns))) (filter test (weave ps (rest_from p ns)))) ≡ length (cond b (p ∷ filter test ps) (filter test ps)) + length (filter test ns)) [
        | true ↦ omega (arith, rest, new)
        | false ↦ omega (arith, rest, new)
      ]

pub weave_long : (ps ns : List Put) → length (weave ps ns) ≡ length ps + length ns
weave_long [] ns = none_before (length ns)
weave_long (p ∷ ps) ns =
    let rest = weave_long ps (rest_from p ns) in
    let new = sym (long_both (front_before p ns) (rest_from p ns)) ∙ ap length (front_rest p ns) in
    long_both (front_before p ns) (p ∷ weave ps (rest_from p ns)) ∙ omega (arith, rest, new)

no_zero : (n : ℕ) → suc n ≡ 0 → ⊥
no_zero n h = omega (arith, h)

pub empty_woven : (ps ns : List Put) → (length ns == 0) ≡ true → ps ≡ weave ps ns
empty_woven ps [] e = sym (weave_none ps)
empty_woven ps (n ∷ ns) e = absurd (no_zero (length ns) (eqb-true (suc (length ns)) 0 e))

-- ---- the entry that a change makes

-- its row is what is kept with the change
pub row_applied : (c : List ℕ) (e : Entry) (ch : Change) → entry_row c (entry_applied e ch) ≡ planned_row c (base_of e) ch
row_applied c e ch = ap (kept_ops c (known_on e.known ch.log) (left_on (base_of e) ch.news.items ch.acks)) (ranges_same e.acks ch.acks)

pub folded_after : (c : List ℕ) (e : Entry) (log : Option Log) (room : ℕ) → IsEntry c e → IsLogFit e.known log room → IsFolded (whole_after e log)
folded_after c e None room h fit = h.folded
folded_after c e (Some log) room h fit = fit.0

pub ordered_after : (c : List ℕ) (e : Entry) (log : Option Log) (room : ℕ) → IsEntry c e → IsLogFit e.known log room → T (is_sorted operation_cmp (known_on e.known log))
ordered_after c e None room h fit = h.ordered
ordered_after c e (Some log) room h fit = fit.1

changes_after : (c : List ℕ) (e : Entry) (log : Option Log) (room : ℕ) → IsEntry c e → IsLogFit e.known log room → AreChanges (known_on e.known log)
changes_after c e None room h fit = h.changes
changes_after c e (Some log) room h fit = fit.2

pub origins_fit : (c : List ℕ) (e : Entry) (acks : Option (List (ℕ × List (ℕ × ℕ)))) → IsEntry c e → AreAcksFit acks → AreOrigins (origins_after e.acks acks)
origins_fit c e None h fit = h.origins
origins_fit c e (Some acks) h fit = fit

pub entry_of : (c : List ℕ) (e : Entry) (ch : Change) → IsEntry c e → IsChange ch → IsFit c (base_of e) ch → IsEntry c (entry_applied e ch)
entry_of c e ch h change fit =
    let ps = e.seen.pending in
    let ns = ch.news.items in
    let rs = ranges_on (ranges_in e.acks) ch.acks in
    record {
      folded = folded_after c e ch.log (vec_capacity ch.log_room) h fit.log;
      ordered = ordered_after c e ch.log (vec_capacity ch.log_room) h fit.log;
      changes = changes_after c e ch.log (vec_capacity ch.log_room) h fit.log;
      rising = rising_filter (is_uncovered rs) (weave ps ns) (rising_weave ps ns h.rising change.rising (are_apart ps ns fit.apart));
      none_covered = subst (λ rs. NoneCovered rs (left_on (base_of e) ns ch.acks)) (sym (ranges_same e.acks ch.acks)) (none_covered rs (weave ps ns));
      made = all_filter (λ (p : Put). IsTrue (is_put p)) (is_uncovered rs) (weave ps ns) (weave_all (λ (p : Put). IsTrue (is_put p)) ps ns h.made change.made);
      origins = origins_fit c e ch.acks h fit.acks;
      parked = fit.parked ∙ sym (ap (λ S. length (parked c S)) (row_applied c e ch));
      exceptions = fit.exceptions ∙ sym (ap (λ S. capped (exceptions c S)) (row_applied c e ch));
    }
