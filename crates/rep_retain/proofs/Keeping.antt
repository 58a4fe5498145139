-- A table with operations keeps what must be kept of both, and nothing that both have not.
use Rattle.std.proofs.Common.{◌≡◌, ℕ, Bool, true, false, cond, not, List, [], ◌∷◌, ◌++◌, Option, Some, None, is_some, refl, sym, ap, ◌∙◌, subst, true≢false, Ordering, Less, Equal, Greater, is_eq, is_lt}
use Rattle.std.specs.FinMap.{find}
use Rattle.std.proofs.lemmas.Cmp.{tied_itself}
use Rattle.sn_tables.proofs.Ascending.{Ascends}
use Rattle.sn_session.specs.declared.change.SessionOp.{SessionOp}
use Rattle.rep_op.specs.declared.op.Stamp.{Stamp}
use Rattle.rep_op.specs.declared.op.Put.{Put}
use Rattle.rep_op.specs.declared.op.Retained.{Retained}
use Rattle.rep_op.specs.declared.op.Op.{Op}
use Rattle.rep_op.specs.Orders.{operation_cmp, put_cmp, clock_of, clock_cmp, is_of_client, AreOfTopics}
use Rattle.rep_op.specs.Sets.{operation_at, put_at, is_acknowledged, retain_at}
use Rattle.rep_model.specs.Views.{greatest, names, visible}
use Rattle.rep_model.specs.Topics.{retained}
use Rattle.rep_model.specs.Keep.{is_below, is_outdone, keep, IsKeptOf}
use Rattle.rep_model.proofs.Joins.{all-both}
use Rattle.rep_model.proofs.Occurring.{retain_occurs}
use Rattle.rep_model.proofs.Readers.{clock_total, clock_exact, operation_at_keep, put_at_keep, is_acknowledged_keep, retain_at_keep}
use Rattle.rep_model.proofs.Topics.{retained-last, kept-last}
use Rattle.rep_model.proofs.Beside.{no_operations, no_puts, none_acknowledged}
use Rattle.rep_retain.specs.Tables.{entry_cmp, ops_of}
use Rattle.rep_retain.specs.inner.Tables.{kept_in, with_ops}
use Rattle.rep_retain.specs.inner.Refusals.{under}
use Rattle.rep_retain.proofs.Found.{one_of, are_of_topics, retains_found, ascends_ops, retained_found, retained_ops}

nothing : {X : Type 0} (b : Bool) (o : Option X) (x : X) → o ≡ None → cond b o None ≡ Some x → ⊥
nothing true o x none e = true≢false (sym (ap is_some (sym none ∙ e)))
nothing false o x none e = true≢false (sym (ap is_some e))

-- what a table has under a name
pub retain_at_found : (t : List ℕ) (es : List (List ℕ × Retained)) → Ascends entry_cmp es → (n : ℕ × ℕ) → retain_at t (ops_of es) n ≡ under n (kept_in t es)
retain_at_found t es h n = ap (find clock_cmp n) (retains_found t es h) ∙ elim (kept_in t es) as (λ o. find clock_cmp n (one_of o) ≡ under n o) [ None ↦ refl | Some k ↦ refl ]

-- a table keeps itself: each of its entries is the last of its topic
kept_one : (n : ℕ × ℕ) (o : Option Retained) → cond (not (is_outdone n (greatest clock_cmp (names (one_of o))))) (find clock_cmp n (one_of o)) None ≡ find clock_cmp n (one_of o)
kept_one n None = refl
kept_one n (Some k) = elim (clock_cmp n (clock_of k)) as (λ r. cond (not (is_lt r)) (cond (is_eq r) (Some k) None) None ≡ cond (is_eq r) (Some k) None) [ Less ↦ refl | Equal ↦ refl | Greater ↦ refl ]

pub table_kept : (es : List (List ℕ × Retained)) → Ascends entry_cmp es → (t : List ℕ) (n : ℕ × ℕ) → retain_at t (keep (ops_of es)) n ≡ retain_at t (ops_of es) n
table_kept es h t n =
    retain_at_keep t (ops_of es) n
    ∙ ap (λ (rs : List ((ℕ × ℕ) × Retained)). cond (not (is_outdone n (greatest clock_cmp (names rs)))) (find clock_cmp n rs) None) (retains_found t es h)
    ∙ kept_one n (kept_in t es)
    ∙ sym (ap (find clock_cmp n) (retains_found t es h))

module _ (es : List (List ℕ × Retained)) (ops : List Op) (h : Ascends entry_cmp es) (t : AreOfTopics ops) where
  abbrev both : List Op
  both = ops_of es ++ ops

  abbrev next : List (List ℕ × Retained)
  next = with_ops es ops

  both_topics : AreOfTopics both
  both_topics = all-both (λ op. is_of_client op ≡ false) (ops_of es) ops (are_of_topics es) t

  kept_is : (u : List ℕ) → kept_in u next ≡ retained u both
  kept_is u = sym (retained_found u next (ascends_ops es ops h)) ∙ retained_ops u es ops h

  no_operation_kept : (c : List ℕ) (name : Stamp × ℕ) (x : SessionOp) → operation_at c (keep both) name ≡ Some x → ⊥
  no_operation_kept c name x e = nothing (not (is_below name.0 (visible c both))) (operation_at c both name) x (ap (find operation_cmp name) (no_operations both both_topics c)) (sym (operation_at_keep c both name) ∙ e)

  no_put_kept : (c : List ℕ) (name : ℕ × ℕ) (x : Put) → put_at c (keep both) name ≡ Some x → ⊥
  no_put_kept c name x e = nothing (not (is_acknowledged c both name)) (put_at c both name) x (ap (find put_cmp name) (no_puts both both_topics c)) (sym (put_at_keep c both name) ∙ e)

  none_kept : (c : List ℕ) (name : ℕ × ℕ) → is_acknowledged c (keep both) name ≡ true → ⊥
  none_kept c name e = true≢false (sym e ∙ is_acknowledged_keep c both name ∙ none_acknowledged both both_topics c name)

  lower_retains : (u : List ℕ) (n : ℕ × ℕ) (k : Retained) → retain_at u (keep both) n ≡ Some k → retain_at u (ops_of next) n ≡ Some k
  lower_retains u n k e =
      let last = kept-last u both n k e in
      let named : clock_of k ≡ n = (retain_occurs u (keep both) n k e).1 in
      retain_at_found u next (ascends_ops es ops h) n ∙ ap (under n) (kept_is u ∙ last)
      ∙ ap (λ (q : ℕ × ℕ). cond (is_eq (clock_cmp q (clock_of k))) (Some k) None) (sym named)
      ∙ ap (λ o. cond (is_eq o) (Some k) None) (tied_itself clock_total (clock_of k))

  upper_retains : (u : List ℕ) (n : ℕ × ℕ) (k : Retained) → retain_at u (ops_of next) n ≡ Some k → retain_at u both n ≡ Some k
  upper_retains u n k e = go (kept_in u next) (sym (kept_is u)) (sym (retain_at_found u next (ascends_ops es ops h) n) ∙ e)
    where
      go : (o : Option Retained) → retained u both ≡ o → under n o ≡ Some k → retain_at u both n ≡ Some k
      go None is e = absurd (true≢false (sym (ap is_some e)))
      go (Some l) is e = named (clock_cmp n (clock_of l)) refl e
        where
          named : (o : Ordering) → clock_cmp n (clock_of l) ≡ o → cond (is_eq o) (Some l) None ≡ Some k → retain_at u both n ≡ Some k
          named Less o e = absurd (true≢false (sym (ap is_some e)))
          named Greater o e = absurd (true≢false (sym (ap is_some e)))
          named Equal o e = ap (retain_at u both) (clock_exact n (clock_of l) o) ∙ (retained-last u both l is).0 ∙ e

  pub kept_of : IsKeptOf both (ops_of next)
  kept_of = record {
    lower = record {
      operations_in = λ c name x e. absurd (no_operation_kept c name x e);
      puts_in = λ c name x e. absurd (no_put_kept c name x e);
      acknowledgements_in = λ c name e. absurd (none_kept c name e);
      retains_in = lower_retains;
    };
    upper = record {
      operations_in = λ c name x e. absurd (true≢false (sym (ap is_some (sym (ap (find operation_cmp name) (no_operations (ops_of next) (are_of_topics next) c)) ∙ e))));
      puts_in = λ c name x e. absurd (true≢false (sym (ap is_some (sym (ap (find put_cmp name) (no_puts (ops_of next) (are_of_topics next) c)) ∙ e))));
      acknowledgements_in = λ c name e. absurd (true≢false (sym e ∙ none_acknowledged (ops_of next) (are_of_topics next) c name));
      retains_in = upper_retains;
    };
  }
