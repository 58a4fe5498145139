-- One delta more: what is kept of what is kept and the delta is what is kept of all.
use Rattle.std.proofs.Common.{◌≡◌, ℕ, Bool, true, false, not, cond, ◌||◌, List, ◌++◌, Option, Some, None, refl, sym, ap, ◌∙◌}
use Rattle.std.specs.FinMap.{find}
use Rattle.rep_op.specs.declared.op.Stamp.{Stamp}
use Rattle.rep_op.specs.declared.op.Op.{Op}
use Rattle.rep_op.specs.Orders.{clock_cmp, AreOfClients}
use Rattle.rep_op.specs.Sets.{operation_at, put_at, is_acknowledged, retain_at, Within, Same}
use Rattle.rep_model.specs.Views.{visible}
use Rattle.rep_model.specs.Topics.{latest}
use Rattle.rep_model.specs.Keep.{is_below, is_outdone, keep, IsKeptOf}
use Rattle.rep_model.proofs.Lookup.{or_else}
use Rattle.rep_model.proofs.Readers.{operation_at_both, put_at_both, is_acknowledged_both, operation_at_keep, put_at_keep, is_acknowledged_keep, retain_at_keep}
use Rattle.rep_model.proofs.Beside.{no_retains}
use Rattle.rep_model.proofs.Joins.{same_trans}
use Rattle.rep_model.proofs.Thin.{thin-between, thin-right, same_kept}
use Rattle.rep_shared.proofs.Kept.{both_of_clients}

within-same : (A B : List Op) → Same A B → Within A B
within-same A B s = record {
  operations_in = λ c name x e. sym (s.operations_same c name) ∙ e;
  puts_in = λ c name x e. sym (s.puts_same c name) ∙ e;
  acknowledgements_in = λ c name e. sym (s.acknowledgements_same c name) ∙ e;
  retains_in = λ t name k e. sym (s.retains_same t name) ∙ e;
}

same_turned : (A B : List Op) → Same A B → Same B A
same_turned A B s = record {
  operations_same = λ c name. sym (s.operations_same c name);
  puts_same = λ c name. sym (s.puts_same c name);
  acknowledgements_same = λ c name. sym (s.acknowledgements_same c name);
  retains_same = λ t name. sym (s.retains_same t name);
}

kept_some : {X : Type 0} (b : Bool) (o : Option X) (x : X) → cond b o None ≡ Some x → o ≡ Some x
kept_some true o x e = e
kept_some false o x e = none_some e
  where
    none_some : {P : Type 0} → None ≡ Some x → P
    none_some h = cc

-- what is kept stands in the set
kept_within : (W : List Op) → Within (keep W) W
kept_within W = record {
  operations_in = λ c name x e. kept_some (not (is_below name.0 (visible c W))) (operation_at c W name) x (sym (operation_at_keep c W name) ∙ e);
  puts_in = λ c name x e. kept_some (not (is_acknowledged c W name)) (put_at c W name) x (sym (put_at_keep c W name) ∙ e);
  acknowledgements_in = λ c name e. sym (is_acknowledged_keep c W name) ∙ e;
  retains_in = λ t name k e. kept_some (not (is_outdone name (latest t W))) (retain_at t W name) k (sym (retain_at_keep t W name) ∙ e);
}

-- a set that is what must be kept of W lies between the bounds of the trait
pub kept_between : (W A : List Op) → Same A (keep W) → IsKeptOf W A
kept_between W A s = record {
  lower = within-same (keep W) A (same_turned A (keep W) s);
  upper = record {
    operations_in = λ c name x e. (kept_within W).operations_in c name x (sym (s.operations_same c name) ∙ e);
    puts_in = λ c name x e. (kept_within W).puts_in c name x (sym (s.puts_same c name) ∙ e);
    acknowledgements_in = λ c name e. (kept_within W).acknowledgements_in c name (sym (s.acknowledgements_same c name) ∙ e);
    retains_in = λ t name k e. (kept_within W).retains_in t name k (sym (s.retains_same t name) ∙ e);
  };
}

-- one step more
pub kept_step : (W Y A B : List Op) → Same A (keep W) → Same B (keep (A ++ Y)) → Same B (keep (W ++ Y))
kept_step W Y A B s t = same_trans t (same_kept (A ++ Y) (W ++ Y) (thin-right A W (thin-between W A (kept_between W A s)) Y))

-- the readers of K and a delta D after it, of which L keeps what must be kept
pub record KeepsOf (c : List ℕ) (K D L : List Op) : Type 0 where
  pub stamp : Option Stamp
  pub visible_is : stamp ≡ visible c (K ++ D)
  pub operations_kept : (name : Stamp × ℕ) → operation_at c L name ≡ cond (not (is_below name.0 stamp)) (or_else (operation_at c K name) (operation_at c D name)) None
  pub puts_kept : (name : ℕ × ℕ) → put_at c L name ≡ cond (not (is_acknowledged c K name || is_acknowledged c D name)) (or_else (put_at c K name) (put_at c D name)) None
  pub acknowledgements_kept : (name : ℕ × ℕ) → is_acknowledged c L name ≡ (is_acknowledged c K name || is_acknowledged c D name)

-- of clients nothing is kept that was retained
none_either : {X : Type 0} (b : Bool) (o : Option X) → o ≡ None → cond b o None ≡ None
none_either true o h = h
none_either false o h = refl

none_retained : (W : List Op) → AreOfClients W → (t : List ℕ) (name : ℕ × ℕ) → retain_at t (keep W) name ≡ None
none_retained W w t name = retain_at_keep t W name ∙ none_either (not (is_outdone name (latest t W))) (retain_at t W name) (ap (find clock_cmp name) (no_retains W w t))

pub kept_of_readers : (K D L : List Op) → AreOfClients K → AreOfClients D → AreOfClients L → ((c : List ℕ) → KeepsOf c K D L) → Same L (keep (K ++ D))
kept_of_readers K D L k d l h = record {
  operations_same = λ c name. (h c).operations_kept name
      ∙ (λ i. cond (not (is_below name.0 ((h c).visible_is i))) (sym (operation_at_both c K D name) i) None)
      ∙ sym (operation_at_keep c (K ++ D) name);
  puts_same = λ c name. (h c).puts_kept name
      ∙ (λ i. cond (not (sym (is_acknowledged_both c K D name) i)) (sym (put_at_both c K D name) i) None)
      ∙ sym (put_at_keep c (K ++ D) name);
  acknowledgements_same = λ c name. (h c).acknowledgements_kept name ∙ sym (is_acknowledged_both c K D name) ∙ sym (is_acknowledged_keep c (K ++ D) name);
  retains_same = λ t name. ap (find clock_cmp name) (no_retains L l t) ∙ sym (none_retained (K ++ D) (both_of_clients K D k d) t name);
}
