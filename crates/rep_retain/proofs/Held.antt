-- What must be kept of clients and topics is what must be kept of each.
use Rattle.std.proofs.Common.{◌≡◌, ℕ, Bool, cond, not, true, false, List, [], ◌∷◌, ◌++◌, filter_map, Option, None, refl, sym, ap, ◌∙◌}
use Rattle.std.specs.FinMap.{find}
use Rattle.sn_session.specs.declared.change.SessionOp.{SessionOp}
use Rattle.rep_op.specs.declared.op.Stamp.{Stamp}
use Rattle.rep_op.specs.declared.op.Retained.{Retained}
use Rattle.rep_op.specs.declared.op.Op.{Op}
use Rattle.rep_op.specs.Orders.{stamp_cmp, operation_cmp, put_cmp, clock_cmp, AreOfClients, AreOfTopics}
use Rattle.rep_op.specs.Sets.{retain_at, Same}
use Rattle.rep_op.proofs.Sets.{Same-trans}
use Rattle.rep_ops.specs.Making.{AreWellMade}
use Rattle.rep_ops.specs.Splitting.{AreDeltasOf}
use Rattle.rep_model.specs.Views.{greatest, take_stamp, names}
use Rattle.rep_model.specs.Topics.{latest}
use Rattle.rep_model.specs.Keep.{is_below, is_outdone, keep}
use Rattle.rep_model.specs.Held.{IsHeld}
use Rattle.rep_model.proofs.Lookup.{or_else}
use Rattle.rep_model.proofs.Readers.{operation_at_keep, put_at_keep, is_acknowledged_keep, retain_at_keep, retain_at_both}
use Rattle.rep_model.proofs.Beside.{no_retains, operations-front, puts-front, acknowledged-front, retains-back}

none_either : {X : Type 0} (b : Bool) (o : Option X) → o ≡ None → cond b o None ≡ None
none_either true o h = h
none_either false o h = refl

module _ (A T B : List Op) (a : AreOfClients A) (t : AreOfTopics T) (front : Same B (keep A)) (back : (u : List ℕ) (n : ℕ × ℕ) → retain_at u (keep T) n ≡ retain_at u T n) where
  pub both_kept : Same (B ++ T) (keep (A ++ T))
  both_kept = record {
    operations_same = λ c name.
        ap (find operation_cmp name) (operations-front B T t c) ∙ front.operations_same c name ∙ operation_at_keep c A name
        ∙ sym (ap (λ (es : List ((Stamp × ℕ) × SessionOp)). cond (not (is_below name.0 (greatest stamp_cmp (filter_map take_stamp (names es))))) (find operation_cmp name es) None) (operations-front A T t c))
        ∙ sym (operation_at_keep c (A ++ T) name);
    puts_same = λ c name.
        ap (find put_cmp name) (puts-front B T t c) ∙ front.puts_same c name ∙ put_at_keep c A name
        ∙ sym (λ i. cond (not (acknowledged-front A T t c name i)) (find put_cmp name (puts-front A T t c i)) None)
        ∙ sym (put_at_keep c (A ++ T) name);
    acknowledgements_same = λ c name.
        acknowledged-front B T t c name ∙ front.acknowledgements_same c name ∙ is_acknowledged_keep c A name
        ∙ sym (acknowledged-front A T t c name) ∙ sym (is_acknowledged_keep c (A ++ T) name);
    retains_same = λ u name.
        retain_at_both u B T name
        ∙ ap (λ o. or_else o (retain_at u T name)) (front.retains_same u name ∙ retain_at_keep u A name ∙ none_either (not (is_outdone name (latest u A))) (retain_at u A name) (ap (find clock_cmp name) (no_retains A a u)))
        ∙ sym (back u name) ∙ retain_at_keep u T name
        ∙ sym (ap (λ (es : List ((ℕ × ℕ) × Retained)). cond (not (is_outdone name (greatest clock_cmp (names es)))) (find clock_cmp name es) None) (retains-back A T a u))
        ∙ sym (retain_at_keep u (A ++ T) name);
  }

-- deltas of what must be kept hold the set
pub held_by : (ops S : List Op) (deltas : List (List Op)) → Same ops (keep S) → AreDeltasOf ops deltas → IsHeld S deltas
held_by ops S deltas same are = (are.0, record { delta = are.1.delta; same = Same-trans are.0 ops (keep S) are.1.same same }, are.2)

pub made_both : (xs ys : List Op) → AreWellMade xs → AreWellMade ys → AreWellMade (xs ++ ys)
made_both [] ys h g = g
made_both (x ∷ xs) ys h g = (h.0, made_both xs ys h.1 g)
