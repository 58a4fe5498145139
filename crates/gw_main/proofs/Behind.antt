-- What a gateway has taken, from one call of its tending to the next.
use Rattle.std.proofs.Common.{◌≡◌, false, List, [], ◌++◌, sym, subst, inl, inr}
use Rattle.rep_op.specs.declared.op.Op.{Op}
use Rattle.rep_ops.specs.Splitting.{all_of}
use Rattle.jr_disk.specs.declared.disk.Disk.{Ghosts}
use Rattle.gw_node.specs.Parts.{State, is_halted}
use Rattle.gw_node.specs.Carrying.{TakesNothing, TakesAgain}
use Rattle.gw_node.specs.Taking.{on_disk, HasTaken}
use Rattle.gw_main.specs.Tending.{TakesOn}

module _ {D : Type 0} {G : Ghosts D} (old mid new : State G) where
  pub one_call : TakesNothing old new → TakesOn old new
  one_call n = record { itself = λ S h. n S [] h; with_read = λ S refused h. inl (n S refused h) }

  pub two_calls : TakesNothing old mid → TakesNothing mid new → TakesOn old new
  two_calls n m = record { itself = λ S h. m S [] (n S [] h); with_read = λ S refused h. inl (m S refused (n S refused h)) }

  -- nothing is refused at a gateway that goes on
  pub failed_then_opened : G.honest → is_halted old ≡ false → TakesNothing old mid → TakesAgain mid new → TakesOn old new
  failed_then_opened honest runs n again = record {
    itself = λ S h. again.itself honest S (n S [] h);
    with_read = λ S refused h.
        let none : refused ≡ [] = h.quiet runs in
        inl (subst (λ (r : List (List Op)). HasTaken S r new) (sym none) (again.itself honest S (n S [] (subst (λ (r : List (List Op)). HasTaken S r old) none h))));
  }

  pub opened_then : G.honest → TakesAgain old mid → TakesOn mid new → TakesOn old new
  opened_then honest again on = record {
    itself = λ S h. on.itself S (again.itself honest S h);
    with_read = λ S refused h. inr (on.itself (S ++ all_of (on_disk old)) (again.with_read honest S refused h));
  }
