-- The place of a client of which nothing is known.
use Rattle.std.proofs.Common.{◌≡◌, ℕ, List, [], length, None, T, refl, sym, ap, ◌∙◌, subst}
use Rattle.std.specs.FinMap.{is_sorted}
use Rattle.sn_session.specs.declared.change.SessionOp.{SessionOp}
use Rattle.rep_op.specs.declared.op.Stamp.{Stamp}
use Rattle.rep_op.specs.declared.op.Op.{Op}
use Rattle.rep_op.specs.Orders.{operation_cmp}
use Rattle.rep_model.specs.Limits.{parked, exceptions}
use Rattle.rep_shared.specs.Steps.{capped}
use Rattle.rep_entry.specs.declared.entry.Entry.{Entry}
use Rattle.rep_log.specs.Mail.{Rising, NoneCovered}
use Rattle.rep_log.specs.Origins.{ranges_in, AreOrigins}
use Rattle.rep_log.specs.Kept.{kept_ops}
use Rattle.rep_entry.specs.Entries.{AreChanges, AreMade, entry_row, IsEntry}
use Rattle.rep_entry.specs.Applied.{nothing_held}
use Rattle.rep_entry.proofs.Counts.{folded_as}

pub empty_entry : (c : List ℕ) (e : Entry) → e.seen.stamp ≡ None → e.seen.prefix ≡ 0 → e.seen.session ≡ None → e.seen.pending ≡ [] → e.known ≡ [] → e.acks ≡ [] → e.parked ≡ 0 → e.exceptions ≡ 0 → IsEntry c e
unfolding exceptions
empty_entry c e stamp prefix session pending known acks none no_exception =
    let row : entry_row c e ≡ [] = λ i. kept_ops c (known i) (pending i) (ranges_in (acks i)) in
    record {
      folded = folded_as e.seen.stamp None e.seen.prefix 0 e.seen.session None e.known [] stamp prefix session known (record { visible = refl; prefix = refl; session = refl; none_below = tt });
      ordered = subst (λ (es : List ((Stamp × ℕ) × SessionOp)). T (is_sorted operation_cmp es)) (sym known) tt;
      changes = subst AreChanges (sym known) tt;
      rising = subst Rising (sym pending) tt;
      none_covered = subst (NoneCovered (ranges_in e.acks)) (sym pending) tt;
      made = subst AreMade (sym pending) tt;
      origins = subst AreOrigins (sym acks) (record { sorted = tt; apart = tt });
      parked = none ∙ sym (ap (λ (S : List Op). length (parked c S)) row);
      exceptions = no_exception ∙ sym (ap (λ (S : List Op). capped (exceptions c S)) row);
    }

-- nothing is known of a client that has no place
pub nothing_is : (c : List ℕ) → IsEntry c nothing_held
nothing_is c = empty_entry c nothing_held refl refl refl refl refl refl refl refl
