-- An image of which nothing is known but what an opening found stands for its records.
use Rattle.std.proofs.Common.{◌≡◌, ℕ, zero, suc, List, [], ◌∷◌, ◌++◌, take, None, refl, sym, ap, ◌∙◌, append-nil, append_assoc}
use Rattle.rep_op.specs.declared.op.Op.{Op}
use Rattle.rep_op.specs.Sets.{IsConsistent}
use Rattle.rep_ops.specs.Splitting.{all_of}
use Rattle.rep_model.specs.Limits.{first_passed}
use Rattle.rep_model.proofs.Limits.{first_passed-more}
use Rattle.rep_model.proofs.Joins.{counts-refl, within-left}
use Rattle.jr_disk.specs.Disk.{Image}
use Rattle.jr_journal.specs.Records.{records}
use Rattle.jr_journal.specs.Faults.{fault_of}
use Rattle.gw_node.proofs.Between.{within-keep}
use Rattle.gw_node.specs.Opening.{FitInTurn}
use Rattle.gw_node.specs.Taking.{RecoversTo}

-- where each fits to what is kept of those before it, no front part of them passes a limit
fit_roomy : (S : List Op) (ds : List (List Op)) → first_passed S ≡ None → FitInTurn S ds → (k : ℕ) → first_passed (S ++ all_of (take k ds)) ≡ None
fit_roomy S [] room fits zero = ap first_passed (append-nil S) ∙ room
fit_roomy S [] room fits (suc k) = ap first_passed (append-nil S) ∙ room
fit_roomy S (d ∷ ds) room fits zero = ap first_passed (append-nil S) ∙ room
fit_roomy S (d ∷ ds) room fits (suc k) =
    ap first_passed (sym (append_assoc S d (all_of (take k ds))))
    ∙ fit_roomy (S ++ d) ds (sym (first_passed-more S fits.0.0 d fits.0.1.counts) ∙ fits.0.2.within) fits.1 k

pub begins : (gateway : ℕ) (i : Image) → fault_of gateway i ≡ None → FitInTurn [] (records gateway i) → IsConsistent (all_of (records gateway i)) → RecoversTo gateway (all_of (records gateway i)) [] i
begins gateway i sound fits proper =
    let J : List Op = all_of (records gateway i) in record {
      sound = sound;
      between = record { lower = within-keep J; upper = within-left J [] };
      whole = (zero, counts-refl J);
      roomy = fit_roomy [] (records gateway i) refl fits;
      proper = proper;
    }
