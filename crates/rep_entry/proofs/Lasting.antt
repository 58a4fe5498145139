-- Messages without a moment before another, woven and without some of them.
use Rattle.std.proofs.Common.{◌≡◌, ℕ, true, List, filter, sym, subst}
use Rattle.rep_op.specs.declared.op.Put.{Put}
use Rattle.rep_model.specs.Moments.{lasts, AllLast}
use Rattle.rep_log.specs.Mail.{weave, is_uncovered}
use Rattle.rep_shared.proofs.Flat.{all_filter}
use Rattle.rep_entry.proofs.Rising.{weave_all}

pub left_last : (moment : ℕ) (rs : List (ℕ × (ℕ × ℕ))) (ps ns left : List Put) → AllLast moment ps → AllLast moment ns → left ≡ filter (is_uncovered rs) (weave ps ns) → AllLast moment left
left_last moment rs ps ns left old new is =
    subst (AllLast moment) (sym is)
    (all_filter (λ (p : Put). lasts moment p ≡ true) (is_uncovered rs) (weave ps ns) (weave_all (λ (p : Put). lasts moment p ≡ true) ps ns old new))
