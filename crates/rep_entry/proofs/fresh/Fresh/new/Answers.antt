use Rattle.std.proofs.Common.{ℕ, List, IsTrue, T, filter, refl, sym, ap, subst, ◌∙◌}
use Rattle.std.specs.List.{AllByRecursion}
use Rattle.std.specs.FinMap.{is_sorted}
use Rattle.rep_op.specs.declared.op.Put.{Put}
use Rattle.rep_op.specs.Orders.{put_cmp}
use Rattle.rep_op.specs.WellMade.{is_put}
use Rattle.rep_log.specs.Mail.{InOne, is_uncovered, weave}
use Rattle.rep_entry.specs.Spans.{IsFreeOutside}
use Rattle.rep_log.specs.Origins.{ranges_in}
use Rattle.rep_log.specs.Kept.{kept_ops}
use Rattle.rep_entry.specs.Entries.{AreUnderNames, NoneCoveredBelow, messages}
use Rattle.rep_entry.proofs.Freshness.{weave_none}
use Rattle.rep_entry.proofs.Counts.{left_all}
use Rattle.rep_entry.proofs.Spans.{free_anywhere}
use Rattle.rep_entry.proofs.fresh.Fresh.new.Goals as goal

pub returns-clause-fresh : goal.returns-clause-fresh
returns-clause-fresh c =
    λ client entry e.
    let none = c.new.ensures in
    record {
      entry_is = e;
      folded = e.folded;
      ordered = e.ordered;
      changes = e.changes;
      sorted = subst (λ (es : List ((ℕ × ℕ) × Put)). T (is_sorted put_cmp es)) (sym none) tt;
      under = subst AreUnderNames (sym none) tt;
      made = subst (AllByRecursion (λ (n : (ℕ × ℕ) × Put). IsTrue (is_put n.1))) (sym none) tt;
      apart = λ q. subst (λ (es : List ((ℕ × ℕ) × Put)). InOne q entry.seen.pending (messages es)) (sym none) (λ _. refl);
      origins = e.origins;
      none_comes = λ _. subst (NoneCoveredBelow (ranges_in entry.acks)) (sym none) tt;
      waits = free_anywhere c.none.result (ranges_in entry.acks) entry.seen.pending e.none_covered;
      comes = subst (AllByRecursion (λ (n : (ℕ × ℕ) × Put). IsFreeOutside c.none.result (ranges_in entry.acks) n.1)) (sym none) tt;
    }

pub returns-clause-row : goal.returns-clause-row
returns-clause-row c =
    λ client entry e.
    let waiting = entry.seen.pending in
    let rs = ranges_in entry.acks in
    let pending = ap (λ (es : List ((ℕ × ℕ) × Put)). filter (is_uncovered rs) (weave waiting (messages es))) c.new.ensures
    ∙ ap (filter (is_uncovered rs)) (weave_none waiting)
    ∙ left_all rs waiting e.none_covered in
    ap (λ ps. kept_ops client entry.known ps rs) pending
