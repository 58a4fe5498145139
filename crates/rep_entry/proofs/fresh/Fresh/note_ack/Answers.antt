use Rattle.std.proofs.Common.{◌≡◌, ◌||◌, ℕ, None, Some, sym, ap, subst, ◌∙◌}
use Rattle.std.specs.List.{list_any, AllByRecursion}
use Rattle.rep_op.specs.declared.op.Put.{Put}
use Rattle.rep_model.proofs.Joins.{all-weaker}
use Rattle.rep_entry.specs.declared.span.Span.{Span}
use Rattle.rep_log.specs.Logs.{stamp_on, known_on}
use Rattle.rep_log.specs.Mail.{covers, weave}
use Rattle.rep_entry.specs.Spans.{IsFreeOutside, AreFreeOutside}
use Rattle.rep_entry.specs.inner.Mail.{widened}
use Rattle.rep_log.specs.Origins.{ranges_in, ranges_on, origins_after}
use Rattle.rep_entry.specs.Entries.{messages}
use Rattle.rep_entry.proofs.Changes.{ack_more}
use Rattle.rep_entry.proofs.Freshness.{ranges_same}
use Rattle.rep_entry.proofs.Spans.{free_wider}
use Rattle.rep_entry.proofs.fresh.Fresh.note_ack.Goals as goal

pub returns : goal.returns
returns c =
    λ client fresh.
    let f = c.args.self.now in
    let e = c.args.entry.now in
    let r : ℕ × (ℕ × ℕ) = (c.args.origin, (c.args.first, c.args.last)) in
    let were : ranges_in c.in_ok-acks.acks ≡ ranges_on (ranges_in e.acks) f.acks = ap ranges_in (c.in_ok-acks.ensures ∙ ap (origins_after e.acks) c.take.ensures.value) ∙ ranges_same e.acks f.acks in
    let rs = ranges_on (ranges_in e.acks) f.acks in
    let more = ranges_in c.add.new.self in
    let wide : Span = widened f.span c.args.first c.args.last in
    let covered : (q : ℕ × ℕ) → list_any (covers q) more ≡ (list_any (covers q) rs || covers q r) = λ q. c.in_ok-add.ensures.covers q ∙ ap (λ rs. list_any (covers q) rs || covers q r) were in
    let wider : (p : Put) → IsFreeOutside f.span rs p → IsFreeOutside wide more p = free_wider f.span r rs more covered in (
      record {
        entry_is = fresh.entry_is;
        folded = fresh.folded;
        ordered = fresh.ordered;
        changes = fresh.changes;
        sorted = fresh.sorted;
        under = fresh.under;
        made = fresh.made;
        apart = fresh.apart;
        origins = c.in_ok-add.ensures.origins;
        none_comes = λ is. some_none c.add.new.self is;
        waits = subst (λ (s : Span). AreFreeOutside s more e.seen.pending) (sym c.widened-self.ensures) (all-weaker (IsFreeOutside f.span rs) (IsFreeOutside wide more) wider e.seen.pending fresh.waits);
        comes = subst (λ (s : Span). AllByRecursion (λ (n : (ℕ × ℕ) × Put). IsFreeOutside s more n.1) f.news) (sym c.widened-self.ensures)
            (all-weaker (λ (n : (ℕ × ℕ) × Put). IsFreeOutside f.span rs n.1) (λ (n : (ℕ × ℕ) × Put). IsFreeOutside wide more n.1) (λ n. wider n.1) f.news fresh.comes);
      },
      ack_more client (known_on e.known f.log) (stamp_on e.seen.stamp f.log) fresh.folded.visible fresh.folded.none_below rs more (weave e.seen.pending (messages f.news)) r covered,
    )
  where
    some_none : {A P : Type 0} (x : A) → Some x ≡ None → P
    some_none x h = cc
