use Rattle.std.proofs.Common.{◌≡◌, ℕ, ◌+◌, ◌==◌, ◌≤◌, false, length, vec_capacity, List, filter, sym, ap, subst, ◌∙◌}
use Rattle.rep_op.specs.declared.op.Put.{Put}
use Rattle.rep_log.specs.Mail.{Rising, NoneCovered, InOne, is_uncovered, weave}
use Rattle.rep_entry.specs.Spans.{IsFreeOutside, AreFreeOutside}
use Rattle.rep_log.specs.Origins.{ranges_in, ranges_on}
use Rattle.rep_entry.specs.Entries.{AreMade, messages, base_of, row_on}
use Rattle.rep_entry.proofs.Changing.{log_fits, acks_fit, parked_fit, exceptions_fit}
use Rattle.rep_entry.proofs.Rising.{weave_all}
use Rattle.rep_entry.proofs.Spans.{free_messages}
use Rattle.rep_entry.proofs.Freshness.{ranges_same, rising_messages, made_messages, none_woven}
use Rattle.rep_entry.proofs.fresh.Fresh.into_change.Goals as goal

pub returns-in-Ok-clause-change : goal.returns-in-Ok-clause-change
returns-in-Ok-clause-change c =
    λ client fresh.
    let f = c.args.self in
    let news = c.into_puts-news.ensures in
    record {
      rising = subst Rising (sym news) (rising_messages f.news fresh.under fresh.sorted);
      made = subst AreMade (sym news) (made_messages f.news fresh.made);
      blank = c.in-Ok.ensures.empty;
      log_blank = c.in-Ok.ensures.log_empty;
    }

pub returns-in-Ok-clause-fit : goal.returns-in-Ok-clause-fit
returns-in-Ok-clause-fit c =
    λ client fresh.
    let f = c.args.self in
    let e = c.args.entry.now in
    let h = fresh.entry_is in
    let waiting = e.seen.pending in
    let news = c.into_puts-news.ensures in
    record {
      apart = subst (λ (ns : List Put). (q : ℕ × ℕ) → InOne q waiting ns) (sym news) fresh.apart;
      room = subst (λ (ns : List Put). (length ns == 0) ≡ false → length waiting + length ns ≤ vec_capacity c.in-Ok.room) c.as_slice.ensures.value c.in-Ok.ensures.room;
      untold = λ none. subst (λ (ns : List Put). NoneCovered (ranges_in e.acks) (weave waiting ns)) (sym news) (none_woven (ranges_in e.acks) waiting f.news h.none_covered (fresh.none_comes none));
      spanned = subst (λ (ns : List Put). AreFreeOutside f.span (ranges_on (ranges_in e.acks) f.acks) (weave waiting ns)) (sym news)
          (weave_all (IsFreeOutside f.span (ranges_on (ranges_in e.acks) f.acks)) waiting (messages f.news) fresh.waits (free_messages f.span (ranges_on (ranges_in e.acks) f.acks) f.news fresh.comes));
      log = log_fits client e h f.log (vec_capacity c.in-Ok.log_room) fresh.folded fresh.ordered fresh.changes c.in-Ok.ensures.log_room;
      acks = acks_fit client e h f.acks fresh.origins;
      parked = c.in-Ok.ensures.parked ∙ parked_fit client e h f.log c.into_puts-news.result.items f.acks fresh.folded fresh.ordered;
      exceptions = c.exceptions_with-exceptions.ensures ∙ exceptions_fit client e h f.log c.into_puts-news.result.items f.acks fresh.origins;
    }

pub returns-in-Ok-clause-counted : goal.returns-in-Ok-clause-counted
returns-in-Ok-clause-counted c =
    λ client fresh.
    let f = c.args.self in
    let e = c.args.entry.now in
    let ps = e.seen.pending in
    let ns = c.into_puts-news.result.items in
    let rs = ranges_in c.latest-held.result.now in
    let all : weave ps c.as_slice.result.now ≡ weave ps ns = ap (weave ps) c.as_slice.ensures.value in
    let acks = ap ranges_in c.latest-held.ensures ∙ ranges_same e.acks f.acks in
    let comes = c.as_slice.ensures.value ∙ c.into_puts-news.ensures in
    c.in-Ok.ensures.pending fresh.entry_is.rising
    (subst Rising (sym comes) (rising_messages f.news fresh.under fresh.sorted))
    (subst (λ rs. AreFreeOutside f.span rs ps) (sym acks) fresh.waits)
    (subst (AreFreeOutside f.span rs) (sym comes) (subst (λ rs. AreFreeOutside f.span rs (messages f.news)) (sym acks) (free_messages f.span (ranges_on (ranges_in e.acks) f.acks) f.news fresh.comes)))
    ∙ (λ i. length (filter (is_uncovered (acks i)) (all i)))

pub returns-in-Ok-clause-row : goal.returns-in-Ok-clause-row
returns-in-Ok-clause-row c =
    λ client.
    let f = c.args.self in
    ap (λ (ns : List Put). row_on client (base_of c.args.entry.now) f.log ns f.acks) c.into_puts-news.ensures
