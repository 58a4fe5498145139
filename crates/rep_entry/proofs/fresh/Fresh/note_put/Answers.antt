use Rattle.std.proofs.Common.{◌≡◌, true, false, ◌||◌, is_some, sym, ap, ◌∙◌}
use Rattle.std.specs.List.{list_any}
use Rattle.std.specs.FinMap.{find, put as place}
use Rattle.rep_op.specs.Orders.{name_of, put_cmp}
use Rattle.rep_op.specs.declared.op.Put.{Put}
use Rattle.rep_model.proofs.Lookup.{or_else}
use Rattle.rep_log.specs.Logs.{stamp_on, known_on}
use Rattle.rep_log.specs.Mail.{covers, put_by_name, weave}
use Rattle.rep_log.specs.Origins.{ranges_in, ranges_on}
use Rattle.rep_entry.specs.Entries.{messages}
use Rattle.rep_entry.proofs.Rising.{find_weave}
use Rattle.rep_entry.proofs.Changes.{put_skipped, put_more}
use Rattle.rep_entry.proofs.Freshness.{ranges_same, found_message, in_weave, not_there, under_more, sorted_more, made_more, found_more, apart_more, none_more, free_more, not_covered}
use Rattle.rep_entry.proofs.fresh.Fresh.note_put.Goals as goal

pub returns-then-has : goal.returns-then-has
returns-then-has c =
    λ client fresh own.
    let f = c.args.self.now in
    let e = c.args.entry.now in
    let es = f.news in
    let waiting = e.seen.pending in
    let p = c.args.put.now in
    let rs = ranges_on (ranges_in e.acks) f.acks in
    let cov = list_any (covers (name_of p)) rs in
    let same = ap (λ rs. list_any (covers (name_of p)) rs || is_some (put_by_name (name_of p) waiting) || is_some (find put_cmp (name_of p) es)) (ranges_same e.acks f.acks) in
    let known : ((cov || is_some (put_by_name (name_of p) waiting)) || is_some (find put_cmp (name_of p) es)) ≡ true = sym (c.has.ensures fresh.entry_is.rising ∙ same) ∙ c.if-has.true in
    let split = find_weave (name_of p) waiting (messages es) (fresh.apart (name_of p)) ∙ ap (or_else (put_by_name (name_of p) waiting)) (found_message (name_of p) es fresh.under) in (
      fresh,
      put_skipped client (known_on e.known f.log) (stamp_on e.seen.stamp f.log) fresh.folded.visible fresh.folded.none_below p rs (weave waiting (messages es)) (λ free. ap is_some split ∙ in_weave cov (put_by_name (name_of p) waiting) (find put_cmp (name_of p) es) known free),
    )

pub returns : goal.returns
returns c =
    λ client fresh own.
    let f = c.args.self.now in
    let e = c.args.entry.now in
    let es = f.news in
    let new = c.insert.new.self in
    let waiting = e.seen.pending in
    let p = c.args.put.now in
    let rs = ranges_on (ranges_in e.acks) f.acks in
    let cov = list_any (covers (name_of p)) rs in
    let same = ap (λ rs. list_any (covers (name_of p)) rs || is_some (put_by_name (name_of p) waiting) || is_some (find put_cmp (name_of p) es)) (ranges_same e.acks f.acks) in
    let known : ((cov || is_some (put_by_name (name_of p) waiting)) || is_some (find put_cmp (name_of p) es)) ≡ false = sym (c.has.ensures fresh.entry_is.rising ∙ same) ∙ c.if-has.false in
    let none = not_there cov (put_by_name (name_of p) waiting) (find put_cmp (name_of p) es) known in
    let free = not_covered cov (put_by_name (name_of p) waiting) (find put_cmp (name_of p) es) known in
    let is : new ≡ place put_cmp (name_of p) p es = c.in_ok-insert.ensures ∙ ap (λ (x : Put). place put_cmp (name_of x) x es) c.in_ok-put.ensures in
    let apart = apart_more waiting es new p fresh.under fresh.apart none.0 is in (
      record {
        entry_is = fresh.entry_is;
        folded = fresh.folded;
        ordered = fresh.ordered;
        changes = fresh.changes;
        sorted = sorted_more waiting es new p fresh.under fresh.apart none.0 is fresh.sorted;
        under = under_more waiting es new p fresh.under fresh.apart none.0 is;
        made = made_more waiting es new p fresh.under fresh.apart none.0 is own fresh.made;
        apart = apart;
        origins = fresh.origins;
        none_comes = λ un. none_more waiting es new p fresh.under fresh.apart none.0 is (ranges_in e.acks) (sym (ap (λ acks. list_any (covers (name_of p)) (ranges_on (ranges_in e.acks) acks)) un) ∙ free) (fresh.none_comes un);
        waits = fresh.waits;
        comes = free_more waiting es new p fresh.under fresh.apart none.0 is f.span rs free fresh.comes;
      },
      put_more client (known_on e.known f.log) (stamp_on e.seen.stamp f.log) fresh.folded.visible fresh.folded.none_below p rs waiting (messages es) (messages new) fresh.apart apart
          (found_more waiting es new p fresh.under fresh.apart none.0 is) none.0 (found_message (name_of p) es fresh.under ∙ none.1),
    )
