use Rattle.std.proofs.Common.{◌≡◌, ◌∷◌, T, true, None, is_some, sym, ap, subst, ◌∙◌}
use Rattle.std.specs.FinMap.{find, is_sorted}
use Rattle.rep_op.specs.Orders.{operation_cmp}
use Rattle.rep_shared.proofs.Found.{none_there}
use Rattle.rep_log.specs.Logs.{Whole, IsFolded, all_in_log, known_on, stamp_on, whole_of, IsKeptIn}
use Rattle.rep_log.specs.Mail.{weave}
use Rattle.rep_log.specs.Origins.{ranges_in, ranges_on}
use Rattle.rep_entry.specs.Entries.{messages, whole_after, base_of, left_on}
use Rattle.rep_entry.proofs.Changes.{session_skipped, none_covered}
use Rattle.rep_entry.proofs.One.{session_step}
use Rattle.rep_entry.proofs.Owning.{changes_kept}
use Rattle.rep_entry.proofs.fresh.Fresh.note_session.Goals as goal

pub returns-then-is_known : goal.returns-then-is_known
returns-then-is_known c =
    λ client fresh own.
    let f = c.args.self.now in
    let e = c.args.entry.now in
    let rs = ranges_on (ranges_in e.acks) f.acks in
    let ps = weave e.seen.pending (messages f.news) in
    let there : is_some (find operation_cmp c.args.name (known_on e.known f.log)) ≡ true = sym c.is_known.ensures ∙ c.if-is_known.true in (
      fresh,
      session_skipped client (known_on e.known f.log) (stamp_on e.seen.stamp f.log) fresh.folded.visible fresh.folded.none_below c.args.name.0 c.args.name.1 c.args.change.now (left_on (base_of e) (messages f.news) f.acks) rs there (none_covered rs ps),
    )

pub note-noted-requires-clause-folded : goal.note-noted-requires-clause-folded
note-noted-requires-clause-folded c =
    let e = c.args.entry.now in
    let is : whole_of e.known c.in-Ok.log ≡ whole_after e c.args.self.now.log = c.in-Ok.ensures ∙ ap (whole_after e) c.take.ensures.value in
    subst IsFolded (sym is) c.requires.1.folded

pub note-noted-requires-clause-ordered : goal.note-noted-requires-clause-ordered
note-noted-requires-clause-ordered c =
    let e = c.args.entry.now in
    let is : whole_of e.known c.in-Ok.log ≡ whole_after e c.args.self.now.log = c.in-Ok.ensures ∙ ap (whole_after e) c.take.ensures.value in
    subst (λ (w : Whole). T (is_sorted operation_cmp w.known)) (sym is) c.requires.1.ordered

pub note-noted-requires-clause-fresh : goal.note-noted-requires-clause-fresh
note-noted-requires-clause-fresh c =
    let e = c.args.entry.now in
    let is : whole_of e.known c.in-Ok.log ≡ whole_after e c.args.self.now.log = c.in-Ok.ensures ∙ ap (whole_after e) c.take.ensures.value in
    ap (λ (w : Whole). find operation_cmp c.args.name w.known) is
    ∙ none_there (find operation_cmp c.args.name (known_on e.known c.args.self.now.log)) (sym c.is_known.ensures ∙ c.if-is_known.false)

pub returns-in_ok-noted-in-Ok : goal.returns-in_ok-noted-in-Ok
returns-in_ok-noted-in-Ok c =
    λ client fresh own.
    let f = c.args.self.now in
    let e = c.args.entry.now in
    let es = known_on e.known f.log in
    let s = c.args.name.0 in
    let k = c.args.name.1 in
    let x = c.args.change.now in
    let log = c.note-noted.new.self in
    let more = all_in_log e.known log in
    let rs = ranges_on (ranges_in e.acks) f.acks in
    let ps = weave e.seen.pending (messages f.news) in
    let is : whole_of e.known c.in-Ok.log ≡ whole_after e f.log = c.in-Ok.ensures ∙ ap (whole_after e) c.take.ensures.value in
    let absent : find operation_cmp (s, k) es ≡ None = none_there (find operation_cmp (s, k) es) (sym c.is_known.ensures ∙ c.if-is_known.false) in
    let kept : IsKeptIn (((s, k), x) ∷ es) more log.stamp =
    subst (λ (w : Whole). IsKeptIn (((s, k), x) ∷ w.known) more log.stamp) is (subst (λ y. IsKeptIn (((s, k), y) ∷ all_in_log e.known c.in-Ok.log) more log.stamp) c.in_ok-change.ensures c.in_ok-noted-in-Ok.ensures.kept) in
    let ordered = c.in_ok-noted-in-Ok.ensures.ordered in
    rw c.replace.ensures.after (
      record {
        entry_is = fresh.entry_is;
        folded = c.in_ok-noted-in-Ok.ensures.folded;
        ordered = ordered;
        changes = changes_kept (((s, k), x) ∷ es) more log.stamp kept ordered (own, fresh.changes);
        sorted = fresh.sorted;
        under = fresh.under;
        made = fresh.made;
        apart = fresh.apart;
        origins = fresh.origins;
        none_comes = fresh.none_comes;
        waits = fresh.waits;
        comes = fresh.comes;
      },
      session_step client s k x es more log.stamp (left_on (base_of e) (messages f.news) f.acks) rs kept absent (none_covered rs ps),
    )
