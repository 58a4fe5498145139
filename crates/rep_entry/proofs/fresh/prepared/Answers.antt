use Rattle.std.proofs.Common.{◌≡◌, ◌+◌, ◌==◌, ◌≤◌, false, length, vec_capacity, List, filter, subst}
use Rattle.rep_op.specs.declared.op.Put.{Put}
use Rattle.rep_log.specs.Mail.{Rising, is_uncovered, weave}
use Rattle.rep_log.specs.Origins.{ranges_in}
use Rattle.rep_entry.specs.Spans.{AreFreeOutside}
use Rattle.rep_entry.proofs.fresh.prepared.Goals as goal

pub returns-clause-room : goal.returns-clause-room
returns-clause-room c =
    let news = c.args.news.now in
    subst (λ (ps : List Put). (length news == 0) ≡ false → length ps + length news ≤ vec_capacity c.in_ok-room.room) c.as_slice-waiting.ensures c.in_ok-room.ensures.room

pub returns-clause-pending : goal.returns-clause-pending
returns-clause-pending c =
    let news = c.args.news.now in
    let span = c.args.span in
    let rs = ranges_in c.args.acks.now in
    subst (λ (ps : List Put). Rising ps → Rising news → AreFreeOutside span rs ps → AreFreeOutside span rs news → c.in_ok-pending.pending ≡ length (filter (is_uncovered rs) (weave ps news)))
    c.as_slice-waiting.ensures c.in_ok-pending.ensures
