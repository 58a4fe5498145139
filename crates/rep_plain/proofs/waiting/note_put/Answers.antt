use Rattle.std.proofs.Common.{◌≡◌, false, sym, ap, ◌∙◌, rules}
use Rattle.std.specs.List.{list_any}
use Rattle.std.specs.BTreeMap.{insert_entry}
use Rattle.rep_op.specs.Orders.{put_cmp}
use Rattle.rep_plain.specs.inner.Steps.{range_has}
use Rattle.rep_plain.proofs.Entering.{entered_put}
use Rattle.rep_plain.proofs.waiting.note_put.Goals as goal

pub returns-in_ok-insert-in-Put : goal.returns-in_ok-insert-in-Put
returns-in_ok-insert-in-Put c =
    let free : list_any (range_has (c.in-Put.put.seq, c.in-Put.put.origin)) c.args.ranges.now ≡ false = search rules in
    λ S h. c.in_ok-insert-in-Put.ensures.entries
    ∙ ap (λ v. insert_entry put_cmp c.args.by_name.now.entries (c.in-Put.put.seq, c.in-Put.put.origin) v) c.in_ok-copied-in-Put.ensures
    ∙ entered_put c.args.client.now c.in-Put.owner c.in-Put.put c.args.op.now c.args.ranges.now S c.args.by_name.now.entries c.in-Put.is (sym c.eq.ensures ∙ c.if-eq.true) free h
