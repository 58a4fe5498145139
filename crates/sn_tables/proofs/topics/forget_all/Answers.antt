use Rattle.std.proofs.Common.{◌≡◌, ◌<◌, ◌≤◌, ◌∙◌, length, add-one}
use Rattle.std.proofs.lemmas.List.{with_items_is}
use Rattle.sn_tables.proofs.Unknown.{unknown_next, all_unknown}
use Rattle.sn_tables.proofs.topics.forget_all.Goals as goal

pub loop-entry-preserved : goal.loop-entry-preserved
loop-entry-preserved c =
    let items = c.deref_mut-entry-items.ensures.value in
    let within : c.loop-entry.entry-index < length c.args.entries.now.items = rw items at c.loop-entry-test.true in
    rw (c.loop-entry.invariant, add-one) (unknown_next c.args.entries.now.items c.loop-entry.entry-index c.entry-item.result within)

pub returns : goal.returns
returns c =
    let items = c.deref_mut-entry-items.ensures.value in
    let past : length c.args.entries.now.items ≤ c.loop-entry.entry-index = rw items at c.loop-entry-test.false in
    let same : length c.loop-entry.entry-items ≡ c.args.entries.now.len = c.loop-entry.auto.entry-items ∙ c.deref_mut-entry-items.ensures.len in
    with_items_is c.args.entries.now c.loop-entry.entry-items same ∙ c.loop-entry.invariant ∙ all_unknown c.args.entries.now.items c.loop-entry.entry-index past
