use Rattle.std.proofs.Common.{◌≡◌, ◌<◌, ◌≤◌, ◌∙◌, length, add-one}
use Rattle.std.proofs.lemmas.List.{with_items_is}
use Rattle.gw_node.proofs.Each.{told_halted, each_next, each_done}
use Rattle.gw_node.proofs.row.halt_all.Goals as goal

pub loop-reply-preserved : goal.loop-reply-preserved
loop-reply-preserved c =
    let items = c.deref_mut-reply-items.ensures.value in
    let within : c.loop-reply.reply-index < length c.args.replies.now.items = rw items at c.loop-reply-test.true in
    rw (c.loop-reply.invariant, add-one) (each_next told_halted c.args.replies.now.items c.loop-reply.reply-index within)

pub returns : goal.returns
returns c =
    let items = c.deref_mut-reply-items.ensures.value in
    let past : length c.args.replies.now.items ≤ c.loop-reply.reply-index = rw items at c.loop-reply-test.false in
    let same : length c.loop-reply.reply-items ≡ c.args.replies.now.len = c.loop-reply.auto.reply-items ∙ c.deref_mut-reply-items.ensures.len in
    with_items_is c.args.replies.now c.loop-reply.reply-items same ∙ c.loop-reply.invariant ∙ each_done told_halted c.args.replies.now.items c.loop-reply.reply-index past
