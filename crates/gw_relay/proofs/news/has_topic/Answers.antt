use Rattle.std.proofs.Common.{◌∙◌, sym, ap}
use Rattle.rep_op.specs.Orders.{clock_of}
use Rattle.rep_digest.specs.declared.entry.RetainedEntry.{RetainedEntry}
use Rattle.gw_relay.specs.News.{entry_is_as_late}
use Rattle.gw_relay.proofs.Covering.{found, absent}
use Rattle.gw_relay.proofs.news.has_topic.Goals as goal

pub returns-in-Ok : goal.returns-in-Ok
returns-in-Ok c =
    let k = c.args.retained.now in
    c.entry_is_as_late.ensures
    ∙ ap (λ (e : RetainedEntry). entry_is_as_late e (clock_of k)) c.index-entries-at.is
    ∙ sym (found c.args.topic.now k c.args.entries.now c.in-Ok.at c.index-entries-at.result c.in-Ok.ensures.1)

pub returns-in-Err : goal.returns-in-Err
returns-in-Err c = sym (absent c.args.topic.now c.args.retained.now c.args.entries.now c.in-Err.field-0 c.in-Err.ensures.1)
