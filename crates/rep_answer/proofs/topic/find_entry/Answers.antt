use Rattle.std.proofs.Common.{◌∙◌, sym, ap, Some}
use Rattle.rep_answer.proofs.Finding.{topic_found, topic_absent}
use Rattle.rep_answer.proofs.topic.find_entry.Goals as goal

pub returns-in-Ok : goal.returns-in-Ok
returns-in-Ok c = topic_found c.args.entries.now c.in-Ok.at c.args.topic.now c.index-entries-at.result c.in-Ok.ensures.1 ∙ ap Some (sym c.index-entries-at.is)

pub returns-in-Err : goal.returns-in-Err
returns-in-Err c = topic_absent c.args.entries.now c.in-Err.field-0 c.args.topic.now c.in-Err.ensures.1
