use Rattle.std.proofs.Common.{ap, ◌∙◌}
use Rattle.std.specs.List.{insert}
use Rattle.rep_retain.proofs.Placing.{insert_is}
use Rattle.rep_retain.proofs.table.put_new.Goals as goal

pub returns : goal.returns
returns c =
    let es = c.args.entries.now.items in
    c.in_ok-insert.ensures.items ∙ ap (λ e. insert es c.args.at e) c.in_ok-entry.ensures ∙ insert_is c.args.topic.now c.args.kept.now es c.args.at c.requires.gap
