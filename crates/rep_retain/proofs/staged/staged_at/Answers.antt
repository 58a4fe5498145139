use Rattle.std.proofs.Common.{sym, ◌∙◌}
use Rattle.rep_retain.proofs.Staging.{nothing_staged, entry_staged}
use Rattle.rep_retain.proofs.staged.staged_at.Goals as goal

pub returns-then-not-is_later : goal.returns-then-not-is_later
returns-then-not-is_later c =
    nothing_staged c.args.topic.now c.args.kept.now c.args.entries.now c.args.at c.index-entries-at.result c.requires.place
    (sym c.is_later.ensures ∙ c.if-not-is_later.true)

pub returns : goal.returns
returns c =
    entry_staged c.args.topic.now c.args.kept.now c.args.entries.now c.args.at c.index-entries-at.result c.requires.place
    c.requires.bound (sym c.is_later.ensures ∙ c.if-not-is_later.false) c.in_ok-entry.entry c.in_ok-entry.ensures
