use Rattle.std.proofs.Common.{ℕ, ◌<◌, List, set, sym, ap, subst, ◌∙◌}
use Rattle.rep_op.specs.declared.op.Retained.{Retained}
use Rattle.rep_retain.specs.Tables.{IsTopicTable}
use Rattle.rep_retain.specs.Staging.{topics_moved}
use Rattle.rep_retain.proofs.Staging.{ready_entry}
use Rattle.rep_retain.proofs.table.Topics.commit.Goals as goal

pub set_at-requires : goal.set_at-requires
set_at-requires c =
    let ready = ready_entry c.self.inside.entries.items c.args.self.now c.args.staged c.in-Entry.at c.in-Entry.entry c.self.view_is c.in-Entry.is c.requires in
    subst (λ (n : ℕ). c.in-Entry.at < n) (sym c.self.inside.entries.ok.0) ready.0

pub invariant_of-self : goal.invariant_of-self
invariant_of-self c =
    let ready = ready_entry c.self.inside.entries.items c.args.self.now c.args.staged c.in-Entry.at c.in-Entry.entry c.self.view_is c.in-Entry.is c.requires in
    subst IsTopicTable (sym c.set_at.ensures) ready.1

pub returns-in-Entry : goal.returns-in-Entry
returns-in-Entry c =
    c.set_at.ensures
    ∙ ap (λ (es : List (List ℕ × Retained)). set es c.in-Entry.at c.in-Entry.entry) c.self.view_is
    ∙ ap (topics_moved c.args.self.now) (sym c.in-Entry.is)
