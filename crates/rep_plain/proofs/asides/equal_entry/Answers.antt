use Rattle.std.proofs.Common.{refl, ◌∙◌}
use Rattle.rep_plain.proofs.Backs.{entry_again}
use Rattle.rep_plain.proofs.asides.equal_entry.Goals as goal

pub returns-clause-ops : goal.returns-clause-ops
returns-clause-ops c = c.in_ok-ops.ensures ∙ c.as_slice.ensures.value

pub returns-clause-entry : goal.returns-clause-entry
returns-clause-entry c = λ k h. entry_again k c.args.held.now _ (c.in_ok-ops.ensures ∙ c.as_slice.ensures.value) c.in_ok-seen.ensures refl refl h
