use Rattle.std.proofs.Common.{refl, ◌∙◌}
use Rattle.std.proofs.Common.{None}
use Rattle.rep_plain.proofs.Workings.{nothing_worked_out}
use Rattle.rep_plain.proofs.entry.Entry.empty.Goals as goal

pub returns-clause-worked_out : goal.returns-clause-worked_out
returns-clause-worked_out c =
    λ client. nothing_worked_out client _ c.new.ensures.items (λ i. record { stamp = None; prefix = 0; session = None; pending = (c.new-3.ensures ∙ c.new-2.ensures.items) i }) refl refl
