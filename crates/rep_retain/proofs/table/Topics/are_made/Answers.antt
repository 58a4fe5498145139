use Rattle.std.proofs.Common.{subst}
use Rattle.rep_ops.specs.Making.{AreWellMade}
use Rattle.rep_retain.specs.Tables.{ops_of}
use Rattle.rep_retain.proofs.table.Topics.are_made.Goals as goal

pub returns : goal.returns
returns c = subst (λ es. AreWellMade (ops_of es)) c.self.view_is c.self.invariant.well_made
