use Rattle.std.proofs.Common.{◌≡◌, drop}
use Rattle.br_core.specs.Commands.{id_of}
use Rattle.br_core.proofs.commands.id_of.Given as goal

abbrev pub invariant-loop-entry : goal.invariant-loop-entry
invariant-loop-entry l = id_of l.topic (drop l.entry-index l.ids) ≡ id_of l.topic l.ids
