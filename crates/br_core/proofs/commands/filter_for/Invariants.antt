use Rattle.std.proofs.Common.{◌≡◌, drop}
use Rattle.br_core.specs.Commands.{filter_for}
use Rattle.br_core.proofs.commands.filter_for.Given as goal

abbrev pub invariant-loop-entry : goal.invariant-loop-entry
invariant-loop-entry l = filter_for l.topic (drop l.entry-index l.downs) ≡ filter_for l.topic l.downs
