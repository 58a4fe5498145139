use Rattle.std.proofs.Common.{◌≡◌, [], take}
use Rattle.rep_digest.specs.inner.Steps.{groups}
use Rattle.rep_digest.proofs.groups.no_groups.Given as goal

abbrev pub invariant-loop : goal.invariant-loop
invariant-loop l = l.groups.items ≡ groups (take l.index l.clients) []
