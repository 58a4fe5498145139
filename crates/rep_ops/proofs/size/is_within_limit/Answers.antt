use Rattle.std.proofs.Common.{◌≤◌, length, subst}
use Rattle.std.specs.Prelude.{IsTrue, ◌↔◌}
use Rattle.rep_ops.specs.Spelling.{spelled_in, max_octets}
use Rattle.rep_ops.proofs.size.is_within_limit.Goals as goal

pub returns : goal.returns
returns c = subst (λ v. IsTrue c.is_within.result ↔ (length (spelled_in v c.args.ops.now) ≤ max_octets)) c.version_of.ensures c.is_within.ensures
