use Rattle.std.proofs.Common.{count_by, sym, ap, ◌∙◌}
use Rattle.std.specs.Map.{keys_of}
use Rattle.rep_shared.specs.Steps.{waits}
use Rattle.rep_log.proofs.Sorting.{wait_none}
use Rattle.rep_log.proofs.named_ops.count_waiting.Goals as goal

pub returns-in-None : goal.returns-in-None
returns-in-None c = sym (wait_none c.args.prefix c.args.ops.now) ∙ sym (ap (λ v. count_by (waits v c.args.prefix) (keys_of c.args.ops.now)) c.in-None.is)
