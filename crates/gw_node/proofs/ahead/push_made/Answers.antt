use Rattle.std.proofs.Common.{◌++◌, List, Option, sym, ap, ◌∙◌, append-nil}
use Rattle.std.specs.Option.{option_to_list}
use Rattle.rep_op.specs.declared.op.Op.{Op}
use Rattle.gw_node.proofs.ahead.push_made.Goals as goal

pub returns-in-None-clause-ok : goal.returns-in-None-clause-ok
returns-in-None-clause-ok c =
    sym (ap (λ (made : Option (List Op)). c.args.records.now ++ option_to_list made) c.in-None.is ∙ append-nil c.args.records.now)
