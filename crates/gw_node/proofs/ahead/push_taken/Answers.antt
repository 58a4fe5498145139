use Rattle.std.proofs.Common.{◌≡◌, ◌++◌, List, OnOk, subst, sym, rules}
use Rattle.rep_op.specs.declared.op.Op.{Op}
use Rattle.gw_node.proofs.Unwritten.{none_written, one_written}
use Rattle.gw_node.proofs.ahead.push_taken.Goals as goal

pub returns-then-is_empty-clause-ok : goal.returns-then-is_empty-clause-ok
returns-then-is_empty-clause-ok c = none_written c.args.records.now c.args.delta.now (search rules)

pub returns-clause-ok : goal.returns-clause-ok
returns-clause-ok c =
    subst (λ (ds : List (List Op)). OnOk c.push.result (c.push.new.self ≡ c.args.records.now ++ ds)) (sym (one_written c.args.delta.now (search rules))) c.push.ensures.ok
