use Rattle.std.proofs.Common.{◌≡◌, ◌++◌, map, take}
use Rattle.rep_op.specs.Orders.{name_of}
use Rattle.sn_plan.proofs.draft.extend_names.Given as goal

abbrev pub invariant-loop-put : goal.invariant-loop-put
invariant-loop-put l = l.names.items ≡ l.fn.names.items ++ map name_of (take l.put-index l.puts)
