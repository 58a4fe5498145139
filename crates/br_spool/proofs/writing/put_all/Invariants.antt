use Rattle.std.proofs.Common.{◌≡◌, ◌++◌, map, take}
use Rattle.br_spool.specs.Messages.{item_put}
use Rattle.br_spool.proofs.writing.put_all.Given as goal

abbrev pub invariant-loop-item : goal.invariant-loop-item
invariant-loop-item l = l.ops.items ≡ l.fn.ops.items ++ map item_put (take l.item-index l.items)
