use Rattle.std.proofs.Common.{◌≡◌, take}
use Rattle.rep_model.proofs.view.Puts.copied.Given as goal

abbrev pub invariant-loop-put : goal.invariant-loop-put
invariant-loop-put l = l.items.items ≡ take l.put-index l.put-items
