use Rattle.std.proofs.Common.{◌≡◌, take}
use Rattle.gw_script.proofs.script.copy_entries.Given as goal

abbrev pub invariant-loop-id : goal.invariant-loop-id
invariant-loop-id l = l.made.items ≡ take l.id-index l.entries
