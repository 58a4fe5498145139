use Rattle.std.proofs.Common.{◌≡◌, take}
use Rattle.sn_topic.proofs.predefined.Predefined.copied.Given as goal

-- the first entries are copied
abbrev pub invariant-loop-id : goal.invariant-loop-id
invariant-loop-id l = l.entries.items ≡ take l.id-index l.id-items
