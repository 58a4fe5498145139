use Rattle.std.proofs.Common.{◌≡◌, drop, fold}
use Rattle.sn_topic.specs.Table.{ids_of, least, lesser}
use Rattle.sn_topic.proofs.predefined.Predefined.id.Given as goal

-- what is known so far, with the entries that are left
abbrev pub invariant-loop-id : goal.invariant-loop-id
invariant-loop-id l = fold lesser l.least (ids_of l.name (drop l.id-index l.id-items)) ≡ least (ids_of l.name l.id-items)
