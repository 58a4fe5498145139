use Rattle.std.proofs.Common.{◌≡◌, ◌<◌, fold, drop}
use Rattle.rep_entry.specs.Interests.{mixed_with}
use Rattle.rep_entry.proofs.interest.mark_of.Given as goal

abbrev pub invariant-loop-octet : goal.invariant-loop-octet
invariant-loop-octet l = (fold mixed_with l.mixed (drop l.octet-index l.octets) ≡ fold mixed_with 2166136261 l.octets) × (l.mixed < 4294967296)
