use Rattle.std.proofs.Common.{◌≡◌, ◌++◌, take, flat_map}
use Rattle.gw_shift.specs.Tallies.{samples_of_kind}
use Rattle.gw_shift.proofs.tallying.push_kinds.Given as goal

-- the samples of each kind so far
abbrev pub invariant-loop-kind : goal.invariant-loop-kind
invariant-loop-kind l =
    l.samples.items ≡ l.fn.samples.items ++ flat_map (samples_of_kind l.history l.answers) (take l.kind-index l.kinds)
