use Rattle.std.proofs.Common.{◌≡◌, ◌++◌, take, map}
use Rattle.gw_shift.specs.Tallies.{sample_of}
use Rattle.gw_shift.proofs.tallying.push_kind.Given as goal

-- a sample for each answer so far
abbrev pub invariant-loop-answer : goal.invariant-loop-answer
invariant-loop-answer l =
    l.samples.items ≡ l.fn.samples.items ++ map (sample_of l.history l.kind) (take l.answer-index l.answers)
