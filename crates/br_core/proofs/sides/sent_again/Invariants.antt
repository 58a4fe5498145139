use Rattle.std.proofs.Common.{◌≡◌, drop, fold}
use Rattle.br_core.specs.Sides.{out_again}
use Rattle.br_core.proofs.sides.sent_again.Given as goal

abbrev pub invariant-loop-f : goal.invariant-loop-f
invariant-loop-f l = fold out_again l.out (drop l.f-index l.flight) ≡ fold out_again l.fn.out l.flight
