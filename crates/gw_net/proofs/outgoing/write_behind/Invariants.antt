use Rattle.std.proofs.Common.{ℕ, ◌-◌, ◌≤◌, take, length}
use Rattle.std.specs.Io.KnownBytes.{Appends}
use Rattle.gw_net.proofs.outgoing.write_behind.Given as goal

abbrev pub invariant-loop-written : goal.invariant-loop-written
invariant-loop-written g l = (l.written ≤ length l.octets) × Appends (g.W.Write.contents l.fn.writer) (g.W.Write.contents l.writer) (take l.written l.octets)

abbrev pub decreases-loop-written : goal.decreases-loop-written
decreases-loop-written g l = length l.octets - l.written
