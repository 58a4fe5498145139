use Rattle.std.proofs.Common.{◌≡◌, ◌-◌, ◌≤◌, take, length}
use Rattle.file_disk.specs.Files.{file_grown}
use Rattle.file_disk.proofs.cutting.write_front.Given as goal

abbrev pub invariant-loop-written : goal.invariant-loop-written
invariant-loop-written g l = (l.written ≤ length l.bytes) × (g.F.SlotFile.honest → g.F.SlotFile.state l.file ≡ file_grown (g.F.SlotFile.state l.fn.file) (take l.written l.bytes))

abbrev pub decreases-loop-written : goal.decreases-loop-written
decreases-loop-written g l = length l.bytes - l.written
