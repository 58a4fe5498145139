use Rattle.std.proofs.Common.{arith}
use Rattle.jr_disk.proofs.Halves.{cut_split}
use Rattle.file_disk.proofs.memory.MemoryOctets.cut.Goals as goal

pub returns : goal.returns
returns c =
    let s = c.self.inside in
    rw (← c.self.view_is)
    (cut_split s.synced c.args.len c.least-self-inside.result s.bytes.items c.truncate.new.self.items c.self.invariant c.truncate.ensures.items
    (λ low. omega (arith, c.truncate.new.self.ok.0)) (λ high. omega (arith, c.truncate.new.self.ok.0)))
