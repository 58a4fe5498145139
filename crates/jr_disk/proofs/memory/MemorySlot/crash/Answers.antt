use Rattle.std.proofs.Common.{arith}
use Rattle.jr_disk.proofs.Halves.{crash_split}
use Rattle.jr_disk.proofs.memory.MemorySlot.crash.Goals as goal

pub returns : goal.returns
returns c =
    let s = c.self.inside in
    rw (← c.self.view_is)
    (crash_split s.synced c.args.kept c.least-kept.result c.len-self-inside.result s.bytes.items c.truncate.new.self.items c.self.invariant c.truncate.ensures.items
    (omega (arith, c.truncate.new.self.ok.0)) (λ low. omega (arith, s.bytes.ok.0)) (λ high. omega (arith, s.bytes.ok.0)))
