-- The fault is told.
use Rattle.jr_disk.specs.Disk.{image}
use Rattle.jr_journal.specs.Faults.{fault_of}
use Rattle.jr_read.proofs.reading.open.Goals as goal

pub returns-clause-fault : goal.returns-clause-fault
returns-clause-fault c = c.told.ensures (fault_of c.args.gateway (image c.args.disk.slots)) (c.in-Err.ensures.fault tt)
