-- What the write of several records comes to, from the clauses of the journal.
use Rattle.std.proofs.Common.{◌≡◌, ◌≤◌, ◌<◌, ◌++◌, true, false, true≢false, List, None, Result, Ok, Err, refl, sym, ◌∙◌}
use Rattle.std.specs.Prelude.{◌↔◌, IfErr, OnOk, IsErrOf}
use Rattle.rep_op.specs.declared.op.Op.{Op}
use Rattle.jr_disk.specs.declared.disk.Disk.{Ghosts}
use Rattle.jr_disk.specs.Disk.{image}
use Rattle.jr_journal.specs.declared.fault.JournalFault.{JournalFault}
use Rattle.jr_journal.specs.declared.fault.JournalFault.TheVariants as faults
use Rattle.jr_journal.specs.declared.journal.Journal.{Journal}
use Rattle.jr_journal.specs.Arranged.{after_append, IsStruck, AppendedAs}
use Rattle.jr_journal.specs.Crashes.{Leaves, LeavesSome}
use Rattle.jr_journal.specs.Journals.{IsWriteFault}
use Rattle.jr_journal.specs.Parts.{disk_under, gateway_of, slot_of, generation_of, is_stopped}
use Rattle.jr_journal.specs.Records.{written_all, records}
use Rattle.gw_node.specs.inner.Rows.{AreFailed, WrittenAllAs}

-- the clauses of such a write
pub record IsAppended {D : Type 0} {G : Ghosts D} (old new : Journal D G) (deltas : List (List Op)) (result : Result (Unit {0}) JournalFault) : Type 0 where
  pub halted : IsErrOf result faults.Halted ↔ (is_stopped old ≡ true)
  pub same : (gateway_of new ≡ gateway_of old) × (slot_of new ≡ slot_of old)
  pub generation : generation_of new ≡ generation_of old
  pub fault : IfErr result IsWriteFault
  pub goes_on : OnOk result (is_stopped new ≡ false)
  pub halts : IsErrOf result faults.Disk → is_stopped new ≡ true
  pub counts : G.failures (disk_under old) ≤ G.failures (disk_under new)
  pub cause : IsErrOf result faults.Disk → G.failures (disk_under old) < G.failures (disk_under new)
  pub exact : G.honest → OnOk result (G.slots (disk_under new) ≡ after_append None (G.slots (disk_under old)) (slot_of old) (written_all deltas))
  pub durable : G.honest → OnOk result (Leaves (gateway_of old) (G.slots (disk_under new)) (records (gateway_of old) (image (G.slots (disk_under old))) ++ deltas))
  pub torn : G.honest → IsErrOf result faults.Disk → LeavesSome (gateway_of old) (G.slots (disk_under new)) (records (gateway_of old) (image (G.slots (disk_under old)))) deltas
  pub struck : IsErrOf result faults.Disk → IsStruck G.honest (G.slots (disk_under old)) (slot_of old) (written_all deltas) (G.slots (disk_under new))
  pub known : G.honest → G.starved (disk_under new) ≡ false → AppendedAs (G.outlook (disk_under old)) (G.slots (disk_under old)) (slot_of old) (written_all deltas) result (G.slots (disk_under new)) (G.outlook (disk_under new))

pub written_all_as : {D : Type 0} {G : Ghosts D} (old new : Journal D G) (deltas : List (List Op)) (result : Result (Unit {0}) JournalFault) → is_stopped old ≡ false → IsAppended old new deltas result → WrittenAllAs old deltas result new
written_all_as old new deltas (Ok done) runs h = record {
  gateway = h.same.0;
  slot = h.same.1;
  generation = h.generation;
  goes_on = h.goes_on;
  failures = h.counts;
  exact = h.exact;
  durable = h.durable;
  known = h.known;
}
written_all_as old new deltas (Err faults.Disk) runs h = record {
  gateway = h.same.0;
  slot = h.same.1;
  generation = h.generation;
  halts = h.halts refl;
  cause = h.cause refl;
  struck = h.struck refl;
  torn = λ honest. h.torn honest refl;
  known = h.known;
}
written_all_as old new deltas (Err faults.Halted) runs h = absurd (true≢false (sym (h.halted.0 refl) ∙ runs))
written_all_as old new deltas (Err faults.Memory) runs h = absurd h.fault
written_all_as old new deltas (Err faults.Foreign) runs h = absurd h.fault
written_all_as old new deltas (Err (faults.BadRecord slot at)) runs h = absurd h.fault

-- an error is that of the disk
pub failed_only : {D : Type 0} {G : Ghosts D} (old new : Journal D G) (deltas : List (List Op)) (fault : JournalFault) → WrittenAllAs old deltas (Err fault) new → AreFailed old deltas new
failed_only old new deltas faults.Disk h = h
failed_only old new deltas faults.Halted h = absurd h
failed_only old new deltas faults.Memory h = absurd h
failed_only old new deltas faults.Foreign h = absurd h
failed_only old new deltas (faults.BadRecord slot at) h = absurd h
