-- A failure is arranged on the disk of a node's journal.
use Rattle.std.specs.Prelude.{◌≡◌, ℕ, Bool}
use Rattle.jr_disk.specs.declared.disk.Disk.{Ghosts}
use Rattle.jr_disk.specs.Memory.{MemoryState, failing}
use Rattle.jr_journal.specs.Parts.{disk_under, gateway_of, slot_of, generation_of}
use Rattle.gw_node.specs.Parts.{State, is_halted}

-- the next append stops after so many bytes, or its sync fails; nothing else changes
pub record Arranges {G : Ghosts MemoryState} (bytes : ℕ) (sync : Bool)
    (old new : State G) : Type 0 where
  pub config : new.config ≡ old.config
  pub kept : new.kept ≡ old.kept
  pub local : new.local ≡ old.local
  pub records : new.records ≡ old.records
  pub gateway : gateway_of new.journal ≡ gateway_of old.journal
  pub slot : slot_of new.journal ≡ slot_of old.journal
  pub generation : generation_of new.journal ≡ generation_of old.journal
  pub halted : is_halted new ≡ is_halted old
  pub disk : disk_under new.journal ≡ failing bytes sync (disk_under old.journal)
