-- The parts of a node.
use Rattle.std.specs.Prelude.{◌≡◌, ℕ, Bool, List}
use Rattle.rep_op.specs.declared.op.Op.{Op}
use Rattle.rep_model.specs.declared.replica.Replica.{Ghosts as Promises}
use Rattle.sn_local.specs.declared.config.Config.{Config}
use Rattle.sn_local.specs.Locals.{Local}
use Rattle.jr_disk.specs.declared.disk.Disk.{Ghosts}
use Rattle.jr_journal.specs.declared.journal.Journal.{Journal}
use Rattle.jr_journal.specs.Parts.{disk_under, gateway_of, slot_of, generation_of, is_stopped}
use Rattle.gw_node.specs.declared.node.Node.{Node}

-- what a node is: its settings, what its replica keeps, what else it knows, its journal, and how
-- many records it read when it was last opened
pub record State {D : Type 0} (G : Ghosts D) : Type 0 where
  pub config : Config
  pub kept : List Op
  pub local : Local
  pub journal : Journal D G
  pub records : ℕ

-- the parts of a node as contracts see them, with what its replica keeps
abbrev pub state_of : {R Z D : Type 0} {P : Promises R Z} {G : Ghosts D} → (R → List Op)
    → Node R D Z P G → State G
state_of kept node =
    record {
      config = node.config;
      kept = kept node.replica;
      local = node.dialogs.local;
      journal = node.journal;
      records = node.records;
    }

-- how many records a node read when it was last opened
abbrev pub records_of : {R Z D : Type 0} {P : Promises R Z} {G : Ghosts D} → Node R D Z P G → ℕ
records_of node = node.records

-- the disk that a node's journal is on
abbrev pub disk_of : {R Z D : Type 0} {P : Promises R Z} {G : Ghosts D} → Node R D Z P G → D
disk_of node = disk_under node.journal

-- whether a node's journal is halted: a write has failed since it was opened, or a try to open it
-- again
abbrev pub is_halted : {D : Type 0} {G : Ghosts D} → State G → Bool
is_halted state = is_stopped state.journal

-- a journal is as it was
pub record IsUntouched {D : Type 0} {G : Ghosts D} (old new : Journal D G) : Type 0 where
  pub gateway : gateway_of new ≡ gateway_of old
  pub slot : slot_of new ≡ slot_of old
  pub generation : generation_of new ≡ generation_of old
  pub halted : is_stopped new ≡ is_stopped old
  pub disk : disk_under new ≡ disk_under old

-- a node is as it was
pub record IsUnchanged {D : Type 0} {G : Ghosts D} (old new : State G) : Type 0 where
  pub config : new.config ≡ old.config
  pub kept : new.kept ≡ old.kept
  pub local : new.local ≡ old.local
  pub journal : IsUntouched old.journal new.journal
  pub records : new.records ≡ old.records
