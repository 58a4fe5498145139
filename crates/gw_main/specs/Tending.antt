-- What becomes of a gateway that is tended between two shifts.
use Rattle.std.specs.Prelude.{◌≡◌, ◌⊎◌, true, false, List, [], ◌++◌, Ok, Err}
use Rattle.rep_op.specs.declared.op.Op.{Op}
use Rattle.rep_ops.specs.Splitting.{all_of}
use Rattle.jr_disk.specs.declared.disk.Disk.{Ghosts}
use Rattle.jr_journal.specs.declared.fault.JournalFault.TheVariants as journal
use Rattle.gw_answer.specs.declared.out.Out.{Out}
use Rattle.gw_answer.specs.declared.refusal.Refusal.{Refusal}
use Rattle.gw_answer.specs.declared.refusal.Refusal.TheVariants as refusals
use Rattle.gw_node.specs.Parts.{State, is_halted}
use Rattle.gw_node.specs.Calls.{CompactCall}
use Rattle.gw_node.specs.Opening.{ReopenCall}
use Rattle.gw_node.specs.Taking.{on_disk, HasTaken}
use Rattle.gw_main.specs.declared.tending.Tended.{Tended}
use Rattle.gw_main.specs.declared.tending.Tended.TheVariants.{Kept, Starved, Reopened, Unwritten}

-- the journal is rewritten; or it stays as it is, because its generation is the last there is
abbrev pub CompactsIfMay : {D : Type 0} {G : Ghosts D} → State G → State G → Type 0
CompactsIfMay old new =
    ((out : Out) × CompactCall old (Ok out) new)
    ⊎ CompactCall old (Err (refusals.Journal journal.Foreign)) new

-- it stays as it is, because memory ran out
abbrev pub CompactsLater : {D : Type 0} {G : Ghosts D} → State G → State G → Type 0
CompactsLater old new = CompactCall old (Err refusals.Memory) new

-- the disk failed in that
abbrev pub CompactsNot : {D : Type 0} {G : Ghosts D} → State G → State G → Type 0
CompactsNot old new = (excuse : Out) × CompactCall old (Err (refusals.Disk excuse)) new

-- the gateway is opened again from its journal
abbrev pub OpensAnew : {D : Type 0} {G : Ghosts D} → State G → State G → Type 0
OpensAnew old new = (out : Out) × ReopenCall old (Ok out) new

-- A gateway that goes on is compacted. If the disk fails in that, the gateway is opened again.
abbrev pub TendingEndsAs : {D : Type 0} {G : Ghosts D} → State G → Tended → State G → Type 0
TendingEndsAs old Kept new = CompactsIfMay old new
TendingEndsAs old Starved new = CompactsLater old new
TendingEndsAs old Reopened new = ⊥
TendingEndsAs {G = G} old Unwritten new =
    (failed : State G) × CompactsNot old failed × OpensAnew failed new

-- and that is refused
abbrev pub EndsRefused : {D : Type 0} {G : Ghosts D} → State G → Refusal → State G → Type 0
EndsRefused {G = G} old refusal new = (failed : State G) × CompactsNot old failed
    × ReopenCall failed (Err refusal) new

-- a gateway that is halted is opened again, and then ends so
abbrev pub EndsOpened : {D : Type 0} {G : Ghosts D} → State G → Tended → State G → Type 0
EndsOpened {G = G} old tended new =
    (is_halted old ≡ true)
    × ((opened : State G) × OpensAnew old opened × TendingEndsAs opened tended new)

-- A gateway that goes on is compacted. One that is halted is opened again first.
abbrev pub IsTended : {D : Type 0} {G : Ghosts D} → State G → Tended → State G → Type 0
IsTended old Kept new = (is_halted old ≡ false) × TendingEndsAs old Kept new
IsTended old Starved new = (is_halted old ≡ false) × TendingEndsAs old Starved new
IsTended old Reopened new = EndsOpened old Kept new ⊎ EndsOpened old Starved new
IsTended old Unwritten new =
    ((is_halted old ≡ false) × TendingEndsAs old Unwritten new) ⊎ EndsOpened old Unwritten new

-- it could not be opened again, before the compaction or after it
abbrev pub IsNotOpened : {D : Type 0} {G : Ghosts D} → State G → Refusal → State G → Type 0
IsNotOpened {G = G} old refusal new =
    ((is_halted old ≡ false) × EndsRefused old refusal new)
    ⊎ ((is_halted old ≡ true)
    × (ReopenCall old (Err refusal) new
    ⊎ ((opened : State G) × OpensAnew old opened × EndsRefused opened refusal new)))

-- Whatever set it had taken, with nothing refused, it still has taken. If a delta was refused, that
-- is so too; or what its journal held is taken as well, and nothing is refused from then on.
pub record TakesOn {D : Type 0} {G : Ghosts D} (old new : State G) : Type 0 where
  pub itself : (S : List Op) → HasTaken S [] old → HasTaken S [] new
  pub with_read : (S : List Op) (refused : List (List Op)) → HasTaken S refused old
      → HasTaken S refused new ⊎ HasTaken (S ++ all_of (on_disk old)) [] new
