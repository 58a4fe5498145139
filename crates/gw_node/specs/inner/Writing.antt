-- What became of a journal that had a delta to write.
use Rattle.std.specs.Prelude.{◌≡◌, true, false, List, [], ◌∷◌, Option, Some, None, Result, Ok, Err}
use Rattle.rep_op.specs.declared.op.Op.{Op}
use Rattle.jr_disk.specs.declared.disk.Disk.{Ghosts}
use Rattle.jr_journal.specs.declared.fault.JournalFault.{JournalFault}
use Rattle.jr_journal.specs.declared.fault.JournalFault.TheVariants as faults
use Rattle.jr_journal.specs.declared.journal.Journal.{Journal}
use Rattle.jr_disk.specs.Disk.{at}
use Rattle.jr_journal.specs.Journals.{last_generation}
use Rattle.jr_journal.specs.Parts.{generation_of, is_stopped}
use Rattle.gw_answer.specs.declared.out.Out.{Out}
use Rattle.gw_answer.specs.declared.refusal.Refusal.{Refusal}
use Rattle.gw_answer.specs.declared.refusal.Refusal.TheVariants as refusals
use Rattle.gw_node.specs.Parts.{IsUntouched}
use Rattle.gw_node.specs.Writing.{IsWritten, IsFailed, HasReadGeneration, IsRewritten, IsNotRewritten}

-- what became of the journal, by the answer of the write; it is never Foreign or BadRecord
abbrev pub WrittenAs : {D : Type 0} {G : Ghosts D} → Journal D G → List Op
    → Result (Unit {0}) JournalFault → Journal D G → Type 0
WrittenAs old delta (Ok done) new = IsWritten old delta new
WrittenAs old delta (Err faults.Disk) new = IsFailed old delta new
WrittenAs old delta (Err faults.Halted) new = (is_stopped old ≡ true) × IsUntouched old new
WrittenAs old delta (Err faults.Memory) new = IsUntouched old new
WrittenAs old delta (Err faults.Foreign) new = ⊥
WrittenAs old delta (Err (faults.BadRecord slot at)) new = ⊥

-- a delta is written, if there is one
abbrev pub WrittenIfMade : {D : Type 0} {G : Ghosts D} → Journal D G → Option (List Op)
    → Result (Unit {0}) JournalFault → Journal D G → Type 0
WrittenIfMade old None (Ok done) new = IsUntouched old new
WrittenIfMade old None (Err fault) new = ⊥
WrittenIfMade old (Some delta) result new = WrittenAs old delta result new

-- a delta is written, if it has operations
abbrev pub WrittenIfAny : {D : Type 0} {G : Ghosts D} → Journal D G → List Op
    → Result (Unit {0}) JournalFault → Journal D G → Type 0
WrittenIfAny old [] (Ok done) new = IsUntouched old new
WrittenIfAny old [] (Err fault) new = ⊥
WrittenIfAny old (op ∷ ops) result new = WrittenAs old (op ∷ ops) result new

-- what became of a journal that was to be rewritten
abbrev pub RewrittenAs : {D : Type 0} {G : Ghosts D} → Journal D G → List (List Op)
    → Result (Unit {0}) JournalFault → Journal D G → Type 0
RewrittenAs old base (Ok done) new = IsRewritten old base new
RewrittenAs old base (Err faults.Disk) new = IsNotRewritten old base new
RewrittenAs old base (Err faults.Halted) new = (is_stopped old ≡ true) × IsUntouched old new
RewrittenAs old base (Err faults.Foreign) new =
    (is_stopped old ≡ false) × (generation_of old ≡ last_generation) × HasReadGeneration old
    × IsUntouched old new
RewrittenAs old base (Err faults.Memory) new = IsUntouched old new
RewrittenAs old base (Err (faults.BadRecord slot at)) new = ⊥

-- a refusal of the journal, with what is answered
abbrev pub refusal_of_journal : JournalFault → Out → Refusal
refusal_of_journal faults.Disk excuse = refusals.Disk excuse
refusal_of_journal faults.Halted excuse = refusals.Halted
refusal_of_journal faults.Memory excuse = refusals.Memory
refusal_of_journal faults.Foreign excuse = refusals.Journal faults.Foreign
refusal_of_journal (faults.BadRecord slot at) excuse = refusals.Journal (faults.BadRecord slot at)
