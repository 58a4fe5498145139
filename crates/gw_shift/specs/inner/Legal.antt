-- What a history is that the calls of one node left from a state that is known.
use Rattle.std.specs.Prelude.{◌≡◌, ◌≤◌, ◌+◌, List}
use Rattle.rep_op.specs.declared.op.Op.{Op}
use Rattle.rep_model.specs.Held.{IsHeld}
use Rattle.jr_disk.specs.declared.disk.Disk.{Ghosts}
use Rattle.jr_journal.specs.Parts.{disk_under}
use Rattle.gw_node.specs.Parts.{State}
use Rattle.gw_shift.specs.Calls.{Call}
use Rattle.gw_shift.specs.Legal.{Leads, calls_in, failed_in}

-- A legal history that begins at this state, which held the opening: nothing but its calls was done
-- since.
pub record IsLegalFrom {D : Type 0} {G : Ghosts D} (first : State G) (opening : List (List Op))
    (history : List Call) (state : State G) : Type 0 where
  pub opened : IsHeld first.kept opening
  pub parts : List (List Call)
  pub whole : calls_in parts ≡ history
  pub leads : Leads first parts state
  pub failures : G.failures (disk_under first.journal) + failed_in history
      ≤ G.failures (disk_under state.journal)
