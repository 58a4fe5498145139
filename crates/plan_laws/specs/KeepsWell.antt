-- What holds of a gateway in every run, and what its plans are made from.
use Rattle.std.specs.Prelude.{ℕ, ◌≤◌, Bool, true, List, IsTrue}
use Rattle.std.specs.List.{AllByRecursion}
use Rattle.rep_op.specs.declared.op.Op.{Op}
use Rattle.rep_ops.specs.Making.{AreWellMade}
use Rattle.sn_tables.specs.Levels.{is_qos}
use Rattle.sn_local.specs.declared.local.Awaited.{Awaited}
use Rattle.sn_local.specs.declared.local.Awaited.TheVariants.{Topic, Message}
use Rattle.sn_local.specs.declared.local.WillDialog.{WillDialog}
use Rattle.sn_local.specs.Locals.{Local}
use Rattle.sn_plan.specs.Flush.{HaveNoGap}

-- whether the topic of a will that was given, if it was, has a quality of service of 0 to 2
abbrev pub is_asked : Awaited → Bool
is_asked Topic = true
is_asked (Message topic) = is_qos topic.qos

-- the topic of each will that a dialog was given has a quality of service of 0 to 2
abbrev pub AreAsked : List WillDialog → Type 0
AreAsked dialogs =
    AllByRecursion (λ (dialog : WillDialog). IsTrue (is_asked dialog.awaited)) dialogs

-- The gateway has a number from 1 on. What it has written itself reads back. What it has taken is
-- well made, and so are the topics of wills that it was given.
pub record KeepsWell (g : ℕ) (S : List Op) (local : Local) : Type 0 where
  pub numbered : 1 ≤ g
  pub flush : HaveNoGap g S
  pub made : AreWellMade S
  pub asked : AreAsked local.dialogs
