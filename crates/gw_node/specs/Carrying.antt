-- Whatever set a node has taken before a call, which it has taken after it.
use Rattle.std.specs.Prelude.{ℕ, List, [], ◌∷◌, ◌++◌, Some, unwrap_or, Result, Ok, Err}
use Rattle.rep_op.specs.declared.op.Op.{Op}
use Rattle.rep_ops.specs.Making.{IsDeltaOf}
use Rattle.rep_ops.specs.Splitting.{all_of}
use Rattle.rep_model.specs.Taking.{AllAgree}
use Rattle.sn_plan.specs.declared.plan.Plan.{Plan}
use Rattle.jr_disk.specs.declared.disk.Disk.{Ghosts}
use Rattle.gw_answer.specs.declared.out.Out.{Out}
use Rattle.gw_answer.specs.declared.refusal.Refusal.{Refusal}
use Rattle.gw_answer.specs.declared.refusal.Refusal.TheVariants as refusals
use Rattle.gw_answer.specs.declared.step.Step.{Step}
use Rattle.gw_answer.specs.declared.step.Step.TheVariants as steps
use Rattle.gw_event.specs.Occasions.{Occasion, Datagram, Clock}
use Rattle.gw_node.specs.Parts.{State}
use Rattle.gw_node.specs.Plans.{IsPlanFor}
use Rattle.gw_node.specs.Taking.{on_disk, HasTaken}

-- the set that was taken before, with the delta, if the delta contradicts nothing of it
abbrev pub TakesMore : {D : Type 0} {G : Ghosts D} → State G → List Op → State G → Type 0
TakesMore old delta new =
    (S : List Op) → AllAgree S delta → HasTaken S [] old → HasTaken (S ++ delta) [] new

-- the set that was taken before; the delta was refused, and a crash may leave it all the same
abbrev pub TakesNoMore : {D : Type 0} {G : Ghosts D} → State G → List Op → State G → Type 0
TakesNoMore old delta new =
    (S : List Op) → AllAgree S delta → HasTaken S [] old → HasTaken S (delta ∷ []) new

-- the set that was taken before
abbrev pub TakesNothing : {D : Type 0} {G : Ghosts D} → State G → State G → Type 0
TakesNothing old new =
    (S : List Op) (refused : List (List Op)) → HasTaken S refused old → HasTaken S refused new

-- the set that was taken before, with what was read; if nothing was refused, that is the set itself
pub record TakesAgain {D : Type 0} {G : Ghosts D} (old new : State G) : Type 0 where
  pub with_read : G.honest → (S : List Op) (refused : List (List Op)) → HasTaken S refused old
      → HasTaken (S ++ all_of (on_disk old)) [] new
  pub itself : G.honest → (S : List Op) → HasTaken S [] old → HasTaken S [] new

-- which set a node has taken after a delta: with the delta; or as before, and the delta was
-- refused; or as before
abbrev pub CarriesOn : {D : Type 0} {G : Ghosts D} → State G → List Op → Result Out Refusal
    → State G → Type 0
CarriesOn old delta (Ok out) new = TakesMore old delta new
CarriesOn old delta (Err (refusals.Disk excuse)) new = TakesNoMore old delta new
CarriesOn old delta answer new = TakesNothing old new

-- Which set a node has taken after a datagram or a tick: with what it made. If the journal could
-- not be written, it is as before, and the delta of the plan was refused.
abbrev pub OwnCarriesOn : {D : Type 0} {G : Ghosts D} → State G → Occasion → ℕ → Result Out Refusal
    → State G → Type 0
OwnCarriesOn old occasion now (Ok out) new = TakesMore old (unwrap_or out.made []) new
OwnCarriesOn old occasion now (Err (refusals.Disk excuse)) new =
    (plan : Plan) × IsPlanFor old occasion now (Some plan)
    × ((delta : List Op) × IsDeltaOf plan.ops delta × TakesNoMore old delta new)
OwnCarriesOn old occasion now answer new = TakesNothing old new

-- which set a node has taken after a reopening: with what was read; if the reopening was refused,
-- as before
abbrev pub ReopenCarriesOn : {D : Type 0} {G : Ghosts D} → State G → Result Out Refusal → State G
    → Type 0
ReopenCarriesOn old (Ok out) new = TakesAgain old new
ReopenCarriesOn old (Err refusal) new = TakesNothing old new

-- which set a node has taken after a call, by the kind of the call
abbrev pub StepCarriesOn : {D : Type 0} {G : Ghosts D} → State G → Step → Result Out Refusal
    → State G → Type 0
StepCarriesOn old (steps.Frame from bytes now) answer new =
    OwnCarriesOn old (Datagram from bytes) now answer new
StepCarriesOn old (steps.Take delta) answer new = CarriesOn old delta answer new
StepCarriesOn old (steps.Tick now) answer new = OwnCarriesOn old Clock now answer new
StepCarriesOn old steps.Reopen answer new = ReopenCarriesOn old answer new
StepCarriesOn old step answer new = TakesNothing old new
