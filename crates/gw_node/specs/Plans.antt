-- What a node's plan comes to, by what its replica keeps.
use Rattle.std.specs.Prelude.{◌≡◌, ◌≢◌, ℕ, List, [], ◌∷◌, ◌++◌, Option, Some, None}
use Rattle.rep_op.specs.declared.op.Op.{Op}
use Rattle.rep_op.specs.declared.fault.OpsFault.{OpsFault}
use Rattle.rep_op.specs.declared.fault.OpsFault.TheVariants as ops_faults
use Rattle.rep_ops.specs.Making.{IsDeltaOf, IsRefusal}
use Rattle.rep_model.specs.declared.fault.Limit.{Limit}
use Rattle.rep_model.specs.declared.fault.TakeFault.TheVariants as take_faults
use Rattle.rep_model.specs.Keep.{IsKeptOf}
use Rattle.rep_model.specs.Taking.{Fits, IsFaultOf}
use Rattle.sn_plan.specs.declared.plan.Plan.{Plan}
use Rattle.sn_local.specs.Seen.{seen_of}
use Rattle.jr_disk.specs.declared.disk.Disk.{Ghosts}
use Rattle.gw_answer.specs.declared.refusal.Refusal.{Refusal}
use Rattle.gw_answer.specs.declared.refusal.Refusal.TheVariants as refusals
use Rattle.gw_event.specs.Occasions.{Occasion, IsPlanOf}
use Rattle.gw_event.specs.Event.{IsWritable}
use Rattle.gw_node.specs.Parts.{State, IsUntouched}
use Rattle.gw_node.specs.Writing.{IsWritten}

-- the plan for the occasion, by what is kept
abbrev pub IsPlanFor : {D : Type 0} {G : Ghosts D} → State G → Occasion → ℕ → Option Plan → Type 0
IsPlanFor old occasion now plan = IsPlanOf old.config (seen_of old.kept) old.local occasion now plan

-- why a delta is not taken: it contradicts what is kept, or more would be held than a limit allows
abbrev pub IsMisfit : List Op → List Op → Refusal → Type 0
IsMisfit kept delta (refusals.Conflict client) = IsFaultOf kept delta (take_faults.Conflict client)
IsMisfit kept delta refusals.Full = (limit : Limit) × IsFaultOf kept delta (take_faults.Full limit)
IsMisfit kept delta refusals.Memory = Unit {0}
IsMisfit kept delta refusal = ⊥

-- the operations make no delta
abbrev pub MakeNoDelta : List Op → Type 0
MakeNoDelta ops = (fault : OpsFault) × (fault ≢ ops_faults.Memory) × IsRefusal ops fault

-- the operations, if there are any, became one delta, which is in the journal and taken
abbrev pub Makes : {D : Type 0} {G : Ghosts D} → List Op → Option (List Op) → State G → State G
    → Type 0
Makes [] None old new = (new.kept ≡ old.kept) × IsUntouched old.journal new.journal
Makes [] (Some delta) old new = ⊥
Makes (op ∷ ops) None old new = ⊥
Makes (op ∷ ops) (Some delta) old new =
    IsDeltaOf (op ∷ ops) delta × Fits old.kept delta × IsKeptOf (old.kept ++ delta) new.kept
    × IsWritten old.journal delta new.journal × IsWritable delta
