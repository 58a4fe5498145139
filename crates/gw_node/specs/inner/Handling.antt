-- What the parts of a call come to. Only private functions cite these.
use Rattle.std.specs.Prelude.{◌≡◌, ◌≢◌, ℕ, Bool, true, if◌then◌else◌, List, [], length, Option, Some, None, Result, Ok, Err}
use Rattle.rep_op.specs.declared.op.Op.{Op}
use Rattle.sn_frame.specs.declared.frame.Frame.{Frame}
use Rattle.sn_frame.specs.declared.fault.FrameFault.TheVariants as frame_faults
use Rattle.sn_frame.specs.Faults.{IsFirstFault}
use Rattle.rep_ops.specs.Splitting.{all_of}
use Rattle.sn_local.specs.declared.config.Addr.{Addr}
use Rattle.sn_local.specs.declared.config.Send.{Send}
use Rattle.sn_plan.specs.declared.plan.Plan.{Plan}
use Rattle.sn_local.specs.Seen.{seen_of}
use Rattle.sn_local.specs.Locals.{no_local}
use Rattle.sn_deliver.specs.Steps.{step}
use Rattle.sn_tick.specs.Rest.{is_idle}
use Rattle.sn_tick.specs.Ticking.{tick}
use Rattle.jr_disk.specs.declared.disk.Disk.{Ghosts}
use Rattle.jr_journal.specs.Parts.{disk_under, gateway_of}
use Rattle.gw_answer.specs.declared.out.Out.{Out}
use Rattle.gw_answer.specs.declared.refusal.Refusal.{Refusal}
use Rattle.gw_answer.specs.declared.refusal.Refusal.TheVariants as refusals
use Rattle.gw_node.specs.Parts.{State, is_halted, IsUnchanged}
use Rattle.gw_answer.specs.Answers.{only_sends}
use Rattle.gw_node.specs.Plans.{MakeNoDelta}
use Rattle.gw_node.specs.Calls.{IsDone, IsGivenUp, AreTooMuch}
use Rattle.gw_node.specs.Keeping.{Keeps}
use Rattle.gw_node.specs.Opening.{FitInTurn}
use Rattle.gw_node.specs.inner.Opening.{DoNotFit}

-- the bytes are no frame; that memory ran out says nothing of them
abbrev pub IsNoFrameBy : List ℕ → Refusal → Type 0
IsNoFrameBy bytes (refusals.Frame fault) = IsFirstFault bytes fault × (fault ≢ frame_faults.Memory)
IsNoFrameBy bytes refusals.Memory = Unit {0}
IsNoFrameBy bytes refusal = ⊥

-- the plan for a frame, by what is kept
abbrev pub planned_for : {D : Type 0} {G : Ghosts D} → State G → Addr → Frame → ℕ → Option Plan
planned_for old from frame now =
    step old.config.gateway old.config.lifetime old.config.predefined (seen_of old.kept) old.local
    from frame now

-- the plan for a tick at this second, by what is kept
abbrev pub ticked : {D : Type 0} {G : Ghosts D} → State G → ℕ → Option Plan
ticked old now =
    tick old.config.gateway old.config.lifetime old.config.advertise old.config.field
    old.config.predefined (seen_of old.kept) old.local now

-- a tick of this moment has nothing to do
abbrev pub IsIdleAt : {D : Type 0} {G : Ghosts D} → State G → ℕ → Type 0
IsIdleAt old now =
    is_idle old.config.gateway old.config.advertise old.config.field (seen_of old.kept) old.local
    now ≡ true

-- there is no plan, or memory ran out
abbrev pub IsNoPlan : Option Plan → Refusal → Type 0
IsNoPlan planned refusals.Exhausted = planned ≡ None
IsNoPlan planned refusals.Memory = Unit {0}
IsNoPlan planned refusal = ⊥

-- the operations make no delta
abbrev pub HaveNoDelta : List Op → Refusal → Type 0
HaveNoDelta ops refusals.Full = MakeNoDelta ops
HaveNoDelta ops refusals.Memory = Unit {0}
HaveNoDelta ops refusal = ⊥

-- a plan was carried out, or why it was not; `excuse` is the answer if the journal cannot be
-- written
abbrev pub CarriedOut : {D : Type 0} {G : Ghosts D} → State G → Plan → Out → Result Out Refusal
    → State G → Type 0
CarriedOut old plan excuse (Ok out) new = IsDone old plan out new
CarriedOut old plan excuse (Err (refusals.Disk given)) new =
    (given ≡ excuse) × IsGivenUp old plan given new
CarriedOut old plan excuse (Err refusals.Halted) new = (is_halted old ≡ true) × IsUnchanged old new
CarriedOut old plan excuse (Err (refusals.Conflict client)) new =
    AreTooMuch old.kept plan.ops (refusals.Conflict client) × IsUnchanged old new
CarriedOut old plan excuse (Err refusals.Full) new =
    AreTooMuch old.kept plan.ops refusals.Full × IsUnchanged old new
CarriedOut old plan excuse (Err refusals.Memory) new = IsUnchanged old new
CarriedOut old plan excuse answer new = ⊥

-- the plan, if there is one, was carried out, or why it was not; `excuse` makes of what would have
-- been sent what is sent in its place
abbrev pub Answers : {D : Type 0} {G : Ghosts D} → State G → Option Plan → (List Send → List Send)
    → Result Out Refusal → State G → Type 0
Answers old planned excuse (Err refusals.Exhausted) new = (planned ≡ None) × IsUnchanged old new
Answers old planned excuse (Err refusals.Memory) new = IsUnchanged old new
Answers old planned excuse answer new =
    (plan : Plan) × (planned ≡ Some plan) × CarriedOut old plan (only_sends (excuse plan.sends))
    answer new

-- ---- what was read again

-- the node has taken these deltas, and knows nothing else; its journal is as it was
pub record IsRefilled {D : Type 0} {G : Ghosts D} (old : State G) (deltas : List (List Op))
    (new : State G) : Type 0 where
  pub config : new.config ≡ old.config
  pub local : new.local ≡ no_local
  pub journal : new.journal ≡ old.journal
  pub records : new.records ≡ length deltas
  pub keeps : Keeps (all_of deltas) new.kept
  pub none : deltas ≡ [] → new.kept ≡ []
  pub fits : FitInTurn [] deltas

-- One of them does not fit, or memory ran out. The node is as it was, but halted. If memory ran
-- out, it is halted only if it had been halted before its journal was read.
pub record IsGivenBack {D : Type 0} {G : Ghosts D} (old : State G) (deltas : List (List Op))
    (halted : Bool) (refusal : Refusal) (new : State G) : Type 0 where
  pub config : new.config ≡ old.config
  pub records : new.records ≡ old.records
  pub kept : new.kept ≡ old.kept
  pub local : new.local ≡ old.local
  pub gateway : gateway_of new.journal ≡ gateway_of old.journal
  pub disk : disk_under new.journal ≡ disk_under old.journal
  pub halts : refusal ≢ refusals.Memory → is_halted new ≡ true
  pub wanting : refusal ≡ refusals.Memory → is_halted new ≡ (if halted then true else is_halted old)
  pub why : DoNotFit deltas refusal

-- the node has taken the deltas that were read, or it has given them back for this reason
abbrev pub RefilledAs : {D : Type 0} {G : Ghosts D} → State G → List (List Op) → Bool
    → Result (Unit {0}) Refusal → State G → Type 0
RefilledAs old deltas halted (Ok done) new = IsRefilled old deltas new
RefilledAs old deltas halted (Err refusal) new = IsGivenBack old deltas halted refusal new
