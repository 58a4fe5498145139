-- Calls that are carried out before what they put into the journal is written. The node runs.
use Rattle.std.specs.Prelude.{◌≡◌, ◌≢◌, ◌⊎◌, ◌++◌, ◌∷◌, ℕ, List, [], Option, Some, None, Result, Ok, Err}
use Rattle.std.specs.Option.{option_to_list}
use Rattle.rep_op.specs.declared.op.Op.{Op}
use Rattle.rep_ops.specs.Deltas.{IsDelta}
use Rattle.rep_ops.specs.Making.{HaveOwnNames, IsDeltaOf}
use Rattle.rep_model.specs.Keep.{IsKeptOf}
use Rattle.rep_model.specs.Taking.{Fits}
use Rattle.sn_local.specs.declared.config.Send.{Send}
use Rattle.sn_local.specs.Seen.{seen_of}
use Rattle.sn_local.specs.Locals.{after_all, owned}
use Rattle.sn_plan.specs.declared.plan.Plan.{Plan}
use Rattle.jr_disk.specs.declared.disk.Disk.{Ghosts}
use Rattle.gw_answer.specs.Answers.{only_sends}
use Rattle.gw_answer.specs.declared.out.Out.{Out}
use Rattle.gw_answer.specs.declared.refusal.Refusal.{Refusal}
use Rattle.gw_answer.specs.declared.refusal.Refusal.TheVariants as refusals
use Rattle.gw_answer.specs.declared.step.Step.{Step}
use Rattle.gw_answer.specs.declared.step.Step.TheVariants as steps
use Rattle.gw_event.specs.Occasions.{Occasion, Datagram, Clock, IsNoFrame}
use Rattle.gw_event.specs.Excuses.{IsExcuse}
use Rattle.gw_event.specs.Event.{IsWritable}
use Rattle.gw_event.specs.Together.{put_by}
use Rattle.gw_node.specs.Parts.{State, IsUnchanged, IsUntouched}
use Rattle.gw_node.specs.Plans.{IsPlanFor, IsMisfit}
use Rattle.gw_node.specs.Calls.{AreTooMuch}
use Rattle.gw_node.specs.inner.Handling.{IsNoPlan}
use Rattle.gw_node.specs.declared.looking.Left.{Left}
use Rattle.gw_node.specs.declared.looking.Left.TheVariants.{Told, Writes, Alone}

-- ---- the way back

-- what lies aside of one replica, or of the other that it became, is put back to the same
abbrev pub GoesBackAs : {R : Type 0} → (R → R → Type 0) → (R → R → List Op) → R → R → Type 0
GoesBackAs {R = R} can back old new =
    (aside : R) → can old aside → can new aside × (back new aside ≡ back old aside)

-- ---- a call of which all is done but the write

-- the operations, if there are any, became one delta, which is taken
abbrev pub MakesAhead : {D : Type 0} {G : Ghosts D} → List Op → Option (List Op) → State G
    → State G → Type 0
MakesAhead [] None old new = new.kept ≡ old.kept
MakesAhead [] (Some delta) old new = ⊥
MakesAhead (op ∷ ops) None old new = ⊥
MakesAhead (op ∷ ops) (Some delta) old new =
    IsDeltaOf (op ∷ ops) delta × Fits old.kept delta × IsKeptOf (old.kept ++ delta) new.kept
    × IsWritable delta

-- the plan was carried out; no two of its operations have a name in common
pub record IsDoneAhead {D : Type 0} {G : Ghosts D} (old : State G) (plan : Plan) (out : Out)
    (new : State G) : Type 0 where
  pub config : new.config ≡ old.config
  pub records : new.records ≡ old.records
  pub journal : IsUntouched old.journal new.journal
  pub local : new.local ≡ after_all old.local plan.local
  pub apart : HaveOwnNames plan.ops
  pub made : MakesAhead plan.ops out.made old new
  pub answer : out ≡ record (only_sends plan.sends) { made = out.made }

-- the delta is taken, and clients that another gateway now owns no longer have an address here
pub record IsTakenAhead {D : Type 0} {G : Ghosts D} (old : State G) (delta : List Op)
    (new : State G) : Type 0 where
  pub config : new.config ≡ old.config
  pub records : new.records ≡ old.records
  pub journal : IsUntouched old.journal new.journal
  pub is_delta : IsDelta delta
  pub fits : Fits old.kept delta
  pub kept : IsKeptOf (old.kept ++ delta) new.kept
  pub local : new.local ≡ owned old.config.gateway (seen_of new.kept) old.local

-- a datagram or a tick: as `OwnCall`, but for the write
abbrev pub OwnAhead : {D : Type 0} {G : Ghosts D} → State G → Occasion → ℕ → Result Out Refusal
    → State G → Type 0
OwnAhead old occasion now (Ok out) new =
    (plan : Plan) × IsPlanFor old occasion now (Some plan) × IsDoneAhead old plan out new
OwnAhead old occasion now (Err (refusals.Frame fault)) new =
    IsNoFrame occasion fault × IsUnchanged old new
OwnAhead old occasion now (Err refusals.Exhausted) new =
    IsPlanFor old occasion now None × IsUnchanged old new
OwnAhead old occasion now (Err (refusals.Conflict client)) new =
    ((plan : Plan) × IsPlanFor old occasion now (Some plan)
    × AreTooMuch old.kept plan.ops (refusals.Conflict client)) × IsUnchanged old new
OwnAhead old occasion now (Err refusals.Full) new =
    ((plan : Plan) × IsPlanFor old occasion now (Some plan)
    × AreTooMuch old.kept plan.ops refusals.Full) × IsUnchanged old new
OwnAhead old occasion now (Err refusals.Memory) new = IsUnchanged old new
OwnAhead old occasion now answer new = ⊥

-- a delta: as `TakeCall`, but for the write
abbrev pub TakeAhead : {D : Type 0} {G : Ghosts D} → State G → List Op → Result Out Refusal
    → State G → Type 0
TakeAhead old delta (Ok out) new = (out ≡ only_sends []) × IsTakenAhead old delta new
TakeAhead old delta (Err (refusals.Conflict client)) new =
    IsMisfit old.kept delta (refusals.Conflict client) × IsUnchanged old new
TakeAhead old delta (Err refusals.Full) new =
    IsMisfit old.kept delta refusals.Full × IsUnchanged old new
TakeAhead old delta (Err refusals.Memory) new = IsUnchanged old new
TakeAhead old delta answer new = ⊥

-- a call that may write, but for the write
abbrev pub StepAhead : {D : Type 0} {G : Ghosts D} → State G → Step → Result Out Refusal → State G
    → Type 0
StepAhead old (steps.Frame from bytes now) answer new =
    OwnAhead old (Datagram from bytes) now answer new
StepAhead old (steps.Take delta) answer new = TakeAhead old delta answer new
StepAhead old (steps.Tick now) answer new = OwnAhead old Clock now answer new
StepAhead old step answer new = ⊥

-- a plan with operations was carried out but for the write, or why it was not
abbrev pub CarriedAhead : {D : Type 0} {G : Ghosts D} → State G → Plan → Result Out Refusal
    → State G → Type 0
CarriedAhead old plan (Ok out) new = IsDoneAhead old plan out new
CarriedAhead old plan (Err (refusals.Conflict client)) new =
    AreTooMuch old.kept plan.ops (refusals.Conflict client) × IsUnchanged old new
CarriedAhead old plan (Err refusals.Full) new =
    AreTooMuch old.kept plan.ops refusals.Full × IsUnchanged old new
CarriedAhead old plan (Err refusals.Memory) new = IsUnchanged old new
CarriedAhead old plan answer new = ⊥

-- what a plan without operations notes was noted, or memory ran out
abbrev pub NotedAs : {D : Type 0} {G : Ghosts D} → State G → Plan → Result Out Refusal → State G
    → Type 0
NotedAs old plan (Ok out) new = IsDoneAhead old plan out new × (out.made ≡ None)
NotedAs old plan (Err refusals.Memory) new = IsUnchanged old new
NotedAs old plan answer new = ⊥

-- the delta that was made, if one was
abbrev pub made_in : Result Out Refusal → List (List Op)
made_in (Ok out) = option_to_list out.made
made_in (Err refusal) = []

-- ---- what is found before anything is written

-- The plan of a datagram or a tick has operations. The excuse is answered if they cannot be
-- written.
pub record WritesPlan {D : Type 0} {G : Ghosts D} (old : State G) (occasion : Occasion) (now : ℕ)
    (plan : Plan) (excuse : Out) : Type 0 where
  pub is_plan : IsPlanFor old occasion now (Some plan)
  pub some : plan.ops ≢ []
  pub excused : IsExcuse occasion plan.sends excuse.sends
  pub sends : excuse ≡ only_sends excuse.sends

-- the call is a datagram or a tick with such a plan
abbrev pub IsWriter : {D : Type 0} {G : Ghosts D} → State G → Step → Plan → Out → Type 0
IsWriter old (steps.Frame from bytes now) plan excuse =
    WritesPlan old (Datagram from bytes) now plan excuse
IsWriter old (steps.Tick now) plan excuse = WritesPlan old Clock now plan excuse
IsWriter old step plan excuse = ⊥

-- What was found of a plan, with these datagrams as its excuse.
abbrev pub LooksFor : {D : Type 0} {G : Ghosts D} → State G → Plan → List Send → Left → State G
    → Type 0
LooksFor old plan sends (Told reply) new = NotedAs old plan reply new
LooksFor old plan sends (Writes given excuse) new =
    (given ≡ plan) × (plan.ops ≢ []) × (excuse ≡ only_sends sends) × (new ≡ old)
LooksFor old plan sends Alone new = ⊥

-- What was found of a frame, whose plan is this one, if there is one. `excuse` makes of what would
-- be sent what is sent in its place.
abbrev pub LooksAt : {D : Type 0} {G : Ghosts D} → State G → Option Plan → (List Send → List Send)
    → Left → State G → Type 0
LooksAt old planned excuse left new =
    ((plan : Plan) × (planned ≡ Some plan) × LooksFor old plan (excuse plan.sends) left new)
    ⊎ ((refusal : Refusal) × (left ≡ Told (Err refusal)) × IsNoPlan planned refusal
    × IsUnchanged old new)

-- What was found of a call. Either it is done, and has nothing to write; or nothing is done yet.
abbrev pub IsLooked : {D : Type 0} {G : Ghosts D} → State G → Step → Left → State G → Type 0
IsLooked old step (Told reply) new = StepAhead old step reply new × (put_by step reply ≡ [])
IsLooked old step (Writes plan excuse) new = IsWriter old step plan excuse × (new ≡ old)
IsLooked old step Alone new = new ≡ old
