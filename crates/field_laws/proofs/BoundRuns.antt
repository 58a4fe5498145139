-- In a run each bound client is owned by its gateway, and up.
use Rattle.std.proofs.Common.{◌≡◌, Bool, ℕ, zero, suc, ◌-◌, List, [], ◌∷◌, ◌++◌, map, set, slice_get, Option, Some, None, Result, Ok, Err, refl, sym, subst, inl, inr}
use Rattle.std.proofs.lemmas.List.{append-nil}
use Rattle.std.proofs.lemmas.Option.{none-some, same_Some}
use Rattle.rep_op.specs.declared.op.Op.{Op}
use Rattle.rep_op.specs.Sets.{Same}
use Rattle.rep_model.proofs.Joins.{same_refl}
use Rattle.sn_local.specs.declared.config.Config.{Config}
use Rattle.sn_plan.specs.declared.plan.Plan.{Plan}
use Rattle.sn_plan.specs.Flush.{HaveNoGap}
use Rattle.sn_local.specs.Locals.{after_all}
use Rattle.plan_laws.specs.BoundUp.{IsUp}
use Rattle.plan_laws.proofs.BoundBehind.{step-up, tick-up, taken-up}
use Rattle.gw_answer.specs.declared.out.Out.{Out}
use Rattle.gw_answer.specs.declared.refusal.Refusal.{Refusal}
use Rattle.gw_answer.specs.declared.refusal.Refusal.TheVariants as refusals
use Rattle.gw_event.specs.Occasions.{Occasion, Datagram, Clock}
use Rattle.gw_answer.specs.Answers.{said}
use Rattle.gw_world.specs.declared.event.Event.{Event}
use Rattle.gw_world.specs.declared.event.Event.TheVariants.{Frame, Tick, Take, Together as AtOnce, Answer as Asks, WriteFails, Compact, Restart, Show}
use Rattle.gw_world.specs.declared.event.Call.{Call}
use Rattle.gw_world.specs.declared.event.Call.TheVariants as calls
use Rattle.gw_world.specs.declared.event.Answer.{Answer}
use Rattle.gw_world.specs.declared.event.Answer.TheVariants.{Node, Row, Views, Records, Nothing}
use Rattle.gw_event.specs.Gateways.{Gateway, new_gateway}
use Rattle.gw_world.specs.Field.{Field, new_field, IsAt, failing_gateway, TogetherAt, After, Run}
use Rattle.gw_world.proofs.InRows.{Answers, CallAt}
use Rattle.gw_world.specs.Steady.{IsKnown}
use Rattle.gw_world.specs.Steps.{restarted}
use Rattle.gw_event.specs.Event.{NothingHappens, IsTorn, IsMade, IsPlan, OwnStep, TakeStep, CompactStep}
use Rattle.gw_world.proofs.Consistency.{FlushField, WholeField, steady-is, row-keeps-sound, after-sound, start-whole}
use Rattle.gw_world.proofs.Failures.{DueField, after-due, start-due}
use Rattle.gw_world.proofs.Each.{all-at}
use Rattle.gw_world.proofs.Numbers.{place_of-first, first-number}
use Rattle.gw_world.proofs.Steadiness.{start-flush}
use Rattle.field_laws.proofs.OwnPlans.{set-cases}

-- each client that is bound at the gateway is its own, and up
abbrev GatewayUp : Gateway → Type 0
GatewayUp gateway = IsUp gateway.config.gateway gateway.taken gateway.local

abbrev AreUp : List Gateway → Type 0
AreUp gs = (j : ℕ) (gateway : Gateway) → slice_get gs j ≡ Some gateway → GatewayUp gateway

set-up : (i : ℕ) (gs : List Gateway) (next : Gateway) → AreUp gs → GatewayUp next → AreUp (set gs i next)
set-up i gs next all one j gateway e = elim (set-cases i j gs next gateway e) [
  | inl own ↦ subst GatewayUp (sym own) one
  | inr other ↦ all j gateway other
]

plan-up : (gateway : Gateway) → HaveNoGap gateway.config.gateway gateway.taken → GatewayUp gateway → (occasion : Occasion) (now : ℕ) (plan : Plan) → IsPlan gateway occasion now (Some plan)
    → (delta : List Op) → Same delta plan.ops → IsUp gateway.config.gateway (gateway.taken ++ delta) (after_all gateway.local plan.local)
plan-up gateway flush up (Datagram from bytes) now plan h delta same =
    step-up gateway.config.gateway gateway.taken flush gateway.local up plan delta same gateway.config.lifetime gateway.config.predefined from h.0 now h.3
plan-up gateway flush up Clock now plan h delta same =
    tick-up gateway.config.gateway gateway.taken flush gateway.local up plan delta same gateway.config.lifetime gateway.config.predefined gateway.config.advertise gateway.config.field now h

-- ---- what one event does

module _ (field : Field) (s : FlushField field) (w : WholeField field) (all : AreUp field.gateways) (n i : ℕ) (old : Gateway) (at : IsAt field n i old) where
  own-number : old.config.gateway ≡ n
  own-number = first-number n i field.gateways old (place_of-first n i field.gateways at.0) at.1

  flush-own : HaveNoGap old.config.gateway old.taken
  flush-own = subst (λ k. HaveNoGap k old.taken) (sym own-number) (s n i old (place_of-first n i field.gateways at.0) at.1)

  up-here : IsUp n old.taken old.local
  up-here = subst (λ k. IsUp k old.taken old.local) own-number (all i old at.1)

  same-up : (next : Gateway) (made : List (List Op)) → NothingHappens old next made → GatewayUp next
  same-up next made u = subst GatewayUp (sym u.same) (all i old at.1)

  made-up : (occasion : Occasion) (now : ℕ) (plan : Plan) → IsPlan old occasion now (Some plan) → (ops : List Op) → plan.ops ≡ ops
      → (delta : Option (List Op)) (next : Gateway) (made : List (List Op)) → IsMade ops old plan delta next made → GatewayUp next
  made-up occasion now plan planned [] is None next made h =
      let same : Same [] plan.ops = subst (Same []) (sym is) (same_refl []) in
      subst GatewayUp (sym h.1)
      (subst (λ S. IsUp old.config.gateway S (after_all old.local plan.local)) (append-nil old.taken) (plan-up old flush-own (all i old at.1) occasion now plan planned [] same))
  made-up occasion now plan planned [] is (Some delta) next made h = absurd h
  made-up occasion now plan planned (op ∷ ops) is None next made h = absurd h
  made-up occasion now plan planned (op ∷ ops) is (Some delta) next made h =
      let same : Same delta plan.ops = subst (Same delta) (sym is) h.0.same in
      subst GatewayUp (sym h.4) (plan-up old flush-own (all i old at.1) occasion now plan planned delta same)

  -- a delta that could not be written is not taken
  torn-up : (delta : List Op) (next : Gateway) (made : List (List Op)) → IsTorn old delta next made → GatewayUp next
  torn-up delta next made t = subst GatewayUp (sym t.halted) (all i old at.1)

  own-up : (occasion : Occasion) (now : ℕ) (answer : Result Out Refusal) (next : Gateway) (made : List (List Op)) → OwnStep old occasion now answer next made → GatewayUp next
  own-up occasion now (Ok out) next made h = made-up occasion now h.0 h.1 h.0.ops refl out.made next made h.2.1
  own-up occasion now (Err (refusals.Frame fault)) next made h = same-up next made h.1
  own-up occasion now (Err refusals.Exhausted) next made h = same-up next made h.1
  own-up occasion now (Err (refusals.Conflict client)) next made h = same-up next made h.3
  own-up occasion now (Err refusals.Full) next made h = same-up next made h.3
  own-up occasion now (Err refusals.Halted) next made h = same-up next made h.1
  own-up occasion now (Err (refusals.Disk excuse)) next made h = torn-up h.2.delta next made h.2.torn
  own-up occasion now (Err (refusals.Journal fault)) next made h = absurd h
  own-up occasion now (Err refusals.Memory) next made h = absurd h

  take-up : (delta : List Op) (answer : Result Out Refusal) (next : Gateway) (made : List (List Op)) → IsKnown n old.taken delta → TakeStep old delta answer next made → GatewayUp next
  take-up delta (Err (refusals.Conflict client)) next made known h = same-up next made h.1
  take-up delta (Err refusals.Full) next made known h = same-up next made h.1
  take-up delta (Err refusals.Halted) next made known h = same-up next made h.1
  take-up delta (Err (refusals.Disk excuse)) next made known h = torn-up delta next made h.2
  take-up delta (Err (refusals.Frame fault)) next made known h = absurd h
  take-up delta (Err refusals.Exhausted) next made known h = absurd h
  take-up delta (Err (refusals.Journal fault)) next made known h = absurd h
  take-up delta (Err refusals.Memory) next made known h = absurd h
  take-up delta (Ok out) next made known h =
      subst GatewayUp (sym h.3)
      (taken-up old.config.gateway old.taken delta old.local (all i old at.1) (subst (λ k. IsKnown k old.taken delta) (sym own-number) known))

  known-at : (k : ℕ) (delta : List Op) → slice_get field.deltas k ≡ Some delta → IsKnown n old.taken delta
  known-at k delta there = all-at (IsKnown n old.taken) field.deltas k delta ((steady-is field s w).known n i old at) there

-- a compaction leaves set and clients as they are; a gateway that starts again knows nobody
compact-up : (old next : Gateway) (answer : Result Out Refusal) → GatewayUp old → CompactStep old answer next → GatewayUp next
compact-up old next (Ok out) up h = subst GatewayUp (sym h.2.2) up
compact-up old next (Err (refusals.Journal fault)) up h = subst GatewayUp (sym h.2) up
compact-up old next (Err (refusals.Frame fault)) up h = absurd h
compact-up old next (Err refusals.Halted) up h = subst GatewayUp (sym h.1) up
compact-up old next (Err (refusals.Disk excuse)) up h = subst GatewayUp (sym h.2.4) up
compact-up old next (Err (refusals.Conflict client)) up h = absurd h
compact-up old next (Err refusals.Full) up h = absurd h
compact-up old next (Err refusals.Exhausted) up h = absurd h
compact-up old next (Err refusals.Memory) up h = absurd h

restart-up : (kept : ℕ) (old : Gateway) → GatewayUp (restarted kept old)
restart-up kept old = tt

failing-up : (bytes : ℕ) (sync : Bool) (old : Gateway) → GatewayUp old → GatewayUp (failing_gateway bytes sync old)
failing-up bytes sync old up = up

abbrev UpField : Field → Type 0
UpField field = AreUp field.gateways

call-up : (old new : Field) (number : ℕ) (call : Call) (answer : Result Out Refusal) → CallAt old number call answer new → FlushField old → WholeField old → UpField old → UpField new
call-up old new number (calls.Frame from bytes now) answer h s w all =
    subst UpField (sym h.6) (set-up h.0 old.gateways h.2 all (own-up old s w all number h.0 h.1 h.4 (Datagram from bytes) now answer h.2 h.3 h.5))
call-up old new number (calls.Tick now) answer h s w all =
    subst UpField (sym h.6) (set-up h.0 old.gateways h.2 all (own-up old s w all number h.0 h.1 h.4 Clock now answer h.2 h.3 h.5))
call-up old new number (calls.Take delta) answer h s w all =
    subst UpField (sym h.8) (set-up h.0 old.gateways h.2 all
    (take-up old s w all number h.0 h.1 h.5 h.4 answer h.2 h.3 (known-at old s w all number h.0 h.1 h.5 (delta - 1) h.4 h.6.1) h.7))

row-up : (old new : Field) (number : ℕ) (called : List Call) (answers : Answers) → TogetherAt old number called answers new → FlushField old → WholeField old → UpField old → UpField new
row-up old new number called answers h s w all =
    row-keeps-sound UpField number (λ before after call answer one flush whole up. call-up before after number call answer one flush whole up)
    (λ field i gateway next behind step answer more at is t flush whole up. set-up i field.gateways next up (subst GatewayUp (sym t.halted) (up i gateway at.1)))
    old new called answers h s w all

after-up : (old : Field) (event : Event) (answer : Answer) (new : Field) → After old event answer new → FlushField old → WholeField old → UpField old → UpField new
after-up old (Frame number from bytes now) (Node answer) new h s w all = call-up old new number (calls.Frame from bytes now) (said answer) h s w all
after-up old (Tick number now) (Node answer) new h s w all = call-up old new number (calls.Tick now) (said answer) h s w all
after-up old (Take number delta) (Node answer) new h s w all = call-up old new number (calls.Take delta) (said answer) h s w all
after-up old (AtOnce number calls) (Row answers) new h s w all = row-up old new number calls (map said answers) h s w all
after-up old (Asks number peer) (Node answer) new h s w all = subst UpField (sym h.8) all
after-up old (WriteFails number bytes sync) Nothing new h s w all =
    subst UpField (sym h.3) (set-up h.0 old.gateways (failing_gateway bytes sync h.1) all (failing-up bytes sync h.1 (all h.0 h.1 h.2.1)))
after-up old (Compact number) (Node answer) new h s w all =
    subst UpField (sym h.5) (set-up h.0 old.gateways h.2 all (compact-up h.1 h.2 (said answer) (all h.0 h.1 h.3.1) h.4))
after-up old (Restart number kept) (Records count) new h s w all =
    subst UpField (sym h.4) (set-up h.0 old.gateways (restarted kept h.1) all (restart-up kept h.1))
after-up old (Show number) (Views views topics) new h s w all = subst UpField (sym h.4) all
after-up old (Frame number from bytes now) (Views views topics) new h s w all = absurd h
after-up old (Tick number now) (Views views topics) new h s w all = absurd h
after-up old (Take number delta) (Views views topics) new h s w all = absurd h
after-up old (Asks number peer) (Views views topics) new h s w all = absurd h
after-up old (Show number) (Node answer) new h s w all = absurd h
after-up old (Compact number) (Views views topics) new h s w all = absurd h
after-up old (Restart number kept) (Views views topics) new h s w all = absurd h
after-up old (Restart number kept) (Node answer) new h s w all = absurd h
after-up old (Frame number from bytes now) (Records count) new h s w all = absurd h
after-up old (Tick number now) (Records count) new h s w all = absurd h
after-up old (Take number delta) (Records count) new h s w all = absurd h
after-up old (Asks number peer) (Records count) new h s w all = absurd h
after-up old (Compact number) (Records count) new h s w all = absurd h
after-up old (Show number) (Records count) new h s w all = absurd h
after-up old (Frame number from bytes now) Nothing new h s w all = absurd h
after-up old (Tick number now) Nothing new h s w all = absurd h
after-up old (Take number delta) Nothing new h s w all = absurd h
after-up old (Asks number peer) Nothing new h s w all = absurd h
after-up old (WriteFails number bytes sync) (Node answer) new h s w all = absurd h
after-up old (WriteFails number bytes sync) (Views views topics) new h s w all = absurd h
after-up old (WriteFails number bytes sync) (Records count) new h s w all = absurd h
after-up old (Compact number) Nothing new h s w all = absurd h
after-up old (Restart number kept) Nothing new h s w all = absurd h
after-up old (Show number) Nothing new h s w all = absurd h
after-up old (AtOnce number calls) (Node answer) new h s w all = absurd h
after-up old (AtOnce number calls) (Views views topics) new h s w all = absurd h
after-up old (AtOnce number calls) (Records count) new h s w all = absurd h
after-up old (AtOnce number calls) Nothing new h s w all = absurd h
after-up old (Frame number from bytes now) (Row answers) new h s w all = absurd h
after-up old (Tick number now) (Row answers) new h s w all = absurd h
after-up old (Take number delta) (Row answers) new h s w all = absurd h
after-up old (Asks number peer) (Row answers) new h s w all = absurd h
after-up old (WriteFails number bytes sync) (Row answers) new h s w all = absurd h
after-up old (Compact number) (Row answers) new h s w all = absurd h
after-up old (Restart number kept) (Row answers) new h s w all = absurd h
after-up old (Show number) (Row answers) new h s w all = absurd h

-- ---- what a run does

record Ran (field : Field) : Type 0 where
  flush : FlushField field
  whole : WholeField field
  up : UpField field

run-up : (old : Field) (events : List Event) (answers : List Answer) (new : Field) → Run old events answers new → FlushField old → WholeField old → DueField old → UpField old → Ran new
run-up old [] [] new h s w d all = record { flush = subst FlushField (sym h) s; whole = subst WholeField (sym h) w; up = subst UpField (sym h) all }
run-up old (event ∷ events) (answer ∷ answers) new h s w d all =
    let one = after-sound old event answer h.0 h.1 s w d in
    run-up h.0 events answers new h.2 one.flush one.whole (after-due old event answer h.0 h.1 d) (after-up old event answer h.0 h.1 s w all)
run-up old [] (answer ∷ answers) new h s w d all = absurd h
run-up old (event ∷ events) [] new h s w d all = absurd h

start-up : (configs : List Config) → AreUp (map new_gateway configs)
start-up [] j gateway e = absurd (none-some gateway e)
start-up (config ∷ configs) zero gateway e = subst GatewayUp (same_Some (new_gateway config) gateway e) tt
start-up (config ∷ configs) (suc j) gateway e = start-up configs j gateway e

pub field-up : (configs : List Config) (events : List Event) (answers : List Answer) (field : Field) (number i : ℕ) (gateway : Gateway)
    → Run (new_field configs) events answers field → IsAt field number i gateway → IsUp number gateway.taken gateway.local
field-up configs events answers field number i gateway run at =
    let ran = run-up (new_field configs) events answers field run (start-flush configs) (start-whole configs) (start-due configs) (start-up configs) in
    up-here field ran.flush ran.whole ran.up number i gateway at
