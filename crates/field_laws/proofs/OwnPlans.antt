-- In a run each gateway keeps well.
use Rattle.std.specs.List.{AllByRecursion}
use Rattle.std.proofs.Common.{◌≡◌, ◌≢◌, ◌⊎◌, Bool, ℕ, zero, suc, ◌≤◌, ◌-◌, List, [], ◌∷◌, map, set, slice_get, Option, Some, None, Result, Ok, Err, refl, sym, subst, inl, inr, IsTrue}
use Rattle.std.proofs.lemmas.Option.{none-some, same_Some}
use Rattle.rep_op.specs.declared.op.Op.{Op}
use Rattle.rep_op.specs.declared.fault.OpsFault.{OpsFault}
use Rattle.rep_op.specs.declared.fault.OpsFault.TheVariants as ops_faults
use Rattle.rep_ops.specs.Deltas.{IsDelta}
use Rattle.rep_ops.specs.Making.{HaveOwnNames, AreWellMade, IsRefusal}
use Rattle.rep_op.specs.WellMade.{is_well_made}
use Rattle.sn_local.specs.declared.config.Config.{Config}
use Rattle.sn_plan.specs.declared.plan.Plan.{Plan}
use Rattle.sn_plan.specs.Flush.{HaveNoGap}
use Rattle.sn_plan.proofs.Lists.{all-append}
use Rattle.plan_laws.specs.KeepsWell.{AreAsked, KeepsWell}
use Rattle.plan_laws.proofs.Steps.{Makes, step-makes, tick-makes, after-asked}
use Rattle.gw_answer.specs.declared.out.Out.{Out}
use Rattle.gw_answer.specs.declared.refusal.Refusal.{Refusal}
use Rattle.gw_answer.specs.declared.refusal.Refusal.TheVariants as refusals
use Rattle.gw_event.specs.Occasions.{Occasion, Datagram, Clock}
use Rattle.gw_answer.specs.Answers.{said}
use Rattle.gw_world.specs.declared.event.Event.{Event}
use Rattle.gw_world.specs.declared.event.Event.TheVariants.{Frame, Tick, Take, Together as AtOnce, Answer as Asks, WriteFails, Compact, Restart, Show}
use Rattle.gw_world.specs.declared.event.Call.{Call}
use Rattle.gw_world.specs.declared.event.Call.TheVariants as calls
use Rattle.gw_world.specs.declared.event.Answer.{Answer}
use Rattle.gw_world.specs.declared.event.Answer.TheVariants.{Node, Row, Views, Records, Nothing}
use Rattle.gw_event.specs.Gateways.{Gateway, new_gateway}
use Rattle.gw_answer.specs.declared.step.Step.{Step}
use Rattle.gw_event.specs.Together.{AreTorn}
use Rattle.gw_event.specs.Drives.{left_by, more_records}
use Rattle.gw_world.specs.Field.{Field, new_field, IsAt, failing_gateway, TogetherAt, After, Run}
use Rattle.gw_world.proofs.InRows.{Answers, CallAt}
use Rattle.gw_world.specs.Steps.{restarted}
use Rattle.gw_event.specs.Event.{NothingHappens, IsTorn, IsMade, IsPlan, IsTooMuch, OwnStep, TakeStep, CompactStep}
use Rattle.gw_world.proofs.Consistency.{FlushField, WholeField, row-keeps-sound, after-sound, start-whole}
use Rattle.gw_world.proofs.Failures.{OwnOrListed, DueAs, DueField, due-all, after-due, start-due}
use Rattle.gw_world.proofs.Each.{all-at}
use Rattle.gw_world.proofs.Numbers.{place_of-first, first-number}
use Rattle.gw_world.proofs.Steadiness.{came-back, restart-feeds, start-flush}
use Rattle.field_laws.specs.OwnPlans.{AreNumbered, IsTooLong}

-- what holds of each gateway, beside that it is flush
record Well (gateway : Gateway) : Type 0 where
  numbered : 1 ≤ gateway.config.gateway
  made : AreWellMade gateway.taken
  asked : AreAsked gateway.local.dialogs

abbrev AreWell : List Gateway → Type 0
AreWell gs = (j : ℕ) (gateway : Gateway) → slice_get gs j ≡ Some gateway → Well gateway

-- after the gateway at i became next, each is next or as it was
pub set-cases : (i j : ℕ) (gs : List Gateway) (next gateway : Gateway) → slice_get (set gs i next) j ≡ Some gateway → (gateway ≡ next) ⊎ (slice_get gs j ≡ Some gateway)
set-cases i j [] next gateway e = absurd (none-some gateway e)
set-cases zero zero (g ∷ gs) next gateway e = inl (sym (same_Some next gateway e))
set-cases zero (suc j) (g ∷ gs) next gateway e = inr e
set-cases (suc i) zero (g ∷ gs) next gateway e = inr e
set-cases (suc i) (suc j) (g ∷ gs) next gateway e = set-cases i j gs next gateway e

set-well : (i : ℕ) (gs : List Gateway) (next : Gateway) → AreWell gs → Well next → AreWell (set gs i next)
set-well i gs next all one j gateway e = elim (set-cases i j gs next gateway e) [
  | inl own ↦ subst Well (sym own) one
  | inr other ↦ all j gateway other
]

plan-makes : (gateway : Gateway) → KeepsWell gateway.config.gateway gateway.taken gateway.local → (occasion : Occasion) (now : ℕ) (plan : Plan) → IsPlan gateway occasion now (Some plan) → Makes plan
plan-makes gateway k (Datagram from bytes) now plan h = step-makes gateway.config.gateway gateway.taken gateway.local k gateway.config.predefined plan gateway.config.lifetime from h.0 now h.3
plan-makes gateway k Clock now plan h = tick-makes gateway.config.gateway gateway.taken gateway.local k gateway.config.predefined plan gateway.config.lifetime gateway.config.advertise gateway.config.field now h

-- ---- what one event does

module _ (field : Field) (s : FlushField field) (all : AreWell field.gateways) (n i : ℕ) (old : Gateway) (at : IsAt field n i old) where
  own-number : old.config.gateway ≡ n
  own-number = first-number n i field.gateways old (place_of-first n i field.gateways at.0) at.1

  flush-here : HaveNoGap n old.taken
  flush-here = s n i old (place_of-first n i field.gateways at.0) at.1

  keeps-own : KeepsWell old.config.gateway old.taken old.local
  keeps-own =
      let w = all i old at.1 in
      record { numbered = w.numbered; flush = subst (λ k. HaveNoGap k old.taken) (sym own-number) flush-here; made = w.made; asked = w.asked }

  keeps-here : KeepsWell n old.taken old.local
  keeps-here = subst (λ k. KeepsWell k old.taken old.local) own-number keeps-own

  makes-here : (occasion : Occasion) (now : ℕ) (plan : Plan) → IsPlan old occasion now (Some plan) → Makes plan
  makes-here occasion now plan h = plan-makes old keeps-own occasion now plan h

  same-well : (next : Gateway) (made : List (List Op)) → NothingHappens old next made → Well next
  same-well next made u = subst Well (sym u.same) (all i old at.1)

  made-well : (plan : Plan) → Makes plan → (ops : List Op) (delta : Option (List Op)) (next : Gateway) (made : List (List Op)) → IsMade ops old plan delta next made → Well next
  made-well plan makes [] None next made h =
      let w = all i old at.1 in
      subst Well (sym h.1) (record { numbered = w.numbered; made = w.made; asked = after-asked old.local.dialogs plan.local w.asked makes.moves })
  made-well plan makes [] (Some delta) next made h = absurd h
  made-well plan makes (op ∷ ops) None next made h = absurd h
  made-well plan makes (op ∷ ops) (Some delta) next made h =
      let w = all i old at.1 in
      subst Well (sym h.4) (record {
        numbered = w.numbered;
        made = all-append (λ op. IsTrue (is_well_made op)) old.taken delta w.made h.0.delta.well_made;
        asked = after-asked old.local.dialogs plan.local w.asked makes.moves;
      })

  -- a delta that could not be written is not taken
  torn-well : (delta : List Op) (next : Gateway) (made : List (List Op)) → IsTorn old delta next made → Well next
  torn-well delta next made t =
      let w = all i old at.1 in
      subst Well (sym t.halted) (record { numbered = w.numbered; made = w.made; asked = w.asked })

  own-well : (occasion : Occasion) (now : ℕ) (answer : Result Out Refusal) (next : Gateway) (made : List (List Op)) → OwnStep old occasion now answer next made → Well next
  own-well occasion now (Ok out) next made h = made-well h.0 (makes-here occasion now h.0 h.1) h.0.ops out.made next made h.2.1
  own-well occasion now (Err (refusals.Frame fault)) next made h = same-well next made h.1
  own-well occasion now (Err refusals.Exhausted) next made h = same-well next made h.1
  own-well occasion now (Err (refusals.Conflict client)) next made h = same-well next made h.3
  own-well occasion now (Err refusals.Full) next made h = same-well next made h.3
  own-well occasion now (Err refusals.Halted) next made h = same-well next made h.1
  own-well occasion now (Err (refusals.Disk excuse)) next made h = torn-well h.2.delta next made h.2.torn
  own-well occasion now (Err (refusals.Journal fault)) next made h = absurd h
  own-well occasion now (Err refusals.Memory) next made h = absurd h

  take-well : (delta : List Op) (answer : Result Out Refusal) (next : Gateway) (made : List (List Op)) → IsDelta delta → TakeStep old delta answer next made → Well next
  take-well delta (Err (refusals.Conflict client)) next made proper h = same-well next made h.1
  take-well delta (Err refusals.Full) next made proper h = same-well next made h.1
  take-well delta (Err refusals.Halted) next made proper h = same-well next made h.1
  take-well delta (Err (refusals.Disk excuse)) next made proper h = torn-well delta next made h.2
  take-well delta (Err (refusals.Frame fault)) next made proper h = absurd h
  take-well delta (Err refusals.Exhausted) next made proper h = absurd h
  take-well delta (Err (refusals.Journal fault)) next made proper h = absurd h
  take-well delta (Err refusals.Memory) next made proper h = absurd h
  take-well delta (Ok out) next made proper h =
      let w = all i old at.1 in
      subst Well (sym h.3) (record {
        numbered = w.numbered;
        made = all-append (λ op. IsTrue (is_well_made op)) old.taken delta w.made proper.well_made;
        asked = w.asked;
      })

-- a compaction and a restart
compact-well : (old next : Gateway) (answer : Result Out Refusal) → Well old → CompactStep old answer next → Well next
compact-well old next (Ok out) w h = subst Well (sym h.2.2) (record { numbered = w.numbered; made = w.made; asked = w.asked })
compact-well old next (Err (refusals.Journal fault)) w h = subst Well (sym h.2) w
compact-well old next (Err (refusals.Frame fault)) w h = absurd h
compact-well old next (Err refusals.Halted) w h = subst Well (sym h.1) w
compact-well old next (Err (refusals.Disk excuse)) w h = subst Well (sym h.2.4) (record { numbered = w.numbered; made = w.made; asked = w.asked })
compact-well old next (Err (refusals.Conflict client)) w h = absurd h
compact-well old next (Err refusals.Full) w h = absurd h
compact-well old next (Err refusals.Exhausted) w h = absurd h
compact-well old next (Err refusals.Memory) w h = absurd h

-- what was refused is a delta
one-made : (deltas : List (List Op)) (number : ℕ) (taken delta : List Op) → AllByRecursion IsDelta deltas → OwnOrListed deltas number taken delta → AreWellMade delta
one-made deltas number taken delta proper (inl own) = own.proper.well_made
one-made deltas number taken delta proper (inr (k, there)) = (all-at IsDelta deltas k delta proper there).well_made

again-made : (kept : ℕ) (old : Gateway) (deltas : List (List Op)) → AllByRecursion IsDelta deltas → DueAs deltas old → AreWellMade old.taken → AreWellMade (restarted kept old).taken
again-made kept old deltas proper d h =
    let more = due-all (λ op. IsTrue (is_well_made op)) deltas old.config.gateway (λ taken delta due. one-made deltas old.config.gateway taken delta proper due) (more_records old.config.gateway old.drive (left_by kept old.drive)) old.refused old.taken d in
    subst AreWellMade (sym (restart-feeds kept old).taken) (all-append (λ op. IsTrue (is_well_made op)) old.taken (came-back kept old) h more)

restart-well : (kept : ℕ) (old : Gateway) (deltas : List (List Op)) → AllByRecursion IsDelta deltas → DueAs deltas old → Well old → Well (restarted kept old)
restart-well kept old deltas proper due w = record {
  numbered = w.numbered;
  made = again-made kept old deltas proper due w.made;
  asked = tt;
}

failing-well : (bytes : ℕ) (sync : Bool) (old : Gateway) → Well old → Well (failing_gateway bytes sync old)
failing-well bytes sync old w = record { numbered = w.numbered; made = w.made; asked = w.asked }

abbrev WellField : Field → Type 0
WellField field = AreWell field.gateways

call-well : (old new : Field) (number : ℕ) (call : Call) (answer : Result Out Refusal) → CallAt old number call answer new → FlushField old → WholeField old → WellField old → WellField new
call-well old new number (calls.Frame from bytes now) answer h s w all =
    subst WellField (sym h.6) (set-well h.0 old.gateways h.2 all (own-well old s all number h.0 h.1 h.4 (Datagram from bytes) now answer h.2 h.3 h.5))
call-well old new number (calls.Tick now) answer h s w all =
    subst WellField (sym h.6) (set-well h.0 old.gateways h.2 all (own-well old s all number h.0 h.1 h.4 Clock now answer h.2 h.3 h.5))
call-well old new number (calls.Take delta) answer h s w all =
    subst WellField (sym h.8) (set-well h.0 old.gateways h.2 all
    (take-well old s all number h.0 h.1 h.5 h.4 answer h.2 h.3 (all-at IsDelta old.deltas (delta - 1) h.4 w.proper h.6.1) h.7))

-- nothing was taken or noted of calls whose write failed
torn-row-well : (gateway next : Gateway) (step : Step) (answer : Result Out Refusal) (more : List Step) → AreTorn gateway step answer more next → Well gateway → Well next
torn-row-well gateway next step answer more t w = subst Well (sym t.halted) (record { numbered = w.numbered; made = w.made; asked = w.asked })

row-well : (old new : Field) (number : ℕ) (called : List Call) (answers : Answers) → TogetherAt old number called answers new → FlushField old → WholeField old → WellField old → WellField new
row-well old new number called answers h s w all =
    row-keeps-sound WellField number (λ before after call answer one flush whole well. call-well before after number call answer one flush whole well)
    (λ field i gateway next behind step answer more at is t flush whole well. set-well i field.gateways next well (torn-row-well gateway next step answer more t (well i gateway at.1)))
    old new called answers h s w all

after-well : (old : Field) (event : Event) (answer : Answer) (new : Field) → After old event answer new → FlushField old → WholeField old → DueField old → WellField old → WellField new
after-well old (Frame number from bytes now) (Node answer) new h s w d all = call-well old new number (calls.Frame from bytes now) (said answer) h s w all
after-well old (Tick number now) (Node answer) new h s w d all = call-well old new number (calls.Tick now) (said answer) h s w all
after-well old (Take number delta) (Node answer) new h s w d all = call-well old new number (calls.Take delta) (said answer) h s w all
after-well old (AtOnce number calls) (Row answers) new h s w d all = row-well old new number calls (map said answers) h s w all
after-well old (Asks number peer) (Node answer) new h s w d all = subst WellField (sym h.8) all
after-well old (WriteFails number bytes sync) Nothing new h s w d all =
    subst WellField (sym h.3) (set-well h.0 old.gateways (failing_gateway bytes sync h.1) all (failing-well bytes sync h.1 (all h.0 h.1 h.2.1)))
after-well old (Compact number) (Node answer) new h s w d all =
    subst WellField (sym h.5) (set-well h.0 old.gateways h.2 all (compact-well h.1 h.2 (said answer) (all h.0 h.1 h.3.1) h.4))
after-well old (Restart number kept) (Records count) new h s w d all =
    subst WellField (sym h.4) (set-well h.0 old.gateways (restarted kept h.1) all (restart-well kept h.1 old.deltas w.proper (d h.0 h.1 h.2.1).due (all h.0 h.1 h.2.1)))
after-well old (Show number) (Views views topics) new h s w d all = subst WellField (sym h.4) all
after-well old (Frame number from bytes now) (Views views topics) new h s w d all = absurd h
after-well old (Tick number now) (Views views topics) new h s w d all = absurd h
after-well old (Take number delta) (Views views topics) new h s w d all = absurd h
after-well old (Asks number peer) (Views views topics) new h s w d all = absurd h
after-well old (Show number) (Node answer) new h s w d all = absurd h
after-well old (Compact number) (Views views topics) new h s w d all = absurd h
after-well old (Restart number kept) (Views views topics) new h s w d all = absurd h
after-well old (Restart number kept) (Node answer) new h s w d all = absurd h
after-well old (Frame number from bytes now) (Records count) new h s w d all = absurd h
after-well old (Tick number now) (Records count) new h s w d all = absurd h
after-well old (Take number delta) (Records count) new h s w d all = absurd h
after-well old (Asks number peer) (Records count) new h s w d all = absurd h
after-well old (Compact number) (Records count) new h s w d all = absurd h
after-well old (Show number) (Records count) new h s w d all = absurd h
after-well old (Frame number from bytes now) Nothing new h s w d all = absurd h
after-well old (Tick number now) Nothing new h s w d all = absurd h
after-well old (Take number delta) Nothing new h s w d all = absurd h
after-well old (Asks number peer) Nothing new h s w d all = absurd h
after-well old (WriteFails number bytes sync) (Node answer) new h s w d all = absurd h
after-well old (WriteFails number bytes sync) (Views views topics) new h s w d all = absurd h
after-well old (WriteFails number bytes sync) (Records count) new h s w d all = absurd h
after-well old (Compact number) Nothing new h s w d all = absurd h
after-well old (Restart number kept) Nothing new h s w d all = absurd h
after-well old (Show number) Nothing new h s w d all = absurd h
after-well old (AtOnce number calls) (Node answer) new h s w d all = absurd h
after-well old (AtOnce number calls) (Views views topics) new h s w d all = absurd h
after-well old (AtOnce number calls) (Records count) new h s w d all = absurd h
after-well old (AtOnce number calls) Nothing new h s w d all = absurd h
after-well old (Frame number from bytes now) (Row answers) new h s w d all = absurd h
after-well old (Tick number now) (Row answers) new h s w d all = absurd h
after-well old (Take number delta) (Row answers) new h s w d all = absurd h
after-well old (Asks number peer) (Row answers) new h s w d all = absurd h
after-well old (WriteFails number bytes sync) (Row answers) new h s w d all = absurd h
after-well old (Compact number) (Row answers) new h s w d all = absurd h
after-well old (Restart number kept) (Row answers) new h s w d all = absurd h
after-well old (Show number) (Row answers) new h s w d all = absurd h

-- ---- what a run does

record Ran (field : Field) : Type 0 where
  flush : FlushField field
  well : WellField field

run-well : (old : Field) (events : List Event) (answers : List Answer) (new : Field) → Run old events answers new → FlushField old → WholeField old → DueField old → WellField old → Ran new
run-well old [] [] new h s w d all = record { flush = subst FlushField (sym h) s; well = subst WellField (sym h) all }
run-well old (event ∷ events) (answer ∷ answers) new h s w d all =
    let one = after-sound old event answer h.0 h.1 s w d in
    run-well h.0 events answers new h.2 one.flush one.whole (after-due old event answer h.0 h.1 d) (after-well old event answer h.0 h.1 s w d all)
run-well old [] (answer ∷ answers) new h s w d all = absurd h
run-well old (event ∷ events) [] new h s w d all = absurd h

start-well : (configs : List Config) → AreNumbered configs → AreWell (map new_gateway configs)
start-well [] numbered j gateway e = absurd (none-some gateway e)
start-well (config ∷ configs) numbered zero gateway e = subst Well (same_Some (new_gateway config) gateway e) (record { numbered = numbered.0; made = tt; asked = tt })
start-well (config ∷ configs) numbered (suc j) gateway e = start-well configs numbered.1 j gateway e

module _ (configs : List Config) (events : List Event) (answers : List Answer) (field : Field) (number i : ℕ) (gateway : Gateway)
    (numbered : AreNumbered configs) (run : Run (new_field configs) events answers field) (at : IsAt field number i gateway) where
  ran : Ran field
  ran = run-well (new_field configs) events answers field run (start-flush configs) (start-whole configs) (start-due configs) (start-well configs numbered)

  pub run-keeps : KeepsWell number gateway.taken gateway.local
  run-keeps = keeps-here field ran.flush ran.well number i gateway at

  pub run-makes : (occasion : Occasion) (now : ℕ) (plan : Plan) → IsPlan gateway occasion now (Some plan) → HaveOwnNames plan.ops
  run-makes occasion now plan h = (makes-here field ran.flush ran.well number i gateway at occasion now plan h).apart

  -- operations that can be written make a delta, or are too long
  only-long : (plan : Plan) → HaveOwnNames plan.ops → (fault : OpsFault) → fault ≢ ops_faults.Memory → IsRefusal plan.ops fault → IsTooLong plan
  only-long plan apart ops_faults.Kind other h = absurd (h apart.well_made)
  only-long plan apart ops_faults.Twice other h = absurd (apart.once h.1)
  only-long plan apart ops_faults.Limit other h = h.1
  only-long plan apart ops_faults.Memory other h = absurd (other refl)
  only-long plan apart fault other h = absurd h

  pub run-full : (new : Gateway) (occasion : Occasion) (now : ℕ) (made : List (List Op)) → OwnStep gateway occasion now (Err refusals.Full) new made
      → (plan : Plan) × IsPlan gateway occasion now (Some plan) × (IsTooMuch gateway plan refusals.Full ⊎ IsTooLong plan)
  run-full new occasion now made h = (
    h.0,
    h.1,
    elim h.2 [
      | inl much ↦ inl much
      | inr none ↦ inr (only-long h.0 (run-makes occasion now h.0 h.1) none.0 none.1 none.2)
    ],
  )
