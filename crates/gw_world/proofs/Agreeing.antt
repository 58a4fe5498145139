-- What calls with one write take contradicts nothing, wherever those before them lead.
use Rattle.std.proofs.Common.{◌≡◌, ◌⊎◌, ℕ, ◌-◌, zero, suc, take, List, [], ◌∷◌, ◌++◌, slice_get, Option, Some, None, Contains, Result, refl, sym, ap, ◌∙◌, subst, inl, inr}
use Rattle.std.proofs.lemmas.Option.{slice_get_within, get_or_from_slice_get}
use Rattle.rep_op.specs.declared.op.Op.{Op}
use Rattle.jr_disk.specs.declared.disk.Failure.{Failure}
use Rattle.gw_answer.specs.declared.out.Out.{Out}
use Rattle.gw_answer.specs.declared.refusal.Refusal.{Refusal}
use Rattle.gw_answer.specs.declared.step.Step.{Step}
use Rattle.gw_answer.specs.declared.step.Step.TheVariants as steps
use Rattle.gw_event.specs.Occasions.{Occasion, Datagram, Clock}
use Rattle.gw_event.specs.Gateways.{Gateway}
use Rattle.gw_event.specs.Event.{StepOf, Event}
use Rattle.std.specs.List.{AllByRecursion}
use Rattle.gw_event.specs.Together.{InTurnBy, CanWrite}
use Rattle.gw_node.specs.Standing.{with_failure, CallAgrees, OwnAgrees, AgreeInTurn}
use Rattle.gw_world.specs.declared.event.Call.{Call}
use Rattle.gw_world.specs.declared.event.Call.TheVariants as calls
use Rattle.gw_world.specs.Field.{Field, IsAt, field_changed, IsStepOf, AreStepsOf}
use Rattle.gw_world.specs.declared.world.WorldFault.{WorldFault}
use Rattle.gw_world.specs.declared.world.WorldFault.TheVariants as stops
use Rattle.gw_world.specs.inner.Events.{AgreeAlong, listing, CallMissing, CallsMissing}
use Rattle.gw_world.proofs.Failures.{can-write}
use Rattle.gw_world.proofs.Consistency.{FlushField, WholeField, steady-is, none-back, delta-agrees, call-sound}
use Rattle.gw_world.proofs.InRows.{Answers, at-changed, steps-later, step-later, one-call}
use Rattle.gw_world.proofs.Steadiness.{plan-agrees}

stands-in : {A : Type 0} (xs : List A) (k : ℕ) (x : A) → slice_get xs k ≡ Some x → Contains xs x
stands-in xs k x e = (k, slice_get_within xs k x e, get_or_from_slice_get xs k x x e)

call-agrees : (field : Field) (s : FlushField field) (w : WholeField field) (n i : ℕ) (g : Gateway) (at : IsAt field n i g) (call : Call) (step : Step) → IsStepOf field call step → CallAgrees g step
call-agrees field s w n i g at (calls.Frame from bytes now) step is =
    subst (λ (x : Step). CallAgrees g x) (sym is) (λ plan delta is_plan is_delta. plan-agrees field n i g (Datagram from bytes) now plan delta (steady-is field s w) at is_plan is_delta)
call-agrees field s w n i g at (calls.Tick now) step is =
    subst (λ (x : Step). CallAgrees g x) (sym is) (λ plan delta is_plan is_delta. plan-agrees field n i g Clock now plan delta (steady-is field s w) at is_plan is_delta)
call-agrees field s w n i g at (calls.Take delta) step is =
    subst (λ (x : Step). CallAgrees g x) (sym is.2) (delta-agrees field w g is.0 (stands-in field.gateways i g at.1) (stands-in field.deltas (delta - 1) is.0 is.1.1))

-- a field in which the gateway is the next one, and the calls behind are what they were
record Onward (n i : ℕ) (next : Gateway) (called : List Call) (more : List Step) : Type 0 where
  field : Field
  flush : FlushField field
  whole : WholeField field
  at : IsAt field n i next
  given : AreStepsOf field called more

module _ (before : Field) (s : FlushField before) (w : WholeField before) (n i : ℕ) (g : Gateway) (at : IsAt before n i g) (call : Call) (step : Step) (is : IsStepOf before call step) (called : List Call) (more : List Step) (given : AreStepsOf before called more)
    (fate : Option Failure) where
  abbrev fated_field : Field
  fated_field = field_changed before i (with_failure fate g) []

  fated_sound : FlushField fated_field × WholeField fated_field
  fated_sound = none-back before s w n i g at (with_failure fate g) (record { config = refl; taken = refl; none = refl })

  fated_at : IsAt fated_field n i (with_failure fate g)
  fated_at = at-changed before n i g (with_failure fate g) [] at refl

  onward : (answer : Result Out Refusal) (next : Gateway) (made : List (List Op)) → Event (with_failure fate g) step answer next made → Onward n i next called more
  onward answer next made (inl does) =
      let one = one-call fated_field n i (with_failure fate g) next call step answer made fated_at (step-later before i (with_failure fate g) [] call step is) does in
      let sound = call-sound fated_field (field_changed fated_field i next made) n call answer one.0 fated_sound.0 fated_sound.1 in
      record {
        field = field_changed fated_field i next made;
        flush = sound.flush;
        whole = sound.whole;
        at = at-changed fated_field n i (with_failure fate g) next made fated_at one.1;
        given = steps-later fated_field i next made called more (steps-later before i (with_failure fate g) [] called more given);
      }
  onward answer next made (inr none) = record {
    field = fated_field;
    flush = fated_sound.0;
    whole = fated_sound.1;
    at = subst (λ (x : Gateway). IsAt fated_field n i x) (sym none.1.same) fated_at;
    given = steps-later before i (with_failure fate g) [] called more given;
  }

pub agrees-along : (field : Field) (s : FlushField field) (w : WholeField field) (n i : ℕ) (g : Gateway) (at : IsAt field n i g) (called : List Call) (more : List Step) → AreStepsOf field called more → AgreeAlong g more
agrees-along field s w n i g at [] [] given = tt
agrees-along field s w n i g at (call ∷ called) (step ∷ more) given = (
  call-agrees field s w n i g at call step given.0,
  λ fate answer next made event. let o = onward field s w n i g at call step given.0 called more given.1 fate answer next made event in agrees-along o.field o.flush o.whole n i next o.at called more o.given,
)
agrees-along field s w n i g at [] (step ∷ more) given = absurd given
agrees-along field s w n i g at (call ∷ called) [] given = absurd given

-- ---- along the calls, and from some of them on

pub along-turn : (g : Gateway) (more : List Step) (fate : Option Failure) → AgreeAlong g more → AgreeInTurn (with_failure fate g) more
along-turn g [] fate h = tt
along-turn g (step ∷ more) fate h = (one g step fate h.0, λ answer next made event. along-turn next more next.drive.plan (h.1 fate answer next made event))
  where
    one : (g : Gateway) (step : Step) (fate : Option Failure) → CallAgrees g step → CallAgrees (with_failure fate g) step
    one g (steps.Frame from bytes now) fate h = h
    one g (steps.Take delta) fate h = h
    one g (steps.Tick now) fate h = h
    one g (steps.View client) fate h = tt
    one g steps.Digest fate h = tt
    one g (steps.Answer asked) fate h = tt
    one g steps.Compact fate h = tt
    one g steps.Reopen fate h = tt

pub along-take : (g : Gateway) (n : ℕ) (more : List Step) → AgreeAlong g more → AgreeAlong g (take n more)
along-take g zero more h = tt
along-take g (suc n) [] h = tt
along-take g (suc n) (step ∷ more) h = (h.0, λ fate answer next made event. along-take next n more (h.1 fate answer next made event))

pub along-after : (g next : Gateway) (front behind : List Step) (answers : Answers) (made : List (List Op)) → AgreeAlong g (front ++ behind) → InTurnBy StepOf g front answers next made → AgreeAlong next behind
along-after g next [] behind [] made h t = subst (λ (x : Gateway). AgreeAlong x behind) (sym t.same) h
along-after g next (step ∷ front) behind (answer ∷ answers) made h t = along-after t.0 next front behind answers t.2 (h.1 g.drive.plan answer t.0 t.1 (inl t.3)) t.4
along-after g next [] behind (answer ∷ answers) made h t = absurd t
along-after g next (step ∷ front) behind [] made h t = absurd t

-- ---- the list that the node's calls were made from

one-listed : (field : Field) (deltas : List (List Op)) → field.deltas ≡ deltas → (call : Call) (step : Step) → IsStepOf (listing deltas) call step → IsStepOf field call step
one-listed field deltas e (calls.Frame from bytes now) step h = h
one-listed field deltas e (calls.Tick now) step h = h
one-listed field deltas e (calls.Take delta) step h = (h.0, (h.1.0, ap (λ (ds : List (List Op)). slice_get ds (delta - 1)) e ∙ h.1.1), h.2)

pub steps-listed : (field : Field) (deltas : List (List Op)) → field.deltas ≡ deltas → (called : List Call) (more : List Step) → AreStepsOf (listing deltas) called more → AreStepsOf field called more
steps-listed field deltas e [] [] h = tt
steps-listed field deltas e (call ∷ called) (step ∷ more) h = (one-listed field deltas e call step h.0, steps-listed field deltas e called more h.1)
steps-listed field deltas e [] (step ∷ more) h = absurd h
steps-listed field deltas e (call ∷ called) [] h = absurd h

-- ---- calls as the node is asked them

pub steps-push : (field : Field) (called : List Call) (more : List Step) (call : Call) (step : Step) → AreStepsOf field called more → IsStepOf field call step → AreStepsOf field (called ++ call ∷ []) (more ++ step ∷ [])
steps-push field [] [] call step h is = (is, tt)
steps-push field (c ∷ called) (s ∷ more) call step h is = (h.0, steps-push field called more call step h.1 is)
steps-push field [] (s ∷ more) call step h is = absurd h
steps-push field (c ∷ called) [] call step h is = absurd h

pub steps-write : (field : Field) (called : List Call) (more : List Step) → AreStepsOf field called more → AllByRecursion CanWrite more
steps-write field [] [] h = tt
steps-write field (call ∷ called) (step ∷ more) h = (can-write field call step h.0, steps-write field called more h.1)
steps-write field [] (step ∷ more) h = absurd h
steps-write field (call ∷ called) [] h = absurd h

-- a call that is none of the node is one of those that are none
pub missing-among : (deltas : List (List Op)) (called : List Call) (k : ℕ) (call : Call) (number : ℕ) (fault : WorldFault) → slice_get called k ≡ Some call → CallMissing deltas call number fault → CallsMissing deltas called number fault
missing-among deltas called k call number (stops.NoGateway n) at h = absurd h
missing-among deltas called k call number (stops.NoDelta n) at h = (h.0, (h.1.0, subst (λ (c : Call). Contains called c) h.1.1 (stands-in called k call at), h.1.2))
missing-among deltas called k call number stops.Memory at h = tt
