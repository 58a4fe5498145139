-- No gateway passes a limit, nor would it with any first ones of the deltas that it refused.
use Rattle.std.proofs.Common.{◌≡◌, ℕ, zero, suc, Bool, false, true≢false, List, [], ◌∷◌, ◌++◌, length, take, take_all, Option, Some, None, Result, Ok, Err, refl, sym, ap, ◌∙◌, subst, append-nil, append_assoc, inl, inr, arith}
use Rattle.rep_op.specs.declared.op.Op.{Op}
use Rattle.rep_model.specs.Limits.{first_passed}
use Rattle.sn_plan.specs.declared.plan.Plan.{Plan}
use Rattle.gw_answer.specs.declared.out.Out.{Out}
use Rattle.gw_answer.specs.declared.refusal.Refusal.{Refusal}
use Rattle.gw_answer.specs.declared.refusal.Refusal.TheVariants as refusals
use Rattle.gw_event.specs.Occasions.{Occasion}
use Rattle.gw_event.specs.Gateways.{Gateway, with_refused}
use Rattle.gw_world.specs.Field.{failing_gateway}
use Rattle.gw_event.specs.Drives.{left_by, more_records}
use Rattle.gw_world.specs.Steps.{restarted}
use Rattle.std.specs.List.{AllByRecursion}
use Rattle.std.specs.Option.{option_to_list}
use Rattle.rep_ops.specs.Splitting.{all_of}
use Rattle.gw_answer.specs.declared.step.Step.{Step}
use Rattle.gw_answer.specs.declared.step.Step.TheVariants as steps
use Rattle.gw_event.specs.Event.{NothingHappens, IsTorn, IsMade, OwnStep, TakeStep, CompactStep, StepOf}
use Rattle.gw_event.specs.Together.{InTurnBy, CanWrite, if_any, put_by, put_by_all, AreTorn}
use Rattle.gw_event.proofs.Turns.{step_adds}
use Rattle.gw_node.proofs.Refused.{none_refused, without, one_refused, refused_is}

pub record HasRoom (gateway : Gateway) : Type 0 where
  pub now : first_passed gateway.taken ≡ None
  pub back : (n : ℕ) → first_passed (with_refused n gateway.taken gateway.refused) ≡ None
  pub runs : gateway.drive.halted ≡ false → gateway.refused ≡ []

still-room : (old new : Gateway) (made : List (List Op)) → NothingHappens old new made → HasRoom old → HasRoom new
still-room old new made u r = subst HasRoom (sym u.same) r

one-back : (S D : List Op) → first_passed S ≡ None → first_passed (S ++ D) ≡ None → (n : ℕ) → first_passed (with_refused n S (D ∷ [])) ≡ None
one-back S D now back n =
    elim (one_refused n S D) [
      | inl none ↦ ap (λ (T : List Op). first_passed T) none ∙ now
      | inr whole ↦ ap (λ (T : List Op). first_passed T) whole ∙ back
    ]

torn-room : (old : Gateway) (delta : List Op) (new : Gateway) (made : List (List Op)) → IsTorn old delta new made → HasRoom old → HasRoom new
torn-room old delta new made t r = subst HasRoom (sym t.halted) (record { now = r.now; back = one-back old.taken delta r.now t.takable.room; runs = λ e. absurd (true≢false e) })

pub nothing-more : (S : List Op) (refused : List (List Op)) → refused ≡ [] → first_passed S ≡ None → (n : ℕ) → first_passed (with_refused n S refused) ≡ None
nothing-more S refused none room n = ap (λ (T : List Op). first_passed T) (without n S refused none) ∙ room

made-room : (old : Gateway) (plan : Plan) (ops : List Op) (delta : Option (List Op)) (new : Gateway) (made : List (List Op)) → old.drive.halted ≡ false → IsMade ops old plan delta new made → HasRoom old → HasRoom new
made-room old plan [] None new made goes h r = subst HasRoom (sym h.1) (record { now = r.now; back = r.back; runs = r.runs })
made-room old plan [] (Some delta) new made goes h r = absurd h
made-room old plan (op ∷ ops) None new made goes h r = absurd h
made-room old plan (op ∷ ops) (Some delta) new made goes h r =
    subst HasRoom (sym h.4) (record { now = h.2.room; back = nothing-more (old.taken ++ delta) old.refused (r.runs goes) h.2.room; runs = λ _. r.runs goes })

pub own-room : (old : Gateway) (occasion : Occasion) (now : ℕ) (answer : Result Out Refusal) (new : Gateway) (made : List (List Op)) → OwnStep old occasion now answer new made → HasRoom old → HasRoom new
own-room old occasion now (Ok out) new made h r = made-room old h.0 h.0.ops out.made new made h.3 h.2.1 r
own-room old occasion now (Err (refusals.Frame fault)) new made h r = still-room old new made h.1 r
own-room old occasion now (Err refusals.Exhausted) new made h r = still-room old new made h.1 r
own-room old occasion now (Err (refusals.Conflict client)) new made h r = still-room old new made h.3 r
own-room old occasion now (Err refusals.Full) new made h r = still-room old new made h.3 r
own-room old occasion now (Err refusals.Halted) new made h r = still-room old new made h.1 r
own-room old occasion now (Err (refusals.Disk excuse)) new made h r = torn-room old h.2.delta new made h.2.torn r
own-room old occasion now (Err (refusals.Journal fault)) new made h r = absurd h
own-room old occasion now (Err refusals.Memory) new made h r = absurd h

pub take-room : (old : Gateway) (delta : List Op) (answer : Result Out Refusal) (new : Gateway) (made : List (List Op)) → TakeStep old delta answer new made → HasRoom old → HasRoom new
take-room old delta (Ok out) new made h r =
    subst HasRoom (sym h.3) (record { now = h.1.room; back = nothing-more (old.taken ++ delta) old.refused (r.runs h.5) h.1.room; runs = λ _. r.runs h.5 })
take-room old delta (Err (refusals.Conflict client)) new made h r = still-room old new made h.1 r
take-room old delta (Err refusals.Full) new made h r = still-room old new made h.1 r
take-room old delta (Err refusals.Halted) new made h r = still-room old new made h.1 r
take-room old delta (Err (refusals.Disk excuse)) new made h r = torn-room old delta new made h.2 r
take-room old delta (Err (refusals.Frame fault)) new made h r = absurd h
take-room old delta (Err refusals.Exhausted) new made h r = absurd h
take-room old delta (Err (refusals.Journal fault)) new made h r = absurd h
take-room old delta (Err refusals.Memory) new made h r = absurd h

pub compact-room : (old new : Gateway) (answer : Result Out Refusal) → CompactStep old answer new → HasRoom old → HasRoom new
compact-room old new (Ok out) h r = subst HasRoom (sym h.2.2) (record { now = r.now; back = r.back; runs = λ _. r.runs h.4 })
compact-room old new (Err (refusals.Journal fault)) h r = subst HasRoom (sym h.2) r
compact-room old new (Err refusals.Halted) h r = subst HasRoom (sym h.1) r
compact-room old new (Err (refusals.Disk excuse)) h r = subst HasRoom (sym h.2.4) (record { now = r.now; back = r.back; runs = λ _. r.runs h.3 })
compact-room old new (Err (refusals.Frame fault)) h r = absurd h
compact-room old new (Err (refusals.Conflict client)) h r = absurd h
compact-room old new (Err refusals.Full) h r = absurd h
compact-room old new (Err refusals.Exhausted) h r = absurd h
compact-room old new (Err refusals.Memory) h r = absurd h

pub failing-room : (bytes : ℕ) (sync : Bool) (old : Gateway) → HasRoom old → HasRoom (failing_gateway bytes sync old)
failing-room bytes sync old r = record { now = r.now; back = r.back; runs = r.runs }

pub restart-room : (kept : ℕ) (old : Gateway) → HasRoom old → HasRoom (restarted kept old)
restart-room kept old r =
    let room = r.back (more_records old.config.gateway old.drive (left_by kept old.drive)) in
    record { now = room; back = nothing-more (restarted kept old).taken [] refl room; runs = λ _. refl }

-- ---- calls whose write failed

made-now : (old : Gateway) (plan : Plan) (ops : List Op) (delta : Option (List Op)) (new : Gateway) (made : List (List Op)) → IsMade ops old plan delta new made → first_passed old.taken ≡ None
    → (n : ℕ) → first_passed (with_refused n old.taken (option_to_list delta)) ≡ None
made-now old plan [] None new made h now n = ap (λ (T : List Op). first_passed T) (none_refused n old.taken) ∙ now
made-now old plan [] (Some delta) new made h now n = absurd h
made-now old plan (op ∷ ops) None new made h now n = absurd h
made-now old plan (op ∷ ops) (Some delta) new made h now n = one-back old.taken delta now h.2.room n

any-now : (S delta : List Op) → first_passed S ≡ None → first_passed (S ++ delta) ≡ None → (n : ℕ) → first_passed (with_refused n S (if_any delta)) ≡ None
any-now S [] now room n = ap (λ (T : List Op). first_passed T) (none_refused n S) ∙ now
any-now S (op ∷ ops) now room n = one-back S (op ∷ ops) now room n

-- with what a call puts into the journal
put-now : (old : Gateway) (step : Step) (answer : Result Out Refusal) (new : Gateway) (made : List (List Op)) → CanWrite step → StepOf old step answer new made → first_passed old.taken ≡ None
    → (n : ℕ) → first_passed (with_refused n old.taken (put_by step answer)) ≡ None
put-now old (steps.Frame from bytes now) (Ok out) new made can h room n = made-now old h.0 h.0.ops out.made new made h.2.1 room n
put-now old (steps.Tick now) (Ok out) new made can h room n = made-now old h.0 h.0.ops out.made new made h.2.1 room n
put-now old (steps.Take delta) (Ok out) new made can h room n = any-now old.taken delta room h.1.room n
put-now old (steps.Frame from bytes now) (Err refusal) new made can h room n = ap (λ (T : List Op). first_passed T) (none_refused n old.taken) ∙ room
put-now old (steps.Tick now) (Err refusal) new made can h room n = ap (λ (T : List Op). first_passed T) (none_refused n old.taken) ∙ room
put-now old (steps.Take delta) (Err refusal) new made can h room n = ap (λ (T : List Op). first_passed T) (none_refused n old.taken) ∙ room
put-now old (steps.View client) answer new made can h room n = absurd can
put-now old steps.Digest answer new made can h room n = absurd can
put-now old (steps.Answer asked) answer new made can h room n = absurd can
put-now old steps.Compact answer new made can h room n = absurd can
put-now old steps.Reopen answer new made can h room n = absurd can

-- some first ones of two lists are some of the first, or all of it and some of the second
back-both : (S : List Op) (first more : List (List Op)) → ((n : ℕ) → first_passed (with_refused n S first) ≡ None) → ((n : ℕ) → first_passed (with_refused n (S ++ all_of first) more) ≡ None) → (n : ℕ) → first_passed (with_refused n S (first ++ more)) ≡ None
back-both S [] more f g n = ap (λ (T : List Op). first_passed (with_refused n T more)) (sym (append-nil S)) ∙ g n
back-both S (delta ∷ first) more f g zero = f zero
back-both S (delta ∷ first) more f g (suc n) =
    back-both (S ++ delta) first more (λ k. f (suc k)) (λ k. ap (λ (T : List Op). first_passed (with_refused k T more)) (append_assoc S delta (all_of first)) ∙ g k) n

-- all that was put there is within the limits
all-passed : (old : Gateway) (step : Step) (answer : Result Out Refusal) (new : Gateway) (made : List (List Op)) → CanWrite step → StepOf old step answer new made → first_passed old.taken ≡ None → first_passed new.taken ≡ None
all-passed old step answer new made can h room =
    let all = put-now old step answer new made can h room (length (put_by step answer)) in
    let whole = refused_is (length (put_by step answer)) old.taken (put_by step answer) ∙ ap (λ (ds : List (List Op)). old.taken ++ all_of ds) (take_all (length (put_by step answer)) (put_by step answer) (omega arith)) in
    ap (λ (T : List Op). first_passed T) (step_adds old new step answer made can h ∙ sym whole) ∙ all

turn-passed : (old : Gateway) (called : List Step) (answers : List (Result Out Refusal)) (new : Gateway) (made : List (List Op)) → AllByRecursion CanWrite called → InTurnBy StepOf old called answers new made → first_passed old.taken ≡ None
    → (n : ℕ) → first_passed (with_refused n old.taken (put_by_all called answers)) ≡ None
turn-passed old [] [] new made can h room n = ap (λ (T : List Op). first_passed T) (none_refused n old.taken) ∙ room
turn-passed old (step ∷ called) (answer ∷ answers) new made can h room n =
    let taken : h.0.taken ≡ old.taken ++ all_of (put_by step answer) = step_adds old h.0 step answer h.1 can.0 h.3 in
    let rest = turn-passed h.0 called answers new h.2 can.1 h.4 (all-passed old step answer h.0 h.1 can.0 h.3 room) in
    back-both old.taken (put_by step answer) (put_by_all called answers) (put-now old step answer h.0 h.1 can.0 h.3 room)
    (λ k. ap (λ (T : List Op). first_passed (with_refused k T (put_by_all called answers))) (sym taken) ∙ rest k) n
turn-passed old [] (answer ∷ answers) new made can h room n = absurd h
turn-passed old (step ∷ called) [] new made can h room n = absurd h

pub torn-row-room : (gateway next : Gateway) (step : Step) (answer : Result Out Refusal) (more : List Step) → AreTorn gateway step answer more next → HasRoom gateway → HasRoom next
torn-row-room gateway next step answer more t r =
    subst HasRoom (sym t.halted) (record {
      now = r.now;
      back = turn-passed (record gateway { drive = record gateway.drive { plan = None } }) (step ∷ more) t.would t.there t.made t.writing t.led r.now;
      runs = λ e. absurd (true≢false e);
    })
