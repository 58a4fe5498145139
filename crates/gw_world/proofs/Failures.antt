-- What a gateway has refused because its disk failed: nothing, as long as it goes on; else what it would have made itself, or a delta of the
-- list. And where no failure is arranged, nothing is ever refused so.
use Rattle.std.proofs.Common.{◌≡◌, ℕ, ◌-◌, zero, suc, Bool, true, false, true≢false, ◌⊎◌, List, [], ◌∷◌, ◌++◌, length, map, take, set, slice_get, Option, Some, None, option_map, Contains, Result, Ok, Err, refl, sym, ap, ◌∙◌, subst, append-nil, append_assoc, inl, inr}
use Rattle.std.proofs.lemmas.Option.{none-some, same_Some, slice_get-map}
use Rattle.rep_op.specs.declared.op.Op.{Op}
use Rattle.std.specs.List.{AllByRecursion}
use Rattle.std.specs.Option.{option_to_list}
use Rattle.sn_plan.proofs.Lists.{all-append}
use Rattle.rep_ops.specs.Deltas.{IsDelta}
use Rattle.rep_ops.specs.Splitting.{all_of}
use Rattle.rep_op.specs.Sets.{Same}
use Rattle.sn_local.specs.declared.config.Config.{Config}
use Rattle.sn_plan.specs.declared.plan.Plan.{Plan}
use Rattle.sn_local.specs.Seen.{seen_of}
use Rattle.sn_plan.specs.Own.{IsOfDraft}
use Rattle.gw_answer.specs.declared.out.Out.{Out}
use Rattle.gw_answer.specs.declared.refusal.Refusal.{Refusal}
use Rattle.gw_answer.specs.declared.refusal.Refusal.TheVariants as refusals
use Rattle.gw_event.specs.Occasions.{Occasion, Datagram, Clock}
use Rattle.gw_answer.specs.Answers.{said}
use Rattle.gw_answer.specs.declared.step.Step.{Step}
use Rattle.gw_world.specs.declared.event.Event.{Event}
use Rattle.gw_world.specs.declared.event.Event.TheVariants.{Frame, Tick, Take, Together as AtOnce, Answer as Asks, WriteFails, Compact, Restart, Show}
use Rattle.gw_world.specs.declared.event.Call.{Call}
use Rattle.gw_world.specs.declared.event.Call.TheVariants as calls
use Rattle.gw_world.specs.declared.event.Answer.{Answer}
use Rattle.gw_world.specs.declared.event.Answer.TheVariants.{Node, Row, Views, Records, Nothing}
use Rattle.gw_event.specs.Gateways.{Gateway, new_gateway}
use Rattle.gw_event.specs.Drives.{noted}
use Rattle.gw_world.specs.Field.{Field, new_field, IsStepOf, AreStepsOf, TogetherAt, After, failing_gateway}
use Rattle.gw_world.specs.Steps.{restarted}
use Rattle.gw_event.specs.Event.{NothingHappens, IsTorn, IsMade, OwnStep, TakeStep, CompactStep, StepOf}
use Rattle.gw_event.specs.Together.{InTurnBy, CanWrite, if_any, put_by, put_by_all, AreTorn}
use Rattle.gw_event.proofs.Turns.{step_adds}
use Rattle.gw_world.specs.Whole.{ArrangesFailure}
use Rattle.gw_world.proofs.Each.{set-cases}
use Rattle.gw_world.proofs.InRows.{Answers, got-before, CallAt, moved-config, fed-config, row-keeps}
use Rattle.gw_world.proofs.Steadiness.{plan-drafted, own-moves, take-moves}

-- ---- what was refused

-- a delta of its own, by what it had taken by then
pub record OwnDue (number : ℕ) (taken delta : List Op) : Type 0 where
  pub plan : Plan
  pub drafted : IsOfDraft number (seen_of taken) plan
  pub proper : IsDelta delta
  pub same : Same delta plan.ops

-- of its own, or of the list
abbrev pub OwnOrListed : List (List Op) → ℕ → List Op → List Op → Type 0
OwnOrListed deltas number taken delta = OwnDue number taken delta ⊎ ((k : ℕ) × (slice_get deltas k ≡ Some delta))

-- deltas one behind the other, each by what it had taken with those before
abbrev pub DueInTurn : List (List Op) → ℕ → List Op → List (List Op) → Type 0
DueInTurn deltas number taken [] = Unit {0}
DueInTurn deltas number taken (delta ∷ more) = OwnOrListed deltas number taken delta × DueInTurn deltas number (taken ++ delta) more

-- what was refused
abbrev pub DueAs : List (List Op) → Gateway → Type 0
DueAs deltas gateway = DueInTurn deltas gateway.config.gateway gateway.taken gateway.refused

pub record IsDue (deltas : List (List Op)) (gateway : Gateway) : Type 0 where
  pub runs : gateway.drive.halted ≡ false → gateway.refused ≡ []
  pub due : DueAs deltas gateway

abbrev pub AreDue : List Gateway → List (List Op) → Type 0
AreDue gs deltas = (j : ℕ) (gateway : Gateway) → slice_get gs j ≡ Some gateway → IsDue deltas gateway

one-as-more : (deltas made : List (List Op)) (number : ℕ) (taken delta : List Op) → OwnOrListed deltas number taken delta → OwnOrListed (deltas ++ made) number taken delta
one-as-more deltas made number taken delta (inl own) = inl own
one-as-more deltas made number taken delta (inr (k, there)) = inr (k, got-before deltas made k delta there)

pub turn-as-more : (deltas made : List (List Op)) (number : ℕ) (taken : List Op) (refused : List (List Op)) → DueInTurn deltas number taken refused → DueInTurn (deltas ++ made) number taken refused
turn-as-more deltas made number taken [] d = tt
turn-as-more deltas made number taken (delta ∷ refused) d = (one-as-more deltas made number taken delta d.0, turn-as-more deltas made number (taken ++ delta) refused d.1)

due-as-more : (deltas made : List (List Op)) (gateway : Gateway) → DueAs deltas gateway → DueAs (deltas ++ made) gateway
due-as-more deltas made gateway d = turn-as-more deltas made gateway.config.gateway gateway.taken gateway.refused d

due-more : (deltas made : List (List Op)) (gateway : Gateway) → IsDue deltas gateway → IsDue (deltas ++ made) gateway
due-more deltas made gateway d = record { runs = d.runs; due = due-as-more deltas made gateway d.due }

pub due-joined : (gs : List Gateway) (deltas made : List (List Op)) → AreDue gs deltas → AreDue gs (deltas ++ made)
due-joined gs deltas made d = λ j gateway there. due-more deltas made gateway (d j gateway there)

due-none : (deltas : List (List Op)) (gateway : Gateway) → gateway.refused ≡ [] → IsDue deltas gateway
due-none deltas gateway none = record { runs = λ _. none; due = subst (λ (refused : List (List Op)). DueInTurn deltas gateway.config.gateway gateway.taken refused) (sym none) tt }

due-set : (gs : List Gateway) (i : ℕ) (next : Gateway) (deltas made : List (List Op)) → AreDue gs deltas → IsDue (deltas ++ made) next → AreDue (set gs i next) (deltas ++ made)
due-set gs i next deltas made d one = λ j gateway there. elim (set-cases i j gs next gateway there) [
  | inl own ↦ subst (λ (g : Gateway). IsDue (deltas ++ made) g) (sym own) one
  | inr other ↦ due-more deltas made gateway (d j gateway other)
]

-- ---- one step

still-refuses : (old new : Gateway) (made : List (List Op)) → NothingHappens old new made → (deltas : List (List Op)) → IsDue deltas old → IsDue deltas new
still-refuses old new made u deltas d = subst (λ (g : Gateway). IsDue deltas g) (sym u.same) d

made-refuses : (old : Gateway) (plan : Plan) (ops : List Op) (delta : Option (List Op)) (new : Gateway) (made : List (List Op)) → IsMade ops old plan delta new made → new.refused ≡ old.refused
made-refuses old plan [] None new made h = ap (λ (x : Gateway). x.refused) h.1
made-refuses old plan [] (Some delta) new made h = absurd h
made-refuses old plan (op ∷ ops) None new made h = absurd h
made-refuses old plan (op ∷ ops) (Some delta) new made h = ap (λ (x : Gateway). x.refused) h.4

-- a halted gateway has refused its own delta
torn-own : (old : Gateway) (plan : Plan) (delta : List Op) (new : Gateway) (made deltas : List (List Op)) → IsOfDraft old.config.gateway (seen_of old.taken) plan → IsDelta delta → Same delta plan.ops
    → IsTorn old delta new made → IsDue deltas new
torn-own old plan delta new made deltas drafted proper same t =
    subst (λ (g : Gateway). IsDue deltas g) (sym t.halted)
    (record { runs = λ e. absurd (true≢false e); due = (inl (record { plan = plan; drafted = drafted; proper = proper; same = same }), tt) })

-- or one of the list
torn-listed : (old : Gateway) (delta : List Op) (new : Gateway) (made deltas : List (List Op)) (k : ℕ) → slice_get deltas k ≡ Some delta → IsTorn old delta new made → IsDue deltas new
torn-listed old delta new made deltas k there t =
    subst (λ (g : Gateway). IsDue deltas g) (sym t.halted) (record { runs = λ e. absurd (true≢false e); due = (inr (k, there), tt) })

own-due : (old : Gateway) (occasion : Occasion) (now : ℕ) (answer : Result Out Refusal) (new : Gateway) (made deltas : List (List Op)) → OwnStep old occasion now answer new made → IsDue deltas old → IsDue deltas new
own-due old occasion now (Ok out) new made deltas h d = due-none deltas new (made-refuses old h.0 h.0.ops out.made new made h.2.1 ∙ d.runs h.3)
own-due old occasion now (Err (refusals.Frame fault)) new made deltas h d = still-refuses old new made h.1 deltas d
own-due old occasion now (Err refusals.Exhausted) new made deltas h d = still-refuses old new made h.1 deltas d
own-due old occasion now (Err (refusals.Conflict client)) new made deltas h d = still-refuses old new made h.3 deltas d
own-due old occasion now (Err refusals.Full) new made deltas h d = still-refuses old new made h.3 deltas d
own-due old occasion now (Err refusals.Halted) new made deltas h d = still-refuses old new made h.1 deltas d
own-due old occasion now (Err (refusals.Disk excuse)) new made deltas h d =
    torn-own old h.0 h.2.delta new made deltas (plan-drafted old occasion now h.0 h.1) h.2.is_delta.delta h.2.is_delta.same h.2.torn
own-due old occasion now (Err (refusals.Journal fault)) new made deltas h d = absurd h
own-due old occasion now (Err refusals.Memory) new made deltas h d = absurd h

take-due : (old : Gateway) (k : ℕ) (delta : List Op) (answer : Result Out Refusal) (new : Gateway) (made deltas : List (List Op)) → slice_get deltas k ≡ Some delta → TakeStep old delta answer new made → IsDue deltas old → IsDue deltas new
take-due old k delta (Ok out) new made deltas there h d = due-none deltas new (ap (λ (x : Gateway). x.refused) h.3 ∙ d.runs h.5)
take-due old k delta (Err (refusals.Conflict client)) new made deltas there h d = still-refuses old new made h.1 deltas d
take-due old k delta (Err refusals.Full) new made deltas there h d = still-refuses old new made h.1 deltas d
take-due old k delta (Err refusals.Halted) new made deltas there h d = still-refuses old new made h.1 deltas d
take-due old k delta (Err (refusals.Disk excuse)) new made deltas there h d = torn-listed old delta new made deltas k there h.2
take-due old k delta (Err (refusals.Frame fault)) new made deltas there h d = absurd h
take-due old k delta (Err refusals.Exhausted) new made deltas there h d = absurd h
take-due old k delta (Err (refusals.Journal fault)) new made deltas there h d = absurd h
take-due old k delta (Err refusals.Memory) new made deltas there h d = absurd h

compact-due : (old : Gateway) (answer : Result Out Refusal) (new : Gateway) (deltas : List (List Op)) → CompactStep old answer new → IsDue deltas old → IsDue deltas new
compact-due old (Ok out) new deltas h d = due-none deltas new (ap (λ (x : Gateway). x.refused) h.2.2 ∙ d.runs h.4)
compact-due old (Err (refusals.Journal fault)) new deltas h d = subst (λ (g : Gateway). IsDue deltas g) (sym h.2) d
compact-due old (Err refusals.Halted) new deltas h d = subst (λ (g : Gateway). IsDue deltas g) (sym h.1) d
compact-due old (Err (refusals.Disk excuse)) new deltas h d = due-none deltas new (ap (λ (x : Gateway). x.refused) h.2.4 ∙ d.runs h.3)
compact-due old (Err (refusals.Frame fault)) new deltas h d = absurd h
compact-due old (Err (refusals.Conflict client)) new deltas h d = absurd h
compact-due old (Err refusals.Full) new deltas h d = absurd h
compact-due old (Err refusals.Exhausted) new deltas h d = absurd h
compact-due old (Err refusals.Memory) new deltas h d = absurd h

failing-due : (bytes : ℕ) (sync : Bool) (old : Gateway) (deltas : List (List Op)) → IsDue deltas old → IsDue deltas (failing_gateway bytes sync old)
failing-due bytes sync old deltas d = record { runs = d.runs; due = d.due }

-- ---- one event

abbrev pub DueField : Field → Type 0
DueField field = AreDue field.gateways field.deltas

call-due : (old new : Field) (number : ℕ) (call : Call) (answer : Result Out Refusal) → CallAt old number call answer new → DueField old → DueField new
call-due old new number (calls.Frame from bytes now) answer h d =
    subst DueField (sym h.6) (due-set old.gateways h.0 h.2 old.deltas h.3 d (due-more old.deltas h.3 h.2 (own-due h.1 (Datagram from bytes) now answer h.2 h.3 old.deltas h.5 (d h.0 h.1 h.4.1))))
call-due old new number (calls.Tick now) answer h d =
    subst DueField (sym h.6) (due-set old.gateways h.0 h.2 old.deltas h.3 d (due-more old.deltas h.3 h.2 (own-due h.1 Clock now answer h.2 h.3 old.deltas h.5 (d h.0 h.1 h.4.1))))
call-due old new number (calls.Take delta) answer h d =
    subst DueField (sym h.8) (due-set old.gateways h.0 h.2 old.deltas h.3 d (due-more old.deltas h.3 h.2 (take-due h.1 (delta - 1) h.4 answer h.2 h.3 old.deltas h.6.1 h.7 (d h.0 h.1 h.5.1))))

-- what holds of each delta that was refused holds of what comes back
pub due-all : (P : Op → Type 0) (deltas : List (List Op)) (number : ℕ) → ((taken delta : List Op) → OwnOrListed deltas number taken delta → AllByRecursion P delta)
    → (n : ℕ) (refused : List (List Op)) (taken : List Op) → DueInTurn deltas number taken refused → AllByRecursion P (all_of (take n refused))
due-all P deltas number f zero refused taken d = tt
due-all P deltas number f (suc n) [] taken d = tt
due-all P deltas number f (suc n) (delta ∷ refused) taken d = all-append P delta (all_of (take n refused)) (f taken delta d.0) (due-all P deltas number f n refused (taken ++ delta) d.1)

-- ---- where the write of several calls failed

due-both : (deltas : List (List Op)) (number : ℕ) (taken : List Op) (first more : List (List Op)) → DueInTurn deltas number taken first → DueInTurn deltas number (taken ++ all_of first) more → DueInTurn deltas number taken (first ++ more)
due-both deltas number taken [] more d e = subst (λ (T : List Op). DueInTurn deltas number T more) (append-nil taken) e
due-both deltas number taken (delta ∷ first) more d e =
    (d.0, due-both deltas number (taken ++ delta) first more d.1 (subst (λ (T : List Op). DueInTurn deltas number T more) (sym (append_assoc taken delta (all_of first))) e))

made-turn : (deltas : List (List Op)) (old : Gateway) (plan : Plan) (ops : List Op) (delta : Option (List Op)) (new : Gateway) (made : List (List Op)) → IsOfDraft old.config.gateway (seen_of old.taken) plan → plan.ops ≡ ops
    → IsMade ops old plan delta new made → DueInTurn deltas old.config.gateway old.taken (option_to_list delta)
made-turn deltas old plan [] None new made p e h = tt
made-turn deltas old plan [] (Some delta) new made p e h = absurd h
made-turn deltas old plan (op ∷ ops) None new made p e h = absurd h
made-turn deltas old plan (op ∷ ops) (Some delta) new made p e h =
    (inl (record { plan = plan; drafted = p; proper = h.0.delta; same = subst (Same delta) (sym e) h.0.same }), tt)

own-turn : (deltas : List (List Op)) (old : Gateway) (occasion : Occasion) (now : ℕ) (out : Out) (new : Gateway) (made : List (List Op)) → OwnStep old occasion now (Ok out) new made → DueInTurn deltas old.config.gateway old.taken (option_to_list out.made)
own-turn deltas old occasion now out new made h = made-turn deltas old h.0 h.0.ops out.made new made (plan-drafted old occasion now h.0 h.1) refl h.2.1

taken-turn : (deltas : List (List Op)) (number : ℕ) (taken delta : List Op) (k : ℕ) → slice_get deltas k ≡ Some delta → DueInTurn deltas number taken (if_any delta)
taken-turn deltas number taken [] k there = tt
taken-turn deltas number taken (op ∷ ops) k there = (inr (k, there), tt)

-- what a call puts into the journal is due by what was taken before it
call-turn : (field : Field) (call : Call) (answer : Result Out Refusal) (old new : Gateway) (made : List (List Op)) (step : Step) → IsStepOf field call step → StepOf old step answer new made
    → DueInTurn field.deltas old.config.gateway old.taken (put_by step answer)
call-turn field (calls.Frame from bytes now) (Ok out) old new made step is h =
    subst (λ (s : Step). DueInTurn field.deltas old.config.gateway old.taken (put_by s (Ok out))) (sym is)
    (own-turn field.deltas old (Datagram from bytes) now out new made (subst (λ (s : Step). StepOf old s (Ok out) new made) is h))
call-turn field (calls.Tick now) (Ok out) old new made step is h =
    subst (λ (s : Step). DueInTurn field.deltas old.config.gateway old.taken (put_by s (Ok out))) (sym is)
    (own-turn field.deltas old Clock now out new made (subst (λ (s : Step). StepOf old s (Ok out) new made) is h))
call-turn field (calls.Take delta) (Ok out) old new made step is h =
    subst (λ (s : Step). DueInTurn field.deltas old.config.gateway old.taken (put_by s (Ok out))) (sym is.2) (taken-turn field.deltas old.config.gateway old.taken is.0 (delta - 1) is.1.1)
call-turn field (calls.Frame from bytes now) (Err refusal) old new made step is h = subst (λ (s : Step). DueInTurn field.deltas old.config.gateway old.taken (put_by s (Err refusal))) (sym is) tt
call-turn field (calls.Tick now) (Err refusal) old new made step is h = subst (λ (s : Step). DueInTurn field.deltas old.config.gateway old.taken (put_by s (Err refusal))) (sym is) tt
call-turn field (calls.Take delta) (Err refusal) old new made step is h = subst (λ (s : Step). DueInTurn field.deltas old.config.gateway old.taken (put_by s (Err refusal))) (sym is.2) tt

pub can-write : (field : Field) (call : Call) (step : Step) → IsStepOf field call step → CanWrite step
can-write field (calls.Frame from bytes now) step is = subst CanWrite (sym is) tt
can-write field (calls.Tick now) step is = subst CanWrite (sym is) tt
can-write field (calls.Take delta) step is = subst CanWrite (sym is.2) tt

config-kept : (field : Field) (call : Call) (answer : Result Out Refusal) (old new : Gateway) (made : List (List Op)) (step : Step) → IsStepOf field call step → StepOf old step answer new made → new.config ≡ old.config
config-kept field (calls.Frame from bytes now) answer old new made step is h =
    moved-config old new made (own-moves old (Datagram from bytes) now answer new made (subst (λ (s : Step). StepOf old s answer new made) is h))
config-kept field (calls.Tick now) answer old new made step is h = moved-config old new made (own-moves old Clock now answer new made (subst (λ (s : Step). StepOf old s answer new made) is h))
config-kept field (calls.Take delta) answer old new made step is h =
    fed-config old new is.0 made (take-moves old is.0 answer new made (subst (λ (s : Step). StepOf old s answer new made) is.2 h))

calls-turn : (field : Field) (called : List Call) (more : List Step) (answers : Answers) (old new : Gateway) (made : List (List Op)) → AreStepsOf field called more → InTurnBy StepOf old more answers new made
    → DueInTurn field.deltas old.config.gateway old.taken (put_by_all more answers)
calls-turn field [] [] [] old new made is h = tt
calls-turn field (call ∷ called) (step ∷ more) (answer ∷ answers) old new made is h =
    let first = call-turn field call answer old h.0 h.1 step is.0 h.3 in
    let taken : h.0.taken ≡ old.taken ++ all_of (put_by step answer) = step_adds old h.0 step answer h.1 (can-write field call step is.0) h.3 in
    let config : h.0.config.gateway ≡ old.config.gateway = ap (λ (c : Config). c.gateway) (config-kept field call answer old h.0 h.1 step is.0 h.3) in
    let rest = calls-turn field called more answers h.0 new h.2 is.1 h.4 in
    due-both field.deltas old.config.gateway old.taken (put_by step answer) (put_by_all more answers) first
    (subst (λ (T : List Op). DueInTurn field.deltas old.config.gateway T (put_by_all more answers)) taken (subst (λ (n : ℕ). DueInTurn field.deltas n h.0.taken (put_by_all more answers)) config rest))
calls-turn field [] [] (answer ∷ answers) old new made is h = absurd h
calls-turn field [] (step ∷ more) answers old new made is h = absurd is
calls-turn field (call ∷ called) [] answers old new made is h = absurd is
calls-turn field (call ∷ called) (step ∷ more) [] old new made is h = absurd h

torn-row-due : (field : Field) (i : ℕ) (gateway next : Gateway) (behind : List Call) (step : Step) (answer : Result Out Refusal) (more : List Step) → AreStepsOf field behind (step ∷ more) → AreTorn gateway step answer more next → IsDue field.deltas next
torn-row-due field i gateway next behind step answer more is t =
    subst (λ (g : Gateway). IsDue field.deltas g) (sym t.halted) (record {
      runs = λ e. absurd (true≢false e);
      due = calls-turn field behind (step ∷ more) t.would (record gateway { drive = record gateway.drive { plan = None } }) t.there t.made is t.led;
    })

row-due : (old new : Field) (number : ℕ) (called : List Call) (answers : Answers) → TogetherAt old number called answers new → DueField old → DueField new
row-due old new number called answers h d =
    row-keeps DueField number (λ before after call answer. call-due before after number call answer)
    (λ field i gateway next behind step answer more at is t due. due-set field.gateways i next field.deltas [] due (due-more field.deltas [] next (torn-row-due field i gateway next behind step answer more is t)))
    old new called answers h d

pub after-due : (old : Field) (event : Event) (answer : Answer) (new : Field) → After old event answer new → DueField old → DueField new
after-due old (Frame number from bytes now) (Node answer) new h d = call-due old new number (calls.Frame from bytes now) (said answer) h d
after-due old (Tick number now) (Node answer) new h d = call-due old new number (calls.Tick now) (said answer) h d
after-due old (Take number delta) (Node answer) new h d = call-due old new number (calls.Take delta) (said answer) h d
after-due old (AtOnce number calls) (Row answers) new h d = row-due old new number calls (map said answers) h d
after-due old (Asks number peer) (Node answer) new h d = subst DueField (sym h.8) (due-joined old.gateways old.deltas h.4 d)
after-due old (WriteFails number bytes sync) Nothing new h d =
    subst DueField (sym h.3) (due-set old.gateways h.0 (failing_gateway bytes sync h.1) old.deltas [] d (due-more old.deltas [] (failing_gateway bytes sync h.1) (failing-due bytes sync h.1 old.deltas (d h.0 h.1 h.2.1))))
after-due old (Compact number) (Node answer) new h d =
    subst DueField (sym h.5) (due-set old.gateways h.0 h.2 old.deltas [] d (due-more old.deltas [] h.2 (compact-due h.1 (said answer) h.2 old.deltas h.4 (d h.0 h.1 h.3.1))))
after-due old (Restart number kept) (Records count) new h d =
    subst DueField (sym h.4) (due-set old.gateways h.0 (restarted kept h.1) old.deltas [] d (due-none (old.deltas ++ []) (restarted kept h.1) refl))
after-due old (Show number) (Views views topics) new h d = subst DueField (sym h.4) d
after-due old (Frame number from bytes now) (Views views topics) new h d = absurd h
after-due old (Frame number from bytes now) (Records count) new h d = absurd h
after-due old (Frame number from bytes now) Nothing new h d = absurd h
after-due old (Tick number now) (Views views topics) new h d = absurd h
after-due old (Tick number now) (Records count) new h d = absurd h
after-due old (Tick number now) Nothing new h d = absurd h
after-due old (Take number delta) (Views views topics) new h d = absurd h
after-due old (Take number delta) (Records count) new h d = absurd h
after-due old (Take number delta) Nothing new h d = absurd h
after-due old (Asks number peer) (Views views topics) new h d = absurd h
after-due old (Asks number peer) (Records count) new h d = absurd h
after-due old (Asks number peer) Nothing new h d = absurd h
after-due old (WriteFails number bytes sync) (Node answer) new h d = absurd h
after-due old (WriteFails number bytes sync) (Views views topics) new h d = absurd h
after-due old (WriteFails number bytes sync) (Records count) new h d = absurd h
after-due old (Compact number) (Views views topics) new h d = absurd h
after-due old (Compact number) (Records count) new h d = absurd h
after-due old (Compact number) Nothing new h d = absurd h
after-due old (Restart number kept) (Node answer) new h d = absurd h
after-due old (Restart number kept) (Views views topics) new h d = absurd h
after-due old (Restart number kept) Nothing new h d = absurd h
after-due old (Show number) (Node answer) new h d = absurd h
after-due old (Show number) (Records count) new h d = absurd h
after-due old (Show number) Nothing new h d = absurd h
after-due old (AtOnce number calls) (Node answer) new h d = absurd h
after-due old (AtOnce number calls) (Views views topics) new h d = absurd h
after-due old (AtOnce number calls) (Records count) new h d = absurd h
after-due old (AtOnce number calls) Nothing new h d = absurd h
after-due old (Frame number from bytes now) (Row answers) new h d = absurd h
after-due old (Tick number now) (Row answers) new h d = absurd h
after-due old (Take number delta) (Row answers) new h d = absurd h
after-due old (Asks number peer) (Row answers) new h d = absurd h
after-due old (WriteFails number bytes sync) (Row answers) new h d = absurd h
after-due old (Compact number) (Row answers) new h d = absurd h
after-due old (Restart number kept) (Row answers) new h d = absurd h
after-due old (Show number) (Row answers) new h d = absurd h

start-refused : (configs : List Config) (j : ℕ) (gateway : Gateway) → slice_get (map new_gateway configs) j ≡ Some gateway → (gateway.refused ≡ []) × (gateway.drive.plan ≡ None)
start-refused configs j gateway e = found (slice_get configs j) (sym (slice_get-map new_gateway configs j) ∙ e)
  where
    found : (o : Option Config) → option_map new_gateway o ≡ Some gateway → (gateway.refused ≡ []) × (gateway.drive.plan ≡ None)
    found None e = absurd (none-some gateway e)
    found (Some config) e = let same = same_Some (new_gateway config) gateway e in (ap (λ (x : Gateway). x.refused) (sym same), ap (λ (x : Gateway). x.drive.plan) (sym same))

pub start-due : (configs : List Config) → DueField (new_field configs)
start-due configs j gateway e = due-none [] gateway (start-refused configs j gateway e).0

-- ---- where no failure is arranged

abbrev pub IsWell : Gateway → Type 0
IsWell gateway = (gateway.refused ≡ []) × (gateway.drive.plan ≡ None)

abbrev pub AreWell : Field → Type 0
AreWell field = (j : ℕ) (gateway : Gateway) → slice_get field.gateways j ≡ Some gateway → IsWell gateway

well-set : (gs : List Gateway) (i : ℕ) (next : Gateway) → ((j : ℕ) (g : Gateway) → slice_get gs j ≡ Some g → IsWell g) → IsWell next → (j : ℕ) (g : Gateway) → slice_get (set gs i next) j ≡ Some g → IsWell g
well-set gs i next w one j g there = elim (set-cases i j gs next g there) [
  | inl own ↦ subst IsWell (sym own) one
  | inr other ↦ w j g other
]

well-still : (old new : Gateway) (made : List (List Op)) → NothingHappens old new made → IsWell old → IsWell new
well-still old new made u w = subst IsWell (sym u.same) w

never-torn : (old : Gateway) (delta : List Op) (new : Gateway) (made : List (List Op)) → IsTorn old delta new made → IsWell old → ⊥
never-torn old delta new made t w = none-some t.failure (sym w.1 ∙ t.planned)

well-made : (old : Gateway) (plan : Plan) (ops : List Op) (delta : Option (List Op)) (new : Gateway) (made : List (List Op)) → IsMade ops old plan delta new made → IsWell old → IsWell new
well-made old plan [] None new made h w = (ap (λ (x : Gateway). x.refused) h.1 ∙ w.0, ap (λ (x : Gateway). x.drive.plan) h.1 ∙ w.1)
well-made old plan [] (Some delta) new made h w = absurd h
well-made old plan (op ∷ ops) None new made h w = absurd h
well-made old plan (op ∷ ops) (Some delta) new made h w = (ap (λ (x : Gateway). x.refused) h.4 ∙ w.0, ap (λ (x : Gateway). x.drive.plan) h.4 ∙ w.1)

own-well : (old : Gateway) (occasion : Occasion) (now : ℕ) (answer : Result Out Refusal) (new : Gateway) (made : List (List Op)) → OwnStep old occasion now answer new made → IsWell old → IsWell new
own-well old occasion now (Ok out) new made h w = well-made old h.0 h.0.ops out.made new made h.2.1 w
own-well old occasion now (Err (refusals.Frame fault)) new made h w = well-still old new made h.1 w
own-well old occasion now (Err refusals.Exhausted) new made h w = well-still old new made h.1 w
own-well old occasion now (Err (refusals.Conflict client)) new made h w = well-still old new made h.3 w
own-well old occasion now (Err refusals.Full) new made h w = well-still old new made h.3 w
own-well old occasion now (Err refusals.Halted) new made h w = well-still old new made h.1 w
own-well old occasion now (Err (refusals.Disk excuse)) new made h w = absurd (never-torn old h.2.delta new made h.2.torn w)
own-well old occasion now (Err (refusals.Journal fault)) new made h w = absurd h
own-well old occasion now (Err refusals.Memory) new made h w = absurd h

noted-plan : (old : Gateway) (delta : List Op) → (noted delta old.drive).plan ≡ old.drive.plan
noted-plan old [] = refl
noted-plan old (op ∷ ops) = refl

take-well : (old : Gateway) (delta : List Op) (answer : Result Out Refusal) (new : Gateway) (made : List (List Op)) → TakeStep old delta answer new made → IsWell old → IsWell new
take-well old delta (Ok out) new made h w = (ap (λ (x : Gateway). x.refused) h.3 ∙ w.0, ap (λ (x : Gateway). x.drive.plan) h.3 ∙ noted-plan old delta ∙ w.1)
take-well old delta (Err (refusals.Conflict client)) new made h w = well-still old new made h.1 w
take-well old delta (Err refusals.Full) new made h w = well-still old new made h.1 w
take-well old delta (Err refusals.Halted) new made h w = well-still old new made h.1 w
take-well old delta (Err (refusals.Disk excuse)) new made h w = absurd (never-torn old delta new made h.2 w)
take-well old delta (Err (refusals.Frame fault)) new made h w = absurd h
take-well old delta (Err refusals.Exhausted) new made h w = absurd h
take-well old delta (Err (refusals.Journal fault)) new made h w = absurd h
take-well old delta (Err refusals.Memory) new made h w = absurd h

compact-well : (old : Gateway) (answer : Result Out Refusal) (new : Gateway) → CompactStep old answer new → IsWell old → IsWell new
compact-well old (Ok out) new h w = (ap (λ (x : Gateway). x.refused) h.2.2 ∙ w.0, ap (λ (x : Gateway). x.drive.plan) h.2.2 ∙ w.1)
compact-well old (Err (refusals.Journal fault)) new h w = subst IsWell (sym h.2) w
compact-well old (Err refusals.Halted) new h w = subst IsWell (sym h.1) w
compact-well old (Err (refusals.Disk excuse)) new h w = absurd (none-some h.2.1 (sym w.1 ∙ h.2.3))
compact-well old (Err (refusals.Frame fault)) new h w = absurd h
compact-well old (Err (refusals.Conflict client)) new h w = absurd h
compact-well old (Err refusals.Full) new h w = absurd h
compact-well old (Err refusals.Exhausted) new h w = absurd h
compact-well old (Err refusals.Memory) new h w = absurd h

call-well : (old new : Field) (number : ℕ) (call : Call) (answer : Result Out Refusal) → CallAt old number call answer new → AreWell old → AreWell new
call-well old new number (calls.Frame from bytes now) answer h w =
    subst AreWell (sym h.6) (well-set old.gateways h.0 h.2 w (own-well h.1 (Datagram from bytes) now answer h.2 h.3 h.5 (w h.0 h.1 h.4.1)))
call-well old new number (calls.Tick now) answer h w =
    subst AreWell (sym h.6) (well-set old.gateways h.0 h.2 w (own-well h.1 Clock now answer h.2 h.3 h.5 (w h.0 h.1 h.4.1)))
call-well old new number (calls.Take delta) answer h w =
    subst AreWell (sym h.8) (well-set old.gateways h.0 h.2 w (take-well h.1 h.4 answer h.2 h.3 h.7 (w h.0 h.1 h.5.1)))

row-well : (old new : Field) (number : ℕ) (called : List Call) (answers : Answers) → TogetherAt old number called answers new → AreWell old → AreWell new
row-well old new number called answers h w =
    row-keeps AreWell number (λ before after call answer. call-well before after number call answer)
    (λ field i gateway next behind step answer more at is t well. absurd (none-some t.failure (sym (well i gateway at.1).1 ∙ t.planned)))
    old new called answers h w

pub after-well : (old : Field) (event : Event) (answer : Answer) (new : Field) → After old event answer new → ¬ (ArrangesFailure event) → AreWell old → AreWell new
after-well old (Frame number from bytes now) (Node answer) new h never w = call-well old new number (calls.Frame from bytes now) (said answer) h w
after-well old (Tick number now) (Node answer) new h never w = call-well old new number (calls.Tick now) (said answer) h w
after-well old (Take number delta) (Node answer) new h never w = call-well old new number (calls.Take delta) (said answer) h w
after-well old (AtOnce number calls) (Row answers) new h never w = row-well old new number calls (map said answers) h w
after-well old (Asks number peer) (Node answer) new h never w = subst AreWell (sym h.8) w
after-well old (WriteFails number bytes sync) Nothing new h never w = absurd (never tt)
after-well old (Compact number) (Node answer) new h never w =
    subst AreWell (sym h.5) (well-set old.gateways h.0 h.2 w (compact-well h.1 (said answer) h.2 h.4 (w h.0 h.1 h.3.1)))
after-well old (Restart number kept) (Records count) new h never w =
    subst AreWell (sym h.4) (well-set old.gateways h.0 (restarted kept h.1) w (refl, (w h.0 h.1 h.2.1).1))
after-well old (Show number) (Views views topics) new h never w = subst AreWell (sym h.4) w
after-well old (Frame number from bytes now) (Views views topics) new h never w = absurd h
after-well old (Frame number from bytes now) (Records count) new h never w = absurd h
after-well old (Frame number from bytes now) Nothing new h never w = absurd h
after-well old (Tick number now) (Views views topics) new h never w = absurd h
after-well old (Tick number now) (Records count) new h never w = absurd h
after-well old (Tick number now) Nothing new h never w = absurd h
after-well old (Take number delta) (Views views topics) new h never w = absurd h
after-well old (Take number delta) (Records count) new h never w = absurd h
after-well old (Take number delta) Nothing new h never w = absurd h
after-well old (Asks number peer) (Views views topics) new h never w = absurd h
after-well old (Asks number peer) (Records count) new h never w = absurd h
after-well old (Asks number peer) Nothing new h never w = absurd h
after-well old (WriteFails number bytes sync) (Node answer) new h never w = absurd h
after-well old (WriteFails number bytes sync) (Views views topics) new h never w = absurd h
after-well old (WriteFails number bytes sync) (Records count) new h never w = absurd h
after-well old (Compact number) (Views views topics) new h never w = absurd h
after-well old (Compact number) (Records count) new h never w = absurd h
after-well old (Compact number) Nothing new h never w = absurd h
after-well old (Restart number kept) (Node answer) new h never w = absurd h
after-well old (Restart number kept) (Views views topics) new h never w = absurd h
after-well old (Restart number kept) Nothing new h never w = absurd h
after-well old (Show number) (Node answer) new h never w = absurd h
after-well old (Show number) (Records count) new h never w = absurd h
after-well old (Show number) Nothing new h never w = absurd h
after-well old (AtOnce number calls) (Node answer) new h never w = absurd h
after-well old (AtOnce number calls) (Views views topics) new h never w = absurd h
after-well old (AtOnce number calls) (Records count) new h never w = absurd h
after-well old (AtOnce number calls) Nothing new h never w = absurd h
after-well old (Frame number from bytes now) (Row answers) new h never w = absurd h
after-well old (Tick number now) (Row answers) new h never w = absurd h
after-well old (Take number delta) (Row answers) new h never w = absurd h
after-well old (Asks number peer) (Row answers) new h never w = absurd h
after-well old (WriteFails number bytes sync) (Row answers) new h never w = absurd h
after-well old (Compact number) (Row answers) new h never w = absurd h
after-well old (Restart number kept) (Row answers) new h never w = absurd h
after-well old (Show number) (Row answers) new h never w = absurd h

pub start-well : (configs : List Config) → AreWell (new_field configs)
start-well configs j gateway e = start-refused configs j gateway e
