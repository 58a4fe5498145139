-- A node is asked calls with one write, the first ones and then the others: it does them as if it had been asked them at once.
use Rattle.std.proofs.Common.{◌≡◌, ◌⊎◌, ◌<◌, ◌≤◌, ◌+◌, ◌-◌, ℕ, zero, suc, false, List, [], ◌∷◌, ◌++◌, length, map, take, drop, Option, Some, None, Result, Ok, Err, refl, sym, ap, ◌∙◌, subst, append-nil, append_assoc, inl, inr, arith}
use Rattle.std.specs.List.{AllByRecursion}
use Rattle.std.specs.Option.{option_to_list}
use Rattle.std.proofs.lemmas.Option.{none-some}
use Rattle.std.proofs.lemmas.List.{length-append, take_all}
use Rattle.rep_op.specs.declared.op.Op.{Op}
use Rattle.rep_model.proofs.Joins.{all-left, all-right}
use Rattle.sn_plan.specs.declared.plan.Plan.{Plan}
use Rattle.sn_plan.proofs.Lists.{all-append}
use Rattle.jr_disk.specs.declared.disk.Disk.{Ghosts}
use Rattle.jr_disk.specs.declared.disk.Failure.{Failure}
use Rattle.jr_journal.specs.Parts.{disk_under}
use Rattle.gw_answer.specs.declared.out.Out.{Out}
use Rattle.gw_answer.specs.declared.refusal.Refusal.{Refusal}
use Rattle.gw_answer.specs.declared.refusal.Refusal.TheVariants as refusals
use Rattle.gw_answer.specs.declared.step.Step.{Step}
use Rattle.gw_answer.specs.declared.step.Step.TheVariants as steps
use Rattle.gw_event.specs.Occasions.{Occasion, Datagram, Clock}
use Rattle.gw_event.specs.Gateways.{Gateway}
use Rattle.gw_event.specs.Event.{NothingHappens, IsTorn, IsMade, OwnStep, TakeStep, StepOf, Event}
use Rattle.gw_event.specs.Together.{InTurnBy, InTurn, CanWrite, if_any, put_by, put_by_all, halted_all, StopShort, FailsLast, Together}
use Rattle.gw_event.proofs.Turns.{turn_append}
use Rattle.gw_node.specs.Parts.{State}
use Rattle.gw_node.specs.Standing.{with_failure, CanBeSaid, CanAllBeSaid, EventsOn}
use Rattle.gw_world.specs.Field.{AreFed}
use Rattle.gw_world.specs.Keeping.{IsShown}
use Rattle.gw_world.specs.inner.Events.{IsFed, IsNoFailure, AgreeAlong, RowLeads, RowDone, GoesTogether}
use Rattle.gw_world.proofs.Agreeing.{along-turn, along-take, along-after}
use Rattle.gw_world.proofs.InRows.{Answers, turn-fed}

abbrev pub NoneFailed : Answers → Type 0
NoneFailed answers = AllByRecursion IsNoFailure answers

-- ---- lists

take-none : {A : Type 0} (n : ℕ) → ◌≡◌ {A = List A} (take n []) []
take-none zero = refl
take-none (suc n) = refl

drop-none : {A : Type 0} (n : ℕ) → ◌≡◌ {A = List A} (drop n []) []
drop-none zero = refl
drop-none (suc n) = refl

take-drop : {A : Type 0} (n : ℕ) (xs : List A) → take n xs ++ drop n xs ≡ xs
take-drop zero xs = refl
take-drop (suc n) [] = refl
take-drop (suc n) (x ∷ xs) = ap (λ ys. x ∷ ys) (take-drop n xs)

take-whole : {A B : Type 0} (ys : List B) (xs : List A) → length ys ≡ length xs → take (length ys) xs ≡ xs
take-whole [] [] e = refl
take-whole (y ∷ ys) (x ∷ xs) e = ap (λ zs. x ∷ zs) (take-whole ys xs (omega (arith, e)))
take-whole [] (x ∷ xs) e = absurd (omega (arith, e))
take-whole (y ∷ ys) [] e = absurd (omega (arith, e))

taken-more : {A B : Type 0} (before replies : List B) (called : List A) → take (length (before ++ replies)) called ≡ take (length before) called ++ take (length replies) (drop (length before) called)
taken-more [] replies called = refl
taken-more (x ∷ before) replies [] = sym (take-none (length replies))
taken-more (x ∷ before) replies (s ∷ called) = ap (λ ys. s ∷ ys) (taken-more before replies called)

dropped-more : {A B : Type 0} (before replies : List B) (called : List A) → drop (length (before ++ replies)) called ≡ drop (length replies) (drop (length before) called)
dropped-more [] replies called = refl
dropped-more (x ∷ before) replies [] = sym (drop-none (length replies))
dropped-more (x ∷ before) replies (s ∷ called) = dropped-more before replies called

all-take : {A : Type 0} (P : A → Type 0) (n : ℕ) (xs : List A) → AllByRecursion P xs → AllByRecursion P (take n xs)
all-take P n xs h = all-left P (take n xs) (drop n xs) (subst (λ ys. AllByRecursion P ys) (sym (take-drop n xs)) h)

all-drop : {A : Type 0} (P : A → Type 0) (n : ℕ) (xs : List A) → AllByRecursion P xs → AllByRecursion P (drop n xs)
all-drop P n xs h = all-right P (take n xs) (drop n xs) (subst (λ ys. AllByRecursion P ys) (sym (take-drop n xs)) h)

-- ---- a failure that is still arranged met no write

plan-kept : (old new : Gateway) (made : List (List Op)) (f : Failure) → NothingHappens old new made → new.drive.plan ≡ Some f → old.drive.plan ≡ Some f
plan-kept old new made f u e = sym (ap (λ (g : Gateway). g.drive.plan) u.same) ∙ e

plan-met : (old new : Gateway) (delta : List Op) (made : List (List Op)) (f : Failure) → IsTorn old delta new made → new.drive.plan ≡ Some f → ⊥
plan-met old new delta made f t e = none-some f (sym (ap (λ (g : Gateway). g.drive.plan) t.halted) ∙ e)

made-quiet : (old : Gateway) (plan : Plan) (ops : List Op) (delta : Option (List Op)) (new : Gateway) (made : List (List Op)) (f : Failure) → IsMade ops old plan delta new made → new.drive.plan ≡ Some f
    → (old.drive.plan ≡ Some f) × (option_to_list delta ≡ [])
made-quiet old plan [] None new made f h e = (sym (ap (λ (g : Gateway). g.drive.plan) h.1) ∙ e, refl)
made-quiet old plan [] (Some delta) new made f h e = absurd h
made-quiet old plan (op ∷ ops) None new made f h e = absurd h
made-quiet old plan (op ∷ ops) (Some delta) new made f h e = absurd (none-some f (sym h.5 ∙ sym (ap (λ (g : Gateway). g.drive.plan) h.4) ∙ e))

own-quiet : (old new : Gateway) (occasion : Occasion) (now : ℕ) (answer : Result Out Refusal) (made : List (List Op)) (f : Failure) → OwnStep old occasion now answer new made → new.drive.plan ≡ Some f
    → (old.drive.plan ≡ Some f) × (put_by (steps.Tick now) answer ≡ [])
own-quiet old new occasion now (Ok out) made f h e = made-quiet old h.0 h.0.ops out.made new made f h.2.1 e
own-quiet old new occasion now (Err (refusals.Frame fault)) made f h e = (plan-kept old new made f h.1 e, refl)
own-quiet old new occasion now (Err refusals.Exhausted) made f h e = (plan-kept old new made f h.1 e, refl)
own-quiet old new occasion now (Err (refusals.Conflict of)) made f h e = (plan-kept old new made f h.3 e, refl)
own-quiet old new occasion now (Err refusals.Full) made f h e = (plan-kept old new made f h.3 e, refl)
own-quiet old new occasion now (Err refusals.Halted) made f h e = (plan-kept old new made f h.1 e, refl)
own-quiet old new occasion now (Err (refusals.Disk excuse)) made f h e = absurd (plan-met old new h.2.delta made f h.2.torn e)
own-quiet old new occasion now (Err (refusals.Journal fault)) made f h e = absurd h
own-quiet old new occasion now (Err refusals.Memory) made f h e = absurd h

ok-quiet : (old new : Gateway) (delta : List Op) (out : Out) (made : List (List Op)) (f : Failure) → TakeStep old delta (Ok out) new made → new.drive.plan ≡ Some f → (old.drive.plan ≡ Some f) × (if_any delta ≡ [])
ok-quiet old new [] out made f h e = (sym (ap (λ (g : Gateway). g.drive.plan) h.3) ∙ e, refl)
ok-quiet old new (op ∷ ops) out made f h e = absurd (none-some f (sym h.4 ∙ sym (ap (λ (g : Gateway). g.drive.plan) h.3) ∙ e))

take-quiet : (old new : Gateway) (delta : List Op) (answer : Result Out Refusal) (made : List (List Op)) (f : Failure) → TakeStep old delta answer new made → new.drive.plan ≡ Some f
    → (old.drive.plan ≡ Some f) × (put_by (steps.Take delta) answer ≡ [])
take-quiet old new delta (Ok out) made f h e = ok-quiet old new delta out made f h e
take-quiet old new delta (Err (refusals.Conflict of)) made f h e = (plan-kept old new made f h.1 e, refl)
take-quiet old new delta (Err refusals.Full) made f h e = (plan-kept old new made f h.1 e, refl)
take-quiet old new delta (Err refusals.Halted) made f h e = (plan-kept old new made f h.1 e, refl)
take-quiet old new delta (Err (refusals.Disk excuse)) made f h e = absurd (plan-met old new delta made f h.2 e)
take-quiet old new delta (Err (refusals.Frame fault)) made f h e = absurd h
take-quiet old new delta (Err refusals.Exhausted) made f h e = absurd h
take-quiet old new delta (Err (refusals.Journal fault)) made f h e = absurd h
take-quiet old new delta (Err refusals.Memory) made f h e = absurd h

step-quiet : (old new : Gateway) (step : Step) (answer : Result Out Refusal) (made : List (List Op)) (f : Failure) → CanWrite step → StepOf old step answer new made → new.drive.plan ≡ Some f
    → (old.drive.plan ≡ Some f) × (put_by step answer ≡ [])
step-quiet old new (steps.Frame from bytes now) (Ok out) made f can h e = own-quiet old new (Datagram from bytes) now (Ok out) made f h e
step-quiet old new (steps.Frame from bytes now) (Err refusal) made f can h e = ((own-quiet old new (Datagram from bytes) now (Err refusal) made f h e).0, refl)
step-quiet old new (steps.Tick now) answer made f can h e = own-quiet old new Clock now answer made f h e
step-quiet old new (steps.Take delta) answer made f can h e = take-quiet old new delta answer made f h e
step-quiet old new (steps.View client) answer made f can h e = absurd can
step-quiet old new steps.Digest answer made f can h e = absurd can
step-quiet old new (steps.Answer asked) answer made f can h e = absurd can
step-quiet old new steps.Compact answer made f can h e = absurd can
step-quiet old new steps.Reopen answer made f can h e = absurd can

pub turn-quiet : (old new : Gateway) (called : List Step) (answers : Answers) (made : List (List Op)) (f : Failure) → AllByRecursion CanWrite called → InTurnBy StepOf old called answers new made → new.drive.plan ≡ Some f
    → (old.drive.plan ≡ Some f) × (put_by_all called answers ≡ [])
turn-quiet old new [] [] made f can h e = (plan-kept old new made f h e, refl)
turn-quiet old new (step ∷ called) (answer ∷ answers) made f can h e =
    let rest = turn-quiet h.0 new called answers h.2 f can.1 h.4 e in
    let one = step-quiet old h.0 step answer h.1 f can.0 h.3 rest.0 in
    (one.0, ap (λ (ds : List (List Op)). ds ++ put_by_all called answers) one.1 ∙ rest.1)
turn-quiet old new [] (answer ∷ answers) made f can h e = absurd h
turn-quiet old new (step ∷ called) [] made f can h e = absurd h

-- ---- calls before calls with one write

turn-events : (old new : Gateway) (called : List Step) (answers : Answers) (made : List (List Op)) → InTurnBy StepOf old called answers new made → InTurn old called answers new made
turn-events old new [] [] made h = h
turn-events old new (step ∷ called) (answer ∷ answers) made h = (h.0, h.1, h.2, inl h.3, turn-events h.0 new called answers h.2 h.4, h.5)
turn-events old new [] (answer ∷ answers) made h = absurd h
turn-events old new (step ∷ called) [] made h = absurd h

put-both : (old new : Gateway) (a b : List Step) (x y : Answers) (made : List (List Op)) → InTurnBy StepOf old a x new made → put_by_all (a ++ b) (x ++ y) ≡ put_by_all a x ++ put_by_all b y
put-both old new [] b [] y made h = refl
put-both old new (step ∷ a) b (answer ∷ x) y made h =
    ap (λ (ds : List (List Op)). put_by step answer ++ ds) (put-both h.0 new a b x y h.2 h.4) ∙ sym (append_assoc (put_by step answer) (put_by_all a x) (put_by_all b y))
put-both old new [] b (answer ∷ x) y made h = absurd h
put-both old new (step ∷ a) b [] y made h = absurd h

last-both : (x y : Answers) → NoneFailed x → FailsLast y → FailsLast (x ++ y)
last-both [] y go h = h
last-both (Ok out ∷ x) y go h = last-both x y go.1 h
last-both (Err (refusals.Disk excuse) ∷ x) y go h = absurd go.0
last-both (Err (refusals.Frame fault) ∷ x) y go h = last-both x y go.1 h
last-both (Err refusals.Halted ∷ x) y go h = last-both x y go.1 h
last-both (Err (refusals.Conflict of) ∷ x) y go h = last-both x y go.1 h
last-both (Err refusals.Full ∷ x) y go h = last-both x y go.1 h
last-both (Err refusals.Exhausted ∷ x) y go h = last-both x y go.1 h
last-both (Err (refusals.Journal fault) ∷ x) y go h = last-both x y go.1 h
last-both (Err refusals.Memory ∷ x) y go h = last-both x y go.1 h

none-last : (x : Answers) → NoneFailed x → FailsLast x
none-last x go = subst FailsLast (append-nil x) (last-both x [] go tt)

-- calls of which none failed, and a failed write behind them: they had nothing to write
short-behind : (old mid new : Gateway) (a b : List Step) (x y : Answers) (first more : List (List Op)) → AllByRecursion CanWrite a → AllByRecursion CanWrite b → InTurnBy StepOf old a x mid first → AreFed y
    → StopShort mid b y new more → StopShort old (a ++ b) (x ++ y) new (first ++ more)
short-behind old mid new a b x y first more can_a can_b h fed t =
    let can_calm : AllByRecursion CanWrite t.calm = all-left CanWrite t.calm (t.call ∷ t.behind) (subst (λ (xs : List Step). AllByRecursion CanWrite xs) t.calls_are can_b) in
    let fed_said : AreFed t.said = all-left (λ (answer : Result Out Refusal). answer ≡ Err refusals.Memory → ⊥) t.said (t.answer ∷ halted_all t.behind) (subst (λ (xs : Answers). AreFed xs) t.answers_are fed) in
    let second = turn-quiet mid t.mid t.calm t.said more t.torn.failure can_calm (turn-fed mid t.mid t.calm t.said more fed_said t.led) t.torn.planned in
    let one = turn-quiet old mid a x first t.torn.failure can_a h second.0 in
    record {
      calm = a ++ t.calm;
      said = x ++ t.said;
      call = t.call;
      answer = t.answer;
      behind = t.behind;
      mid = t.mid;
      calls_are = ap (λ (xs : List Step). a ++ xs) t.calls_are ∙ sym (append_assoc a t.calm (t.call ∷ t.behind));
      answers_are = ap (λ (xs : Answers). x ++ xs) t.answers_are ∙ sym (append_assoc x t.said (t.answer ∷ halted_all t.behind));
      quiet = put-both old mid a t.calm x t.said first h ∙ ap (λ (ds : List (List Op)). ds ++ put_by_all t.calm t.said) one.1 ∙ t.quiet;
      led = turn_append old mid t.mid a t.calm x t.said first more (turn-events old mid a x first h) t.led;
      torn = t.torn;
    }

together-behind : (old mid new : Gateway) (a b : List Step) (x y : Answers) (first more : List (List Op)) → AllByRecursion CanWrite a → AllByRecursion CanWrite b → InTurnBy StepOf old a x mid first → NoneFailed x → AreFed y
    → Together mid b y new more → Together old (a ++ b) (x ++ y) new (first ++ more)
together-behind old mid new a b x y first more can_a can_b h go fed (inl t) = inl (turn_append old mid new a b x y first more (turn-events old mid a x first h) t.0, last-both x y go t.1)
together-behind old mid new a b x y first more can_a can_b h go fed (inr t) = inr (short-behind old mid new a b x y first more can_a can_b h fed t)

-- where none failed each is a step
together-went : (old new : Gateway) (called : List Step) (answers : Answers) (made : List (List Op)) → AreFed answers → NoneFailed answers → Together old called answers new made → InTurnBy StepOf old called answers new made
together-went old new called answers made fed go (inl t) = turn-fed old new called answers made fed t.0
together-went old new called answers made fed go (inr t) =
    let last = all-right IsNoFailure t.said (t.answer ∷ halted_all t.behind) (subst (λ (xs : Answers). NoneFailed xs) t.answers_are go) in
    absurd (subst IsNoFailure t.torn.told last.0)

steps-both : (old mid new : Gateway) (a b : List Step) (x y : Answers) (first more : List (List Op)) → InTurnBy StepOf old a x mid first → InTurnBy StepOf mid b y new more → InTurnBy StepOf old (a ++ b) (x ++ y) new (first ++ more)
steps-both old mid new [] b [] y first more h k =
    subst (λ (g : Gateway). InTurnBy StepOf g b y new (first ++ more)) h.same (subst (λ (m : List (List Op)). InTurnBy StepOf mid b y new (m ++ more)) (sym h.none) k)
steps-both old mid new (step ∷ a) b (answer ∷ x) y first more h k =
    (h.0, h.1, h.2 ++ more, h.3, steps-both h.0 mid new a b x y h.2 more h.4 k, ap (λ (m : List (List Op)). m ++ more) h.5 ∙ append_assoc h.1 h.2 more)
steps-both old mid new [] b (answer ∷ x) y first more h k = absurd h
steps-both old mid new (step ∷ a) b [] y first more h k = absurd h

pub fed-not : (answers : Answers) → AllByRecursion IsFed answers → AreFed answers
fed-not [] h = tt
fed-not (answer ∷ answers) h = ((λ e. subst IsFed e h.0), fed-not answers h.1)

-- ---- one row

module _ {D : Type 0} {G : Ghosts D} where
  one-said : (gateway : Gateway) (old : State G) (step : Step) (answer : Result Out Refusal) (new : State G) → CanWrite step → CanBeSaid gateway old step answer new
  one-said gateway old (steps.Frame from bytes now) answer new can = tt
  one-said gateway old (steps.Take delta) answer new can = tt
  one-said gateway old (steps.Tick now) answer new can = tt
  one-said gateway old (steps.View client) answer new can = absurd can
  one-said gateway old steps.Digest answer new can = absurd can
  one-said gateway old (steps.Answer asked) answer new can = absurd can
  one-said gateway old steps.Compact answer new can = absurd can
  one-said gateway old steps.Reopen answer new can = absurd can

  all-said : (gateway : Gateway) (old : State G) (called : List Step) (answers : Answers) (new : State G) → AllByRecursion CanWrite called → CanAllBeSaid gateway old called answers new
  all-said gateway old [] answers new can = tt
  all-said gateway old (step ∷ next ∷ rest) answers new can = tt
  all-said gateway old (step ∷ []) [] new can = tt
  all-said gateway old (step ∷ []) (answer ∷ answers) new can = one-said gateway old step answer new can.0

  -- what a row of the node does
  goes-row : (old new : State G) (called : List Step) (answers : Answers) → G.honest → G.starved (disk_under new.journal) ≡ false → AllByRecursion CanWrite called → EventsOn old called answers new
      → (gateway : Gateway) → IsShown gateway old → AgreeAlong gateway called → (next : Gateway) × (made : List (List Op)) × Together gateway called answers next made × IsShown next new
  goes-row old new called answers honest fed can event gateway s along =
      let l = event gateway s.stands (all-said gateway old called answers new can) in
      let f = l.foreseen honest fed s.foreseen in
      let same : with_failure l.fate gateway ≡ gateway = λ i. record gateway { drive = record gateway.drive { plan = f.0 i } } in (
        l.next,
        l.made,
        subst (λ (x : Gateway). Together x called answers l.next l.made) same l.happens,
        record { stands = l.stands; foreseen = f.1; fed = fed; lasts = λ h. l.lasts (along-turn gateway called None along) h (s.lasts h) },
      )

  module _ (old new : State G) (called : List Step) (before replies : Answers) (can : AllByRecursion CanWrite called) (fed : AreFed replies) (gateway : Gateway) where
    abbrev rest : List Step
    rest = drop (length before) called

    abbrev part : List Step
    part = take (length replies) rest

    can_part : AllByRecursion CanWrite part
    can_part = all-take CanWrite (length replies) rest (all-drop CanWrite (length before) called can)

    -- no failure: the calls go on
    leads-on : (mid next : Gateway) (first more : List (List Op)) → AreFed before → IsShown next new → NoneFailed replies → Together mid part replies next more
        → InTurnBy StepOf gateway (take (length before) called) before mid first → NoneFailed before → AgreeAlong mid rest → RowLeads gateway called (before ++ replies) new
    leads-on mid next first more fed_before s went together turn go along =
        let behind = together-went mid next part replies more fed went together in
        let all = steps-both gateway mid next (take (length before) called) part before replies first more turn behind in
        let left : AgreeAlong next (drop (length replies) rest) =
        along-after mid next part (drop (length replies) rest) replies more (subst (λ (xs : List Step). AgreeAlong mid xs) (sym (take-drop (length replies) rest)) along) behind in (
          next,
          first ++ more,
          all-append (λ (answer : Result Out Refusal). answer ≡ Err refusals.Memory → ⊥) before replies fed_before fed,
          s,
          inl (
            subst (λ (xs : List Step). InTurnBy StepOf gateway xs (before ++ replies) next (first ++ more)) (sym (taken-more before replies called)) all,
            all-append IsNoFailure before replies go went,
            subst (λ (xs : List Step). AgreeAlong next xs) (sym (dropped-more before replies called)) left,
          ),
        )

    -- all are done
    leads-all : (mid next : Gateway) (first more : List (List Op)) → AreFed before → IsShown next new → length (before ++ replies) ≡ length called → Together mid part replies next more
        → InTurnBy StepOf gateway (take (length before) called) before mid first → NoneFailed before → RowLeads gateway called (before ++ replies) new
    leads-all mid next first more fed_before s size together turn go =
        let all = together-behind gateway mid next (take (length before) called) part before replies first more (all-take CanWrite (length before) called can) can_part turn go fed together in
        let whole : take (length before) called ++ part ≡ called = sym (taken-more before replies called) ∙ take-whole (before ++ replies) called size in (
          next,
          first ++ more,
          all-append (λ (answer : Result Out Refusal). answer ≡ Err refusals.Memory → ⊥) before replies fed_before fed,
          s,
          inr (subst (λ (xs : List Step). Together gateway xs (before ++ replies) next (first ++ more)) whole all, size),
        )

    leads-next : (mid next : Gateway) (first more : List (List Op)) → AreFed before → IsShown next new → NoneFailed replies ⊎ (length (before ++ replies) ≡ length called) → Together mid part replies next more
        → InTurnBy StepOf gateway (take (length before) called) before mid first → NoneFailed before → AgreeAlong mid rest → RowLeads gateway called (before ++ replies) new
    leads-next mid next first more fed_before s (inl went) together turn go along = leads-on mid next first more fed_before s went together turn go along
    leads-next mid next first more fed_before s (inr size) together turn go along = leads-all mid next first more fed_before s size together turn go

    leads-row : G.honest → G.starved (disk_under new.journal) ≡ false → EventsOn old part replies new → NoneFailed replies ⊎ (length (before ++ replies) ≡ length called) → length before < length called
        → RowLeads gateway called before old → RowLeads gateway called (before ++ replies) new
    leads-row honest unstarved event ways less lead = on lead.4
      where
        on : (InTurnBy StepOf gateway (take (length before) called) before lead.0 lead.1 × NoneFailed before × AgreeAlong lead.0 rest) ⊎ (Together gateway called before lead.0 lead.1 × (length before ≡ length called)) → RowLeads gateway called (before ++ replies) new
        on (inl (turn, go, along)) =
            let went = goes-row old new part replies honest unstarved can_part event lead.0 lead.3 (along-take lead.0 (length replies) rest along) in
            leads-next lead.0 went.0 lead.1 went.1 lead.2 went.3 ways went.2 turn go along
        on (inr (together, size)) = absurd (omega (arith, less, size))

  pub row-done : (old new : State G) (called : List Step) (before replies : Answers) → G.honest → G.starved (disk_under new.journal) ≡ false → AllByRecursion CanWrite called → AllByRecursion IsFed replies
      → EventsOn old (take (length replies) (drop (length before) called)) replies new → NoneFailed replies ⊎ (length (before ++ replies) ≡ length called) → length before < length called → RowDone old called before (before ++ replies) new
  row-done old new called before replies honest unstarved can fed event ways less =
      λ gateway lead. leads-row old new called before replies can (fed-not replies fed) gateway honest unstarved event ways less lead

  pub row-starts : (start : State G) (called : List Step) (gateway : Gateway) → IsShown gateway start → AgreeAlong gateway called → RowLeads gateway called [] start
  row-starts start called gateway s along = (gateway, [], tt, s, inl (record { same = refl; none = refl }, tt, along))

  pub row-ends : (state : State G) (called : List Step) (answers : Answers) (gateway : Gateway) → length answers ≡ length called → RowLeads gateway called answers state
      → (next : Gateway) × (made : List (List Op)) × Together gateway called answers next made × AreFed answers × IsShown next state
  row-ends state called answers gateway size lead = (lead.0, lead.1, whole lead.4, lead.2, lead.3)
    where
      whole : (InTurnBy StepOf gateway (take (length answers) called) answers lead.0 lead.1 × NoneFailed answers × AgreeAlong lead.0 (drop (length answers) called)) ⊎ (Together gateway called answers lead.0 lead.1 × (length answers ≡ length called)) → Together gateway called answers lead.0 lead.1
      whole (inl (turn, go, along)) =
          let turned : InTurnBy StepOf gateway called answers lead.0 lead.1 = subst (λ (xs : List Step). InTurnBy StepOf gateway xs answers lead.0 lead.1) (take-whole answers called size) turn in
          inl (turn-events gateway lead.0 called answers lead.1 turned, none-last answers go)
      whole (inr (together, same)) = together

-- ---- one row, by the lists of the program

dropped-long : {A B : Type 0} (ys : List B) (xs : List A) → length ys ≤ length xs → length ys + length (drop (length ys) xs) ≡ length xs
dropped-long [] xs h = omega arith
dropped-long (y ∷ ys) [] h = absurd (omega (arith, h))
dropped-long (y ∷ ys) (x ∷ xs) h = let rest = dropped-long ys xs (omega (arith, h)) in omega (arith, rest)

map-long : {A B : Type 0} (f : A → B) (xs : List A) → length (map f xs) ≡ length xs
map-long f [] = refl
map-long f (x ∷ xs) = ap suc (map-long f xs)

map-dropped : {A B : Type 0} (f : A → B) (n : ℕ) (xs : List A) → map f (drop n xs) ≡ drop n (map f xs)
map-dropped f zero xs = refl
map-dropped f (suc n) [] = refl
map-dropped f (suc n) (x ∷ xs) = map-dropped f n xs

module _ {D : Type 0} {G : Ghosts D} {X Y : Type 0} (value : X → Step) (heard : Y → Result Out Refusal) (old new : State G) (steps : List X) (before after : List Y) (replies : Answers) where
  -- how long the lists are
  pub record Told : Type 0 where
    pub told : map heard after ≡ map heard before ++ replies
    pub some : 0 < length replies
    pub most : length replies ≤ length (drop (length before) steps)
    pub less : length before < length steps

  longer : Told → length after ≡ length before + length replies
  longer t =
      let sizes : length (map heard after) ≡ length (map heard before ++ replies) = ap length t.told in
      let first = map-long heard after in
      let second = map-long heard before in
      let sum = length-append (map heard before) replies in
      omega (arith, sizes, first, second, sum)

  pub more-told : Told → length before < length after
  more-told t = let size = longer t in let some = t.some in omega (arith, size, some)

  pub most-told : Told → length after ≤ length steps
  most-told t =
      let size = longer t in
      let most = t.most in
      let less = t.less in
      let whole = dropped-long before steps (omega (arith, less)) in
      omega (arith, size, most, whole)

  ways-told : Told → NoneFailed replies ⊎ (length steps ≤ length after) → NoneFailed replies ⊎ (length (map heard before ++ replies) ≡ length (map value steps))
  ways-told t (inl none) = inl none
  ways-told t (inr all) =
      let sizes : length (map heard after) ≡ length (map heard before ++ replies) = ap length t.told in
      let first = map-long heard after in
      let third = map-long value steps in
      let few = most-told t in
      inr (omega (arith, sizes, first, third, few, all))

  pub row-of-node : Told → G.honest → G.starved (disk_under new.journal) ≡ false → AllByRecursion CanWrite (map value steps) → AllByRecursion IsFed replies
      → EventsOn old (take (length replies) (map value (drop (length before) steps))) replies new → NoneFailed replies ⊎ (length steps ≤ length after)
      → RowDone old (map value steps) (map heard before) (map heard after) new
  row-of-node t honest unstarved can fed event ways =
      let rest : map value (drop (length before) steps) ≡ drop (length (map heard before)) (map value steps) =
      map-dropped value (length before) steps ∙ ap (λ (n : ℕ). drop n (map value steps)) (sym (map-long heard before)) in
      let asked : EventsOn old (take (length replies) (drop (length (map heard before)) (map value steps))) replies new = subst (λ (xs : List Step). EventsOn old (take (length replies) xs) replies new) rest event in
      let size = map-long heard before in
      let third = map-long value steps in
      let less = t.less in
      subst (λ (xs : Answers). RowDone old (map value steps) (map heard before) xs new) (sym t.told)
      (row-done old new (map value steps) (map heard before) replies honest unstarved can fed asked (ways-told t ways) (omega (arith, size, third, less)))

-- one answer more is told
pub told-on : {X Y : Type 0} (f : X → Y) (before : List X) (x : X) (more : List Y) → map f (before ++ x ∷ []) ++ more ≡ map f before ++ f x ∷ more
told-on f [] x more = refl
told-on f (b ∷ before) x more = ap (λ ys. f b ∷ ys) (told-on f before x more)

-- a list of no length is none
pub none-left : {X : Type 0} (n : ℕ) (xs : List X) → n ≡ 0 → n ≡ length xs → xs ≡ []
none-left n [] e is = refl
none-left n (x ∷ xs) e is = absurd (omega (arith, e, is))

drop-short : {X : Type 0} (n : ℕ) (xs : List X) → length (drop n xs) ≤ length xs - n
drop-short zero xs = omega arith
drop-short (suc n) [] = omega arith
drop-short (suc n) (x ∷ xs) = let rest = drop-short n xs in omega (arith, rest)

-- a slice from a place on is the list from there
pub slice-rest : {X : Type 0} (n a : ℕ) (xs : List X) → n ≡ a → take (length xs - n) (drop n xs) ≡ drop a xs
slice-rest n a xs is = take_all (length xs - n) (drop n xs) (drop-short n xs) ∙ ap (λ (k : ℕ). drop k xs) is

module _ {D : Type 0} {G : Ghosts D} {X Y : Type 0} (value : X → Step) (heard : Y → Result Out Refusal) (old new : State G) (steps part : List X) (before after : List Y) (replies : Answers) (a b : ℕ) where
  -- the same by how long the program's lists are
  pub record Heard : Type 0 where
    pub part_is : part ≡ drop a steps
    pub front : a ≡ length before
    pub all : b ≡ length after
    pub told : map heard after ≡ map heard before ++ replies
    pub some : 0 < length replies
    pub most : length replies ≤ length part
    pub less : a < length steps

  pub told-of : Heard → Told value heard old new steps before after replies
  told-of h = record {
    told = h.told;
    some = h.some;
    most = subst (λ (n : ℕ). length replies ≤ length (drop n steps)) h.front (subst (λ (xs : List X). length replies ≤ length xs) h.part_is h.most);
    less = subst (λ (n : ℕ). n < length steps) h.front h.less;
  }

  pub heard-row : Heard → G.honest → G.starved (disk_under new.journal) ≡ false → AllByRecursion CanWrite (map value steps) → AllByRecursion IsFed replies
      → EventsOn old (take (length replies) (map value part)) replies new → NoneFailed replies ⊎ (length steps ≤ b)
      → RowDone old (map value steps) (map heard before) (map heard after) new
  heard-row h honest unstarved can fed event ways =
      row-of-node value heard old new steps before after replies (told-of h) honest unstarved can fed
      (subst (λ (n : ℕ). EventsOn old (take (length replies) (map value (drop n steps))) replies new) h.front (subst (λ (xs : List X). EventsOn old (take (length replies) (map value xs)) replies new) h.part_is event))
      (subst (λ (n : ℕ). NoneFailed replies ⊎ (length steps ≤ n)) h.all ways)

  pub heard-more : Heard → a < b
  heard-more h = let more = more-told value heard old new steps before after replies (told-of h) in let front = h.front in let all = h.all in omega (arith, more, front, all)

  pub heard-most : Heard → b ≤ length steps
  heard-most h = let most = most-told value heard old new steps before after replies (told-of h) in let all = h.all in omega (arith, most, all)

-- so many answers as calls
pub both-long : {X Y : Type 0} (value : X → Step) (heard : Y → Result Out Refusal) (steps : List X) (answers : List Y) (a n : ℕ) → a ≡ length answers → n ≡ a → a ≤ length steps → length steps ≤ n → length (map heard answers) ≡ length (map value steps)
both-long value heard steps answers a n is same_long few all =
    let first = map-long heard answers in
    let second = map-long value steps in
    let same : a ≡ length steps = omega (arith, few, same_long, all) in
    omega (arith, first, second, is, same)
