-- Calls one after the other.
use Rattle.std.proofs.Common.{◌≡◌, ◌≤◌, ℕ, suc, true, List, [], ◌∷◌, ◌++◌, length, Option, Some, None, Result, Ok, Err, refl, sym, ap, ◌∙◌, subst, append-nil, append_assoc, inl, inr, arith}
use Rattle.std.specs.List.{AllByRecursion}
use Rattle.std.specs.Option.{option_to_list}
use Rattle.std.proofs.lemmas.List.{length-append}
use Rattle.std.proofs.lemmas.List.Concat.{flat_map-append}
use Rattle.std.proofs.lemmas.Option.{same_Some}
use Rattle.rep_op.specs.declared.op.Op.{Op}
use Rattle.rep_ops.specs.Splitting.{all_of}
use Rattle.jr_disk.specs.declared.disk.Failure.{Failure}
use Rattle.jr_journal.specs.Arranged.{after_append}
use Rattle.jr_journal.specs.Records.{written}
use Rattle.sn_local.specs.declared.config.Addr.{Addr}
use Rattle.sn_plan.specs.declared.plan.Plan.{Plan as Planned}
use Rattle.gw_answer.specs.declared.out.Out.{Out}
use Rattle.gw_answer.specs.declared.refusal.Refusal.{Refusal}
use Rattle.gw_answer.specs.declared.refusal.Refusal.TheVariants as refusals
use Rattle.gw_answer.specs.declared.step.Step.{Step}
use Rattle.gw_answer.specs.declared.step.Step.TheVariants as steps
use Rattle.gw_event.specs.Occasions.{Occasion, Datagram, Clock}
use Rattle.gw_event.specs.Drives.{Drive, torn, torn_all}
use Rattle.gw_event.specs.Gateways.{Gateway}
use Rattle.gw_event.specs.Event.{NothingHappens, IsMade, IsTorn, OwnStep, TakeStep, StepOf, Event}
use Rattle.gw_event.specs.Together.{InTurnBy, InTurn, CanWrite, if_any, put_by, put_by_all, halted_all, AreTorn, StopShort, FailsLast, Together, AreAlike}

abbrev Answers : Type 0
Answers = List (Result Out Refusal)

-- one event by itself is one call in turn
pub turn_one : (old new : Gateway) (call : Step) (answer : Result Out Refusal) (made : List (List Op)) → Event old call answer new made → InTurn old (call ∷ []) (answer ∷ []) new made
turn_one old new call answer made h = (new, made, [], h, record { same = refl; none = refl }, sym (append-nil made))

pub one_turn : (old new : Gateway) (call : Step) (answer : Result Out Refusal) (made : List (List Op)) → InTurn old (call ∷ []) (answer ∷ []) new made → Event old call answer new made
one_turn old new call answer made h =
    let all : made ≡ h.1 = h.5 ∙ ap (λ (more : List (List Op)). h.1 ++ more) h.4.none ∙ append-nil h.1 in
    subst (λ (g : Gateway). Event old call answer g made) (sym h.4.same) (subst (λ (m : List (List Op)). Event old call answer h.0 m) (sym all) h.3)

-- calls behind others
pub turn_append : (old mid new : Gateway) (a b : List Step) (x y : Answers) (first more : List (List Op)) → InTurn old a x mid first → InTurn mid b y new more → InTurn old (a ++ b) (x ++ y) new (first ++ more)
turn_append old mid new [] b [] y first more h k =
    subst (λ (g : Gateway). InTurn g b y new (first ++ more)) h.same (subst (λ (m : List (List Op)). InTurn mid b y new (m ++ more)) (sym h.none) k)
turn_append old mid new (call ∷ a) b (answer ∷ x) y first more h k =
    (h.0, h.1, h.2 ++ more, h.3, turn_append h.0 mid new a b x y h.2 more h.4 k, ap (λ (m : List (List Op)). m ++ more) h.5 ∙ append_assoc h.1 h.2 more)
turn_append old mid new [] b (answer ∷ x) y first more h k = absurd h
turn_append old mid new (call ∷ a) b [] y first more h k = absurd h

-- what each event keeps, calls in turn keep
pub turn_keeps : (P : Gateway → Type 0) → ((old new : Gateway) (call : Step) (answer : Result Out Refusal) (made : List (List Op)) → Event old call answer new made → P old → P new)
    → (old new : Gateway) (calls : List Step) (answers : Answers) (made : List (List Op)) → InTurn old calls answers new made → P old → P new
turn_keeps P f old new [] [] made h p = subst P (sym h.same) p
turn_keeps P f old new (call ∷ calls) (answer ∷ answers) made h p = turn_keeps P f h.0 new calls answers h.2 h.4 (f old h.0 call answer h.1 h.3 p)
turn_keeps P f old new [] (answer ∷ answers) made h p = absurd h
turn_keeps P f old new (call ∷ calls) [] made h p = absurd h

-- a halted gateway answers so to each call
halted_one : (gateway : Gateway) (call : Step) → gateway.drive.halted ≡ true → CanWrite call → Event gateway call (Err refusals.Halted) gateway []
halted_one gateway (steps.Frame from bytes now) h can = inl (h, record { same = refl; none = refl })
halted_one gateway (steps.Take delta) h can = inl (h, record { same = refl; none = refl })
halted_one gateway (steps.Tick now) h can = inl (h, record { same = refl; none = refl })
halted_one gateway (steps.View client) h can = absurd can
halted_one gateway steps.Digest h can = absurd can
halted_one gateway (steps.Answer asked) h can = absurd can
halted_one gateway steps.Compact h can = absurd can
halted_one gateway steps.Reopen h can = absurd can

pub turn_halted : (gateway : Gateway) (calls : List Step) → gateway.drive.halted ≡ true → AllByRecursion CanWrite calls → InTurn gateway calls (halted_all calls) gateway []
turn_halted gateway [] h can = record { same = refl; none = refl }
turn_halted gateway (call ∷ calls) h can = (gateway, [], [], halted_one gateway call h can.0, turn_halted gateway calls h can.1, refl)

-- ---- where the write failed

-- the call that is told so was torn by itself
torn_alone : (old : Gateway) (call : Step) (excuse : Out) (alone : Gateway) → CanWrite call → StepOf old call (Err (refusals.Disk excuse)) alone [] → (delta : List Op) × IsTorn old delta alone []
torn_alone old (steps.Frame from bytes now) excuse alone can h = (h.2.delta, h.2.torn)
torn_alone old (steps.Take delta) excuse alone can h = (delta, h.2)
torn_alone old (steps.Tick now) excuse alone can h = (h.2.delta, h.2.torn)
torn_alone old (steps.View client) excuse alone can h = absurd can
torn_alone old steps.Digest excuse alone can h = absurd can
torn_alone old (steps.Answer asked) excuse alone can h = absurd can
torn_alone old steps.Compact excuse alone can h = absurd can
torn_alone old steps.Reopen excuse alone can h = absurd can

torn_told : (old new : Gateway) (call : Step) (answer : Result Out Refusal) (behind : List Step) (t : AreTorn old call answer behind new) → InTurn old (call ∷ behind) (answer ∷ halted_all behind) t.alone []
torn_told old new call answer behind t =
    let own = torn_alone old call t.excuse t.alone t.writing.0 t.does in
    let halts : t.alone.drive.halted ≡ true = ap (λ (g : Gateway). g.drive.halted) own.1.halted in
    let event : Event old call answer t.alone [] = subst (λ (a : Result Out Refusal). Event old call a t.alone []) (sym t.told) (inl t.does) in
    (t.alone, [], [], event, turn_halted t.alone behind halts t.writing.1, refl)

torn_alike : (old new : Gateway) (call : Step) (answer : Result Out Refusal) (behind : List Step) (t : AreTorn old call answer behind new) → AreAlike t.alone new
torn_alike old new call answer behind t =
    let own = torn_alone old call t.excuse t.alone t.writing.0 t.does in record {
      config = ap (λ (g : Gateway). g.config) own.1.halted ∙ sym (ap (λ (g : Gateway). g.config) t.halted);
      taken = ap (λ (g : Gateway). g.taken) own.1.halted ∙ sym (ap (λ (g : Gateway). g.taken) t.halted);
      local = ap (λ (g : Gateway). g.local) own.1.halted ∙ sym (ap (λ (g : Gateway). g.local) t.halted);
    }

-- its answers are those of the calls one by one
pub short_told : (old new : Gateway) (calls : List Step) (answers : Answers) (made : List (List Op)) → StopShort old calls answers new made → (alone : Gateway) × InTurn old calls answers alone made × AreAlike alone new
short_told old new calls answers made h =
    let t = h.torn in
    let joined : InTurn old (h.calm ++ h.call ∷ h.behind) (h.said ++ h.answer ∷ halted_all h.behind) t.alone (made ++ []) =
    turn_append old h.mid t.alone h.calm (h.call ∷ h.behind) h.said (h.answer ∷ halted_all h.behind) made [] h.led (torn_told h.mid new h.call h.answer h.behind t) in
    let all : InTurn old (h.calm ++ h.call ∷ h.behind) (h.said ++ h.answer ∷ halted_all h.behind) t.alone made = subst (λ (m : List (List Op)). InTurn old (h.calm ++ h.call ∷ h.behind) (h.said ++ h.answer ∷ halted_all h.behind) t.alone m) (append-nil made) joined in
    let asked : InTurn old calls (h.said ++ h.answer ∷ halted_all h.behind) t.alone made = subst (λ (cs : List Step). InTurn old cs (h.said ++ h.answer ∷ halted_all h.behind) t.alone made) (sym h.calls_are) all in
    (t.alone, subst (λ (xs : Answers). InTurn old calls xs t.alone made) (sym h.answers_are) asked, torn_alike h.mid new h.call h.answer h.behind t)

pub together_told : (old new : Gateway) (calls : List Step) (answers : Answers) (made : List (List Op)) → Together old calls answers new made → (alone : Gateway) × InTurn old calls answers alone made × AreAlike alone new
together_told old new calls answers made (inl h) = (new, h.0, record { config = refl; taken = refl; local = refl })
together_told old new calls answers made (inr h) = short_told old new calls answers made h

-- a disk that fails as one delta is written
pub torn_one : (plan : Failure) (delta : List Op) (drive : Drive) → torn_all plan (delta ∷ []) drive ≡ torn plan delta drive
torn_one plan delta drive = λ i. record drive { slots = after_append (Some plan) drive.slots drive.slot (append-nil (written delta) i); halted = true; plan = None }

-- ---- one call

-- behind one answer there is none
last_fails : (answer : Result Out Refusal) → FailsLast (answer ∷ [])
last_fails (Ok out) = tt
last_fails (Err (refusals.Disk excuse)) = refl
last_fails (Err refusals.Halted) = tt
last_fails (Err (refusals.Frame fault)) = tt
last_fails (Err refusals.Exhausted) = tt
last_fails (Err (refusals.Conflict of)) = tt
last_fails (Err refusals.Full) = tt
last_fails (Err (refusals.Journal fault)) = tt
last_fails (Err refusals.Memory) = tt

most_one : (made : Option (List Op)) → length (option_to_list made) ≤ 1
most_one None = omega arith
most_one (Some delta) = omega arith

any_one : (delta : List Op) → length (if_any delta) ≤ 1
any_one [] = omega arith
any_one (op ∷ ops) = omega arith

-- a call puts one delta into the journal, or none
pub put_one : (call : Step) (answer : Result Out Refusal) → length (put_by call answer) ≤ 1
put_one (steps.Frame from bytes now) (Ok out) = most_one out.made
put_one (steps.Take delta) (Ok out) = any_one delta
put_one (steps.Tick now) (Ok out) = most_one out.made
put_one (steps.View client) (Ok out) = omega arith
put_one steps.Digest (Ok out) = omega arith
put_one (steps.Answer asked) (Ok out) = omega arith
put_one steps.Compact (Ok out) = omega arith
put_one steps.Reopen (Ok out) = omega arith
put_one (steps.Frame from bytes now) (Err refusal) = omega arith
put_one (steps.Take delta) (Err refusal) = omega arith
put_one (steps.Tick now) (Err refusal) = omega arith
put_one (steps.View client) (Err refusal) = omega arith
put_one steps.Digest (Err refusal) = omega arith
put_one (steps.Answer asked) (Err refusal) = omega arith
put_one steps.Compact (Err refusal) = omega arith
put_one steps.Reopen (Err refusal) = omega arith

put_alone : (call : Step) (would : Answers) → length (put_by_all (call ∷ []) would) ≤ 1
put_alone call [] = omega arith
put_alone call (answer ∷ more) = subst (λ (ds : List (List Op)). length ds ≤ 1) (sym (append-nil (put_by call answer))) (put_one call answer)

only_one : (all : List (List Op)) (delta : List Op) (others : List (List Op)) → all ≡ delta ∷ others → length all ≤ 1 → others ≡ []
only_one all delta [] is few = refl
only_one all delta (other ∷ others) is few = absurd (let size : length all ≡ suc (suc (length others)) = ap length is in omega (arith, size, few))

-- one call whose write failed is torn as by itself
torn_same : (old new : Gateway) (call : Step) (answer : Result Out Refusal) (t : AreTorn old call answer [] new) → t.alone ≡ new
torn_same old new call answer t =
    let own = torn_alone old call t.excuse t.alone t.writing.0 t.does in
    let delta : List Op = own.0 in
    let refused : t.alone.refused ≡ delta ∷ [] = ap (λ (g : Gateway). g.refused) own.1.halted in
    let put : put_by_all (call ∷ []) t.would ≡ delta ∷ t.others = t.refused ∙ ap (λ (ds : List (List Op)). ds ++ t.others) refused in
    let none : t.others ≡ [] = only_one (put_by_all (call ∷ []) t.would) delta t.others put (put_alone call t.would) in
    let one : put_by_all (call ∷ []) t.would ≡ delta ∷ [] = put ∙ ap (λ (ds : List (List Op)). delta ∷ ds) none in
    let failure : own.1.failure ≡ t.failure = same_Some own.1.failure t.failure (sym own.1.planned ∙ t.planned) in
    own.1.halted
    ∙ ap (λ (f : Failure). record old { refused = delta ∷ []; drive = torn f delta old.drive }) failure
    ∙ ap (λ (d : Drive). record old { refused = delta ∷ []; drive = d }) (sym (torn_one t.failure delta old.drive))
    ∙ ap (λ (ds : List (List Op)). record old { refused = ds; drive = torn_all t.failure ds old.drive }) (sym one)
    ∙ sym t.halted

head_or : {X : Type 0} → X → List X → X
head_or x [] = x
head_or x (y ∷ ys) = y

-- a list of one has nothing before it and nothing behind it
one_cut : {X : Type 0} (x : X) (front : List X) (y : X) (behind : List X) → x ∷ [] ≡ front ++ y ∷ behind → (front ≡ []) × (x ≡ y) × (behind ≡ [])
unfolding head_or
one_cut {X = X} x [] y [] is = (refl, ap (λ (zs : List X). head_or x zs) is, refl)
one_cut x [] y (z ∷ behind) is = absurd (let size : 1 ≡ suc (suc (length behind)) = ap length is in omega (arith, size))
one_cut x (z ∷ front) y behind is = absurd (let size : 1 ≡ suc (length (front ++ y ∷ behind)) = ap length is in omega (arith, size, length-append front (y ∷ behind)))

short_one : (old new : Gateway) (call : Step) (answer : Result Out Refusal) (made : List (List Op)) → StopShort old (call ∷ []) (answer ∷ []) new made → Event old call answer new made
short_one old new call answer made h =
    let cut = one_cut call h.calm h.call h.behind h.calls_are in
    let heard = one_cut answer h.said h.answer (halted_all h.behind) h.answers_are in
    let asked : InTurn old [] h.said h.mid made = subst (λ (cs : List Step). InTurn old cs h.said h.mid made) cut.0 h.led in
    let still : NothingHappens old h.mid made = subst (λ (xs : Answers). InTurn old [] xs h.mid made) heard.0 asked in
    let t : AreTorn h.mid h.call h.answer [] new = subst (λ (cs : List Step). AreTorn h.mid h.call h.answer cs new) cut.2 h.torn in
    let alone : Event h.mid h.call h.answer t.alone [] = subst (λ (a : Result Out Refusal). Event h.mid h.call a t.alone []) (sym t.told) (inl t.does) in
    let there : Event h.mid h.call h.answer new [] = subst (λ (g : Gateway). Event h.mid h.call h.answer g []) (torn_same h.mid new h.call h.answer t) alone in
    let named : Event h.mid call h.answer new [] = subst (λ (s : Step). Event h.mid s h.answer new []) (sym cut.1) there in
    let told : Event h.mid call answer new [] = subst (λ (a : Result Out Refusal). Event h.mid call a new []) (sym heard.1) named in
    let here : Event old call answer new [] = subst (λ (g : Gateway). Event g call answer new []) still.same told in
    subst (λ (m : List (List Op)). Event old call answer new m) (sym still.none) here

-- with one write one call is what it is by itself
pub together_one : (old new : Gateway) (call : Step) (answer : Result Out Refusal) (made : List (List Op)) → Together old (call ∷ []) (answer ∷ []) new made → Event old call answer new made
together_one old new call answer made (inl h) = one_turn old new call answer made h.0
together_one old new call answer made (inr h) = short_one old new call answer made h

pub one_together : (old new : Gateway) (call : Step) (answer : Result Out Refusal) (made : List (List Op)) → Event old call answer new made → Together old (call ∷ []) (answer ∷ []) new made
one_together old new call answer made h = inl (turn_one old new call answer made h, last_fails answer)

-- ---- what calls add to the set

still_adds : (old new : Gateway) (made : List (List Op)) → NothingHappens old new made → new.taken ≡ old.taken ++ []
still_adds old new made u = ap (λ (g : Gateway). g.taken) u.same ∙ sym (append-nil old.taken)

torn_adds : (old new : Gateway) (delta : List Op) (made : List (List Op)) → IsTorn old delta new made → new.taken ≡ old.taken ++ []
torn_adds old new delta made t = ap (λ (g : Gateway). g.taken) t.halted ∙ sym (append-nil old.taken)

made_adds : (old : Gateway) (plan : Planned) (ops : List Op) (delta : Option (List Op)) (new : Gateway) (made : List (List Op)) → IsMade ops old plan delta new made → new.taken ≡ old.taken ++ all_of (option_to_list delta)
made_adds old plan [] None new made h = ap (λ (g : Gateway). g.taken) h.1 ∙ sym (append-nil old.taken)
made_adds old plan [] (Some delta) new made h = absurd h
made_adds old plan (op ∷ ops) None new made h = absurd h
made_adds old plan (op ∷ ops) (Some delta) new made h = ap (λ (g : Gateway). g.taken) h.4 ∙ ap (λ (D : List Op). old.taken ++ D) (sym (append-nil delta))

own_adds : (old new : Gateway) (occasion : Occasion) (now : ℕ) (answer : Result Out Refusal) (made : List (List Op)) → OwnStep old occasion now answer new made → new.taken ≡ old.taken ++ all_of (put_by (steps.Tick now) answer)
own_adds old new occasion now (Ok out) made h = made_adds old h.0 h.0.ops out.made new made h.2.1
own_adds old new occasion now (Err (refusals.Frame fault)) made h = still_adds old new made h.1
own_adds old new occasion now (Err refusals.Exhausted) made h = still_adds old new made h.1
own_adds old new occasion now (Err (refusals.Conflict of)) made h = still_adds old new made h.3
own_adds old new occasion now (Err refusals.Full) made h = still_adds old new made h.3
own_adds old new occasion now (Err refusals.Halted) made h = still_adds old new made h.1
own_adds old new occasion now (Err (refusals.Disk excuse)) made h = torn_adds old new h.2.delta made h.2.torn
own_adds old new occasion now (Err (refusals.Journal fault)) made h = absurd h
own_adds old new occasion now (Err refusals.Memory) made h = absurd h

all_if_any : (delta : List Op) → all_of (if_any delta) ≡ delta
all_if_any [] = refl
all_if_any (op ∷ ops) = append-nil (op ∷ ops)

take_adds : (old new : Gateway) (delta : List Op) (answer : Result Out Refusal) (made : List (List Op)) → TakeStep old delta answer new made → new.taken ≡ old.taken ++ all_of (put_by (steps.Take delta) answer)
take_adds old new delta (Ok out) made h = ap (λ (g : Gateway). g.taken) h.3 ∙ ap (λ (D : List Op). old.taken ++ D) (sym (all_if_any delta))
take_adds old new delta (Err (refusals.Conflict of)) made h = still_adds old new made h.1
take_adds old new delta (Err refusals.Full) made h = still_adds old new made h.1
take_adds old new delta (Err refusals.Halted) made h = still_adds old new made h.1
take_adds old new delta (Err (refusals.Disk excuse)) made h = torn_adds old new delta made h.2
take_adds old new delta (Err (refusals.Frame fault)) made h = absurd h
take_adds old new delta (Err refusals.Exhausted) made h = absurd h
take_adds old new delta (Err (refusals.Journal fault)) made h = absurd h
take_adds old new delta (Err refusals.Memory) made h = absurd h

-- a datagram puts there what a tick with its answer does
as_tick : (from : Addr) (bytes : List ℕ) (now : ℕ) (answer : Result Out Refusal) → put_by (steps.Tick now) answer ≡ put_by (steps.Frame from bytes now) answer
as_tick from bytes now (Ok out) = refl
as_tick from bytes now (Err refusal) = refl

pub step_adds : (old new : Gateway) (call : Step) (answer : Result Out Refusal) (made : List (List Op)) → CanWrite call → StepOf old call answer new made → new.taken ≡ old.taken ++ all_of (put_by call answer)
step_adds old new (steps.Frame from bytes now) answer made can h =
    own_adds old new (Datagram from bytes) now answer made h ∙ ap (λ (ds : List (List Op)). old.taken ++ all_of ds) (as_tick from bytes now answer)
step_adds old new (steps.Take delta) answer made can h = take_adds old new delta answer made h
step_adds old new (steps.Tick now) answer made can h = own_adds old new Clock now answer made h
step_adds old new (steps.View client) answer made can h = absurd can
step_adds old new steps.Digest answer made can h = absurd can
step_adds old new (steps.Answer asked) answer made can h = absurd can
step_adds old new steps.Compact answer made can h = absurd can
step_adds old new steps.Reopen answer made can h = absurd can

-- want of memory puts nothing into the journal
memory_puts : (call : Step) → put_by call (Err refusals.Memory) ≡ []
memory_puts (steps.Frame from bytes now) = refl
memory_puts (steps.Take delta) = refl
memory_puts (steps.Tick now) = refl
memory_puts (steps.View client) = refl
memory_puts steps.Digest = refl
memory_puts (steps.Answer asked) = refl
memory_puts steps.Compact = refl
memory_puts steps.Reopen = refl

event_adds : (old new : Gateway) (call : Step) (answer : Result Out Refusal) (made : List (List Op)) → CanWrite call → Event old call answer new made → new.taken ≡ old.taken ++ all_of (put_by call answer)
event_adds old new call answer made can (inl h) = step_adds old new call answer made can h
event_adds old new call answer made can (inr h) =
    let none : put_by call answer ≡ [] = ap (λ (a : Result Out Refusal). put_by call a) h.0 ∙ memory_puts call in
    still_adds old new made h.1 ∙ ap (λ (ds : List (List Op)). old.taken ++ all_of ds) (sym none)

module _ (Does : Gateway → Step → Result Out Refusal → Gateway → List (List Op) → Type 0)
    (adds : (old new : Gateway) (call : Step) (answer : Result Out Refusal) (made : List (List Op)) → CanWrite call → Does old call answer new made → new.taken ≡ old.taken ++ all_of (put_by call answer)) where
  turn_adds : (old new : Gateway) (calls : List Step) (answers : Answers) (made : List (List Op)) → AllByRecursion CanWrite calls → InTurnBy Does old calls answers new made → new.taken ≡ old.taken ++ all_of (put_by_all calls answers)
  turn_adds old new [] [] made can h = still_adds old new made h
  turn_adds old new (call ∷ calls) (answer ∷ answers) made can h =
      let first : h.0.taken ≡ old.taken ++ all_of (put_by call answer) = adds old h.0 call answer h.1 can.0 h.3 in
      turn_adds h.0 new calls answers h.2 can.1 h.4
      ∙ ap (λ (S : List Op). S ++ all_of (put_by_all calls answers)) first
      ∙ append_assoc old.taken (all_of (put_by call answer)) (all_of (put_by_all calls answers))
      ∙ ap (λ (D : List Op). old.taken ++ D) (sym (flat_map-append (λ (d : List Op). d) (put_by call answer) (put_by_all calls answers)))
  turn_adds old new [] (answer ∷ answers) made can h = absurd h
  turn_adds old new (call ∷ calls) [] made can h = absurd h

-- calls in turn add what they put into the journal
pub turn_written : (old new : Gateway) (calls : List Step) (answers : Answers) (made : List (List Op)) → AllByRecursion CanWrite calls → InTurn old calls answers new made → new.taken ≡ old.taken ++ all_of (put_by_all calls answers)
turn_written old new calls answers made can h = turn_adds Event event_adds old new calls answers made can h

-- calls whose write failed would have added what was refused
pub torn_refused : (old new : Gateway) (call : Step) (answer : Result Out Refusal) (behind : List Step) (t : AreTorn old call answer behind new) → t.there.taken ≡ old.taken ++ all_of new.refused
torn_refused old new call answer behind t =
    turn_adds StepOf step_adds (record old { drive = record old.drive { plan = None } }) t.there (call ∷ behind) t.would t.made t.writing t.led
    ∙ ap (λ (ds : List (List Op)). old.taken ++ all_of ds) (sym (ap (λ (g : Gateway). g.refused) t.halted))
