-- Two runs of the same calls with one write answer the same and lead to the same gateway.
use Rattle.std.proofs.Common.{◌≡◌, ◌⊎◌, ℕ, ◌-◌, List, [], ◌∷◌, ◌++◌, slice_get, Option, Some, None, Result, Ok, Err, refl, sym, ap, ◌∙◌, subst, append-nil, inl, inr}
use Rattle.std.specs.List.{AllByRecursion}
use Rattle.std.proofs.lemmas.Option.{none-some, same_Some}
use Rattle.rep_model.proofs.Joins.{all-left, all-right}
use Rattle.rep_op.specs.declared.op.Op.{Op}
use Rattle.jr_disk.specs.declared.disk.Failure.{Failure}
use Rattle.gw_answer.specs.declared.out.Out.{Out}
use Rattle.gw_answer.specs.declared.refusal.Refusal.{Refusal}
use Rattle.gw_answer.specs.declared.refusal.Refusal.TheVariants as refusals
use Rattle.gw_answer.specs.declared.step.Step.{Step}
use Rattle.gw_answer.specs.declared.step.Step.TheVariants as steps
use Rattle.gw_event.specs.Drives.{torn_all}
use Rattle.gw_event.specs.Occasions.{Datagram, Clock}
use Rattle.gw_event.specs.Gateways.{Gateway}
use Rattle.gw_event.specs.Event.{OwnStep, TakeStep, StepOf, Event}
use Rattle.gw_event.specs.Together.{InTurnBy, InTurn, CanWrite, put_by_all, halted_all, AreTorn, StopShort, FailsLast, Together}
use Rattle.gw_event.proofs.Turns.{turn_one, turn_append, together_told, together_one}
use Rattle.gw_node.specs.Standing.{with_failure}
use Rattle.gw_world.specs.declared.event.Call.{Call}
use Rattle.gw_world.specs.declared.event.Call.TheVariants as calls
use Rattle.gw_world.specs.Field.{Field, IsAt, field_changed, IsStepOf, AreStepsOf, AreFed, TogetherAt}
use Rattle.gw_world.proofs.Consistency.{FlushField, WholeField, IsAtPeace, none-back, call-sound}
use Rattle.gw_world.proofs.Failures.{can-write}
use Rattle.gw_world.proofs.InRows.{Answers, at-changed, step-later, steps-later, one-call, turn-fed}
use Rattle.gw_world.proofs.Rowing.{turn-quiet}
use Rattle.field_laws.proofs.Determined.{IsAgreed, Alike, own-one, take-one}
use Rattle.field_laws.proofs.Rooms.{HasRoom, own-room, take-room}

-- ---- no call is answered by Conflict

-- wherever those before it lead, whatever failure is arranged
abbrev pub PeaceAlong : Gateway → List Step → Type 0
PeaceAlong gateway [] = Unit {0}
PeaceAlong gateway (step ∷ rest) =
    (fate : Option Failure) (answer : Result Out Refusal) (next : Gateway) (made : List (List Op)) → StepOf (with_failure fate gateway) step answer next made → IsAgreed answer × PeaceAlong next rest

agreed : (answer : Result Out Refusal) → IsAtPeace answer → IsAgreed answer
agreed answer peace = λ client e. subst IsAtPeace e peace

pub peace-along : (field : Field) (s : FlushField field) (w : WholeField field) (n i : ℕ) (g : Gateway) (at : IsAt field n i g) (called : List Call) (more : List Step) → AreStepsOf field called more → PeaceAlong g more
peace-along field s w n i g at [] [] given = tt
peace-along field s w n i g at (call ∷ called) (step ∷ more) given = λ fate answer next made does.
    let f = field_changed field i (with_failure fate g) [] in
    let here = none-back field s w n i g at (with_failure fate g) (record { config = refl; taken = refl; none = refl }) in
    let there = at-changed field n i g (with_failure fate g) [] at refl in
    let one = one-call f n i (with_failure fate g) next call step answer made there (step-later field i (with_failure fate g) [] call step given.0) does in
    let sound = call-sound f (field_changed f i next made) n call answer one.0 here.0 here.1 in (
      agreed answer sound.peace.0,
      peace-along (field_changed f i next made) sound.flush sound.whole n i next (at-changed f n i (with_failure fate g) next made there one.1) called more
          (steps-later f i next made called more (steps-later field i (with_failure fate g) [] called more given.1)),
    )
peace-along field s w n i g at [] (step ∷ more) given = absurd given
peace-along field s w n i g at (call ∷ called) [] given = absurd given

-- ---- calls one after the other

step-one : (g : Gateway) (step : Step) (a b : Result Out Refusal) (n k : Gateway) (m l : List (List Op)) → CanWrite step → HasRoom g → IsAgreed a → IsAgreed b → StepOf g step a n m → StepOf g step b k l → Alike a b n k m l
step-one g (steps.Frame from bytes now) a b n k m l can r f h x y = own-one g (Datagram from bytes) now a b n k m l r.now f h x y
step-one g (steps.Tick now) a b n k m l can r f h x y = own-one g Clock now a b n k m l r.now f h x y
step-one g (steps.Take delta) a b n k m l can r f h x y = take-one g delta a b n k m l f h x y
step-one g (steps.View client) a b n k m l can r f h x y = absurd can
step-one g steps.Digest a b n k m l can r f h x y = absurd can
step-one g (steps.Answer asked) a b n k m l can r f h x y = absurd can
step-one g steps.Compact a b n k m l can r f h x y = absurd can
step-one g steps.Reopen a b n k m l can r f h x y = absurd can

step-room : (g : Gateway) (step : Step) (a : Result Out Refusal) (n : Gateway) (m : List (List Op)) → CanWrite step → StepOf g step a n m → HasRoom g → HasRoom n
step-room g (steps.Frame from bytes now) a n m can x r = own-room g (Datagram from bytes) now a n m x r
step-room g (steps.Tick now) a n m can x r = own-room g Clock now a n m x r
step-room g (steps.Take delta) a n m can x r = take-room g delta a n m x r
step-room g (steps.View client) a n m can x r = absurd can
step-room g steps.Digest a n m can x r = absurd can
step-room g (steps.Answer asked) a n m can x r = absurd can
step-room g steps.Compact a n m can x r = absurd can
step-room g steps.Reopen a n m can x r = absurd can

turn-same : (g : Gateway) (called : List Step) (a b : Answers) (n k : Gateway) (m l : List (List Op)) → AllByRecursion CanWrite called → PeaceAlong g called → HasRoom g → InTurnBy StepOf g called a n m → InTurnBy StepOf g called b k l
    → (a ≡ b) × (n ≡ k) × (m ≡ l)
turn-same g [] [] [] n k m l can p r x y = (refl, x.same ∙ sym y.same, x.none ∙ sym y.none)
turn-same g (step ∷ called) (a ∷ xs) (b ∷ ys) n k m l can p r x y =
    let mine = p g.drive.plan a x.0 x.1 x.3 in
    let other = p g.drive.plan b y.0 y.1 y.3 in
    let one = step-one g step a b x.0 y.0 x.1 y.1 can.0 r mine.0 other.0 x.3 y.3 in
    let rest = turn-same x.0 called xs ys n k x.2 y.2 can.1 mine.1 (step-room g step a x.0 x.1 can.0 x.3 r) x.4 (subst (λ (mid : Gateway). InTurnBy StepOf mid called ys k y.2) (sym one.1) y.4) in
    ((λ t. one.0 t ∷ rest.0 t), rest.1, x.5 ∙ (λ t. one.2 t ++ rest.2 t) ∙ sym y.5)
turn-same g [] [] (b ∷ ys) n k m l can p r x y = absurd y
turn-same g [] (a ∷ xs) ys n k m l can p r x y = absurd x
turn-same g (step ∷ called) [] ys n k m l can p r x y = absurd x
turn-same g (step ∷ called) (a ∷ xs) [] n k m l can p r x y = absurd y

-- ---- a failed write

disk-agreed : (excuse : Out) → IsAgreed (Err (refusals.Disk excuse))
disk-agreed excuse = λ client e. absurd cc

torn-same : (g : Gateway) (step : Step) (behind : List Step) (a b : Result Out Refusal) (n k : Gateway) → PeaceAlong g (step ∷ behind) → HasRoom g → AreTorn g step a behind n → AreTorn g step b behind k → (a ≡ b) × (n ≡ k)
torn-same g step behind a b n k p r t u =
    let one = step-one g step (Err (refusals.Disk t.excuse)) (Err (refusals.Disk u.excuse)) t.alone u.alone [] [] t.writing.0 r (disk-agreed t.excuse) (disk-agreed u.excuse) t.does u.does in
    let calm : PeaceAlong (with_failure None g) (step ∷ behind) = λ fate answer next made does. p fate answer next made does in
    let room : HasRoom (with_failure None g) = record { now = r.now; back = r.back; runs = r.runs } in
    let would = turn-same (with_failure None g) (step ∷ behind) t.would u.would t.there u.there t.made u.made t.writing calm room t.led u.led in
    let failure : t.failure ≡ u.failure = same_Some t.failure u.failure (sym t.planned ∙ u.planned) in (
      t.told ∙ one.0 ∙ sym u.told,
      t.halted ∙ (λ i. record g { refused = put_by_all (step ∷ behind) (would.0 i); drive = torn_all (failure i) (put_by_all (step ∷ behind) (would.0 i)) g.drive }) ∙ sym u.halted,
    )

-- a call that the disk failed leaves no failure arranged
torn-plan : (g : Gateway) (step : Step) (excuse : Out) (n : Gateway) (m : List (List Op)) → CanWrite step → StepOf g step (Err (refusals.Disk excuse)) n m → n.drive.plan ≡ None
torn-plan g (steps.Frame from bytes now) excuse n m can h = ap (λ (x : Gateway). x.drive.plan) h.2.torn.halted
torn-plan g (steps.Tick now) excuse n m can h = ap (λ (x : Gateway). x.drive.plan) h.2.torn.halted
torn-plan g (steps.Take delta) excuse n m can h = ap (λ (x : Gateway). x.drive.plan) h.2.halted
torn-plan g (steps.View client) excuse n m can h = absurd can
torn-plan g steps.Digest excuse n m can h = absurd can
torn-plan g (steps.Answer asked) excuse n m can h = absurd can
torn-plan g steps.Compact excuse n m can h = absurd can
torn-plan g steps.Reopen excuse n m can h = absurd can

-- the calls before the first that wrote, and the failed write
pub record Fell (g : Gateway) (calm : List Step) (said : Answers) (step : Step) (answer : Result Out Refusal) (behind : List Step) (n : Gateway) (m : List (List Op)) : Type 0 where
  pub mid : Gateway
  pub led : InTurnBy StepOf g calm said mid m
  pub torn : AreTorn mid step answer behind n

abbrev head-or : {X : Type 0} → X → List X → X
head-or x [] = x
head-or x (y ∷ ys) = y

abbrev tail-of : {X : Type 0} → List X → List X
tail-of [] = []
tail-of (y ∷ ys) = ys

-- one had nothing to write where the other failed
never-both : (g : Gateway) (step other : Step) (calm behind rest : List Step) (a : Result Out Refusal) (said : Answers) (b : Result Out Refusal) (n k : Gateway) (m l : List (List Op)) → AllByRecursion CanWrite (other ∷ calm) → PeaceAlong g (other ∷ rest) → HasRoom g
    → step ≡ other → Fell g [] [] step a behind n m → (mid : Gateway) (answer : Result Out Refusal) (last : Step) (after : List Step) → InTurnBy StepOf g (other ∷ calm) (answer ∷ said) mid l → AreTorn mid last b after k → ⊥
never-both g step other calm behind rest a said b n k m l can p r e h mid answer last after led torn =
    let here : AreTorn g other a behind n = subst (λ (x : Gateway). AreTorn x other a behind n) h.led.same (subst (λ (x : Step). AreTorn h.mid x a behind n) e h.torn) in
    let mine = p g.drive.plan answer led.0 led.1 led.3 in
    let one = step-one g other (Err (refusals.Disk here.excuse)) answer here.alone led.0 [] led.1 can.0 r (disk-agreed here.excuse) mine.0 here.does led.3 in
    let none : led.0.drive.plan ≡ None = ap (λ (x : Gateway). x.drive.plan) (sym one.1) ∙ torn-plan g other here.excuse here.alone [] can.0 here.does in
    let some = turn-quiet led.0 mid calm said led.2 torn.failure can.1 led.4 torn.planned in
    none-some torn.failure (sym none ∙ some.0)

fell-same : (g : Gateway) (calm clear : List Step) (said told : Answers) (step other : Step) (a b : Result Out Refusal) (behind rest : List Step) (n k : Gateway) (m l : List (List Op)) → AllByRecursion CanWrite (calm ++ step ∷ behind)
    → AllByRecursion CanWrite (clear ++ other ∷ rest) → PeaceAlong g (calm ++ step ∷ behind) → HasRoom g → calm ++ step ∷ behind ≡ clear ++ other ∷ rest → Fell g calm said step a behind n m → Fell g clear told other b rest k l
    → (said ++ a ∷ halted_all behind ≡ told ++ b ∷ halted_all rest) × (n ≡ k) × (m ≡ l)
fell-same g [] [] [] [] step other a b behind rest n k m l can may p r e x y =
    let first : step ≡ other = ap (λ (xs : List Step). head-or step xs) e in
    let more : behind ≡ rest = ap (λ (xs : List Step). tail-of xs) e in
    let mine : AreTorn g step a behind n = subst (λ (z : Gateway). AreTorn z step a behind n) x.led.same x.torn in
    let other_torn : AreTorn g other b rest k = subst (λ (z : Gateway). AreTorn z other b rest k) y.led.same y.torn in
    let moved : AreTorn g step b behind k = subst (λ (s : Step). AreTorn g s b behind k) (sym first) (subst (λ (s : List Step). AreTorn g other b s k) (sym more) other_torn) in
    let one = torn-same g step behind a b n k p r mine moved in
    ((λ i. one.0 i ∷ halted_all (more i)), one.1, x.led.none ∙ sym y.led.none)
fell-same g (s ∷ calm) (t ∷ clear) (c ∷ said) (d ∷ told) step other a b behind rest n k m l can may p r e x y =
    let first : s ≡ t = ap (λ (xs : List Step). head-or s xs) e in
    let more : calm ++ step ∷ behind ≡ clear ++ other ∷ rest = ap (λ (xs : List Step). tail-of xs) e in
    let mine = p g.drive.plan c x.led.0 x.led.1 x.led.3 in
    let moved : StepOf g s d y.led.0 y.led.1 = subst (λ (z : Step). StepOf g z d y.led.0 y.led.1) (sym first) y.led.3 in
    let theirs = p g.drive.plan d y.led.0 y.led.1 moved in
    let one = step-one g s c d x.led.0 y.led.0 x.led.1 y.led.1 can.0 r mine.0 theirs.0 x.led.3 moved in
    let later : Fell x.led.0 clear told other b rest k y.led.2 =
    record { mid = y.mid; led = subst (λ (z : Gateway). InTurnBy StepOf z clear told y.mid y.led.2) (sym one.1) y.led.4; torn = y.torn } in
    let all = fell-same x.led.0 calm clear said told step other a b behind rest n k x.led.2 y.led.2 can.1 may.1 mine.1 (step-room g s c x.led.0 x.led.1 can.0 x.led.3 r) more (record { mid = x.mid; led = x.led.4; torn = x.torn }) later in
    ((λ i. one.0 i ∷ all.0 i), all.1, x.led.5 ∙ (λ i. one.2 i ++ all.2 i) ∙ sym y.led.5)
fell-same g [] (t ∷ clear) [] (d ∷ told) step other a b behind rest n k m l can may p r e x y =
    let first : step ≡ t = ap (λ (xs : List Step). head-or step xs) e in
    let calm_all : AllByRecursion CanWrite (t ∷ clear) = (may.0, all-left CanWrite clear (other ∷ rest) may.1) in
    absurd (never-both g step t clear behind behind a told b n k m l calm_all (subst (λ (s : Step). PeaceAlong g (s ∷ behind)) first p) r first x y.mid d other rest y.led y.torn)
fell-same g (s ∷ calm) [] (c ∷ said) [] step other a b behind rest n k m l can may p r e x y =
    let first : other ≡ s = sym (ap (λ (xs : List Step). head-or s xs) e) in
    let calm_all : AllByRecursion CanWrite (s ∷ calm) = (can.0, all-left CanWrite calm (step ∷ behind) can.1) in
    absurd (never-both g other s calm rest (calm ++ step ∷ behind) b said a k n l m calm_all p r first y x.mid c step behind x.led x.torn)
fell-same g [] clear (c ∷ said) told step other a b behind rest n k m l can may p r e x y = absurd x.led
fell-same g (s ∷ calm) clear [] told step other a b behind rest n k m l can may p r e x y = absurd x.led
fell-same g calm [] said (d ∷ told) step other a b behind rest n k m l can may p r e x y = absurd y.led
fell-same g calm (t ∷ clear) said [] step other a b behind rest n k m l can may p r e x y = absurd y.led

-- ---- calls with one write

-- behind a failure that is the last answer nothing stands
last-of : (said rest : Answers) (answer : Result Out Refusal) (excuse : Out) → answer ≡ Err (refusals.Disk excuse) → FailsLast (said ++ answer ∷ rest) → rest ≡ []
last-of [] rest answer excuse e h = subst (λ (a : Result Out Refusal). FailsLast (a ∷ rest)) e h
last-of (Ok out ∷ said) rest answer excuse e h = last-of said rest answer excuse e h
last-of (Err (refusals.Disk other) ∷ said) rest answer excuse e h = absurd (none said h)
  where
    none : (xs : Answers) → xs ++ answer ∷ rest ≡ [] → ⊥
    none [] k = absurd cc
    none (x ∷ xs) k = absurd cc
last-of (Err (refusals.Frame fault) ∷ said) rest answer excuse e h = last-of said rest answer excuse e h
last-of (Err refusals.Halted ∷ said) rest answer excuse e h = last-of said rest answer excuse e h
last-of (Err (refusals.Conflict of) ∷ said) rest answer excuse e h = last-of said rest answer excuse e h
last-of (Err refusals.Full ∷ said) rest answer excuse e h = last-of said rest answer excuse e h
last-of (Err refusals.Exhausted ∷ said) rest answer excuse e h = last-of said rest answer excuse e h
last-of (Err (refusals.Journal fault) ∷ said) rest answer excuse e h = last-of said rest answer excuse e h
last-of (Err refusals.Memory ∷ said) rest answer excuse e h = last-of said rest answer excuse e h

none-halted : (behind : List Step) → halted_all behind ≡ [] → behind ≡ []
none-halted [] e = refl
none-halted (step ∷ behind) e = absurd cc

-- a failed write of one call, the last, is what that call is by itself
stop-last : (g : Gateway) (called : List Step) (b : Answers) (k : Gateway) (l : List (List Op)) (t : StopShort g called b k l) → t.behind ≡ [] → InTurn g called b k l
stop-last g called b k l t none =
    let torn : AreTorn t.mid t.call t.answer [] k = subst (λ (xs : List Step). AreTorn t.mid t.call t.answer xs k) none t.torn in
    let short : StopShort t.mid (t.call ∷ []) (t.answer ∷ []) k [] = record {
      calm = [];
      said = [];
      call = t.call;
      answer = t.answer;
      behind = [];
      mid = t.mid;
      calls_are = refl;
      answers_are = refl;
      quiet = refl;
      led = record { same = refl; none = refl };
      torn = torn;
    } in
    let one = turn_one t.mid k t.call t.answer [] (together_one t.mid k t.call t.answer [] (inr short)) in
    let both : InTurn g (t.calm ++ t.call ∷ []) (t.said ++ t.answer ∷ []) k (l ++ []) = turn_append g t.mid k t.calm (t.call ∷ []) t.said (t.answer ∷ []) l [] t.led one in
    let made : InTurn g (t.calm ++ t.call ∷ []) (t.said ++ t.answer ∷ []) k l = subst (λ (ds : List (List Op)). InTurn g (t.calm ++ t.call ∷ []) (t.said ++ t.answer ∷ []) k ds) (append-nil l) both in
    let asked : called ≡ t.calm ++ t.call ∷ [] = t.calls_are ∙ ap (λ (xs : List Step). t.calm ++ t.call ∷ xs) none in
    let heard : b ≡ t.said ++ t.answer ∷ [] = t.answers_are ∙ ap (λ (xs : List Step). t.said ++ t.answer ∷ halted_all xs) none in
    subst (λ (xs : List Step). InTurn g xs b k l) (sym asked) (subst (λ (xs : Answers). InTurn g (t.calm ++ t.call ∷ []) xs k l) (sym heard) made)

-- one went well, and the other failed
went-or-fell : (g : Gateway) (called : List Step) (a b : Answers) (n k : Gateway) (m l : List (List Op)) → AllByRecursion CanWrite called → AreFed a → AreFed b → PeaceAlong g called → HasRoom g → InTurn g called a n m → FailsLast a → StopShort g called b k l
    → (a ≡ b) × (n ≡ k) × (m ≡ l)
went-or-fell g called a b n k m l can fed full p r x last y =
    let alone = together_told g k called b l (inr y) in
    let same = turn-same g called a b n alone.0 m l can p r (turn-fed g n called a m fed x) (turn-fed g alone.0 called b l full alone.1) in
    let fails : FailsLast (y.said ++ y.answer ∷ halted_all y.behind) = subst (λ (xs : Answers). FailsLast xs) (same.0 ∙ y.answers_are) last in
    let none = none-halted y.behind (last-of y.said (halted_all y.behind) y.answer y.torn.excuse y.torn.told fails) in
    turn-same g called a b n k m l can p r (turn-fed g n called a m fed x) (turn-fed g k called b l full (stop-last g called b k l y none))

fell-of : (g : Gateway) (called : List Step) (b : Answers) (k : Gateway) (l : List (List Op)) → AreFed b → (t : StopShort g called b k l) → Fell g t.calm t.said t.call t.answer t.behind k l
fell-of g called b k l fed t =
    let fed_said : AreFed t.said = all-left (λ (answer : Result Out Refusal). answer ≡ Err refusals.Memory → ⊥) t.said (t.answer ∷ halted_all t.behind) (subst (λ (xs : Answers). AreFed xs) t.answers_are fed) in
    record { mid = t.mid; led = turn-fed g t.mid t.calm t.said l fed_said t.led; torn = t.torn }

both-fell : (g : Gateway) (called : List Step) (a b : Answers) (n k : Gateway) (m l : List (List Op)) → AllByRecursion CanWrite called → AreFed a → AreFed b → PeaceAlong g called → HasRoom g → StopShort g called a n m → StopShort g called b k l
    → (a ≡ b) × (n ≡ k) × (m ≡ l)
both-fell g called a b n k m l can fed full p r x y =
    let same = fell-same g x.calm y.calm x.said y.said x.call y.call x.answer y.answer x.behind y.behind n k m l (subst (λ (xs : List Step). AllByRecursion CanWrite xs) x.calls_are can) (subst (λ (xs : List Step). AllByRecursion CanWrite xs) y.calls_are can)
    (subst (λ (xs : List Step). PeaceAlong g xs) x.calls_are p) r (sym x.calls_are ∙ y.calls_are) (fell-of g called a n m fed x) (fell-of g called b k l full y) in
    (x.answers_are ∙ same.0 ∙ sym y.answers_are, same.1, same.2)

pub together-same : (g : Gateway) (called : List Step) (a b : Answers) (n k : Gateway) (m l : List (List Op)) → AllByRecursion CanWrite called → AreFed a → AreFed b → PeaceAlong g called → HasRoom g → Together g called a n m → Together g called b k l
    → (a ≡ b) × (n ≡ k) × (m ≡ l)
together-same g called a b n k m l can fed full p r (inl x) (inl y) = turn-same g called a b n k m l can p r (turn-fed g n called a m fed x.0) (turn-fed g k called b l full y.0)
together-same g called a b n k m l can fed full p r (inl x) (inr y) = went-or-fell g called a b n k m l can fed full p r x.0 x.1 y
together-same g called a b n k m l can fed full p r (inr x) (inl y) =
    let same = went-or-fell g called b a k n l m can full fed p r y.0 y.1 x in
    (sym same.0, sym same.1, sym same.2)
together-same g called a b n k m l can fed full p r (inr x) (inr y) = both-fell g called a b n k m l can fed full p r x y

-- ---- in a field

one-given : (field : Field) (call : Call) (x y : Step) → IsStepOf field call x → IsStepOf field call y → x ≡ y
one-given field (calls.Frame from bytes now) x y h k = h ∙ sym k
one-given field (calls.Tick now) x y h k = h ∙ sym k
one-given field (calls.Take delta) x y h k = h.2 ∙ ap (λ (ops : List Op). steps.Take ops) (same_Some h.0 k.0 (sym h.1.1 ∙ k.1.1)) ∙ sym k.2

pub all-given : (field : Field) (called : List Call) (xs ys : List Step) → AreStepsOf field called xs → AreStepsOf field called ys → xs ≡ ys
all-given field [] [] [] h k = refl
all-given field (call ∷ called) (x ∷ xs) (y ∷ ys) h k =
    let first = one-given field call x y h.0 k.0 in
    let rest = all-given field called xs ys h.1 k.1 in
    λ i. first i ∷ rest i
all-given field [] (x ∷ xs) ys h k = absurd h
all-given field [] [] (y ∷ ys) h k = absurd k
all-given field (call ∷ called) [] ys h k = absurd h
all-given field (call ∷ called) (x ∷ xs) [] h k = absurd k

all-write : (field : Field) (called : List Call) (xs : List Step) → AreStepsOf field called xs → AllByRecursion CanWrite xs
all-write field [] [] h = tt
all-write field (call ∷ called) (x ∷ xs) h = (can-write field call x h.0, all-write field called xs h.1)
all-write field [] (x ∷ xs) h = absurd h
all-write field (call ∷ called) [] h = absurd h

pub row-same : (old : Field) (s : FlushField old) (w : WholeField old) (number : ℕ) (called : List Call) (a b : Answers) (new next : Field) → ((i : ℕ) (gateway : Gateway) → IsAt old number i gateway → HasRoom gateway)
    → ((i j : ℕ) (gateway other : Gateway) → IsAt old number i gateway → IsAt old number j other → (i ≡ j) × (gateway ≡ other)) → TogetherAt old number called a new → TogetherAt old number called b next → (a ≡ b) × (new ≡ next)
row-same old s w number called a b new next room at-one h k =
    let at = at-one h.0 k.0 h.1 k.1 h.5 k.5 in
    let given : h.4 ≡ k.4 = all-given old called h.4 k.4 h.6 k.6 in
    let moved : Together h.1 h.4 b k.2 k.3 = subst (λ (x : Gateway). Together x h.4 b k.2 k.3) (sym at.1) (subst (λ (xs : List Step). Together k.1 xs b k.2 k.3) (sym given) k.7) in
    let one = together-same h.1 h.4 a b h.2 k.2 h.3 k.3 (all-write old called h.4 h.6) h.8 k.8 (peace-along old s w number h.0 h.1 h.5 called h.4 h.6) (room h.0 h.1 h.5) h.7 moved in
    (one.0, h.9 ∙ (λ t. field_changed old (at.0 t) (one.1 t) (one.2 t)) ∙ sym k.9)
