-- Two runs of the same events say the same and lead to the same field.
use Rattle.std.proofs.Common.{◌≡◌, Bool, ℕ, zero, suc, List, [], ◌∷◌, ◌++◌, map, set, slice_get, Some, None, Contains, Result, Ok, Err, refl, sym, ap, ◌∙◌, subst}
use Rattle.std.specs.List.{AllByRecursion}
use Rattle.std.specs.declared.sync.Arc.{Arc}
use Rattle.std.specs.declared.alloc.Global.{Global}
use Rattle.std.proofs.lemmas.Option.{none-some, same_Some}
use Rattle.std.proofs.lemmas.List.Elements.{All-contains_itself, recursion_from_All}
use Rattle.rep_op.specs.declared.op.Subject.{Subject}
use Rattle.rep_op.specs.declared.op.Op.{Op}
use Rattle.sn_local.specs.declared.config.Config.{Config}
use Rattle.sn_plan.proofs.Lists.{all-weaken}
use Rattle.rep_model.specs.Topics.{all_retained}
use Rattle.gw_answer.specs.declared.out.Out.{Out}
use Rattle.gw_answer.specs.declared.refusal.Refusal.{Refusal}
use Rattle.gw_answer.specs.declared.refusal.Refusal.TheVariants as refusals
use Rattle.gw_answer.specs.declared.fault.NodeFault.{NodeFault}
use Rattle.gw_answer.specs.declared.fault.NodeFault.TheVariants as faults
use Rattle.gw_event.specs.Occasions.{Occasion, Datagram, Clock}
use Rattle.gw_answer.specs.Answers.{said}
use Rattle.gw_world.specs.declared.event.Event.{Event}
use Rattle.gw_world.specs.declared.event.Event.TheVariants.{Frame, Tick, Take, Together as AtOnce, Answer as Asks, WriteFails, Compact, Restart, Show}
use Rattle.gw_world.specs.declared.event.Call.{Call}
use Rattle.gw_world.specs.declared.event.Call.TheVariants as calls
use Rattle.gw_world.specs.declared.event.Answer.{Answer}
use Rattle.gw_world.specs.declared.event.Answer.TheVariants.{Node, Row, Views, Records, Nothing}
use Rattle.gw_event.specs.Gateways.{Gateway, new_gateway}
use Rattle.gw_world.specs.Field.{Field, new_field, IsAt, field_changed, failing_gateway, shown, Steps, Asked, TogetherAt, After, Run}
use Rattle.gw_world.specs.Steps.{AnswerStep, records_left, restarted}
use Rattle.gw_event.specs.Event.{OwnStep, TakeStep, CompactStep}
use Rattle.gw_world.specs.Telling.{Said, AllSaid, Shown, Read, answer_value}
use Rattle.gw_world.proofs.Consistency.{FlushField, WholeField, after-sound, start-whole}
use Rattle.gw_world.proofs.Failures.{DueField, after-due, start-due}
use Rattle.gw_world.proofs.Steadiness.{start-flush}
use Rattle.gw_world.proofs.InRows.{Answers, CallAt, row-keeps}
use Rattle.field_laws.proofs.SameRows.{row-same}
use Rattle.field_laws.proofs.Determined.{IsAgreed, own-one, take-one, compact-one, asked-one}
use Rattle.field_laws.proofs.Rooms.{HasRoom, nothing-more, own-room, take-room, torn-row-room, compact-room, failing-room, restart-room}

-- ---- places

at-one : (field : Field) (number i j : ℕ) (gateway other : Gateway) → IsAt field number i gateway → IsAt field number j other → (i ≡ j) × (gateway ≡ other)
at-one field number i j gateway other h k =
    let same : i ≡ j = same_Some i j (sym h.0 ∙ k.0) in
    (same, same_Some gateway other (sym h.1 ∙ ap (λ (n : ℕ). slice_get field.gateways n) same ∙ k.1))

-- ---- no gateway passes a limit

abbrev HaveRoom : Field → Type 0
HaveRoom field = AllByRecursion HasRoom field.gateways

room-at : (gateways : List Gateway) (i : ℕ) (gateway : Gateway) → AllByRecursion HasRoom gateways → slice_get gateways i ≡ Some gateway → HasRoom gateway
room-at [] i gateway h e = absurd (none-some gateway e)
room-at (g ∷ gateways) zero gateway h e = subst HasRoom (same_Some g gateway e) h.0
room-at (g ∷ gateways) (suc i) gateway h e = room-at gateways i gateway h.1 e

room-set : (gateways : List Gateway) (i : ℕ) (gateway : Gateway) → AllByRecursion HasRoom gateways → HasRoom gateway → AllByRecursion HasRoom (set gateways i gateway)
room-set [] i gateway h p = tt
room-set (g ∷ gateways) zero gateway h p = (p, h.1)
room-set (g ∷ gateways) (suc i) gateway h p = (h.0, room-set gateways i gateway h.1 p)

room-start : (configs : List Config) → AllByRecursion HasRoom (map new_gateway configs)
room-start [] = tt
room-start (config ∷ configs) = (record { now = refl; back = nothing-more [] [] refl refl; runs = λ _. refl }, room-start configs)

-- ---- one event

-- the answer is no Conflict
abbrev IsCalm : Answer → Type 0
IsCalm (Node answer) = IsAgreed (said answer)
IsCalm (Row answers) = Unit {0}
IsCalm (Views views topics) = Unit {0}
IsCalm (Records count) = Unit {0}
IsCalm Nothing = Unit {0}

steps-one : (old : Field) (number : ℕ) (occasion : Occasion) (now : ℕ) (a b : Result Out Refusal) (new next : Field) → HaveRoom old → IsAgreed a → IsAgreed b
    → Steps old number occasion now a new → Steps old number occasion now b next → (a ≡ b) × (new ≡ next)
steps-one old number occasion now a b new next room f g h k =
    let at = at-one old number h.0 k.0 h.1 k.1 h.4 k.4 in
    let one = own-one h.1 occasion now a b h.2 k.2 h.3 k.3 (room-at old.gateways h.0 h.1 room h.4.1).now f g h.5 (subst (λ (x : Gateway). OwnStep x occasion now b k.2 k.3) (sym at.1) k.5) in
    let same : field_changed old h.0 h.2 h.3 ≡ field_changed old k.0 k.2 k.3 = λ t. field_changed old (at.0 t) (one.1 t) (one.2 t) in
    (one.0, h.6 ∙ same ∙ sym k.6)

steps-room : (old : Field) (number : ℕ) (occasion : Occasion) (now : ℕ) (a : Result Out Refusal) (new : Field) → HaveRoom old → Steps old number occasion now a new → HaveRoom new
steps-room old number occasion now a new room h =
    subst HaveRoom (sym h.6) (room-set old.gateways h.0 h.2 room (own-room h.1 occasion now a h.2 h.3 h.5 (room-at old.gateways h.0 h.1 room h.4.1)))

asks-one : (old : Field) (number other : ℕ) (a b : Result Out Refusal) (new next : Field) → Asked old number other a new → Asked old number other b next → (a ≡ b) × (new ≡ next)
asks-one old number other a b new next h k =
    let at = at-one old number h.0 k.0 h.2 k.2 h.5 k.5 in
    let there = at-one old other h.1 k.1 h.3 k.3 h.6 k.6 in
    let one = asked-one h.2 h.3 a b h.4 k.4 h.7
    (subst (λ (x : Gateway). AnswerStep x h.3 b k.4) (sym at.1) (subst (λ (y : Gateway). AnswerStep k.2 y b k.4) (sym there.1) k.7)) in
    (one.0, h.8 ∙ ap (λ (made : List (List Op)). record old { deltas = old.deltas ++ made }) one.1 ∙ sym k.8)

compacts-one : (old : Field) (number : ℕ) (a b : Result Out Refusal) (new next : Field) (i j : ℕ) (gateway other then_one then_other : Gateway)
    → IsAt old number i gateway → IsAt old number j other → CompactStep gateway a then_one → CompactStep other b then_other
    → new ≡ field_changed old i then_one [] → next ≡ field_changed old j then_other [] → (a ≡ b) × (new ≡ next)
compacts-one old number a b new next i j gateway other then_one then_other h k s t e f =
    let at = at-one old number i j gateway other h k in
    let one = compact-one gateway a b then_one then_other s (subst (λ (x : Gateway). CompactStep x b then_other) (sym at.1) t) in
    let same : field_changed old i then_one [] ≡ field_changed old j then_other [] = λ u. field_changed old (at.0 u) (one.1 u) [] in
    (one.0, e ∙ same ∙ sym f)

next-at : (old new : Field) (i : ℕ) (gateway next : Gateway) → HaveRoom old → slice_get old.gateways i ≡ Some gateway → (HasRoom gateway → HasRoom next) → new ≡ field_changed old i next [] → HaveRoom new
next-at old new i gateway next room there f e = subst HaveRoom (sym e) (room-set old.gateways i next room (f (room-at old.gateways i gateway room there)))

pub after-one : (old : Field) (event : Event) (a b : Answer) (new next : Field) → HaveRoom old → FlushField old → WholeField old → IsCalm a → IsCalm b → After old event a new → After old event b next → (answer_value a ≡ answer_value b) × (new ≡ next)
after-one old (Frame number from bytes now) (Node a) (Node b) new next room s w f g h k =
    let one = steps-one old number (Datagram from bytes) now (said a) (said b) new next room f g h k in
    (ap (λ (x : Result Out Refusal). Said x) one.0, one.1)
after-one old (Tick number now) (Node a) (Node b) new next room s w f g h k =
    let one = steps-one old number Clock now (said a) (said b) new next room f g h k in
    (ap (λ (x : Result Out Refusal). Said x) one.0, one.1)
after-one old (Take number delta) (Node a) (Node b) new next room s w f g h k =
    let at = at-one old number h.0 k.0 h.1 k.1 h.5 k.5 in
    let ops : h.4 ≡ k.4 = same_Some h.4 k.4 (sym h.6.1 ∙ k.6.1) in
    let one = take-one h.1 h.4 (said a) (said b) h.2 k.2 h.3 k.3 f g h.7
    (subst (λ (x : Gateway). TakeStep x h.4 (said b) k.2 k.3) (sym at.1) (subst (λ (d : List Op). TakeStep k.1 d (said b) k.2 k.3) (sym ops) k.7)) in
    let same : field_changed old h.0 h.2 h.3 ≡ field_changed old k.0 k.2 k.3 = λ t. field_changed old (at.0 t) (one.1 t) (one.2 t) in
    (ap (λ (x : Result Out Refusal). Said x) one.0, h.8 ∙ same ∙ sym k.8)
after-one old (Asks number other) (Node a) (Node b) new next room s w f g h k =
    let one = asks-one old number other (said a) (said b) new next h k in
    (ap (λ (x : Result Out Refusal). Said x) one.0, one.1)
after-one old (WriteFails number bytes sync) Nothing Nothing new next room s w f g h k =
    let at = at-one old number h.0 k.0 h.1 k.1 h.2 k.2 in
    let same : field_changed old h.0 (failing_gateway bytes sync h.1) [] ≡ field_changed old k.0 (failing_gateway bytes sync k.1) [] = λ t. field_changed old (at.0 t) (failing_gateway bytes sync (at.1 t)) [] in
    (refl, h.3 ∙ same ∙ sym k.3)
after-one old (Compact number) (Node a) (Node b) new next room s w f g h k =
    let one = compacts-one old number (said a) (said b) new next h.0 k.0 h.1 k.1 h.2 k.2 h.3 k.3 h.4 k.4 h.5 k.5 in
    (ap (λ (x : Result Out Refusal). Said x) one.0, one.1)
after-one old (Restart number kept) (Records a) (Records b) new next room s w f g h k =
    let at = at-one old number h.0 k.0 h.1 k.1 h.2 k.2 in
    let same : field_changed old h.0 (restarted kept h.1) [] ≡ field_changed old k.0 (restarted kept k.1) [] = λ t. field_changed old (at.0 t) (restarted kept (at.1 t)) [] in
    (ap (λ (n : ℕ). Read n) (h.3 ∙ ap (λ (x : Gateway). records_left kept x) at.1 ∙ sym k.3), h.4 ∙ same ∙ sym k.4)
after-one old (Show number) (Views a ts) (Views b us) new next room s w f g h k =
    let at = at-one old number h.0 k.0 h.1 k.1 h.2 k.2 in
    let same : shown h.1.taken ≡ shown k.1.taken = ap (λ (x : Gateway). shown x.taken) at.1 in
    let retained : all_retained h.1.taken ≡ all_retained k.1.taken = ap (λ (x : Gateway). all_retained x.taken) at.1 in
    ((λ t. Shown ((h.3 ∙ same ∙ sym k.3) t) ((h.5 ∙ retained ∙ sym k.5) t)), h.4 ∙ sym k.4)
after-one old (Frame number from bytes now) (Node a) (Views b us) new next room s w f g h k = absurd k
after-one old (Tick number now) (Node a) (Views b us) new next room s w f g h k = absurd k
after-one old (Take number delta) (Node a) (Views b us) new next room s w f g h k = absurd k
after-one old (Asks number other) (Node a) (Views b us) new next room s w f g h k = absurd k
after-one old (Show number) (Views a ts) (Node b) new next room s w f g h k = absurd k
after-one old (Frame number from bytes now) (Node a) (Records b) new next room s w f g h k = absurd k
after-one old (Tick number now) (Node a) (Records b) new next room s w f g h k = absurd k
after-one old (Take number delta) (Node a) (Records b) new next room s w f g h k = absurd k
after-one old (Asks number peer) (Node a) (Records b) new next room s w f g h k = absurd k
after-one old (Compact number) (Node a) (Views b us) new next room s w f g h k = absurd k
after-one old (Compact number) (Node a) (Records b) new next room s w f g h k = absurd k
after-one old (Restart number kept) (Records a) (Node b) new next room s w f g h k = absurd k
after-one old (Restart number kept) (Records a) (Views b us) new next room s w f g h k = absurd k
after-one old (Show number) (Views a ts) (Records b) new next room s w f g h k = absurd k
after-one old (Frame number from bytes now) (Views a ts) b new next room s w f g h k = absurd h
after-one old (Tick number now) (Views a ts) b new next room s w f g h k = absurd h
after-one old (Take number delta) (Views a ts) b new next room s w f g h k = absurd h
after-one old (Asks number other) (Views a ts) b new next room s w f g h k = absurd h
after-one old (Show number) (Node a) b new next room s w f g h k = absurd h
after-one old (Compact number) (Views views topics) b new next room s w f g h k = absurd h
after-one old (Restart number kept) (Views views topics) b new next room s w f g h k = absurd h
after-one old (Restart number kept) (Node answer) b new next room s w f g h k = absurd h
after-one old (Frame number from bytes now) (Records count) b new next room s w f g h k = absurd h
after-one old (Tick number now) (Records count) b new next room s w f g h k = absurd h
after-one old (Take number delta) (Records count) b new next room s w f g h k = absurd h
after-one old (Asks number peer) (Records count) b new next room s w f g h k = absurd h
after-one old (Compact number) (Records count) b new next room s w f g h k = absurd h
after-one old (Show number) (Records count) b new next room s w f g h k = absurd h
after-one old (WriteFails number bytes sync) (Node a) b new next room s w f g h k = absurd h
after-one old (WriteFails number bytes sync) (Views a ts) b new next room s w f g h k = absurd h
after-one old (WriteFails number bytes sync) (Records a) b new next room s w f g h k = absurd h
after-one old (WriteFails number bytes sync) Nothing (Node b) new next room s w f g h k = absurd k
after-one old (WriteFails number bytes sync) Nothing (Views b us) new next room s w f g h k = absurd k
after-one old (WriteFails number bytes sync) Nothing (Records b) new next room s w f g h k = absurd k
after-one old (Frame number from bytes now) Nothing b new next room s w f g h k = absurd h
after-one old (Tick number now) Nothing b new next room s w f g h k = absurd h
after-one old (Take number delta) Nothing b new next room s w f g h k = absurd h
after-one old (Asks number other) Nothing b new next room s w f g h k = absurd h
after-one old (Compact number) Nothing b new next room s w f g h k = absurd h
after-one old (Restart number kept) Nothing b new next room s w f g h k = absurd h
after-one old (Show number) Nothing b new next room s w f g h k = absurd h
after-one old (Frame number from bytes now) (Node a) Nothing new next room s w f g h k = absurd k
after-one old (Tick number now) (Node a) Nothing new next room s w f g h k = absurd k
after-one old (Take number delta) (Node a) Nothing new next room s w f g h k = absurd k
after-one old (Asks number other) (Node a) Nothing new next room s w f g h k = absurd k
after-one old (Compact number) (Node a) Nothing new next room s w f g h k = absurd k
after-one old (Restart number kept) (Records a) Nothing new next room s w f g h k = absurd k
after-one old (Show number) (Views a ts) Nothing new next room s w f g h k = absurd k
after-one old (AtOnce number calls) (Row a) (Row b) new next room s w f g h k =
    let one = row-same old s w number calls (map said a) (map said b) new next (λ i gateway at. room-at old.gateways i gateway room at.1)
    (λ i j gateway other at there. at-one old number i j gateway other at there) h k in
    (ap (λ (xs : List (Result Out Refusal)). AllSaid xs) one.0, one.1)
after-one old (AtOnce number calls) (Row a) (Node b) new next room s w f g h k = absurd k
after-one old (AtOnce number calls) (Row a) (Views b us) new next room s w f g h k = absurd k
after-one old (AtOnce number calls) (Row a) (Records b) new next room s w f g h k = absurd k
after-one old (AtOnce number calls) (Row a) Nothing new next room s w f g h k = absurd k
after-one old (AtOnce number calls) (Node a) b new next room s w f g h k = absurd h
after-one old (AtOnce number calls) (Views a ts) b new next room s w f g h k = absurd h
after-one old (AtOnce number calls) (Records a) b new next room s w f g h k = absurd h
after-one old (AtOnce number calls) Nothing b new next room s w f g h k = absurd h
after-one old (Frame number from bytes now) (Node a) (Row b) new next room s w f g h k = absurd k
after-one old (Tick number now) (Node a) (Row b) new next room s w f g h k = absurd k
after-one old (Take number delta) (Node a) (Row b) new next room s w f g h k = absurd k
after-one old (Asks number other) (Node a) (Row b) new next room s w f g h k = absurd k
after-one old (Compact number) (Node a) (Row b) new next room s w f g h k = absurd k
after-one old (Restart number kept) (Records a) (Row b) new next room s w f g h k = absurd k
after-one old (Show number) (Views a ts) (Row b) new next room s w f g h k = absurd k
after-one old (WriteFails number bytes sync) Nothing (Row b) new next room s w f g h k = absurd k
after-one old (Frame number from bytes now) (Row a) b new next room s w f g h k = absurd h
after-one old (Tick number now) (Row a) b new next room s w f g h k = absurd h
after-one old (Take number delta) (Row a) b new next room s w f g h k = absurd h
after-one old (Asks number other) (Row a) b new next room s w f g h k = absurd h
after-one old (Compact number) (Row a) b new next room s w f g h k = absurd h
after-one old (Restart number kept) (Row a) b new next room s w f g h k = absurd h
after-one old (Show number) (Row a) b new next room s w f g h k = absurd h
after-one old (WriteFails number bytes sync) (Row a) b new next room s w f g h k = absurd h

call-room : (old new : Field) (number : ℕ) (call : Call) (answer : Result Out Refusal) → CallAt old number call answer new → HaveRoom old → HaveRoom new
call-room old new number (calls.Frame from bytes now) answer h room = steps-room old number (Datagram from bytes) now answer new room h
call-room old new number (calls.Tick now) answer h room = steps-room old number Clock now answer new room h
call-room old new number (calls.Take delta) answer h room =
    subst HaveRoom (sym h.8) (room-set old.gateways h.0 h.2 room (take-room h.1 h.4 answer h.2 h.3 h.7 (room-at old.gateways h.0 h.1 room h.5.1)))

row-room : (old new : Field) (number : ℕ) (called : List Call) (answers : Answers) → TogetherAt old number called answers new → HaveRoom old → HaveRoom new
row-room old new number called answers h room =
    row-keeps HaveRoom number (λ before after call answer one room. call-room before after number call answer one room)
    (λ field i gateway next behind step answer more at is t room. room-set field.gateways i next room (torn-row-room gateway next step answer more t (room-at field.gateways i gateway room at.1)))
    old new called answers h room

pub after-room : (old : Field) (event : Event) (a : Answer) (new : Field) → HaveRoom old → After old event a new → HaveRoom new
after-room old (Frame number from bytes now) (Node a) new room h = steps-room old number (Datagram from bytes) now (said a) new room h
after-room old (Tick number now) (Node a) new room h = steps-room old number Clock now (said a) new room h
after-room old (Take number delta) (Node a) new room h =
    subst HaveRoom (sym h.8) (room-set old.gateways h.0 h.2 room (take-room h.1 h.4 (said a) h.2 h.3 h.7 (room-at old.gateways h.0 h.1 room h.5.1)))
after-room old (AtOnce number calls) (Row a) new room h = row-room old new number calls (map said a) h room
after-room old (Asks number other) (Node a) new room h = subst HaveRoom (sym h.8) room
after-room old (WriteFails number bytes sync) Nothing new room h = next-at old new h.0 h.1 (failing_gateway bytes sync h.1) room h.2.1 (failing-room bytes sync h.1) h.3
after-room old (Compact number) (Node a) new room h = next-at old new h.0 h.1 h.2 room h.3.1 (compact-room h.1 h.2 (said a) h.4) h.5
after-room old (Restart number kept) (Records a) new room h = next-at old new h.0 h.1 (restarted kept h.1) room h.2.1 (restart-room kept h.1) h.4
after-room old (Show number) (Views a ts) new room h = subst HaveRoom (sym h.4) room
after-room old (Frame number from bytes now) (Views a ts) new room h = absurd h
after-room old (Tick number now) (Views a ts) new room h = absurd h
after-room old (Take number delta) (Views a ts) new room h = absurd h
after-room old (Asks number other) (Views a ts) new room h = absurd h
after-room old (Show number) (Node a) new room h = absurd h
after-room old (Compact number) (Views views topics) new room h = absurd h
after-room old (Restart number kept) (Views views topics) new room h = absurd h
after-room old (Restart number kept) (Node answer) new room h = absurd h
after-room old (Frame number from bytes now) (Records count) new room h = absurd h
after-room old (Tick number now) (Records count) new room h = absurd h
after-room old (Take number delta) (Records count) new room h = absurd h
after-room old (Asks number peer) (Records count) new room h = absurd h
after-room old (Compact number) (Records count) new room h = absurd h
after-room old (Show number) (Records count) new room h = absurd h
after-room old (WriteFails number bytes sync) (Node a) new room h = absurd h
after-room old (WriteFails number bytes sync) (Views a ts) new room h = absurd h
after-room old (WriteFails number bytes sync) (Records a) new room h = absurd h
after-room old (Frame number from bytes now) Nothing new room h = absurd h
after-room old (Tick number now) Nothing new room h = absurd h
after-room old (Take number delta) Nothing new room h = absurd h
after-room old (Asks number other) Nothing new room h = absurd h
after-room old (Compact number) Nothing new room h = absurd h
after-room old (Restart number kept) Nothing new room h = absurd h
after-room old (Show number) Nothing new room h = absurd h
after-room old (AtOnce number calls) (Node answer) new room h = absurd h
after-room old (AtOnce number calls) (Views views topics) new room h = absurd h
after-room old (AtOnce number calls) (Records count) new room h = absurd h
after-room old (AtOnce number calls) Nothing new room h = absurd h
after-room old (Frame number from bytes now) (Row answers) new room h = absurd h
after-room old (Tick number now) (Row answers) new room h = absurd h
after-room old (Take number delta) (Row answers) new room h = absurd h
after-room old (Asks number peer) (Row answers) new room h = absurd h
after-room old (WriteFails number bytes sync) (Row answers) new room h = absurd h
after-room old (Compact number) (Row answers) new room h = absurd h
after-room old (Restart number kept) (Row answers) new room h = absurd h
after-room old (Show number) (Row answers) new room h = absurd h

-- ---- runs

pub run-one : (old : Field) (events : List Event) (answers others : List Answer) (one other : Field) → HaveRoom old → FlushField old → WholeField old → DueField old → AllByRecursion IsCalm answers → AllByRecursion IsCalm others
    → Run old events answers one → Run old events others other → (map answer_value answers ≡ map answer_value others) × (one ≡ other)
run-one old [] [] [] one other room s w d f g h k = (refl, h ∙ sym k)
run-one old (event ∷ events) (a ∷ answers) (b ∷ others) one other room s w d f g h k =
    let first = after-one old event a b h.0 k.0 room s w f.0 g.0 h.1 k.1 in
    let sound = after-sound old event b k.0 k.1 s w d in
    let rest = run-one k.0 events answers others one other (after-room old event b k.0 room k.1) sound.flush sound.whole (after-due old event b k.0 k.1 d) f.1 g.1 (subst (λ (x : Field). Run x events answers one) first.1 h.2) k.2 in
    ((λ t. first.0 t ∷ rest.0 t), rest.1)
run-one old [] [] (b ∷ others) one other room s w d f g h k = absurd k
run-one old [] (a ∷ answers) others one other room s w d f g h k = absurd h
run-one old (event ∷ events) [] others one other room s w d f g h k = absurd h
run-one old (event ∷ events) (a ∷ answers) [] one other room s w d f g h k = absurd k

said-conflict : (answer : Result (Arc Out Global) NodeFault) (client : Subject) → said answer ≡ Err (refusals.Conflict client) → answer ≡ Err (faults.Conflict client)
said-conflict (Ok out) client e = absurd cc
said-conflict (Err (faults.Conflict c)) client e = cc
said-conflict (Err (faults.Frame fault)) client e = absurd cc
said-conflict (Err faults.Halted) client e = absurd cc
said-conflict (Err (faults.Disk out)) client e = absurd cc
said-conflict (Err faults.Full) client e = absurd cc
said-conflict (Err faults.Exhausted) client e = absurd cc
said-conflict (Err (faults.Journal fault)) client e = absurd cc
said-conflict (Err faults.Memory) client e = absurd cc

-- no answer is a Conflict
abbrev pub HaveNoConflict : List Answer → Type 0
HaveNoConflict answers = (client : Subject) → Contains answers (Node (Err (faults.Conflict client))) → ⊥

calm-answer : (answers : List Answer) → HaveNoConflict answers → (answer : Answer) → Contains answers answer → IsCalm answer
calm-answer answers f (Node answer) there = λ client e. f client (subst (λ (x : Answer). Contains answers x) (ap (λ (r : Result (Arc Out Global) NodeFault). Node r) (said-conflict answer client e)) there)
calm-answer answers f (Row replies) there = tt
calm-answer answers f (Views views topics) there = tt
calm-answer answers f (Records count) there = tt
calm-answer answers f Nothing there = tt

calm-answers : (answers : List Answer) → HaveNoConflict answers → AllByRecursion IsCalm answers
calm-answers answers f =
    all-weaken (λ (x : Answer). Contains answers x) IsCalm (calm-answer answers f) answers
    (recursion_from_All (λ (x : Answer). Contains answers x) answers (All-contains_itself answers))

pub runs-one : (configs : List Config) (events : List Event) (answers others : List Answer) (one other : Field) → HaveNoConflict answers → HaveNoConflict others
    → Run (new_field configs) events answers one → Run (new_field configs) events others other → (map answer_value answers ≡ map answer_value others) × (one ≡ other)
runs-one configs events answers others one other f g h k =
    run-one (new_field configs) events answers others one other (room-start configs) (start-flush configs) (start-whole configs) (start-due configs) (calm-answers answers f) (calm-answers others g) h k
