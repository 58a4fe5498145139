-- Every run leaves a field that is steady and in which no name has two contents, and answers no Conflict. That a gateway is flush
-- after it took a delta rests on where the delta's names are at home; and where they are, on gateways that are flush. So both go
-- by one induction.
use Rattle.std.proofs.Common.{◌≡◌, Bool, refl, ℕ, zero, suc, ◌-◌, ◌⊎◌, List, [], ◌∷◌, ◌++◌, map, slice_get, Some, Contains, Result, Ok, Err, sym, ap, subst, inl, inr}
use Rattle.std.specs.List.{AllByRecursion}
use Rattle.std.proofs.lemmas.List.Elements.{All-from_recursion, All-contains}
use Rattle.std.proofs.lemmas.Option.{none-some, same_Some}
use Rattle.rep_op.specs.declared.op.Subject.{Subject}
use Rattle.rep_op.specs.declared.op.Op.{Op}
use Rattle.rep_op.specs.declared.op.Op.TheVariants.{Session as OfSession, Put as OfPut, Ack, Retain as OfRetain}
use Rattle.rep_ops.specs.Deltas.{IsDelta}
use Rattle.rep_op.specs.Sets.{HasOperation, IsConsistent, Agrees}
use Rattle.rep_model.specs.Keep.{keep}
use Rattle.rep_model.specs.Taking.{AllAgree}
use Rattle.rep_model.proofs.Joins.{all-moved}
use Rattle.sn_local.specs.declared.config.Config.{Config}
use Rattle.sn_plan.proofs.Lists.{all-weaken, all-append}
use Rattle.gw_world.specs.declared.event.Event.{Event}
use Rattle.gw_world.specs.declared.event.Event.TheVariants.{Frame, Tick, Take, Together as AtOnce, Answer as Asks, WriteFails, Compact, Restart, Show}
use Rattle.gw_world.specs.declared.event.Call.{Call}
use Rattle.gw_world.specs.declared.event.Call.TheVariants as calls
use Rattle.gw_world.specs.declared.event.Answer.{Answer}
use Rattle.gw_world.specs.declared.event.Answer.TheVariants.{Node, Row, Views, Records, Nothing}
use Rattle.gw_answer.specs.declared.out.Out.{Out}
use Rattle.gw_answer.specs.declared.refusal.Refusal.{Refusal}
use Rattle.gw_answer.specs.Answers.{said}
use Rattle.gw_answer.specs.declared.refusal.Refusal.TheVariants as refusals
use Rattle.gw_answer.specs.declared.fault.NodeFault.{NodeFault}
use Rattle.gw_answer.specs.declared.fault.NodeFault.TheVariants as faults
use Rattle.std.specs.declared.alloc.Global.{Global}
use Rattle.std.specs.declared.sync.Arc.{Arc}
use Rattle.gw_event.specs.Occasions.{Occasion, Datagram, Clock}
use Rattle.gw_event.specs.Gateways.{Gateway, new_gateway, with_refused}
use Rattle.gw_event.specs.Drives.{left_by, more_records}
use Rattle.gw_event.specs.Together.{halted_all, AreTorn}
use Rattle.gw_answer.specs.declared.step.Step.{Step}
use Rattle.gw_world.specs.Field.{Field, new_field, IsAt, IsDeltaAt, field_changed, failing_gateway, AreStepsOf, TogetherAt, After, Run}
use Rattle.gw_world.proofs.InRows.{Answers, CallAt, InCalls, CutShort, changed-twice, at-changed, row-moves, row-keeps, torn-row-still}
use Rattle.gw_world.specs.Steps.{AnswerStep, restarted}
use Rattle.gw_event.specs.Event.{HaveName, IsConflict, OwnStep, TakeStep, CompactStep, IsWritable}
use Rattle.gw_world.specs.Steady.{IsKnown, IsSteady}
use Rattle.gw_world.specs.Whole.{everything, IsAtOrigin}
use Rattle.gw_world.proofs.Alone.{stands-alone, agrees-alone}
use Rattle.gw_world.proofs.Answering.{answered, all-answered}
use Rattle.gw_world.proofs.Each.{all-at, all-places, each-all}
use Rattle.gw_node.proofs.Held.{agrees_with_kept}
use Rattle.gw_world.proofs.Numbers.{First, place_of-first, first-number, first-place_of}
use Rattle.gw_world.proofs.Steadiness.{Still, Stepped, Fed, still, own-moves, own-writable, take-moves, compact-still, AreAllFlush, flush-moved, flush-fed, flush-back, start-flush, no-conflict}
use Rattle.gw_world.proofs.Whole.{IsHeld, Whole, held-alike, held-known, whole-silent, whole-still, whole-stepped, whole-back, whole-joined}
use Rattle.gw_world.proofs.Failures.{OwnDue, OwnOrListed, DueInTurn, turn-as-more, DueAs, DueField, after-due, start-due, due-joined}

abbrev pub FlushField : Field → Type 0
FlushField field = AreAllFlush field.gateways

abbrev pub WholeField : Field → Type 0
WholeField field = Whole field.gateways field.deltas

pub steady-is : (field : Field) → FlushField field → WholeField field → IsSteady field
steady-is field s w = record {
  flush = λ number i gateway at. s number i gateway (place_of-first number i field.gateways at.0) at.1;
  known = λ number i gateway at. all-weaken (λ (D : List Op). AllByRecursion (IsHeld field.gateways) D) (IsKnown number gateway.taken)
      (λ D h. held-known field.gateways number i gateway (place_of-first number i field.gateways at.0) at.1 D h) field.deltas w.each.lists;
}

-- the answer is no Conflict
abbrev pub IsAtPeace : Result Out Refusal → Type 0
IsAtPeace (Err (refusals.Conflict client)) = ⊥
IsAtPeace answer = Unit {0}

abbrev pub IsPeaceful : Answer → Type 0
IsPeaceful (Node answer) = IsAtPeace (said answer)
IsPeaceful (Row answers) = AllByRecursion IsAtPeace (map said answers)
IsPeaceful (Views views topics) = Unit {0}
IsPeaceful (Records count) = Unit {0}
IsPeaceful Nothing = Unit {0}

-- ---- what one event does

module _ (field : Field) (s : FlushField field) (w : WholeField field) (n i : ℕ) (old : Gateway) (at : IsAt field n i old) where
  at-first : First n field.gateways i
  at-first = place_of-first n i field.gateways at.0

  own-first : First old.config.gateway field.gateways i
  own-first = subst (λ k. First k field.gateways i) (sym (first-number n i field.gateways old at-first at.1)) at-first

  flush-own : (next : Gateway) (made : List (List Op)) → Still old next made ⊎ Stepped old next made → FlushField (field_changed field i next made)
  flush-own next made u = flush-moved field.gateways s n i old at-first at.1 next made u

  listed : (k : ℕ) (delta : List Op) → slice_get field.deltas k ≡ Some delta → AllByRecursion (IsHeld field.gateways) delta
  listed k delta there = all-at (λ (D : List Op). AllByRecursion (IsHeld field.gateways) D) field.deltas k delta w.each.lists there

  whole-moved : (next : Gateway) (made : List (List Op)) → AllByRecursion IsWritable made → Still old next made ⊎ Stepped old next made → WholeField (field_changed field i next made)
  whole-moved next made writable (inl u) = whole-still field.gateways i old next field.deltas made at.1 u w
  whole-moved next made writable (inr u) = whole-stepped field.gateways i old next made at.1 own-first (s old.config.gateway i old own-first at.1) u field.deltas writable w

  -- it took a delta of the list, or nothing
  whole-taken : (next : Gateway) (made : List (List Op)) (k : ℕ) (delta : List Op) → slice_get field.deltas k ≡ Some delta → Still old next made ⊎ Fed old delta next made → WholeField (field_changed field i next made)
  whole-taken next made k delta there (inl u) = whole-still field.gateways i old next field.deltas made at.1 u w
  whole-taken next made k delta there (inr u) = whole-silent field.gateways i old next delta at.1 u.config u.taken field.deltas made (listed k delta there) u.none w

  flush-taken : (next : Gateway) (made : List (List Op)) (k : ℕ) (delta : List Op) → slice_get field.deltas k ≡ Some delta → Still old next made ⊎ Fed old delta next made → FlushField (field_changed field i next made)
  flush-taken next made k delta there u =
      flush-fed field.gateways s n i old at-first at.1 next made delta (held-known field.gateways n i old at-first at.1 delta (listed k delta there)) u

  -- it took what it had refused of its own, or nothing
  back : (next : Gateway) (delta : List Op) (d : OwnDue old.config.gateway old.taken delta) → Fed old delta next [] → Stepped old next (delta ∷ [])
  back next delta d u = record { plan = d.plan; drafted = d.drafted; delta = delta; proper = d.proper; same = d.same; config = u.config; taken = u.taken; one = refl }

  whole-own : (next : Gateway) (delta : List Op) (d : OwnDue old.config.gateway old.taken delta) → Still old next [] ⊎ Fed old delta next [] → WholeField (field_changed field i next [])
  whole-own next delta d (inl u) = whole-still field.gateways i old next field.deltas [] at.1 u w
  whole-own next delta d (inr u) = whole-back field.gateways i old next (delta ∷ []) at.1 own-first (s old.config.gateway i old own-first at.1) (back next delta d u) field.deltas w

  flush-again-own : (next : Gateway) (delta : List Op) (d : OwnDue old.config.gateway old.taken delta) → Still old next [] ⊎ Fed old delta next [] → FlushField (field_changed field i next [])
  flush-again-own next delta d (inl u) = flush-own next [] (inl u)
  flush-again-own next delta d (inr u) = flush-back field.gateways s n i old at-first at.1 next d.plan delta d.drafted d.same u

  one-back : (delta : List Op) → OwnOrListed field.deltas old.config.gateway old.taken delta → (next : Gateway) → Fed old delta next [] → FlushField (field_changed field i next []) × WholeField (field_changed field i next [])
  one-back delta (inl d) next u = (flush-again-own next delta d (inr u), whole-own next delta d (inr u))
  one-back delta (inr (k, there)) next u = (flush-taken next [] k delta there (inr u), whole-taken next [] k delta there (inr u))

  pub none-back : (next : Gateway) → Still old next [] → FlushField (field_changed field i next []) × WholeField (field_changed field i next [])
  none-back next u = (flush-own next [] (inl u), whole-still field.gateways i old next field.deltas [] at.1 u w)

  -- its next write is to fail
  same-set : (bytes : ℕ) (sync : Bool) → Still old (failing_gateway bytes sync old) []
  same-set bytes sync = record { config = refl; taken = refl; none = refl }

  own-peaceful : (occasion : Occasion) (now : ℕ) (answer : Result Out Refusal) (next : Gateway) (made : List (List Op)) → OwnStep old occasion now answer next made → IsAtPeace answer
  own-peaceful occasion now (Ok out) next made h = tt
  own-peaceful occasion now (Err (refusals.Frame fault)) next made h = tt
  own-peaceful occasion now (Err (refusals.Conflict client)) next made h = no-conflict field n i old occasion now client next made (steady-is field s w) at h
  own-peaceful occasion now (Err refusals.Full) next made h = tt
  own-peaceful occasion now (Err refusals.Exhausted) next made h = tt
  own-peaceful occasion now (Err refusals.Halted) next made h = tt
  own-peaceful occasion now (Err (refusals.Disk excuse)) next made h = tt
  own-peaceful occasion now (Err (refusals.Journal fault)) next made h = tt
  own-peaceful occasion now (Err refusals.Memory) next made h = tt

  -- a listed delta has nothing that differs from what the gateway has under its name
  listed-peaceful : (k : ℕ) (delta : List Op) (client : Subject) → slice_get field.deltas k ≡ Some delta → IsConflict old.taken delta client → ⊥
  listed-peaceful k delta client there x =
      x.differs (held-alike field.gateways x.old x.new
      (All-contains (IsHeld field.gateways) old.taken x.old (All-from_recursion (IsHeld field.gateways) old.taken (w.each.sets i old at.1)) x.is_old)
      (All-contains (IsHeld field.gateways) delta x.new (All-from_recursion (IsHeld field.gateways) delta (listed k delta there)) x.is_new)
      x.named)

  take-peaceful : (k : ℕ) (delta : List Op) (answer : Result Out Refusal) (next : Gateway) (made : List (List Op)) → slice_get field.deltas k ≡ Some delta → TakeStep old delta answer next made → IsAtPeace answer
  take-peaceful k delta (Ok out) next made there h = tt
  take-peaceful k delta (Err (refusals.Frame fault)) next made there h = tt
  take-peaceful k delta (Err (refusals.Conflict client)) next made there h = listed-peaceful k delta client there h.0
  take-peaceful k delta (Err refusals.Full) next made there h = tt
  take-peaceful k delta (Err refusals.Exhausted) next made there h = tt
  take-peaceful k delta (Err refusals.Halted) next made there h = tt
  take-peaceful k delta (Err (refusals.Disk excuse)) next made there h = tt
  take-peaceful k delta (Err (refusals.Journal fault)) next made there h = tt
  take-peaceful k delta (Err refusals.Memory) next made there h = tt

-- it took so many first ones of what it had refused
some-back : (m : ℕ) (refused : List (List Op)) (field : Field) (s : FlushField field) (w : WholeField field) (n i : ℕ) (old : Gateway) (at : IsAt field n i old) → DueInTurn field.deltas old.config.gateway old.taken refused
    → (next : Gateway) → next.config ≡ old.config → next.taken ≡ with_refused m old.taken refused → FlushField (field_changed field i next []) × WholeField (field_changed field i next [])
some-back zero refused field s w n i old at d next config taken = none-back field s w n i old at next (record { config = config; taken = taken; none = refl })
some-back (suc m) [] field s w n i old at d next config taken = none-back field s w n i old at next (record { config = config; taken = taken; none = refl })
some-back (suc m) (delta ∷ refused) field s w n i old at d next config taken =
    let mid : Gateway = record old { taken = old.taken ++ delta } in
    let one = one-back field s w n i old at delta d.0 mid (record { config = refl; taken = refl; none = refl }) in
    let more = turn-as-more field.deltas [] old.config.gateway (old.taken ++ delta) refused d.1 in
    let rest = some-back m refused (field_changed field i mid []) one.0 one.1 n i mid (at-changed field n i old mid [] at refl) more next config taken in
    let same : field_changed (field_changed field i mid []) i next [] ≡ field_changed field i next [] = changed-twice field i mid next [] [] in
    (subst FlushField same rest.0, subst WholeField same rest.1)

again : (field : Field) (s : FlushField field) (w : WholeField field) (n i : ℕ) (old : Gateway) (at : IsAt field n i old) (kept : ℕ) → DueAs field.deltas old → FlushField (field_changed field i (restarted kept old) []) × WholeField (field_changed field i (restarted kept old) [])
again field s w n i old at kept d = some-back (more_records old.config.gateway old.drive (left_by kept old.drive)) old.refused field s w n i old at d (restarted kept old) refl refl

-- ---- calls

pub record SoundCalls (new : Field) (answers : Answers) : Type 0 where
  pub flush : FlushField new
  pub whole : WholeField new
  pub peace : AllByRecursion IsAtPeace answers

pub call-sound : (old new : Field) (number : ℕ) (call : Call) (answer : Result Out Refusal) → CallAt old number call answer new → FlushField old → WholeField old → SoundCalls new (answer ∷ [])
call-sound old new number (calls.Frame from bytes now) answer h s w =
    let u = own-moves h.1 (Datagram from bytes) now answer h.2 h.3 h.5 in record {
      flush = subst FlushField (sym h.6) (flush-own old s w number h.0 h.1 h.4 h.2 h.3 u);
      whole = subst WholeField (sym h.6) (whole-moved old s w number h.0 h.1 h.4 h.2 h.3 (own-writable h.1 (Datagram from bytes) now answer h.2 h.3 h.5) u);
      peace = (own-peaceful old s w number h.0 h.1 h.4 (Datagram from bytes) now answer h.2 h.3 h.5, tt);
    }
call-sound old new number (calls.Tick now) answer h s w =
    let u = own-moves h.1 Clock now answer h.2 h.3 h.5 in record {
      flush = subst FlushField (sym h.6) (flush-own old s w number h.0 h.1 h.4 h.2 h.3 u);
      whole = subst WholeField (sym h.6) (whole-moved old s w number h.0 h.1 h.4 h.2 h.3 (own-writable h.1 Clock now answer h.2 h.3 h.5) u);
      peace = (own-peaceful old s w number h.0 h.1 h.4 Clock now answer h.2 h.3 h.5, tt);
    }
call-sound old new number (calls.Take delta) answer h s w = record {
  flush = subst FlushField (sym h.8) (flush-taken old s w number h.0 h.1 h.5 h.2 h.3 (delta - 1) h.4 h.6.1 (take-moves h.1 h.4 answer h.2 h.3 h.7));
  whole = subst WholeField (sym h.8) (whole-taken old s w number h.0 h.1 h.5 h.2 h.3 (delta - 1) h.4 h.6.1 (take-moves h.1 h.4 answer h.2 h.3 h.7));
  peace = (take-peaceful old s w number h.0 h.1 h.5 (delta - 1) h.4 answer h.2 h.3 h.6.1 h.7, tt);
}

calls-sound : (old new : Field) (number : ℕ) (called : List Call) (answers : Answers) → InCalls old number called answers new → FlushField old → WholeField old → SoundCalls new answers
calls-sound old new number [] [] h s w = record { flush = subst FlushField (sym h) s; whole = subst WholeField (sym h) w; peace = tt }
calls-sound old new number (call ∷ called) (answer ∷ answers) h s w =
    let one = call-sound old h.0 number call answer h.1 s w in
    let rest = calls-sound h.0 new number called answers h.2 one.flush one.whole in
    record { flush = rest.flush; whole = rest.whole; peace = (one.peace.0, rest.peace) }
calls-sound old new number [] (answer ∷ answers) h s w = absurd h
calls-sound old new number (call ∷ called) [] h s w = absurd h

halted-peaceful : (behind : List Step) → AllByRecursion IsAtPeace (halted_all behind)
halted-peaceful [] = tt
halted-peaceful (step ∷ behind) = (tt, halted-peaceful behind)

short-sound : (old new : Field) (number : ℕ) (called : List Call) (answers : Answers) → CutShort old number called answers new → FlushField old → WholeField old → SoundCalls new answers
short-sound old new number called answers c s w =
    let first = calls-sound old c.mid number c.calm c.said c.led s w in
    let u = torn-row-still c.gateway c.next c.step c.answer c.steps_behind c.torn in
    let last = none-back c.mid first.flush first.whole number c.i c.gateway c.at c.next u in
    let told : IsAtPeace c.answer = subst IsAtPeace (sym c.torn.told) tt in
    let all = all-append IsAtPeace c.said (c.answer ∷ halted_all c.steps_behind) first.peace (told, halted-peaceful c.steps_behind) in
    record { flush = subst FlushField (sym c.new_is) last.0; whole = subst WholeField (sym c.new_is) last.1; peace = subst (λ (xs : Answers). AllByRecursion IsAtPeace xs) (sym c.answers_are) all }

pub row-sound : (old new : Field) (number : ℕ) (called : List Call) (answers : Answers) → TogetherAt old number called answers new → FlushField old → WholeField old → SoundCalls new answers
row-sound old new number called answers h s w =
    elim (row-moves old new number called answers h) [
      | inl c ↦ calls-sound old new number called answers c s w
      | inr c ↦ short-sound old new number called answers c s w
    ]

-- what each call keeps in a field that is flush and whole, and a failed write keeps, calls with one write keep
pub row-keeps-sound : (P : Field → Type 0) (number : ℕ) → ((old new : Field) (call : Call) (answer : Result Out Refusal) → CallAt old number call answer new → FlushField old → WholeField old → P old → P new)
    → ((field : Field) (i : ℕ) (gateway next : Gateway) (behind : List Call) (step : Step) (answer : Result Out Refusal) (more : List Step) → IsAt field number i gateway → AreStepsOf field behind (step ∷ more) → AreTorn gateway step answer more next → FlushField field → WholeField field → P field → P (field_changed field i next []))
    → (old new : Field) (called : List Call) (answers : Answers) → TogetherAt old number called answers new → FlushField old → WholeField old → P old → P new
row-keeps-sound P number f g old new called answers h s w p =
    let all = row-keeps (λ (x : Field). FlushField x × WholeField x × P x) number
    (λ before after call answer one q. let sound = call-sound before after number call answer one q.0 q.1 in (sound.flush, sound.whole, f before after call answer one q.0 q.1 q.2))
    (λ field i gateway next behind step answer more at is t q. let still = none-back field q.0 q.1 number i gateway at next (torn-row-still gateway next step answer more t) in
    (still.0, still.1, g field i gateway next behind step answer more at is t q.0 q.1 q.2))
    old new called answers h (s, w, p) in
    all.2

-- deltas that answer a digest join the list
pub whole-asked : (field : Field) (w : WholeField field) (j : ℕ) (asker peer : Gateway) (answer : Result Out Refusal) (made : List (List Op)) → slice_get field.gateways j ≡ Some peer → AnswerStep asker peer answer made → Whole field.gateways (field.deltas ++ made)
whole-asked field w j asker peer answer made there h =
    let a = answered asker peer answer made h in
    whole-joined field.gateways field.deltas made (all-answered (IsHeld field.gateways) (λ c origin first last. tt) peer.taken made a (w.each.sets j peer there)) a.proper a.writable w

asked-peaceful : (asker peer : Gateway) (answer : Result Out Refusal) (made : List (List Op)) → AnswerStep asker peer answer made → IsAtPeace answer
asked-peaceful asker peer (Ok out) made h = tt
asked-peaceful asker peer (Err (refusals.Frame fault)) made h = tt
asked-peaceful asker peer (Err (refusals.Conflict client)) made h = h
asked-peaceful asker peer (Err refusals.Full) made h = tt
asked-peaceful asker peer (Err refusals.Exhausted) made h = tt
asked-peaceful asker peer (Err refusals.Halted) made h = tt
asked-peaceful asker peer (Err (refusals.Disk excuse)) made h = tt
asked-peaceful asker peer (Err (refusals.Journal fault)) made h = tt
asked-peaceful asker peer (Err refusals.Memory) made h = tt

compact-peaceful : (old new : Gateway) (answer : Result Out Refusal) → CompactStep old answer new → IsAtPeace answer
compact-peaceful old new (Ok out) h = tt
compact-peaceful old new (Err (refusals.Frame fault)) h = tt
compact-peaceful old new (Err (refusals.Conflict client)) h = h
compact-peaceful old new (Err refusals.Full) h = tt
compact-peaceful old new (Err refusals.Exhausted) h = tt
compact-peaceful old new (Err refusals.Halted) h = tt
compact-peaceful old new (Err (refusals.Disk excuse)) h = tt
compact-peaceful old new (Err (refusals.Journal fault)) h = tt
compact-peaceful old new (Err refusals.Memory) h = tt

pub record Sound (new : Field) (answer : Answer) : Type 0 where
  pub flush : FlushField new
  pub whole : WholeField new
  pub peaceful : IsPeaceful answer

pub after-sound : (old : Field) (event : Event) (answer : Answer) (new : Field) → After old event answer new → FlushField old → WholeField old → DueField old → Sound new answer
after-sound old (Frame number from bytes now) (Node answer) new h s w d =
    let one = call-sound old new number (calls.Frame from bytes now) (said answer) h s w in
    record { flush = one.flush; whole = one.whole; peaceful = one.peace.0 }
after-sound old (Tick number now) (Node answer) new h s w d =
    let one = call-sound old new number (calls.Tick now) (said answer) h s w in
    record { flush = one.flush; whole = one.whole; peaceful = one.peace.0 }
after-sound old (Take number delta) (Node answer) new h s w d =
    let one = call-sound old new number (calls.Take delta) (said answer) h s w in
    record { flush = one.flush; whole = one.whole; peaceful = one.peace.0 }
after-sound old (AtOnce number calls) (Row answers) new h s w d =
    let all = row-sound old new number calls (map said answers) h s w in
    record { flush = all.flush; whole = all.whole; peaceful = all.peace }
after-sound old (Asks number peer) (Node answer) new h s w d = record {
  flush = subst FlushField (sym h.8) s;
  whole = subst WholeField (sym h.8) (whole-asked old w h.1 h.2 h.3 (said answer) h.4 h.6.1 h.7);
  peaceful = asked-peaceful h.2 h.3 (said answer) h.4 h.7;
}
after-sound old (WriteFails number bytes sync) Nothing new h s w d =
    let next = failing_gateway bytes sync h.1 in
    let u : Still h.1 next [] ⊎ Stepped h.1 next [] = inl (same-set old s w number h.0 h.1 h.2 bytes sync) in record {
      flush = subst FlushField (sym h.3) (flush-own old s w number h.0 h.1 h.2 next [] u);
      whole = subst WholeField (sym h.3) (whole-moved old s w number h.0 h.1 h.2 next [] tt u);
      peaceful = tt;
    }
after-sound old (Compact number) (Node answer) new h s w d =
    let u : Still h.1 h.2 [] ⊎ Stepped h.1 h.2 [] = inl (compact-still h.1 h.2 (said answer) h.4) in record {
      flush = subst FlushField (sym h.5) (flush-own old s w number h.0 h.1 h.3 h.2 [] u);
      whole = subst WholeField (sym h.5) (whole-moved old s w number h.0 h.1 h.3 h.2 [] tt u);
      peaceful = compact-peaceful h.1 h.2 (said answer) h.4;
    }
after-sound old (Restart number kept) (Records count) new h s w d =
    let back = again old s w number h.0 h.1 h.2 kept (d h.0 h.1 h.2.1).due in
    record { flush = subst FlushField (sym h.4) back.0; whole = subst WholeField (sym h.4) back.1; peaceful = tt }
after-sound old (Show number) (Views views topics) new h s w d = record { flush = subst FlushField (sym h.4) s; whole = subst WholeField (sym h.4) w; peaceful = tt }
after-sound old (Frame number from bytes now) (Views views topics) new h s w d = absurd h
after-sound old (Tick number now) (Views views topics) new h s w d = absurd h
after-sound old (Take number delta) (Views views topics) new h s w d = absurd h
after-sound old (Asks number peer) (Views views topics) new h s w d = absurd h
after-sound old (Show number) (Node answer) new h s w d = absurd h
after-sound old (Compact number) (Views views topics) new h s w d = absurd h
after-sound old (Restart number kept) (Views views topics) new h s w d = absurd h
after-sound old (Restart number kept) (Node answer) new h s w d = absurd h
after-sound old (Frame number from bytes now) (Records count) new h s w d = absurd h
after-sound old (Tick number now) (Records count) new h s w d = absurd h
after-sound old (Take number delta) (Records count) new h s w d = absurd h
after-sound old (Asks number peer) (Records count) new h s w d = absurd h
after-sound old (Compact number) (Records count) new h s w d = absurd h
after-sound old (Show number) (Records count) new h s w d = absurd h
after-sound old (WriteFails number bytes sync) (Node answer) new h s w d = absurd h
after-sound old (WriteFails number bytes sync) (Views views topics) new h s w d = absurd h
after-sound old (WriteFails number bytes sync) (Records count) new h s w d = absurd h
after-sound old (Frame number from bytes now) Nothing new h s w d = absurd h
after-sound old (Tick number now) Nothing new h s w d = absurd h
after-sound old (Take number delta) Nothing new h s w d = absurd h
after-sound old (Asks number peer) Nothing new h s w d = absurd h
after-sound old (Compact number) Nothing new h s w d = absurd h
after-sound old (Restart number kept) Nothing new h s w d = absurd h
after-sound old (Show number) Nothing new h s w d = absurd h
after-sound old (AtOnce number calls) (Node answer) new h s w d = absurd h
after-sound old (AtOnce number calls) (Views views topics) new h s w d = absurd h
after-sound old (AtOnce number calls) (Records count) new h s w d = absurd h
after-sound old (AtOnce number calls) Nothing new h s w d = absurd h
after-sound old (Frame number from bytes now) (Row answers) new h s w d = absurd h
after-sound old (Tick number now) (Row answers) new h s w d = absurd h
after-sound old (Take number delta) (Row answers) new h s w d = absurd h
after-sound old (Asks number peer) (Row answers) new h s w d = absurd h
after-sound old (WriteFails number bytes sync) (Row answers) new h s w d = absurd h
after-sound old (Compact number) (Row answers) new h s w d = absurd h
after-sound old (Restart number kept) (Row answers) new h s w d = absurd h
after-sound old (Show number) (Row answers) new h s w d = absurd h

-- ---- what a run does

-- what a run leaves
pub record Ran (new : Field) (answers : List Answer) : Type 0 where
  pub flush : FlushField new
  pub whole : WholeField new
  pub due : DueField new
  pub peaceful : AllByRecursion IsPeaceful answers

pub run-sound : (old : Field) (events : List Event) (answers : List Answer) (new : Field) → Run old events answers new → FlushField old → WholeField old → DueField old → Ran new answers
run-sound old [] [] new h s w d = record { flush = subst FlushField (sym h) s; whole = subst WholeField (sym h) w; due = subst DueField (sym h) d; peaceful = tt }
run-sound old (event ∷ events) (answer ∷ answers) new h s w d =
    let one = after-sound old event answer h.0 h.1 s w d in
    let more = run-sound h.0 events answers new h.2 one.flush one.whole (after-due old event answer h.0 h.1 d) in
    record { flush = more.flush; whole = more.whole; due = more.due; peaceful = (one.peaceful, more.peaceful) }
run-sound old [] (answer ∷ answers) new h s w d = absurd h
run-sound old (event ∷ events) [] new h s w d = absurd h

pub start-taken : (configs : List Config) (j : ℕ) (gateway : Gateway) → slice_get (map new_gateway configs) j ≡ Some gateway → gateway.taken ≡ []
start-taken [] j gateway e = absurd (none-some gateway e)
start-taken (config ∷ configs) zero gateway e = ap (λ (x : Gateway). x.taken) (sym (same_Some (new_gateway config) gateway e))
start-taken (config ∷ configs) (suc j) gateway e = start-taken configs j gateway e

pub start-whole : (configs : List Config) → WholeField (new_field configs)
start-whole configs = record {
  each = record {
    sets = λ j gateway there. subst (λ T. AllByRecursion (IsHeld (map new_gateway configs)) T) (sym (start-taken configs j gateway there)) tt;
    lists = tt;
  };
  proper = tt;
  writable = tt;
}

pub field-sound : (configs : List Config) (events : List Event) (answers : List Answer) (field : Field) → Run (new_field configs) events answers field → Ran field answers
field-sound configs events answers field h = run-sound (new_field configs) events answers field h (start-flush configs) (start-whole configs) (start-due configs)

pub field-due : (configs : List Config) (events : List Event) (answers : List Answer) (field : Field) → Run (new_field configs) events answers field → DueField field
field-due configs events answers field h = (field-sound configs events answers field h).due

pub field-whole : (configs : List Config) (events : List Event) (answers : List Answer) (field : Field) → Run (new_field configs) events answers field → WholeField field
field-whole configs events answers field h = (field-sound configs events answers field h).whole

-- ---- what holds of a whole field

module _ (field : Field) (w : WholeField field) where
  held : (op : Op) → Contains (everything field) op → IsHeld field.gateways op
  held op h = All-contains (IsHeld field.gateways) (everything field) op (All-from_recursion (IsHeld field.gateways) (everything field) (each-all (IsHeld field.gateways) field w.each)) h

  pub parts-consistent : (part : List Op) → ((op : Op) → Contains part op → Contains (everything field) op) → IsConsistent part
  parts-consistent part f = all-moved (HasOperation part) part (λ op h. stands-alone part op h (λ other there named. held-alike field.gateways other op (held other (f other there)) (held op (f op h)) named))

  at-home : (op : Op) → IsHeld field.gateways op → IsAtOrigin field op
  at-home (OfSession c s k o) h = (h.0, h.1, (first-place_of s.gateway h.0 field.gateways h.2, h.3), h.4)
  at-home (OfPut c p) h = (h.0, h.1, (first-place_of p.origin h.0 field.gateways h.2, h.3), h.4)
  at-home (Ack c origin first last) h = tt
  at-home (OfRetain t k) h = (h.0, h.1, (first-place_of k.gateway h.0 field.gateways h.2, h.3), h.4)

  taken-held : (gateway : Gateway) → Contains field.gateways gateway → AllByRecursion (IsHeld field.gateways) gateway.taken
  taken-held gateway there = All-contains (λ (g : Gateway). AllByRecursion (IsHeld field.gateways) g.taken) field.gateways gateway
      (All-from_recursion (λ (g : Gateway). AllByRecursion (IsHeld field.gateways) g.taken) field.gateways (all-places (λ (g : Gateway). AllByRecursion (IsHeld field.gateways) g.taken) field.gateways w.each.sets)) there

  delta-held : (delta : List Op) → Contains field.deltas delta → AllByRecursion (IsHeld field.gateways) delta
  delta-held delta there = All-contains (λ (D : List Op). AllByRecursion (IsHeld field.gateways) D) field.deltas delta
      (All-from_recursion (λ (D : List Op). AllByRecursion (IsHeld field.gateways) D) field.deltas w.each.lists) there

  pub delta-agrees : (gateway : Gateway) (delta : List Op) → Contains field.gateways gateway → Contains field.deltas delta → AllAgree gateway.taken delta
  delta-agrees gateway delta in_field in_list = all-moved (Agrees gateway.taken) delta (λ op h. agrees-alone gateway.taken op (λ other there named.
      held-alike field.gateways other op
      (All-contains (IsHeld field.gateways) gateway.taken other (All-from_recursion (IsHeld field.gateways) gateway.taken (taken-held gateway in_field)) there)
      (All-contains (IsHeld field.gateways) delta op (All-from_recursion (IsHeld field.gateways) delta (delta-held delta in_list)) h)
      named))

-- ---- the laws

pub field-steady : (configs : List Config) (events : List Event) (answers : List Answer) (field : Field) → Run (new_field configs) events answers field → IsSteady field
field-steady configs events answers field h = let r = field-sound configs events answers field h in steady-is field r.flush r.whole

pub field-consistent : (configs : List Config) (events : List Event) (answers : List Answer) (field : Field) → Run (new_field configs) events answers field → IsConsistent (everything field)
field-consistent configs events answers field h = parts-consistent field (field-whole configs events answers field h) (everything field) (λ op there. there)

pub field-parts : (configs : List Config) (events : List Event) (answers : List Answer) (field : Field) (part : List Op) → Run (new_field configs) events answers field → ((op : Op) → Contains part op → Contains (everything field) op) → IsConsistent part
field-parts configs events answers field part h f = parts-consistent field (field-whole configs events answers field h) part f

pub field-agrees : (configs : List Config) (events : List Event) (answers : List Answer) (field : Field) (gateway : Gateway) (delta : List Op) → Run (new_field configs) events answers field → Contains field.gateways gateway → Contains field.deltas delta → AllAgree gateway.taken delta × AllAgree (keep gateway.taken) delta
field-agrees configs events answers field gateway delta h in_field in_list =
    let agrees = delta-agrees field (field-whole configs events answers field h) gateway delta in_field in_list in
    (agrees, all-weaken (Agrees gateway.taken) (Agrees (keep gateway.taken)) (agrees_with_kept gateway.taken) delta agrees)

pub field-no_conflict : (configs : List Config) (events : List Event) (answers : List Answer) (field : Field) (number i k : ℕ) (gateway : Gateway) (delta : List Op) (client : Subject) (new : Gateway) (made : List (List Op)) → Run (new_field configs) events answers field → IsAt field number i gateway → IsDeltaAt field k delta → TakeStep gateway delta (Err (refusals.Conflict client)) new made → ⊥
field-no_conflict configs events answers field number i k gateway delta client new made h at there step =
    let w = field-whole configs events answers field h in
    let alike = λ (old new : Op) (is_old : Contains gateway.taken old) (is_new : Contains delta new) (named : HaveName old new).
    held-alike field.gateways old new
    (All-contains (IsHeld field.gateways) gateway.taken old (All-from_recursion (IsHeld field.gateways) gateway.taken (w.each.sets i gateway at.1)) is_old)
    (All-contains (IsHeld field.gateways) delta new (All-from_recursion (IsHeld field.gateways) delta (all-at (λ (D : List Op). AllByRecursion (IsHeld field.gateways) D) field.deltas (k - 1) delta w.each.lists there.1)) is_new)
    named in
    step.0.differs (alike step.0.old step.0.new step.0.is_old step.0.is_new step.0.named)

pub field-never : (configs : List Config) (events : List Event) (answers : List Answer) (field : Field) (client : Subject) → Run (new_field configs) events answers field → Contains answers (Node (Err (faults.Conflict client))) → ⊥
field-never configs events answers field client h there =
    All-contains IsPeaceful answers (Node (Err (faults.Conflict client))) (All-from_recursion IsPeaceful answers (field-sound configs events answers field h).peaceful) there

-- nor is a call that came together with others
pub field-never_together : (configs : List Config) (events : List Event) (answers : List Answer) (field : Field) (replies : List (Result (Arc Out Global) NodeFault)) (client : Subject) → Run (new_field configs) events answers field
    → Contains answers (Row replies) → Contains (map said replies) (Err (refusals.Conflict client)) → ⊥
field-never_together configs events answers field replies client h there inside =
    All-contains IsAtPeace (map said replies) (Err (refusals.Conflict client))
    (All-from_recursion IsAtPeace (map said replies) (All-contains IsPeaceful answers (Row replies) (All-from_recursion IsPeaceful answers (field-sound configs events answers field h).peaceful) there)) inside

pub field-home : (configs : List Config) (events : List Event) (answers : List Answer) (field : Field) (op : Op) → Run (new_field configs) events answers field → Contains (everything field) op → IsAtOrigin field op
field-home configs events answers field op h there = let w = field-whole configs events answers field h in at-home field w op (held field w op there)

pub field-well_made : (configs : List Config) (events : List Event) (answers : List Answer) (field : Field) (delta : List Op) → Run (new_field configs) events answers field → Contains field.deltas delta → IsDelta delta × IsWritable delta
field-well_made configs events answers field delta h there =
    let w = field-whole configs events answers field h in
    (All-contains IsDelta field.deltas delta (All-from_recursion IsDelta field.deltas w.proper) there, All-contains IsWritable field.deltas delta (All-from_recursion IsWritable field.deltas w.writable) there)
