-- What the answers of a run tell of: the deltas that were made, no name in two places; whatever has a name was told of; and the list
-- is what the answers bring.
use Rattle.std.proofs.Common.{◌≡◌, ℕ, ◌-◌, ◌⊎◌, List, [], ◌∷◌, ◌++◌, map, set, slice_get, Some, None, IfSome, Contains, Result, Ok, Err, refl, sym, ap, ◌∙◌, subst, append-nil, append_assoc, inl, inr}
use Rattle.std.specs.List.{AllByRecursion}
use Rattle.std.proofs.lemmas.List.Concat.{flat_map-append}
use Rattle.std.proofs.lemmas.List.Elements.{All-from_recursion, All-contains, Contains-append_left, Contains-append_right}
use Rattle.std.proofs.lemmas.Option.{none-some, same_Some}
use Rattle.rep_op.specs.declared.op.Op.{Op}
use Rattle.rep_op.specs.declared.op.Op.TheVariants.{Session as OfSession, Put as OfPut, Ack, Retain as OfRetain}
use Rattle.rep_ops.specs.Deltas.{IsDelta}
use Rattle.rep_ops.specs.Splitting.{all_of}
use Rattle.rep_model.proofs.Joins.{all-moved, all-left}
use Rattle.sn_local.specs.declared.config.Config.{Config}
use Rattle.sn_plan.proofs.Lists.{all-append}
use Rattle.gw_world.specs.declared.event.Event.{Event}
use Rattle.gw_world.specs.declared.event.Event.TheVariants.{Frame, Tick, Take, Together as AtOnce, Answer as Asks, WriteFails, Compact, Restart, Show}
use Rattle.gw_world.specs.declared.event.Call.{Call}
use Rattle.gw_world.specs.declared.event.Call.TheVariants as calls
use Rattle.gw_world.specs.declared.event.Answer.{Answer}
use Rattle.gw_world.specs.declared.event.Answer.TheVariants.{Node, Row, Views, Records, Nothing}
use Rattle.gw_answer.specs.declared.out.Out.{Out}
use Rattle.gw_answer.specs.declared.refusal.Refusal.{Refusal}
use Rattle.gw_answer.specs.declared.refusal.Refusal.TheVariants as refusals
use Rattle.gw_answer.specs.Answers.{said}
use Rattle.gw_event.specs.Occasions.{Occasion, Datagram, Clock}
use Rattle.gw_event.specs.Gateways.{Gateway}
use Rattle.gw_answer.specs.declared.step.Step.{Step}
use Rattle.gw_event.specs.Together.{halted_all}
use Rattle.gw_world.specs.Field.{Field, new_field, IsAt, field_changed, failing_gateway, TogetherAt, After, Run, peer_of}
use Rattle.gw_world.proofs.InRows.{Answers, CallAt, InCalls, CutShort, row-moves, torn-row-still}
use Rattle.gw_world.specs.Steps.{AnswerStep, restarted}
use Rattle.gw_event.specs.Event.{OwnStep, TakeStep, CompactStep}
use Rattle.gw_world.specs.Events.{made_of, answered_of}
use Rattle.gw_world.specs.Whole.{everything, maker_of, AreMadeOnce, made_by, MayMake, ArrangesFailure, NoneFails, all_made, brought_by, brought, made_of_all, MakesNone}
use Rattle.gw_world.proofs.Alone.{delta-place, contains_at}
use Rattle.gw_world.proofs.Answering.{answered, answer-told, all-answered}
use Rattle.gw_world.proofs.Consistency.{FlushField, WholeField, call-sound, after-sound, start-taken, start-whole}
use Rattle.gw_world.proofs.Each.{all-at, AllOf, EachOf, each-weaken, each-grown, each-all}
use Rattle.gw_world.proofs.Numbers.{First, place_of-first, first-number}
use Rattle.gw_world.proofs.Failures.{DueField, after-due, start-due, AreWell, after-well, start-well}
use Rattle.gw_world.proofs.Steadiness.{Still, Stepped, Fed, own-moves, take-moves, compact-still, came-back, nothing-came, restart-feeds, own-told, start-flush}
use Rattle.gw_world.proofs.Whole.{AreApart, Made, made-kept, made-stepped}

-- a name was told of as made
abbrev pub IsTold : List (List Op) → Op → Type 0
IsTold ts op = IfSome (maker_of op) (λ number. Contains (all_of ts) op)

-- no delta that was made has a name of another; and where no failure is arranged (W) all names of the field were told of
pub record Telling (W : Type 0) (field : Field) (ts : List (List Op)) : Type 0 where
  pub once : Made field.gateways ts
  pub all : W → EachOf (IsTold ts) field.gateways field.deltas

if_some : (op : Op) (P Q : Op → Type 0) → (P op → Q op) → IfSome (maker_of op) (λ number. P op) → IfSome (maker_of op) (λ number. Q op)
if_some (OfSession c s k o) P Q f h = f h
if_some (OfPut c p) P Q f h = f h
if_some (Ack c origin first last) P Q f h = tt
if_some (OfRetain topic kept) P Q f h = f h

always : (op : Op) (P : Op → Type 0) → P op → IfSome (maker_of op) (λ number. P op)
always (OfSession c s k o) P h = h
always (OfPut c p) P h = h
always (Ack c origin first last) P h = tt
always (OfRetain topic kept) P h = h

told-before : (ts made : List (List Op)) (op : Op) → IsTold ts op → IsTold (ts ++ made) op
told-before ts made op h = if_some op (Contains (all_of ts)) (Contains (all_of (ts ++ made)))
    (λ there. subst (λ T. Contains T op) (sym (flat_map-append (λ (delta : List Op). delta) ts made)) (Contains-append_left (all_of ts) (all_of made) op there)) h

told-now : (ts made : List (List Op)) (op : Op) → Contains (all_of made) op → IsTold (ts ++ made) op
told-now ts made op h = always op (Contains (all_of (ts ++ made)))
    (subst (λ T. Contains T op) (sym (flat_map-append (λ (delta : List Op). delta) ts made)) (Contains-append_right (all_of ts) (all_of made) op h))

-- ---- one event

module _ (W : Type 0) (field : Field) (ts : List (List Op)) (t : Telling W field ts) (i : ℕ) (old next : Gateway) (made : List (List Op)) (is : slice_get field.gateways i ≡ Some old) where
  before : W → EachOf (IsTold (ts ++ made)) field.gateways field.deltas
  before q = each-weaken (IsTold ts) (IsTold (ts ++ made)) (told-before ts made) field.gateways field.deltas (t.all q)

  telling-quiet : (more : List Op) → next.config ≡ old.config → next.taken ≡ old.taken ++ more → (W → AllByRecursion (IsTold ts) more) → made ≡ [] → Telling W (field_changed field i next made) (ts ++ made)
  telling-quiet more config taken news none =
      subst (λ m. Telling W (field_changed field i next m) (ts ++ m)) (sym none)
      (subst (λ T. Telling W (field_changed field i next []) T) (sym (append-nil ts)) (record {
        once = made-kept field.gateways i old next more is config taken ts t.once;
        all = λ q. each-grown (IsTold ts) field.gateways field.deltas i old next more [] is taken (news q) tt (t.all q);
      }))

  telling-still : Still old next made → Telling W (field_changed field i next made) (ts ++ made)
  telling-still u = telling-quiet [] u.config (u.taken ∙ sym (append-nil old.taken)) (λ _. tt) u.none

  -- it took what nobody had been told of, but for a failure
  telling-back : (more : List Op) → (W → more ≡ []) → Fed old more next made → Telling W (field_changed field i next made) (ts ++ made)
  telling-back more none u = telling-quiet more u.config u.taken (λ q. subst (λ (R : List Op). AllByRecursion (IsTold ts) R) (sym (none q)) tt) u.none

  module _ (n : ℕ) (s : FlushField field) (f : First n field.gateways i) where
    own : First old.config.gateway field.gateways i
    own = subst (λ k. First k field.gateways i) (sym (first-number n i field.gateways old f is)) f

    telling-stepped : Stepped old next made → Telling W (field_changed field i next made) (ts ++ made)
    telling-stepped u =
        let news : AllByRecursion (IsTold (ts ++ made)) u.delta = all-moved (IsTold (ts ++ made)) u.delta
        (λ op h. told-now ts made op (subst (λ m. Contains (all_of m) op) (sym u.one) (subst (λ T. Contains T op) (sym (append-nil u.delta)) h))) in record {
          once = subst (λ m. Made (set field.gateways i next) (ts ++ m)) (sym u.one) (made-stepped field.gateways i old next made is own (s old.config.gateway i old own is) u ts t.once);
          all = λ q. each-grown (IsTold (ts ++ made)) field.gateways field.deltas i old next u.delta made is u.taken news (subst (λ m. AllOf (IsTold (ts ++ made)) m) (sym u.one) (news, tt)) (before q);
        }

    telling-moved : Still old next made ⊎ Stepped old next made → Telling W (field_changed field i next made) (ts ++ made)
    telling-moved (inl u) = telling-still u
    telling-moved (inr u) = telling-stepped u

-- a step of a gateway's own tells of what it made
telling-own : (W : Type 0) (field : Field) (ts : List (List Op)) (t : Telling W field ts) (n i : ℕ) (old next : Gateway) (made : List (List Op)) → FlushField field → IsAt field n i old
    → (occasion : Occasion) (now : ℕ) (answer : Result Out Refusal) → OwnStep old occasion now answer next made → Telling W (field_changed field i next made) (ts ++ made_of answer)
telling-own W field ts t n i old next made s at occasion now answer h =
    subst (λ m. Telling W (field_changed field i next made) (ts ++ m)) (own-told old occasion now answer next made h)
    (telling-moved W field ts t i old next made at.1 n s (place_of-first n i field.gateways at.0) (own-moves old occasion now answer next made h))

-- a delivery tells of nothing that was made
pub take-told : (old next : Gateway) (delta : List Op) (answer : Result Out Refusal) (made : List (List Op)) → TakeStep old delta answer next made → (made ≡ []) × (made_of answer ≡ []) × (answered_of answer ≡ [])
take-told old next delta (Ok out) made h = (h.2, ap (λ (o : Out). made_of (Ok o)) h.0, ap (λ (o : Out). o.answer) h.0)
take-told old next delta (Err (refusals.Conflict client)) made h = (h.1.none, refl, refl)
take-told old next delta (Err refusals.Full) made h = (h.1.none, refl, refl)
take-told old next delta (Err refusals.Halted) made h = (h.1.none, refl, refl)
take-told old next delta (Err (refusals.Disk excuse)) made h = (h.2.none, refl, refl)
take-told old next delta (Err (refusals.Frame fault)) made h = absurd h
take-told old next delta (Err refusals.Exhausted) made h = absurd h
take-told old next delta (Err (refusals.Journal fault)) made h = absurd h
take-told old next delta (Err refusals.Memory) made h = absurd h

-- nor does a compaction
compact-told : (old next : Gateway) (answer : Result Out Refusal) → CompactStep old answer next → (made_of answer ≡ []) × (answered_of answer ≡ [])
compact-told old next (Ok out) h = (ap (λ (o : Out). made_of (Ok o)) h.1, ap (λ (o : Out). o.answer) h.1)
compact-told old next (Err fault) h = (refl, refl)

telling-fed : (W : Type 0) (field : Field) (ts : List (List Op)) (t : Telling W field ts) (i : ℕ) (old next : Gateway) (made : List (List Op)) → slice_get field.gateways i ≡ Some old
    → (k : ℕ) (delta : List Op) → slice_get field.deltas k ≡ Some delta → Still old next made ⊎ Fed old delta next made → Telling W (field_changed field i next made) (ts ++ made)
telling-fed W field ts t i old next made is k delta there (inl u) = telling-still W field ts t i old next made is u
telling-fed W field ts t i old next made is k delta there (inr u) =
    telling-quiet W field ts t i old next made is delta u.config u.taken
    (λ q. all-at (λ (D : List Op). AllByRecursion (IsTold ts) D) field.deltas k delta (t.all q).lists there) u.none

-- nor does an answer to a digest
telling-asked : (W : Type 0) (field : Field) (ts : List (List Op)) → Telling W field ts → (j : ℕ) (asker peer : Gateway) (answer : Result Out Refusal) (made : List (List Op)) → slice_get field.gateways j ≡ Some peer → AnswerStep asker peer answer made → Telling W (record field { deltas = field.deltas ++ made }) ts
telling-asked W field ts t j asker peer answer made there h = record {
  once = t.once;
  all = λ q. record {
    sets = (t.all q).sets;
    lists = all-append (λ (D : List Op). AllByRecursion (IsTold ts) D) field.deltas made (t.all q).lists (all-answered (IsTold ts) (λ c origin first last. tt) peer.taken made (answered asker peer answer made h) ((t.all q).sets j peer there));
  };
}

quiet : (W : Type 0) (field : Field) (ts none : List (List Op)) → none ≡ [] → Telling W field ts → Telling W field (ts ++ none)
quiet W field ts none e t = subst (λ m. Telling W field (ts ++ m)) (sym e) (subst (Telling W field) (sym (append-nil ts)) t)

call-telling : (W : Type 0) (old new : Field) (number : ℕ) (call : Call) (answer : Result Out Refusal) (ts : List (List Op)) → CallAt old number call answer new → FlushField old → Telling W old ts → Telling W new (ts ++ made_of answer)
call-telling W old new number (calls.Frame from bytes now) answer ts h s t =
    subst (λ (x : Field). Telling W x (ts ++ made_of answer)) (sym h.6) (telling-own W old ts t number h.0 h.1 h.2 h.3 s h.4 (Datagram from bytes) now answer h.5)
call-telling W old new number (calls.Tick now) answer ts h s t =
    subst (λ (x : Field). Telling W x (ts ++ made_of answer)) (sym h.6) (telling-own W old ts t number h.0 h.1 h.2 h.3 s h.4 Clock now answer h.5)
call-telling W old new number (calls.Take delta) answer ts h s t =
    let none = take-told h.1 h.2 h.4 answer h.3 h.7 in
    subst (λ (x : Field). Telling W x (ts ++ made_of answer)) (sym h.8)
    (subst (λ m. Telling W (field_changed old h.0 h.2 h.3) (ts ++ m)) (none.0 ∙ sym none.1) (telling-fed W old ts t h.0 h.1 h.2 h.3 h.5.1 (delta - 1) h.4 h.6.1 (take-moves h.1 h.4 answer h.2 h.3 h.7)))

calls-telling : (W : Type 0) (old new : Field) (number : ℕ) (called : List Call) (answers : Answers) (ts : List (List Op)) → InCalls old number called answers new → FlushField old → WholeField old → Telling W old ts → Telling W new (ts ++ made_of_all answers)
calls-telling W old new number [] [] ts h s w t = subst (λ (x : Field). Telling W x (ts ++ [])) (sym h) (subst (Telling W old) (sym (append-nil ts)) t)
calls-telling W old new number (call ∷ called) (answer ∷ answers) ts h s w t =
    let one = call-sound old h.0 number call answer h.1 s w in
    subst (Telling W new) (append_assoc ts (made_of answer) (made_of_all answers))
    (calls-telling W h.0 new number called answers (ts ++ made_of answer) h.2 one.flush one.whole (call-telling W old h.0 number call answer ts h.1 s t))
calls-telling W old new number [] (answer ∷ answers) ts h s w t = absurd h
calls-telling W old new number (call ∷ called) [] ts h s w t = absurd h

-- where the write failed, nothing more is told of
halted-told : (behind : List Step) → made_of_all (halted_all behind) ≡ []
halted-told [] = refl
halted-told (step ∷ behind) = halted-told behind

pub short-told : (old new : Field) (number : ℕ) (called : List Call) (answers : Answers) (c : CutShort old number called answers new) → made_of_all answers ≡ made_of_all c.said
short-told old new number called answers c =
    let last : made_of_all (c.answer ∷ halted_all c.steps_behind) ≡ [] = ap (λ (a : Result Out Refusal). made_of a ++ made_of_all (halted_all c.steps_behind)) c.torn.told ∙ halted-told c.steps_behind in
    ap (λ (xs : Answers). made_of_all xs) c.answers_are ∙ flat_map-append made_of c.said (c.answer ∷ halted_all c.steps_behind)
    ∙ ap (λ (ds : List (List Op)). made_of_all c.said ++ ds) last ∙ append-nil (made_of_all c.said)

short-telling : (W : Type 0) (old new : Field) (number : ℕ) (called : List Call) (answers : Answers) (ts : List (List Op)) → CutShort old number called answers new → FlushField old → WholeField old → Telling W old ts → Telling W new (ts ++ made_of_all answers)
short-telling W old new number called answers ts c s w t =
    let first = calls-telling W old c.mid number c.calm c.said ts c.led s w t in
    let last = telling-still W c.mid (ts ++ made_of_all c.said) first c.i c.gateway c.next [] c.at.1 (torn-row-still c.gateway c.next c.step c.answer c.steps_behind c.torn) in
    let same : (ts ++ made_of_all c.said) ++ [] ≡ ts ++ made_of_all answers = append-nil (ts ++ made_of_all c.said) ∙ ap (λ (ds : List (List Op)). ts ++ ds) (sym (short-told old new number called answers c)) in
    subst (λ (x : Field). Telling W x (ts ++ made_of_all answers)) (sym c.new_is) (subst (Telling W (field_changed c.mid c.i c.next [])) same last)

row-telling : (W : Type 0) (old new : Field) (number : ℕ) (called : List Call) (answers : Answers) (ts : List (List Op)) → TogetherAt old number called answers new → FlushField old → WholeField old → Telling W old ts → Telling W new (ts ++ made_of_all answers)
row-telling W old new number called answers ts h s w t =
    elim (row-moves old new number called answers h) [
      | inl c ↦ calls-telling W old new number called answers ts c s w t
      | inr c ↦ short-telling W old new number called answers ts c s w t
    ]

after-telling : (W : Type 0) (old : Field) (event : Event) (answer : Answer) (new : Field) (ts : List (List Op)) → After old event answer new → FlushField old → WholeField old → (W → AreWell old) → Telling W old ts → Telling W new (ts ++ made_by answer)
after-telling W old (Frame number from bytes now) (Node answer) new ts h s w well t = call-telling W old new number (calls.Frame from bytes now) (said answer) ts h s t
after-telling W old (Tick number now) (Node answer) new ts h s w well t = call-telling W old new number (calls.Tick now) (said answer) ts h s t
after-telling W old (Take number delta) (Node answer) new ts h s w well t = call-telling W old new number (calls.Take delta) (said answer) ts h s t
after-telling W old (AtOnce number calls) (Row answers) new ts h s w well t = row-telling W old new number calls (map said answers) ts h s w t
after-telling W old (Asks number peer) (Node answer) new ts h s w well t =
    subst (λ (x : Field). Telling W x (ts ++ made_of (said answer))) (sym h.8)
    (quiet W (record old { deltas = old.deltas ++ h.4 }) ts (made_of (said answer)) (answer-told h.2 h.3 (said answer) h.4 h.7).0 (telling-asked W old ts t h.1 h.2 h.3 (said answer) h.4 h.6.1 h.7))
after-telling W old (WriteFails number bytes sync) Nothing new ts h s w well t =
    subst (λ (x : Field). Telling W x (ts ++ [])) (sym h.3) (telling-still W old ts t h.0 h.1 (failing_gateway bytes sync h.1) [] h.2.1 (record { config = refl; taken = refl; none = refl }))
after-telling W old (Compact number) (Node answer) new ts h s w well t =
    subst (λ (x : Field). Telling W x (ts ++ made_of (said answer))) (sym h.5)
    (subst (λ m. Telling W (field_changed old h.0 h.2 []) (ts ++ m)) (sym (compact-told h.1 h.2 (said answer) h.4).0)
    (telling-still W old ts t h.0 h.1 h.2 [] h.3.1 (compact-still h.1 h.2 (said answer) h.4)))
after-telling W old (Restart number kept) (Records count) new ts h s w well t =
    subst (λ (x : Field). Telling W x (ts ++ [])) (sym h.4) (telling-back W old ts t h.0 h.1 (restarted kept h.1) [] h.2.1 (came-back kept h.1) (λ q. nothing-came kept h.1 (well q h.0 h.1 h.2.1).0) (restart-feeds kept h.1))
after-telling W old (Show number) (Views views topics) new ts h s w well t = quiet W new ts [] refl (subst (λ (x : Field). Telling W x ts) (sym h.4) t)
after-telling W old (Frame number from bytes now) (Views views topics) new ts h s w well t = absurd h
after-telling W old (Tick number now) (Views views topics) new ts h s w well t = absurd h
after-telling W old (Take number delta) (Views views topics) new ts h s w well t = absurd h
after-telling W old (Asks number peer) (Views views topics) new ts h s w well t = absurd h
after-telling W old (Show number) (Node answer) new ts h s w well t = absurd h
after-telling W old (Compact number) (Views views topics) new ts h s w well t = absurd h
after-telling W old (Restart number kept) (Views views topics) new ts h s w well t = absurd h
after-telling W old (Restart number kept) (Node answer) new ts h s w well t = absurd h
after-telling W old (Frame number from bytes now) (Records count) new ts h s w well t = absurd h
after-telling W old (Tick number now) (Records count) new ts h s w well t = absurd h
after-telling W old (Take number delta) (Records count) new ts h s w well t = absurd h
after-telling W old (Asks number peer) (Records count) new ts h s w well t = absurd h
after-telling W old (Compact number) (Records count) new ts h s w well t = absurd h
after-telling W old (Show number) (Records count) new ts h s w well t = absurd h
after-telling W old (WriteFails number bytes sync) (Node answer) new ts h s w well t = absurd h
after-telling W old (WriteFails number bytes sync) (Views views topics) new ts h s w well t = absurd h
after-telling W old (WriteFails number bytes sync) (Records count) new ts h s w well t = absurd h
after-telling W old (Frame number from bytes now) Nothing new ts h s w well t = absurd h
after-telling W old (Tick number now) Nothing new ts h s w well t = absurd h
after-telling W old (Take number delta) Nothing new ts h s w well t = absurd h
after-telling W old (Asks number peer) Nothing new ts h s w well t = absurd h
after-telling W old (Compact number) Nothing new ts h s w well t = absurd h
after-telling W old (Restart number kept) Nothing new ts h s w well t = absurd h
after-telling W old (Show number) Nothing new ts h s w well t = absurd h
after-telling W old (AtOnce number calls) (Node answer) new ts h s w well t = absurd h
after-telling W old (AtOnce number calls) (Views views topics) new ts h s w well t = absurd h
after-telling W old (AtOnce number calls) (Records count) new ts h s w well t = absurd h
after-telling W old (AtOnce number calls) Nothing new ts h s w well t = absurd h
after-telling W old (Frame number from bytes now) (Row answers) new ts h s w well t = absurd h
after-telling W old (Tick number now) (Row answers) new ts h s w well t = absurd h
after-telling W old (Take number delta) (Row answers) new ts h s w well t = absurd h
after-telling W old (Asks number peer) (Row answers) new ts h s w well t = absurd h
after-telling W old (WriteFails number bytes sync) (Row answers) new ts h s w well t = absurd h
after-telling W old (Compact number) (Row answers) new ts h s w well t = absurd h
after-telling W old (Restart number kept) (Row answers) new ts h s w well t = absurd h
after-telling W old (Show number) (Row answers) new ts h s w well t = absurd h

none-there : (none : List (List Op)) (delta : List Op) → none ≡ [] → Contains none delta → ⊥
none-there none delta e h = All-contains (λ _. ⊥) [] delta (All-from_recursion (λ _. ⊥) [] tt) (subst (λ ds. Contains ds delta) e h)

-- calls that only take make nothing
calls-silent : (old new : Field) (number : ℕ) (called : List Call) (answers : Answers) → InCalls old number called answers new → AllByRecursion MakesNone called → made_of_all answers ≡ []
calls-silent old new number [] [] h none = refl
calls-silent old new number (calls.Take delta ∷ called) (answer ∷ answers) h none =
    ap (λ (ds : List (List Op)). ds ++ made_of_all answers) (take-told h.1.1 h.1.2 h.1.4 answer h.1.3 h.1.7).1 ∙ calls-silent h.0 new number called answers h.2 none.1
calls-silent old new number (calls.Frame from bytes now ∷ called) (answer ∷ answers) h none = absurd none.0
calls-silent old new number (calls.Tick now ∷ called) (answer ∷ answers) h none = absurd none.0
calls-silent old new number [] (answer ∷ answers) h none = absurd h
calls-silent old new number (call ∷ called) [] h none = absurd h

row-silent : (old new : Field) (number : ℕ) (called : List Call) (answers : Answers) → TogetherAt old number called answers new → AllByRecursion MakesNone called → made_of_all answers ≡ []
row-silent old new number called answers h none =
    elim (row-moves old new number called answers h) [
      | inl c ↦ calls-silent old new number called answers c none
      | inr c ↦ short-told old new number called answers c
          ∙ calls-silent old c.mid number c.calm c.said c.led (all-left MakesNone c.calm c.behind (subst (λ (xs : List Call). AllByRecursion MakesNone xs) c.calls_are none))
    ]

-- nothing is made but by a datagram or a tick
pub after-makes : (old new : Field) (event : Event) (answer : Answer) (delta : List Op) → After old event answer new → Contains (made_by answer) delta → MayMake event
after-makes old new (Frame number from bytes now) (Node answer) delta h there = tt
after-makes old new (Tick number now) (Node answer) delta h there = tt
after-makes old new (Take number at) (Node answer) delta h there = none-there (made_of (said answer)) delta (take-told h.1 h.2 h.4 (said answer) h.3 h.7).1 there
after-makes old new (AtOnce number calls) (Row answers) delta h there = λ none. none-there (made_of_all (map said answers)) delta (row-silent old new number calls (map said answers) h none) there
after-makes old new (Asks number peer) (Node answer) delta h there = none-there (made_of (said answer)) delta (answer-told h.2 h.3 (said answer) h.4 h.7).0 there
after-makes old new (WriteFails number bytes sync) Nothing delta h there = none-there [] delta refl there
after-makes old new (Compact number) (Node answer) delta h there = none-there (made_of (said answer)) delta (compact-told h.1 h.2 (said answer) h.4).0 there
after-makes old new (Restart number kept) (Records count) delta h there = none-there [] delta refl there
after-makes old new (Show number) (Views views topics) delta h there = none-there [] delta refl there
after-makes old new (Frame number from bytes now) (Views views topics) delta h there = tt
after-makes old new (Tick number now) (Views views topics) delta h there = tt
after-makes old new (Take number at) (Views views topics) delta h there = absurd h
after-makes old new (Asks number peer) (Views views topics) delta h there = absurd h
after-makes old new (Show number) (Node answer) delta h there = absurd h
after-makes old new (Compact number) (Views views topics) delta h there = absurd h
after-makes old new (Restart number kept) (Views views topics) delta h there = absurd h
after-makes old new (Restart number kept) (Node answer) delta h there = absurd h
after-makes old new (Frame number from bytes now) (Records count) delta h there = tt
after-makes old new (Tick number now) (Records count) delta h there = tt
after-makes old new (Take number at) (Records count) delta h there = absurd h
after-makes old new (Asks number peer) (Records count) delta h there = absurd h
after-makes old new (Compact number) (Records count) delta h there = absurd h
after-makes old new (Show number) (Records count) delta h there = absurd h
after-makes old new (WriteFails number bytes sync) (Node answer) delta h there = absurd h
after-makes old new (WriteFails number bytes sync) (Views views topics) delta h there = absurd h
after-makes old new (WriteFails number bytes sync) (Records count) delta h there = absurd h
after-makes old new (Frame number from bytes now) Nothing delta h there = tt
after-makes old new (Tick number now) Nothing delta h there = tt
after-makes old new (Take number at) Nothing delta h there = absurd h
after-makes old new (Asks number peer) Nothing delta h there = absurd h
after-makes old new (Compact number) Nothing delta h there = absurd h
after-makes old new (Restart number kept) Nothing delta h there = absurd h
after-makes old new (Show number) Nothing delta h there = absurd h
after-makes old new (AtOnce number calls) (Node answer) delta h there = absurd h
after-makes old new (AtOnce number calls) (Views views topics) delta h there = absurd h
after-makes old new (AtOnce number calls) (Records count) delta h there = absurd h
after-makes old new (AtOnce number calls) Nothing delta h there = absurd h
after-makes old new (Frame number from bytes now) (Row answers) delta h there = absurd h
after-makes old new (Tick number now) (Row answers) delta h there = absurd h
after-makes old new (Take number at) (Row answers) delta h there = absurd h
after-makes old new (Asks number peer) (Row answers) delta h there = absurd h
after-makes old new (WriteFails number bytes sync) (Row answers) delta h there = absurd h
after-makes old new (Compact number) (Row answers) delta h there = absurd h
after-makes old new (Restart number kept) (Row answers) delta h there = absurd h
after-makes old new (Show number) (Row answers) delta h there = absurd h

-- an event brings these deltas into the list
own-brought : (old next : Gateway) (occasion : Occasion) (now : ℕ) (answer : Result Out Refusal) (made : List (List Op)) → OwnStep old occasion now answer next made → answered_of answer ≡ []
own-brought old next occasion now (Ok out) made h = ap (λ (o : Out). o.answer) h.2.0
own-brought old next occasion now (Err fault) made h = refl

only : {X : Type 0} (xs made none : List X) → made ≡ xs → none ≡ [] → made ≡ xs ++ none
only xs made none e f = e ∙ sym (append-nil xs) ∙ ap (λ ys. xs ++ ys) (sym f)

call-brought : (old new : Field) (number : ℕ) (call : Call) (answer : Result Out Refusal) → CallAt old number call answer new → new.deltas ≡ old.deltas ++ made_of answer
call-brought old new number (calls.Frame from bytes now) answer h = ap (λ (x : Field). x.deltas) h.6 ∙ ap (λ m. old.deltas ++ m) (own-told h.1 (Datagram from bytes) now answer h.2 h.3 h.5)
call-brought old new number (calls.Tick now) answer h = ap (λ (x : Field). x.deltas) h.6 ∙ ap (λ m. old.deltas ++ m) (own-told h.1 Clock now answer h.2 h.3 h.5)
call-brought old new number (calls.Take delta) answer h =
    let none = take-told h.1 h.2 h.4 answer h.3 h.7 in
    ap (λ (x : Field). x.deltas) h.8 ∙ ap (λ m. old.deltas ++ m) (none.0 ∙ sym none.1)

calls-brought : (old new : Field) (number : ℕ) (called : List Call) (answers : Answers) → InCalls old number called answers new → new.deltas ≡ old.deltas ++ made_of_all answers
calls-brought old new number [] [] h = ap (λ (x : Field). x.deltas) h ∙ sym (append-nil old.deltas)
calls-brought old new number (call ∷ called) (answer ∷ answers) h =
    calls-brought h.0 new number called answers h.2 ∙ ap (λ ds. ds ++ made_of_all answers) (call-brought old h.0 number call answer h.1) ∙ append_assoc old.deltas (made_of answer) (made_of_all answers)
calls-brought old new number [] (answer ∷ answers) h = absurd h
calls-brought old new number (call ∷ called) [] h = absurd h

pub row-brought : (old new : Field) (number : ℕ) (called : List Call) (answers : Answers) → TogetherAt old number called answers new → new.deltas ≡ old.deltas ++ made_of_all answers
row-brought old new number called answers h =
    elim (row-moves old new number called answers h) [
      | inl c ↦ calls-brought old new number called answers c
      | inr c ↦ ap (λ (x : Field). x.deltas) c.new_is ∙ append-nil c.mid.deltas ∙ calls-brought old c.mid number c.calm c.said c.led
          ∙ ap (λ ds. old.deltas ++ ds) (sym (short-told old new number called answers c))
    ]

after-brought : (old : Field) (event : Event) (answer : Answer) (new : Field) → After old event answer new → new.deltas ≡ old.deltas ++ brought_by answer
after-brought old (Frame number from bytes now) (Node answer) new h =
    ap (λ (x : Field). x.deltas) h.6 ∙ ap (λ m. old.deltas ++ m) (only (made_of (said answer)) h.3 (answered_of (said answer)) (own-told h.1 (Datagram from bytes) now (said answer) h.2 h.3 h.5) (own-brought h.1 h.2 (Datagram from bytes) now (said answer) h.3 h.5))
after-brought old (Tick number now) (Node answer) new h =
    ap (λ (x : Field). x.deltas) h.6 ∙ ap (λ m. old.deltas ++ m) (only (made_of (said answer)) h.3 (answered_of (said answer)) (own-told h.1 Clock now (said answer) h.2 h.3 h.5) (own-brought h.1 h.2 Clock now (said answer) h.3 h.5))
after-brought old (Take number delta) (Node answer) new h =
    let none = take-told h.1 h.2 h.4 (said answer) h.3 h.7 in
    ap (λ (x : Field). x.deltas) h.8 ∙ ap (λ m. old.deltas ++ m) (only (made_of (said answer)) h.3 (answered_of (said answer)) (none.0 ∙ sym none.1) none.2)
after-brought old (AtOnce number calls) (Row answers) new h = row-brought old new number calls (map said answers) h
after-brought old (Asks number peer) (Node answer) new h =
    let r = answer-told h.2 h.3 (said answer) h.4 h.7 in
    ap (λ (x : Field). x.deltas) h.8 ∙ ap (λ m. old.deltas ++ m) (r.1 ∙ ap (λ xs. xs ++ answered_of (said answer)) (sym r.0))
after-brought old (WriteFails number bytes sync) Nothing new h = ap (λ (x : Field). x.deltas) h.3
after-brought old (Compact number) (Node answer) new h =
    let none = compact-told h.1 h.2 (said answer) h.4 in
    ap (λ (x : Field). x.deltas) h.5 ∙ ap (λ m. old.deltas ++ m) (only (made_of (said answer)) [] (answered_of (said answer)) (sym none.0) none.1)
after-brought old (Restart number kept) (Records count) new h = ap (λ (x : Field). x.deltas) h.4
after-brought old (Show number) (Views views topics) new h = ap (λ (x : Field). x.deltas) h.4 ∙ sym (append-nil old.deltas)
after-brought old (Frame number from bytes now) (Views views topics) new h = absurd h
after-brought old (Tick number now) (Views views topics) new h = absurd h
after-brought old (Take number delta) (Views views topics) new h = absurd h
after-brought old (Asks number peer) (Views views topics) new h = absurd h
after-brought old (Show number) (Node answer) new h = absurd h
after-brought old (Compact number) (Views views topics) new h = absurd h
after-brought old (Restart number kept) (Views views topics) new h = absurd h
after-brought old (Restart number kept) (Node answer) new h = absurd h
after-brought old (Frame number from bytes now) (Records count) new h = absurd h
after-brought old (Tick number now) (Records count) new h = absurd h
after-brought old (Take number delta) (Records count) new h = absurd h
after-brought old (Asks number peer) (Records count) new h = absurd h
after-brought old (Compact number) (Records count) new h = absurd h
after-brought old (Show number) (Records count) new h = absurd h
after-brought old (WriteFails number bytes sync) (Node answer) new h = absurd h
after-brought old (WriteFails number bytes sync) (Views views topics) new h = absurd h
after-brought old (WriteFails number bytes sync) (Records count) new h = absurd h
after-brought old (Frame number from bytes now) Nothing new h = absurd h
after-brought old (Tick number now) Nothing new h = absurd h
after-brought old (Take number delta) Nothing new h = absurd h
after-brought old (Asks number peer) Nothing new h = absurd h
after-brought old (Compact number) Nothing new h = absurd h
after-brought old (Restart number kept) Nothing new h = absurd h
after-brought old (Show number) Nothing new h = absurd h
after-brought old (AtOnce number calls) (Node answer) new h = absurd h
after-brought old (AtOnce number calls) (Views views topics) new h = absurd h
after-brought old (AtOnce number calls) (Records count) new h = absurd h
after-brought old (AtOnce number calls) Nothing new h = absurd h
after-brought old (Frame number from bytes now) (Row answers) new h = absurd h
after-brought old (Tick number now) (Row answers) new h = absurd h
after-brought old (Take number delta) (Row answers) new h = absurd h
after-brought old (Asks number peer) (Row answers) new h = absurd h
after-brought old (WriteFails number bytes sync) (Row answers) new h = absurd h
after-brought old (Compact number) (Row answers) new h = absurd h
after-brought old (Restart number kept) (Row answers) new h = absurd h
after-brought old (Show number) (Row answers) new h = absurd h

-- where no digest is sent, it is told of all that it brings
after-unasked : (old : Field) (event : Event) (answer : Answer) (new : Field) → After old event answer new → peer_of event ≡ None → brought_by answer ≡ made_by answer
after-unasked old (Frame number from bytes now) (Node answer) new h e = ap (λ m. made_of (said answer) ++ m) (own-brought h.1 h.2 (Datagram from bytes) now (said answer) h.3 h.5) ∙ append-nil (made_of (said answer))
after-unasked old (Tick number now) (Node answer) new h e = ap (λ m. made_of (said answer) ++ m) (own-brought h.1 h.2 Clock now (said answer) h.3 h.5) ∙ append-nil (made_of (said answer))
after-unasked old (Take number delta) (Node answer) new h e = ap (λ m. made_of (said answer) ++ m) (take-told h.1 h.2 h.4 (said answer) h.3 h.7).2 ∙ append-nil (made_of (said answer))
after-unasked old (AtOnce number calls) (Row answers) new h e = refl
after-unasked old (Asks number peer) (Node answer) new h e = absurd (none-some peer (sym e))
after-unasked old (WriteFails number bytes sync) Nothing new h e = refl
after-unasked old (Compact number) (Node answer) new h e = ap (λ m. made_of (said answer) ++ m) (compact-told h.1 h.2 (said answer) h.4).1 ∙ append-nil (made_of (said answer))
after-unasked old (Restart number kept) (Records count) new h e = refl
after-unasked old (Show number) (Views views topics) new h e = refl
after-unasked old (Frame number from bytes now) (Views views topics) new h e = absurd h
after-unasked old (Tick number now) (Views views topics) new h e = absurd h
after-unasked old (Take number delta) (Views views topics) new h e = absurd h
after-unasked old (Asks number peer) (Views views topics) new h e = absurd h
after-unasked old (Show number) (Node answer) new h e = absurd h
after-unasked old (Compact number) (Views views topics) new h e = absurd h
after-unasked old (Restart number kept) (Views views topics) new h e = absurd h
after-unasked old (Restart number kept) (Node answer) new h e = absurd h
after-unasked old (Frame number from bytes now) (Records count) new h e = absurd h
after-unasked old (Tick number now) (Records count) new h e = absurd h
after-unasked old (Take number delta) (Records count) new h e = absurd h
after-unasked old (Asks number peer) (Records count) new h e = absurd h
after-unasked old (Compact number) (Records count) new h e = absurd h
after-unasked old (Show number) (Records count) new h e = absurd h
after-unasked old (WriteFails number bytes sync) (Node answer) new h e = absurd h
after-unasked old (WriteFails number bytes sync) (Views views topics) new h e = absurd h
after-unasked old (WriteFails number bytes sync) (Records count) new h e = absurd h
after-unasked old (Frame number from bytes now) Nothing new h e = absurd h
after-unasked old (Tick number now) Nothing new h e = absurd h
after-unasked old (Take number delta) Nothing new h e = absurd h
after-unasked old (Asks number peer) Nothing new h e = absurd h
after-unasked old (Compact number) Nothing new h e = absurd h
after-unasked old (Restart number kept) Nothing new h e = absurd h
after-unasked old (Show number) Nothing new h e = absurd h
after-unasked old (AtOnce number calls) (Node answer) new h e = absurd h
after-unasked old (AtOnce number calls) (Views views topics) new h e = absurd h
after-unasked old (AtOnce number calls) (Records count) new h e = absurd h
after-unasked old (AtOnce number calls) Nothing new h e = absurd h
after-unasked old (Frame number from bytes now) (Row answers) new h e = absurd h
after-unasked old (Tick number now) (Row answers) new h e = absurd h
after-unasked old (Take number delta) (Row answers) new h e = absurd h
after-unasked old (Asks number peer) (Row answers) new h e = absurd h
after-unasked old (WriteFails number bytes sync) (Row answers) new h e = absurd h
after-unasked old (Compact number) (Row answers) new h e = absurd h
after-unasked old (Restart number kept) (Row answers) new h e = absurd h
after-unasked old (Show number) (Row answers) new h e = absurd h

-- ---- a run

run-telling : (W : Type 0) (old : Field) (events : List Event) (answers : List Answer) (new : Field) (ts : List (List Op)) → Run old events answers new → FlushField old → WholeField old → DueField old
    → (W → AllByRecursion (λ event. ¬ (ArrangesFailure event)) events) → (W → AreWell old) → Telling W old ts → Telling W new (ts ++ all_made answers)
run-telling W old [] [] new ts h s w d never well t = subst (λ (x : Field). Telling W x (ts ++ [])) (sym h) (subst (Telling W old) (sym (append-nil ts)) t)
run-telling W old (event ∷ events) (answer ∷ answers) new ts h s w d never well t =
    let one = after-sound old event answer h.0 h.1 s w d in
    subst (Telling W new) (append_assoc ts (made_by answer) (all_made answers))
    (run-telling W h.0 events answers new (ts ++ made_by answer) h.2 one.flush one.whole (after-due old event answer h.0 h.1 d)
    (λ q. (never q).1) (λ q. after-well old event answer h.0 h.1 (never q).0 (well q)) (after-telling W old event answer h.0 ts h.1 s w well t))
run-telling W old [] (answer ∷ answers) new ts h s w d never well t = absurd h
run-telling W old (event ∷ events) [] new ts h s w d never well t = absurd h

pub run-brought : (old : Field) (events : List Event) (answers : List Answer) (new : Field) → Run old events answers new → new.deltas ≡ old.deltas ++ brought answers
run-brought old [] [] new h = ap (λ (x : Field). x.deltas) h ∙ sym (append-nil old.deltas)
run-brought old (event ∷ events) (answer ∷ answers) new h =
    run-brought h.0 events answers new h.2 ∙ ap (λ ds. ds ++ brought answers) (after-brought old event answer h.0 h.1) ∙ append_assoc old.deltas (brought_by answer) (brought answers)
run-brought old [] (answer ∷ answers) new h = absurd h
run-brought old (event ∷ events) [] new h = absurd h

run-unasked : (old : Field) (events : List Event) (answers : List Answer) (new : Field) → Run old events answers new → AllByRecursion (λ event. peer_of event ≡ None) events → brought answers ≡ all_made answers
run-unasked old [] [] new h e = refl
run-unasked old (event ∷ events) (answer ∷ answers) new h e =
    ap (λ ds. ds ++ brought answers) (after-unasked old event answer h.0 h.1 e.0) ∙ ap (λ ds. made_by answer ++ ds) (run-unasked h.0 events answers new h.2 e.1)
run-unasked old [] (answer ∷ answers) new h e = absurd h
run-unasked old (event ∷ events) [] new h e = absurd h

start-telling : (W : Type 0) (configs : List Config) → Telling W (new_field configs) []
start-telling W configs = record {
  once = record { each = tt; apart = λ i j one other a b at there inside within named. absurd (none-some one at); proper = tt };
  all = λ _. record { sets = λ j gateway there. subst (λ T. AllByRecursion (IsTold []) T) (sym (start-taken configs j gateway there)) tt; lists = tt };
}

field-telling : (configs : List Config) (events : List Event) (answers : List Answer) (field : Field) → Run (new_field configs) events answers field → Telling (NoneFails events) field (all_made answers)
field-telling configs events answers field h =
    run-telling (NoneFails events) (new_field configs) events answers field [] h (start-flush configs) (start-whole configs) (start-due configs)
    (λ q. all-moved (λ (event : Event). ¬ (ArrangesFailure event)) events q) (λ _. start-well configs) (start-telling (NoneFails events) configs)

-- ---- the laws

made-once : (deltas : List (List Op)) → AreApart deltas → AllByRecursion IsDelta deltas → AreMadeOnce deltas
made-once deltas apart proper i j k l one other a b at there inside within named =
    let same : i ≡ j = apart i j one other a b at there (contains_at one k a inside) (contains_at other l b within) named in
    let whole : one ≡ other = same_Some one other (sym at ∙ ap (slice_get deltas) same ∙ there) in
    (same, delta-place other (all-at IsDelta deltas j other proper there) k l a b (subst (λ D. slice_get D k ≡ Some a) whole inside) within named)

pub field-once : (configs : List Config) (events : List Event) (answers : List Answer) (field : Field) → Run (new_field configs) events answers field → AreMadeOnce (all_made answers)
field-once configs events answers field h = let t = field-telling configs events answers field h in made-once (all_made answers) t.once.apart t.once.proper

pub field-told : (configs : List Config) (events : List Event) (answers : List Answer) (field : Field) (op : Op) → Run (new_field configs) events answers field → NoneFails events → Contains (everything field) op → IfSome (maker_of op) (λ number. Contains (all_of (all_made answers)) op)
field-told configs events answers field op h none there =
    All-contains (IsTold (all_made answers)) (everything field) op
    (All-from_recursion (IsTold (all_made answers)) (everything field) (each-all (IsTold (all_made answers)) field ((field-telling configs events answers field h).all none))) there

pub field-brought : (configs : List Config) (events : List Event) (answers : List Answer) (field : Field) → Run (new_field configs) events answers field → field.deltas ≡ brought answers
field-brought configs events answers field h = run-brought (new_field configs) events answers field h

pub field-unasked : (configs : List Config) (events : List Event) (answers : List Answer) (field : Field) → Run (new_field configs) events answers field → ((event : Event) → Contains events event → peer_of event ≡ None) → AreMadeOnce field.deltas
field-unasked configs events answers field h f =
    subst AreMadeOnce (sym (field-brought configs events answers field h ∙ run-unasked (new_field configs) events answers field h (all-moved (λ (event : Event). peer_of event ≡ None) events f)))
    (field-once configs events answers field h)
