-- What a gateway made is in its own journal, and so is what it answered.
use Rattle.std.specs.List.{AllByRecursion}
use Rattle.std.specs.declared.alloc.Global.{Global}
use Rattle.std.specs.declared.sync.Arc.{Arc}
use Rattle.std.proofs.Common.{◌≡◌, ◌⊎◌, ℕ, Bool, true, false, ◌||◌, List, [], ◌∷◌, ◌++◌, map, take, slice_get, set, append-nil, Option, Some, None, Contains, Result, Ok, Err, refl, sym, ap, ◌∙◌, subst, inl, inr}
use Rattle.rep_ops.specs.Splitting.{all_of}
use Rattle.rep_model.proofs.Lookup.{or_else}
use Rattle.std.proofs.lemmas.List.Elements.{All-from_recursion, All-contains, Contains-append_left, Contains-append_right}
use Rattle.std.proofs.lemmas.Option.{none-some, same_Some, slice_get_within, get_or_from_slice_get}
use Rattle.rep_op.specs.declared.op.Op.{Op}
use Rattle.rep_op.specs.Sets.{operation_at, put_at, is_acknowledged, retain_at, HasOperation, Within, Same}
use Rattle.rep_model.specs.Keep.{keep, CountsAs}
use Rattle.rep_model.proofs.Joins.{counts-more, within-left, within-standing, same_sym, same_trans}
use Rattle.rep_model.proofs.Readers.{operation_at_both, put_at_both, is_acknowledged_both, retain_at_both}
use Rattle.rep_model.proofs.Thin.{same_kept, thin-same}
use Rattle.jr_disk.specs.Disk.{Image}
use Rattle.jr_journal.specs.Records.{records}
use Rattle.sn_local.specs.declared.config.Config.{Config}
use Rattle.gw_answer.specs.declared.fault.NodeFault.{NodeFault}
use Rattle.gw_answer.specs.declared.out.Out.{Out}
use Rattle.gw_answer.specs.declared.refusal.Refusal.{Refusal}
use Rattle.gw_event.specs.Occasions.{Occasion, Datagram, Clock}
use Rattle.gw_answer.specs.Answers.{said}
use Rattle.gw_node.specs.Taking.{IsWhole, RecoversTo}
use Rattle.gw_node.proofs.Between.{within-trans}
use Rattle.gw_node.proofs.Taken.{as_taken}
use Rattle.gw_node.proofs.Refused.{refused_is}
use Rattle.gw_world.specs.declared.event.Event.{Event}
use Rattle.gw_world.specs.declared.event.Event.TheVariants.{Frame, Tick, Take, Together as AtOnce, Answer as Asks, WriteFails, Compact, Restart, Show}
use Rattle.gw_world.specs.declared.event.Call.{Call}
use Rattle.gw_world.specs.declared.event.Call.TheVariants as calls
use Rattle.gw_world.specs.declared.event.Answer.{Answer}
use Rattle.gw_world.specs.declared.event.Answer.TheVariants.{Node, Row, Views, Records, Nothing}
use Rattle.gw_event.specs.Gateways.{Gateway, with_refused}
use Rattle.sn_plan.proofs.Lists.{all-weaken, all-append}
use Rattle.rep_model.proofs.Joins.{all-moved}
use Rattle.gw_world.specs.Field.{Field, new_field, IsAt, field_changed, TogetherAt, After, Run, gateway_of_event}
use Rattle.gw_world.proofs.InRows.{Answers, CallAt, InCalls, CutShort, at-changed, moved-config, fed-config, row-moves}
use Rattle.gw_world.specs.Events.{made_of, answered_of}
use Rattle.gw_world.specs.Steps.{AnswerStep}
use Rattle.gw_event.specs.Event.{OwnStep}
use Rattle.gw_world.specs.Whole.{everything, made_by, made_of_all, MayMake}
use Rattle.field_laws.specs.Stored.{HasStored}
use Rattle.field_laws.proofs.Catching.{Later, calls-later, torn-later, run-later, later-now}
use Rattle.gw_world.proofs.Answering.{answered, answer-told}
use Rattle.gw_world.proofs.Consistency.{WholeField, after-sound, field-sound, run-sound}
use Rattle.gw_world.proofs.Each.{flat-all}
use Rattle.gw_world.proofs.Failures.{after-due}
use Rattle.gw_world.proofs.Numbers.{set-there as set-at}
use Rattle.field_laws.proofs.Settling.{set-there, parts-within}
use Rattle.gw_world.proofs.Steadiness.{Still, Stepped, own-moves, take-moves, own-told}
use Rattle.gw_world.proofs.Telling.{after-makes, take-told, short-told}

-- ---- what stands in a set adds nothing to it

behind : {X : Type 0} (w d : Option X) → ((x : X) → d ≡ Some x → w ≡ Some x) → or_else w d ≡ w
behind (Some x) d f = refl
behind None None f = refl
behind None (Some x) f = sym (f x refl)

behind_test : (w d : Bool) → (d ≡ true → w ≡ true) → (w || d) ≡ w
behind_test true d f = refl
behind_test false true f = sym (f refl)
behind_test false false f = refl

same-behind : (W D : List Op) → Within D W → Same (W ++ D) W
same-behind W D h = record {
  operations_same = λ c name. operation_at_both c W D name ∙ behind (operation_at c W name) (operation_at c D name) (λ x. h.operations_in c name x);
  puts_same = λ c name. put_at_both c W D name ∙ behind (put_at c W name) (put_at c D name) (λ x. h.puts_in c name x);
  acknowledgements_same = λ c name. is_acknowledged_both c W D name ∙ behind_test (is_acknowledged c W name) (is_acknowledged c D name) (h.acknowledgements_in c name);
  retains_same = λ t name. retain_at_both t W D name ∙ behind (retain_at t W name) (retain_at t D name) (λ x. h.retains_in t name x);
}

-- nor to what counts as the set
adds-nothing : (S J D : List Op) → Within D S → CountsAs S J → Same (keep (J ++ D)) (keep J)
adds-nothing S J D within counts =
    same_trans (counts-more S J D counts) (same_trans (same_kept (S ++ D) S (thin-same (S ++ D) S (same-behind S D within))) (same_sym counts))

within-back : (n : ℕ) (D S : List Op) (refused : List (List Op)) → Within D S → Within D (with_refused n S refused)
within-back n D S refused h =
    subst (λ (T : List Op). Within D T) (sym (refused_is n S refused)) (within-trans D S (S ++ all_of (take n refused)) h (within-left S (all_of (take n refused))))

-- ---- what a step of its own made

nothing-there : (none : List (List Op)) (delta : List Op) → none ≡ [] → Contains none delta → ⊥
nothing-there none delta e h = All-contains (λ _. ⊥) [] delta (All-from_recursion (λ _. ⊥) [] tt) (subst (λ (ds : List (List Op)). Contains ds delta) e h)

only-one : (one : List Op) (delta : List Op) → Contains (one ∷ []) delta → delta ≡ one
only-one one delta h = All-contains (λ (d : List Op). d ≡ one) (one ∷ []) delta (All-from_recursion (λ (d : List Op). d ≡ one) (one ∷ []) (refl, tt)) h

-- the gateway took it
took : (old next : Gateway) (made : List (List Op)) (delta : List Op) → Contains made delta → Still old next made ⊎ Stepped old next made → next.taken ≡ old.taken ++ delta
took old next made delta h (inl u) = absurd (nothing-there made delta u.none h)
took old next made delta h (inr u) =
    u.taken ∙ ap (λ (D : List Op). old.taken ++ D) (sym (only-one u.delta delta (subst (λ (ds : List (List Op)). Contains ds delta) u.one h)))

same-place : (field : Field) (number i j : ℕ) (one other : Gateway) → IsAt field number i one → IsAt field number j other → i ≡ j
same-place field number i j one other h k = same_Some i j (sym h.0 ∙ k.0)

-- from then on it stands in what the gateway in this place has taken
own-later : (old mid : Field) (number i : ℕ) (maker : Gateway) (occasion : Occasion) (now : ℕ) (answer : Result Out Refusal) (delta : List Op)
    → IsAt old number i maker → (j : ℕ) (gateway next : Gateway) (made : List (List Op)) → IsAt old number j gateway → OwnStep gateway occasion now answer next made → mid ≡ field_changed old j next made
    → Contains (made_of answer) delta → (S : List Op) × Later mid.gateways i (S ++ delta)
own-later old mid number i maker occasion now answer delta at j gateway next made here step is there =
    let e = same-place old number j i gateway maker here at in
    let is_taken = took gateway next made delta (subst (λ (ds : List (List Op)). Contains ds delta) (sym (own-told gateway occasion now answer next made step)) there) (own-moves gateway occasion now answer next made step) in (
      gateway.taken,
      subst (λ (k : ℕ). Later mid.gateways k (gateway.taken ++ delta)) e
          (subst (λ (T : List Op). Later mid.gateways j T) is_taken
          (subst (λ (f : Field). Later f.gateways j next.taken) (sym is) (later-now (set old.gateways j next) j next (set-at j old.gateways gateway next here.1)))),
    )

-- the same of one of several calls: the gateway that it is at stays in its place
call-there : (old mid : Field) (number i : ℕ) (maker : Gateway) (call : Call) (answer : Result Out Refusal) → IsAt old number i maker → CallAt old number call answer mid → (next : Gateway) × IsAt mid number i next
call-there old mid number i maker (calls.Frame from bytes now) answer at h =
    let e = same-place old number h.0 i h.1 maker h.4 at in
    let there = at-changed old number h.0 h.1 h.2 h.3 h.4 (moved-config h.1 h.2 h.3 (own-moves h.1 (Datagram from bytes) now answer h.2 h.3 h.5)) in
    (h.2, subst (λ (f : Field). IsAt f number i h.2) (sym h.6) (subst (λ (k : ℕ). IsAt (field_changed old h.0 h.2 h.3) number k h.2) e there))
call-there old mid number i maker (calls.Tick now) answer at h =
    let e = same-place old number h.0 i h.1 maker h.4 at in
    let there = at-changed old number h.0 h.1 h.2 h.3 h.4 (moved-config h.1 h.2 h.3 (own-moves h.1 Clock now answer h.2 h.3 h.5)) in
    (h.2, subst (λ (f : Field). IsAt f number i h.2) (sym h.6) (subst (λ (k : ℕ). IsAt (field_changed old h.0 h.2 h.3) number k h.2) e there))
call-there old mid number i maker (calls.Take delta) answer at h =
    let e = same-place old number h.0 i h.1 maker h.5 at in
    let there = at-changed old number h.0 h.1 h.2 h.3 h.5 (fed-config h.1 h.2 h.4 h.3 (take-moves h.1 h.4 answer h.2 h.3 h.7)) in
    (h.2, subst (λ (f : Field). IsAt f number i h.2) (sym h.8) (subst (λ (k : ℕ). IsAt (field_changed old h.0 h.2 h.3) number k h.2) e there))

call-made : (old mid : Field) (number i : ℕ) (maker : Gateway) (call : Call) (answer : Result Out Refusal) (delta : List Op) → IsAt old number i maker → CallAt old number call answer mid → Contains (made_of answer) delta → (S : List Op) × Later mid.gateways i (S ++ delta)
call-made old mid number i maker (calls.Frame from bytes now) answer delta at h there = own-later old mid number i maker (Datagram from bytes) now answer delta at h.0 h.1 h.2 h.3 h.4 h.5 h.6 there
call-made old mid number i maker (calls.Tick now) answer delta at h there = own-later old mid number i maker Clock now answer delta at h.0 h.1 h.2 h.3 h.4 h.5 h.6 there
call-made old mid number i maker (calls.Take k) answer delta at h there = absurd (nothing-there (made_of answer) delta (take-told h.1 h.2 h.4 answer h.3 h.7).1 there)

-- whoever stands in two lists together stands in one of them
in-both : (xs ys : List (List Op)) (delta : List Op) → Contains (xs ++ ys) delta → Contains xs delta ⊎ Contains ys delta
in-both xs ys delta h =
    let P : List Op → Type 0 = λ D. Contains xs D ⊎ Contains ys D in
    let first : AllByRecursion P xs = all-weaken (Contains xs) P (λ D there. inl there) xs (all-moved (Contains xs) xs (λ D there. there)) in
    let second : AllByRecursion P ys = all-weaken (Contains ys) P (λ D there. inr there) ys (all-moved (Contains ys) ys (λ D there. there)) in
    All-contains P (xs ++ ys) delta (All-from_recursion P (xs ++ ys) (all-append P xs ys first second)) h

calls-made : (old new : Field) (number i : ℕ) (maker : Gateway) (called : List Call) (answers : Answers) (delta : List Op) → IsAt old number i maker → InCalls old number called answers new → Contains (made_of_all answers) delta
    → (S : List Op) × Later new.gateways i (S ++ delta)
calls-made old new number i maker [] [] delta at h there = absurd (nothing-there [] delta refl there)
calls-made old new number i maker (call ∷ called) (answer ∷ answers) delta at h there =
    elim (in-both (made_of answer) (made_of_all answers) delta there) [
      | inl first ↦ let made = call-made old h.0 number i maker call answer delta at h.1 first in (made.0, calls-later h.0 new number called answers i (made.0 ++ delta) h.2 made.1)
      | inr more ↦ let next = call-there old h.0 number i maker call answer at h.1 in calls-made h.0 new number i next.0 called answers delta next.1 h.2 more
    ]
calls-made old new number i maker [] (answer ∷ answers) delta at h there = absurd h
calls-made old new number i maker (call ∷ called) [] delta at h there = absurd h

short-made : (old new : Field) (number i : ℕ) (maker : Gateway) (called : List Call) (answers : Answers) (delta : List Op) → IsAt old number i maker → CutShort old number called answers new → Contains (made_of_all answers) delta
    → (S : List Op) × Later new.gateways i (S ++ delta)
short-made old new number i maker called answers delta at c there =
    let made = calls-made old c.mid number i maker c.calm c.said delta at c.led (subst (λ (ds : List (List Op)). Contains ds delta) (short-told old new number called answers c) there) in (
      made.0,
      subst (λ (f : Field). Later f.gateways i (made.0 ++ delta)) (sym c.new_is) (torn-later c.mid c.i c.gateway c.next c.step c.answer c.steps_behind i (made.0 ++ delta) c.at.1 c.torn made.1),
    )

row-made : (old new : Field) (number i : ℕ) (maker : Gateway) (called : List Call) (answers : Answers) (delta : List Op) → IsAt old number i maker → TogetherAt old number called answers new → Contains (made_of_all answers) delta
    → (S : List Op) × Later new.gateways i (S ++ delta)
row-made old new number i maker called answers delta at h there =
    elim (row-moves old new number called answers h) [
      | inl c ↦ calls-made old new number i maker called answers delta at c there
      | inr c ↦ short-made old new number i maker called answers delta at c there
    ]

made-later : (old mid : Field) (event : Event) (answer : Answer) (delta : List Op) (i : ℕ) (maker : Gateway) → After old event answer mid → Contains (made_by answer) delta
    → MayMake event → IsAt old (gateway_of_event event) i maker → (S : List Op) × Later mid.gateways i (S ++ delta)
made-later old mid (Frame number from bytes now) (Node answer) delta i maker h there may at =
    own-later old mid number i maker (Datagram from bytes) now (said answer) delta at h.0 h.1 h.2 h.3 h.4 h.5 h.6 there
made-later old mid (Tick number now) (Node answer) delta i maker h there may at =
    own-later old mid number i maker Clock now (said answer) delta at h.0 h.1 h.2 h.3 h.4 h.5 h.6 there
made-later old mid (AtOnce number calls) (Row answers) delta i maker h there may at = row-made old mid number i maker calls (map said answers) delta at h there
made-later old mid (AtOnce number calls) (Node answer) delta i maker h there may at = absurd h
made-later old mid (AtOnce number calls) (Views views topics) delta i maker h there may at = absurd h
made-later old mid (AtOnce number calls) (Records count) delta i maker h there may at = absurd h
made-later old mid (AtOnce number calls) Nothing delta i maker h there may at = absurd h
made-later old mid (Frame number from bytes now) (Row answers) delta i maker h there may at = absurd h
made-later old mid (Tick number now) (Row answers) delta i maker h there may at = absurd h
made-later old mid (Frame number from bytes now) (Views views topics) delta i maker h there may at = absurd h
made-later old mid (Frame number from bytes now) (Records count) delta i maker h there may at = absurd h
made-later old mid (Frame number from bytes now) Nothing delta i maker h there may at = absurd h
made-later old mid (Tick number now) (Views views topics) delta i maker h there may at = absurd h
made-later old mid (Tick number now) (Records count) delta i maker h there may at = absurd h
made-later old mid (Tick number now) Nothing delta i maker h there may at = absurd h
made-later old mid (Take number k) answer delta i maker h there may at = absurd may
made-later old mid (Asks number peer) answer delta i maker h there may at = absurd may
made-later old mid (WriteFails number bytes sync) answer delta i maker h there may at = absurd may
made-later old mid (Compact number) answer delta i maker h there may at = absurd may
made-later old mid (Restart number kept) answer delta i maker h there may at = absurd may
made-later old mid (Show number) answer delta i maker h there may at = absurd may

contains-place : (gs : List Gateway) (i : ℕ) (gateway : Gateway) → slice_get gs i ≡ Some gateway → Contains gs gateway
contains-place gs i gateway e = (i, slice_get_within gs i gateway e, get_or_from_slice_get gs i gateway gateway e)

-- ---- what it answered

-- a delta of an answer stands in the set of the gateway that answered
answer-within : (asker peer : Gateway) (answer : Result Out Refusal) (made : List (List Op)) (delta : List Op) → AnswerStep asker peer answer made → Contains (answered_of answer) delta → Within delta peer.taken
answer-within asker peer answer made delta step there =
    let a = answered asker peer answer made step in
    let listed : Contains made delta = subst (λ (ds : List (List Op)). Contains ds delta) (sym (answer-told asker peer answer made step).1) there in
    let P : List Op → Type 0 = λ D. AllByRecursion (HasOperation (all_of made)) D in
    let each : AllByRecursion P made = flat-all (HasOperation (all_of made)) (λ (D : List Op). D) made a.consistent in
    let stands : P delta = All-contains P made delta (All-from_recursion P made each) listed in
    within-trans delta (all_of made) peer.taken (within-standing (all_of made) delta stands) a.within

-- whoever has this place in the field has answered
same-gateway : (field : Field) (number i j : ℕ) (one other : Gateway) → IsAt field number i one → IsAt field number j other → one ≡ other
same-gateway field number i j one other h k =
    same_Some one other (sym h.1 ∙ (ap (λ (n : ℕ). slice_get field.gateways n) (same-place field number i j one other h k) ∙ k.1))

-- ---- the law

pub field-stored : (configs : List Config) (events more : List Event) (answers replies : List Answer) (old mid new : Field) (event : Event) (answer : Answer) (delta : List Op) (i : ℕ) (maker later : Gateway) (n : ℕ) (image : Image)
    → Run (new_field configs) events answers old → After old event answer mid → Contains (made_by answer) delta → IsAt old (gateway_of_event event) i maker
    → Run mid more replies new → slice_get new.gateways i ≡ Some later → RecoversTo later.config.gateway (with_refused n later.taken later.refused) [] image
    → HasStored later.config.gateway image delta
field-stored configs events more answers replies old mid new event answer delta i maker later n image run after there at goes_on place stands =
    let first = field-sound configs events answers old run in
    let one = after-sound old event answer mid after first.flush first.whole first.due in
    let last = run-sound mid more replies new goes_on one.flush one.whole (after-due old event answer mid after first.due) in
    let made = made-later old mid event answer delta i maker after there (after-makes old mid event answer delta after there) at in
    let now = run-later mid more replies new i (made.0 ++ delta) goes_on made.1 in
    let is : later.taken ≡ (made.0 ++ delta) ++ now.more = ap (λ (x : Gateway). x.taken) (same_Some later now.gateway (sym place ∙ now.place)) ∙ now.taken in
    let inside : (op : Op) → Contains delta op → Contains later.taken op = λ op h.
    subst (λ (T : List Op). Contains T op) (sym is) (Contains-append_left (made.0 ++ delta) now.more op (Contains-append_right made.0 delta op h)) in
    let in_field : Contains new.gateways later = contains-place new.gateways i later place in
    let within : Within delta later.taken = parts-within new last.whole later.taken delta (set-there new later in_field) inside in
    let S = with_refused n later.taken later.refused in
    let J = all_of (records later.config.gateway image) in
    adds-nothing S J delta (within-back n delta later.taken later.refused within) (as_taken S J stands.whole)

pub answer-stored : (more : List Event) (replies : List Answer) (old mid new : Field) (number other : ℕ) (answer : Result (Arc Out Global) NodeFault) (delta : List Op) (i : ℕ) (peer later : Gateway) (n : ℕ) (image : Image)
    → After old (Asks number other) (Node answer) mid → Contains (answered_of (said answer)) delta → IsAt old other i peer
    → Run mid more replies new → slice_get new.gateways i ≡ Some later → RecoversTo later.config.gateway (with_refused n later.taken later.refused) [] image
    → HasStored later.config.gateway image delta
answer-stored more replies old mid new number other answer delta i peer later n image after there at goes_on place stands =
    let is : after.3 ≡ peer = same-gateway old other after.1 i after.3 peer after.6 at in
    let within : Within delta peer.taken = subst (λ (g : Gateway). Within delta g.taken) is (answer-within after.2 after.3 (said answer) after.4 delta after.7 there) in
    let start : Later mid.gateways i peer.taken = subst (λ (f : Field). Later f.gateways i peer.taken) (sym after.8) (later-now old.gateways i peer at.1) in
    let now = run-later mid more replies new i peer.taken goes_on start in
    let grown : later.taken ≡ peer.taken ++ now.more = ap (λ (x : Gateway). x.taken) (same_Some later now.gateway (sym place ∙ now.place)) ∙ now.taken in
    let still : Within delta later.taken = subst (λ (T : List Op). Within delta T) (sym grown) (within-trans delta peer.taken (peer.taken ++ now.more) within (within-left peer.taken now.more)) in
    let S = with_refused n later.taken later.refused in
    let J = all_of (records later.config.gateway image) in
    adds-nothing S J delta (within-back n delta later.taken later.refused still) (as_taken S J stands.whole)
