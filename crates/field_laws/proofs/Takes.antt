-- In a run counter 0 stands exactly at the operations that take a session.
use Rattle.std.proofs.Common.{◌≡◌, ◌↔◌, ◌⊎◌, ◌-◌, ◌++◌, map, set, slice_get, append-nil, inl, inr, refl, ◌∙◌, subst, ℕ, Bool, true, false, ◌&&◌, ◌==◌, nat_lt, if◌then◌else◌, List, [], ◌∷◌, Some, Contains, Result, sym, true≢false, arith, eqb-true, ltb-true, IsTrue}
use Rattle.std.specs.List.{AllByRecursion}
use Rattle.std.proofs.lemmas.Bool.{and_parts}
use Rattle.std.proofs.lemmas.List.Elements.{All-from_recursion, All-contains}
use Rattle.sn_session.specs.declared.change.SessionOp.{SessionOp}
use Rattle.sn_session.specs.Session.{is_take}
use Rattle.rep_op.specs.declared.op.Stamp.{Stamp}
use Rattle.rep_op.specs.declared.op.Op.{Op}
use Rattle.rep_op.specs.declared.op.Op.TheVariants.{Session as OfSession, Put as OfPut, Ack, Retain as OfRetain}
use Rattle.rep_ops.specs.Deltas.{IsDelta}
use Rattle.rep_op.specs.Ranges.{is_change}
use Rattle.rep_op.specs.Sets.{operation_at}
use Rattle.rep_op.specs.WellMade.{is_stamp, is_counted, is_well_made}
use Rattle.sn_local.specs.declared.config.Config.{Config}
use Rattle.sn_plan.proofs.Lists.{all-append, all-weaken}
use Rattle.gw_world.specs.declared.event.Event.{Event}
use Rattle.gw_world.specs.declared.event.Answer.{Answer}
use Rattle.gw_event.specs.Gateways.{Gateway, new_gateway}
use Rattle.gw_answer.specs.declared.out.Out.{Out}
use Rattle.gw_answer.specs.declared.refusal.Refusal.{Refusal}
use Rattle.gw_event.specs.Drives.{left_by, more_records}
use Rattle.gw_world.specs.Field.{Field, new_field, failing_gateway, TogetherAt, After, Run}
use Rattle.gw_world.proofs.InRows.{Answers, CallAt, torn-row-still}
use Rattle.gw_node.specs.Keeping.{Keeps}
use Rattle.field_laws.specs.Takes.{IsTakeAtZero}
use Rattle.gw_event.specs.Occasions.{Datagram, Clock}
use Rattle.gw_answer.specs.Answers.{said}
use Rattle.gw_world.specs.declared.event.Event.TheVariants.{Frame, Tick, Take, Together as AtOnce, Answer as Asks, WriteFails, Compact, Restart, Show}
use Rattle.gw_world.specs.declared.event.Call.{Call}
use Rattle.gw_world.specs.declared.event.Call.TheVariants as calls
use Rattle.gw_world.specs.declared.event.Answer.TheVariants.{Node, Row, Views, Records, Nothing}
use Rattle.gw_world.specs.Steps.{restarted}
use Rattle.gw_world.proofs.Consistency.{FlushField, WholeField, row-keeps-sound, after-sound, start-taken, start-whole, field-well_made}
use Rattle.gw_world.proofs.Each.{all-at, all-places, set-cases}
use Rattle.gw_world.proofs.Failures.{OwnOrListed, DueAs, DueField, due-all, after-due, start-due}
use Rattle.gw_world.proofs.Steadiness.{Still, Stepped, Fed, own-moves, take-moves, compact-still, came-back, restart-feeds, start-flush}

at-zero : (takes : Bool) (counter : ℕ) → (if takes then counter == 0 else nat_lt 0 counter) ≡ true → (takes ≡ true) ↔ (counter ≡ 0)
at-zero true counter e = (λ _. eqb-true counter 0 e, λ _. refl)
at-zero false counter e = (λ t. absurd (true≢false (sym t)), λ z. absurd (let above = ltb-true 0 counter e in omega (arith, above, z)))

take-at-zero : (op : Op) → IsTrue (is_well_made op) → IsTakeAtZero op
take-at-zero (OfSession c stamp counter change) made =
    at-zero (is_take change) counter (and_parts (is_stamp stamp) (is_counted counter change) (and_parts (is_stamp stamp && is_counted counter change) (is_change change) made).0).1
take-at-zero (OfPut c put) made = tt
take-at-zero (Ack c origin first last) made = tt
take-at-zero (OfRetain topic kept) made = tt

delta-takes : (delta : List Op) → IsDelta delta → AllByRecursion IsTakeAtZero delta
delta-takes delta d = all-weaken (λ op. IsTrue (is_well_made op)) IsTakeAtZero take-at-zero delta d.well_made

-- ---- sets

abbrev HaveTakes : List Gateway → Type 0
HaveTakes gs = (j : ℕ) (gateway : Gateway) → slice_get gs j ≡ Some gateway → AllByRecursion IsTakeAtZero gateway.taken

grown : (gs : List Gateway) (i : ℕ) (old next : Gateway) (more : List Op) → slice_get gs i ≡ Some old → next.taken ≡ old.taken ++ more → AllByRecursion IsTakeAtZero more → HaveTakes gs → HaveTakes (set gs i next)
grown gs i old next more is taken news all j gateway there = elim (set-cases i j gs next gateway there) [
  | inl own ↦ subst (λ (g : Gateway). AllByRecursion IsTakeAtZero g.taken) (sym own) (subst (λ (T : List Op). AllByRecursion IsTakeAtZero T) (sym taken) (all-append IsTakeAtZero old.taken more (all i old is) news))
  | inr other ↦ all j gateway other
]

same-set : (gs : List Gateway) (i : ℕ) (old next : Gateway) → slice_get gs i ≡ Some old → next.taken ≡ old.taken → HaveTakes gs → HaveTakes (set gs i next)
same-set gs i old next is taken all = grown gs i old next [] is (taken ∙ sym (append-nil old.taken)) tt all

moved-takes : (gs : List Gateway) (i : ℕ) (old next : Gateway) (made : List (List Op)) → slice_get gs i ≡ Some old → Still old next made ⊎ Stepped old next made → HaveTakes gs → HaveTakes (set gs i next)
moved-takes gs i old next made is (inl u) all = same-set gs i old next is u.taken all
moved-takes gs i old next made is (inr u) all = grown gs i old next u.delta is u.taken (delta-takes u.delta u.proper) all

fed-takes : (gs : List Gateway) (i : ℕ) (old next : Gateway) (more : List Op) (made : List (List Op)) → slice_get gs i ≡ Some old → AllByRecursion IsTakeAtZero more → Still old next made ⊎ Fed old more next made → HaveTakes gs → HaveTakes (set gs i next)
fed-takes gs i old next more made is news (inl u) all = same-set gs i old next is u.taken all
fed-takes gs i old next more made is news (inr u) all = grown gs i old next more is u.taken news all

one-takes : (deltas : List (List Op)) (number : ℕ) (taken delta : List Op) → AllByRecursion IsDelta deltas → OwnOrListed deltas number taken delta → AllByRecursion IsTakeAtZero delta
one-takes deltas number taken delta proper (inl own) = delta-takes delta own.proper
one-takes deltas number taken delta proper (inr (k, there)) = delta-takes delta (all-at IsDelta deltas k delta proper there)

again-takes : (gs : List Gateway) (i kept : ℕ) (old : Gateway) (deltas : List (List Op)) → slice_get gs i ≡ Some old → AllByRecursion IsDelta deltas → DueAs deltas old → HaveTakes gs → HaveTakes (set gs i (restarted kept old))
again-takes gs i kept old deltas is proper d all =
    fed-takes gs i old (restarted kept old) (came-back kept old) [] is
    (due-all IsTakeAtZero deltas old.config.gateway (λ taken delta due. one-takes deltas old.config.gateway taken delta proper due) (more_records old.config.gateway old.drive (left_by kept old.drive)) old.refused old.taken d)
    (inr (restart-feeds kept old)) all

abbrev TakesField : Field → Type 0
TakesField field = HaveTakes field.gateways

call-takes : (old new : Field) (number : ℕ) (call : Call) (answer : Result Out Refusal) → CallAt old number call answer new → FlushField old → WholeField old → TakesField old → TakesField new
call-takes old new number (calls.Frame from bytes now) answer h s w all = subst TakesField (sym h.6) (moved-takes old.gateways h.0 h.1 h.2 h.3 h.4.1 (own-moves h.1 (Datagram from bytes) now answer h.2 h.3 h.5) all)
call-takes old new number (calls.Tick now) answer h s w all = subst TakesField (sym h.6) (moved-takes old.gateways h.0 h.1 h.2 h.3 h.4.1 (own-moves h.1 Clock now answer h.2 h.3 h.5) all)
call-takes old new number (calls.Take delta) answer h s w all =
    subst TakesField (sym h.8)
    (fed-takes old.gateways h.0 h.1 h.2 h.4 h.3 h.5.1 (delta-takes h.4 (all-at IsDelta old.deltas (delta - 1) h.4 w.proper h.6.1)) (take-moves h.1 h.4 answer h.2 h.3 h.7) all)

row-takes : (old new : Field) (number : ℕ) (called : List Call) (answers : Answers) → TogetherAt old number called answers new → FlushField old → WholeField old → TakesField old → TakesField new
row-takes old new number called answers h s w all =
    row-keeps-sound TakesField number (λ before after call answer one flush whole takes. call-takes before after number call answer one flush whole takes)
    (λ field i gateway next behind step answer more at is t flush whole takes. same-set field.gateways i gateway next at.1 (torn-row-still gateway next step answer more t).taken takes)
    old new called answers h s w all

after-takes : (old : Field) (event : Event) (answer : Answer) (new : Field) → After old event answer new → FlushField old → WholeField old → DueField old → TakesField old → TakesField new
after-takes old (Frame number from bytes now) (Node answer) new h s w d all = call-takes old new number (calls.Frame from bytes now) (said answer) h s w all
after-takes old (Tick number now) (Node answer) new h s w d all = call-takes old new number (calls.Tick now) (said answer) h s w all
after-takes old (Take number delta) (Node answer) new h s w d all = call-takes old new number (calls.Take delta) (said answer) h s w all
after-takes old (AtOnce number calls) (Row answers) new h s w d all = row-takes old new number calls (map said answers) h s w all
after-takes old (Asks number peer) (Node answer) new h s w d all = subst TakesField (sym h.8) all
after-takes old (WriteFails number bytes sync) Nothing new h s w d all =
    subst TakesField (sym h.3) (same-set old.gateways h.0 h.1 (failing_gateway bytes sync h.1) h.2.1 refl all)
after-takes old (Compact number) (Node answer) new h s w d all =
    subst TakesField (sym h.5) (same-set old.gateways h.0 h.1 h.2 h.3.1 (compact-still h.1 h.2 (said answer) h.4).taken all)
after-takes old (Restart number kept) (Records count) new h s w d all =
    subst TakesField (sym h.4)
    (again-takes old.gateways h.0 kept h.1 old.deltas h.2.1 w.proper (d h.0 h.1 h.2.1).due all)
after-takes old (Show number) (Views views topics) new h s w d all = subst TakesField (sym h.4) all
after-takes old (Frame number from bytes now) (Views views topics) new h s w d all = absurd h
after-takes old (Frame number from bytes now) (Records count) new h s w d all = absurd h
after-takes old (Frame number from bytes now) Nothing new h s w d all = absurd h
after-takes old (Tick number now) (Views views topics) new h s w d all = absurd h
after-takes old (Tick number now) (Records count) new h s w d all = absurd h
after-takes old (Tick number now) Nothing new h s w d all = absurd h
after-takes old (Take number delta) (Views views topics) new h s w d all = absurd h
after-takes old (Take number delta) (Records count) new h s w d all = absurd h
after-takes old (Take number delta) Nothing new h s w d all = absurd h
after-takes old (Asks number peer) (Views views topics) new h s w d all = absurd h
after-takes old (Asks number peer) (Records count) new h s w d all = absurd h
after-takes old (Asks number peer) Nothing new h s w d all = absurd h
after-takes old (WriteFails number bytes sync) (Node answer) new h s w d all = absurd h
after-takes old (WriteFails number bytes sync) (Views views topics) new h s w d all = absurd h
after-takes old (WriteFails number bytes sync) (Records count) new h s w d all = absurd h
after-takes old (Compact number) (Views views topics) new h s w d all = absurd h
after-takes old (Compact number) (Records count) new h s w d all = absurd h
after-takes old (Compact number) Nothing new h s w d all = absurd h
after-takes old (Restart number kept) (Node answer) new h s w d all = absurd h
after-takes old (Restart number kept) (Views views topics) new h s w d all = absurd h
after-takes old (Restart number kept) Nothing new h s w d all = absurd h
after-takes old (Show number) (Node answer) new h s w d all = absurd h
after-takes old (Show number) (Records count) new h s w d all = absurd h
after-takes old (Show number) Nothing new h s w d all = absurd h
after-takes old (AtOnce number calls) (Node answer) new h s w d all = absurd h
after-takes old (AtOnce number calls) (Views views topics) new h s w d all = absurd h
after-takes old (AtOnce number calls) (Records count) new h s w d all = absurd h
after-takes old (AtOnce number calls) Nothing new h s w d all = absurd h
after-takes old (Frame number from bytes now) (Row answers) new h s w d all = absurd h
after-takes old (Tick number now) (Row answers) new h s w d all = absurd h
after-takes old (Take number delta) (Row answers) new h s w d all = absurd h
after-takes old (Asks number peer) (Row answers) new h s w d all = absurd h
after-takes old (WriteFails number bytes sync) (Row answers) new h s w d all = absurd h
after-takes old (Compact number) (Row answers) new h s w d all = absurd h
after-takes old (Restart number kept) (Row answers) new h s w d all = absurd h
after-takes old (Show number) (Row answers) new h s w d all = absurd h

run-takes : (old : Field) (events : List Event) (answers : List Answer) (new : Field) → Run old events answers new → FlushField old → WholeField old → DueField old → TakesField old → TakesField new
run-takes old [] [] new h s w d all = subst TakesField (sym h) all
run-takes old (event ∷ events) (answer ∷ answers) new h s w d all =
    let one = after-sound old event answer h.0 h.1 s w d in
    run-takes h.0 events answers new h.2 one.flush one.whole (after-due old event answer h.0 h.1 d) (after-takes old event answer h.0 h.1 s w d all)
run-takes old [] (answer ∷ answers) new h s w d all = absurd h
run-takes old (event ∷ events) [] new h s w d all = absurd h

start-takes : (configs : List Config) → HaveTakes (map new_gateway configs)
start-takes configs j gateway there = subst (λ (T : List Op). AllByRecursion IsTakeAtZero T) (sym (start-taken configs j gateway there)) tt

-- ---- the laws

module _ (configs : List Config) (events : List Event) (answers : List Answer) (field : Field) (run : Run (new_field configs) events answers field) where
  pub listed-takes : (delta : List Op) → Contains field.deltas delta → AllByRecursion IsTakeAtZero delta
  listed-takes delta there = delta-takes delta (field-well_made configs events answers field delta run there).0

  pub taken-takes : (gateway : Gateway) → Contains field.gateways gateway → AllByRecursion IsTakeAtZero gateway.taken
  taken-takes gateway in_field =
      let all = run-takes (new_field configs) events answers field run (start-flush configs) (start-whole configs) (start-due configs) (start-takes configs) in
      All-contains (λ (g : Gateway). AllByRecursion IsTakeAtZero g.taken) field.gateways gateway
      (All-from_recursion (λ (g : Gateway). AllByRecursion IsTakeAtZero g.taken) field.gateways (all-places (λ (g : Gateway). AllByRecursion IsTakeAtZero g.taken) field.gateways all)) in_field

  pub kept-takes : (gateway : Gateway) (kept : List Op) → Contains field.gateways gateway → Keeps gateway.taken kept
      → (c : List ℕ) (stamp : Stamp) (counter : ℕ) (change : SessionOp) → operation_at c kept (stamp, counter) ≡ Some change → IsTakeAtZero (OfSession c stamp counter change)
  kept-takes gateway kept in_field keeps c stamp counter change e =
      All-contains IsTakeAtZero gateway.taken (OfSession c stamp counter change) (All-from_recursion IsTakeAtZero gateway.taken (taken-takes gateway in_field))
      (keeps.operations_taken c (stamp, counter) change e)
