-- What one event does at one gateway is fixed: two steps from the same gateway answer the same and lead to the same.
use Rattle.std.proofs.Common.{◌≡◌, ◌⊎◌, Bool, true, false, true≢false, ℕ, ◌<◌, List, [], ◌∷◌, ◌++◌, length, Option, Some, None, Result, Ok, Err, refl, sym, ap, ◌∙◌, subst, append-nil, arith, inl, inr}
use Rattle.std.specs.Prelude.{◌≢◌}
use Rattle.std.proofs.lemmas.Option.{none-some, same_Some}
use Rattle.sn_frame.specs.declared.fault.FrameFault.{FrameFault}
use Rattle.sn_frame.proofs.Refusals.{one_frame, is_refused, one_first_fault}
use Rattle.rep_op.specs.declared.op.Subject.{Subject}
use Rattle.rep_op.specs.declared.op.Op.{Op}
use Rattle.rep_op.specs.declared.fault.OpsFault.{OpsFault}
use Rattle.rep_op.specs.declared.fault.OpsFault.TheVariants as ops_faults
use Rattle.rep_ops.specs.Making.{HaveOwnNames, IsDeltaOf, IsRefusal}
use Rattle.rep_ops.specs.Spelling.{delta_spelling, IsDeltaWithinLimit}
use Rattle.rep_model.specs.Limits.{first_passed}
use Rattle.rep_digest.specs.Digests.{digest}
use Rattle.rep_digest.specs.Spelling.{IsDigestWithinLimit}
use Rattle.sn_plan.specs.declared.plan.Plan.{Plan}
use Rattle.sn_local.specs.Seen.{seen_of}
use Rattle.sn_local.specs.Locals.{after_all}
use Rattle.sn_local.specs.declared.config.Send.{Send}
use Rattle.jr_disk.specs.declared.disk.Failure.{Failure}
use Rattle.sn_deliver.specs.Steps.{step}
use Rattle.gw_answer.specs.declared.out.Out.{Out}
use Rattle.gw_answer.specs.declared.refusal.Refusal.{Refusal}
use Rattle.gw_answer.specs.declared.refusal.Refusal.TheVariants as refusals
use Rattle.gw_event.specs.Occasions.{Occasion, Datagram, Clock, IsNoFrame}
use Rattle.gw_event.specs.Excuses.{IsExcuse, excuses}
use Rattle.gw_answer.specs.Answers.{only_sends}
use Rattle.jr_journal.specs.declared.fault.JournalFault.{JournalFault}
use Rattle.jr_journal.specs.declared.fault.JournalFault.TheVariants.{Foreign}
use Rattle.jr_journal.specs.Journals.{last_generation}
use Rattle.gw_event.specs.Drives.{GoesOut, with_record, torn, generation, compacted, torn_base}
use Rattle.gw_event.specs.Gateways.{Gateway}
use Rattle.gw_world.specs.Steps.{AnswerStep}
use Rattle.gw_event.specs.Event.{NothingHappens, IsTorn, IsDropped, IsRefused, IsMade, IsCarriedOut, IsPlan, IsTooMuch, HasNoDelta, OwnStep, TakeStep, CompactStep}
use Rattle.gw_node.proofs.Splits.{delta-one, answer-one, held-one}

-- ---- operations that make a delta

no-delta : IsDeltaOf [] []
no-delta = record {
  delta = record { well_made = tt; ascending = tt };
  same = record { operations_same = λ c name. refl; puts_same = λ c name. refl; acknowledgements_same = λ c name. refl; retains_same = λ t name. refl };
}

-- what has one delta within the limit makes it
made-refused : (ops d : List Op) (fault : OpsFault) → fault ≢ ops_faults.Memory → HaveOwnNames ops → IsDeltaOf ops d → IsDeltaWithinLimit d → IsRefusal ops fault → ⊥
made-refused ops d ops_faults.Kind n apart is within h = h apart.well_made
made-refused ops d ops_faults.Twice n apart is within h = apart.once h.1
made-refused ops d ops_faults.Limit n apart is within h =
    let same : h.1.0 ≡ d = delta-one ops h.1.0 d h.1.1 is in
    let passed : 8388608 < length (delta_spelling d) = subst (λ (e : List Op). 8388608 < length (delta_spelling e)) same h.1.2 in
    omega (arith, within, passed)
made-refused ops d ops_faults.Memory n apart is within h = n refl
made-refused ops d ops_faults.Truncated n apart is within h = h
made-refused ops d ops_faults.Version n apart is within h = h
made-refused ops d ops_faults.Order n apart is within h = h
made-refused ops d ops_faults.Trailing n apart is within h = h

none-within : IsDeltaWithinLimit []
none-within = omega arith

-- ---- a plan that is carried out

made-one : (ops : List Op) (old : Gateway) (plan : Plan) (d e : Option (List Op)) (new next : Gateway) (made mades : List (List Op))
    → IsMade ops old plan d new made → IsMade ops old plan e next mades → (d ≡ e) × (new ≡ next) × (made ≡ mades)
made-one [] old plan None None new next made mades h k = (refl, h.1 ∙ sym k.1, h.0 ∙ sym k.0)
made-one [] old plan None (Some e) new next made mades h k = absurd k
made-one [] old plan (Some d) e new next made mades h k = absurd h
made-one (op ∷ ops) old plan None e new next made mades h k = absurd h
made-one (op ∷ ops) old plan (Some d) None new next made mades h k = absurd k
made-one (op ∷ ops) old plan (Some d) (Some e) new next made mades h k =
    let same : d ≡ e = delta-one (op ∷ ops) d e h.0 k.0 in (
      ap (λ (x : List Op). Some x) same,
      h.4 ∙ ap (λ (x : List Op). record old { taken = old.taken ++ x; local = after_all old.local plan.local; drive = with_record x old.drive }) same ∙ sym k.4,
      h.3 ∙ ap (λ (x : List Op). x ∷ []) same ∙ sym k.3,
    )

-- a plan that is carried out is not refused, where no limit was passed before
made-full : (ops : List Op) (old : Gateway) (plan : Plan) (d : Option (List Op)) (new : Gateway) (made : List (List Op)) → first_passed old.taken ≡ None → HaveOwnNames ops → IsMade ops old plan d new made
    → ((delta : List Op) × IsDeltaOf ops delta × IsRefused old.taken delta refusals.Full) ⊎ ((fault : OpsFault) × (fault ≢ ops_faults.Memory) × IsRefusal ops fault) → ⊥
made-full [] old plan None new made room apart h (inl k) =
    let same : k.0 ≡ [] = delta-one [] k.0 [] k.1 no-delta in
    let nothing : old.taken ++ k.0 ≡ old.taken = ap (λ (x : List Op). old.taken ++ x) same ∙ append-nil old.taken in
    none-some k.2.1.0 (sym room ∙ ap (λ (S : List Op). first_passed S) (sym nothing) ∙ k.2.1.1)
made-full [] old plan None new made room apart h (inr k) = made-refused [] [] k.0 k.1 apart no-delta none-within k.2
made-full [] old plan (Some d) new made room apart h k = absurd h
made-full (op ∷ ops) old plan None new made room apart h k = absurd h
made-full (op ∷ ops) old plan (Some d) new made room apart h (inl k) =
    let same : k.0 ≡ d = delta-one (op ∷ ops) k.0 d k.1 h.0 in
    none-some k.2.1.0 (sym h.2.room ∙ ap (λ (x : List Op). first_passed (old.taken ++ x)) (sym same) ∙ k.2.1.1)
made-full (op ∷ ops) old plan (Some d) new made room apart h (inr k) = made-refused (op ∷ ops) d k.0 k.1 apart h.0 h.1.limit k.2

-- ---- plans, and datagrams that are no frames

plan-one : (old : Gateway) (occasion : Occasion) (now : ℕ) (p q : Option Plan) → IsPlan old occasion now p → IsPlan old occasion now q → p ≡ q
plan-one old (Datagram from bytes) now p q h k =
    let same : h.0 ≡ k.0 = one_frame bytes h.0 k.0 h.1 k.1 h.2 k.2 in
    sym h.3 ∙ ap (λ frame. step old.config.gateway old.config.lifetime old.config.predefined (seen_of old.taken) old.local from frame now) same ∙ k.3
plan-one old Clock now p q h k = sym h ∙ k

fault-one : (occasion : Occasion) (d e : FrameFault) → IsNoFrame occasion d → IsNoFrame occasion e → d ≡ e
fault-one (Datagram from bytes) d e h k = one_first_fault bytes d e h.0 k.0
fault-one Clock d e h k = absurd h

fault-plan : (old : Gateway) (occasion : Occasion) (now : ℕ) (fault : FrameFault) (p : Option Plan) → IsNoFrame occasion fault → IsPlan old occasion now p → ⊥
fault-plan old (Datagram from bytes) now fault p h k = h.1 (is_refused bytes fault k.0 h.0 k.1 k.2)
fault-plan old Clock now fault p h k = h

-- ---- a datagram or a tick

-- the answer is no Conflict
abbrev pub IsAgreed : Result Out Refusal → Type 0
IsAgreed answer = (of : Subject) → answer ≡ Err (refusals.Conflict of) → ⊥

-- two answers, gateways and lists are the same
abbrev pub Alike : Result Out Refusal → Result Out Refusal → Gateway → Gateway → List (List Op) → List (List Op) → Type 0
Alike a b new next made mades = (a ≡ b) × (new ≡ next) × (made ≡ mades)

alike-still : (old : Gateway) (a b c : Result Out Refusal) (new next : Gateway) (made mades : List (List Op)) → a ≡ c → b ≡ c → NothingHappens old new made → NothingHappens old next mades → Alike a b new next made mades
alike-still old a b c new next made mades e f u v = (e ∙ sym f, u.same ∙ sym v.same, u.none ∙ sym v.none)

-- by the plan, if there is one
abbrev IsFull : Gateway → Plan → Result Out Refusal → Gateway → List (List Op) → Type 0
IsFull old plan answer new made = (answer ≡ Err refusals.Full) × (IsTooMuch old plan refusals.Full ⊎ HasNoDelta plan) × NothingHappens old new made

abbrev IsDone : Gateway → Plan → Result Out Refusal → Gateway → List (List Op) → Type 0
IsDone old plan answer new made = (out : Out) × (answer ≡ Ok out) × IsCarriedOut old plan out new made

abbrev IsLeft : Gateway → Occasion → Plan → Result Out Refusal → Gateway → List (List Op) → Type 0
IsLeft old occasion plan answer new made = (excuse : Out) × (answer ≡ Err (refusals.Disk excuse)) × IsDropped old occasion plan excuse new made

abbrev Planned : Gateway → Occasion → Option Plan → Result Out Refusal → Gateway → List (List Op) → Type 0
Planned old occasion None answer new made = (answer ≡ Err refusals.Exhausted) × NothingHappens old new made
Planned old occasion (Some plan) answer new made = IsFull old plan answer new made ⊎ (IsDone old plan answer new made ⊎ IsLeft old occasion plan answer new made)

abbrev NotRead : Gateway → Occasion → Result Out Refusal → Gateway → List (List Op) → Type 0
NotRead old occasion answer new made = (fault : FrameFault) × IsNoFrame occasion fault × (answer ≡ Err (refusals.Frame fault)) × NothingHappens old new made

abbrev Read : Gateway → Occasion → ℕ → Result Out Refusal → Gateway → List (List Op) → Type 0
Read old occasion now answer new made = (p : Option Plan) × IsPlan old occasion now p × Planned old occasion p answer new made

abbrev Goes : Gateway → Occasion → ℕ → Result Out Refusal → Gateway → List (List Op) → Type 0
Goes old occasion now answer new made = (old.drive.halted ≡ false) × (NotRead old occasion answer new made ⊎ Read old occasion now answer new made)

abbrev Halts : Gateway → Result Out Refusal → Gateway → List (List Op) → Type 0
Halts old answer new made = (old.drive.halted ≡ true) × (answer ≡ Err refusals.Halted) × NothingHappens old new made

own-way : (old : Gateway) (occasion : Occasion) (now : ℕ) (answer : Result Out Refusal) (new : Gateway) (made : List (List Op)) → IsAgreed answer → OwnStep old occasion now answer new made
    → Halts old answer new made ⊎ Goes old occasion now answer new made
own-way old occasion now (Ok out) new made agreed h = inr (h.3, inr (Some h.0, h.1, inr (inl (out, refl, h.2))))
own-way old occasion now (Err (refusals.Frame fault)) new made agreed h = inr (h.2, inl (fault, h.0, refl, h.1))
own-way old occasion now (Err refusals.Exhausted) new made agreed h = inr (h.2, inr (None, h.0, (refl, h.1)))
own-way old occasion now (Err (refusals.Conflict client)) new made agreed h = absurd (agreed client refl)
own-way old occasion now (Err refusals.Full) new made agreed h = inr (h.4, inr (Some h.0, h.1, inl (refl, h.2, h.3)))
own-way old occasion now (Err refusals.Halted) new made agreed h = inl (h.0, refl, h.1)
own-way old occasion now (Err (refusals.Disk excuse)) new made agreed h = inr (h.3, inr (Some h.0, h.1, inr (inr (excuse, refl, h.2))))
own-way old occasion now (Err (refusals.Journal fault)) new made agreed h = absurd h
own-way old occasion now (Err refusals.Memory) new made agreed h = absurd h

-- a plan that could not be written is neither too much nor carried out
left-full : (old : Gateway) (occasion : Occasion) (plan : Plan) (excuse : Out) (new : Gateway) (made : List (List Op)) → IsDropped old occasion plan excuse new made → IsTooMuch old plan refusals.Full ⊎ HasNoDelta plan → ⊥
left-full old occasion plan excuse new made h (inl k) =
    let same : k.0 ≡ h.delta = delta-one plan.ops k.0 h.delta k.1 h.is_delta in
    none-some k.2.1.0 (sym h.torn.takable.room ∙ ap (λ (x : List Op). first_passed (old.taken ++ x)) (sym same) ∙ k.2.1.1)
left-full old occasion plan excuse new made h (inr k) = made-refused plan.ops h.delta k.0 k.1 h.apart h.is_delta h.limit k.2

left-made : (ops : List Op) (old : Gateway) (plan : Plan) (d : Option (List Op)) (new : Gateway) (made : List (List Op)) (failure : Failure) → ops ≢ [] → old.drive.plan ≡ Some failure → IsMade ops old plan d new made → ⊥
left-made [] old plan d new made failure some planned h = some refl
left-made (op ∷ ops) old plan None new made failure some planned h = h
left-made (op ∷ ops) old plan (Some d) new made failure some planned h = none-some failure (sym h.5 ∙ planned)

excuse-one : (occasion : Occasion) (sends one other : List Send) → IsExcuse occasion sends one → IsExcuse occasion sends other → one ≡ other
excuse-one (Datagram from bytes) sends one other h k =
    let same : h.0 ≡ k.0 = one_frame bytes h.0 k.0 h.1 k.1 h.2 k.2 in
    h.3 ∙ ap (λ frame. excuses from frame sends) same ∙ sym k.3
excuse-one Clock sends one other h k = h ∙ sym k

-- one failure was arranged, and it leaves one gateway
torn-one : (old : Gateway) (d e : List Op) (new next : Gateway) (made mades : List (List Op)) → d ≡ e → IsTorn old d new made → IsTorn old e next mades → (new ≡ next) × (made ≡ mades)
torn-one old d e new next made mades same h k =
    let failure : h.failure ≡ k.failure = same_Some h.failure k.failure (sym h.planned ∙ k.planned) in
    (h.halted ∙ (λ t. record old { refused = same t ∷ []; drive = torn (failure t) (same t) old.drive }) ∙ sym k.halted, h.none ∙ sym k.none)

left-one : (old : Gateway) (occasion : Occasion) (plan : Plan) (a b : Out) (new next : Gateway) (made mades : List (List Op)) → IsDropped old occasion plan a new made → IsDropped old occasion plan b next mades
    → (a ≡ b) × (new ≡ next) × (made ≡ mades)
left-one old occasion plan a b new next made mades h k =
    let same : h.delta ≡ k.delta = delta-one plan.ops h.delta k.delta h.is_delta k.is_delta in
    let one = torn-one old h.delta k.delta new next made mades same h.torn k.torn in
    (h.sends ∙ ap (λ (sends : List Send). only_sends sends) (excuse-one occasion plan.sends a.sends b.sends h.excused k.excused) ∙ sym k.sends, one.0, one.1)

planned-one : (old : Gateway) (occasion : Occasion) (p : Option Plan) (a b : Result Out Refusal) (new next : Gateway) (made mades : List (List Op)) → first_passed old.taken ≡ None
    → Planned old occasion p a new made → Planned old occasion p b next mades → Alike a b new next made mades
planned-one old occasion None a b new next made mades room h k = alike-still old a b (Err refusals.Exhausted) new next made mades h.0 k.0 h.1 k.1
planned-one old occasion (Some plan) a b new next made mades room (inl h) (inl k) = alike-still old a b (Err refusals.Full) new next made mades h.0 k.0 h.2 k.2
planned-one old occasion (Some plan) a b new next made mades room (inl h) (inr (inl k)) = absurd (made-full plan.ops old plan k.0.made next mades room k.2.2 k.2.1 h.1)
planned-one old occasion (Some plan) a b new next made mades room (inl h) (inr (inr k)) = absurd (left-full old occasion plan k.0 next mades k.2 h.1)
planned-one old occasion (Some plan) a b new next made mades room (inr (inl h)) (inl k) = absurd (made-full plan.ops old plan h.0.made new made room h.2.2 h.2.1 k.1)
planned-one old occasion (Some plan) a b new next made mades room (inr (inr h)) (inl k) = absurd (left-full old occasion plan h.0 new made h.2 k.1)
planned-one old occasion (Some plan) a b new next made mades room (inr (inl h)) (inr (inr k)) = absurd (left-made plan.ops old plan h.0.made new made k.2.torn.failure k.2.some k.2.torn.planned h.2.1)
planned-one old occasion (Some plan) a b new next made mades room (inr (inr h)) (inr (inl k)) = absurd (left-made plan.ops old plan k.0.made next mades h.2.torn.failure h.2.some h.2.torn.planned k.2.1)
planned-one old occasion (Some plan) a b new next made mades room (inr (inr h)) (inr (inr k)) =
    let one = left-one old occasion plan h.0 k.0 new next made mades h.2 k.2 in
    (h.1 ∙ ap (λ (out : Out). Err (refusals.Disk out)) one.0 ∙ sym k.1, one.1, one.2)
planned-one old occasion (Some plan) a b new next made mades room (inr (inl h)) (inr (inl k)) =
    let m = made-one plan.ops old plan h.0.made k.0.made new next made mades h.2.1 k.2.1 in
    let same : h.0 ≡ k.0 = h.2.0 ∙ ap (λ (d : Option (List Op)). record (only_sends plan.sends) { made = d }) m.0 ∙ sym k.2.0 in
    (h.1 ∙ ap (λ (out : Out). Ok out) same ∙ sym k.1, m.1, m.2)

ways-one : (old : Gateway) (occasion : Occasion) (now : ℕ) (a b : Result Out Refusal) (new next : Gateway) (made mades : List (List Op)) → first_passed old.taken ≡ None
    → NotRead old occasion a new made ⊎ Read old occasion now a new made → NotRead old occasion b next mades ⊎ Read old occasion now b next mades → Alike a b new next made mades
ways-one old occasion now a b new next made mades room (inl h) (inl k) =
    let same : h.0 ≡ k.0 = fault-one occasion h.0 k.0 h.1 k.1 in
    alike-still old a b (Err (refusals.Frame k.0)) new next made mades (h.2 ∙ ap (λ (fault : FrameFault). Err (refusals.Frame fault)) same) k.2 h.3 k.3
ways-one old occasion now a b new next made mades room (inl h) (inr k) = absurd (fault-plan old occasion now h.0 k.0 h.1 k.1)
ways-one old occasion now a b new next made mades room (inr h) (inl k) = absurd (fault-plan old occasion now k.0 h.0 k.1 h.1)
ways-one old occasion now a b new next made mades room (inr h) (inr k) =
    let same : h.0 ≡ k.0 = plan-one old occasion now h.0 k.0 h.1 k.1 in
    planned-one old occasion k.0 a b new next made mades room (subst (λ (p : Option Plan). Planned old occasion p a new made) same h.2) k.2

-- a gateway is halted, or it goes on
goes-one : (old : Gateway) (occasion : Occasion) (now : ℕ) (a b : Result Out Refusal) (new next : Gateway) (made mades : List (List Op)) → first_passed old.taken ≡ None
    → Halts old a new made ⊎ Goes old occasion now a new made → Halts old b next mades ⊎ Goes old occasion now b next mades → Alike a b new next made mades
goes-one old occasion now a b new next made mades room (inl h) (inl k) = alike-still old a b (Err refusals.Halted) new next made mades h.1 k.1 h.2 k.2
goes-one old occasion now a b new next made mades room (inl h) (inr k) = absurd (true≢false (sym h.0 ∙ k.0))
goes-one old occasion now a b new next made mades room (inr h) (inl k) = absurd (true≢false (sym k.0 ∙ h.0))
goes-one old occasion now a b new next made mades room (inr h) (inr k) = ways-one old occasion now a b new next made mades room h.1 k.1

pub own-one : (old : Gateway) (occasion : Occasion) (now : ℕ) (a b : Result Out Refusal) (new next : Gateway) (made mades : List (List Op)) → first_passed old.taken ≡ None → IsAgreed a → IsAgreed b
    → OwnStep old occasion now a new made → OwnStep old occasion now b next mades → Alike a b new next made mades
own-one old occasion now a b new next made mades room f g h k =
    goes-one old occasion now a b new next made mades room (own-way old occasion now a new made f h) (own-way old occasion now b next mades g k)

-- ---- a delta

abbrev Refuses : Gateway → List Op → Result Out Refusal → Gateway → List (List Op) → Type 0
Refuses old delta answer new made = (answer ≡ Err refusals.Full) × IsRefused old.taken delta refusals.Full × NothingHappens old new made

abbrev Takes : Gateway → List Op → Result Out Refusal → Gateway → List (List Op) → Type 0
Takes old delta answer new made = (out : Out) × (answer ≡ Ok out) × TakeStep old delta (Ok out) new made

abbrev Loses : Gateway → List Op → Result Out Refusal → Gateway → List (List Op) → Type 0
Loses old delta answer new made = (excuse : Out) × (answer ≡ Err (refusals.Disk excuse)) × TakeStep old delta (Err (refusals.Disk excuse)) new made

abbrev TakesOn : Gateway → List Op → Result Out Refusal → Gateway → List (List Op) → Type 0
TakesOn old delta answer new made = (old.drive.halted ≡ false) × (Refuses old delta answer new made ⊎ (Takes old delta answer new made ⊎ Loses old delta answer new made))

take-way : (old : Gateway) (delta : List Op) (answer : Result Out Refusal) (new : Gateway) (made : List (List Op)) → IsAgreed answer → TakeStep old delta answer new made
    → Halts old answer new made ⊎ TakesOn old delta answer new made
take-way old delta (Ok out) new made agreed h = inr (h.5, inr (inl (out, refl, h)))
take-way old delta (Err refusals.Full) new made agreed h = inr (h.2, inl (refl, h.0, h.1))
take-way old delta (Err (refusals.Conflict client)) new made agreed h = absurd (agreed client refl)
take-way old delta (Err refusals.Halted) new made agreed h = inl (h.0, refl, h.1)
take-way old delta (Err (refusals.Disk excuse)) new made agreed h = inr (h.3, inr (inr (excuse, refl, h)))
take-way old delta (Err (refusals.Frame fault)) new made agreed h = absurd h
take-way old delta (Err refusals.Exhausted) new made agreed h = absurd h
take-way old delta (Err (refusals.Journal fault)) new made agreed h = absurd h
take-way old delta (Err refusals.Memory) new made agreed h = absurd h

-- what goes out meets no failure
out-torn : (old : Gateway) (delta : List Op) (failure : Failure) → GoesOut delta old.drive → delta ≢ [] → old.drive.plan ≡ Some failure → ⊥
out-torn old [] failure out some planned = some refl
out-torn old (op ∷ ops) failure out some planned = none-some failure (sym out ∙ planned)

on-one : (old : Gateway) (delta : List Op) (a b : Result Out Refusal) (new next : Gateway) (made mades : List (List Op))
    → Refuses old delta a new made ⊎ (Takes old delta a new made ⊎ Loses old delta a new made) → Refuses old delta b next mades ⊎ (Takes old delta b next mades ⊎ Loses old delta b next mades) → Alike a b new next made mades
on-one old delta a b new next made mades (inl h) (inl k) = alike-still old a b (Err refusals.Full) new next made mades h.0 k.0 h.2 k.2
on-one old delta a b new next made mades (inl h) (inr (inl k)) = absurd (none-some h.1.1.0 (sym k.2.1.room ∙ h.1.1.1))
on-one old delta a b new next made mades (inl h) (inr (inr k)) = absurd (none-some h.1.1.0 (sym k.2.2.takable.room ∙ h.1.1.1))
on-one old delta a b new next made mades (inr (inl h)) (inl k) = absurd (none-some k.1.1.0 (sym h.2.1.room ∙ k.1.1.1))
on-one old delta a b new next made mades (inr (inr h)) (inl k) = absurd (none-some k.1.1.0 (sym h.2.2.takable.room ∙ k.1.1.1))
on-one old delta a b new next made mades (inr (inl h)) (inr (inl k)) =
    (h.1 ∙ ap (λ (out : Out). Ok out) (h.2.0 ∙ sym k.2.0) ∙ sym k.1, h.2.3 ∙ sym k.2.3, h.2.2 ∙ sym k.2.2)
on-one old delta a b new next made mades (inr (inl h)) (inr (inr k)) = absurd (out-torn old delta k.2.2.failure h.2.4 k.2.1 k.2.2.planned)
on-one old delta a b new next made mades (inr (inr h)) (inr (inl k)) = absurd (out-torn old delta h.2.2.failure k.2.4 h.2.1 h.2.2.planned)
on-one old delta a b new next made mades (inr (inr h)) (inr (inr k)) =
    let one = torn-one old delta delta new next made mades refl h.2.2 k.2.2 in
    (h.1 ∙ ap (λ (out : Out). Err (refusals.Disk out)) (h.2.0 ∙ sym k.2.0) ∙ sym k.1, one.0, one.1)

takes-one : (old : Gateway) (delta : List Op) (a b : Result Out Refusal) (new next : Gateway) (made mades : List (List Op))
    → Halts old a new made ⊎ TakesOn old delta a new made → Halts old b next mades ⊎ TakesOn old delta b next mades → Alike a b new next made mades
takes-one old delta a b new next made mades (inl h) (inl k) = alike-still old a b (Err refusals.Halted) new next made mades h.1 k.1 h.2 k.2
takes-one old delta a b new next made mades (inl h) (inr k) = absurd (true≢false (sym h.0 ∙ k.0))
takes-one old delta a b new next made mades (inr h) (inl k) = absurd (true≢false (sym k.0 ∙ h.0))
takes-one old delta a b new next made mades (inr h) (inr k) = on-one old delta a b new next made mades h.1 k.1

pub take-one : (old : Gateway) (delta : List Op) (a b : Result Out Refusal) (new next : Gateway) (made mades : List (List Op)) → IsAgreed a → IsAgreed b
    → TakeStep old delta a new made → TakeStep old delta b next mades → Alike a b new next made mades
take-one old delta a b new next made mades f g h k = takes-one old delta a b new next made mades (take-way old delta a new made f h) (take-way old delta b next mades g k)

-- ---- a compaction

abbrev IsLast : Gateway → Result Out Refusal → Gateway → Type 0
IsLast old answer new = (generation old.config.gateway old.drive ≡ last_generation) × (answer ≡ Err (refusals.Journal Foreign)) × (new ≡ old)

abbrev IsAnew : Gateway → Result Out Refusal → Gateway → Type 0
IsAnew old answer new = (out : Out) × (answer ≡ Ok out) × CompactStep old (Ok out) new

abbrev IsTornAnew : Gateway → Result Out Refusal → Gateway → Type 0
IsTornAnew old answer new = (excuse : Out) × (answer ≡ Err (refusals.Disk excuse)) × CompactStep old (Err (refusals.Disk excuse)) new

abbrev CompactsOn : Gateway → Result Out Refusal → Gateway → Type 0
CompactsOn old answer new = (old.drive.halted ≡ false) × (IsLast old answer new ⊎ (IsAnew old answer new ⊎ IsTornAnew old answer new))

abbrev HaltsStill : Gateway → Result Out Refusal → Gateway → Type 0
HaltsStill old answer new = (old.drive.halted ≡ true) × (answer ≡ Err refusals.Halted) × (new ≡ old)

compact-way : (old : Gateway) (answer : Result Out Refusal) (new : Gateway) → CompactStep old answer new → HaltsStill old answer new ⊎ CompactsOn old answer new
compact-way old (Ok out) new h = inr (h.4, inr (inl (out, refl, h)))
compact-way old (Err (refusals.Journal fault)) new h = inr (h.3, inl (h.0, ap (λ (f : JournalFault). Err (refusals.Journal f)) h.1, h.2))
compact-way old (Err (refusals.Frame fault)) new h = absurd h
compact-way old (Err refusals.Halted) new h = inl (h.0, refl, h.1)
compact-way old (Err (refusals.Disk excuse)) new h = inr (h.3, inr (inr (excuse, refl, h)))
compact-way old (Err (refusals.Conflict client)) new h = absurd h
compact-way old (Err refusals.Full) new h = absurd h
compact-way old (Err refusals.Exhausted) new h = absurd h
compact-way old (Err refusals.Memory) new h = absurd h

anew-one : (old : Gateway) (a b : Result Out Refusal) (new next : Gateway) → IsLast old a new ⊎ (IsAnew old a new ⊎ IsTornAnew old a new) → IsLast old b next ⊎ (IsAnew old b next ⊎ IsTornAnew old b next) → (a ≡ b) × (new ≡ next)
anew-one old a b new next (inl h) (inl k) = (h.1 ∙ sym k.1, h.2 ∙ sym k.2)
anew-one old a b new next (inl h) (inr (inl k)) = absurd (k.2.0 h.0)
anew-one old a b new next (inl h) (inr (inr k)) = absurd (k.2.0 h.0)
anew-one old a b new next (inr (inl h)) (inl k) = absurd (h.2.0 k.0)
anew-one old a b new next (inr (inr h)) (inl k) = absurd (h.2.0 k.0)
anew-one old a b new next (inr (inl h)) (inr (inl k)) =
    let base : h.2.2.0 ≡ k.2.2.0 = held-one old.taken h.2.2.0 k.2.2.0 h.2.2.1 k.2.2.1 in
    let out : h.0 ≡ k.0 = h.2.1 ∙ sym k.2.1 in
    (h.1 ∙ ap (λ (o : Out). Ok o) out ∙ sym k.1, h.2.2.2 ∙ ap (λ (ds : List (List Op)). record old { drive = compacted old.config.gateway ds old.drive }) base ∙ sym k.2.2.2)
anew-one old a b new next (inr (inl h)) (inr (inr k)) = absurd (none-some k.2.2.1 (sym h.2.3 ∙ k.2.2.3))
anew-one old a b new next (inr (inr h)) (inr (inl k)) = absurd (none-some h.2.2.1 (sym k.2.3 ∙ h.2.2.3))
anew-one old a b new next (inr (inr h)) (inr (inr k)) =
    let base : h.2.2.0 ≡ k.2.2.0 = held-one old.taken h.2.2.0 k.2.2.0 h.2.2.2 k.2.2.2 in
    let failure : h.2.2.1 ≡ k.2.2.1 = same_Some h.2.2.1 k.2.2.1 (sym h.2.2.3 ∙ k.2.2.3) in
    let out : h.0 ≡ k.0 = h.2.1 ∙ sym k.2.1 in (
      h.1 ∙ ap (λ (o : Out). Err (refusals.Disk o)) out ∙ sym k.1,
      h.2.2.4 ∙ (λ t. record old { drive = torn_base (failure t) old.config.gateway (base t) old.drive }) ∙ sym k.2.2.4,
    )

ways-compact : (old : Gateway) (a b : Result Out Refusal) (new next : Gateway) → HaltsStill old a new ⊎ CompactsOn old a new → HaltsStill old b next ⊎ CompactsOn old b next → (a ≡ b) × (new ≡ next)
ways-compact old a b new next (inl h) (inl k) = (h.1 ∙ sym k.1, h.2 ∙ sym k.2)
ways-compact old a b new next (inl h) (inr k) = absurd (true≢false (sym h.0 ∙ k.0))
ways-compact old a b new next (inr h) (inl k) = absurd (true≢false (sym k.0 ∙ h.0))
ways-compact old a b new next (inr h) (inr k) = anew-one old a b new next h.1 k.1

pub compact-one : (old : Gateway) (a b : Result Out Refusal) (new next : Gateway) → CompactStep old a new → CompactStep old b next → (a ≡ b) × (new ≡ next)
compact-one old a b new next h k = ways-compact old a b new next (compact-way old a new h) (compact-way old b next k)

-- ---- an answer to a digest

abbrev TooLong : Gateway → Result Out Refusal → List (List Op) → Type 0
TooLong asker answer made = (answer ≡ Err refusals.Full) × (¬ (IsDigestWithinLimit (digest asker.taken))) × (made ≡ [])

abbrev Answered : Gateway → Gateway → Result Out Refusal → List (List Op) → Type 0
Answered asker peer answer made = (out : Out) × (answer ≡ Ok out) × AnswerStep asker peer (Ok out) made

asked-way : (asker peer : Gateway) (answer : Result Out Refusal) (made : List (List Op)) → AnswerStep asker peer answer made → TooLong asker answer made ⊎ Answered asker peer answer made
asked-way asker peer (Ok out) made h = inr (out, refl, h)
asked-way asker peer (Err refusals.Full) made h = inl (refl, h.0, h.1)
asked-way asker peer (Err (refusals.Conflict client)) made h = absurd h
asked-way asker peer (Err (refusals.Frame fault)) made h = absurd h
asked-way asker peer (Err refusals.Exhausted) made h = absurd h
asked-way asker peer (Err refusals.Halted) made h = absurd h
asked-way asker peer (Err (refusals.Disk excuse)) made h = absurd h
asked-way asker peer (Err (refusals.Journal fault)) made h = absurd h
asked-way asker peer (Err refusals.Memory) made h = absurd h

ways-asked : (asker peer : Gateway) (a b : Result Out Refusal) (made mades : List (List Op))
    → TooLong asker a made ⊎ Answered asker peer a made → TooLong asker b mades ⊎ Answered asker peer b mades → (a ≡ b) × (made ≡ mades)
ways-asked asker peer a b made mades (inl h) (inl k) = (h.0 ∙ sym k.0, h.2 ∙ sym k.2)
ways-asked asker peer a b made mades (inl h) (inr k) = absurd (h.1 k.2.0)
ways-asked asker peer a b made mades (inr h) (inl k) = absurd (k.1 h.2.0)
ways-asked asker peer a b made mades (inr h) (inr k) =
    let same : made ≡ mades = answer-one (digest asker.taken) peer.taken made mades h.2.1 k.2.1 in
    let out : h.0 ≡ k.0 = h.2.3 ∙ ap (λ (ds : List (List Op)). record (only_sends []) { answer = ds }) same ∙ sym k.2.3 in
    (h.1 ∙ ap (λ (o : Out). Ok o) out ∙ sym k.1, same)

pub asked-one : (asker peer : Gateway) (a b : Result Out Refusal) (made mades : List (List Op)) → AnswerStep asker peer a made → AnswerStep asker peer b mades → (a ≡ b) × (made ≡ mades)
asked-one asker peer a b made mades h k = ways-asked asker peer a b made mades (asked-way asker peer a made h) (asked-way asker peer b mades k)
