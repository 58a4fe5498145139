-- What comes into a field with an event was there before, or a step of the event has it in its plan. Of a property of operations: that a message is
-- acknowledged, or that an id is brought.
use Rattle.std.proofs.Common.{◌≡◌, ℕ, zero, suc, ◌-◌, Bool, ◌⊎◌, List, [], ◌∷◌, ◌++◌, map, set, length, take, slice_get, Option, Some, None, option_map, Result, Ok, Err, refl, sym, ap, ◌∙◌, subst, append_assoc, append-nil, inl, inr}
use Rattle.std.specs.declared.sync.Arc.{Arc}
use Rattle.std.specs.declared.alloc.Global.{Global}
use Rattle.std.specs.List.{AllByRecursion}
use Rattle.std.proofs.lemmas.List.Concat.{flat_map-append}
use Rattle.std.proofs.lemmas.Option.{none-some, same_Some, slice_get-map}
use Rattle.rep_op.specs.declared.op.Op.{Op}
use Rattle.rep_ops.specs.Making.{IsDeltaOf}
use Rattle.rep_ops.specs.Splitting.{all_of}
use Rattle.sn_local.specs.declared.config.Addr.{Addr}
use Rattle.sn_local.specs.declared.config.Config.{Config}
use Rattle.sn_local.specs.declared.config.Send.{Send}
use Rattle.sn_plan.specs.declared.plan.Plan.{Plan}
use Rattle.gw_answer.specs.declared.out.Out.{Out}
use Rattle.gw_answer.specs.declared.fault.NodeFault.{NodeFault}
use Rattle.gw_answer.specs.declared.refusal.Refusal.{Refusal}
use Rattle.gw_answer.specs.declared.refusal.Refusal.TheVariants as refusals
use Rattle.gw_answer.specs.declared.step.Step.{Step}
use Rattle.gw_answer.specs.declared.step.Step.TheVariants as steps
use Rattle.gw_answer.specs.Answers.{said}
use Rattle.gw_event.specs.Occasions.{Occasion, Datagram, Clock}
use Rattle.gw_event.specs.Gateways.{Gateway, new_gateway, with_refused}
use Rattle.gw_event.specs.Drives.{left_by, more_records}
use Rattle.gw_event.specs.Event.{NothingHappens, IsTorn, IsMade, IsPlan, OwnStep, TakeStep, CompactStep, StepOf}
use Rattle.gw_event.specs.Together.{InTurnBy, halted_all, StopShort, Together}
use Rattle.gw_event.proofs.Turns.{torn_refused}
use Rattle.gw_node.proofs.Refused.{refused_is}
use Rattle.gw_world.specs.declared.event.Call.{Call}
use Rattle.gw_world.specs.declared.event.Call.TheVariants as calls
use Rattle.gw_world.specs.declared.event.Event.{Event}
use Rattle.gw_world.specs.declared.event.Event.TheVariants.{Frame, Tick, Take, Together as AtOnce, Answer as Asks, WriteFails, Compact, Restart, Show}
use Rattle.gw_world.specs.declared.event.Answer.{Answer}
use Rattle.gw_world.specs.declared.event.Answer.TheVariants.{Node, Row, Views, Records, Nothing}
use Rattle.gw_world.specs.Field.{Field, new_field, IsAt, IsStepOf, AreStepsOf, AreFed, field_changed, failing_gateway, After}
use Rattle.gw_world.specs.Steps.{AnswerStep, restarted}
use Rattle.gw_world.specs.Whole.{listed}
use Rattle.gw_world.proofs.Answering.{Answered, answered}
use Rattle.gw_world.proofs.Each.{set-cases}
use Rattle.gw_world.proofs.InRows.{Answers, cut-at, turn-fed}
use Rattle.rep_model.proofs.Joins.{all-left}
use Rattle.promise_laws.specs.Stepping.{IsOccasion, IsCalled, EndsWith, HaveFailed, IsAmong, IsStep}
use Rattle.promise_laws.proofs.Leading.{WholeStands, whole-first, whole-next, whole-among, ShortStands, short-first, short-next, short-among, have-failed}

-- a gateway at the start has taken and refused nothing
pub new-place : (configs : List Config) (j : ℕ) (gateway : Gateway) → slice_get (map new_gateway configs) j ≡ Some gateway → (gateway.taken ≡ []) × (gateway.refused ≡ [])
new-place configs j gateway e = found (slice_get configs j) (sym (slice_get-map new_gateway configs j) ∙ e)
  where
    found : (o : Option Config) → option_map new_gateway o ≡ Some gateway → (gateway.taken ≡ []) × (gateway.refused ≡ [])
    found None e = absurd (none-some gateway e)
    found (Some config) e =
        let same = same_Some (new_gateway config) gateway e in
        (ap (λ (g : Gateway). g.taken) (sym same), ap (λ (g : Gateway). g.refused) (sym same))

module _ (P : List Op → Type 0) (none : P [] → ⊥) (both : (A B : List Op) → P (A ++ B) → P A ⊎ P B) (left : (A B : List Op) → P A → P (A ++ B)) (right : (A B : List Op) → P B → P (A ++ B))
    (of-delta : (ops delta : List Op) → IsDeltaOf ops delta → P delta → P ops) (of-answered : (S : List Op) (made : List (List Op)) → Answered S made → P (all_of made) → P S)
    (New : Gateway → Occasion → ℕ → Plan → Type 0) (first : (gateway : Gateway) (occasion : Occasion) (now : ℕ) (plan : Plan) → IsPlan gateway occasion now (Some plan) → P plan.ops → P gateway.taken ⊎ New gateway occasion now plan) where
  -- the field has it: a gateway has taken it, or refused it when its disk failed, or the deltas of the list have it
  abbrev pub IsIn : Field → Type 0
  IsIn field = ((j : ℕ) × (gateway : Gateway) × (slice_get field.gateways j ≡ Some gateway) × (P gateway.taken ⊎ P (all_of gateway.refused))) ⊎ P (listed field)

  -- the event is a step whose plan has it, and the gateway had not
  pub record Comes (field : Field) (event : Event) (answer : Answer) : Type 0 where
    pub gateway : Gateway
    pub occasion : Occasion
    pub moment : ℕ
    pub plan : Plan
    pub comes : IsStep field event answer gateway occasion moment plan.sends
    pub planned : IsPlan gateway occasion moment (Some plan)
    pub new : New gateway occasion moment plan

  -- ---- lists of deltas

  joined : (ds es : List (List Op)) → P (all_of (ds ++ es)) → P (all_of ds) ⊎ P (all_of es)
  joined ds es e = both (all_of ds) (all_of es) (subst P (flat_map-append (λ (delta : List Op). delta) ds es) e)

  one-delta : (delta : List Op) → P (all_of (delta ∷ [])) → P delta
  one-delta delta e = elim (both delta [] e) [ inl own ↦ own | inr empty ↦ absurd (none empty) ]

  none-made : (made : List (List Op)) → made ≡ [] → P (all_of made) → ⊥
  none-made made is e = none (subst (λ (ds : List (List Op)). P (all_of ds)) is e)

  pub in-list-at : (ds : List (List Op)) (k : ℕ) (delta : List Op) → slice_get ds k ≡ Some delta → P delta → P (all_of ds)
  in-list-at [] k delta there e = absurd (none-some delta there)
  in-list-at (d ∷ ds) zero delta there e = left d (all_of ds) (subst P (sym (same_Some d delta there)) e)
  in-list-at (d ∷ ds) (suc k) delta there e = right d (all_of ds) (in-list-at ds k delta there e)

  pub in-front : (n : ℕ) (ds : List (List Op)) → P (all_of (take n ds)) → P (all_of ds)
  in-front zero ds e = absurd (none e)
  in-front (suc n) [] e = absurd (none e)
  in-front (suc n) (d ∷ ds) e = elim (both d (all_of (take n ds)) e) [ inl own ↦ left d (all_of ds) own | inr rest ↦ right d (all_of ds) (in-front n ds rest) ]

  module _ (Q : Type 0) where
    -- why a gateway, and what was made, have it
    record Explained (next : Gateway) (made : List (List Op)) : Type 0 where
      by_taken : P next.taken → Q
      by_refused : P (all_of next.refused) → Q
      by_made : P (all_of made) → Q

    -- ---- a gateway became another

    module _ (gateway : Gateway) (before-taken : P gateway.taken → Q) (before-refused : P (all_of gateway.refused) → Q) where
      -- nothing was taken or refused
      unchanged : (next : Gateway) (made : List (List Op)) → next.taken ≡ gateway.taken → next.refused ≡ gateway.refused → made ≡ [] → Explained next made
      unchanged next made taken refused is = record {
        by_taken = λ e. before-taken (subst P taken e);
        by_refused = λ e. before-refused (subst (λ (R : List (List Op)). P (all_of R)) refused e);
        by_made = λ e. absurd (none-made made is e);
      }

      nothing : (next : Gateway) (made : List (List Op)) → NothingHappens gateway next made → Explained next made
      nothing next made u = unchanged next made (ap (λ (g : Gateway). g.taken) u.same) (ap (λ (g : Gateway). g.refused) u.same) u.none

      grown : (delta : List Op) → (P delta → Q) → P (gateway.taken ++ delta) → Q
      grown delta by e = elim (both gateway.taken delta e) [ inl before ↦ before-taken before | inr new ↦ by new ]

      torn-explained : (delta : List Op) (next : Gateway) (made : List (List Op)) → IsTorn gateway delta next made → (P delta → Q) → Explained next made
      torn-explained delta next made t by = record {
        by_taken = λ e. before-taken (subst P (ap (λ (g : Gateway). g.taken) t.halted) e);
        by_refused = λ e. by (one-delta delta (subst (λ (R : List (List Op)). P (all_of R)) (ap (λ (g : Gateway). g.refused) t.halted) e));
        by_made = λ e. absurd (none-made made t.none e);
      }

      made-explained : (plan : Plan) (ops : List Op) (told : Option (List Op)) (next : Gateway) (made : List (List Op)) → IsMade ops gateway plan told next made → (P ops → Q) → Explained next made
      made-explained plan [] None next made h by = unchanged next made (ap (λ (g : Gateway). g.taken) h.1) (ap (λ (g : Gateway). g.refused) h.1) h.0
      made-explained plan [] (Some delta) next made h by = absurd h
      made-explained plan (op ∷ ops) None next made h by = absurd h
      made-explained plan (op ∷ ops) (Some delta) next made h by =
          let new : P delta → Q = λ e. by (of-delta (op ∷ ops) delta h.0 e) in record {
            by_taken = λ e. grown delta new (subst P (ap (λ (g : Gateway). g.taken) h.4) e);
            by_refused = λ e. before-refused (subst (λ (R : List (List Op)). P (all_of R)) (ap (λ (g : Gateway). g.refused) h.4) e);
            by_made = λ e. new (one-delta delta (subst (λ (ds : List (List Op)). P (all_of ds)) h.3 e));
          }

      had-or : (occasion : Occasion) (now : ℕ) (plan : Plan) → IsPlan gateway occasion now (Some plan) → (New gateway occasion now plan → Q) → P plan.ops → Q
      had-or occasion now plan planned by e = elim (first gateway occasion now plan planned e) [ inl before ↦ before-taken before | inr new ↦ by new ]

      -- a datagram or a tick
      own-explained : (occasion : Occasion) (now : ℕ) (answer : Result Out Refusal) (next : Gateway) (made : List (List Op)) → OwnStep gateway occasion now answer next made
          → ((plan : Plan) → IsPlan gateway occasion now (Some plan) → New gateway occasion now plan → EndsWith answer occasion plan.sends → Q) → Explained next made
      own-explained occasion now (Ok out) next made h by =
          made-explained h.0 h.0.ops out.made next made h.2.1 (had-or occasion now h.0 h.1 (λ new. by h.0 h.1 new (ap (λ (o : Out). o.sends) h.2.0)))
      own-explained occasion now (Err (refusals.Disk excuse)) next made h by =
          torn-explained h.2.delta next made h.2.torn (λ e. had-or occasion now h.0 h.1 (λ new. by h.0 h.1 new h.2.excused) (of-delta h.0.ops h.2.delta h.2.is_delta e))
      own-explained occasion now (Err (refusals.Frame fault)) next made h by = nothing next made h.1
      own-explained occasion now (Err refusals.Exhausted) next made h by = nothing next made h.1
      own-explained occasion now (Err (refusals.Conflict client)) next made h by = nothing next made h.3
      own-explained occasion now (Err refusals.Full) next made h by = nothing next made h.3
      own-explained occasion now (Err refusals.Halted) next made h by = nothing next made h.1
      own-explained occasion now (Err (refusals.Journal fault)) next made h by = absurd h
      own-explained occasion now (Err refusals.Memory) next made h by = absurd h

      -- a delta of the list
      take-explained : (delta : List Op) → (P delta → Q) → (answer : Result Out Refusal) (next : Gateway) (made : List (List Op)) → TakeStep gateway delta answer next made → Explained next made
      take-explained delta known (Ok out) next made h = record {
        by_taken = λ e. grown delta known (subst P (ap (λ (g : Gateway). g.taken) h.3) e);
        by_refused = λ e. before-refused (subst (λ (R : List (List Op)). P (all_of R)) (ap (λ (g : Gateway). g.refused) h.3) e);
        by_made = λ e. absurd (none-made made h.2 e);
      }
      take-explained delta known (Err (refusals.Disk excuse)) next made h = torn-explained delta next made h.2 known
      take-explained delta known (Err (refusals.Conflict client)) next made h = nothing next made h.1
      take-explained delta known (Err refusals.Full) next made h = nothing next made h.1
      take-explained delta known (Err refusals.Halted) next made h = nothing next made h.1
      take-explained delta known (Err (refusals.Frame fault)) next made h = absurd h
      take-explained delta known (Err refusals.Exhausted) next made h = absurd h
      take-explained delta known (Err (refusals.Journal fault)) next made h = absurd h
      take-explained delta known (Err refusals.Memory) next made h = absurd h

      compact-explained : (answer : Result Out Refusal) (next : Gateway) → CompactStep gateway answer next → Explained next []
      compact-explained (Ok out) next h = unchanged next [] (ap (λ (g : Gateway). g.taken) h.2.2) (ap (λ (g : Gateway). g.refused) h.2.2) refl
      compact-explained (Err (refusals.Journal fault)) next h = nothing next [] (record { same = h.2; none = refl })
      compact-explained (Err refusals.Halted) next h = nothing next [] (record { same = h.1; none = refl })
      compact-explained (Err (refusals.Disk excuse)) next h = unchanged next [] (ap (λ (g : Gateway). g.taken) h.2.4) (ap (λ (g : Gateway). g.refused) h.2.4) refl
      compact-explained (Err (refusals.Frame fault)) next h = absurd h
      compact-explained (Err (refusals.Conflict client)) next h = absurd h
      compact-explained (Err refusals.Full) next h = absurd h
      compact-explained (Err refusals.Exhausted) next h = absurd h
      compact-explained (Err refusals.Memory) next h = absurd h

      -- some first ones of what it refused come back
      back-in : (n : ℕ) → P (with_refused n gateway.taken gateway.refused) → Q
      back-in n e =
          grown (all_of (take n gateway.refused)) (λ own. before-refused (in-front n gateway.refused own)) (subst P (refused_is n gateway.taken gateway.refused) e)

      restart-explained : (kept : ℕ) → Explained (restarted kept gateway) []
      restart-explained kept = record {
        by_taken = back-in (more_records gateway.config.gateway gateway.drive (left_by kept gateway.drive));
        by_refused = λ e. absurd (none e);
        by_made = λ e. absurd (none e);
      }

      failing-explained : (bytes : ℕ) (sync : Bool) → Explained (failing_gateway bytes sync gateway) []
      failing-explained bytes sync = unchanged (failing_gateway bytes sync gateway) [] refl refl refl

    -- ---- calls of a row, one after the other

    module _ (old : Field) (known : P (listed old) → Q) where
      call-explained : (gateway : Gateway) → (P gateway.taken → Q) → (P (all_of gateway.refused) → Q) → (call : Call) (step : Step) (answer : Result Out Refusal) (next : Gateway) (made : List (List Op))
          → IsStepOf old call step → StepOf gateway step answer next made
          → ((occasion : Occasion) (now : ℕ) (plan : Plan) → IsCalled call occasion now → IsPlan gateway occasion now (Some plan) → New gateway occasion now plan → EndsWith answer occasion plan.sends → Q)
          → Explained next made
      call-explained gateway taken refused (calls.Frame from bytes now) step answer next made is h by =
          own-explained gateway taken refused (Datagram from bytes) now answer next made (subst (λ (s : Step). StepOf gateway s answer next made) is h)
          (λ plan planned new ends. by (Datagram from bytes) now plan (refl, refl) planned new ends)
      call-explained gateway taken refused (calls.Tick now) step answer next made is h by =
          own-explained gateway taken refused Clock now answer next made (subst (λ (s : Step). StepOf gateway s answer next made) is h)
          (λ plan planned new ends. by Clock now plan (refl, refl) planned new ends)
      call-explained gateway taken refused (calls.Take delta) step answer next made is h by =
          take-explained gateway taken refused is.0 (λ own. known (in-list-at old.deltas (delta - 1) is.0 is.1.1 own)) answer next made (subst (λ (s : Step). StepOf gateway s answer next made) is.2 h)

      -- where the calls lead that are still to come, from what each of them explains
      row-explained : (W : Gateway → List Call → Answers → Type 0)
          → ((g mid : Gateway) (call : Call) (rest : List Call) (step : Step) (answer : Result Out Refusal) (answers : Answers) (made : List (List Op)) → W g (call ∷ rest) (answer ∷ answers) → IsStepOf old call step → StepOf g step answer mid made → W mid rest answers)
          → ((g : Gateway) (call : Call) (rest : List Call) (answer : Result Out Refusal) (answers : Answers) → W g (call ∷ rest) (answer ∷ answers)
          → (occasion : Occasion) (now : ℕ) (plan : Plan) → IsCalled call occasion now → IsPlan g occasion now (Some plan) → New g occasion now plan → EndsWith answer occasion plan.sends → Q)
          → (g end : Gateway) (called : List Call) (given : List Step) (answers : Answers) (made : List (List Op)) → W g called answers → AreStepsOf old called given → InTurnBy StepOf g given answers end made
          → (P g.taken → Q) → (P (all_of g.refused) → Q) → Explained end made
      row-explained W goes by g end [] [] [] made w is h taken refused = nothing g taken refused end made h
      row-explained W goes by g end (call ∷ called) (step ∷ given) (answer ∷ answers) made w is h taken refused =
          let one = call-explained g taken refused call step answer h.0 h.1 is.0 h.3 (by g call called answer answers w) in
          let rest = row-explained W goes by h.0 end called given answers h.2 (goes g h.0 call called step answer answers h.1 w is.0 h.3) is.1 h.4 one.by_taken one.by_refused in record {
            by_taken = rest.by_taken;
            by_refused = rest.by_refused;
            by_made = λ e. elim (joined h.1 h.2 (subst (λ (ds : List (List Op)). P (all_of ds)) h.5 e)) [ inl first ↦ one.by_made first | inr more ↦ rest.by_made more ];
          }
      row-explained W goes by g end [] [] (answer ∷ answers) made w is h taken refused = absurd h
      row-explained W goes by g end [] (step ∷ given) answers made w is h taken refused = absurd is
      row-explained W goes by g end (call ∷ called) [] answers made w is h taken refused = absurd is
      row-explained W goes by g end (call ∷ called) (step ∷ given) [] made w is h taken refused = absurd h

    -- ---- the field

    module _ (old : Field) (known : IsIn old → Q) where
      in-place : (i : ℕ) (next : Gateway) (made : List (List Op)) → Explained next made
          → ((j : ℕ) × (gateway : Gateway) × (slice_get (set old.gateways i next) j ≡ Some gateway) × (P gateway.taken ⊎ P (all_of gateway.refused))) → Q
      in-place i next made x (j, gateway, there, has) =
          elim (set-cases i j old.gateways next gateway there) [
            | inl own ↦ elim (subst (λ (g : Gateway). P g.taken ⊎ P (all_of g.refused)) own has) [ inl taken ↦ x.by_taken taken | inr refused ↦ x.by_refused refused ]
            | inr before ↦ known (inl (j, gateway, before, has))
          ]

      in-list : (made : List (List Op)) → (P (all_of made) → Q) → P (all_of (old.deltas ++ made)) → Q
      in-list made by e = elim (joined old.deltas made e) [ inl before ↦ known (inr before) | inr new ↦ by new ]

      in-changed : (i : ℕ) (next : Gateway) (made : List (List Op)) → Explained next made → IsIn (field_changed old i next made) → Q
      in-changed i next made x (inl at) = in-place i next made x at
      in-changed i next made x (inr there) = in-list made x.by_made there

      here-taken : (i : ℕ) (gateway : Gateway) → slice_get old.gateways i ≡ Some gateway → P gateway.taken → Q
      here-taken i gateway here e = known (inl (i, gateway, here, inl e))

      here-refused : (i : ℕ) (gateway : Gateway) → slice_get old.gateways i ≡ Some gateway → P (all_of gateway.refused) → Q
      here-refused i gateway here e = known (inl (i, gateway, here, inr e))

      -- a peer answers a digest with what stands in its set
      in-asked : (j : ℕ) (asker peer : Gateway) (answer : Result Out Refusal) (made : List (List Op)) → slice_get old.gateways j ≡ Some peer → AnswerStep asker peer answer made
          → IsIn (record old { deltas = old.deltas ++ made }) → Q
      in-asked j asker peer answer made here h (inl at) = known (inl at)
      in-asked j asker peer answer made here h (inr there) =
          in-list made (λ e. known (inl (j, peer, here, inl (of-answered peer.taken made (answered asker peer answer made h) e)))) there

  -- ---- one event

  abbrev Before : Field → Event → Answer → Type 0
  Before old event answer = IsIn old ⊎ Comes old event answer

  -- a datagram or a tick by itself
  of-own : (old : Field) (event : Event) (number i : ℕ) (gateway : Gateway) → IsAt old number i gateway → (occasion : Occasion) (now : ℕ) → IsOccasion event number occasion now → (answer : Result (Arc Out Global) NodeFault) (plan : Plan)
      → IsPlan gateway occasion now (Some plan) → New gateway occasion now plan → EndsWith (said answer) occasion plan.sends → Before old event (Node answer)
  of-own old event number i gateway at occasion now is answer plan planned new ends =
      inr (record { gateway = gateway; occasion = occasion; moment = now; plan = plan; comes = inl (number, i, at, is, ends); planned = planned; new = new })

  own-in : (old : Field) (event : Event) (number i : ℕ) (gateway next : Gateway) (made : List (List Op)) → IsAt old number i gateway → (occasion : Occasion) (now : ℕ) → IsOccasion event number occasion now → (answer : Result (Arc Out Global) NodeFault)
      → OwnStep gateway occasion now (said answer) next made → IsIn (field_changed old i next made) → Before old event (Node answer)
  own-in old event number i gateway next made at occasion now is answer h =
      in-changed (Before old event (Node answer)) old inl i next made
      (own-explained (Before old event (Node answer)) gateway (here-taken (Before old event (Node answer)) old inl i gateway at.1) (here-refused (Before old event (Node answer)) old inl i gateway at.1) occasion now (said answer) next made h
      (of-own old event number i gateway at occasion now is answer))

  -- ---- calls with one write

  module _ (old : Field) (number i : ℕ) (gateway : Gateway) (at : IsAt old number i gateway) (called : List Call) (answers : List (Result (Arc Out Global) NodeFault)) where
    abbrev Q : Type 0
    Q = Before old (AtOnce number called) (Row answers)

    of-among : (there : Gateway) (occasion : Occasion) (now : ℕ) (plan : Plan) → IsAmong old (AtOnce number called) (Row answers) there occasion now plan.sends → IsPlan there occasion now (Some plan) → New there occasion now plan → Q
    of-among there occasion now plan among planned new = inr (record { gateway = there; occasion = occasion; moment = now; plan = plan; comes = inr among; planned = planned; new = new })

    abbrev Whole : List Call → Answers → Gateway → List Call → Answers → Type 0
    Whole behind later g rest told = WholeStands old gateway called (map said answers) behind later g rest told

    -- calls that are carried out
    done-explained : (next : Gateway) (made : List (List Op)) (front behind : List Call) (given : List Step) (told later : Answers) → called ≡ front ++ behind → map said answers ≡ told ++ later → AreStepsOf old front given → InTurnBy StepOf gateway given told next made
        → Explained Q next made
    done-explained next made front behind given told later all_is told_is is h =
        row-explained Q old (λ e. inl (inr e)) (Whole behind later)
        (λ g mid call rest step answer more first w call_is does. whole-next old gateway called (map said answers) behind later g mid call rest step answer more first w call_is does)
        (λ g call rest answer more w occasion now plan called_is planned new ends.
        of-among g occasion now plan (whole-among old number i gateway at called answers behind later g call rest answer more w occasion now plan.sends called_is ends) planned new)
        gateway next front given told made (whole-first old gateway called (map said answers) behind later front told all_is told_is) is h
        (here-taken Q old inl i gateway at.1) (here-refused Q old inl i gateway at.1)

    -- calls whose write failed: had it gone out, they would have led to a gateway that has all that was refused
    short-explained : (given : List Step) (next : Gateway) (made : List (List Op)) → AreStepsOf old called given → AreFed (map said answers) → StopShort gateway given (map said answers) next made → Explained Q next made
    short-explained given next made is fed h =
        let c = cut-at old called h.calm (h.call ∷ h.behind) (subst (λ (xs : List Step). AreStepsOf old called xs) h.calls_are is) in
        let fed_first : AreFed h.said = all-left (λ (answer : Result Out Refusal). answer ≡ Err refusals.Memory → ⊥) h.said (h.answer ∷ halted_all h.behind) (subst AreFed h.answers_are fed) in
        let led : InTurnBy StepOf gateway h.calm h.said h.mid made = turn-fed gateway h.mid h.calm h.said made fed_first h.led in
        let before : Explained Q h.mid made = done-explained h.mid made c.calm c.rest h.calm h.said (h.answer ∷ halted_all h.behind) c.whole h.answers_are c.first led in
        let failed : HaveFailed answers = have-failed answers h.said h.answer (halted_all h.behind) h.torn.excuse h.answers_are h.torn.told in
        let there : Explained Q h.torn.there h.torn.made =
        row-explained Q old (λ e. inl (inr e)) (ShortStands old gateway called h.calm h.said h.mid made)
        (λ g mid call rest step answer more first w call_is does. short-next old gateway called h.calm h.said h.mid made g mid call rest step answer more first w call_is does)
        (λ g call rest answer more w occasion now plan called_is planned new ends.
        of-among g occasion now plan (short-among old number i gateway at called answers h.calm h.said h.mid made led failed g call rest (answer ∷ more) w occasion now plan.sends called_is) planned new)
        (record h.mid { drive = record h.mid.drive { plan = None } }) h.torn.there c.rest (h.call ∷ h.behind) h.torn.would h.torn.made
        (short-first old gateway called h.calm h.said h.mid made c.calm c.rest h.torn.would c.whole c.first) c.last h.torn.led before.by_taken before.by_refused in record {
          by_taken = λ e. before.by_taken (subst P (ap (λ (g : Gateway). g.taken) h.torn.halted) e);
          by_refused = λ e. there.by_taken (subst P (sym (torn_refused h.mid next h.call h.answer h.behind h.torn)) (right h.mid.taken (all_of next.refused) e));
          by_made = before.by_made;
        }

    row-in : (given : List Step) (next : Gateway) (made : List (List Op)) → AreStepsOf old called given → AreFed (map said answers) → Together gateway given (map said answers) next made → IsIn (field_changed old i next made) → Q
    row-in given next made is fed (inl h) e =
        in-changed Q old inl i next made
        (done-explained next made called [] given (map said answers) [] (sym (append-nil called)) (sym (append-nil (map said answers))) is (turn-fed gateway next given (map said answers) made fed h.0)) e
    row-in given next made is fed (inr h) e = in-changed Q old inl i next made (short-explained given next made is fed h) e

  -- ---- one event

  pub after-in : (old : Field) (event : Event) (answer : Answer) (new : Field) → After old event answer new → IsIn new → Before old event answer
  after-in old (Frame number from bytes now) (Node answer) new h e =
      own-in old (Frame number from bytes now) number h.0 h.1 h.2 h.3 h.4 (Datagram from bytes) now (refl, refl, refl) answer h.5 (subst IsIn h.6 e)
  after-in old (Tick number now) (Node answer) new h e =
      own-in old (Tick number now) number h.0 h.1 h.2 h.3 h.4 Clock now (refl, refl, refl) answer h.5 (subst IsIn h.6 e)
  after-in old (Take number delta) (Node answer) new h e =
      let Q : Type 0 = Before old (Take number delta) (Node answer) in
      in-changed Q old inl h.0 h.2 h.3
      (take-explained Q h.1 (here-taken Q old inl h.0 h.1 h.5.1) (here-refused Q old inl h.0 h.1 h.5.1) h.4 (λ own. inl (inr (in-list-at old.deltas (delta - 1) h.4 h.6.1 own))) (said answer) h.2 h.3 h.7)
      (subst IsIn h.8 e)
  after-in old (AtOnce number called) (Row answers) new h e = row-in old number h.0 h.1 h.5 called answers h.4 h.2 h.3 h.6 h.8 h.7 (subst IsIn h.9 e)
  after-in old (Asks number peer) (Node answer) new h e =
      in-asked (Before old (Asks number peer) (Node answer)) old inl h.1 h.2 h.3 (said answer) h.4 h.6.1 h.7 (subst IsIn h.8 e)
  after-in old (WriteFails number bytes sync) Nothing new h e =
      let Q : Type 0 = Before old (WriteFails number bytes sync) Nothing in
      in-changed Q old inl h.0 (failing_gateway bytes sync h.1) []
      (failing-explained Q h.1 (here-taken Q old inl h.0 h.1 h.2.1) (here-refused Q old inl h.0 h.1 h.2.1) bytes sync) (subst IsIn h.3 e)
  after-in old (Compact number) (Node answer) new h e =
      let Q : Type 0 = Before old (Compact number) (Node answer) in
      in-changed Q old inl h.0 h.2 []
      (compact-explained Q h.1 (here-taken Q old inl h.0 h.1 h.3.1) (here-refused Q old inl h.0 h.1 h.3.1) (said answer) h.2 h.4) (subst IsIn h.5 e)
  after-in old (Restart number kept) (Records count) new h e =
      let Q : Type 0 = Before old (Restart number kept) (Records count) in
      in-changed Q old inl h.0 (restarted kept h.1) []
      (restart-explained Q h.1 (here-taken Q old inl h.0 h.1 h.2.1) (here-refused Q old inl h.0 h.1 h.2.1) kept) (subst IsIn h.4 e)
  after-in old (Show number) (Views views topics) new h e = inl (subst IsIn h.4 e)
  after-in old (Frame number from bytes now) (Views views topics) new h e = absurd h
  after-in old (Tick number now) (Views views topics) new h e = absurd h
  after-in old (Take number delta) (Views views topics) new h e = absurd h
  after-in old (AtOnce number called) (Views views topics) new h e = absurd h
  after-in old (Asks number peer) (Views views topics) new h e = absurd h
  after-in old (WriteFails number bytes sync) (Views views topics) new h e = absurd h
  after-in old (Compact number) (Views views topics) new h e = absurd h
  after-in old (Restart number kept) (Views views topics) new h e = absurd h
  after-in old (Frame number from bytes now) (Records count) new h e = absurd h
  after-in old (Tick number now) (Records count) new h e = absurd h
  after-in old (Take number delta) (Records count) new h e = absurd h
  after-in old (AtOnce number called) (Records count) new h e = absurd h
  after-in old (Asks number peer) (Records count) new h e = absurd h
  after-in old (WriteFails number bytes sync) (Records count) new h e = absurd h
  after-in old (Compact number) (Records count) new h e = absurd h
  after-in old (Show number) (Records count) new h e = absurd h
  after-in old (Frame number from bytes now) Nothing new h e = absurd h
  after-in old (Tick number now) Nothing new h e = absurd h
  after-in old (Take number delta) Nothing new h e = absurd h
  after-in old (AtOnce number called) Nothing new h e = absurd h
  after-in old (Asks number peer) Nothing new h e = absurd h
  after-in old (Compact number) Nothing new h e = absurd h
  after-in old (Restart number kept) Nothing new h e = absurd h
  after-in old (Show number) Nothing new h e = absurd h
  after-in old (AtOnce number called) (Node answer) new h e = absurd h
  after-in old (WriteFails number bytes sync) (Node answer) new h e = absurd h
  after-in old (Restart number kept) (Node answer) new h e = absurd h
  after-in old (Show number) (Node answer) new h e = absurd h
  after-in old (Frame number from bytes now) (Row answers) new h e = absurd h
  after-in old (Tick number now) (Row answers) new h e = absurd h
  after-in old (Take number delta) (Row answers) new h e = absurd h
  after-in old (Asks number peer) (Row answers) new h e = absurd h
  after-in old (WriteFails number bytes sync) (Row answers) new h e = absurd h
  after-in old (Compact number) (Row answers) new h e = absurd h
  after-in old (Restart number kept) (Row answers) new h e = absurd h
  after-in old (Show number) (Row answers) new h e = absurd h

  -- ---- from the start

  pub start-none : (configs : List Config) → IsIn (new_field configs) → ⊥
  start-none configs (inl (j, gateway, there, inl taken)) = none (subst P (new-place configs j gateway there).0 taken)
  start-none configs (inl (j, gateway, there, inr refused)) = none (subst (λ (R : List (List Op)). P (all_of R)) (new-place configs j gateway there).1 refused)
  start-none configs (inr listed) = none listed
