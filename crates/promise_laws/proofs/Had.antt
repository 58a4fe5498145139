-- A field that has an acknowledgement has, or had, the message: some gateway has taken it, or refused it together with the acknowledgement.
use Rattle.std.proofs.Common.{◌≡◌, ◌≤◌, ℕ, zero, suc, Bool, true, false, cond, not, ◌⊎◌, List, [], ◌∷◌, ◌++◌, ◌-◌, length, map, take, set, slice_get, Option, Some, None, Contains, Result, Ok, Err, refl, sym, ap, ◌∙◌, subst, append-nil, inl, inr, arith}
use Rattle.std.specs.declared.sync.Arc.{Arc}
use Rattle.std.specs.declared.alloc.Global.{Global}
use Rattle.std.proofs.lemmas.List.{take_all}
use Rattle.std.proofs.lemmas.List.Concat.{flat_map-append}
use Rattle.std.proofs.lemmas.List.Elements.{Contains-append_left, Contains-append_right, Contains-append_cases}
use Rattle.std.proofs.lemmas.Option.{none-some, same_Some}
use Rattle.rep_op.specs.declared.op.Op.{Op}
use Rattle.rep_op.specs.declared.op.Op.TheVariants.{Put as OfPut}
use Rattle.rep_op.specs.declared.op.Put.{Put}
use Rattle.rep_op.specs.Sets.{put_at, is_acknowledged}
use Rattle.rep_ops.specs.Splitting.{all_of}
use Rattle.rep_model.specs.Views.{pending}
use Rattle.rep_model.proofs.Joins.{all-left}
use Rattle.rep_model.proofs.Pending.{pending-listed}
use Rattle.rep_model.proofs.Thin.{pending_at-reads}
use Rattle.sn_local.specs.declared.config.Config.{Config}
use Rattle.sn_local.specs.declared.config.Send.{Send}
use Rattle.sn_plan.specs.declared.plan.Plan.{Plan}
use Rattle.put_laws.proofs.Acked.{none-there}
use Rattle.gw_answer.specs.declared.out.Out.{Out}
use Rattle.gw_answer.specs.declared.fault.NodeFault.{NodeFault}
use Rattle.gw_answer.specs.declared.refusal.Refusal.{Refusal}
use Rattle.gw_answer.specs.declared.refusal.Refusal.TheVariants as refusals
use Rattle.gw_answer.specs.declared.step.Step.{Step}
use Rattle.gw_answer.specs.declared.step.Step.TheVariants as steps
use Rattle.gw_answer.specs.Answers.{said}
use Rattle.gw_event.specs.Occasions.{Occasion, Datagram, Clock}
use Rattle.gw_event.specs.Gateways.{Gateway, with_refused}
use Rattle.gw_event.specs.Drives.{left_by, more_records}
use Rattle.gw_event.specs.Event.{NothingHappens, IsTorn, IsMade, IsPlan, OwnStep, TakeStep, CompactStep, StepOf}
use Rattle.gw_event.specs.Together.{InTurnBy, CanWrite, put_by, put_by_all, halted_all, StopShort, Together}
use Rattle.gw_event.proofs.Turns.{put_one, step_adds}
use Rattle.gw_node.proofs.Occurring.{put_occurs}
use Rattle.gw_node.proofs.Refused.{refused_is}
use Rattle.gw_world.specs.declared.event.Call.{Call}
use Rattle.gw_world.specs.declared.event.Call.TheVariants as calls
use Rattle.gw_world.specs.declared.event.Event.{Event}
use Rattle.gw_world.specs.declared.event.Event.TheVariants.{Frame, Tick, Take, Together as AtOnce, Answer as Asks, WriteFails, Compact, Restart, Show}
use Rattle.gw_world.specs.declared.event.Answer.{Answer}
use Rattle.gw_world.specs.declared.event.Answer.TheVariants.{Node, Row, Views, Records, Nothing}
use Rattle.gw_world.specs.Field.{Field, new_field, IsAt, IsStepOf, AreStepsOf, AreFed, field_changed, failing_gateway, After, Run}
use Rattle.gw_world.specs.Steps.{AnswerStep, restarted}
use Rattle.gw_world.specs.Whole.{listed}
use Rattle.gw_world.proofs.Answering.{answered}
use Rattle.gw_world.proofs.InRows.{Answers, cut-at, turn-fed}
use Rattle.gw_world.proofs.Numbers.{First, place_of-first, first-number, first-kept, set-there}
use Rattle.field_laws.proofs.Catching.{run-later, later-now}
use Rattle.promise_laws.specs.Acknowledged.{IsAcknowledgedIn, HasAckCause}
use Rattle.promise_laws.proofs.Acking.{Acks, none-acks, acks-both, acks-right, acks-of, acks-answered, acks-listed, plan-cause}
use Rattle.promise_laws.proofs.Coming.{new-place}

-- ---- places

-- what stands in a place is the gateway that came there, or stood there before
pub place-cases : (i j : ℕ) (gs : List Gateway) (next gateway : Gateway) → slice_get (set gs i next) j ≡ Some gateway → ((j ≡ i) × (gateway ≡ next)) ⊎ (slice_get gs j ≡ Some gateway)
place-cases i j [] next gateway e = absurd (none-some gateway e)
place-cases zero zero (g ∷ gs) next gateway e = inl (refl, sym (same_Some next gateway e))
place-cases zero (suc j) (g ∷ gs) next gateway e = inr e
place-cases (suc i) zero (g ∷ gs) next gateway e = inr e
place-cases (suc i) (suc j) (g ∷ gs) next gateway e = elim (place-cases i j gs next gateway e) [ inl own ↦ inl (ap suc own.0, own.1) | inr before ↦ inr before ]

-- where what was refused is put down after what was taken, one delta of a call or none
spread : (Good : List Op → Type 0) (ds more : List (List Op)) (T M : List Op) (n : ℕ) → length ds ≤ 1 → M ≡ T ++ all_of ds → Good T → ((k : ℕ) → Good (with_refused k M more)) → Good (with_refused n T (ds ++ more))
spread Good [] more T M n few is good rest = subst (λ (S : List Op). Good (with_refused n S more)) (is ∙ append-nil T) (rest n)
spread Good (d ∷ []) more T M zero few is good rest = good
spread Good (d ∷ []) more T M (suc n) few is good rest = subst (λ (S : List Op). Good (with_refused n S more)) (is ∙ ap (λ (D : List Op). T ++ D) (append-nil d)) (rest n)
spread Good (d ∷ other ∷ ds) more T M n few is good rest = absurd (omega (arith, few))

-- a call of the field may write
can-write : (field : Field) (call : Call) (step : Step) → IsStepOf field call step → CanWrite step
can-write field (calls.Frame from bytes now) step is = subst CanWrite (sym is) tt
can-write field (calls.Tick now) step is = subst CanWrite (sym is) tt
can-write field (calls.Take delta) step is = subst CanWrite (sym is.2) tt

module _ (c : List ℕ) (name : ℕ × ℕ) where
  abbrev Acked : List Op → Type 0
  Acked S = Acks c name S

  -- the message of this name is in the set
  abbrev pub HasPut : List Op → Type 0
  HasPut S = (m : Put) × Contains S (OfPut c m) × (name ≡ (m.seq, m.origin))

  put-left : (A B : List Op) → HasPut A → HasPut (A ++ B)
  put-left A B (m, there, named) = (m, Contains-append_left A B (OfPut c m) there, named)

  put-right : (A B : List Op) → HasPut B → HasPut (A ++ B)
  put-right A B (m, there, named) = (m, Contains-append_right A B (OfPut c m) there, named)

  pub put-both : (A B : List Op) → HasPut (A ++ B) → HasPut A ⊎ HasPut B
  put-both A B (m, there, named) = elim (Contains-append_cases A B (OfPut c m) there) [ inl left ↦ inl (m, left, named) | inr right ↦ inr (m, right, named) ]

  pub put-none : HasPut [] → ⊥
  put-none (m, there, named) = none-there (OfPut c m) there

  -- some gateway has taken the message of this name
  pub record HasTaken (field : Field) : Type 0 where
    pub j : ℕ
    pub gateway : Gateway
    pub place : slice_get field.gateways j ≡ Some gateway
    pub has : HasPut gateway.taken

  -- it goes on having it
  taken-later : (old : Field) (event : Event) (answer : Answer) (new : Field) → After old event answer new → HasTaken old → HasTaken new
  taken-later old event answer new h t =
      let l = run-later old (event ∷ []) (answer ∷ []) new t.j t.gateway.taken (new, h, refl) (later-now old.gateways t.j t.gateway t.place) in record {
        j = t.j;
        gateway = l.gateway;
        place = l.place;
        has = subst HasPut (sym l.taken) (put-left t.gateway.taken l.more t.has);
      }

  -- ---- what a plan acknowledges waits

  read_some : (b : Bool) (o : Option Put) (put : Put) → cond (not b) o None ≡ Some put → o ≡ Some put
  read_some true o put e = absurd (none-some put e)
  read_some false o put e = e

  waiting-there : (S : List Op) (m : Put) → Contains (pending c S) m → Contains S (OfPut c m)
  waiting-there S m waits =
      (put_occurs c S (m.seq, m.origin) m
      (read_some (is_acknowledged c S (m.seq, m.origin)) (put_at c S (m.seq, m.origin)) m
      (sym (pending_at-reads c S (m.seq, m.origin)) ∙ (pending-listed c S m).0 waits))).0

  pub cause-waits : (gateway : Gateway) (occasion : Occasion) (now : ℕ) (sends : List Send) → HasAckCause gateway occasion now sends c name → HasPut gateway.taken
  cause-waits gateway (Datagram from bytes) now sends h = (h.3.1.0, waiting-there gateway.taken h.3.1.0 h.3.1.1, h.3.1.2)
  cause-waits gateway Clock now sends h = (h.1.0, waiting-there gateway.taken h.1.0 h.1.1, h.1.2)

  plan-waits : (gateway : Gateway) (occasion : Occasion) (now : ℕ) (plan : Plan) → IsPlan gateway occasion now (Some plan) → Acked plan.ops → HasPut gateway.taken
  plan-waits gateway occasion now plan planned e = cause-waits gateway occasion now plan.sends (plan-cause c name gateway occasion now plan planned e)

  -- ---- sets that have the message if they have its acknowledgement

  module _ (H : Type 0) where
    abbrev Good : List Op → Type 0
    Good S = Acked S → HasPut S ⊎ H

    -- each set that the gateway has, or that it may have after a restart
    abbrev Sets : Gateway → Type 0
    Sets gateway = (n : ℕ) → Good (with_refused n gateway.taken gateway.refused)

    up : (S D : List Op) → HasPut S ⊎ H → HasPut (S ++ D) ⊎ H
    up S D (inl has) = inl (put-left S D has)
    up S D (inr else) = inr else

    grown : (S D : List Op) → Good S → (Acked D → HasPut S ⊎ H) → Good (S ++ D)
    grown S D good by e = up S D (elim (acks-both c name S D e) [ inl before ↦ good before | inr new ↦ by new ])

    behind : (T D X : List Op) → HasPut (T ++ X) ⊎ H → HasPut ((T ++ D) ++ X) ⊎ H
    behind T D X (inl has) = inl (elim (put-both T X has) [ inl own ↦ put-left (T ++ D) X (put-left T D own) | inr more ↦ put-right (T ++ D) X more ])
    behind T D X (inr else) = inr else

    -- with a delta before what was refused
    inserted : (n : ℕ) (T D : List Op) (R : List (List Op)) → ((k : ℕ) → Good (with_refused k T R)) → (Acked D → HasPut T ⊎ H) → Good (with_refused n (T ++ D) R)
    inserted n T D R sets by =
        let X : List Op = all_of (take n R) in
        let both : Good ((T ++ D) ++ X) = λ e. elim (acks-both c name (T ++ D) X e) [
          | inl front ↦ up (T ++ D) X (grown T D (sets zero) by front)
          | inr rest ↦ behind T D X (subst Good (refused_is n T R) (sets n) (acks-right c name T X rest))
        ] in
        subst Good (sym (refused_is n (T ++ D) R)) both

    -- ---- one step

    record StepGood (old next : Gateway) (made : List (List Op)) : Type 0 where
      config : next.config ≡ old.config
      sets : Sets next
      kept : HasPut old.taken → HasPut next.taken
      told : Acked (all_of made) → HasPut next.taken ⊎ H

    none-told : (made : List (List Op)) → made ≡ [] → Acked (all_of made) → ⊥
    none-told made none e = none-acks c name (subst (λ (ds : List (List Op)). Acked (all_of ds)) none e)

    same-good : (old next : Gateway) (made : List (List Op)) → Sets old → next.config ≡ old.config → next.taken ≡ old.taken → next.refused ≡ old.refused → made ≡ [] → StepGood old next made
    same-good old next made sets config taken refused none = record {
      config = config;
      sets = λ n. subst (λ (R : List (List Op)). Good (with_refused n next.taken R)) (sym refused) (subst (λ (T : List Op). Good (with_refused n T old.refused)) (sym taken) (sets n));
      kept = λ has. subst HasPut (sym taken) has;
      told = λ e. absurd (none-told made none e);
    }

    nothing-good : (old next : Gateway) (made : List (List Op)) → Sets old → NothingHappens old next made → StepGood old next made
    nothing-good old next made sets u = same-good old next made sets (ap (λ (g : Gateway). g.config) u.same) (ap (λ (g : Gateway). g.taken) u.same) (ap (λ (g : Gateway). g.refused) u.same) u.none

    more-good : (old next : Gateway) (made : List (List Op)) (delta : List Op) → Sets old → (Acked delta → HasPut old.taken ⊎ H) → next.config ≡ old.config → next.taken ≡ old.taken ++ delta → next.refused ≡ old.refused
        → (Acked (all_of made) → HasPut old.taken ⊎ H) → StepGood old next made
    more-good old next made delta sets by config taken refused listed = record {
      config = config;
      sets = λ n. subst (λ (R : List (List Op)). Good (with_refused n next.taken R)) (sym refused)
          (subst (λ (T : List Op). Good (with_refused n T old.refused)) (sym taken) (inserted n old.taken delta old.refused sets by));
      kept = λ has. subst HasPut (sym taken) (put-left old.taken delta has);
      told = λ e. subst (λ (T : List Op). HasPut T ⊎ H) (sym taken) (up old.taken delta (listed e));
    }

    one-delta : (delta : List Op) → Acked (all_of (delta ∷ [])) → Acked delta
    one-delta delta e = elim (acks-both c name delta [] e) [ inl own ↦ own | inr empty ↦ absurd (none-acks c name empty) ]

    one-refused : (n : ℕ) (T delta : List Op) → Good T → (Acked delta → HasPut T ⊎ H) → Good (with_refused n T (delta ∷ []))
    one-refused zero T delta good by = good
    one-refused (suc zero) T delta good by = grown T delta good by
    one-refused (suc (suc n)) T delta good by = grown T delta good by

    torn-good : (old next : Gateway) (made : List (List Op)) (delta : List Op) → Sets old → (Acked delta → HasPut old.taken ⊎ H) → IsTorn old delta next made → StepGood old next made
    torn-good old next made delta sets by t = record {
      config = ap (λ (g : Gateway). g.config) t.halted;
      sets = λ n. subst (λ (g : Gateway). Good (with_refused n g.taken g.refused)) (sym t.halted) (one-refused n old.taken delta (sets zero) by);
      kept = λ has. subst HasPut (sym (ap (λ (g : Gateway). g.taken) t.halted)) has;
      told = λ e. absurd (none-told made t.none e);
    }

    made-good : (old : Gateway) (plan : Plan) (ops : List Op) (told : Option (List Op)) (next : Gateway) (made : List (List Op)) → Sets old → (Acked ops → HasPut old.taken ⊎ H) → IsMade ops old plan told next made → StepGood old next made
    made-good old plan [] None next made sets by h = same-good old next made sets (ap (λ (g : Gateway). g.config) h.1) (ap (λ (g : Gateway). g.taken) h.1) (ap (λ (g : Gateway). g.refused) h.1) h.0
    made-good old plan [] (Some delta) next made sets by h = absurd h
    made-good old plan (op ∷ ops) None next made sets by h = absurd h
    made-good old plan (op ∷ ops) (Some delta) next made sets by h =
        let own : Acked delta → HasPut old.taken ⊎ H = λ e. by (acks-of c name (op ∷ ops) delta h.0 e) in
        more-good old next made delta sets own (ap (λ (g : Gateway). g.config) h.4) (ap (λ (g : Gateway). g.taken) h.4) (ap (λ (g : Gateway). g.refused) h.4)
        (λ e. own (one-delta delta (subst (λ (ds : List (List Op)). Acked (all_of ds)) h.3 e)))

    own-good : (old : Gateway) (occasion : Occasion) (now : ℕ) (answer : Result Out Refusal) (next : Gateway) (made : List (List Op)) → Sets old → OwnStep old occasion now answer next made → StepGood old next made
    own-good old occasion now (Ok out) next made sets h = made-good old h.0 h.0.ops out.made next made sets (λ e. inl (plan-waits old occasion now h.0 h.1 e)) h.2.1
    own-good old occasion now (Err (refusals.Disk excuse)) next made sets h =
        torn-good old next made h.2.delta sets (λ e. inl (plan-waits old occasion now h.0 h.1 (acks-of c name h.0.ops h.2.delta h.2.is_delta e))) h.2.torn
    own-good old occasion now (Err (refusals.Frame fault)) next made sets h = nothing-good old next made sets h.1
    own-good old occasion now (Err refusals.Exhausted) next made sets h = nothing-good old next made sets h.1
    own-good old occasion now (Err (refusals.Conflict client)) next made sets h = nothing-good old next made sets h.3
    own-good old occasion now (Err refusals.Full) next made sets h = nothing-good old next made sets h.3
    own-good old occasion now (Err refusals.Halted) next made sets h = nothing-good old next made sets h.1
    own-good old occasion now (Err (refusals.Journal fault)) next made sets h = absurd h
    own-good old occasion now (Err refusals.Memory) next made sets h = absurd h

    take-good : (old : Gateway) (delta : List Op) (answer : Result Out Refusal) (next : Gateway) (made : List (List Op)) → Sets old → (Acked delta → H) → TakeStep old delta answer next made → StepGood old next made
    take-good old delta (Ok out) next made sets known h =
        more-good old next made delta sets (λ e. inr (known e)) (ap (λ (g : Gateway). g.config) h.3) (ap (λ (g : Gateway). g.taken) h.3) (ap (λ (g : Gateway). g.refused) h.3) (λ e. absurd (none-told made h.2 e))
    take-good old delta (Err (refusals.Disk excuse)) next made sets known h = torn-good old next made delta sets (λ e. inr (known e)) h.2
    take-good old delta (Err (refusals.Conflict client)) next made sets known h = nothing-good old next made sets h.1
    take-good old delta (Err refusals.Full) next made sets known h = nothing-good old next made sets h.1
    take-good old delta (Err refusals.Halted) next made sets known h = nothing-good old next made sets h.1
    take-good old delta (Err (refusals.Frame fault)) next made sets known h = absurd h
    take-good old delta (Err refusals.Exhausted) next made sets known h = absurd h
    take-good old delta (Err (refusals.Journal fault)) next made sets known h = absurd h
    take-good old delta (Err refusals.Memory) next made sets known h = absurd h

    compact-good : (old : Gateway) (answer : Result Out Refusal) (next : Gateway) → Sets old → CompactStep old answer next → StepGood old next []
    compact-good old (Ok out) next sets h = same-good old next [] sets (ap (λ (g : Gateway). g.config) h.2.2) (ap (λ (g : Gateway). g.taken) h.2.2) (ap (λ (g : Gateway). g.refused) h.2.2) refl
    compact-good old (Err (refusals.Journal fault)) next sets h = nothing-good old next [] sets (record { same = h.2; none = refl })
    compact-good old (Err refusals.Halted) next sets h = nothing-good old next [] sets (record { same = h.1; none = refl })
    compact-good old (Err (refusals.Disk excuse)) next sets h = same-good old next [] sets (ap (λ (g : Gateway). g.config) h.2.4) (ap (λ (g : Gateway). g.taken) h.2.4) (ap (λ (g : Gateway). g.refused) h.2.4) refl
    compact-good old (Err (refusals.Frame fault)) next sets h = absurd h
    compact-good old (Err (refusals.Conflict client)) next sets h = absurd h
    compact-good old (Err refusals.Full) next sets h = absurd h
    compact-good old (Err refusals.Exhausted) next sets h = absurd h
    compact-good old (Err refusals.Memory) next sets h = absurd h

    no-more : (n : ℕ) (S : List Op) → Good S → Good (with_refused n S [])
    no-more zero S good = good
    no-more (suc n) S good = good

    restart-good : (kept : ℕ) (old : Gateway) → Sets old → StepGood old (restarted kept old) []
    restart-good kept old sets =
        let came : ℕ = more_records old.config.gateway old.drive (left_by kept old.drive) in record {
          config = refl;
          sets = λ n. no-more n (with_refused came old.taken old.refused) (sets came);
          kept = λ has. subst HasPut (sym (refused_is came old.taken old.refused)) (put-left old.taken (all_of (take came old.refused)) has);
          told = λ e. absurd (none-acks c name e);
        }

    -- ---- calls one after the other

    module _ (field : Field) (known : Acked (listed field) → H) where
      call-good : (old next : Gateway) (call : Call) (step : Step) (answer : Result Out Refusal) (made : List (List Op)) → Sets old → IsStepOf field call step → StepOf old step answer next made → StepGood old next made
      call-good old next (calls.Frame from bytes now) step answer made sets is h = own-good old (Datagram from bytes) now answer next made sets (subst (λ (s : Step). StepOf old s answer next made) is h)
      call-good old next (calls.Tick now) step answer made sets is h = own-good old Clock now answer next made sets (subst (λ (s : Step). StepOf old s answer next made) is h)
      call-good old next (calls.Take delta) step answer made sets is h =
          take-good old is.0 answer next made sets (λ e. known (listed-acks is.0 (delta - 1) is.1.1 e)) (subst (λ (s : Step). StepOf old s answer next made) is.2 h)
        where
          listed-acks : (ops : List Op) (k : ℕ) → slice_get field.deltas k ≡ Some ops → Acked ops → Acked (listed field)
          listed-acks ops k there e = acks-listed c name field.deltas k ops there e

      turn-good : (old next : Gateway) (called : List Call) (given : List Step) (answers : Answers) (made : List (List Op)) → Sets old → AreStepsOf field called given → InTurnBy StepOf old given answers next made → StepGood old next made
      turn-good old next [] [] [] made sets is h = nothing-good old next made sets h
      turn-good old next (call ∷ called) (step ∷ given) (answer ∷ answers) made sets is h =
          let one = call-good old h.0 call step answer h.1 sets is.0 h.3 in
          let rest = turn-good h.0 next called given answers h.2 one.sets is.1 h.4 in record {
            config = rest.config ∙ one.config;
            sets = rest.sets;
            kept = λ has. rest.kept (one.kept has);
            told = λ e. elim (acks-both c name (all_of h.1) (all_of h.2) (subst Acked (flat_map-append (λ (d : List Op). d) h.1 h.2) (subst (λ (ds : List (List Op)). Acked (all_of ds)) h.5 e))) [
              | inl first ↦ elim (one.told first) [ inl has ↦ inl (rest.kept has) | inr else ↦ inr else ]
              | inr more ↦ rest.told more
            ];
          }
      turn-good old next [] [] (answer ∷ answers) made sets is h = absurd h
      turn-good old next [] (step ∷ given) answers made sets is h = absurd is
      turn-good old next (call ∷ called) [] answers made sets is h = absurd is
      turn-good old next (call ∷ called) (step ∷ given) [] made sets is h = absurd h

      -- what the calls would have put into the journal comes back in part, or not
      would-good : (old end : Gateway) (called : List Call) (given : List Step) (would : Answers) (made : List (List Op)) → Sets old → AreStepsOf field called given → InTurnBy StepOf old given would end made
          → (n : ℕ) → Good (with_refused n old.taken (put_by_all given would))
      would-good old end [] [] [] made sets is h n = no-more n old.taken (sets zero)
      would-good old end (call ∷ called) (step ∷ given) (answer ∷ would) made sets is h n =
          let one = call-good old h.0 call step answer h.1 sets is.0 h.3 in
          spread Good (put_by step answer) (put_by_all given would) old.taken h.0.taken n (put_one step answer) (step_adds old h.0 step answer h.1 (can-write field call step is.0) h.3) (sets zero)
          (would-good h.0 end called given would h.2 one.sets is.1 h.4)
      would-good old end [] [] (answer ∷ would) made sets is h n = absurd h
      would-good old end [] (step ∷ given) would made sets is h n = absurd is
      would-good old end (call ∷ called) [] would made sets is h n = absurd is
      would-good old end (call ∷ called) (step ∷ given) [] made sets is h n = absurd h

      short-good : (old next : Gateway) (called : List Call) (given : List Step) (answers : Answers) (made : List (List Op)) → Sets old → AreStepsOf field called given → AreFed answers → StopShort old given answers next made → StepGood old next made
      short-good old next called given answers made sets is fed h =
          let cut = cut-at field called h.calm (h.call ∷ h.behind) (subst (λ (xs : List Step). AreStepsOf field called xs) h.calls_are is) in
          let fed_first : AreFed h.said = all-left (λ (answer : Result Out Refusal). answer ≡ Err refusals.Memory → ⊥) h.said (h.answer ∷ halted_all h.behind) (subst AreFed h.answers_are fed) in
          let first = turn-good old h.mid cut.calm h.calm h.said made sets cut.first (turn-fed old h.mid h.calm h.said made fed_first h.led) in
          let t = h.torn in
          let back : (n : ℕ) → Good (with_refused n h.mid.taken (put_by_all (h.call ∷ h.behind) t.would)) =
          would-good (record h.mid { drive = record h.mid.drive { plan = None } }) t.there cut.rest (h.call ∷ h.behind) t.would t.made first.sets cut.last t.led in
          let taken : next.taken ≡ h.mid.taken = ap (λ (g : Gateway). g.taken) t.halted in record {
            config = ap (λ (g : Gateway). g.config) t.halted ∙ first.config;
            sets = λ n. subst (λ (g : Gateway). Good (with_refused n g.taken g.refused)) (sym t.halted) (back n);
            kept = λ has. subst HasPut (sym taken) (first.kept has);
            told = λ e. subst (λ (T : List Op). HasPut T ⊎ H) (sym taken) (first.told e);
          }

      row-good : (old next : Gateway) (called : List Call) (given : List Step) (answers : Answers) (made : List (List Op)) → Sets old → AreStepsOf field called given → AreFed answers → Together old given answers next made → StepGood old next made
      row-good old next called given answers made sets is fed (inl h) = turn-good old next called given answers made sets is (turn-fed old next given answers made fed h.0)
      row-good old next called given answers made sets is fed (inr h) = short-good old next called given answers made sets is fed h

  -- ---- one event of a field

  -- each acknowledgement that is there, or may come back, is of a message that was taken; and what was refused stands with the gateway of the number
  pub record AreTaken (field : Field) : Type 0 where
    pub sets : (j : ℕ) (gateway : Gateway) → slice_get field.gateways j ≡ Some gateway → Sets (HasTaken field) gateway
    pub listed : Acked (listed field) → HasTaken field
    pub heard : (j : ℕ) (gateway : Gateway) → slice_get field.gateways j ≡ Some gateway → (gateway.refused ≡ []) ⊎ First gateway.config.gateway field.gateways j

  module _ (old new : Field) (later : HasTaken old → HasTaken new) (are : AreTaken old) where
    mapped : (S : List Op) → HasPut S ⊎ HasTaken old → HasPut S ⊎ HasTaken new
    mapped S (inl has) = inl has
    mapped S (inr before) = inr (later before)

    module _ (i number : ℕ) (gateway next : Gateway) (made : List (List Op)) (at : IsAt old number i gateway) (good : StepGood (HasTaken old) gateway next made) (new_is : new ≡ field_changed old i next made) where
      kept-first : (m j : ℕ) (g : Gateway) → slice_get old.gateways j ≡ Some g → First m old.gateways j → First m (set old.gateways i next) j
      kept-first m j g place first = (first-kept m i j old.gateways gateway next g at.1 good.config first place).0

      heard-in : (j : ℕ) (g : Gateway) → slice_get (set old.gateways i next) j ≡ Some g → (g.refused ≡ []) ⊎ First g.config.gateway (set old.gateways i next) j
      heard-in j g place =
          elim (place-cases i j old.gateways next g place) [
            | inl own ↦
                let first : First number old.gateways i = place_of-first number i old.gateways at.0 in
                let named : number ≡ g.config.gateway = sym (ap (λ (x : Gateway). x.config.gateway) own.1 ∙ ap (λ (x : Config). x.gateway) good.config ∙ first-number number i old.gateways gateway first at.1) in
                inr (subst (λ (k : ℕ). First g.config.gateway (set old.gateways i next) k) (sym own.0) (subst (λ (m : ℕ). First m (set old.gateways i next) i) named (kept-first number i gateway at.1 first)))
            | inr before ↦ elim (are.heard j g before) [ inl none ↦ inl none | inr first ↦ inr (kept-first g.config.gateway j g before first) ]
          ]

      sets-in : (j : ℕ) (g : Gateway) → slice_get (set old.gateways i next) j ≡ Some g → Sets (HasTaken new) g
      sets-in j g place =
          elim (place-cases i j old.gateways next g place) [
            | inl own ↦ λ n e. mapped (with_refused n g.taken g.refused) (subst (λ (x : Gateway). Sets (HasTaken old) x) (sym own.1) good.sets n e)
            | inr before ↦ λ n e. mapped (with_refused n g.taken g.refused) (are.sets j g before n e)
          ]

      listed-in : Acked (all_of (old.deltas ++ made)) → HasTaken new
      listed-in e =
          elim (acks-both c name (all_of old.deltas) (all_of made) (subst Acked (flat_map-append (λ (d : List Op). d) old.deltas made) e)) [
            | inl before ↦ later (are.listed before)
            | inr told ↦ elim (good.told told) [
              | inl has ↦ subst HasTaken (sym new_is) (record { j = i; gateway = next; place = set-there i old.gateways gateway next at.1; has = has })
              | inr before ↦ later before
            ]
          ]

      changed-taken : AreTaken new
      changed-taken = subst (λ (f : Field). (HasTaken old → HasTaken f) → AreTaken f) (sym new_is) (λ _. record { sets = shifted; listed = λ e. subst HasTaken new_is (listed-in e); heard = heard-in }) later
        where
          shifted : (j : ℕ) (g : Gateway) → slice_get (set old.gateways i next) j ≡ Some g → Sets (HasTaken (field_changed old i next made)) g
          shifted j g place = subst (λ (f : Field). Sets (HasTaken f) g) new_is (sets-in j g place)

    asked-taken : (j : ℕ) (asker peer : Gateway) (answer : Result Out Refusal) (made : List (List Op)) → slice_get old.gateways j ≡ Some peer → AnswerStep asker peer answer made → new ≡ record old { deltas = old.deltas ++ made } → AreTaken new
    asked-taken j asker peer answer made here h new_is = record {
      sets = λ k g place n e. mapped (with_refused n g.taken g.refused) (are.sets k g (subst (λ (f : Field). slice_get f.gateways k ≡ Some g) new_is place) n e);
      listed = λ e.
          elim (acks-both c name (all_of old.deltas) (all_of made) (subst Acked (flat_map-append (λ (d : List Op). d) old.deltas made) (subst (λ (f : Field). Acked (listed f)) new_is e))) [
            | inl before ↦ later (are.listed before)
            | inr told ↦ elim (are.sets j peer here zero (acks-answered c name peer.taken made (answered asker peer answer made h) told)) [
              | inl has ↦ later (record { j = j; gateway = peer; place = here; has = has })
              | inr before ↦ later before
            ]
          ];
      heard = λ k g place. subst (λ (f : Field). (g.refused ≡ []) ⊎ First g.config.gateway f.gateways k) (sym new_is) (are.heard k g (subst (λ (f : Field). slice_get f.gateways k ≡ Some g) new_is place));
    }

  after-taken : (old : Field) (event : Event) (answer : Answer) (new : Field) → After old event answer new → AreTaken old → AreTaken new
  after-taken old (Frame number from bytes now) (Node answer) new h are =
      changed-taken old new (taken-later old (Frame number from bytes now) (Node answer) new h) are h.0 number h.1 h.2 h.3 h.4
      (own-good (HasTaken old) h.1 (Datagram from bytes) now (said answer) h.2 h.3 (are.sets h.0 h.1 h.4.1) h.5) h.6
  after-taken old (Tick number now) (Node answer) new h are =
      changed-taken old new (taken-later old (Tick number now) (Node answer) new h) are h.0 number h.1 h.2 h.3 h.4 (own-good (HasTaken old) h.1 Clock now (said answer) h.2 h.3 (are.sets h.0 h.1 h.4.1) h.5) h.6
  after-taken old (Take number delta) (Node answer) new h are =
      changed-taken old new (taken-later old (Take number delta) (Node answer) new h) are h.0 number h.1 h.2 h.3 h.5
      (take-good (HasTaken old) h.1 h.4 (said answer) h.2 h.3 (are.sets h.0 h.1 h.5.1) (λ e. are.listed (acks-listed c name old.deltas (delta - 1) h.4 h.6.1 e)) h.7) h.8
  after-taken old (AtOnce number called) (Row answers) new h are =
      changed-taken old new (taken-later old (AtOnce number called) (Row answers) new h) are h.0 number h.1 h.2 h.3 h.5
      (row-good (HasTaken old) old are.listed h.1 h.2 called h.4 (map said answers) h.3 (are.sets h.0 h.1 h.5.1) h.6 h.8 h.7) h.9
  after-taken old (Asks number peer) (Node answer) new h are =
      asked-taken old new (taken-later old (Asks number peer) (Node answer) new h) are h.1 h.2 h.3 (said answer) h.4 h.6.1 h.7 h.8
  after-taken old (WriteFails number bytes sync) Nothing new h are =
      changed-taken old new (taken-later old (WriteFails number bytes sync) Nothing new h) are h.0 number h.1 (failing_gateway bytes sync h.1) [] h.2
      (same-good (HasTaken old) h.1 (failing_gateway bytes sync h.1) [] (are.sets h.0 h.1 h.2.1) refl refl refl refl) h.3
  after-taken old (Compact number) (Node answer) new h are =
      changed-taken old new (taken-later old (Compact number) (Node answer) new h) are h.0 number h.1 h.2 [] h.3 (compact-good (HasTaken old) h.1 (said answer) h.2 (are.sets h.0 h.1 h.3.1) h.4) h.5
  after-taken old (Restart number kept) (Records count) new h are =
      changed-taken old new (taken-later old (Restart number kept) (Records count) new h) are h.0 number h.1 (restarted kept h.1) [] h.2 (restart-good (HasTaken old) kept h.1 (are.sets h.0 h.1 h.2.1)) h.4
  after-taken old (Show number) (Views views topics) new h are = subst AreTaken (sym h.4) are
  after-taken old (Frame number from bytes now) (Views views topics) new h are = absurd h
  after-taken old (Tick number now) (Views views topics) new h are = absurd h
  after-taken old (Take number delta) (Views views topics) new h are = absurd h
  after-taken old (AtOnce number called) (Views views topics) new h are = absurd h
  after-taken old (Asks number peer) (Views views topics) new h are = absurd h
  after-taken old (WriteFails number bytes sync) (Views views topics) new h are = absurd h
  after-taken old (Compact number) (Views views topics) new h are = absurd h
  after-taken old (Restart number kept) (Views views topics) new h are = absurd h
  after-taken old (Frame number from bytes now) (Records count) new h are = absurd h
  after-taken old (Tick number now) (Records count) new h are = absurd h
  after-taken old (Take number delta) (Records count) new h are = absurd h
  after-taken old (AtOnce number called) (Records count) new h are = absurd h
  after-taken old (Asks number peer) (Records count) new h are = absurd h
  after-taken old (WriteFails number bytes sync) (Records count) new h are = absurd h
  after-taken old (Compact number) (Records count) new h are = absurd h
  after-taken old (Show number) (Records count) new h are = absurd h
  after-taken old (Frame number from bytes now) Nothing new h are = absurd h
  after-taken old (Tick number now) Nothing new h are = absurd h
  after-taken old (Take number delta) Nothing new h are = absurd h
  after-taken old (AtOnce number called) Nothing new h are = absurd h
  after-taken old (Asks number peer) Nothing new h are = absurd h
  after-taken old (Compact number) Nothing new h are = absurd h
  after-taken old (Restart number kept) Nothing new h are = absurd h
  after-taken old (Show number) Nothing new h are = absurd h
  after-taken old (AtOnce number called) (Node answer) new h are = absurd h
  after-taken old (WriteFails number bytes sync) (Node answer) new h are = absurd h
  after-taken old (Restart number kept) (Node answer) new h are = absurd h
  after-taken old (Show number) (Node answer) new h are = absurd h
  after-taken old (Frame number from bytes now) (Row answers) new h are = absurd h
  after-taken old (Tick number now) (Row answers) new h are = absurd h
  after-taken old (Take number delta) (Row answers) new h are = absurd h
  after-taken old (Asks number peer) (Row answers) new h are = absurd h
  after-taken old (WriteFails number bytes sync) (Row answers) new h are = absurd h
  after-taken old (Compact number) (Row answers) new h are = absurd h
  after-taken old (Restart number kept) (Row answers) new h are = absurd h
  after-taken old (Show number) (Row answers) new h are = absurd h

  -- ---- a run

  run-taken : (old : Field) (events : List Event) (answers : List Answer) (new : Field) → Run old events answers new → AreTaken old → AreTaken new
  run-taken old [] [] new h are = subst AreTaken (sym h) are
  run-taken old (event ∷ events) (answer ∷ answers) new h are = run-taken h.0 events answers new h.2 (after-taken old event answer h.0 h.1 are)
  run-taken old [] (answer ∷ answers) new h are = absurd h
  run-taken old (event ∷ events) [] new h are = absurd h

  start-taken : (configs : List Config) → AreTaken (new_field configs)
  start-taken configs = record {
    sets = λ j g place n e.
        let empty = new-place configs j g place in
        absurd (none-acks c name
        (subst Acked (subst (λ (R : List (List Op)). with_refused n g.taken R ≡ []) (sym empty.1) (no-set n g.taken empty.0)) e));
    listed = λ e. absurd (none-acks c name e);
    heard = λ j g place. inl (new-place configs j g place).1;
  }
    where
      no-set : (n : ℕ) (S : List Op) → S ≡ [] → with_refused n S [] ≡ []
      no-set zero S none = none
      no-set (suc n) S none = none

  pub field-taken : (configs : List Config) (events : List Event) (answers : List Answer) (field : Field) → Run (new_field configs) events answers field → AreTaken field
  field-taken configs events answers field run = run-taken (new_field configs) events answers field run (start-taken configs)

  -- the message of an acknowledgement was taken, or is refused where that is
  abbrev pub IsRefusedAt : Field → Type 0
  IsRefusedAt field = (j : ℕ) × (gateway : Gateway) × (slice_get field.gateways j ≡ Some gateway) × HasPut (all_of gateway.refused)

  pub acked-had : (field : Field) → AreTaken field → IsAcknowledgedIn field c name → HasTaken field ⊎ IsRefusedAt field
  acked-had field are (inl (j, gateway, place, inl e)) =
      elim (are.sets j gateway place zero e) [ inl has ↦ inl (record { j = j; gateway = gateway; place = place; has = has }) | inr taken ↦ inl taken ]
  acked-had field are (inl (j, gateway, place, inr e)) =
      let n : ℕ = length gateway.refused in
      let all : with_refused n gateway.taken gateway.refused ≡ gateway.taken ++ all_of gateway.refused =
      refused_is n gateway.taken gateway.refused ∙ ap (λ (R : List (List Op)). gateway.taken ++ all_of R) (take_all n gateway.refused (omega arith)) in
      elim (are.sets j gateway place n (subst Acked (sym all) (acks-right c name gateway.taken (all_of gateway.refused) e))) [
        | inl has ↦ elim (put-both gateway.taken (all_of gateway.refused) (subst HasPut all has)) [
          | inl own ↦ inl (record { j = j; gateway = gateway; place = place; has = own })
          | inr refused ↦ inr (j, gateway, place, refused)
        ]
        | inr taken ↦ inl taken
      ]
  acked-had field are (inr e) = inl (are.listed e)
