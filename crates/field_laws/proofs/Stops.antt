-- The same event stops two runs, for the same reason; and what runs to its end is not stopped.
use Rattle.std.proofs.Common.{◌≡◌, ◌⊎◌, ℕ, zero, suc, ◌+◌, ◌<◌, List, [], ◌∷◌, take, slice_get, Some, Contains, refl, sym, ap, ◌∙◌, subst, arith, inl, inr}
use Rattle.std.specs.Prelude.{◌≢◌}
use Rattle.std.proofs.lemmas.Option.{none-some, same_Some}
use Rattle.sn_local.specs.declared.config.Config.{Config}
use Rattle.gw_world.specs.declared.event.Event.{Event}
use Rattle.gw_world.specs.declared.event.Event.TheVariants.{Frame, Tick, Take, Together as AtOnce, Answer as Asks, WriteFails, Compact, Restart, Show}
use Rattle.gw_world.specs.declared.event.Call.{Call}
use Rattle.gw_world.specs.declared.event.Call.TheVariants as calls
use Rattle.gw_world.specs.declared.event.Answer.{Answer}
use Rattle.gw_world.specs.declared.event.Answer.TheVariants.{Node, Row, Views, Records, Nothing}
use Rattle.gw_world.specs.declared.world.WorldFault.{WorldFault}
use Rattle.gw_world.specs.declared.world.WorldFault.TheVariants as stops
use Rattle.std.specs.List.{AllByRecursion}
use Rattle.std.proofs.lemmas.List.Elements.{All-from_recursion, All-contains}
use Rattle.rep_op.specs.declared.op.Op.{Op}
use Rattle.gw_answer.specs.declared.step.Step.{Step}
use Rattle.gw_world.specs.Field.{Field, new_field, IsDeltaAt, IsStepOf, AreStepsOf, After, Run, NamesNoGateway, NamesNoDelta}
use Rattle.gw_world.specs.Worlds.{Before, IsStop}
use Rattle.field_laws.proofs.Replaying.{HaveNoConflict, runs-one}

-- ---- an event that names what is not there has no answer

gateway-after : (field : Field) (event : Event) (answer : Answer) (next : Field) → NamesNoGateway field event → After field event answer next → ⊥
gateway-after field (Frame number from bytes now) (Node a) next h k = none-some k.0 (sym h ∙ k.4.0)
gateway-after field (Tick number now) (Node a) next h k = none-some k.0 (sym h ∙ k.4.0)
gateway-after field (Take number delta) (Node a) next h k = none-some k.0 (sym h ∙ k.5.0)
gateway-after field (AtOnce number calls) (Row a) next h k = none-some k.0 (sym h ∙ k.5.0)
gateway-after field (Asks number other) (Node a) next (inl h) k = none-some k.0 (sym h ∙ k.5.0)
gateway-after field (Asks number other) (Node a) next (inr h) k = none-some k.1 (sym h ∙ k.6.0)
gateway-after field (WriteFails number bytes sync) Nothing next h k = none-some k.0 (sym h ∙ k.2.0)
gateway-after field (Compact number) (Node a) next h k = none-some k.0 (sym h ∙ k.3.0)
gateway-after field (Restart number kept) (Records a) next h k = none-some k.0 (sym h ∙ k.2.0)
gateway-after field (Show number) (Views a ts) next h k = none-some k.0 (sym h ∙ k.2.0)
gateway-after field (Frame number from bytes now) (Views a ts) next h k = k
gateway-after field (Tick number now) (Views a ts) next h k = k
gateway-after field (Take number delta) (Views a ts) next h k = k
gateway-after field (Asks number other) (Views a ts) next h k = k
gateway-after field (Show number) (Node a) next h k = k
gateway-after field (Compact number) (Views views topics) next h k = k
gateway-after field (Restart number kept) (Views views topics) next h k = k
gateway-after field (Restart number kept) (Node answer) next h k = k
gateway-after field (Frame number from bytes now) (Records count) next h k = k
gateway-after field (Tick number now) (Records count) next h k = k
gateway-after field (Take number delta) (Records count) next h k = k
gateway-after field (Asks number peer) (Records count) next h k = k
gateway-after field (Compact number) (Records count) next h k = k
gateway-after field (Show number) (Records count) next h k = k
gateway-after field (WriteFails number bytes sync) (Node answer) next h k = k
gateway-after field (WriteFails number bytes sync) (Views views topics) next h k = k
gateway-after field (WriteFails number bytes sync) (Records count) next h k = k
gateway-after field (Frame number from bytes now) Nothing next h k = k
gateway-after field (Tick number now) Nothing next h k = k
gateway-after field (Take number delta) Nothing next h k = k
gateway-after field (Asks number peer) Nothing next h k = k
gateway-after field (Compact number) Nothing next h k = k
gateway-after field (Restart number kept) Nothing next h k = k
gateway-after field (Show number) Nothing next h k = k
gateway-after field (AtOnce number calls) (Node answer) next h k = k
gateway-after field (AtOnce number calls) (Views views topics) next h k = k
gateway-after field (AtOnce number calls) (Records count) next h k = k
gateway-after field (AtOnce number calls) Nothing next h k = k
gateway-after field (Frame number from bytes now) (Row answers) next h k = k
gateway-after field (Tick number now) (Row answers) next h k = k
gateway-after field (Take number delta) (Row answers) next h k = k
gateway-after field (Asks number peer) (Row answers) next h k = k
gateway-after field (WriteFails number bytes sync) (Row answers) next h k = k
gateway-after field (Compact number) (Row answers) next h k = k
gateway-after field (Restart number kept) (Row answers) next h k = k
gateway-after field (Show number) (Row answers) next h k = k

-- a delta that calls take is in the list
absent-given : (field : Field) (called : List Call) (more : List Step) (delta : ℕ) → AreStepsOf field called more → ((ops : List Op) → IsDeltaAt field delta ops → ⊥) → AllByRecursion (λ call. calls.Take delta ≡ call → ⊥) called
absent-given field [] [] delta given absent = tt
absent-given field (call ∷ called) (step ∷ more) delta given absent = (one call given.0, absent-given field called more delta given.1 absent)
  where
    one : (call : Call) → IsStepOf field call step → calls.Take delta ≡ call → ⊥
    one call is e = let there = subst (λ (c : Call). IsStepOf field c step) (sym e) is in absent there.0 there.1
absent-given field [] (step ∷ more) delta given absent = absurd given
absent-given field (call ∷ called) [] delta given absent = absurd given

given-there : (field : Field) (called : List Call) (more : List Step) (delta : ℕ) → AreStepsOf field called more → Contains called (calls.Take delta) → ((ops : List Op) → IsDeltaAt field delta ops → ⊥) → ⊥
given-there field called more delta given there absent =
    All-contains (λ call. calls.Take delta ≡ call → ⊥) called (calls.Take delta) (All-from_recursion (λ call. calls.Take delta ≡ call → ⊥) called (absent-given field called more delta given absent)) there refl

delta-after : (field : Field) (event : Event) (answer : Answer) (next : Field) → NamesNoDelta field event → After field event answer next → ⊥
delta-after field (Take number delta) (Node a) next h k = h.1 k.4 k.6
delta-after field (Take number delta) (Views a ts) next h k = k
delta-after field (Take number delta) (Records a) next h k = k
delta-after field (Take number delta) Nothing next h k = k
delta-after field (AtOnce number calls) (Row a) next h k = given-there field calls k.4 h.1.0 k.6 h.1.1 h.1.2
delta-after field (AtOnce number calls) (Node a) next h k = k
delta-after field (AtOnce number calls) (Views a ts) next h k = k
delta-after field (AtOnce number calls) (Records a) next h k = k
delta-after field (AtOnce number calls) Nothing next h k = k
delta-after field (Take number delta) (Row a) next h k = k
delta-after field (Frame number from bytes now) a next h k = h
delta-after field (Tick number now) a next h k = h
delta-after field (Asks number other) a next h k = h
delta-after field (WriteFails number bytes sync) a next h k = h
delta-after field (Compact number) a next h k = h
delta-after field (Restart number kept) a next h k = h
delta-after field (Show number) a next h k = h

-- an event that names no delta names a gateway
gateway-delta : (field : Field) (event : Event) → NamesNoGateway field event → NamesNoDelta field event → ⊥
gateway-delta field (Take number delta) h k = none-some k.0.0 (sym h ∙ k.0.1)
gateway-delta field (AtOnce number calls) h k = none-some k.0.0 (sym h ∙ k.0.1)
gateway-delta field (Frame number from bytes now) h k = k
gateway-delta field (Tick number now) h k = k
gateway-delta field (Asks number other) h k = k
gateway-delta field (WriteFails number bytes sync) h k = k
gateway-delta field (Compact number) h k = k
gateway-delta field (Restart number kept) h k = k
gateway-delta field (Show number) h k = k

abbrev IsStuck : Field → Event → Type 0
IsStuck field event = NamesNoGateway field event ⊎ NamesNoDelta field event

stuck-after : (field : Field) (event : Event) (answer : Answer) (next : Field) → IsStuck field event → After field event answer next → ⊥
stuck-after field event answer next (inl h) k = gateway-after field event answer next h k
stuck-after field event answer next (inr h) k = delta-after field event answer next h k

-- ---- the run before an event

-- a run has come to each of its events
pub record Comes (old : Field) (k : ℕ) (events : List Event) (event : Event) : Type 0 where
  pub answers : List Answer
  pub mid : Field
  pub answer : Answer
  pub next : Field
  pub run : Run old (take k events) answers mid
  pub after : After mid event answer next

run-at : (k : ℕ) (old : Field) (events : List Event) (answers : List Answer) (new : Field) (event : Event) → Run old events answers new → slice_get events k ≡ Some event → Comes old k events event
run-at k old [] answers new event h e = absurd (none-some event e)
run-at k old (x ∷ events) [] new event h e = absurd h
run-at zero old (x ∷ events) (a ∷ answers) new event h e =
    record { answers = []; mid = old; answer = a; next = h.0; run = refl; after = subst (λ (y : Event). After old y a h.0) (same_Some x event e) h.1 }
run-at (suc k) old (x ∷ events) (a ∷ answers) new event h e =
    let rest = run-at k h.0 events answers new event h.2 e in
    record { answers = a ∷ rest.answers; mid = rest.mid; answer = rest.answer; next = rest.next; run = (h.0, h.1, rest.run); after = rest.after }

take-more : {A : Type 0} (k l : ℕ) (xs : List A) → k < l → (take k (take l xs) ≡ take k xs) × (slice_get (take l xs) k ≡ slice_get xs k)
take-more k zero xs h = absurd (omega (arith, h))
take-more k (suc l) [] h = (refl, refl)
take-more zero (suc l) (x ∷ xs) h = (refl, refl)
take-more (suc k) (suc l) (x ∷ xs) h =
    let less : k < l = omega (arith, h) in
    let rest = take-more k l xs less in
    ((λ t. x ∷ rest.0 t), rest.1)

in-order : (k l : ℕ) → (k < l) ⊎ (k ≡ l) ⊎ (l < k)
in-order zero zero = inr (inl refl)
in-order zero (suc l) = inl (omega arith)
in-order (suc k) zero = inr (inr (omega arith))
in-order (suc k) (suc l) =
    elim (in-order k l) [
      | inl h ↦ inl (omega (arith, h))
      | inr (inl e) ↦ inr (inl (ap suc e))
      | inr (inr h) ↦ inr (inr (omega (arith, h)))
    ]

module _ (configs : List Config) (never : (events : List Event) (answers : List Answer) (field : Field) → Run (new_field configs) events answers field → HaveNoConflict answers) where
  fields-one : (events : List Event) (answers others : List Answer) (one other : Field) → Run (new_field configs) events answers one → Run (new_field configs) events others other → one ≡ other
  fields-one events answers others one other h k = (runs-one configs events answers others one other (never events answers one h) (never events others other k) h k).1

  -- an event that a run comes to names what is there
  not-stuck : (events : List Event) (k : ℕ) (answers : List Answer) (field : Field) (event : Event) → Run (new_field configs) (take k events) answers field → Comes (new_field configs) k events event → IsStuck field event → ⊥
  not-stuck events k answers field event h c stuck =
      let same : c.mid ≡ field = fields-one (take k events) c.answers answers c.mid field c.run h in
      stuck-after field event c.answer c.next stuck (subst (λ (x : Field). After x event c.answer c.next) same c.after)

  run-goes_on : (events : List Event) (answers : List Answer) (new : Field) (k : ℕ) (field : Field) (event : Event) → Run (new_field configs) events answers new → Before configs events k field event → IsStuck field event → ⊥
  run-goes_on events answers new k field event h b stuck =
      not-stuck events k b.answers field event b.run (run-at k (new_field configs) events answers new event h b.event_is) stuck

  -- nothing stops before what stops
  not-earlier : (events : List Event) (k l : ℕ) (field other : Field) (event its : Event) → k < l → Before configs events k field event → Before configs events l other its → IsStuck field event → ⊥
  not-earlier events k l field other event its less b c stuck =
      let more = take-more k l events less in
      not-stuck (take l events) k b.answers field event
      (subst (λ (xs : List Event). Run (new_field configs) xs b.answers field) (sym more.0) b.run)
      (run-at k (new_field configs) (take l events) c.answers other event c.run (more.1 ∙ b.event_is))
      stuck

  pub record OneStop (k l : ℕ) (field other : Field) (event its : Event) : Type 0 where
    pub place : k ≡ l
    pub fields : field ≡ other
    pub events_are : event ≡ its

  stops-there : (events : List Event) (k l : ℕ) (field other : Field) (event its : Event) → k ≡ l → Before configs events k field event → Before configs events l other its → OneStop k l field other event its
  stops-there events k l field other event its e b c =
      record {
        place = e;
        fields = fields-one (take l events) b.answers c.answers field other (subst (λ (n : ℕ). Run (new_field configs) (take n events) b.answers field) e b.run) c.run;
        events_are = same_Some event its (sym b.event_is ∙ ap (λ (n : ℕ). slice_get events n) e ∙ c.event_is);
      }

  stops-one : (events : List Event) (k l : ℕ) (field other : Field) (event its : Event) → Before configs events k field event → Before configs events l other its → IsStuck field event → IsStuck other its
      → OneStop k l field other event its
  stops-one events k l field other event its b c stuck held =
      elim (in-order k l) [
        | inl h ↦ absurd (not-earlier events k l field other event its h b c stuck)
        | inr (inl e) ↦ stops-there events k l field other event its e b c
        | inr (inr h) ↦ absurd (not-earlier events l k other field its event h c b held)
      ]

  apart : (field other : Field) (event its : Event) → field ≡ other → event ≡ its → NamesNoGateway field event → NamesNoDelta other its → ⊥
  apart field other event its e f h k = gateway-delta other its (subst (λ (x : Event). NamesNoGateway other x) f (subst (λ (x : Field). NamesNoGateway x event) e h)) k

  pub stop-one : (events : List Event) (one other : WorldFault) → IsStop configs events one → IsStop configs events other → one ≢ stops.Memory → other ≢ stops.Memory → one ≡ other
  stop-one events (stops.NoGateway n) (stops.NoGateway m) h k u v =
      let same = stops-one events h.0 k.0 h.1 k.1 h.2 k.2 h.3 k.3 (inl h.5) (inl k.5) in
      ap (λ (x : ℕ). stops.NoGateway x) (h.4 ∙ ap (λ (x : ℕ). x + 1) same.place ∙ sym k.4)
  stop-one events (stops.NoDelta n) (stops.NoDelta m) h k u v =
      let same = stops-one events h.0 k.0 h.1 k.1 h.2 k.2 h.3 k.3 (inr h.5) (inr k.5) in
      ap (λ (x : ℕ). stops.NoDelta x) (h.4 ∙ ap (λ (x : ℕ). x + 1) same.place ∙ sym k.4)
  stop-one events (stops.NoGateway n) (stops.NoDelta m) h k u v =
      let same = stops-one events h.0 k.0 h.1 k.1 h.2 k.2 h.3 k.3 (inl h.5) (inr k.5) in
      absurd (apart h.1 k.1 h.2 k.2 same.fields same.events_are h.5 k.5)
  stop-one events (stops.NoDelta n) (stops.NoGateway m) h k u v =
      let same = stops-one events h.0 k.0 h.1 k.1 h.2 k.2 h.3 k.3 (inr h.5) (inl k.5) in
      absurd (apart k.1 h.1 k.2 h.2 (sym same.fields) (sym same.events_are) k.5 h.5)
  stop-one events stops.Memory other h k u v = absurd (u refl)
  stop-one events one stops.Memory h k u v = absurd (v refl)

  pub run-stop : (events : List Event) (answers : List Answer) (field : Field) (fault : WorldFault) → Run (new_field configs) events answers field → IsStop configs events fault → fault ≡ stops.Memory
  run-stop events answers field (stops.NoGateway n) h k = absurd (run-goes_on events answers field k.0 k.1 k.2 h k.3 (inl k.5))
  run-stop events answers field (stops.NoDelta n) h k = absurd (run-goes_on events answers field k.0 k.1 k.2 h k.3 (inr k.5))
  run-stop events answers field stops.Memory h k = refl
