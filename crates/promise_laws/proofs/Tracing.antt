-- An id that comes into a field with an event was there before, or the event accepts a PUBLISH with it.
use Rattle.std.proofs.Common.{◌≡◌, ℕ, zero, suc, true, ◌⊎◌, List, [], ◌∷◌, ◌++◌, slice_get, Some, refl, sym, ◌∙◌, subst, inl, inr}
use Rattle.std.proofs.lemmas.List.Elements.{All-from_recursion, All-contains, Contains-append_left, Contains-append_right, Contains-append_cases}
use Rattle.sn_frame.specs.declared.frame.Frame.{Frame as OfFrame}
use Rattle.sn_frame.specs.Bodies.{IsValue}
use Rattle.sn_frame.specs.Grammar.{Spells}
use Rattle.sn_tables.specs.Received.{is_received}
use Rattle.rep_op.specs.declared.op.Op.{Op}
use Rattle.rep_op.specs.declared.op.Op.TheVariants.{Session as OfSession}
use Rattle.rep_op.specs.Sets.{HasOperation}
use Rattle.rep_ops.specs.Making.{IsDeltaOf}
use Rattle.rep_ops.specs.Splitting.{all_of}
use Rattle.sn_local.specs.declared.config.Addr.{Addr}
use Rattle.sn_local.specs.declared.config.Config.{Config}
use Rattle.sn_local.specs.Seen.{seen_of}
use Rattle.sn_plan.specs.declared.plan.Plan.{Plan}
use Rattle.sn_plan.specs.Bound.{session_of}
use Rattle.put_laws.proofs.Acked.{none-there}
use Rattle.gw_event.specs.Occasions.{Occasion, Datagram, Clock}
use Rattle.gw_event.specs.Gateways.{Gateway}
use Rattle.gw_event.specs.Event.{IsPlan}
use Rattle.gw_node.proofs.Occurring.{operation_occurs}
use Rattle.gw_world.specs.declared.event.Event.{Event}
use Rattle.gw_world.specs.declared.event.Answer.{Answer}
use Rattle.gw_world.specs.Field.{Field, new_field, After, Run}
use Rattle.gw_world.specs.Whole.{listed}
use Rattle.gw_world.proofs.Alone.{delta-stands}
use Rattle.gw_world.proofs.Answering.{Answered}
use Rattle.promise_laws.specs.Stepping.{IsStep}
use Rattle.promise_laws.specs.Received.{AcceptsPublish, Accepts, IsAcceptedBy}
use Rattle.promise_laws.proofs.Bringing.{HasOne, seen-brings}
use Rattle.promise_laws.proofs.Carrying.{IsNewPublish}
use Rattle.promise_laws.proofs.Settling.{step-brings, tick-brings}
use Rattle.promise_laws.proofs.Admitting.{new-published, new-answered}
use Rattle.promise_laws.proofs.Coming.{after-in, start-none}

-- the field has an operation that brings the id: a gateway has taken it, or refused it when its disk failed, or the deltas of the
-- list have it
abbrev IsBroughtIn : Field → List ℕ → ℕ → Type 0
IsBroughtIn field c id =
    ((j : ℕ) × (gateway : Gateway) × (slice_get field.gateways j ≡ Some gateway) × (HasOne c id gateway.taken ⊎ HasOne c id (all_of gateway.refused)))
    ⊎ HasOne c id (listed field)

module _ (c : List ℕ) (id : ℕ) where
  abbrev Brought : List Op → Type 0
  Brought S = HasOne c id S

  both : (A B : List Op) → Brought (A ++ B) → Brought A ⊎ Brought B
  both A B (stamp, counter, change, there, brings) =
      elim (Contains-append_cases A B (OfSession c stamp counter change) there) [
        | inl left ↦ inl (stamp, counter, change, left, brings)
        | inr right ↦ inr (stamp, counter, change, right, brings)
      ]

  in-left : (A B : List Op) → Brought A → Brought (A ++ B)
  in-left A B (stamp, counter, change, there, brings) = (stamp, counter, change, Contains-append_left A B (OfSession c stamp counter change) there, brings)

  in-right : (A B : List Op) → Brought B → Brought (A ++ B)
  in-right A B (stamp, counter, change, there, brings) = (stamp, counter, change, Contains-append_right A B (OfSession c stamp counter change) there, brings)

  empty-none : Brought [] → ⊥
  empty-none (stamp, counter, change, there, brings) = none-there (OfSession c stamp counter change) there

  -- what a delta of operations has, they have
  of-delta : (ops delta : List Op) → IsDeltaOf ops delta → Brought delta → Brought ops
  of-delta ops delta is (stamp, counter, change, there, brings) =
      let stands : HasOperation delta (OfSession c stamp counter change) = delta-stands delta is.delta (OfSession c stamp counter change) there in
      (stamp, counter, change, operation_occurs c ops (stamp, counter) change (sym (is.same.operations_same c (stamp, counter)) ∙ stands), brings)

  -- what a peer answers, its set has
  of-answered : (S : List Op) (made : List (List Op)) → Answered S made → Brought (all_of made) → Brought S
  of-answered S made is (stamp, counter, change, there, brings) =
      let stands : HasOperation (all_of made) (OfSession c stamp counter change) =
      All-contains (HasOperation (all_of made)) (all_of made) (OfSession c stamp counter change) (All-from_recursion (HasOperation (all_of made)) (all_of made) is.consistent) there in
      (stamp, counter, change, operation_occurs c S (stamp, counter) change (is.within.operations_in c (stamp, counter) change stands), brings)

  -- ---- one event

  -- the plan of a datagram, where it brings the id
  to-publish : (gateway : Gateway) (from : Addr) (bytes : List ℕ) (now : ℕ) (plan : Plan) (h : IsPlan gateway (Datagram from bytes) now (Some plan))
      → IsNewPublish gateway.config.predefined (seen_of gateway.taken) gateway.local from h.0 c id → AcceptsPublish gateway from bytes c id plan
  to-publish gateway from bytes now plan h new = record {
    flags = new.flags;
    topic = new.topic;
    body = new.body;
    value = subst IsValue new.is h.1;
    spelled = subst (λ (f : OfFrame). Spells bytes f) new.is h.2;
    at_two = new.at_two;
    bound = new.bound;
    fresh = new.fresh;
    published = new-published gateway.config.gateway gateway.config.lifetime gateway.config.predefined (seen_of gateway.taken) gateway.local from h.0 now plan h.3 c id new;
    answered = new-answered gateway.config.gateway gateway.config.lifetime gateway.config.predefined (seen_of gateway.taken) gateway.local from h.0 now plan h.3 c id new;
  }

  plan-accepts : (gateway : Gateway) (from : Addr) (bytes : List ℕ) (now : ℕ) (plan : Plan) → IsPlan gateway (Datagram from bytes) now (Some plan) → Brought plan.ops
      → Brought gateway.taken ⊎ AcceptsPublish gateway from bytes c id plan
  plan-accepts gateway from bytes now plan h e =
      elim (step-brings gateway.config.gateway gateway.config.lifetime gateway.config.predefined (seen_of gateway.taken) gateway.local from h.0 now plan h.3 c id e) [
        | inl had ↦ inl (seen-brings c id gateway.taken had)
        | inr new ↦ inr (to-publish gateway from bytes now plan h new)
      ]

  plan-of-clock : (gateway : Gateway) (now : ℕ) (plan : Plan) → IsPlan gateway Clock now (Some plan) → Brought plan.ops → Brought gateway.taken
  plan-of-clock gateway now plan h e =
      seen-brings c id gateway.taken
      (tick-brings gateway.config.gateway gateway.config.lifetime gateway.config.advertise gateway.config.field gateway.config.predefined (seen_of gateway.taken) gateway.local now plan h c id e)

  -- a datagram brings the id, if it is a PUBLISH that is accepted; a tick brings none
  abbrev IsNewFor : Gateway → Occasion → ℕ → Plan → Type 0
  IsNewFor gateway (Datagram from bytes) now plan = AcceptsPublish gateway from bytes c id plan
  IsNewFor gateway Clock now plan = ⊥

  plan-new : (gateway : Gateway) (occasion : Occasion) (now : ℕ) (plan : Plan) → IsPlan gateway occasion now (Some plan) → Brought plan.ops → Brought gateway.taken ⊎ IsNewFor gateway occasion now plan
  plan-new gateway (Datagram from bytes) now plan h e = plan-accepts gateway from bytes now plan h e
  plan-new gateway Clock now plan h e = inl (plan-of-clock gateway now plan h e)

  of-comes : (old : Field) (event : Event) (answer : Answer) (gateway : Gateway) (occasion : Occasion) (now : ℕ) (plan : Plan) → IsStep old event answer gateway occasion now plan.sends → IsPlan gateway occasion now (Some plan)
      → IsNewFor gateway occasion now plan → Accepts old event answer c id
  of-comes old event answer gateway (Datagram from bytes) now plan comes planned new = record { gateway = gateway; a = from; octets = bytes; moment = now; plan = plan; comes = comes; planned = planned; accepts = new }
  of-comes old event answer gateway Clock now plan comes planned new = absurd new

  after-brought : (old : Field) (event : Event) (answer : Answer) (new : Field) → After old event answer new → IsBroughtIn new c id → IsBroughtIn old c id ⊎ Accepts old event answer c id
  after-brought old event answer new h e =
      elim (after-in Brought empty-none both in-left in-right of-delta of-answered IsNewFor plan-new old event answer new h e) [
        | inl before ↦ inl before
        | inr step ↦ inr (of-comes old event answer step.gateway step.occasion step.moment step.plan step.comes step.planned step.new)
      ]

  -- ---- a run

  run-brought : (old : Field) (events : List Event) (answers : List Answer) (new : Field) → Run old events answers new → IsBroughtIn new c id → IsBroughtIn old c id ⊎ IsAcceptedBy old events answers c id
  run-brought old [] [] new h e = inl (subst (λ (f : Field). IsBroughtIn f c id) h e)
  run-brought old (event ∷ events) (answer ∷ answers) new h e =
      elim (run-brought h.0 events answers new h.2 e) [
        | inl before ↦ elim (after-brought old event answer h.0 h.1 before) [
          | inl first ↦ inl first
          | inr step ↦ inr (record { k = 0; field = old; before = refl; event = event; event_is = refl; answer = answer; answer_is = refl; step = step })
        ]
        | inr later ↦ inr (record {
          k = suc later.k;
          field = later.field;
          before = (h.0, h.1, later.before);
          event = later.event;
          event_is = later.event_is;
          answer = later.answer;
          answer_is = later.answer_is;
          step = later.step;
        })
      ]
  run-brought old [] (answer ∷ answers) new h e = absurd h
  run-brought old (event ∷ events) [] new h e = absurd h

  -- ---- from the start

  start-brought : (configs : List Config) → IsBroughtIn (new_field configs) c id → ⊥
  start-brought configs e = start-none Brought empty-none both in-left in-right of-delta of-answered IsNewFor plan-new configs e

  pub field-received : (configs : List Config) (events : List Event) (answers : List Answer) (field : Field) (i : ℕ) (gateway : Gateway) → Run (new_field configs) events answers field → slice_get field.gateways i ≡ Some gateway
      → is_received id (session_of (seen_of gateway.taken) c).received ≡ true → IsAcceptedBy (new_field configs) events answers c id
  field-received configs events answers field i gateway run place e =
      elim (run-brought (new_field configs) events answers field run (inl (i, gateway, place, inl (seen-brings c id gateway.taken e)))) [
        | inl start ↦ absurd (start-brought configs start)
        | inr accepted ↦ accepted
      ]
