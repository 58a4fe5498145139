-- An acknowledgement that comes into a field with an event was there before, or the event is a step that wrote it for a cause.
use Rattle.std.proofs.Common.{◌≡◌, ℕ, zero, suc, Bool, true, false, ◌||◌, true≢false, ◌⊎◌, List, [], ◌∷◌, ◌++◌, length, slice_get, Some, Contains, refl, sym, ap, ◌∙◌, subst, inl, inr}
use Rattle.std.proofs.lemmas.Option.{none-some, same_Some, slice_get_read}
use Rattle.rep_op.specs.declared.op.Op.{Op}
use Rattle.rep_op.specs.Sets.{is_acknowledged}
use Rattle.rep_ops.specs.Making.{IsDeltaOf}
use Rattle.rep_ops.specs.Splitting.{all_of}
use Rattle.rep_model.proofs.Readers.{is_acknowledged_both}
use Rattle.sn_local.specs.declared.config.Config.{Config}
use Rattle.sn_local.specs.Seen.{seen_of}
use Rattle.sn_plan.specs.declared.plan.Plan.{Plan}
use Rattle.put_laws.proofs.Stepping.{step-cause}
use Rattle.put_laws.proofs.Timely.{tick-timely}
use Rattle.gw_event.specs.Occasions.{Occasion, Datagram, Clock}
use Rattle.gw_event.specs.Gateways.{Gateway}
use Rattle.gw_event.specs.Event.{IsPlan}
use Rattle.gw_world.specs.declared.event.Event.{Event}
use Rattle.gw_world.specs.declared.event.Answer.{Answer}
use Rattle.gw_world.specs.Field.{Field, new_field, After, Run}
use Rattle.gw_world.proofs.Answering.{Answered}
use Rattle.promise_laws.specs.Acknowledged.{IsAcknowledgedIn, HasAckCause, Acknowledges, IsWrittenBy}
use Rattle.promise_laws.proofs.Coming.{Comes, after-in, start-none}

or_cases : (a b : Bool) → (a || b) ≡ true → (a ≡ true) ⊎ (b ≡ true)
or_cases true b e = inl refl
or_cases false b e = inr e

or_true : (b : Bool) → (b || true) ≡ true
or_true true = refl
or_true false = refl

module _ (c : List ℕ) (name : ℕ × ℕ) where
  abbrev pub Acks : List Op → Type 0
  Acks S = is_acknowledged c S name ≡ true

  pub none-acks : Acks [] → ⊥
  none-acks e = true≢false (sym e)

  pub acks-both : (A B : List Op) → Acks (A ++ B) → Acks A ⊎ Acks B
  acks-both A B e = or_cases (is_acknowledged c A name) (is_acknowledged c B name) (sym (is_acknowledged_both c A B name) ∙ e)

  pub acks-left : (A B : List Op) → Acks A → Acks (A ++ B)
  acks-left A B e = is_acknowledged_both c A B name ∙ ap (λ (b : Bool). b || is_acknowledged c B name) e

  pub acks-right : (A B : List Op) → Acks B → Acks (A ++ B)
  acks-right A B e = is_acknowledged_both c A B name ∙ ap (λ (b : Bool). is_acknowledged c A name || b) e ∙ or_true (is_acknowledged c A name)

  pub acks-of : (ops delta : List Op) → IsDeltaOf ops delta → Acks delta → Acks ops
  acks-of ops delta is e = sym (is.same.acknowledgements_same c name) ∙ e

  pub acks-answered : (S : List Op) (made : List (List Op)) → Answered S made → Acks (all_of made) → Acks S
  acks-answered S made is e = is.within.acknowledgements_in c name e

  pub plan-cause : (gateway : Gateway) (occasion : Occasion) (now : ℕ) (plan : Plan) → IsPlan gateway occasion now (Some plan) → Acks plan.ops → HasAckCause gateway occasion now plan.sends c name
  plan-cause gateway (Datagram from bytes) now plan h e =
      (h.0, h.1, h.2, step-cause gateway.config.gateway gateway.config.lifetime gateway.config.predefined (seen_of gateway.taken) gateway.local from h.0 now plan c name h.3 e)
  plan-cause gateway Clock now plan h e =
      tick-timely gateway.config.gateway gateway.config.lifetime gateway.config.advertise gateway.config.field gateway.config.predefined (seen_of gateway.taken) gateway.local now plan c name h e

  pub acks-listed : (ds : List (List Op)) (k : ℕ) (delta : List Op) → slice_get ds k ≡ Some delta → Acks delta → Acks (all_of ds)
  acks-listed [] k delta there e = absurd (none-some delta there)
  acks-listed (d ∷ ds) zero delta there e = acks-left d (all_of ds) (subst Acks (sym (same_Some d delta there)) e)
  acks-listed (d ∷ ds) (suc k) delta there e = acks-right d (all_of ds) (acks-listed ds k delta there e)

  -- the plan acknowledges it, for a cause
  pub record Causes (gateway : Gateway) (occasion : Occasion) (now : ℕ) (plan : Plan) : Type 0 where
    pub has : Acks plan.ops
    pub cause : HasAckCause gateway occasion now plan.sends c name

  pub plan-new : (gateway : Gateway) (occasion : Occasion) (now : ℕ) (plan : Plan) → IsPlan gateway occasion now (Some plan) → Acks plan.ops → Acks gateway.taken ⊎ Causes gateway occasion now plan
  plan-new gateway occasion now plan planned e = inr (record { has = e; cause = plan-cause gateway occasion now plan planned e })

  of-comes : (old : Field) (event : Event) (answer : Answer) → Comes Acks none-acks acks-both acks-left acks-right acks-of acks-answered Causes plan-new old event answer → Acknowledges old event answer c name
  of-comes old event answer k = record {
    gateway = k.gateway;
    occasion = k.occasion;
    moment = k.moment;
    plan = k.plan;
    comes = k.comes;
    planned = k.planned;
    acknowledges = k.new.has;
    cause = k.new.cause;
  }

  pub after-acked : (old : Field) (event : Event) (answer : Answer) (new : Field) → After old event answer new → IsAcknowledgedIn new c name → IsAcknowledgedIn old c name ⊎ Acknowledges old event answer c name
  after-acked old event answer new h e =
      elim (after-in Acks none-acks acks-both acks-left acks-right acks-of acks-answered Causes plan-new old event answer new h e) [
        | inl before ↦ inl before
        | inr step ↦ inr (of-comes old event answer step)
      ]

  -- ---- a run

  pub run-acked : (old : Field) (events : List Event) (answers : List Answer) (new : Field) → Run old events answers new → IsAcknowledgedIn new c name → IsAcknowledgedIn old c name ⊎ IsWrittenBy old events answers c name
  run-acked old [] [] new h e = inl (subst (λ (f : Field). IsAcknowledgedIn f c name) h e)
  run-acked old (event ∷ events) (answer ∷ answers) new h e =
      elim (run-acked h.0 events answers new h.2 e) [
        | inl before ↦ elim (after-acked old event answer h.0 h.1 before) [
          | inl first ↦ inl first
          | inr step ↦ inr (record { k = 0; field = old; before = refl; event = event; event_is = refl; answer = answer; answer_is = refl; step = step })
        ]
        | inr later ↦ inr (record {
          k = suc later.k;
          field = later.field;
          before = (h.0, h.1, later.before);
          event = later.event;
          event_is = later.event_is;
          answer = later.answer;
          answer_is = later.answer_is;
          step = later.step;
        })
      ]
  run-acked old [] (answer ∷ answers) new h e = absurd h
  run-acked old (event ∷ events) [] new h e = absurd h

  -- ---- from the start

  pub start-acked : (configs : List Config) → IsAcknowledgedIn (new_field configs) c name → ⊥
  start-acked configs e = start-none Acks none-acks acks-both acks-left acks-right acks-of acks-answered Causes plan-new configs e

  pub field-acked : (configs : List Config) (events : List Event) (answers : List Answer) (field : Field) → Run (new_field configs) events answers field → IsAcknowledgedIn field c name → IsWrittenBy (new_field configs) events answers c name
  field-acked configs events answers field run e = elim (run-acked (new_field configs) events answers field run e) [ inl start ↦ absurd (start-acked configs start) | inr written ↦ written ]

  pub taken-acked : (configs : List Config) (events : List Event) (answers : List Answer) (field : Field) (gateway : Gateway) → Run (new_field configs) events answers field → Contains field.gateways gateway → is_acknowledged c gateway.taken name ≡ true → IsWrittenBy (new_field configs) events answers c name
  taken-acked configs events answers field gateway run (j, within, is) e =
      field-acked configs events answers field run
      (inl (j, gateway, slice_get_read field.gateways (length field.gateways) j gateway refl within (sym is), inl e))
