-- What a gateway accepts it serves.
use Rattle.std.proofs.Common.{false, ◌≡◌, ℕ, ◌⊎◌, List, [], slice_get, Option, Some, Contains, Result, Ok, refl, sym, ap, ◌∙◌, subst, inl, inr}
use Rattle.std.specs.Option.{option_to_list}
use Rattle.std.proofs.lemmas.Option.{same_Some}
use Rattle.std.proofs.lemmas.List.Elements.{Contains-push}
use Rattle.sn_frame.specs.declared.flags.Flags.{Flags}
use Rattle.sn_frame.specs.declared.flags.Qos.TheVariants.{One, Two}
use Rattle.sn_frame.specs.declared.frame.Frame.{Frame as OfFrame}
use Rattle.sn_frame.specs.declared.frame.Frame.TheVariants as frames
use Rattle.sn_frame.specs.Bodies.{IsValue}
use Rattle.sn_frame.specs.FlagBits.{qos_of}
use Rattle.sn_frame.specs.Grammar.{Spells}
use Rattle.sn_frame.proofs.Refusals.{one_frame}
use Rattle.rep_op.specs.declared.op.Op.{Op}
use Rattle.rep_op.specs.declared.op.Op.TheVariants.{Put as OfPut}
use Rattle.rep_op.specs.declared.op.Put.{Put}
use Rattle.sn_local.specs.declared.config.Addr.{Addr}
use Rattle.sn_local.specs.declared.config.Config.{Config}
use Rattle.sn_local.specs.declared.config.Send.{Send}
use Rattle.sn_local.specs.Seen.{seen_of}
use Rattle.sn_plan.specs.declared.draft.NewPut.{NewPut}
use Rattle.sn_plan.specs.declared.plan.Plan.{Plan}
use Rattle.sn_plan.specs.Flush.{HaveNoGap}
use Rattle.sn_plan.specs.Own.{new_messages}
use Rattle.sn_publish.specs.Recipients.{message_for}
use Rattle.sn_deliver.specs.Steps.{step}
use Rattle.put_laws.specs.Puts.{HasReceived, IsReplyTo, IsPublished, puts_by_tick, puts_of}
use Rattle.put_laws.proofs.Putting.{step-messages, tick-messages}
use Rattle.put_laws.proofs.Recipients.{for-recipients}
use Rattle.put_laws.proofs.Saying.{puback-put, pubrec-put}
use Rattle.gw_answer.specs.declared.out.Out.{Out}
use Rattle.std.specs.declared.sync.Arc.{Arc}
use Rattle.std.specs.declared.alloc.Global.{Global}
use Rattle.gw_answer.specs.declared.fault.NodeFault.{NodeFault}
use Rattle.gw_answer.specs.declared.refusal.Refusal.{Refusal}
use Rattle.gw_answer.specs.Answers.{said}
use Rattle.gw_event.specs.Occasions.{Occasion, Datagram, Clock}
use Rattle.gw_event.specs.Gateways.{Gateway}
use Rattle.gw_event.specs.Event.{IsMade, OwnStep}
use Rattle.gw_world.specs.declared.event.Event.{Event}
use Rattle.gw_world.specs.declared.event.Event.TheVariants.{Frame, Tick, Take, Together as AtOnce, Answer as Asks, WriteFails, Compact, Restart, Show}
use Rattle.gw_world.specs.declared.event.Answer.TheVariants.{Node}
use Rattle.gw_world.specs.Events.{made_of}
use Rattle.gw_world.specs.Field.{Field, IsAt, Steps, After}
use Rattle.gw_world.specs.Whole.{MayMake}
use Rattle.gw_world.proofs.Consistency.{field-steady}
use Rattle.gw_world.proofs.Numbers.{place_of-first, first-number, set-there}
use Rattle.gw_world.proofs.Telling.{after-makes}
use Rattle.promise_laws.specs.Accepted.{IsKeptFrom, HasAnswered, IsServed, IsAccepted}
use Rattle.promise_laws.proofs.Serving.{message-there, of-gateway, some-taken, told-taken, IsPut, put-of-plan, put-of-delta}
use Rattle.promise_laws.proofs.Staying.{kept-from}

-- ---- the step of an event

-- the gateway went to this one by a step of its own, and that is in its place
record HasStepped (new : Field) (i : ℕ) (gateway : Gateway) (occasion : Occasion) (now : ℕ) (out : Out) : Type 0 where
  next : Gateway
  made : List (List Op)
  step : OwnStep gateway occasion now (Ok out) next made
  here : slice_get new.gateways i ≡ Some next

has-stepped : (old new : Field) (number i : ℕ) (gateway : Gateway) (occasion : Occasion) (now : ℕ) (answer : Result Out Refusal) (out : Out) → IsAt old number i gateway → answer ≡ Ok out → Steps old number occasion now answer new → HasStepped new i gateway occasion now out
has-stepped old new number i gateway occasion now answer out at says h =
    let e : h.0 ≡ i = same_Some h.0 i (sym h.4.0 ∙ at.0) in
    let same : h.1 ≡ gateway = same_Some h.1 gateway (sym h.4.1 ∙ ap (slice_get old.gateways) e ∙ at.1) in
    let there : slice_get new.gateways h.0 ≡ Some h.2 = subst (λ (f : Field). slice_get f.gateways h.0 ≡ Some h.2) (sym h.6) (set-there h.0 old.gateways h.1 h.2 h.4.1) in
    record {
      next = h.2;
      made = h.3;
      step = subst (λ (g : Gateway). OwnStep g occasion now (Ok out) h.2 h.3) same (subst (λ (r : Result Out Refusal). OwnStep h.1 occasion now r h.2 h.3) says h.5);
      here = subst (λ (k : ℕ). slice_get new.gateways k ≡ Some h.2) e there;
    }

-- a gateway that an event reaches is flush
flush-at : (configs : List Config) (event : Event) (out : Out) (old new : Field) (number i : ℕ) (gateway : Gateway) → HasAnswered configs event out old new i gateway → IsAt old number i gateway → HaveNoGap gateway.config.gateway gateway.taken
flush-at configs event out old new number i gateway h at =
    let own : gateway.config.gateway ≡ number = first-number number i old.gateways gateway (place_of-first number i old.gateways at.0) at.1 in
    subst (λ (k : ℕ). HaveNoGap k gateway.taken) (sym own) ((field-steady configs h.events h.answers old h.run).flush number i gateway at)

-- ---- what the step puts

module _ (new : Field) (i : ℕ) (gateway : Gateway) (occasion : Occasion) (now : ℕ) (out : Out) (flush : HaveNoGap gateway.config.gateway gateway.taken) (s : HasStepped new i gateway occasion now out) where
  abbrev plan : Plan
  plan = s.step.0

  -- the answer sends what the plan sends
  sends-alike : out.sends ≡ plan.sends
  sends-alike = ap (λ (o : Out). o.sends) s.step.2.0

  -- of each message of the plan, what is made of it holds of what the gateway made
  serve : (Holds : List Op → List ℕ → Put → Type 0) → ((delta : List Op) (c : List ℕ) (m : Put) → out.made ≡ Some delta → IsPut gateway s.next delta c m → Holds delta c m)
      → (p : NewPut) → Contains (new_messages plan.ops) p → IsServed gateway out p.client p.topic p.qos p.body Holds
  serve Holds holds p there =
      let m = message-there plan.ops p there in
      let t = some-taken gateway plan plan.ops out.made s.next s.made (OfPut p.client m.message) s.step.2.1 m.among in
      let is = put-of-plan gateway s.next plan (of-gateway gateway occasion now plan s.step.1) flush out.made t.0 t.1 p.client m.message m.among in
      record {
        delta = t.0;
        told = t.1.told_is;
        message = m.message;
        is_new = is.is_new;
        says = m.says;
        holds = holds t.0 p.client m.message t.1.told_is is;
      }

  put-told : (delta : List Op) → out.made ≡ Some delta → (c : List ℕ) (m : Put) → Contains delta (OfPut c m) → IsPut gateway s.next delta c m
  put-told delta told c m there =
      let t = told-taken gateway plan plan.ops delta s.next s.made (subst (λ (o : Option (List Op)). IsMade plan.ops gateway plan o s.next s.made) told s.step.2.1) in
      put-of-delta gateway s.next plan (of-gateway gateway occasion now plan s.step.1) flush (Some delta) delta t c m there

  accept : (Holds : List Op → List ℕ → Put → Type 0) → ((delta : List Op) (c : List ℕ) (m : Put) → out.made ≡ Some delta → IsPut gateway s.next delta c m → Holds delta c m)
      → (a : Addr) (bits topic qos : ℕ) (body : List ℕ) → IsPublished gateway.config.predefined (seen_of gateway.taken) gateway.local a bits topic qos body (new_messages plan.ops)
      → IsAccepted gateway a bits topic qos body out Holds
  accept Holds holds a bits topic qos body (p, name, bound, meant, puts) = (
    p,
    name,
    bound,
    meant,
    λ c q among gets.
        serve Holds holds (message_for name body c q)
        (subst (λ (ps : List NewPut). Contains ps (message_for name body c q)) (sym puts)
        ((for-recipients (seen_of gateway.taken) name qos body (message_for name body c q)).1 (among, gets, refl, refl))),
  )

-- ---- a datagram

-- what is made of a message that the gateway made and took
abbrev pub Making : Gateway → Gateway → Out → (List Op → List ℕ → Put → Type 0) → Type 0
Making gateway next out Holds = (delta : List Op) (c : List ℕ) (m : Put) → out.made ≡ Some delta → IsPut gateway next delta c m → Holds delta c m

module _ (configs : List Config) (old new : Field) (number i : ℕ) (gateway : Gateway) (a : Addr) (octets : List ℕ) (now : ℕ) (out : Out) (h : HasAnswered configs (Frame number a octets now) out old new i gateway)
    (Holds : List Op → List ℕ → Put → Type 0) (holds : (next : Gateway) → slice_get new.gateways i ≡ Some next → Making gateway next out Holds) where
  framed : HasStepped new i gateway (Datagram a octets) now out
  framed = has-stepped old new number i gateway (Datagram a octets) now (said h.answer) out h.at h.says h.after

  frame-flush : HaveNoGap gateway.config.gateway gateway.taken
  frame-flush = flush-at configs (Frame number a octets now) out old new number i gateway h h.at

  abbrev frame-plan : Plan
  frame-plan = framed.step.0

  frame-step : (frame : OfFrame) → IsValue frame → Spells octets frame → step gateway.config.gateway gateway.config.lifetime gateway.config.predefined (seen_of gateway.taken) gateway.local a frame now ≡ Some frame-plan
  frame-step frame value spells =
      let is = framed.step.1 in
      subst (λ (f : OfFrame). step gateway.config.gateway gateway.config.lifetime gateway.config.predefined (seen_of gateway.taken) gateway.local a f now ≡ Some frame-plan)
      (one_frame octets is.0 frame is.1 value is.2 spells) is.3

  frame-sent : (answer : OfFrame) → IsReplyTo a answer out.sends → IsReplyTo a answer frame-plan.sends
  frame-sent answer there = subst (λ (sends : List Send). IsReplyTo a answer sends) (sends-alike new i gateway (Datagram a octets) now out frame-flush framed) there

  frame-accept : (bits topic qos : ℕ) (body : List ℕ) → IsPublished gateway.config.predefined (seen_of gateway.taken) gateway.local a bits topic qos body (new_messages frame-plan.ops) → IsAccepted gateway a bits topic qos body out Holds
  frame-accept bits topic qos body published = accept new i gateway (Datagram a octets) now out frame-flush framed Holds (holds framed.next framed.here) a bits topic qos body published

  pub frame-puback : (flags : Flags) (topic msg_id t m : ℕ) (body : List ℕ) → IsValue (frames.Publish flags topic msg_id body) → Spells octets (frames.Publish flags topic msg_id body) → qos_of flags.bits ≡ One
      → IsReplyTo a (frames.PubAck t m 0) out.sends → IsAccepted gateway a flags.bits topic 1 body out Holds
  frame-puback flags topic msg_id t m body value spells q there =
      frame-accept flags.bits topic 1 body
      (puback-put gateway.config.gateway gateway.config.lifetime gateway.config.predefined (seen_of gateway.taken) gateway.local a flags topic msg_id body now frame-plan
      (frame-step (frames.Publish flags topic msg_id body) value spells) t m q (frame-sent (frames.PubAck t m 0) there))

  pub frame-pubrec : (flags : Flags) (topic msg_id m : ℕ) (body : List ℕ) → IsValue (frames.Publish flags topic msg_id body) → Spells octets (frames.Publish flags topic msg_id body) → qos_of flags.bits ≡ Two
      → IsReplyTo a (frames.PubRec m) out.sends → IsAccepted gateway a flags.bits topic 2 body out Holds ⊎ HasReceived (seen_of gateway.taken) gateway.local a msg_id
  frame-pubrec flags topic msg_id m body value spells q there =
      elim (pubrec-put gateway.config.gateway gateway.config.lifetime gateway.config.predefined (seen_of gateway.taken) gateway.local a flags topic msg_id body now frame-plan
      (frame-step (frames.Publish flags topic msg_id body) value spells) m q (frame-sent (frames.PubRec m) there)) [
        | inl published ↦ inl (frame-accept flags.bits topic 2 body published)
        | inr received ↦ inr received
      ]

  pub frame-served : (frame : OfFrame) (p : NewPut) → IsValue frame → Spells octets frame → Contains (puts_of gateway.config.predefined (seen_of gateway.taken) gateway.local a frame) p
      → IsServed gateway out p.client p.topic p.qos p.body Holds
  frame-served frame p value spells there =
      serve new i gateway (Datagram a octets) now out frame-flush framed Holds (holds framed.next framed.here) p
      (subst (λ (ps : List NewPut). Contains ps p)
      (sym (step-messages gateway.config.gateway gateway.config.lifetime gateway.config.predefined (seen_of gateway.taken) gateway.local a frame now frame-plan (frame-step frame value spells))) there)

-- ---- a tick

module _ (configs : List Config) (old new : Field) (number i : ℕ) (gateway : Gateway) (now : ℕ) (out : Out) (h : HasAnswered configs (Tick number now) out old new i gateway)
    (Holds : List Op → List ℕ → Put → Type 0) (holds : (next : Gateway) → slice_get new.gateways i ≡ Some next → Making gateway next out Holds) where
  ticked : HasStepped new i gateway Clock now out
  ticked = has-stepped old new number i gateway Clock now (said h.answer) out h.at h.says h.after

  tick-flush : HaveNoGap gateway.config.gateway gateway.taken
  tick-flush = flush-at configs (Tick number now) out old new number i gateway h h.at

  pub tick-served : (p : NewPut) → Contains (puts_by_tick gateway.config.gateway gateway.config.advertise gateway.config.field (seen_of gateway.taken) gateway.local now) p → IsServed gateway out p.client p.topic p.qos p.body Holds
  tick-served p there =
      serve new i gateway Clock now out tick-flush ticked Holds (holds ticked.next ticked.here) p
      (subst (λ (ps : List NewPut). Contains ps p)
      (sym (tick-messages gateway.config.gateway gateway.config.lifetime gateway.config.advertise gateway.config.field gateway.config.predefined (seen_of gateway.taken) gateway.local now ticked.step.0 ticked.step.1)) there)

-- ---- whatever was told of

-- the gateway that made the message with the delta, after that
pub record IsPutAt (new : Field) (i : ℕ) (gateway : Gateway) (delta : List Op) (c : List ℕ) (m : Put) : Type 0 where
  pub next : Gateway
  pub here : slice_get new.gateways i ≡ Some next
  pub is : IsPut gateway next delta c m

stepped-put : (configs : List Config) (event : Event) (out : Out) (old new : Field) (number i : ℕ) (gateway : Gateway) (occasion : Occasion) (now : ℕ) (delta : List Op) (c : List ℕ) (m : Put)
    → HasAnswered configs event out old new i gateway → IsAt old number i gateway → HasStepped new i gateway occasion now out → out.made ≡ Some delta → Contains delta (OfPut c m) → IsPutAt new i gateway delta c m
stepped-put configs event out old new number i gateway occasion now delta c m h at s told there = record {
  next = s.next;
  here = s.here;
  is = put-told new i gateway occasion now out (flush-at configs event out old new number i gateway h at) s delta told c m there;
}

made-put : (configs : List Config) (event : Event) (out : Out) (old new : Field) (i : ℕ) (gateway : Gateway) (delta : List Op) (c : List ℕ) (m : Put)
    → HasAnswered configs event out old new i gateway → MayMake event → out.made ≡ Some delta → Contains delta (OfPut c m) → IsPutAt new i gateway delta c m
made-put configs (Frame number a octets now) out old new i gateway delta c m h may told there =
    stepped-put configs (Frame number a octets now) out old new number i gateway (Datagram a octets) now delta c m h h.at (has-stepped old new number i gateway (Datagram a octets) now (said h.answer) out h.at h.says h.after) told there
made-put configs (Tick number now) out old new i gateway delta c m h may told there =
    stepped-put configs (Tick number now) out old new number i gateway Clock now delta c m h h.at (has-stepped old new number i gateway Clock now (said h.answer) out h.at h.says h.after) told there
made-put configs (Take number k) out old new i gateway delta c m h may told there = absurd may
made-put configs (AtOnce number called) out old new i gateway delta c m h may told there = absurd h.after
made-put configs (Asks number peer) out old new i gateway delta c m h may told there = absurd may
made-put configs (WriteFails number bytes sync) out old new i gateway delta c m h may told there = absurd may
made-put configs (Compact number) out old new i gateway delta c m h may told there = absurd may
made-put configs (Restart number kept) out old new i gateway delta c m h may told there = absurd may
made-put configs (Show number) out old new i gateway delta c m h may told there = absurd may

-- the answer to one event reports a delta: the event makes one
told-makes : (old new : Field) (event : Event) (answer : Result (Arc Out Global) NodeFault) (out : Out) (delta : List Op) → After old event (Node answer) new → said answer ≡ Ok out → out.made ≡ Some delta → MayMake event
told-makes old new event answer out delta after says told =
    let made : Contains (made_of (said answer)) delta =
    subst (λ (r : Result Out Refusal). Contains (made_of r) delta) (sym says)
    (subst (λ (o : Option (List Op)). Contains (option_to_list o) delta) (sym told) (Contains-push [] delta)) in
    after-makes old new event (Node answer) delta after made

-- and the gateway goes on
makes-runs : (configs : List Config) (event : Event) (out : Out) (old new : Field) (i : ℕ) (gateway : Gateway) → HasAnswered configs event out old new i gateway → MayMake event → gateway.drive.halted ≡ false
makes-runs configs (Frame number a octets now) out old new i gateway h may = (has-stepped old new number i gateway (Datagram a octets) now (said h.answer) out h.at h.says h.after).step.3
makes-runs configs (Tick number now) out old new i gateway h may = (has-stepped old new number i gateway Clock now (said h.answer) out h.at h.says h.after).step.3
makes-runs configs (Take number k) out old new i gateway h may = absurd may
makes-runs configs (AtOnce number called) out old new i gateway h may = absurd h.after
makes-runs configs (Asks number peer) out old new i gateway h may = absurd may
makes-runs configs (WriteFails number bytes sync) out old new i gateway h may = absurd may
makes-runs configs (Compact number) out old new i gateway h may = absurd may
makes-runs configs (Restart number kept) out old new i gateway h may = absurd may
makes-runs configs (Show number) out old new i gateway h may = absurd may

pub told-runs : (configs : List Config) (event : Event) (out : Out) (old new : Field) (i : ℕ) (gateway : Gateway) (delta : List Op) → HasAnswered configs event out old new i gateway → out.made ≡ Some delta → gateway.drive.halted ≡ false
told-runs configs event out old new i gateway delta h told = makes-runs configs event out old new i gateway h (told-makes old new event h.answer out delta h.after h.says told)

pub told-put : (configs : List Config) (event : Event) (out : Out) (old new : Field) (i : ℕ) (gateway : Gateway) (delta : List Op) (c : List ℕ) (m : Put)
    → HasAnswered configs event out old new i gateway → out.made ≡ Some delta → Contains delta (OfPut c m) → IsPutAt new i gateway delta c m
told-put configs event out old new i gateway delta c m h told there =
    made-put configs event out old new i gateway delta c m h (told-makes old new event h.answer out delta h.after h.says told) told there

-- ---- and it is kept

pub keeping : (new : Field) (i : ℕ) (gateway : Gateway) (out : Out) (next : Gateway) → slice_get new.gateways i ≡ Some next → Making gateway next out (IsKeptFrom new i)
keeping new i gateway out next here = λ delta c m told is. kept-from gateway next delta c m is new i here
