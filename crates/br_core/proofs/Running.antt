-- Every run acknowledges behind the other side, and hands on what came.
use Rattle.std.proofs.Common.{◌≡◌, ◌∙◌, ◌==◌, ℕ, suc, Bool, true, false, if◌then◌else◌, List, [], ◌∷◌, ◌++◌, map, Option, Some, None, refl, sym, ap, subst, inl, inr, eqb-true}
use Rattle.std.specs.Prelude.{nat_le, slice_get}
use Rattle.std.specs.List.{AllByRecursion}
use Rattle.std.proofs.lemmas.Bool.{and_parts}
use Rattle.mq_packet.specs.declared.packet.Delivery.{Delivery}
use Rattle.mq_packet.specs.declared.packet.Delivery.TheVariants as deliveries
use Rattle.mq_packet.specs.declared.packet.Packet.{Packet}
use Rattle.mq_packet.specs.declared.packet.Packet.TheVariants as packets
use Rattle.sn_frame.specs.declared.frame.Frame.{Frame}
use Rattle.sn_frame.specs.declared.frame.Frame.TheVariants as frames
use Rattle.br_core.specs.declared.action.Action.{Action}
use Rattle.br_core.specs.declared.event.Event.{Event}
use Rattle.br_core.specs.declared.event.Event.TheVariants as events
use Rattle.br_core.specs.declared.item.Command.{Command}
use Rattle.br_core.specs.declared.item.Flight.{Flight}
use Rattle.br_core.specs.declared.item.Item.{Item}
use Rattle.br_core.specs.declared.settings.LaneSettings.{LaneSettings}
use Rattle.br_core.specs.declared.settings.Settings.{Settings}
use Rattle.br_core.specs.declared.state.Bridge.{Bridge}
use Rattle.br_core.specs.declared.state.Doing.TheVariants as doings
use Rattle.br_core.specs.declared.state.Lane.{Lane}
use Rattle.br_core.specs.declared.state.Open.{Open}
use Rattle.br_core.specs.Begins.{begun, moment_of, new_lane}
use Rattle.br_core.specs.Commands.{filter_for}
use Rattle.br_core.specs.Runs.{Answered, AreAllowed, Brought, Came, CameDown, CameOver, Come, Handed, IsSent, LeavesKept, MayTell, Spooled, WasFound, after, after_from, run_done, done_from, stepped}
use Rattle.br_core.specs.Sides.{item_in_flight}
use Rattle.br_core.specs.Lanes.{lane_frame}
use Rattle.br_core.specs.Steps.{nothing_out, delivery_id, lane_does}
use Rattle.br_core.proofs.Just.{Flown, Stand, event-just, sent-more}
use Rattle.br_core.proofs.Lists.{all-map, later-on, no-more, one-more, regroup}
use Rattle.br_core.proofs.Walk.{AreGood, AtPlaces, FirstMay, FrameCame, FrameIn, FrameMay, FrameOwn, ItemDone, LaneJust, LastJust, PacketDone, Reasons, Tells, Took, map-places}

-- ---- runs

pub after-one : (settings : Settings) (b : Bridge) (run : List Come) (come : Come) → after_from settings b (run ++ come ∷ []) ≡ stepped settings (after_from settings b run) come
after-one settings b [] come = refl
after-one settings b (first ∷ more) come = after-one settings (stepped settings b first) more come

-- what was to be done, and what is after one thing more has come
done-one : (settings : Settings) (b : Bridge) (run : List Come) (come : Come)
    → done_from settings b (run ++ come ∷ []) ≡ done_from settings b run ++ (stepped settings (after_from settings b run) come).out
done-one settings b [] come = no-more (stepped settings b come).out
done-one settings b (first ∷ more) come =
    let next : Bridge = stepped settings b first in
    ap (λ (xs : List Action). next.out ++ xs) (done-one settings next more come)
    ∙ sym (regroup next.out (done_from settings next more) (stepped settings (after_from settings next more) come).out)

pub handed-on : (settings : Settings) (run more : List Come) (number : ℕ) → Handed settings run number → Handed settings (run ++ more) number
handed-on settings run more number h =
    record {
      earlier = h.earlier;
      later = h.later ++ more;
      id = h.id;
      moment = h.moment;
      item = h.item;
      comes = later-on run h.earlier (events.Broker (packets.PubAck h.id), h.moment) h.later more h.comes;
      taken = h.taken;
      same = h.same;
      came = h.came;
      sent = h.sent;
    }

spooled-on : (settings : Settings) (run more : List Come) (number : ℕ) → Spooled settings run number → Spooled settings (run ++ more) number
spooled-on settings run more number h =
    record {
      earlier = h.earlier;
      later = h.later ++ more;
      below = h.below;
      moment = h.moment;
      comes = later-on run h.earlier (events.Stored h.below, h.moment) h.later more h.comes;
      spools = h.spools;
      given = h.given;
      under = h.under;
    }

answered-on : (settings : Settings) (run more : List Come) (number : ℕ) → Answered settings run number → Answered settings (run ++ more) number
answered-on settings run more number (inl h) = inl (handed-on settings run more number h)
answered-on settings run more number (inr h) = inr (spooled-on settings run more number h)

brought-on : (settings : Settings) (run more : List Come) (place number msg_id : ℕ) → Brought settings run place number msg_id → Brought settings (run ++ more) place number msg_id
brought-on settings run more place number msg_id h =
    record {
      earlier = h.earlier;
      later = h.later ++ more;
      flags = h.flags;
      topic = h.topic;
      body = h.body;
      moment = h.moment;
      comes = later-on run h.earlier (events.Field place (frames.Publish h.flags h.topic msg_id h.body), h.moment) h.later more h.comes;
      next = h.next;
      took = h.took;
    }

over-on : (settings : Settings) (run more : List Come) (item : Item) → CameOver settings run item → CameOver settings (run ++ more) item
over-on settings run more item h =
    record {
      earlier = h.earlier;
      later = h.later ++ more;
      flags = h.flags;
      topic = h.topic;
      msg_id = h.msg_id;
      moment = h.moment;
      own = h.own;
      lane = h.lane;
      name = h.name;
      up = h.up;
      comes = later-on run h.earlier (events.Field item.lane (frames.Publish h.flags h.topic h.msg_id item.body), h.moment) h.later more h.comes;
      next = h.next;
      took = h.took;
      has_own = h.has_own;
      has_lane = h.has_lane;
      has_name = h.has_name;
      has_up = h.has_up;
      goes_to = h.goes_to;
      is_kept = h.is_kept;
    }

found-on : (run more : List Come) (item : Item) → WasFound run item → WasFound (run ++ more) item
found-on run more item h =
    record {
      earlier = h.earlier;
      later = h.later ++ more;
      moment = h.moment;
      comes = later-on run h.earlier (events.Found item, h.moment) h.later more h.comes;
    }

came-on : (settings : Settings) (run more : List Come) (item : Item) → Came settings run item → Came settings (run ++ more) item
came-on settings run more item (inl h) = inl (over-on settings run more item h)
came-on settings run more item (inr h) = inr (found-on run more item h)

down-on : (settings : Settings) (run more : List Come) (command : Command) → CameDown settings run command → CameDown settings (run ++ more) command
down-on settings run more command h =
    record {
      earlier = h.earlier;
      later = h.later ++ more;
      delivery = h.delivery;
      retain = h.retain;
      moment = h.moment;
      comes = later-on run h.earlier (events.Broker (packets.Publish h.delivery h.retain command.from command.body), h.moment) h.later more h.comes;
      has_id = h.has_id;
      goes_to = h.goes_to;
    }

last-on : (settings : Settings) (run more : List Come) (place : ℕ) (last : Option Open)
    → LastJust (Answered settings run) (Brought settings run) place last
    → LastJust (Answered settings (run ++ more)) (Brought settings (run ++ more)) place last
last-on settings run more place None h = tt
last-on settings run more place (Some held) h =
    (brought-on settings run more place held.number held.msg_id h.0, λ e. answered-on settings run more held.number (h.1 e))

-- ---- what stands after a run

-- What lanes have open came over them, and is answered only if the broker or the spool has it. What
-- waits and what is in flight came, and what is in flight was sent. Commands came.
abbrev pub Standing : Settings → List Come → Type 0
Standing settings run =
    Stand (Answered settings run) (Brought settings run) (Came settings run) (CameDown settings run) (run_done settings run)
    (after settings run).lanes (after settings run).waiting (after settings run).flight (after settings run).down.queue

-- what an acknowledgement takes out of flight came, and was sent under the id
taken-by : (Came : Item → Type 0) (out : List Action) (id : ℕ) (one : Flight) (more : List Flight) (item : Item) (c : Bool) → (one.id == id) ≡ c → Flown Came out one
    → (item_in_flight id more ≡ Some item → Came item × IsSent id item out)
    → (if c then Some one.item else item_in_flight id more) ≡ Some item → Came item × IsSent id item out
taken-by Came out id one more item true same h k e =
    let it : one.item ≡ item = cc in
    let under : one.id ≡ id = eqb-true one.id id same in
    let sent : IsSent id one.item out = subst (λ (n : ℕ). IsSent n one.item out) under h.1 in
    subst (λ (x : Item). Came x × IsSent id x out) it (h.0, sent)
taken-by Came out id one more item false same h k e = k e

taken-out : (Came : Item → Type 0) (out : List Action) (id : ℕ) (f : List Flight) (item : Item) → AllByRecursion (Flown Came out) f → item_in_flight id f ≡ Some item
    → Came item × IsSent id item out
taken-out Came out id [] item h e = cc
taken-out Came out id (one ∷ more) item h e = taken-by Came out id one more item (one.id == id) refl h.0 (taken-out Came out id more item h.1) e

-- ---- what an event gives as reasons

module _ (settings : Settings) (before : List Come) (moment : ℕ) (stand : Standing settings before) where
  abbrev grown : Event → List Come
  grown event = before ++ (event, moment) ∷ []

  abbrev here : Bridge
  here = nothing_out (after settings before)

  -- what the lane makes of a frame, and what the bridge does
  abbrev made : ℕ → Frame → LaneSettings → Lane → Bridge
  made place frame own x = lane_frame settings place (moment_of moment) frame own x here

  took-by : (place : ℕ) (frame : Frame) (own : LaneSettings) (x : Lane) → slice_get settings.lanes place ≡ Some own → slice_get here.lanes place ≡ Some x
      → Took here (made place frame own x) → Took here (stepped settings (after settings before) (events.Field place frame, moment))
  took-by place frame own x mine there took =
      let f : LaneSettings → Lane → Bridge → Bridge = lane_frame settings place (moment_of moment) frame in
      let P : Option LaneSettings → Option Lane → Type 0 = λ o y. Took here (lane_does o y f here) in
      subst (λ (o : Option LaneSettings). P o (slice_get here.lanes place)) (sym mine) (subst (λ (y : Option Lane). P (Some own) y) (sym there) took)

  field-own : (place : ℕ) (frame : Frame) (own : LaneSettings) (x : Lane) → slice_get settings.lanes place ≡ Some own → slice_get here.lanes place ≡ Some x
      → FrameOwn (Brought settings (grown (events.Field place frame))) place frame here (made place frame own x)
  field-own place (frames.Publish flags topic msg_id body) own x mine there = λ took.
      record {
        earlier = before;
        later = [];
        flags = flags;
        topic = topic;
        body = body;
        moment = moment;
        comes = refl;
        next = refl;
        took = took-by place (frames.Publish flags topic msg_id body) own x mine there took;
      }
  field-own place frame own x mine there = tt

  field-came : (place : ℕ) (frame : Frame) (own : LaneSettings) (x : Lane) → slice_get settings.lanes place ≡ Some own → slice_get here.lanes place ≡ Some x
      → FrameCame (Came settings (grown (events.Field place frame))) own x.ids place frame here (made place frame own x)
  field-came place (frames.Publish flags topic msg_id body) own x mine there = λ took name up level named is.
      inl (record {
        earlier = before;
        later = [];
        flags = flags;
        topic = topic;
        msg_id = msg_id;
        moment = moment;
        own = own;
        lane = x;
        name = name;
        up = up;
        comes = refl;
        next = refl;
        took = took-by place (frames.Publish flags topic msg_id body) own x mine there took;
        has_own = mine;
        has_lane = there;
        has_name = named;
        has_up = is;
        goes_to = refl;
        is_kept = refl;
      })
  field-came place frame own x mine there = tt

  field-reasons : (place : ℕ) (frame : Frame)
      → FrameIn (Brought settings (grown (events.Field place frame))) (Came settings (grown (events.Field place frame))) settings place (moment_of moment) frame here
  field-reasons place frame = λ own x mine there. (field-own place frame own x mine there, field-came place frame own x mine there)

  accepted-first : (topic_id msg_id code : ℕ) (queue : List Command)
      → here.down.doing ≡ doings.Publishing → msg_id ≡ here.down.msg_id → code ≡ 0 → here.down.queue ≡ queue → AllByRecursion (CameDown settings before) queue
      → FirstMay (MayTell settings (grown (events.Commands (frames.PubAck topic_id msg_id code)))) queue
  accepted-first topic_id msg_id code [] doing asked accepted e all = tt
  accepted-first topic_id msg_id code (command ∷ more) doing asked accepted e all = λ wanted.
      inl (record {
        earlier = before;
        topic_id = topic_id;
        msg_id = msg_id;
        moment = moment;
        comes = ap (λ n. before ++ (events.Commands (frames.PubAck topic_id msg_id n), moment) ∷ []) accepted;
        doing = doing;
        asked = asked;
        first = (command, more, e, refl, all.0);
      })

  command-reasons : (frame : Frame)
      → FrameMay (MayTell settings (grown (events.Commands frame))) frame here
  command-reasons (frames.PubAck topic_id msg_id code) = λ doing asked accepted.
      accepted-first topic_id msg_id code here.down.queue doing asked accepted refl stand.3
  command-reasons frame = tt

  pub handed-item : (id : ℕ) (item : Option Item) → item_in_flight id here.flight ≡ item → ItemDone (Handed settings (grown (events.Broker (packets.PubAck id)))) item
  handed-item id None e = tt
  handed-item id (Some item) e =
      let has : Came settings before item × IsSent id item (run_done settings before) = taken-out (Came settings before) (run_done settings before) id here.flight item stand.2 e in
      record {
        earlier = before;
        later = [];
        id = id;
        moment = moment;
        item = item;
        comes = refl;
        taken = e;
        same = refl;
        came = has.0;
        sent = has.1;
      }

  old-publication : (delivery : Delivery) (retain : Bool) (topic body : List ℕ) → retain ≡ true → LeavesKept (filter_for topic settings.downs)
      → Tells (MayTell settings (grown (events.Broker (packets.Publish delivery retain topic body)))) (delivery_id delivery)
  old-publication deliveries.Once retain topic body e left = λ wanted. cc
  old-publication (deliveries.Acknowledged id dup) retain topic body e left = λ wanted.
      inr (inr (record {
        earlier = before;
        dup = dup;
        topic = topic;
        body = body;
        moment = moment;
        comes = ap (λ kept. before ++ (events.Broker (packets.Publish (deliveries.Acknowledged id dup) kept topic body), moment) ∷ []) e;
        left = left;
      }))

  broker-reasons : (packet : Packet)
      → PacketDone (Handed settings (grown (events.Broker packet))) (MayTell settings (grown (events.Broker packet))) (CameDown settings (grown (events.Broker packet))) settings packet here
  broker-reasons (packets.PubAck id) = handed-item id (item_in_flight id here.flight) refl
  broker-reasons (packets.Publish delivery retain topic body) = (
    λ e left. old-publication delivery retain topic body e left,
    record {
      earlier = before;
      later = [];
      delivery = delivery;
      retain = retain;
      moment = moment;
      comes = refl;
      has_id = refl;
      goes_to = refl;
    },
  )
  broker-reasons packet = tt

  line-first : (line : ℕ) (queue : List Command) → here.down.doing ≡ doings.Refusing line → here.down.queue ≡ queue → AllByRecursion (CameDown settings before) queue
      → FirstMay (MayTell settings (grown (events.Kept line))) queue
  line-first line [] doing e all = tt
  line-first line (command ∷ more) doing e all = λ wanted.
      inr (inl (record {
        earlier = before;
        line = line;
        moment = moment;
        comes = refl;
        doing = doing;
        first = (command, more, e, refl, all.0);
      }))

  found-came : (item : Item) → Came settings (grown (events.Found item)) item
  found-came item = inr (record { earlier = before; later = []; moment = moment; comes = refl })

  spool-has : (below : ℕ) → AreGood (Answered settings (grown (events.Stored below))) settings below here
  spool-has below = λ may number under.
      let both : (settings.spools ≡ true) × (nat_le below here.number ≡ true) = and_parts settings.spools (nat_le below here.number) may in
      inr (record {
        earlier = before;
        later = [];
        below = below;
        moment = moment;
        comes = refl;
        spools = both.0;
        given = both.1;
        under = under;
      })

  pub reasons : (event : Event)
      → Reasons (Answered settings (grown event)) (Handed settings (grown event)) (Brought settings (grown event)) (MayTell settings (grown event)) (Came settings (grown event)) (CameDown settings (grown event)) settings event (moment_of moment) here
  reasons (events.Field place frame) = field-reasons place frame
  reasons (events.Commands frame) = command-reasons frame
  reasons (events.Broker packet) = broker-reasons packet
  reasons (events.Kept line) = λ doing. line-first line here.down.queue doing refl stand.3
  reasons (events.Found item) = found-came item
  reasons (events.Stored below) = spool-has below
  reasons event = tt

-- ---- the law

handed-answers : (settings : Settings) (run : List Come) (number : ℕ) → Handed settings run number → Answered settings run number
handed-answers settings run number h = inl h

-- what stands before a step, in the words of the run that it ends
lifted : (settings : Settings) (before : List Come) (come : Come) → Standing settings before
    → Stand (Answered settings (before ++ come ∷ [])) (Brought settings (before ++ come ∷ [])) (Came settings (before ++ come ∷ [])) (CameDown settings (before ++ come ∷ [])) (run_done settings before ++ [])
    (after settings before).lanes (after settings before).waiting (after settings before).flight (after settings before).down.queue
lifted settings before come h =
    let run : List Come = before ++ come ∷ [] in
    let out : List Action = run_done settings before in
    let flown : (one : Flight) → Flown (Came settings before) out one → Flown (Came settings run) (out ++ []) one =
    λ one p. (came-on settings before (come ∷ []) one.item p.0, sent-more one.id one.item out [] p.1) in (
      map-places (LaneJust (Answered settings before) (Brought settings before)) (LaneJust (Answered settings run) (Brought settings run))
          (after settings before).lanes (λ place x p. last-on settings before (come ∷ []) place x.last p) h.0,
      all-map (Came settings before) (Came settings run) (after settings before).waiting (came-on settings before (come ∷ [])) h.1,
      all-map (Flown (Came settings before) out) (Flown (Came settings run) (out ++ [])) (after settings before).flight flown h.2,
      all-map (CameDown settings before) (CameDown settings run) (after settings before).down.queue (down-on settings before (come ∷ [])) h.3,
    )

-- what stands after a step, and that all that is to be done is just
abbrev Stepped : Settings → List Come → Event → ℕ → Type 0
Stepped settings before event moment =
    Stand (Answered settings (before ++ (event, moment) ∷ [])) (Brought settings (before ++ (event, moment) ∷ [])) (Came settings (before ++ (event, moment) ∷ []))
    (CameDown settings (before ++ (event, moment) ∷ [])) (run_done settings before ++ (stepped settings (after settings before) (event, moment)).out)
    (stepped settings (after settings before) (event, moment)).lanes (stepped settings (after settings before) (event, moment)).waiting
    (stepped settings (after settings before) (event, moment)).flight (stepped settings (after settings before) (event, moment)).down.queue
    × AreAllowed settings (before ++ (event, moment) ∷ []) (stepped settings (after settings before) (event, moment)).out

step-just : (settings : Settings) (before : List Come) (event : Event) (moment : ℕ) → Standing settings before → Stepped settings before event moment
step-just settings before event moment h =
    let run : List Come = before ++ (event, moment) ∷ [] in
    event-just (Answered settings run) (Handed settings run) (handed-answers settings run) (Brought settings run) (MayTell settings run) (Came settings run) (CameDown settings run) (run_done settings before)
    settings event (moment_of moment) (nothing_out (after settings before)) (reasons settings before moment h event) (lifted settings before (event, moment) h, tt)

standing-one : (settings : Settings) (before : List Come) (come : Come) → Standing settings before → Standing settings (before ++ come ∷ [])
standing-one settings before come h =
    let run : List Come = before ++ come ∷ [] in
    let next : Bridge = stepped settings (after settings before) come in
    let after_it : after settings run ≡ next = after-one settings (begun settings) before come in
    let done_it : run_done settings run ≡ run_done settings before ++ next.out = done-one settings (begun settings) before come in
    let P : Bridge → Type 0 = λ b. Stand (Answered settings run) (Brought settings run) (Came settings run) (CameDown settings run) (run_done settings run) b.lanes b.waiting b.flight b.down.queue in
    let Q : List Action → Type 0 = λ out. Stand (Answered settings run) (Brought settings run) (Came settings run) (CameDown settings run) out next.lanes next.waiting next.flight next.down.queue in
    subst P (sym after_it) (subst Q (sym done_it) (step-just settings before come.0 come.1 h).0)

standing-on : (settings : Settings) (before more : List Come) → Standing settings before → Standing settings (before ++ more)
standing-on settings before [] h = subst (λ (run : List Come). Standing settings run) (sym (no-more before)) h
standing-on settings before (come ∷ more) h =
    subst (λ (run : List Come). Standing settings run) (one-more before come more)
    (standing-on settings (before ++ come ∷ []) more (standing-one settings before come h))

new-places : (F : ℕ → Lane → Type 0) (xs : List LaneSettings) → ((n : ℕ) → F n new_lane) → AtPlaces F (map (λ own. new_lane) xs)
new-places F [] k = tt
new-places F (x ∷ xs) k = (k 0, new-places (λ n. F (suc n)) xs (λ n. k (suc n)))

pub standing : (settings : Settings) (run : List Come) → Standing settings run
standing settings run = standing-on settings [] run (new-places (LaneJust (Answered settings []) (Brought settings [])) settings.lanes (λ n. tt), tt, tt, tt)

pub allowed : (settings : Settings) (before : List Come) (event : Event) (moment : ℕ)
    → AreAllowed settings (before ++ (event, moment) ∷ []) (stepped settings (after settings before) (event, moment)).out
allowed settings before event moment = (step-just settings before event moment (standing settings before)).1
