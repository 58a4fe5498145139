-- What holds of lanes, of what is to be done, of what waits, of what is in flight and of commands,
-- and is kept by each small change, holds after each step; whatever makes a reading good, done, a
-- lane's own or one that came, a publication one of which the broker may be told, and a command one
-- that came, if the event gives reasons.
use Rattle.std.proofs.Common.{◌≡◌, ◌∙◌, ◌==◌, ◌+◌, ◌≤◌, ℕ, zero, suc, Bool, true, false, ◌&&◌, not, if◌then◌else◌, List, [], ◌∷◌, ◌++◌, length, fold, Option, Some, None, refl, sym, ap, subst, arith, eqb-true, leb-true}
use Rattle.std.specs.Prelude.{nat_lt, nat_le, slice_get, slice_set}
use Rattle.std.specs.List.{AllByRecursion}
use Rattle.std.specs.Str.{bytes_eq}
use Rattle.std.proofs.lemmas.Bool.{and_parts}
use Rattle.mq_packet.specs.declared.packet.Delivery.{Delivery}
use Rattle.mq_packet.specs.declared.packet.Delivery.TheVariants as deliveries
use Rattle.mq_packet.specs.declared.packet.Packet.{Packet}
use Rattle.mq_packet.specs.declared.packet.Packet.TheVariants as packets
use Rattle.mq_packet.specs.declared.packet.Qos.{Qos}
use Rattle.mq_packet.specs.declared.packet.Qos.TheVariants as levels
use Rattle.sn_frame.specs.declared.flags.Qos.{Qos as FieldQos}
use Rattle.sn_frame.specs.declared.flags.Qos.TheVariants as field_levels
use Rattle.sn_frame.specs.declared.flags.TopicIdType.{TopicIdType}
use Rattle.sn_frame.specs.declared.flags.TopicIdType.TheVariants as kinds
use Rattle.sn_frame.specs.declared.frame.Frame.{Frame}
use Rattle.sn_frame.specs.declared.frame.Frame.TheVariants as frames
use Rattle.sn_frame.specs.FlagBits.{kind_of, qos_of}
use Rattle.br_core.specs.declared.action.Action.{Action}
use Rattle.br_core.specs.declared.action.Action.TheVariants as actions
use Rattle.br_core.specs.declared.action.Why.{Why}
use Rattle.br_core.specs.declared.action.Why.TheVariants as whys
use Rattle.br_core.specs.declared.event.Event.{Event}
use Rattle.br_core.specs.declared.event.Event.TheVariants as events
use Rattle.br_core.specs.declared.item.Command.{Command}
use Rattle.br_core.specs.declared.item.Flight.{Flight}
use Rattle.br_core.specs.declared.item.Item.{Item}
use Rattle.br_core.specs.declared.settings.DownFilter.{DownFilter}
use Rattle.br_core.specs.declared.settings.LaneSettings.{LaneSettings}
use Rattle.br_core.specs.declared.settings.Settings.{Settings}
use Rattle.br_core.specs.declared.settings.UpName.{UpName}
use Rattle.br_core.specs.declared.state.Bridge.{Bridge}
use Rattle.br_core.specs.declared.state.Doing.{Doing}
use Rattle.br_core.specs.declared.state.Doing.TheVariants as doings
use Rattle.br_core.specs.declared.state.Down.{Down}
use Rattle.br_core.specs.declared.state.Lane.{Lane}
use Rattle.br_core.specs.declared.state.Moment.{Moment}
use Rattle.br_core.specs.declared.state.Named.{Named}
use Rattle.br_core.specs.declared.state.Open.{Open}
use Rattle.br_core.specs.declared.state.Phase.{Phase}
use Rattle.br_core.specs.declared.state.Phase.TheVariants as phases
use Rattle.br_core.specs.declared.state.Side.{Side}
use Rattle.br_core.specs.declared.state.Side.TheVariants as sides
use Rattle.br_core.specs.declared.state.TheConstants.{BROKER_KEEP_ALIVE, KEEP_ALIVE, LAST_NUMBER, MAX_IDS, MAX_NAMES, SLEEP, TRIES}
use Rattle.br_core.specs.Sides.{item_in_flight, all_again, at_once, does, free_packet_id, has_window, in_flight, kept_while_away, left_in_flight, next_id, offered, once_more, out_again, sends, sent_along, item_sent, takes, takes_at, item_waits}
use Rattle.br_core.specs.Lanes as lane
use Rattle.br_core.specs.Commands as command
use Rattle.br_core.specs.Steps as whole
use Rattle.br_core.specs.Runs.{IsCommand, IsFrame, IsJust, LeavesKept, field_topic, topic_by}

-- ---- lanes in their places

-- each lane has what belongs to its place
abbrev pub AtPlaces : (ℕ → Lane → Type 0) → List Lane → Type 0
AtPlaces F [] = Unit {0}
AtPlaces F (x ∷ more) = F 0 x × AtPlaces (λ n. F (suc n)) more

pub set-places : (F : ℕ → Lane → Type 0) (xs : List Lane) (k : ℕ) (x : Lane) → F k x → AtPlaces F xs → AtPlaces F (slice_set xs k x)
set-places F [] k x p h = tt
set-places F (y ∷ ys) zero x p h = (p, h.1)
set-places F (y ∷ ys) (suc k) x p h = (h.0, set-places (λ n. F (suc n)) ys k x p h.1)

abbrev pub IfThere : (Lane → Type 0) → Option Lane → Type 0
IfThere P None = Unit {0}
IfThere P (Some x) = P x

pub get-places : (F : ℕ → Lane → Type 0) (xs : List Lane) (k : ℕ) → AtPlaces F xs → IfThere (F k) (slice_get xs k)
get-places F [] k h = tt
get-places F (y ∷ ys) zero h = h.0
get-places F (y ∷ ys) (suc k) h = get-places (λ n. F (suc n)) ys k h.1

pub map-places : (F G : ℕ → Lane → Type 0) (xs : List Lane) → ((n : ℕ) (x : Lane) → F n x → G n x) → AtPlaces F xs → AtPlaces G xs
map-places F G [] f h = tt
map-places F G (y ∷ ys) f h = (f 0 y h.0, map-places (λ n. F (suc n)) (λ n. G (suc n)) ys (λ n. f (suc n)) h.1)

-- ---- what is just

-- a lane's open message came over it, and is answered only if it is good
abbrev pub OpenJust : (ℕ → Type 0) → (ℕ → ℕ → ℕ → Type 0) → ℕ → Open → Type 0
OpenJust Good Own place held = Own place held.number held.msg_id × (held.is_answered ≡ true → Good held.number)

abbrev pub LastJust : (ℕ → Type 0) → (ℕ → ℕ → ℕ → Type 0) → ℕ → Option Open → Type 0
LastJust Good Own place None = Unit {0}
LastJust Good Own place (Some held) = OpenJust Good Own place held

abbrev pub LaneJust : (ℕ → Type 0) → (ℕ → ℕ → ℕ → Type 0) → ℕ → Lane → Type 0
LaneJust Good Own place l = LastJust Good Own place l.last

-- the broker may be told of what it wants to be told of: id 0 is none
abbrev pub Tells : (ℕ → Type 0) → ℕ → Type 0
Tells May id = (id == 0) ≡ false → May id

-- and of the first command
abbrev pub FirstMay : (ℕ → Type 0) → List Command → Type 0
FirstMay May [] = Unit {0}
FirstMay May (first ∷ more) = Tells May first.id

-- the item, if there is one, is done
abbrev pub ItemDone : (ℕ → Type 0) → Option Item → Type 0
ItemDone Done None = Unit {0}
ItemDone Done (Some item) = Done item.number

refused : ◌≡◌ {A = ℕ} 2 0 → ⊥
refused e = omega arith

asked-again : ◌≡◌ {A = ℕ} 1 0 → ⊥
asked-again e = omega arith

-- a refusal is no acknowledgement
refusal-at-not : (phase : Phase) → lane.refusal_at phase ≡ 0 → ⊥
refusal-at-not (phases.Subscribing next) e = asked-again e
refusal-at-not phase e = refused e

refusal-not : (kind : TopicIdType) (phase : Phase) → lane.refusal_code kind phase ≡ 0 → ⊥
refusal-not kinds.Normal phase e = refused e
refusal-not kind phase e = refusal-at-not phase e

unanswered : {A : Type 0} → false ≡ true → A
unanswered e = cc

unset : (c : Bool) → not c ≡ true → c ≡ false
unset true e = cc
unset false e = refl

-- the next number was taken
abbrev pub Took : Bridge → Bridge → Type 0
Took b after = after.number ≡ b.number + 1

-- a PUBLISH that takes the next number brings it to its lane
abbrev pub FrameOwn : (ℕ → ℕ → ℕ → Type 0) → ℕ → Frame → Bridge → Bridge → Type 0
FrameOwn Own place (frames.Publish flags topic msg_id body) b after = Took b after → Own place b.number msg_id
FrameOwn Own place frame b after = Unit {0}

-- and what it brings under a name came, for a lane of these names and ids
abbrev pub FrameCame : (Item → Type 0) → LaneSettings → List Named → ℕ → Frame → Bridge → Bridge → Type 0
FrameCame Came own ids place (frames.Publish flags topic msg_id body) b after =
    Took b after → (name : ℕ) (up : UpName) (qos : Qos) → lane.name_meant (kind_of flags.bits) topic own.names ids ≡ Some name
    → slice_get own.names name ≡ Some up → Came (lane.item_of b.number place qos up body)
FrameCame Came own ids place frame b after = Unit {0}

-- both, for the lane that there is, and what it makes of the frame
abbrev pub FrameIn : (ℕ → ℕ → ℕ → Type 0) → (Item → Type 0) → Settings → ℕ → Moment → Frame → Bridge → Type 0
FrameIn Own Came settings place m frame b =
    (own : LaneSettings) (x : Lane) → slice_get settings.lanes place ≡ Some own → slice_get b.lanes place ≡ Some x
    → FrameOwn Own place frame b (lane.lane_frame settings place m frame own x b)
    × FrameCame Came own x.ids place frame b (lane.lane_frame settings place m frame own x b)

-- PUBACK 0 of what was published last lets the broker be told of the first command
abbrev pub FrameMay : (ℕ → Type 0) → Frame → Bridge → Type 0
FrameMay May (frames.PubAck topic_id msg_id code) b =
    b.down.doing ≡ doings.Publishing → msg_id ≡ b.down.msg_id → code ≡ 0 → FirstMay May b.down.queue
FrameMay May frame b = Unit {0}

-- the first command, if there is one, came
abbrev pub FirstAsked : (Command → Type 0) → List Command → Type 0
FirstAsked Asked [] = Unit {0}
FirstAsked Asked (first ∷ more) = Asked first

-- the command that a publication is
abbrev pub command-in : Settings → Delivery → List ℕ → List ℕ → Command
command-in settings delivery topic body =
    record { id = whole.delivery_id delivery; from = topic; topic = field_topic settings topic; body = body }

-- a PUBACK makes the reading in flight done; what the broker had kept may be told at once; what it
-- publishes came
abbrev pub PacketDone : (ℕ → Type 0) → (ℕ → Type 0) → (Command → Type 0) → Settings → Packet → Bridge → Type 0
PacketDone Done May Asked settings (packets.PubAck id) b = ItemDone Done (item_in_flight id b.flight)
PacketDone Done May Asked settings (packets.Publish delivery retain topic body) b =
    (retain ≡ true → LeavesKept (command.filter_for topic settings.downs) → Tells May (whole.delivery_id delivery)) × Asked (command-in settings delivery topic body)
PacketDone Done May Asked settings packet b = Unit {0}

-- what the spool has is good
abbrev pub AreGood : (ℕ → Type 0) → Settings → ℕ → Bridge → Type 0
AreGood Good settings below b = whole.may_keep settings below b ≡ true → (number : ℕ) → nat_lt number below ≡ true → Good number

-- what an event gives as reasons
abbrev pub Reasons : (ℕ → Type 0) → (ℕ → Type 0) → (ℕ → ℕ → ℕ → Type 0) → (ℕ → Type 0) → (Item → Type 0) → (Command → Type 0) → Settings → Event → Moment → Bridge → Type 0
Reasons Good Done Own May Came Asked settings (events.Field place frame) m b = FrameIn Own Came settings place m frame b
Reasons Good Done Own May Came Asked settings (events.Commands frame) m b = FrameMay May frame b
Reasons Good Done Own May Came Asked settings (events.Broker packet) m b = PacketDone Done May Asked settings packet b
Reasons Good Done Own May Came Asked settings (events.Kept line) m b = b.down.doing ≡ doings.Refusing line → FirstMay May b.down.queue
Reasons Good Done Own May Came Asked settings (events.Found item) m b = Came item
Reasons Good Done Own May Came Asked settings (events.Stored below) m b = AreGood Good settings below b
Reasons Good Done Own May Came Asked settings event m b = Unit {0}

-- what holds of lanes, actions, readings that wait, readings in flight, the number of the next one,
-- and commands
abbrev pub Held : Type 1
Held = List Lane → List Action → List Item → List Flight → ℕ → List Command → Type 0

abbrev pub At : Held → Bridge → Type 0
At P b = P b.lanes b.out b.waiting b.flight b.number b.down.queue

-- a reading has come, which takes its number
abbrev pub one-taken : Item → Bridge → Bridge
one-taken item b = record b { number = item.number + 1 }

-- a reading without a packet id, and one under a packet id, that go out for the first time
abbrev pub goes-out : Item → Action
goes-out item = actions.Reading item.number (at_once item)

abbrev pub flies-out : ℕ → Item → Action
flies-out id item = actions.Reading item.number (in_flight false (record { id = id; item = item }))

-- what is done beside first sendings of readings
abbrev pub IsOther : Action → Type 0
IsOther (actions.Reading number packet) = ⊥
IsOther action = Unit {0}

-- It is kept if a reading that came waits or goes out, and if the first one that waits goes out.
pub record IsKept (Came : Item → Type 0) (P : Held) : Type 0 where
  pub queued : (item : Item) (l : List Lane) (out : List Action) (w : List Item) (f : List Flight) (n : ℕ) (q : List Command) → Came item → P l out w f n q → P l out (w ++ item ∷ []) f n q
  pub goes : (item : Item) (l : List Lane) (out : List Action) (w : List Item) (f : List Flight) (n : ℕ) (q : List Command) → Came item → P l out w f n q → P l (out ++ goes-out item ∷ []) w f n q
  pub flies : (id : ℕ) (item : Item) (l : List Lane) (out : List Action) (w : List Item) (f : List Flight) (n : ℕ) (q : List Command) → Came item → P l out w f n q
      → P l (out ++ flies-out id item ∷ []) w (f ++ record { id = id; item = item } ∷ []) n q
  pub goes_first : (item : Item) (more : List Item) (l : List Lane) (out : List Action) (f : List Flight) (n : ℕ) (q : List Command) → item.qos ≡ levels.Zero → P l out (item ∷ more) f n q
      → P l (out ++ goes-out item ∷ []) more f n q
  pub flies_first : (id : ℕ) (item : Item) (more : List Item) (l : List Lane) (out : List Action) (f : List Flight) (n : ℕ) (q : List Command) → P l out (item ∷ more) f n q
      → P l (out ++ flies-out id item ∷ []) more (f ++ record { id = id; item = item } ∷ []) n q
  pub counts : (m : ℕ) (l : List Lane) (out : List Action) (w : List Item) (f : List Flight) (n : ℕ) (q : List Command) → n ≤ m → P l out w f n q → P l out w f m q

-- And of whole bridges: if something else than a first sending is to be done, if a lane changes, if
-- a reading that came is taken, if numbers are passed over, if what waits is sent, if what is in
-- flight goes out again, and if what is done leaves it; if a command that came waits, if the first
-- one is done, and if all are left; and it says what lanes and commands are.
pub record IsWalked (Good : ℕ → Type 0) (Done : ℕ → Type 0) (Own : ℕ → ℕ → ℕ → Type 0) (May : ℕ → Type 0) (Came : Item → Type 0) (Asked : Command → Type 0) (P : Held) : Type 0 where
  pub acts : (a : Action) (l : List Lane) (out : List Action) (w : List Item) (f : List Flight) (n : ℕ) (q : List Command) → IsOther a → IsJust Good Done Own May Came Asked a → P l out w f n q
      → P l (out ++ a ∷ []) w f n q
  pub placed : (place : ℕ) (x : Lane) (l : List Lane) (out : List Action) (w : List Item) (f : List Flight) (n : ℕ) (q : List Command) → LaneJust Good Own place x → P l out w f n q
      → P (slice_set l place x) out w f n q
  pub there : (place : ℕ) (l : List Lane) (out : List Action) (w : List Item) (f : List Flight) (n : ℕ) (q : List Command) → P l out w f n q → IfThere (LaneJust Good Own place) (slice_get l place)
  pub taken : (settings : Settings) (item : Item) (b : Bridge) → b.number ≤ item.number → Came item → At P b → At P (takes settings item (one-taken item b))
  pub counts : (m : ℕ) (l : List Lane) (out : List Action) (w : List Item) (f : List Flight) (n : ℕ) (q : List Command) → n ≤ m → P l out w f n q → P l out w f m q
  pub offers : (settings : Settings) (b : Bridge) → At P b → At P (sends settings b)
  pub repeated : (l : List Lane) (out : List Action) (w : List Item) (f : List Flight) (n : ℕ) (q : List Command) → P l out w f n q → P l (fold out_again out f) w f n q
  pub left : (id : ℕ) (l : List Lane) (out : List Action) (w : List Item) (f : List Flight) (n : ℕ) (q : List Command) → ItemDone Done (item_in_flight id f) → P l out w f n q
      → P l out w (left_in_flight id f) n q
  pub asks : (one : Command) (l : List Lane) (out : List Action) (w : List Item) (f : List Flight) (n : ℕ) (q : List Command) → Asked one → P l out w f n q → P l out w f n (q ++ one ∷ [])
  pub ends : (first : Command) (more : List Command) (l : List Lane) (out : List Action) (w : List Item) (f : List Flight) (n : ℕ) → P l out w f n (first ∷ more) → P l out w f n more
  pub clears : (l : List Lane) (out : List Action) (w : List Item) (f : List Flight) (n : ℕ) (q : List Command) → P l out w f n q → P l out w f n []
  pub owes : (l : List Lane) (out : List Action) (w : List Item) (f : List Flight) (n : ℕ) (q : List Command) → P l out w f n q → AllByRecursion Asked q

-- a reading that is taken leaves the number of the next one as it was
sent-number : (qos : Qos) (item : Item) (b : Bridge) → (item_sent qos item b).number ≡ b.number
sent-number levels.Zero item b = refl
sent-number levels.One item b = refl

offered-number : (c : Bool) (item : Item) (b : Bridge) → (if c then item_sent item.qos item b else item_waits item b).number ≡ b.number
offered-number true item b = sent-number item.qos item b
offered-number false item b = refl

kept-number : (qos : Qos) (item : Item) (b : Bridge) → (kept_while_away qos item b).number ≡ b.number
kept-number levels.Zero item b = refl
kept-number levels.One item b = refl

takes-number : (side : Side) (settings : Settings) (item : Item) (b : Bridge) → (takes_at side settings item b).number ≡ b.number
takes-number sides.Up settings item b = offered-number ((length b.waiting == 0) && has_window settings item.qos b.flight) item b
takes-number side settings item b = kept-number item.qos item b

stored-number : (spools : Bool) (item : Item) (b : Bridge) → (if spools then does (actions.Store item) b else b).number ≡ b.number
stored-number true item b = refl
stored-number false item b = refl

-- what was taken by the one of two that a test has chosen
took-first : (c : Bool) (b x y : Bridge) → c ≡ true → Took b x → Took b (if c then x else y)
took-first true b x y e h = h
took-first false b x y e h = cc

took-second : (c : Bool) (b x y : Bridge) → c ≡ false → Took b y → Took b (if c then x else y)
took-second true b x y e h = cc
took-second false b x y e h = h

-- what is sent leaves what waits as it was
pub sent-waiting : (qos : Qos) (item : Item) (b : Bridge) → (item_sent qos item b).waiting ≡ b.waiting
sent-waiting levels.Zero item b = refl
sent-waiting levels.One item b = refl

-- ---- a reading is offered

module _ (Came : Item → Type 0) (P : Held) (kept : IsKept Came P) where
  abbrev K : Bridge → Type 0
  K b = At P b

  choose-kept : (c : Bool) (x y : Bridge) → K x → K y → K (if c then x else y)
  choose-kept true x y p q = p
  choose-kept false x y p q = q

  sent-at-kept : (qos : Qos) (item : Item) (b : Bridge) → Came item → K b → K (item_sent qos item b)
  sent-at-kept levels.Zero item b came h = kept.goes item b.lanes b.out b.waiting b.flight b.number b.down.queue came h
  sent-at-kept levels.One item b came h = kept.flies (free_packet_id b.packet_id b.flight) item b.lanes b.out b.waiting b.flight b.number b.down.queue came h

  waits-kept : (item : Item) (b : Bridge) → Came item → K b → K (item_waits item b)
  waits-kept item b came h = kept.queued item b.lanes b.out b.waiting b.flight b.number b.down.queue came h

  offered-kept : (settings : Settings) (b : Bridge) (item : Item) → Came item → K b → K (offered settings b item)
  offered-kept settings b item came h =
      choose-kept ((length b.waiting == 0) && has_window settings item.qos b.flight) (item_sent item.qos item b) (item_waits item b)
      (sent-at-kept item.qos item b came h) (waits-kept item b came h)

  kept-at-kept : (qos : Qos) (item : Item) (b : Bridge) → Came item → K b → K (kept_while_away qos item b)
  kept-at-kept levels.Zero item b came h = h
  kept-at-kept levels.One item b came h = waits-kept item b came h

  takes-at-kept : (side : Side) (settings : Settings) (item : Item) (b : Bridge) → Came item → K b → K (takes_at side settings item b)
  takes-at-kept sides.Up settings item b came h = offered-kept settings b item came h
  takes-at-kept side settings item b came h = kept-at-kept item.qos item b came h

  pub taken-kept : (settings : Settings) (item : Item) (b : Bridge) → b.number ≤ item.number → Came item → K b → K (takes settings item (one-taken item b))
  taken-kept settings item b e came h =
      let next : b.number ≤ item.number + 1 = omega arith in
      takes-at-kept b.side settings item (one-taken item b) came (kept.counts (item.number + 1) b.lanes b.out b.waiting b.flight b.number b.down.queue next h)

  -- ---- what waits is sent

  first-kept : (qos : Qos) (item : Item) (more : List Item) (b : Bridge) → item.qos ≡ qos → P b.lanes b.out (item ∷ more) b.flight b.number b.down.queue → K (item_sent qos item (record b { waiting = more }))
  first-kept levels.Zero item more b e h = kept.goes_first item more b.lanes b.out b.flight b.number b.down.queue e h
  first-kept levels.One item more b e h = kept.flies_first (free_packet_id b.packet_id b.flight) item more b.lanes b.out b.flight b.number b.down.queue h

  along-kept : (settings : Settings) (items : List Item) (b : Bridge) → b.waiting ≡ items → K b → K (sent_along settings items b)
  along-kept settings [] b e h = h
  along-kept settings (item ∷ more) b e h =
      let first : Bridge = record b { waiting = more } in
      let here : P b.lanes b.out (item ∷ more) b.flight b.number b.down.queue = subst (λ (w : List Item). P b.lanes b.out w b.flight b.number b.down.queue) e h in
      choose-kept (has_window settings item.qos b.flight) (sent_along settings more (item_sent item.qos item first)) b
      (along-kept settings more (item_sent item.qos item first) (sent-waiting item.qos item first) (first-kept item.qos item more b refl here)) h

  pub sends-kept : (settings : Settings) (b : Bridge) → K b → K (sends settings b)
  sends-kept settings b h = along-kept settings b.waiting b refl h

-- ---- all the rest

module _ (Good : ℕ → Type 0) (Done : ℕ → Type 0) (lift : (n : ℕ) → Done n → Good n) (Own : ℕ → ℕ → ℕ → Type 0) (May : ℕ → Type 0) (Came : Item → Type 0) (Asked : Command → Type 0) (P : Held) (walked : IsWalked Good Done Own May Came Asked P) where
  abbrev J : Bridge → Type 0
  J b = At P b

  abbrev L : ℕ → Lane → Type 0
  L place x = LaneJust Good Own place x

  choose : (c : Bool) (x y : Bridge) → J x → J y → J (if c then x else y)
  choose true x y p q = p
  choose false x y p q = q

  choose-by : (c : Bool) (x y : Bridge) → (c ≡ true → J x) → J y → J (if c then x else y)
  choose-by true x y p q = p refl
  choose-by false x y p q = q

  choose-each : (c : Bool) (x y : Bridge) → (c ≡ true → J x) → (c ≡ false → J y) → J (if c then x else y)
  choose-each true x y p q = p refl
  choose-each false x y p q = q refl

  choose-not : (c : Bool) (x y : Bridge) → J x → (c ≡ false → J y) → J (if c then x else y)
  choose-not true x y p q = p
  choose-not false x y p q = q refl

  does-just : (a : Action) (b : Bridge) → IsOther a → IsJust Good Done Own May Came Asked a → J b → J (does a b)
  does-just a b o p h = walked.acts a b.lanes b.out b.waiting b.flight b.number b.down.queue o p h

  put-just : (place : ℕ) (x : Lane) (b : Bridge) → L place x → J b → J (lane.seated place x b)
  put-just place x b p h = walked.placed place x b.lanes b.out b.waiting b.flight b.number b.down.queue p h

  says-just : (place : ℕ) (frame : Frame) (x : Lane) (b : Bridge) → IsFrame Good Own place frame → L place x → J b → J (lane.says place frame x b)
  says-just place frame x b f p h = does-just (actions.ToField place frame) (lane.seated place x b) tt f (put-just place x b p h)

  -- ---- towards the broker

  sends-just : (settings : Settings) (b : Bridge) → J b → J (sends settings b)
  sends-just settings b h = walked.offers settings b h

  all-again-just : (b : Bridge) → J b → J (all_again b)
  all-again-just b h = walked.repeated b.lanes b.out b.waiting b.flight b.number b.down.queue h

  -- ---- lanes

  connecting-just : (own : LaneSettings) (place : ℕ) (m : Moment) (x : Lane) (b : Bridge) → J b → J (lane.connecting own place m x b)
  connecting-just own place m x b h =
      says-just place (frames.Connect (record { bits = 0 }) 1 KEEP_ALIVE own.client)
      (record x { phase = phases.Connecting; tries = once_more x.tries; due = m.retry; ids = []; last = None }) b tt tt h

  subscribing-at-just : (up : Option UpName) (place next : ℕ) (m : Moment) (x : Lane) (b : Bridge) → L place x → J b → J (lane.subscribing_at up place next m x b)
  subscribing-at-just None place next m x b p h = put-just place (record x { phase = phases.Listening; tries = 0; due = m.ping }) b p h
  subscribing-at-just (Some up) place next m x b p h =
      says-just place (frames.Subscribe (lane.subscribe_flags up) x.msg_id up.name)
      (record x { phase = phases.Subscribing next; tries = once_more x.tries; due = m.retry; msg_id = next_id x.msg_id }) b tt p h

  subscribing-just : (own : LaneSettings) (place next : ℕ) (m : Moment) (x : Lane) (b : Bridge) → L place x → J b → J (lane.subscribing own place next m x b)
  subscribing-just own place next m x b p h = subscribing-at-just (slice_get own.names next) place next m x b p h

  asleep-in-just : (phase : Phase) (place : ℕ) (x : Lane) (b : Bridge) → L place x → J b → J (lane.asleep_in phase place x b)
  asleep-in-just phases.Away place x b p h = put-just place (record x { phase = phases.Asleep; tries = 0 }) b p h
  asleep-in-just phases.Asleep place x b p h = h
  asleep-in-just phase place x b p h =
      says-just place (frames.Disconnect (Some SLEEP)) (record x { phase = phases.Asleep; tries = 0 }) b tt p h

  counted-just : (settings : Settings) (place : ℕ) (qos : Qos) (up : UpName) (body : List ℕ) (b : Bridge) → Came (lane.item_of b.number place qos up body) → J b
      → J (lane.reading_counted settings place qos up body b)
  counted-just settings place qos up body b came h =
      let same : b.number ≤ b.number = omega arith in
      walked.taken settings (lane.item_of b.number place qos up body) b same came h

  stored-just : (settings : Settings) (item : Item) (b : Bridge) → Came item → J b → J (lane.stored settings item b)
  stored-just settings item b came h = choose settings.spools (does (actions.Store item) b) b (does-just (actions.Store item) b tt came h) h

  brings-just : (settings : Settings) (place name : ℕ) (up : UpName) (topic_id msg_id : ℕ) (body : List ℕ) (x : Lane) (b : Bridge)
      → (Took b (lane.brings settings place name up topic_id msg_id body x b) → Own place b.number msg_id)
      → (Took b (lane.brings settings place name up topic_id msg_id body x b) → Came (lane.item_of b.number place levels.One up body)) → L place x → J b
      → J (lane.brings settings place name up topic_id msg_id body x b)
  brings-just settings place name up topic_id msg_id body x b own came p h =
      let brought : Lane = record x { last = Some (lane.open_of b.number name topic_id msg_id body) } in
      let item : Item = lane.item_of b.number place levels.One up body in
      let seated : Bridge = lane.seated place brought b in
      let counted : Bridge = lane.reading_counted settings place levels.One up body seated in
      let kept : Bridge = lane.stored settings item counted in
      let asleep : Bridge = lane.asleep_in x.phase place x b in
      let more : Took b kept = stored-number settings.spools item counted ∙ takes-number b.side settings item (record seated { number = b.number + 1 }) in
      choose-by (lane.reading_has_room settings body b) kept asleep
      (λ e.
      let took : Took b (lane.brings settings place name up topic_id msg_id body x b) = took-first (lane.reading_has_room settings body b) b kept asleep e more in
      stored-just settings item counted (came took)
      (counted-just settings place levels.One up body seated (came took) (put-just place brought b (own took, unanswered) h)))
      (asleep-in-just x.phase place x b p h)

  again-at-just : (c : Bool) (place topic_id msg_id : ℕ) (held : Open) (x : Lane) (b : Bridge)
      → held.is_answered ≡ c → held.msg_id ≡ msg_id → OpenJust Good Own place held → J b → J (lane.again_at c place topic_id msg_id held x b)
  again-at-just true place topic_id msg_id held x b e same o h =
      says-just place (frames.PubAck topic_id msg_id 0) (record x { last = Some (record held { topic_id = topic_id }) }) b
      (λ none. (held.number, o.1 e, subst (λ id. Own place held.number id) same o.0)) o h
  again-at-just false place topic_id msg_id held x b e same o h =
      put-just place (record x { last = Some (record held { topic_id = topic_id }) }) b o h

  same-id : (name msg_id : ℕ) (body : List ℕ) (held : Open) → lane.is_same name msg_id body held ≡ true → held.msg_id ≡ msg_id
  same-id name msg_id body held e =
      let both = and_parts ((held.name == name) && (held.msg_id == msg_id)) (bytes_eq held.body body) e in
      eqb-true held.msg_id msg_id (and_parts (held.name == name) (held.msg_id == msg_id) both.0).1

  brings-if-just : (last : Option Open) (settings : Settings) (place name : ℕ) (up : UpName) (topic_id msg_id : ℕ) (body : List ℕ) (x : Lane) (b : Bridge)
      → LastJust Good Own place last → (Took b (lane.brings_if last settings place name up topic_id msg_id body x b) → Own place b.number msg_id)
      → (Took b (lane.brings_if last settings place name up topic_id msg_id body x b) → Came (lane.item_of b.number place levels.One up body)) → L place x → J b
      → J (lane.brings_if last settings place name up topic_id msg_id body x b)
  brings-if-just None settings place name up topic_id msg_id body x b o own came p h =
      brings-just settings place name up topic_id msg_id body x b own came p h
  brings-if-just (Some held) settings place name up topic_id msg_id body x b o own came p h =
      let same : Bool = lane.is_same name msg_id body held in
      let again : Bridge = lane.again_at held.is_answered place topic_id msg_id held x b in
      let brought : Bridge = lane.brings settings place name up topic_id msg_id body x b in
      choose-each same again brought
      (λ e. again-at-just held.is_answered place topic_id msg_id held x b refl (same-id name msg_id body held e) o h)
      (λ e. brings-just settings place name up topic_id msg_id body x b (λ took. own (took-second same b again brought e took))
      (λ took. came (took-second same b again brought e took)) p h)

  passes-just : (settings : Settings) (place : ℕ) (up : UpName) (body : List ℕ) (x : Lane) (b : Bridge)
      → (Took b (lane.passes settings place up body x b) → Came (lane.item_of b.number place levels.Zero up body)) → L place x → J b
      → J (lane.passes settings place up body x b)
  passes-just settings place up body x b came p h =
      let seated : Bridge = lane.seated place x b in
      let item : Item = lane.item_of b.number place levels.Zero up body in
      let counted : Bridge = lane.reading_counted settings place levels.Zero up body seated in
      let more : Took b counted = takes-number b.side settings item (record seated { number = b.number + 1 }) in
      choose-by (lane.reading_goes_on settings body b) counted seated
      (λ e. counted-just settings place levels.Zero up body seated (came (took-first (lane.reading_goes_on settings body b) b counted seated e more)) (put-just place x b p h))
      (put-just place x b p h)

  publication-at-just : (qos : FieldQos) (settings : Settings) (place name : ℕ) (up : UpName) (topic_id msg_id : ℕ) (body : List ℕ) (x : Lane) (b : Bridge)
      → (Took b (lane.publication_at qos settings place name up topic_id msg_id body x b) → Own place b.number msg_id)
      → (Took b (lane.publication_at qos settings place name up topic_id msg_id body x b) → (level : Qos) → Came (lane.item_of b.number place level up body)) → L place x → J b
      → J (lane.publication_at qos settings place name up topic_id msg_id body x b)
  publication-at-just field_levels.Zero settings place name up topic_id msg_id body x b own cames p h = passes-just settings place up body x b (λ took. cames took levels.Zero) p h
  publication-at-just field_levels.One settings place name up topic_id msg_id body x b own cames p h =
      brings-if-just x.last settings place name up topic_id msg_id body x b p own (λ took. cames took levels.One) p h
  publication-at-just qos settings place name up topic_id msg_id body x b own cames p h = put-just place x b p h

  unknown-at-just : (qos : FieldQos) (kind : TopicIdType) (place topic_id msg_id : ℕ) (x : Lane) (b : Bridge) → L place x → J b → J (lane.unknown_at qos kind place topic_id msg_id x b)
  unknown-at-just field_levels.One kind place topic_id msg_id x b p h =
      says-just place (frames.PubAck topic_id msg_id (lane.refusal_code kind x.phase)) x b (λ e. absurd (refusal-not kind x.phase e)) p h
  unknown-at-just qos kind place topic_id msg_id x b p h = put-just place x b p h

  named-at-just : (up : Option UpName) (qos : FieldQos) (kind : TopicIdType) (settings : Settings) (place name topic_id msg_id : ℕ) (body : List ℕ) (x : Lane) (b : Bridge)
      → (Took b (lane.named_at up qos kind settings place name topic_id msg_id body x b) → Own place b.number msg_id)
      → (Took b (lane.named_at up qos kind settings place name topic_id msg_id body x b) → (u : UpName) (level : Qos) → up ≡ Some u → Came (lane.item_of b.number place level u body))
      → L place x → J b
      → J (lane.named_at up qos kind settings place name topic_id msg_id body x b)
  named-at-just None qos kind settings place name topic_id msg_id body x b own cames p h = unknown-at-just qos kind place topic_id msg_id x b p h
  named-at-just (Some up) qos kind settings place name topic_id msg_id body x b own cames p h =
      publication-at-just qos settings place name up topic_id msg_id body x b own (λ took level. cames took up level refl) p h

  known-at-just : (name : Option ℕ) (qos : FieldQos) (kind : TopicIdType) (settings : Settings) (own : LaneSettings) (place topic_id msg_id : ℕ) (body : List ℕ) (x : Lane) (b : Bridge)
      → (Took b (lane.topic_known_at name qos kind settings own place topic_id msg_id body x b) → Own place b.number msg_id)
      → (Took b (lane.topic_known_at name qos kind settings own place topic_id msg_id body x b) → (n : ℕ) (u : UpName) (level : Qos) → name ≡ Some n → slice_get own.names n ≡ Some u
      → Came (lane.item_of b.number place level u body)) → L place x → J b
      → J (lane.topic_known_at name qos kind settings own place topic_id msg_id body x b)
  known-at-just None qos kind settings own place topic_id msg_id body x b mine cames p h = unknown-at-just qos kind place topic_id msg_id x b p h
  known-at-just (Some name) qos kind settings own place topic_id msg_id body x b mine cames p h =
      named-at-just (slice_get own.names name) qos kind settings place name topic_id msg_id body x b mine (λ took u level e. cames took name u level refl e) p h

  goes-away-just : (place : ℕ) (m : Moment) (x : Lane) (b : Bridge) → L place x → J b → J (lane.goes_away place m x b)
  goes-away-just place m x b p h = put-just place (record x { phase = phases.Away; tries = 0; due = m.at }) b p h

  registered-just : (name : Option ℕ) (place : ℕ) (m : Moment) (topic_id msg_id : ℕ) (x : Lane) (b : Bridge) → L place x → J b → J (lane.name_registered name place m topic_id msg_id x b)
  registered-just None place m topic_id msg_id x b p h = says-just place (frames.RegAck topic_id msg_id 3) x b tt p h
  registered-just (Some name) place m topic_id msg_id x b p h =
      let known : Lane = record x { ids = record { id = topic_id; name = name } ∷ x.ids } in
      choose (nat_lt (length x.ids) MAX_IDS) (lane.says place (frames.RegAck topic_id msg_id 0) known b) (lane.goes_away place m x b)
      (says-just place (frames.RegAck topic_id msg_id 0) known b tt p h) (goes-away-just place m x b p h)

  awake-just : (settings : Settings) (own : LaneSettings) (place : ℕ) (m : Moment) (frame : Frame) (x : Lane) (b : Bridge)
      → FrameOwn Own place frame b (lane.awake_frame settings own place m frame x b) → FrameCame Came own x.ids place frame b (lane.awake_frame settings own place m frame x b)
      → L place x → J b → J (lane.awake_frame settings own place m frame x b)
  awake-just settings own place m (frames.Publish flags topic msg_id body) x b mine cames p h =
      known-at-just (lane.name_meant (kind_of flags.bits) topic own.names x.ids) (qos_of flags.bits) (kind_of flags.bits) settings own place topic msg_id body x b mine cames p h
  awake-just settings own place m (frames.Register topic_id msg_id name) x b mine cames p h =
      registered-just (lane.name_place name own.names) place m topic_id msg_id x b p h
  awake-just settings own place m (frames.Disconnect duration) x b mine cames p h = goes-away-just place m x b p h
  awake-just settings own place m frame x b mine cames p h = put-just place x b p h

  connected-just : (own : LaneSettings) (place : ℕ) (m : Moment) (frame : Frame) (x : Lane) (b : Bridge) → L place x → J b → J (lane.connected own place m frame x b)
  connected-just own place m (frames.ConnAck code) x b p h =
      choose (code == 0) (lane.subscribing own place 0 m (record x { tries = 0 }) b) b (subscribing-just own place 0 m (record x { tries = 0 }) b p h) h
  connected-just own place m frame x b p h = h

  subscribed-just : (own : LaneSettings) (place next : ℕ) (m : Moment) (topic_id code : ℕ) (x : Lane) (b : Bridge) → L place x → J b → J (lane.lane_subscribed own place next m topic_id code x b)
  subscribed-just own place next m topic_id code x b p h =
      let named : Lane = record x { tries = 0; ids = lane.with_id topic_id next x.ids } in
      choose (code == 0) (lane.subscribing own place (next + 1) m named b) b (subscribing-just own place (next + 1) m named b p h) h

  naming-just : (settings : Settings) (own : LaneSettings) (place next : ℕ) (m : Moment) (frame : Frame) (x : Lane) (b : Bridge)
      → FrameOwn Own place frame b (lane.naming_frame settings own place next m frame x b)
      → FrameCame Came own x.ids place frame b (lane.naming_frame settings own place next m frame x b) → L place x → J b → J (lane.naming_frame settings own place next m frame x b)
  naming-just settings own place next m (frames.SubAck flags topic_id msg_id code) x b mine cames p h =
      choose (lane.is_its next msg_id x) (lane.lane_subscribed own place next m topic_id code x b) b (subscribed-just own place next m topic_id code x b p h) h
  naming-just settings own place next m frame x b mine cames p h = awake-just settings own place m frame x b mine cames p h

  heard-lane : (c : Bool) (place : ℕ) (x y : Lane) → L place x → L place y → L place (if c then x else y)
  heard-lane true place x y p q = p
  heard-lane false place x y p q = q

  heard-ids : (c : Bool) (x : Lane) (m : Moment) → (if c then x else record x { tries = 0; due = m.ping }).ids ≡ x.ids
  heard-ids true x m = refl
  heard-ids false x m = refl

  frame-in-just : (phase : Phase) (settings : Settings) (own : LaneSettings) (place : ℕ) (m : Moment) (frame : Frame) (x : Lane) (b : Bridge)
      → FrameOwn Own place frame b (lane.frame_in phase settings own place m frame x b) → FrameCame Came own x.ids place frame b (lane.frame_in phase settings own place m frame x b)
      → L place x → J b → J (lane.frame_in phase settings own place m frame x b)
  frame-in-just phases.Away settings own place m frame x b mine cames p h = h
  frame-in-just phases.Connecting settings own place m frame x b mine cames p h = connected-just own place m frame x b p h
  frame-in-just (phases.Subscribing next) settings own place m frame x b mine cames p h = naming-just settings own place next m frame x b mine cames p h
  frame-in-just phases.Listening settings own place m frame x b mine cames p h =
      let same : (lane.lane_heard m x).ids ≡ x.ids = heard-ids (x.tries == 0) x m in
      let after : Bridge = lane.awake_frame settings own place m frame (lane.lane_heard m x) b in
      let heard : FrameCame Came own (lane.lane_heard m x).ids place frame b after = subst (λ (ids : List Named). FrameCame Came own ids place frame b after) (sym same) cames in
      awake-just settings own place m frame (lane.lane_heard m x) b mine heard (heard-lane (x.tries == 0) place x (record x { tries = 0; due = m.ping }) p p) h
  frame-in-just phases.Asleep settings own place m frame x b mine cames p h = h

  lane-again-just : (phase : Phase) (own : LaneSettings) (place : ℕ) (m : Moment) (x : Lane) (b : Bridge) → L place x → J b → J (lane.lane_again phase own place m x b)
  lane-again-just phases.Away own place m x b p h = connecting-just own place m x b h
  lane-again-just phases.Connecting own place m x b p h = connecting-just own place m x b h
  lane-again-just (phases.Subscribing next) own place m x b p h = subscribing-just own place next m x b p h
  lane-again-just phases.Listening own place m x b p h =
      says-just place (frames.PingReq []) (record x { tries = once_more x.tries; due = m.retry }) b tt p h
  lane-again-just phases.Asleep own place m x b p h = h

  lane-tick-just : (place : ℕ) (m : Moment) (own : LaneSettings) (x : Lane) (b : Bridge) → L place x → J b → J (lane.lane_tick place m own x b)
  lane-tick-just place m own x b p h =
      choose (nat_lt m.at x.due) b (if nat_le TRIES x.tries then lane.gives_up place m x b else lane.lane_again x.phase own place m x b) h
      (choose (nat_le TRIES x.tries) (lane.gives_up place m x b) (lane.lane_again x.phase own place m x b)
      (does-just (actions.NextGateway place) (lane.goes_away place m x b) tt tt (goes-away-just place m x b p h))
      (lane-again-just x.phase own place m x b p h))

  wakes-in-just : (phase : Phase) (own : LaneSettings) (place : ℕ) (m : Moment) (x : Lane) (b : Bridge) → J b → J (lane.wakes_in phase own place m x b)
  wakes-in-just phases.Asleep own place m x b h = connecting-just own place m x b h
  wakes-in-just phase own place m x b h = h

  answered-at-just : (c : Bool) (place : ℕ) (held : Open) (x : Lane) (b : Bridge) → Own place held.number held.msg_id → Good held.number → J b → J (lane.answered_at c place held x b)
  answered-at-just true place held x b own good h =
      says-just place (frames.PubAck held.topic_id held.msg_id 0) (record x { last = Some (record held { is_answered = true }) }) b
      (λ none. (held.number, good, own)) (own, λ e. good) h
  answered-at-just false place held x b own good h =
      put-just place (record x { last = Some (record held { is_answered = true }) }) b (own, λ e. good) h

  answers-held-just : (last : Option Open) (number place : ℕ) (x : Lane) (b : Bridge) → LastJust Good Own place last → Good number → J b → J (lane.answers_open last number place x b)
  answers-held-just None number place x b o good h = h
  answers-held-just (Some held) number place x b o good h =
      choose-by ((held.number == number) && not held.is_answered) (lane.answered_at (lane.is_lane_awake x.phase) place held x b) b
      (λ e. answered-at-just (lane.is_lane_awake x.phase) place held x b o.0
      (subst Good (sym (eqb-true held.number number (and_parts (held.number == number) (not held.is_answered) e).0)) good) h) h

  keeps-held-just : (last : Option Open) (below place : ℕ) (x : Lane) (b : Bridge) → LastJust Good Own place last → ((number : ℕ) → nat_lt number below ≡ true → Good number) → J b
      → J (lane.keeps_open last below place x b)
  keeps-held-just None below place x b o good h = h
  keeps-held-just (Some held) below place x b o good h =
      choose-by (nat_lt held.number below && not held.is_answered) (lane.answered_at (lane.is_lane_awake x.phase) place held x b) b
      (λ e. answered-at-just (lane.is_lane_awake x.phase) place held x b o.0
      (good held.number (and_parts (nat_lt held.number below) (not held.is_answered) e).0) h) h

  -- ---- commands

  -- it holds with another lane for commands
  abbrev D : Down → Bridge → Type 0
  D down b = J (command.put_down down b)

  first-asked : (queue : List Command) → AllByRecursion Asked queue → FirstAsked Asked queue
  first-asked [] all = tt
  first-asked (first ∷ more) all = all.0

  asked-first : (b : Bridge) → J b → FirstAsked Asked b.down.queue
  asked-first b h = first-asked b.down.queue (walked.owes b.lanes b.out b.waiting b.flight b.number b.down.queue h)

  says-down-just : (frame : Frame) (down : Down) (b : Bridge) → IsCommand Asked frame → D down b → J (command.says_down frame down b)
  says-down-just frame down b given h = does-just (actions.ToCommands frame) (command.put_down down b) tt given h

  told-just : (id : ℕ) (b : Bridge) → Tells May id → J b → J (command.broker_told id b)
  told-just id b may h = choose-not (id == 0) b (does (actions.ToBroker (packets.PubAck id)) b) h (λ e. does-just (actions.ToBroker (packets.PubAck id)) b tt (may e) h)

  queued-just : (id : ℕ) (from topic body : List ℕ) (b : Bridge) → Asked (record { id = id; from = from; topic = topic; body = body }) → J b → J (command.queued id from topic body b)
  queued-just id from topic body b asked h =
      walked.asks (record { id = id; from = from; topic = topic; body = body }) b.lanes b.out b.waiting b.flight b.number b.down.queue asked h

  asked-just : (entry : Option DownFilter) (id : ℕ) (retain : Bool) (topic body : List ℕ) (b : Bridge) → (retain ≡ true → LeavesKept entry → Tells May id)
      → Asked (record { id = id; from = topic; topic = topic_by entry topic; body = body }) → J b → J (command.command_asked entry id retain topic body b)
  asked-just None id retain topic body b may asked h = queued-just id topic [] body b asked h
  asked-just (Some entry) id retain topic body b may asked h =
      choose-by (retain && not entry.retained) (command.broker_told id b) (command.queued id topic (command.stripped entry.strip topic) body b)
      (λ e. told-just id b (may (and_parts retain (not entry.retained) e).0 (unset entry.retained (and_parts retain (not entry.retained) e).1)) h) (queued-just id topic (command.stripped entry.strip topic) body b asked h)

  passed-over-just : (id : ℕ) (b : Bridge) → J b → J (command.passed_over id b)
  passed-over-just id b h = choose (id == 0) b (command.put_down (record b.down { is_behind = true }) b) h h

  commanded-just : (downs : List DownFilter) (id : ℕ) (retain : Bool) (topic body : List ℕ) (b : Bridge) → (retain ≡ true → LeavesKept (command.filter_for topic downs) → Tells May id)
      → Asked (record { id = id; from = topic; topic = topic_by (command.filter_for topic downs) topic; body = body }) → J b → J (command.commanded downs id retain topic body b)
  commanded-just downs id retain topic body b may asked h =
      let over : Bridge = command.passed_over id b in
      let queued : Bridge = command.command_asked (command.filter_for topic downs) id retain topic body b in
      choose (command.is_queued id b.down.queue) b (if command.is_queue_full b.down then over else queued) h
      (choose (command.is_queue_full b.down) over queued
      (passed-over-just id b h) (asked-just (command.filter_for topic downs) id retain topic body b may asked h))

  away-just : (m : Moment) (down : Down) (b : Bridge) → D down b → J (command.away m down b)
  away-just m down b h = h

  publishing-just : (dup short : Bool) (topic_id : ℕ) (m : Moment) (first : Command) (down : Down) (b : Bridge) → Asked first → D down b → J (command.publishing dup short topic_id m first down b)
  publishing-just dup short topic_id m first down b asked h =
      says-down-just (frames.Publish (command.publish_flags dup short) topic_id (command.sent_id dup down.msg_id) first.body)
      (record down { doing = doings.Publishing; tries = once_more down.tries; due = m.retry; msg_id = command.sent_id dup down.msg_id }) b (first, asked, refl) h

  registering-just : (m : Moment) (first : Command) (down : Down) (b : Bridge) → Asked first → D down b → J (command.command_registering m first down b)
  registering-just m first down b asked h =
      let asking : Down = record down { doing = doings.Registering; tries = once_more down.tries; due = m.retry; msg_id = next_id down.msg_id } in
      choose (nat_lt (length down.ids) MAX_NAMES) (command.says_down (frames.Register 0 (next_id down.msg_id) first.topic) asking b) (command.away m down b)
      (says-down-just (frames.Register 0 (next_id down.msg_id) first.topic) asking b (first, asked, refl) h) (away-just m down b h)

  sent-below-just : (id : Option ℕ) (dup : Bool) (m : Moment) (first : Command) (down : Down) (b : Bridge) → Asked first → D down b → J (command.sent_under id dup m first down b)
  sent-below-just None dup m first down b asked h = registering-just m first down b asked h
  sent-below-just (Some id) dup m first down b asked h = publishing-just dup false id m first down b asked h

  sent-as-just : (id : Option ℕ) (dup : Bool) (m : Moment) (first : Command) (down : Down) (b : Bridge) → Asked first → D down b → J (command.sent_as id dup m first down b)
  sent-as-just None dup m first down b asked h = sent-below-just (command.id_of first.topic down.ids) dup m first down b asked h
  sent-as-just (Some id) dup m first down b asked h = publishing-just dup true id m first down b asked h

  refusing-just : (why : Why) (first : Command) (down : Down) (b : Bridge) → Asked first → D down b → J (command.refusing why first down b)
  refusing-just why first down b asked h =
      let told : Down = record down { doing = doings.Refusing down.line; line = down.line + 1 } in
      choose (nat_lt down.line LAST_NUMBER) (does (actions.Refuse down.line first why) (command.put_down told b)) (command.put_down down b)
      (does-just (actions.Refuse down.line first why) (command.put_down told b) tt asked h) h

  sent-in-just : (phase : Phase) (dup : Bool) (m : Moment) (first : Command) (down : Down) (b : Bridge) → Asked first → D down b → J (command.sent_in phase dup m first down b)
  sent-in-just phases.Listening dup m first down b asked h = sent-as-just (command.short_name_id first.topic) dup m first down b asked h
  sent-in-just phase dup m first down b asked h = h

  begun-by-just : (why : Option Why) (dup : Bool) (m : Moment) (first : Command) (down : Down) (b : Bridge) → Asked first → D down b → J (command.begun_by why dup m first down b)
  begun-by-just (Some why) dup m first down b asked h = refusing-just why first down b asked h
  begun-by-just None dup m first down b asked h = sent-in-just down.phase dup m first down b asked h

  begun-just : (queue : List Command) (dup : Bool) (m : Moment) (down : Down) (b : Bridge) → FirstAsked Asked queue → D down b → J (command.command_begun queue dup m down b)
  begun-just [] dup m down b asked h = h
  begun-just (first ∷ more) dup m down b asked h = begun-by-just (command.obstacle first) dup m first down b asked h

  begun-at-just : (doing : Doing) (m : Moment) (b : Bridge) → J b → J (command.begun_at doing m b)
  begun-at-just doings.Nothing m b h = begun-just b.down.queue false m b.down b (asked-first b h) h
  begun-at-just doing m b h = h

  begins-just : (m : Moment) (b : Bridge) → J b → J (command.command_begins m b)
  begins-just m b h = begun-at-just b.down.doing m b h

  done-with-just : (queue : List Command) (b : Bridge) → FirstMay May queue → P b.lanes b.out b.waiting b.flight b.number queue → J b → J (command.done_with queue b)
  done-with-just [] b may held h = h
  done-with-just (first ∷ more) b may held h =
      let rest : Down = record b.down { doing = doings.Nothing; tries = 0; queue = more } in
      told-just first.id (command.put_down rest b) may (walked.ends first more b.lanes b.out b.waiting b.flight b.number held)

  done-just : (m : Moment) (b : Bridge) → FirstMay May b.down.queue → J b → J (command.command_done m b)
  done-just m b may h = begins-just m (command.done_with b.down.queue b) (done-with-just b.down.queue b may h h)

  later-just : (m : Moment) (b : Bridge) → J b → J (command.later m b)
  later-just m b h = h

  answered-first-just : (queue : List Command) (code : ℕ) (m : Moment) (b : Bridge) → (code ≡ 0 → FirstMay May b.down.queue) → FirstAsked Asked queue → J b
      → J (command.answered_first queue code m b)
  answered-first-just [] code m b may asked h = h
  answered-first-just (first ∷ more) code m b may asked h =
      let again : Bridge = command.away m b.down b in
      let none : Bridge = command.refusing whys.Gateway first b.down b in
      choose-by (code == 0) (command.command_done m b) (if code == 1 then command.later m b else (if code == 2 then again else none))
      (λ e. done-just m b (may (eqb-true code 0 e)) h)
      (choose (code == 1) (command.later m b) (if code == 2 then again else none) (later-just m b h)
      (choose (code == 2) again none
      (away-just m b.down b h) (refusing-just whys.Gateway first b.down b asked h)))

  named-first-just : (queue : List Command) (topic_id code : ℕ) (m : Moment) (b : Bridge) → FirstAsked Asked queue → J b → J (command.named_first queue topic_id code m b)
  named-first-just [] topic_id code m b asked h = h
  named-first-just (first ∷ more) topic_id code m b asked h =
      let named : Bridge = command.command_named topic_id first b in
      let none : Bridge = command.refusing whys.Gateway first b.down b in
      choose (code == 0) (command.publishing false false topic_id m first named.down named) (if code == 1 then command.later m b else none)
      (publishing-just false false topic_id m first named.down named asked h)
      (choose (code == 1) (command.later m b) none (later-just m b h) (refusing-just whys.Gateway first b.down b asked h))

  heard-if : (c : Bool) (m : Moment) (b : Bridge) → J b → D (if c then b.down else record b.down { tries = 0; due = m.ping }) b
  heard-if true m b h = h
  heard-if false m b h = h

  heard-at-just : (doing : Doing) (m : Moment) (b : Bridge) → J b → D (command.command_lane_heard_at doing m b.down) b
  heard-at-just doings.Publishing m b h = h
  heard-at-just doings.Registering m b h = h
  heard-at-just doing m b h = heard-if (b.down.tries == 0) m b h

  heard-just : (m : Moment) (b : Bridge) → J b → J (command.command_lane_heard m b)
  heard-just m b h = heard-at-just b.down.doing m b h

  acked-at-just : (doing : Doing) (msg_id code : ℕ) (m : Moment) (b : Bridge)
      → (doing ≡ doings.Publishing → msg_id ≡ b.down.msg_id → code ≡ 0 → FirstMay May b.down.queue) → J b → J (command.acked_at doing msg_id code m b)
  acked-at-just doings.Publishing msg_id code m b may h =
      choose-by (msg_id == b.down.msg_id) (command.answered_first b.down.queue code m b) b
      (λ e. answered-first-just b.down.queue code m b (may refl (eqb-true msg_id b.down.msg_id e)) (asked-first b h) h) h
  acked-at-just doing msg_id code m b may h = heard-just m b h

  down-named-just : (doing : Doing) (topic_id msg_id code : ℕ) (m : Moment) (b : Bridge) → J b → J (command.named_at doing topic_id msg_id code m b)
  down-named-just doings.Registering topic_id msg_id code m b h =
      choose (msg_id == b.down.msg_id) (command.named_first b.down.queue topic_id code m b) b (named-first-just b.down.queue topic_id code m b (asked-first b h) h) h
  down-named-just doing topic_id msg_id code m b h = heard-just m b h

  listening-just : (m : Moment) (frame : Frame) (b : Bridge) → FrameMay May frame b → J b → J (command.listening_frame m frame b)
  listening-just m (frames.PubAck topic_id msg_id code) b may h = acked-at-just b.down.doing msg_id code m b may h
  listening-just m (frames.RegAck topic_id msg_id code) b may h = down-named-just b.down.doing topic_id msg_id code m b h
  listening-just m (frames.Disconnect duration) b may h = away-just m b.down b h
  listening-just m frame b may h = heard-just m b h

  down-connected-just : (m : Moment) (frame : Frame) (b : Bridge) → J b → J (command.connected m frame b)
  down-connected-just m (frames.ConnAck code) b h =
      let up : Bridge = command.put_down (record b.down { phase = phases.Listening; tries = 0; due = m.ping; doing = command.unfinished b.down.doing }) b in
      choose (code == 0) (command.command_begins m up) b (begins-just m up h) h
  down-connected-just m frame b h = h

  down-frame-in-just : (phase : Phase) (m : Moment) (frame : Frame) (b : Bridge) → FrameMay May frame b → J b → J (command.frame_in phase m frame b)
  down-frame-in-just phases.Connecting m frame b may h = down-connected-just m frame b h
  down-frame-in-just phases.Listening m frame b may h = listening-just m frame b may h
  down-frame-in-just phase m frame b may h = h

  down-again-at-just : (doing : Doing) (m : Moment) (b : Bridge) → J b → J (command.again_at doing m b)
  down-again-at-just doings.Publishing m b h = begun-just b.down.queue true m b.down b (asked-first b h) h
  down-again-at-just doings.Registering m b h = begun-just b.down.queue false m b.down b (asked-first b h) h
  down-again-at-just doing m b h =
      says-down-just (frames.PingReq []) (record b.down { tries = once_more b.down.tries; due = m.retry }) b tt h

  down-again-just : (phase : Phase) (client : List ℕ) (m : Moment) (b : Bridge) → J b → J (command.command_again phase client m b)
  down-again-just phases.Listening client m b h = down-again-at-just b.down.doing m b h
  down-again-just phase client m b h =
      says-down-just (frames.Connect (record { bits = 4 }) 1 KEEP_ALIVE client)
      (record b.down { phase = phases.Connecting; tries = once_more b.down.tries; due = m.retry; ids = [] }) b tt h

  down-tick-just : (client : List ℕ) (m : Moment) (b : Bridge) → J b → J (command.down_tick client m b)
  down-tick-just client m b h =
      choose (nat_lt m.at b.down.due) b (if nat_le TRIES b.down.tries then command.gives_up m b else command.command_again b.down.phase client m b) h
      (choose (nat_le TRIES b.down.tries) (command.gives_up m b) (command.command_again b.down.phase client m b)
      (does-just actions.NextCommands (command.away m b.down b) tt tt (away-just m b.down b h)) (down-again-just b.down.phase client m b h))

  line-just : (doing : Doing) (line : ℕ) (m : Moment) (b : Bridge) → (doing ≡ doings.Refusing line → FirstMay May b.down.queue) → J b → J (command.line_kept doing line m b)
  line-just (doings.Refusing own) line m b may h =
      choose-by (own == line) (command.command_done m b) b (λ e. done-just m b (may (ap doings.Refusing (eqb-true own line e))) h) h
  line-just doing line m b may h = h

  -- ---- the whole

  lane-does-just : (own : Option LaneSettings) (x : Option Lane) (place : ℕ) (f : LaneSettings → Lane → Bridge → Bridge) (b : Bridge)
      → IfThere (LaneJust Good Own place) x → ((o : LaneSettings) (y : Lane) → own ≡ Some o → x ≡ Some y → L place y → J (f o y b)) → J b → J (whole.lane_does own x f b)
  lane-does-just None x place f b p k h = h
  lane-does-just (Some own) None place f b p k h = h
  lane-does-just (Some own) (Some x) place f b p k h = k own x refl refl p

  at-lane-just : (settings : Settings) (place : ℕ) (f : LaneSettings → Lane → Bridge → Bridge) (b : Bridge)
      → ((own : LaneSettings) (x : Lane) → slice_get settings.lanes place ≡ Some own → slice_get b.lanes place ≡ Some x → L place x → J (f own x b)) → J b
      → J (whole.at_lane settings place f b)
  at-lane-just settings place f b k h =
      lane-does-just (slice_get settings.lanes place) (slice_get b.lanes place) place f b (walked.there place b.lanes b.out b.waiting b.flight b.number b.down.queue h) k h

  lanes-along-just : (owns : List LaneSettings) (place : ℕ) (settings : Settings) (f : ℕ → LaneSettings → Lane → Bridge → Bridge) (b : Bridge)
      → ((place : ℕ) (own : LaneSettings) (x : Lane) (b : Bridge) → L place x → J b → J (f place own x b)) → J b → J (whole.lanes_along owns place settings f b)
  lanes-along-just [] place settings f b k h = h
  lanes-along-just (own ∷ more) place settings f b k h =
      lanes-along-just more (place + 1) settings f (whole.at_lane settings place (f place) b) k
      (at-lane-just settings place (f place) b (λ own x mine there p. k place own x b p h) h)

  each-lane-just : (settings : Settings) (f : ℕ → LaneSettings → Lane → Bridge → Bridge) (b : Bridge)
      → ((place : ℕ) (own : LaneSettings) (x : Lane) (b : Bridge) → L place x → J b → J (f place own x b)) → J b → J (whole.each_lane settings f b)
  each-lane-just settings f b k h = lanes-along-just settings.lanes 0 settings f b k h

  sends-at-just : (side : Side) (settings : Settings) (b : Bridge) → J b → J (whole.sends_at side settings b)
  sends-at-just sides.Up settings b h = sends-just settings b h
  sends-at-just side settings b h = h

  up-just : (settings : Settings) (m : Moment) (b : Bridge) → J b → J (whole.up settings m b)
  up-just settings m b h =
      let begun : Bridge = record b { side = sides.Up; due = m.ping; tries = 0 } in
      let here : Bridge = whole.says_here settings begun in
      let said : J here =
      does-just (actions.ToBroker (packets.Publish deliveries.Once true settings.state settings.here)) begun tt tt (h) in
      each-lane-just settings (λ place. lane.wakes place m) (sends settings (all_again here)) (λ place own x b p h. wakes-in-just x.phase own place m x b h)
      (sends-just settings (all_again here) (all-again-just here said))

  subscribe-at-just : (entry : Option DownFilter) (settings : Settings) (next : ℕ) (m : Moment) (b : Bridge) → J b → J (whole.subscribing_at entry settings next m b)
  subscribe-at-just None settings next m b h = up-just settings m (record b { is_subscribed = true }) h
  subscribe-at-just (Some entry) settings next m b h =
      let id : ℕ = free_packet_id b.packet_id b.flight in
      does-just (actions.ToBroker (packets.Subscribe id entry.filter levels.One))
      (record b { side = sides.Subscribing next; due = m.retry; packet_id = next_id id }) tt tt (h)

  subscribe-just : (settings : Settings) (next : ℕ) (m : Moment) (b : Bridge) → J b → J (whole.subscribing settings next m b)
  subscribe-just settings next m b h = subscribe-at-just (slice_get settings.downs next) settings next m b h

  rests-just : (settings : Settings) (b : Bridge) → J b → J (whole.lanes_rest settings b)
  rests-just settings b h =
      choose (whole.may_listen b) b (whole.each_lane settings (λ place. lane.falls_asleep place) b) h
      (each-lane-just settings (λ place. lane.falls_asleep place) b (λ place own x b p h. asleep-in-just x.phase place x b p h) h)

  rouses-just : (settings : Settings) (m : Moment) (b : Bridge) → J b → J (whole.rouses settings m b)
  rouses-just settings m b h =
      choose (whole.may_wake settings b) (whole.each_lane settings (λ place. lane.wakes place m) b) b
      (each-lane-just settings (λ place. lane.wakes place m) b (λ place own x b p h. wakes-in-just x.phase own place m x b h) h) h

  lost-just : (settings : Settings) (due : ℕ) (b : Bridge) → J b → J (whole.connection_lost settings due b)
  lost-just settings due b h = rests-just settings (whole.connection_ended due b) (walked.clears b.lanes b.out b.waiting b.flight b.number b.down.queue h)

  hangs-up-just : (settings : Settings) (due : ℕ) (b : Bridge) → J b → J (whole.hangs_up settings due b)
  hangs-up-just settings due b h = does-just actions.HangUp (whole.connection_lost settings due b) tt tt (lost-just settings due b h)

  welcomed-at-just : (session : Bool) (settings : Settings) (m : Moment) (b : Bridge) → J b → J (whole.welcomed_at session settings m b)
  welcomed-at-just true settings m b h = up-just settings m b h
  welcomed-at-just false settings m b h = subscribe-just settings 0 m (record b { is_subscribed = false }) h

  forgets-just : (settings : Settings) (number : ℕ) (b : Bridge) → Done number → J b → J (whole.forgets settings number b)
  forgets-just settings number b handed h = choose settings.spools (does (actions.Forget number) b) b (does-just (actions.Forget number) b tt handed h) h

  answered-just : (item : Option Item) (settings : Settings) (id : ℕ) (b : Bridge) → ItemDone Done item → ItemDone Done (item_in_flight id b.flight) → J b → J (whole.item_acked item settings id b)
  answered-just None settings id b handed taken h = walked.left id b.lanes b.out b.waiting b.flight b.number b.down.queue taken h
  answered-just (Some item) settings id b handed taken h =
      let rest : Bridge = record b { flight = left_in_flight id b.flight } in
      let left : J rest = walked.left id b.lanes b.out b.waiting b.flight b.number b.down.queue taken h in
      let spared : Bridge = whole.forgets settings item.number rest in
      let forgot : J spared = forgets-just settings item.number rest handed left in
      let answered : Bridge = whole.at_lane settings item.lane (lane.answers item.number item.lane) spared in
      let told : J answered =
      at-lane-just settings item.lane (lane.answers item.number item.lane) spared
      (λ own x mine there p. answers-held-just x.last item.number item.lane x spared p (lift item.number handed) forgot) forgot in
      sends-at-just answered.side settings answered told

  up-packet-just : (settings : Settings) (m : Moment) (packet : Packet) (b : Bridge) → PacketDone Done May Asked settings packet b → J b → J (whole.up_packet settings m packet b)
  up-packet-just settings m (packets.PubAck id) b good h = answered-just (item_in_flight id b.flight) settings id b good good h
  up-packet-just settings m (packets.Publish delivery retain topic body) b good h =
      begins-just m (command.commanded settings.downs (whole.delivery_id delivery) retain topic body b) (commanded-just settings.downs (whole.delivery_id delivery) retain topic body b good.0 good.1 h)
  up-packet-just settings m packet b good h = h

  named-just : (granted : Bool) (settings : Settings) (next : ℕ) (m : Moment) (b : Bridge) → J b → J (whole.named_at granted settings next m b)
  named-just true settings next m b h = subscribe-just settings (next + 1) m b h
  named-just false settings next m b h = hangs-up-just settings m.minute b h

  naming-packet-just : (settings : Settings) (next : ℕ) (m : Moment) (packet : Packet) (b : Bridge) → PacketDone Done May Asked settings packet b → J b → J (whole.naming_packet settings next m packet b)
  naming-packet-just settings next m (packets.SubAck id granted) b good h =
      choose ((next_id id == b.packet_id) && nat_lt next LAST_NUMBER) (whole.named_at (whole.is_granted granted) settings next m b) b (named-just (whole.is_granted granted) settings next m b h) h
  naming-packet-just settings next m packet b good h = up-packet-just settings m packet b good h

  new-packet-just : (settings : Settings) (m : Moment) (packet : Packet) (b : Bridge) → J b → J (whole.new_packet settings m packet b)
  new-packet-just settings m (packets.ConnAck session code) b h =
      choose (code == 0) (whole.welcomed_at (session && b.is_subscribed && whole.wants_kept settings.downs) settings m b) (whole.hangs_up settings m.minute b)
      (welcomed-at-just (session && b.is_subscribed && whole.wants_kept settings.downs) settings m b h) (hangs-up-just settings m.minute b h)
  new-packet-just settings m packet b h = hangs-up-just settings m.retry b h

  -- being heard changes neither what is in flight nor the lanes
  heard-packet : (settings : Settings) (c : Bool) (packet : Packet) (x y : Bridge) → PacketDone Done May Asked settings packet x → PacketDone Done May Asked settings packet y → PacketDone Done May Asked settings packet (if c then x else y)
  heard-packet settings true packet x y p q = p
  heard-packet settings false packet x y p q = q

  same-packet : (settings : Settings) (packet : Packet) (b : Bridge) (m : Moment) → PacketDone Done May Asked settings packet b → PacketDone Done May Asked settings packet (record b { tries = 0; due = m.ping })
  same-packet settings (packets.PubAck id) b m good = good
  same-packet settings (packets.Publish delivery retain topic body) b m good = good
  same-packet settings packet b m good = tt

  packet-in-just : (side : Side) (settings : Settings) (m : Moment) (packet : Packet) (b : Bridge) → PacketDone Done May Asked settings packet b → J b → J (whole.packet_in side settings m packet b)
  packet-in-just sides.Closed settings m packet b good h = h
  packet-in-just sides.Connecting settings m packet b good h = new-packet-just settings m packet b h
  packet-in-just (sides.Subscribing next) settings m packet b good h = naming-packet-just settings next m packet b good h
  packet-in-just sides.Up settings m packet b good h =
      up-packet-just settings m packet (whole.broker_heard m b)
      (heard-packet settings (b.tries == 0) packet b (record b { tries = 0; due = m.ping }) good (same-packet settings packet b m good))
      (choose (b.tries == 0) b (record b { tries = 0; due = m.ping }) h (h))

  side-due-just : (side : Side) (settings : Settings) (m : Moment) (b : Bridge) → J b → J (whole.side_due side settings m b)
  side-due-just sides.Closed settings m b h = does-just actions.Dial (record b { due = m.retry }) tt tt (h)
  side-due-just sides.Up settings m b h =
      let asked : Bridge = record b { tries = 1; due = m.retry } in
      choose (b.tries == 0) (does (actions.ToBroker packets.PingReq) asked) (whole.hangs_up settings m.soon b)
      (does-just (actions.ToBroker packets.PingReq) asked tt tt (h)) (hangs-up-just settings m.soon b h)
  side-due-just side settings m b h = hangs-up-just settings m.soon b h

  side-tick-just : (settings : Settings) (m : Moment) (b : Bridge) → J b → J (whole.side_tick settings m b)
  side-tick-just settings m b h =
      choose (whole.has_passed_over b.down) (whole.hangs_up settings m.soon b) (if nat_lt m.at b.due then b else whole.side_due b.side settings m b)
      (hangs-up-just settings m.soon b h)
      (choose (nat_lt m.at b.due) b (whole.side_due b.side settings m b) h (side-due-just b.side settings m b h))

  ticks-just : (settings : Settings) (m : Moment) (b : Bridge) → J b → J (whole.ticks settings m b)
  ticks-just settings m b h =
      let roused : Bridge = whole.rouses settings m b in
      let lanes : Bridge = whole.each_lane settings (λ place. lane.lane_tick place m) roused in
      side-tick-just settings m (command.down_tick settings.commands m lanes) (down-tick-just settings.commands m lanes
      (each-lane-just settings (λ place. lane.lane_tick place m) roused (λ place own x b p h. lane-tick-just place m own x b p h) (rouses-just settings m b h)))

  counts-on-just : (number : ℕ) (b : Bridge) → J b → J (whole.counts_on number b)
  counts-on-just number b h =
      choose-by (nat_le b.number number) (record b { number = number }) b
      (λ e. walked.counts number b.lanes b.out b.waiting b.flight b.number b.down.queue (leb-true b.number number e) h) h

  found-just : (settings : Settings) (item : Item) (b : Bridge) → Came item → J b → J (whole.reading_found settings item b)
  found-just settings item b came h =
      choose-by (whole.comes_in_order item b) (takes settings item (one-taken item b)) b
      (λ e. walked.taken settings item b (leb-true b.number item.number (and_parts (nat_le b.number item.number) (nat_lt item.number LAST_NUMBER) e).0) came h) h

  stored-all-just : (settings : Settings) (below : ℕ) (b : Bridge) → AreGood Good settings below b → J b → J (whole.stored settings below b)
  stored-all-just settings below b good h =
      let storing : Bridge = record b { is_storing = true } in
      choose-by (whole.may_keep settings below b) (whole.each_lane settings (λ place. lane.keeps below place) storing) b
      (λ e. each-lane-just settings (λ place. lane.keeps below place) storing (λ place own x b p h. keeps-held-just x.last below place x b p (good e) h) h) h

  pub event-walked : (settings : Settings) (event : Event) (m : Moment) (b : Bridge) → Reasons Good Done Own May Came Asked settings event m b → J b → J (whole.event_step settings event m b)
  event-walked settings (events.Field place frame) m b why h =
      at-lane-just settings place (lane.lane_frame settings place m frame) b
      (λ own x mine there p. frame-in-just x.phase settings own place m frame x b (why own x mine there).0 (why own x mine there).1 p h) h
  event-walked settings (events.Commands frame) m b why h = down-frame-in-just b.down.phase m frame b why h
  event-walked settings (events.Broker packet) m b why h = packet-in-just b.side settings m packet b why h
  event-walked settings events.BrokerOpen m b why h =
      does-just (actions.ToBroker (packets.Connect false BROKER_KEEP_ALIVE settings.client settings.will settings.login))
      (record b { side = sides.Connecting; due = m.retry; tries = 0 }) tt tt (h)
  event-walked settings events.BrokerLost m b why h = lost-just settings m.soon b h
  event-walked settings (events.Kept line) m b why h = line-just b.down.doing line m b why h
  event-walked settings (events.Resumed number) m b why h = counts-on-just number b h
  event-walked settings (events.Found item) m b why h = found-just settings item b why h
  event-walked settings (events.Stored below) m b why h = stored-all-just settings below b why h
  event-walked settings events.StoreFailed m b why h = rests-just settings (record b { is_storing = false }) h
  event-walked settings events.Tick m b why h = ticks-just settings m b h
