-- A reading of quality of service 1 that takes a number waits or is in flight, and is to go into the
-- spool; one that the spool has kept waits or is in flight again.
use Rattle.std.proofs.Common.{◌≡◌, ◌==◌, ◌&&◌, ◌+◌, ℕ, Bool, true, false, if◌then◌else◌, List, [], ◌∷◌, ◌++◌, length, Option, Some, None, ◌⊎◌, refl, sym, subst, inl, inr}
use Rattle.std.specs.Prelude.{slice_get}
use Rattle.mq_packet.specs.declared.packet.Qos.{Qos}
use Rattle.mq_packet.specs.declared.packet.Qos.TheVariants as levels
use Rattle.sn_frame.specs.FlagBits.{kind_of}
use Rattle.sn_frame.specs.declared.flags.Flags.{Flags}
use Rattle.sn_frame.specs.declared.flags.Qos.{Qos as FieldQos}
use Rattle.sn_frame.specs.declared.flags.Qos.TheVariants as field_levels
use Rattle.sn_frame.specs.declared.flags.TopicIdType.{TopicIdType}
use Rattle.sn_frame.specs.declared.frame.Frame.TheVariants as frames
use Rattle.br_core.specs.declared.action.Action.{Action}
use Rattle.br_core.specs.declared.action.Action.TheVariants as actions
use Rattle.br_core.specs.declared.item.Flight.{Flight}
use Rattle.br_core.specs.declared.item.Item.{Item}
use Rattle.br_core.specs.declared.settings.LaneSettings.{LaneSettings}
use Rattle.br_core.specs.declared.settings.Settings.{Settings}
use Rattle.br_core.specs.declared.settings.UpName.{UpName}
use Rattle.br_core.specs.declared.state.Bridge.{Bridge}
use Rattle.br_core.specs.declared.state.Lane.{Lane}
use Rattle.br_core.specs.declared.state.Moment.{Moment}
use Rattle.br_core.specs.declared.state.Open.{Open}
use Rattle.br_core.specs.declared.state.Phase.{Phase}
use Rattle.br_core.specs.declared.state.Phase.TheVariants as phases
use Rattle.br_core.specs.declared.state.Side.{Side}
use Rattle.br_core.specs.declared.state.Side.TheVariants as sides
use Rattle.br_core.specs.Begins.{moment_of}
use Rattle.br_core.specs.Lanes as lane
use Rattle.br_core.specs.Runs.{Come, IsAtOne, IsIn, IsOne, TakesItsNumber, IsToStore, after, found_again, publish_comes, stepped}
use Rattle.br_core.specs.Sides.{does, free_packet_id, has_window, kept_while_away, item_sent, takes, takes_at, item_waits}
use Rattle.br_core.specs.Steps.{nothing_out, comes_in_order, lane_does}
use Rattle.br_core.proofs.Keeps.{flies-last, waits-last}

module _ (n : ℕ) (settings : Settings) where
  -- ---- a reading that is taken

  waits-in : (item : Item) (b : Bridge) → item.number ≡ n → item.qos ≡ levels.One → IsIn n (item_waits item b)
  waits-in item b e q = inl (waits-last n b.waiting item e (subst IsOne (sym q) tt))

  offered-by : (c : Bool) (item : Item) (b : Bridge) → item.number ≡ n → item.qos ≡ levels.One → IsIn n (if c then item_sent item.qos item b else item_waits item b)
  offered-by true item b e q =
      let one : Flight = record { id = free_packet_id b.packet_id b.flight; item = item } in
      let flies : IsIn n (item_sent levels.One item b) = inr (flies-last n b.flight one e) in
      subst (λ qos. IsIn n (item_sent qos item b)) (sym q) flies
  offered-by false item b e q = waits-in item b e q

  pub takes-in : (side : Side) (item : Item) (b : Bridge) → item.number ≡ n → item.qos ≡ levels.One → IsIn n (takes_at side settings item b)
  takes-in sides.Up item b e q = offered-by ((length b.waiting == 0) && has_window settings item.qos b.flight) item b e q
  takes-in side item b e q =
      let kept : IsIn n (kept_while_away levels.One item b) = waits-in item b e q in
      subst (λ qos. IsIn n (kept_while_away qos item b)) (sym q) kept

  -- ---- and goes into the spool

  store-last : (out : List Action) (item : Item) → item.number ≡ n → IsToStore n (out ++ actions.Store item ∷ [])
  store-last [] item e = inl e
  store-last (first ∷ more) item e = inr (store-last more item e)

  -- it is in, and is to go into the spool, if there is one
  abbrev IsKept : Bool → Bridge → Type 0
  IsKept spools b = IsIn n b × (spools ≡ true → IsToStore n b.out)

  stored-by : (spools : Bool) (item : Item) (b : Bridge) → item.number ≡ n → IsIn n b → IsKept spools (if spools then does (actions.Store item) b else b)
  stored-by true item b e h = (h, λ there. store-last b.out item e)
  stored-by false item b e h = (h, λ there. cc)

  -- ---- from the lane to the reading

  abbrev Taken : Bridge → Type 0
  Taken b = (b.number ≡ n) ⊎ IsKept settings.spools b

  pick : (c : Bool) (x y : Bridge) → Taken x → Taken y → Taken (if c then x else y)
  pick true x y p q = p
  pick false x y p q = q

  asleep-taken : (phase : Phase) (place : ℕ) (x : Lane) (b : Bridge) → b.number ≡ n → Taken (lane.asleep_in phase place x b)
  asleep-taken phases.Away place x b e = inl e
  asleep-taken phases.Asleep place x b e = inl e
  asleep-taken phase place x b e = inl e

  brings-taken : (place name : ℕ) (up : UpName) (topic_id msg_id : ℕ) (body : List ℕ) (x : Lane) (b : Bridge) → b.number ≡ n
      → Taken (lane.brings settings place name up topic_id msg_id body x b)
  brings-taken place name up topic_id msg_id body x b e =
      let brought : Bridge = lane.seated place (record x { last = Some (lane.open_of b.number name topic_id msg_id body) }) b in
      let item : Item = lane.item_of b.number place levels.One up body in
      let counted : Bridge = lane.reading_counted settings place levels.One up body brought in
      let taken : IsIn n counted = takes-in b.side item (record brought { number = b.number + 1 }) e refl in
      pick (lane.reading_has_room settings body b) (lane.stored settings item counted) (lane.asleep_in x.phase place x b)
      (inr (stored-by settings.spools item counted e taken)) (asleep-taken x.phase place x b e)

  again-taken : (c : Bool) (place topic_id msg_id : ℕ) (held : Open) (x : Lane) (b : Bridge) → b.number ≡ n → Taken (lane.again_at c place topic_id msg_id held x b)
  again-taken true place topic_id msg_id held x b e = inl e
  again-taken false place topic_id msg_id held x b e = inl e

  brings-if-taken : (last : Option Open) (place name : ℕ) (up : UpName) (topic_id msg_id : ℕ) (body : List ℕ) (x : Lane) (b : Bridge) → b.number ≡ n
      → Taken (lane.brings_if last settings place name up topic_id msg_id body x b)
  brings-if-taken None place name up topic_id msg_id body x b e = brings-taken place name up topic_id msg_id body x b e
  brings-if-taken (Some held) place name up topic_id msg_id body x b e =
      pick (lane.is_same name msg_id body held) (lane.again_at held.is_answered place topic_id msg_id held x b)
      (lane.brings settings place name up topic_id msg_id body x b)
      (again-taken held.is_answered place topic_id msg_id held x b e) (brings-taken place name up topic_id msg_id body x b e)

  named-taken : (up : Option UpName) (kind : TopicIdType) (place name topic_id msg_id : ℕ) (body : List ℕ) (x : Lane) (b : Bridge) → b.number ≡ n
      → Taken (lane.named_at up field_levels.One kind settings place name topic_id msg_id body x b)
  named-taken None kind place name topic_id msg_id body x b e = inl e
  named-taken (Some up) kind place name topic_id msg_id body x b e = brings-if-taken x.last place name up topic_id msg_id body x b e

  known-taken : (name : Option ℕ) (kind : TopicIdType) (own : LaneSettings) (place topic_id msg_id : ℕ) (body : List ℕ) (x : Lane) (b : Bridge) → b.number ≡ n
      → Taken (lane.topic_known_at name field_levels.One kind settings own place topic_id msg_id body x b)
  known-taken None kind own place topic_id msg_id body x b e = inl e
  known-taken (Some name) kind own place topic_id msg_id body x b e = named-taken (slice_get own.names name) kind place name topic_id msg_id body x b e

  publication-taken : (own : LaneSettings) (place : ℕ) (flags : Flags) (topic_id msg_id : ℕ) (body : List ℕ) (x : Lane) (b : Bridge) → IsAtOne flags → b.number ≡ n
      → Taken (lane.lane_publication settings own place flags topic_id msg_id body x b)
  publication-taken own place flags topic_id msg_id body x b one e =
      let name : Option ℕ = lane.name_meant (kind_of flags.bits) topic_id own.names x.ids in
      let P : FieldQos → Type 0 = λ qos. Taken (lane.topic_known_at name qos (kind_of flags.bits) settings own place topic_id msg_id body x b) in
      subst P (sym one) (known-taken name (kind_of flags.bits) own place topic_id msg_id body x b e)

  frame-taken : (phase : Phase) (own : LaneSettings) (place : ℕ) (m : Moment) (flags : Flags) (topic_id msg_id : ℕ) (body : List ℕ) (x : Lane) (b : Bridge)
      → IsAtOne flags → b.number ≡ n → Taken (lane.frame_in phase settings own place m (frames.Publish flags topic_id msg_id body) x b)
  frame-taken phases.Away own place m flags topic_id msg_id body x b one e = inl e
  frame-taken phases.Connecting own place m flags topic_id msg_id body x b one e = inl e
  frame-taken (phases.Subscribing next) own place m flags topic_id msg_id body x b one e =
      publication-taken own place flags topic_id msg_id body x b one e
  frame-taken phases.Listening own place m flags topic_id msg_id body x b one e =
      publication-taken own place flags topic_id msg_id body (lane.lane_heard m x) b one e
  frame-taken phases.Asleep own place m flags topic_id msg_id body x b one e = inl e

  pub lane-taken : (own : Option LaneSettings) (x : Option Lane) (place : ℕ) (m : Moment) (flags : Flags) (topic_id msg_id : ℕ) (body : List ℕ) (b : Bridge)
      → IsAtOne flags → b.number ≡ n → Taken (lane_does own x (lane.lane_frame settings place m (frames.Publish flags topic_id msg_id body)) b)
  lane-taken None x place m flags topic_id msg_id body b one e = inl e
  lane-taken (Some own) None place m flags topic_id msg_id body b one e = inl e
  lane-taken (Some own) (Some x) place m flags topic_id msg_id body b one e =
      frame-taken x.phase own place m flags topic_id msg_id body x b one e

-- ---- the laws

pub takes-next : (settings : Settings) (before : List Come) (place topic msg_id moment : ℕ) (flags : Flags) (body : List ℕ) → IsAtOne flags
    → TakesItsNumber settings before (publish_comes place flags topic msg_id body moment)
takes-next settings before place topic msg_id moment flags body one =
    let b : Bridge = after settings before in
    lane-taken b.number settings (slice_get settings.lanes place) (slice_get b.lanes place) place (moment_of moment) flags topic msg_id body (nothing_out b) one refl

one-is : (qos : Qos) → IsOne qos → qos ≡ levels.One
one-is levels.Zero h = absurd h
one-is levels.One h = refl

found-by : (n : ℕ) (c : Bool) (x y : Bridge) → c ≡ true → IsIn n x → IsIn n (if c then x else y)
found-by n true x y e h = h
found-by n false x y e h = cc

pub finds-again : (settings : Settings) (before : List Come) (item : Item) (moment : ℕ) → IsOne item.qos → comes_in_order item (after settings before) ≡ true
    → IsIn item.number (stepped settings (after settings before) (found_again item moment))
finds-again settings before item moment one is =
    let b : Bridge = nothing_out (after settings before) in
    let next : Bridge = record b { number = item.number + 1 } in
    found-by item.number (comes_in_order item b) (takes settings item next) b is (takes-in item.number settings b.side item next refl (one-is item.qos one))
