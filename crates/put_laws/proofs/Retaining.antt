-- What a step retains, and what it hands.
use Rattle.std.proofs.Common.{◌≡◌, ℕ, Bool, true, false, ◌||◌, if◌then◌else◌, List, [], ◌∷◌, ◌++◌, map, Option, Some, None, IfSome, option_to_list, refl, sym, ap, ◌∙◌, subst}
use Rattle.std.specs.List.{AllByRecursion}
use Rattle.std.proofs.lemmas.Option.{same_Some}
use Rattle.sn_topic.specs.Table.{Entries}
use Rattle.sn_session.specs.declared.session.Session.{Session}
use Rattle.sn_session.specs.declared.change.SessionOp.{SessionOp}
use Rattle.sn_session.specs.Session.{empty_session}
use Rattle.sn_tables.specs.Received.{is_received, id_has_no_room}
use Rattle.sn_tables.specs.Subscriptions.{filter_qos, filter_has_no_room}
use Rattle.sn_frame.specs.declared.flags.Qos.{Qos}
use Rattle.sn_frame.specs.declared.flags.Qos.TheVariants as levels
use Rattle.sn_frame.specs.declared.frame.Frame.{Frame}
use Rattle.sn_frame.specs.declared.frame.Frame.TheVariants as frames
use Rattle.sn_frame.specs.FlagBits.{qos_of, kind_of}
use Rattle.rep_op.specs.declared.op.Op.{Op}
use Rattle.rep_model.specs.Topics.{retained}
use Rattle.rep_model.specs.Fresh.{next_clock}
use Rattle.sn_local.specs.declared.config.Addr.{Addr}
use Rattle.sn_local.specs.Bindings.{client_at}
use Rattle.sn_local.specs.Lifetimes.{expires_at}
use Rattle.sn_local.specs.Locals.{Local}
use Rattle.sn_local.specs.Seen.{Seen, seen_of}
use Rattle.sn_plan.specs.declared.asking.Asked.{Asked}
use Rattle.sn_plan.specs.declared.asking.Asked.TheVariants as askings
use Rattle.sn_plan.specs.declared.draft.NewPut.{NewPut}
use Rattle.sn_plan.specs.declared.draft.Posted.{Posted}
use Rattle.sn_plan.specs.declared.plan.Plan.{Plan}
use Rattle.sn_plan.specs.declared.row.Follow.TheVariants as follows
use Rattle.sn_plan.specs.declared.row.Row.{Row}
use Rattle.sn_plan.specs.Asking.{qos_asked, retain_asked, topics_asked}
use Rattle.sn_plan.specs.Bound.{session_of}
use Rattle.sn_plan.specs.Drafts.{Drafted, nothing, changed_if, lasting}
use Rattle.sn_plan.specs.Numbering.{planned, handed_to, kept_as}
use Rattle.sn_plan.specs.Own.{handed_in, retained_in}
use Rattle.sn_plan.specs.Others.{other}
use Rattle.sn_plan.specs.Plans.{plan_without}
use Rattle.sn_plan.specs.Rows.{plan_for, row_of, row_lasting}
use Rattle.sn_plan.proofs.Made.{Made, SameMade, no_handed, no_retain, for_nobody}
use Rattle.sn_subscribe.specs.declared.registration.NamedId.{NamedId}
use Rattle.sn_subscribe.specs.Handing.{waiting_for, handed_for}
use Rattle.sn_subscribe.specs.Subscription.{refused, id_asked, subscribe_change, granted, subscribed, subscribe_asked, subscribe_at}
use Rattle.sn_subscribe.specs.TopicRows.{subscribe_of}
use Rattle.sn_publish.specs.declared.meaning.Meant.{Meant}
use Rattle.sn_publish.specs.declared.meaning.Meant.TheVariants.{Topic, Refused}
use Rattle.sn_publish.specs.Publishing.{publication_meant, publish_meant, spread_meant}
use Rattle.sn_publish.specs.Retaining.{retained_of}
use Rattle.sn_exchange.specs.Following.{followed_for, deliver_next}
use Rattle.sn_deliver.specs.Serving.{publish_of, publish_in_at}
use Rattle.sn_deliver.specs.Steps.{row_for, step}
use Rattle.sn_tick.specs.declared.due.Due.{Due}
use Rattle.sn_tick.specs.declared.due.Due.TheVariants.{Expiry, Loss, Retry, Delivery}
use Rattle.sn_tick.specs.Due.{first_due}
use Rattle.sn_tick.specs.Expiry.{expire_all}
use Rattle.sn_tick.specs.Ticking.{begin_tick, may_advertise, advertised, lost, retry_row, plan_due, plan_if_due, tick}
use Rattle.row_laws.proofs.Drafting.{connect-made, disconnect-made, will_topic-made, will_msg-made, will_topic_update-made, will_msg_update-made, register-made, subscribe-retain, unsubscribe-made, other-made}
use Rattle.row_laws.proofs.Retaining.{plan-wins, plan-others}
use Rattle.row_laws.proofs.Waiting.{plan-handed, plan-retained}
use Rattle.step_laws.proofs.Drafting.{followed_for_made, pubrel_of_made, ack_of_made, wake_made, cleaned_made, expired_made}
use Rattle.put_laws.specs.Puts.{IsOfGateway}
use Rattle.put_laws.specs.Retained.{kept_meant, kept_at, kept_bound, kept_by_level, kept_of, kept_lost, kept_due, kept_by_tick, handed_with, handed_asked, handed_at, handed_bound, handed_by}
use Rattle.put_laws.proofs.Putting.{of-draft}

-- ---- the row of a PUBLISH

none_either : (b : Bool) → ◌≡◌ {A = Option Posted} None (if b then None else None)
none_either true = refl
none_either false = refl

choose_new : (a b : Bool) (x y z : Drafted) (posted : Option Posted) → x.retain ≡ None → y.retain ≡ None → z.retain ≡ posted
    → (if a then x else (if b then y else z)).retain ≡ (if a || b then None else posted)
choose_new true b x y z posted h k l = h
choose_new false true x y z posted h k l = k
choose_new false false x y z posted h k l = l

choose_bare : (b : Bool) (x y : Drafted) → x.handed ≡ [] → y.handed ≡ [] → (if b then x else y).handed ≡ []
choose_bare true x y h k = h
choose_bare false x y h k = k

module _ (seen : Seen) (asked : Bool) (a : Addr) (s : Session) (topic msg_id : ℕ) (body : List ℕ) where
  publish-retain : (qos : Qos) (meant : Meant) → (publish_meant seen asked a s topic msg_id body qos meant).retain ≡ kept_at seen asked s msg_id body qos meant
  publish-retain levels.Zero (Refused code) = refl
  publish-retain levels.One (Refused code) = refl
  publish-retain levels.Two (Refused code) = none_either (is_received msg_id s.received || id_has_no_room msg_id s.received)
  publish-retain levels.MinusOne (Refused code) = refl
  publish-retain levels.Zero (Topic name) = refl
  publish-retain levels.One (Topic name) = refl
  publish-retain levels.Two (Topic name) = choose_new (is_received msg_id s.received) (id_has_no_room msg_id s.received) _ _ _ (retained_of seen asked name 2 body) refl refl refl
  publish-retain levels.MinusOne (Topic name) = refl

  publish-bare : (qos : Qos) (meant : Meant) → (publish_meant seen asked a s topic msg_id body qos meant).handed ≡ []
  publish-bare qos (Refused code) = refl
  publish-bare levels.Zero (Topic name) = refl
  publish-bare levels.One (Topic name) = refl
  publish-bare levels.Two (Topic name) = choose_bare (is_received msg_id s.received) _ _ refl (choose_bare (id_has_no_room msg_id s.received) _ _ refl refl)
  publish-bare levels.MinusOne (Topic name) = refl

spread-retain : (seen : Seen) (asked : Bool) (body : List ℕ) (meant : Meant) → (spread_meant seen asked body meant).retain ≡ kept_meant seen asked 0 body meant
spread-retain seen asked body (Refused code) = refl
spread-retain seen asked body (Topic name) = refl

spread-bare : (seen : Seen) (asked : Bool) (body : List ℕ) (meant : Meant) → (spread_meant seen asked body meant).handed ≡ []
spread-bare seen asked body (Refused code) = refl
spread-bare seen asked body (Topic name) = refl

module _ (predefined : Entries) (seen : Seen) (local : Local) (a : Addr) (bits topic msg_id : ℕ) (body : List ℕ) (now : ℕ) where
  bound-retain : (bound : Option (List ℕ)) → (publish_of predefined seen a bound bits topic msg_id body now).draft.retain ≡ kept_bound predefined seen bound bits topic msg_id body
  bound-retain None = refl
  bound-retain (Some c) = publish-retain seen (retain_asked bits) a (session_of seen c) topic msg_id body (qos_of bits) (publication_meant predefined (session_of seen c) bits topic body)

  bound-bare : (bound : Option (List ℕ)) → (publish_of predefined seen a bound bits topic msg_id body now).draft.handed ≡ []
  bound-bare None = refl
  bound-bare (Some c) = publish-bare seen (retain_asked bits) a (session_of seen c) topic msg_id body (qos_of bits) (publication_meant predefined (session_of seen c) bits topic body)

  level-retain : (qos : Qos) → (publish_in_at predefined seen local a bits topic msg_id body now qos).draft.retain ≡ kept_by_level predefined seen (client_at a local.bindings) bits topic msg_id body qos
  level-retain levels.MinusOne = spread-retain seen (retain_asked bits) body (publication_meant predefined empty_session bits topic body)
  level-retain levels.Zero = bound-retain (client_at a local.bindings)
  level-retain levels.One = bound-retain (client_at a local.bindings)
  level-retain levels.Two = bound-retain (client_at a local.bindings)

  level-bare : (qos : Qos) → (publish_in_at predefined seen local a bits topic msg_id body now qos).draft.handed ≡ []
  level-bare levels.MinusOne = spread-bare seen (retain_asked bits) body (publication_meant predefined empty_session bits topic body)
  level-bare levels.Zero = bound-bare (client_at a local.bindings)
  level-bare levels.One = bound-bare (client_at a local.bindings)
  level-bare levels.Two = bound-bare (client_at a local.bindings)

-- ---- the row of a SUBSCRIBE

changed_if-bare : (change : Option SessionOp) (d : Drafted) → d.handed ≡ [] → (changed_if change d).handed ≡ []
changed_if-bare None d h = h
changed_if-bare (Some change) d h = h

choose_handed : (b : Bool) (x y : Drafted) (posted : List Posted) → x.handed ≡ [] → y.handed ≡ posted → (if b then x else y).handed ≡ (if b then [] else posted)
choose_handed true x y posted h k = h
choose_handed false x y posted h k = k

module _ (predefined : Entries) (seen : Seen) (waiting : ℕ) (a : Addr) (s : Session) (bits msg_id : ℕ) (field : List ℕ) where
  granted-handed : (filter : List ℕ) (qos : ℕ) (named : Option NamedId) → (subscribed seen waiting a s bits msg_id filter qos named).handed ≡ handed_with seen waiting filter qos named
  granted-handed filter qos None = refl
  granted-handed filter qos (Some named) =
      ap (λ xs. xs ++ handed_for seen filter qos waiting)
      (changed_if-bare (subscribe_change filter qos (filter_qos filter s.subscriptions)) (changed_if named.change nothing) (changed_if-bare named.change nothing refl))

  asked-handed : (asked : Asked) (qos : ℕ) → (subscribe_asked seen waiting a s bits msg_id field asked qos).handed ≡ handed_asked seen waiting s bits field asked qos
  asked-handed (askings.Refused code) qos = refl
  asked-handed (askings.Topics filter) qos =
      choose_handed (filter_has_no_room filter s.subscriptions) (refused a bits msg_id 1) _ (handed_with seen waiting filter qos (id_asked s (kind_of bits) field filter)) refl
      (granted-handed filter qos (id_asked s (kind_of bits) field filter))

  at-handed : (qos : Option ℕ) → (subscribe_at predefined seen waiting a s bits msg_id field qos).handed ≡ handed_at predefined seen waiting s bits field qos
  at-handed None = refl
  at-handed (Some qos) = asked-handed (topics_asked predefined (kind_of bits) field) qos

-- ---- every row

-- what a row for this client hands
abbrev hands : Option (List ℕ) → List Posted → List NewPut
hands None posted = []
hands (Some c) posted = map (handed_to c) posted

hands-none : (client : Option (List ℕ)) (posted : List Posted) → posted ≡ [] → hands client posted ≡ []
hands-none None posted h = refl
hands-none (Some c) posted h = ap (map (handed_to c)) h

subscribe-handed : (predefined : Entries) (seen : Seen) (a : Addr) (bound : Option (List ℕ)) (bits msg_id : ℕ) (field : List ℕ) (now : ℕ)
    → hands (subscribe_of predefined seen a bound bits msg_id field now).client (subscribe_of predefined seen a bound bits msg_id field now).draft.handed ≡ handed_bound predefined seen bound bits field
subscribe-handed predefined seen a None bits msg_id field now = refl
subscribe-handed predefined seen a (Some c) bits msg_id field now =
    ap (map (handed_to c)) (at-handed predefined seen (waiting_for seen c) a (session_of seen c) bits msg_id field (qos_asked (qos_of bits)))

made-nothing : (row : Row) → SameMade row.draft nothing → (row.draft.retain ≡ None) × (hands row.client row.draft.handed ≡ [])
made-nothing row h = (no_retain row.draft h, hands-none row.client row.draft.handed (no_handed row.draft h))

abbrev IsRow : ℕ → Entries → Seen → Local → Addr → Frame → ℕ → Type 0
IsRow g predefined seen local a frame now =
    ((row_for g predefined seen local a frame now).draft.retain ≡ kept_of predefined seen local a frame)
    × (hands (row_for g predefined seen local a frame now).client (row_for g predefined seen local a frame now).draft.handed ≡ handed_by predefined seen local a frame)

row-is : (g : ℕ) (predefined : Entries) (seen : Seen) (local : Local) (a : Addr) (frame : Frame) (now : ℕ) → IsRow g predefined seen local a frame now
row-is g predefined seen local a (frames.Connect flags protocol duration client) now = made-nothing (row_for g predefined seen local a (frames.Connect flags protocol duration client) now) (connect-made seen local a flags.bits protocol duration client now)
row-is g predefined seen local a (frames.WillTopic will) now = made-nothing (row_for g predefined seen local a (frames.WillTopic will) now) (will_topic-made seen a now local will)
row-is g predefined seen local a (frames.WillMsg message) now = made-nothing (row_for g predefined seen local a (frames.WillMsg message) now) (will_msg-made seen a now local message)
row-is g predefined seen local a (frames.Disconnect duration) now = made-nothing (row_for g predefined seen local a (frames.Disconnect duration) now) (disconnect-made seen local a duration now)
row-is g predefined seen local a (frames.Register topic_id msg_id name) now = made-nothing (row_for g predefined seen local a (frames.Register topic_id msg_id name) now) (register-made seen a now local msg_id name)
row-is g predefined seen local a (frames.Subscribe flags msg_id topic) now =
    (subscribe-retain seen a now predefined local flags.bits msg_id topic, subscribe-handed predefined seen a (client_at a local.bindings) flags.bits msg_id topic now)
row-is g predefined seen local a (frames.Unsubscribe flags msg_id topic) now = made-nothing (row_for g predefined seen local a (frames.Unsubscribe flags msg_id topic) now) (unsubscribe-made seen a now predefined local flags.bits msg_id topic)
row-is g predefined seen local a (frames.WillTopicUpd will) now = made-nothing (row_for g predefined seen local a (frames.WillTopicUpd will) now) (will_topic_update-made local a will now)
row-is g predefined seen local a (frames.WillMsgUpd message) now = made-nothing (row_for g predefined seen local a (frames.WillMsgUpd message) now) (will_msg_update-made seen a now local message)
row-is g predefined seen local a (frames.Publish flags topic msg_id body) now = (
  level-retain predefined seen local a flags.bits topic msg_id body now (qos_of flags.bits),
  hands-none (publish_in_at predefined seen local a flags.bits topic msg_id body now (qos_of flags.bits)).client _ (level-bare predefined seen local a flags.bits topic msg_id body now (qos_of flags.bits)),
)
row-is g predefined seen local a (frames.PubRel msg_id) now = made-nothing (row_for g predefined seen local a (frames.PubRel msg_id) now) (pubrel_of_made seen a (client_at a local.bindings) msg_id now)
row-is g predefined seen local a (frames.PubAck topic_id msg_id code) now = made-nothing (row_for g predefined seen local a (frames.PubAck topic_id msg_id code) now) (ack_of_made predefined seen a (client_at a local.bindings) (frames.PubAck topic_id msg_id code) now)
row-is g predefined seen local a (frames.PubRec msg_id) now = made-nothing (row_for g predefined seen local a (frames.PubRec msg_id) now) (ack_of_made predefined seen a (client_at a local.bindings) (frames.PubRec msg_id) now)
row-is g predefined seen local a (frames.PubComp msg_id) now = made-nothing (row_for g predefined seen local a (frames.PubComp msg_id) now) (ack_of_made predefined seen a (client_at a local.bindings) (frames.PubComp msg_id) now)
row-is g predefined seen local a (frames.RegAck topic_id msg_id code) now = made-nothing (row_for g predefined seen local a (frames.RegAck topic_id msg_id code) now) (ack_of_made predefined seen a (client_at a local.bindings) (frames.RegAck topic_id msg_id code) now)
row-is g predefined seen local a (frames.PingReq client) now = made-nothing (row_for g predefined seen local a (frames.PingReq client) now) (wake_made g seen local a client now)
row-is g predefined seen local a frame now = made-nothing (other g local a frame now) (other-made g local a frame now)

-- ---- what a plan retains and hands

module _ (g : ℕ) (seen : Seen) where
  for-retained : (d : Drafted) (client : Option (List ℕ)) (plan : Plan) → plan_for g seen d client ≡ Some plan → retained_in plan.ops ≡ option_to_list d.retain
  unfolding planned
  for-retained d None plan is = plan-retained g [] seen (for_nobody d) plan is
  for-retained d (Some c) plan is = plan-retained g c seen d plan is

  for-handed : (d : Drafted) (client : Option (List ℕ)) (plan : Plan) → plan_for g seen d client ≡ Some plan → handed_in plan.ops ≡ hands client d.handed
  unfolding planned
  for-handed d None plan is = plan-handed g [] seen (for_nobody d) plan is
  for-handed d (Some c) plan is = plan-handed g c seen d plan is

  module _ (predefined : Entries) (a : Addr) (now : ℕ) (row : Row) (plan : Plan) (is : deliver_next g predefined seen a now row ≡ Some plan) where
    next-retained : retained_in plan.ops ≡ option_to_list row.draft.retain
    next-retained =
        for-retained (followed_for predefined seen a now row.draft row.follow row.client) row.client plan is
        ∙ ap (λ (m : Made). option_to_list m.2) (followed_for_made predefined seen a now row.draft row.follow row.client)

    next-handed : handed_in plan.ops ≡ hands row.client row.draft.handed
    next-handed =
        for-handed (followed_for predefined seen a now row.draft row.follow row.client) row.client plan is
        ∙ ap (λ (m : Made). hands row.client m.1) (followed_for_made predefined seen a now row.draft row.follow row.client)

module _ (g lifetime : ℕ) (predefined : Entries) (seen : Seen) (local : Local) (a : Addr) (frame : Frame) (now : ℕ) (plan : Plan) (is : step g lifetime predefined seen local a frame now ≡ Some plan) where
  pub step-retained : retained_in plan.ops ≡ option_to_list (kept_of predefined seen local a frame)
  unfolding step
  step-retained = next-retained g seen predefined a now (row_lasting (expires_at lifetime now) (row_for g predefined seen local a frame now)) plan is ∙ ap option_to_list (row-is g predefined seen local a frame now).0

  pub step-handed : handed_in plan.ops ≡ handed_by predefined seen local a frame
  unfolding step
  step-handed = next-handed g seen predefined a now (row_lasting (expires_at lifetime now) (row_for g predefined seen local a frame now)) plan is ∙ (row-is g predefined seen local a frame now).1

-- ---- a tick

module _ (g : ℕ) (predefined : Entries) (seen : Seen) (local : Local) (now : ℕ) (plan : Plan) (d : Drafted) (same : SameMade d nothing) where
  abbrev Tells : Option Posted → Type 0
  Tells kept = (retained_in plan.ops ≡ option_to_list kept) × (handed_in plan.ops ≡ [])

  next-tells : (a : Addr) (row : Row) → SameMade row.draft nothing → deliver_next g predefined seen a now row ≡ Some plan → Tells None
  next-tells a row none is =
      let made = made-nothing row none in
      (next-retained g seen predefined a now row plan is ∙ ap option_to_list made.0, next-handed g seen predefined a now row plan is ∙ made.1)

  lost-tells : (c : List ℕ) (due : Due) → plan_due g predefined seen local now d c due ≡ Some plan → Tells (kept_lost seen c due)
  lost-tells c Expiry is =
      let e : Drafted = expire_all seen local now c d in
      let none : SameMade e nothing = expired_made seen local now c d ∙ same in
      (plan-retained g c seen e plan is ∙ ap option_to_list (no_retain e none), plan-handed g c seen e plan is ∙ ap (map (handed_to c)) (no_handed e none))
  lost-tells c Loss is =
      (plan-retained g c seen (lost seen c (session_of seen c) d) plan is, plan-handed g c seen (lost seen c (session_of seen c) d) plan is ∙ ap (map (handed_to c)) (no_handed d same))
  lost-tells c (Retry a) is = next-tells a (retry_row now d c) same is
  lost-tells c (Delivery a) is = next-tells a (row_of follows.Delivery c d) same is

  without-tells : (e : Drafted) → Some (plan_without e) ≡ Some plan → Tells None
  without-tells e is = subst (λ (p : Plan). (retained_in p.ops ≡ []) × (handed_in p.ops ≡ [])) (same_Some (plan_without e) plan is) (refl, refl)

  due-tells : (found : Option (List ℕ × Due)) → plan_if_due g predefined seen local now d found ≡ Some plan → Tells (kept_due seen found)
  due-tells None is = without-tells d is
  due-tells (Some found) is = lost-tells found.0 found.1 is

  either-tells : (b : Bool) (told : Drafted) (found : Option (List ℕ × Due)) → (if b then Some (plan_without told) else plan_if_due g predefined seen local now d found) ≡ Some plan
      → Tells (if b then None else kept_due seen found)
  either-tells true told found is = without-tells told is
  either-tells false told found is = due-tells found is

module _ (g lifetime advertise : ℕ) (field : List Addr) (predefined : Entries) (seen : Seen) (local : Local) (now : ℕ) (plan : Plan) (is : tick g lifetime advertise field predefined seen local now ≡ Some plan) where
  tick-tells : (retained_in plan.ops ≡ option_to_list (kept_by_tick g advertise field seen local now)) × (handed_in plan.ops ≡ [])
  tick-tells =
      let d : Drafted = lasting (expires_at lifetime now) (begin_tick g seen local now) in
      either-tells g predefined seen local now plan d (cleaned_made g seen local now) (may_advertise advertise field now local.advertised)
      (advertised g advertise field now d) (first_due g seen local now seen.all) is

  pub tick-retained : retained_in plan.ops ≡ option_to_list (kept_by_tick g advertise field seen local now)
  tick-retained = tick-tells.0

  pub tick-handed : handed_in plan.ops ≡ []
  tick-handed = tick-tells.1

-- ---- what is retained then

head_of : Posted → List Posted → Posted
head_of m [] = m
head_of m (x ∷ xs) = x

one-listed : (o : Option Posted) (m : Posted) → option_to_list o ≡ m ∷ [] → o ≡ Some m
unfolding head_of
one-listed None m e = absurd (cc)
one-listed (Some x) m e = ap (λ xs. Some (head_of x xs)) e

if-listed : (P : Posted → Type 0) (o : Option Posted) → AllByRecursion P (option_to_list o) → IfSome o P
if-listed P None all = tt
if-listed P (Some m) all = all.0

module _ (g : ℕ) (S : List Op) (plan : Plan) where
  pub gateway-wins : (m : Posted) → IsOfGateway g S plan → retained_in plan.ops ≡ m ∷ []
      → (clock : ℕ) × (next_clock m.topic S ≡ Some clock) × (retained m.topic (S ++ plan.ops) ≡ Some (kept_as g m clock))
  gateway-wins m is only =
      let h = of-draft g S plan is in
      plan-wins g h.client S h.draft plan h.is m (one-listed h.draft.retain m (sym (plan-retained g h.client (seen_of S) h.draft plan h.is) ∙ only))

  pub gateway-others : (t : List ℕ) → IsOfGateway g S plan → AllByRecursion (λ (m : Posted). ¬ (m.topic ≡ t)) (retained_in plan.ops) → retained t (S ++ plan.ops) ≡ retained t S
  gateway-others t is all =
      let h = of-draft g S plan is in
      plan-others g h.client S h.draft plan h.is t
      (if-listed (λ (m : Posted). ¬ (m.topic ≡ t)) h.draft.retain (subst (AllByRecursion (λ (m : Posted). ¬ (m.topic ≡ t))) (plan-retained g h.client (seen_of S) h.draft plan h.is) all))
