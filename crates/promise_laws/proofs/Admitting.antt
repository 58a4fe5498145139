-- A step that brings an id makes a message for each recipient, and answers PUBREC.
use Rattle.std.proofs.Common.{◌≡◌, ℕ, Bool, true, false, ◌||◌, if◌then◌else◌, List, [], Option, Some, Contains, sym, ap, ◌∙◌, subst, true≢false}
use Rattle.std.proofs.lemmas.List.Elements.{Contains-push}
use Rattle.sn_topic.specs.Table.{Entries}
use Rattle.sn_session.specs.declared.session.Session.{Session}
use Rattle.sn_session.specs.declared.change.SessionOp.TheVariants.{Received}
use Rattle.sn_tables.specs.Received.{is_received, id_has_no_room}
use Rattle.sn_frame.specs.declared.flags.Qos.TheVariants as levels
use Rattle.sn_frame.specs.declared.frame.Frame.{Frame}
use Rattle.sn_frame.specs.declared.frame.Frame.TheVariants as frames
use Rattle.sn_frame.specs.Grammar.{spelling}
use Rattle.sn_local.specs.declared.config.Addr.{Addr}
use Rattle.sn_local.specs.declared.config.Send.{Send}
use Rattle.sn_local.specs.declared.local.LocalChange.TheVariants.{Heard}
use Rattle.sn_local.specs.Bindings.{client_at}
use Rattle.sn_local.specs.Locals.{Local}
use Rattle.sn_local.specs.Seen.{Seen}
use Rattle.sn_plan.specs.declared.plan.Plan.{Plan}
use Rattle.sn_plan.specs.declared.row.Follow.TheVariants as follows
use Rattle.sn_plan.specs.Bound.{session_of}
use Rattle.sn_plan.specs.Asking.{retain_asked}
use Rattle.sn_plan.specs.Drafts.{Drafted, nothing, changed, lasting, sent, moved}
use Rattle.sn_plan.specs.Rows.{row_lasting}
use Rattle.sn_local.specs.Lifetimes.{expires_at}
use Rattle.sn_plan.specs.Own.{new_messages}
use Rattle.sn_publish.specs.declared.meaning.Meant.{Meant}
use Rattle.sn_publish.specs.Publishing.{publication_meant, posted, publish_meant, publish}
use Rattle.sn_publish.specs.Recipients.{puts_for}
use Rattle.sn_exchange.specs.Following.{peer_at, followed_by, deliver_next}
use Rattle.sn_deliver.specs.Serving.{publish_of, publish_in_at}
use Rattle.sn_deliver.specs.Steps.{row_for, step}
use Rattle.put_laws.proofs.Acked.{plan-sends}
use Rattle.put_laws.proofs.Grown.{follows-stay}
use Rattle.put_laws.specs.Puts.{puts_of, puts_at, puts_bound, puts_by_level, IsReplyTo, IsPublished}
use Rattle.put_laws.proofs.Putting.{step-messages}
use Rattle.promise_laws.proofs.Carrying.{IsNewPublish}

module _ (g lifetime : ℕ) (predefined : Entries) (seen : Seen) (local : Local) (a : Addr) (frame : Frame) (now : ℕ) (plan : Plan) (is : step g lifetime predefined seen local a frame now ≡ Some plan)
    (c : List ℕ) (id : ℕ) (new : IsNewPublish predefined seen local a frame c id) where
  abbrev s : Session
  s = session_of seen c

  abbrev bound : Option (List ℕ)
  bound = client_at a local.bindings

  abbrev meant : Meant
  meant = publication_meant predefined s new.flags.bits new.topic new.body

  -- the messages of the step are those for the recipients
  pub new-published : IsPublished predefined seen local a new.flags.bits new.topic 2 new.body (new_messages plan.ops)
  new-published =
      let puts = puts_for seen new.name 2 new.body in (
        c,
        new.name,
        new.bound,
        new.about,
        step-messages g lifetime predefined seen local a frame now plan is
            ∙ (ap (puts_of predefined seen local a) new.is
            ∙ (ap (λ x. puts_by_level predefined seen bound new.flags.bits new.topic id new.body x) new.at_two
            ∙ (ap (λ x. puts_bound predefined seen x new.flags.bits new.topic id new.body) new.bound
            ∙ (ap (λ x. puts_at seen s id new.body x meant) new.at_two
            ∙ (ap (λ x. puts_at seen s id new.body levels.Two x) new.about
            ∙ (ap (λ b. if b || id_has_no_room id s.received then [] else puts) new.fresh
            ∙ ap (λ b. if b then [] else puts) new.room)))))),
      )

  abbrev answer : Send
  answer = record { to = a; bytes = spelling (frames.PubRec id) }

  -- of three drafts the last one, which has the answer
  last-answers : (r f : Bool) (x y z : Drafted) → r ≡ false → f ≡ false → Contains z.sends answer → Contains (if r then x else (if f then y else z)).sends answer
  last-answers true f x y z e h there = absurd (true≢false e)
  last-answers false true x y z e h there = absurd (true≢false h)
  last-answers false false x y z e h there = there

  abbrev row_of_two : Drafted
  row_of_two = publish predefined seen a s new.flags.bits new.topic id new.body

  row-answers : Contains row_of_two.sends answer
  row-answers =
      let made : Drafted = changed (Received id) (posted seen (retain_asked new.flags.bits) new.name 2 new.body) in
      let two = last-answers (is_received id s.received) (id_has_no_room id s.received) (sent a (frames.PubRec id) nothing) (sent a (frames.PubAck new.topic id 1) nothing) (sent a (frames.PubRec id) made)
      new.fresh new.room (Contains-push made.sends answer) in
      let about = subst (λ x. Contains (publish_meant seen (retain_asked new.flags.bits) a s new.topic id new.body levels.Two x).sends answer) (sym new.about) two in
      subst (λ x. Contains (publish_meant seen (retain_asked new.flags.bits) a s new.topic id new.body x meant).sends answer) (sym new.at_two) about

  of-publish : (x : Frame) → frame ≡ x → deliver_next g predefined seen a now (row_lasting (expires_at lifetime now) (row_for g predefined seen local a x now)) ≡ Some plan
  unfolding step
  of-publish x e = subst (λ f. deliver_next g predefined seen a now (row_lasting (expires_at lifetime now) (row_for g predefined seen local a f now)) ≡ Some plan) e is

  pub new-answered : IsReplyTo a (frames.PubRec id) plan.sends
  new-answered =
      let row : Drafted = lasting (expires_at lifetime now) (moved (Heard c now) row_of_two) in
      let whole : Drafted = followed_by predefined (peer_at a c now) s (seen.of c).pending row follows.Delivery in
      let level = subst (λ x. deliver_next g predefined seen a now (row_lasting (expires_at lifetime now) (publish_in_at predefined seen local a new.flags.bits new.topic id new.body now x)) ≡ Some plan) new.at_two
      (of-publish (frames.Publish new.flags new.topic id new.body) new.is) in
      let planned = subst (λ x. deliver_next g predefined seen a now (row_lasting (expires_at lifetime now) (publish_of predefined seen a x new.flags.bits new.topic id new.body now)) ≡ Some plan) new.bound level in
      subst (λ (sends : List Send). Contains sends answer) (sym (plan-sends g c seen whole plan planned))
      (follows-stay predefined (peer_at a c now) s (seen.of c).pending row follows.Delivery answer row-answers)
