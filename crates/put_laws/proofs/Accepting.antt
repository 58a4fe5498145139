-- A clean session that begins acknowledges all that waits.
use Rattle.std.proofs.Common.{◌≡◌, ℕ, Bool, true, false, ◌==◌, if◌then◌else◌, List, [], ◌∷◌, map, Option, Some, None, IfSome, Contains, refl, sym, subst, inl, inr, eqb-true}
use Rattle.std.proofs.lemmas.Bool.{and_parts}
use Rattle.std.proofs.lemmas.List.Elements.{Contains-push, Contains-push_cases, Contains-append_cases, Contains-append_left, Contains-append_right}
use Rattle.sn_session.specs.Messages.{is_too_long}
use Rattle.sn_session.specs.declared.will.WillTopic.{WillTopic}
use Rattle.sn_frame.specs.declared.flags.Flags.{Flags}
use Rattle.sn_frame.specs.declared.frame.Frame.{Frame}
use Rattle.sn_frame.specs.declared.frame.Frame.TheVariants as frames
use Rattle.sn_frame.specs.declared.frame.Will.{Will}
use Rattle.sn_frame.specs.Grammar.{spelling}
use Rattle.rep_op.specs.declared.op.Put.{Put}
use Rattle.rep_op.specs.Orders.{name_of}
use Rattle.sn_local.specs.declared.config.Addr.{Addr}
use Rattle.sn_local.specs.declared.config.Send.{Send}
use Rattle.sn_local.specs.declared.local.Awaited.{Awaited}
use Rattle.sn_local.specs.declared.local.Awaited.TheVariants.{Topic, Message}
use Rattle.sn_local.specs.declared.local.Request.{Request}
use Rattle.sn_local.specs.declared.local.WillDialog.{WillDialog}
use Rattle.sn_local.specs.Bindings.{same_address, client_at}
use Rattle.sn_local.specs.Locals.{Local}
use Rattle.sn_local.specs.Seen.{Seen}
use Rattle.sn_local.specs.WillDialogs.{dialog_at}
use Rattle.sn_plan.specs.declared.row.Row.{Row}
use Rattle.sn_plan.specs.declared.row.Follow.TheVariants.{Resend}
use Rattle.sn_plan.specs.Drafts.{Drafted}
use Rattle.sn_plan.specs.Rows.{row_of, unexpected_row}
use Rattle.sn_flow.specs.declared.accept.GivenWill.{GivenWill}
use Rattle.sn_flow.specs.declared.accept.GivenWill.TheVariants.{AsItIs, Deleted, Replaced}
use Rattle.sn_flow.specs.Accept.{cleared, accept, has_no_room}
use Rattle.sn_flow.specs.Connection.{has_bit, request_of, refusal_of, connect_row, connect}
use Rattle.sn_flow.specs.WillUpdate.{topic_asked}
use Rattle.sn_flow.specs.Wills.{congestion, not_supported, will_of, dismissed, concluded, topic_given, topic_row, will_topic_in, will_topic_from, message_row, message_in, will_message_from}
use Rattle.put_laws.specs.Causes.{client_by_topic, gives_topic, by_message, gives_message, IsWelcome, BeganClean, IsCause}
use Rattle.put_laws.proofs.Acked.{none-there}
use Rattle.put_laws.proofs.Quiet.{QuietRow, stray-quiet}
use Rattle.put_laws.proofs.Fitting.{Cause, FitsRow, quiet-fits, heard-fits, choose-fits}

one-there : {X : Type 0} (x y : X) → Contains (x ∷ []) y → x ≡ y
one-there x y there =
    elim (Contains-push_cases [] x y there) [
      | inl none ↦ absurd (none-there y none)
      | inr is ↦ is
    ]

-- a message among these, of that name
abbrev IsNamed : List Put → ℕ × ℕ → Type 0
IsNamed waiting name = (put : Put) × Contains waiting put × (name ≡ name_of put)

named-there : (waiting : List Put) (name : ℕ × ℕ) → Contains (map name_of waiting) name → IsNamed waiting name
named-there [] name there = absurd (none-there name there)
named-there (put ∷ rest) name there =
    elim (Contains-append_cases (name_of put ∷ []) (map name_of rest) name there) [
      | inl first ↦ (put, Contains-append_left (put ∷ []) rest put (Contains-push [] put), sym (one-there (name_of put) name first))
      | inr more ↦ let w = named-there rest name more in (w.0, Contains-append_right (put ∷ []) rest w.0 w.1, w.2)
    ]

cleared-there : (clean : Bool) (waiting : List Put) (name : ℕ × ℕ) → Contains (cleared clean waiting) name → (clean ≡ true) × IsNamed waiting name
cleared-there true waiting name there = (refl, named-there waiting name there)
cleared-there false waiting name there = absurd (none-there name there)

-- an accepted client: what it acknowledges waits, its session is clean, and it is told
module _ (seen : Seen) (C : Cause) (sender : Option (List ℕ)) (request : Request) (given : GivenWill) (now : ℕ) where
  abbrev welcome : Drafted
  welcome = accept request given (seen.of request.client) now

  told-there : IsWelcome request.address welcome.sends
  told-there = Contains-push [] (record { to = request.address; bytes = spelling (frames.ConnAck 0) })

  pub accept-fits : sender ≡ Some request.client → ((put : Put) → request.clean ≡ true → IsWelcome request.address welcome.sends → C welcome.sends request.client put)
      → FitsRow seen C sender (row_of Resend request.client welcome)
  accept-fits is cause = (
    is,
    λ name there.
        let w = cleared-there request.clean (seen.of request.client).pending name there in
        (w.1.0, w.1.1, w.1.2, cause w.1.0 w.0 told-there),
    refl,
  )

-- ---- CONNECT

module _ (seen : Seen) (local : Local) (a : Addr) (flags : Flags) (protocol duration : ℕ) (client : List ℕ) (now : ℕ) where
  abbrev ByConnect : Row → Type 0
  ByConnect row = FitsRow seen (IsCause seen local a (frames.Connect flags protocol duration client)) (Some client) row

  quiet-connect : (row : Row) → QuietRow seen (Some client) row → ByConnect row
  quiet-connect row h = quiet-fits seen (IsCause seen local a (frames.Connect flags protocol duration client)) (Some client) row h

  connect_row-fits : (will : Bool) (code : Option ℕ) → ByConnect (connect_row (request_of a flags.bits duration client) will (seen.of client) now code)
  connect_row-fits will (Some code) = quiet-connect (connect_row (request_of a flags.bits duration client) will (seen.of client) now (Some code)) (refl, refl, tt)
  connect_row-fits true None = quiet-connect (connect_row (request_of a flags.bits duration client) true (seen.of client) now None) (refl, refl, tt)
  connect_row-fits false None =
      accept-fits seen (IsCause seen local a (frames.Connect flags protocol duration client)) (Some client) (request_of a flags.bits duration client) AsItIs now refl
      (λ put clean told. (refl, clean, told))

  pub connect-fits : ByConnect (connect seen local a flags.bits protocol duration client now)
  connect-fits =
      heard-fits seen (IsCause seen local a (frames.Connect flags protocol duration client)) (Some client) (client_at a local.bindings) now
      (connect_row (request_of a flags.bits duration client) (has_bit flags.bits 3) (seen.of client) now (refusal_of seen local.dialogs a client flags.bits protocol))
      (connect_row-fits (has_bit flags.bits 3) (refusal_of seen local.dialogs a client flags.bits protocol))

-- ---- will dialogs

same_address-true : (a b : Addr) → same_address a b ≡ true → a ≡ b
same_address-true a b h =
    let parts = and_parts (a.host == b.host) (a.port == b.port) h in
    let host : a.host ≡ b.host = eqb-true a.host b.host parts.0 in
    let port : a.port ≡ b.port = eqb-true a.port b.port parts.1 in
    λ i. record { host = host i; port = port i }

-- the dialog of an address began there
dialog-there : (a : Addr) (dialogs : List WillDialog) → IfSome (dialog_at a dialogs) (λ (d : WillDialog). d.request.address ≡ a)
dialog-there a [] = tt
dialog-there a (dialog ∷ rest) =
    elim (same_address dialog.request.address a) as (λ b. same_address dialog.request.address a ≡ b → IfSome {T = WillDialog} (if b then Some dialog else dialog_at a rest) (λ (d : WillDialog). d.request.address ≡ a)) [
      | true ↦ λ h. same_address-true dialog.request.address a h
      | false ↦ λ _. dialog-there a rest
    ] refl

module _ (seen : Seen) (local : Local) (a : Addr) (now : ℕ) (frame : Frame)
    (cause : (sends : List Send) (c : List ℕ) (put : Put) → BeganClean local a c → IsWelcome a sends → IsCause seen local a frame sends c put) where
  abbrev ByFrame : Option (List ℕ) → Row → Type 0
  ByFrame sender row = FitsRow seen (IsCause seen local a frame) sender row

  dismissed-fits : (request : Request) (code : ℕ) → ByFrame (Some request.client) (dismissed request code)
  dismissed-fits request code = quiet-fits seen (IsCause seen local a frame) (Some request.client) (dismissed request code) (refl, refl, tt)

  stray-fits : (bound : Option (List ℕ)) → ByFrame bound (unexpected_row a bound now)
  stray-fits bound = quiet-fits seen (IsCause seen local a frame) bound (unexpected_row a bound now) (stray-quiet seen a bound now)

  module _ (dialog : WillDialog) (is : dialog_at a local.dialogs ≡ Some dialog) where
    there : dialog.request.address ≡ a
    there = subst (λ (o : Option WillDialog). IfSome o (λ (d : WillDialog). d.request.address ≡ a)) is (dialog-there a local.dialogs)

    concluded-fits : (given : GivenWill) → ByFrame (Some dialog.request.client) (concluded seen dialog.request given now)
    concluded-fits given =
        choose-fits seen (IsCause seen local a frame) (Some dialog.request.client) (has_no_room seen dialog.request.client) (dismissed dialog.request congestion)
        (row_of Resend dialog.request.client (accept dialog.request given (seen.of dialog.request.client) now))
        (dismissed-fits dialog.request congestion)
        (accept-fits seen (IsCause seen local a frame) (Some dialog.request.client) dialog.request given now refl
        (λ put clean told. cause (accept dialog.request given (seen.of dialog.request.client) now).sends dialog.request.client put (dialog, is, refl, clean)
        (subst (λ (to : Addr). IsWelcome to (accept dialog.request given (seen.of dialog.request.client) now).sends) there told)))

    given-fits : (topic : Option WillTopic) → ByFrame (Some dialog.request.client) (topic_given dialog topic)
    given-fits None = dismissed-fits dialog.request not_supported
    given-fits (Some topic) = quiet-fits seen (IsCause seen local a frame) (Some dialog.request.client) (topic_given dialog (Some topic)) (refl, refl, tt)

    topic_row-fits : (will : Option Will) → ByFrame (Some dialog.request.client) (topic_row seen dialog will now)
    topic_row-fits None = concluded-fits Deleted
    topic_row-fits (Some will) = given-fits (topic_asked will)

    topic_in-fits : (bound : Option (List ℕ)) (will : Option Will) (awaited : Awaited) → ByFrame (client_by_topic bound dialog awaited) (will_topic_in seen a bound dialog will now awaited)
    topic_in-fits bound will Topic =
        heard-fits seen (IsCause seen local a frame) (Some dialog.request.client) bound now (topic_row seen dialog will now) (topic_row-fits will)
    topic_in-fits bound will (Message topic) = stray-fits bound

    message_row-fits : (topic : WillTopic) (message : List ℕ) → ByFrame (Some dialog.request.client) (message_row seen dialog.request topic message now)
    message_row-fits topic message =
        choose-fits seen (IsCause seen local a frame) (Some dialog.request.client) (is_too_long message) (dismissed dialog.request not_supported)
        (concluded seen dialog.request (Replaced (will_of topic message)) now) (dismissed-fits dialog.request not_supported) (concluded-fits (Replaced (will_of topic message)))

    message_in-fits : (bound : Option (List ℕ)) (message : List ℕ) (awaited : Awaited) → ByFrame (by_message bound dialog awaited) (message_in seen a bound dialog.request message now awaited)
    message_in-fits bound message Topic = stray-fits bound
    message_in-fits bound message (Message topic) =
        heard-fits seen (IsCause seen local a frame) (Some dialog.request.client) bound now (message_row seen dialog.request topic message now) (message_row-fits topic message)

  topic_at-fits : (bound : Option (List ℕ)) (will : Option Will) (dialog : Option WillDialog) → dialog_at a local.dialogs ≡ dialog → ByFrame (gives_topic bound dialog) (will_topic_from seen a bound dialog will now)
  topic_at-fits bound will None is = stray-fits bound
  topic_at-fits bound will (Some dialog) is = topic_in-fits dialog is bound will dialog.awaited

  message_at-fits : (bound : Option (List ℕ)) (message : List ℕ) (dialog : Option WillDialog) → dialog_at a local.dialogs ≡ dialog → ByFrame (gives_message bound dialog) (will_message_from seen a bound dialog message now)
  message_at-fits bound message None is = stray-fits bound
  message_at-fits bound message (Some dialog) is = message_in-fits dialog is bound message dialog.awaited

pub will_topic-fits : (seen : Seen) (local : Local) (a : Addr) (will : Option Will) (now : ℕ)
    → FitsRow seen (IsCause seen local a (frames.WillTopic will)) (gives_topic (client_at a local.bindings) (dialog_at a local.dialogs)) (will_topic_from seen a (client_at a local.bindings) (dialog_at a local.dialogs) will now)
will_topic-fits seen local a will now =
    topic_at-fits seen local a now (frames.WillTopic will) (λ sends c put began told. (began, told)) (client_at a local.bindings) will (dialog_at a local.dialogs) refl

pub will_msg-fits : (seen : Seen) (local : Local) (a : Addr) (message : List ℕ) (now : ℕ)
    → FitsRow seen (IsCause seen local a (frames.WillMsg message)) (gives_message (client_at a local.bindings) (dialog_at a local.dialogs)) (will_message_from seen a (client_at a local.bindings) (dialog_at a local.dialogs) message now)
will_msg-fits seen local a message now =
    message_at-fits seen local a now (frames.WillMsg message) (λ sends c put began told. (began, told)) (client_at a local.bindings) message (dialog_at a local.dialogs) refl
