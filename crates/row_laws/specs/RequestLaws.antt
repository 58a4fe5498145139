-- What the rows of REGISTER, SUBSCRIBE, UNSUBSCRIBE and the updates of wills promise, and what they
-- leave alone.
use Rattle.std.specs.Prelude.{◌≡◌, ℕ, true, List, [], Some, None}
use Rattle.sn_session.specs.declared.session.Session.{Session}
use Rattle.sn_tables.specs.Topics.{topic_of}
use Rattle.sn_tables.specs.Subscriptions.{filter_qos}
use Rattle.sn_subscribe.specs.declared.registration.NamedId.{NamedId}
use Rattle.sn_plan.specs.Drafts.{Drafted, nothing, changed_if, session_after}

-- no acknowledgement, no message, nothing that is retained and no change of the local state
pub record ChangesSessionOnly (d : Drafted) : Type 0 where
  pub acks : d.acks ≡ []
  pub puts : d.puts ≡ []
  pub retain : d.retain ≡ None
  pub local : d.local ≡ []

-- nor is the client handed anything that was retained
pub record HandsNothing (d : Drafted) : Type 0 where
  pub leaves : ChangesSessionOnly d
  pub handed : d.handed ≡ []

-- the id stands for the name from then on, and the client knows it
abbrev pub IsIdOf : List ℕ → Session → NamedId → Type 0
IsIdOf name s named =
    topic_of named.id (session_after s (changed_if named.change nothing)).topics
    ≡ Some (record { id = named.id; name = name; known = true })

-- the session has the filter at that quality of service
abbrev pub IsSubscribed : List ℕ → ℕ → Session → Type 0
IsSubscribed filter qos s = filter_qos filter s.subscriptions ≡ Some qos

-- the session does not have the filter
abbrev pub IsUnsubscribed : List ℕ → Session → Type 0
IsUnsubscribed filter s = filter_qos filter s.subscriptions ≡ None
