-- Who gets a publication, and what it is about, in words that the step table does not use.
use Rattle.std.specs.Prelude.{◌≡◌, ◌⊎◌, ◌<◌, ◌≤◌, ℕ, ◌/◌, ◌%◌, min, List, [], ◌∷◌, length, Some, Contains}
use Rattle.sn_topic.specs.Matching.{Matches}
use Rattle.sn_topic.specs.Table.{Entries, name_of_id}
use Rattle.sn_tables.specs.declared.subscriptions.Subscription.{Subscription}
use Rattle.sn_tables.specs.declared.topics.TopicEntry.{TopicEntry}
use Rattle.sn_session.specs.declared.presence.Presence.{Presence}
use Rattle.sn_session.specs.declared.presence.Presence.TheVariants.{Active, Asleep, Awake}
use Rattle.sn_session.specs.declared.session.Session.{Session}
use Rattle.sn_frame.specs.declared.flags.TopicIdType.{TopicIdType}
use Rattle.sn_frame.specs.declared.flags.TopicIdType.TheVariants as kinds
use Rattle.sn_frame.specs.FlagBits.{kind_of}
use Rattle.rep_model.specs.declared.view.ClientView.{ClientView}

-- the client is there, awake or asleep
abbrev pub IsThere : Presence → Type 0
IsThere presence = (presence ≡ Active) ⊎ ((presence ≡ Asleep) ⊎ (presence ≡ Awake))

-- The client asks for a publication to this topic that comes at this quality of service: a filter
-- of its session matches the topic. It can get it: fewer than 1,024 messages wait for it. And it
-- is there, or gets the message at least once.
pub record AsksFor (name : List ℕ) (qos : ℕ) (v : ClientView) : Type 0 where
  pub session : Session
  pub has_session : v.session ≡ Some session
  pub subscription : Subscription
  pub among : Contains session.subscriptions subscription
  pub matches : Matches subscription.filter name
  pub room : length v.pending < 1024
  pub there : IsThere session.presence ⊎ (0 < min qos subscription.qos)

-- The topic field means this name: that of an entry of the session with this id, that of a
-- predefined id, or the two octets themselves.
abbrev pub IsNameFor : Entries → Session → TopicIdType → ℕ → List ℕ → Type 0
IsNameFor predefined s kinds.Normal topic name =
    (entry : TopicEntry) × Contains s.topics entry × (entry.id ≡ topic) × (entry.name ≡ name)
IsNameFor predefined s kinds.Predefined topic name = name_of_id topic predefined ≡ Some name
IsNameFor predefined s kinds.Short topic name = name ≡ topic / 256 ∷ topic % 256 ∷ []
IsNameFor predefined s kinds.Reserved topic name = ⊥

-- A PUBLISH with these flags, topic field and body is about this topic: the field means it, and
-- the body has at most 4,096 octets.
abbrev pub IsAbout : Entries → Session → ℕ → ℕ → List ℕ → List ℕ → Type 0
IsAbout predefined s bits topic body name =
    IsNameFor predefined s (kind_of bits) topic name × (length body ≤ 4096)
