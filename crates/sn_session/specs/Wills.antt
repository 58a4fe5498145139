-- What becomes of a will.
use Rattle.std.specs.Prelude.{ℕ, List, [], Option, Some, None}
use Rattle.sn_session.specs.declared.will.Will.{Will}
use Rattle.sn_session.specs.declared.will.WillTopic.{WillTopic}

-- The will for this topic. A new one has an empty message, one that is there keeps its message; no
-- topic deletes it (6.4).
abbrev pub with_will_topic : Option WillTopic → Option Will → Option Will
with_will_topic None will = None
with_will_topic (Some asked) None =
    Some (record { topic = asked.topic; qos = asked.qos; retain = asked.retain; message = [] })
with_will_topic (Some asked) (Some will) =
    Some (record will { topic = asked.topic; qos = asked.qos; retain = asked.retain })

-- the will with this message; without a will the message has no effect (6.4)
abbrev pub with_will_message : List ℕ → Option Will → Option Will
with_will_message message None = None
with_will_message message (Some will) = Some (record will { message = message })
