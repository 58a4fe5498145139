-- What a frame asks for by its flags and its topic field (MQTT-SN 1.2 sections 5.3.4, 5.3.11 and
-- 5.3.12).
use Rattle.std.specs.Prelude.{ℕ, ◌+◌, ◌*◌, ◌^◌, ◌==◌, Bool, not, bit_and, if◌then◌else◌, List, ◌∷◌, Option, Some, None}
use Rattle.sn_topic.specs.Table.{Entries, name_of_id}
use Rattle.sn_topic.specs.Topics.{is_name, is_filter}
use Rattle.sn_frame.specs.declared.flags.Qos.{Qos}
use Rattle.sn_frame.specs.declared.flags.Qos.TheVariants as levels
use Rattle.sn_frame.specs.declared.flags.TopicIdType.{TopicIdType}
use Rattle.sn_frame.specs.declared.flags.TopicIdType.TheVariants as kinds
use Rattle.sn_plan.specs.declared.asking.Asked.{Asked}
use Rattle.sn_plan.specs.declared.asking.Asked.TheVariants.{Topics, Refused}

-- the quality of service that is asked for, if it is 0, 1 or 2
abbrev pub qos_asked : Qos → Option ℕ
qos_asked levels.Zero = Some 0
qos_asked levels.One = Some 1
qos_asked levels.Two = Some 2
qos_asked levels.MinusOne = None

-- whether what is published is to be retained: bit 4 of the flags (5.3.4)
abbrev pub retain_asked : ℕ → Bool
retain_asked bits = not (bit_and bits (2 ^ 4) == 0)

-- these octets, if they are a filter; else code 3, not supported
abbrev pub in_full : List ℕ → Asked
in_full octets = if is_filter octets then Topics octets else Refused 3

-- a name of two octets; it has no wildcard
abbrev pub in_short : List ℕ → Asked
in_short octets = if is_name octets then in_full octets else Refused 3

-- the name of a predefined id; code 2, invalid topic id, if it has none
abbrev pub by_id : Option (List ℕ) → Asked
by_id None = Refused 2
by_id (Some name) = in_full name

-- the topic id in two octets
abbrev pub id_in : List ℕ → ℕ
id_in (high ∷ low ∷ rest) = high * 256 + low
id_in octets = 0

-- the topics that a SUBSCRIBE or UNSUBSCRIBE asks for by a topic field of this type, or the code by
-- which it is refused
abbrev pub topics_asked : Entries → TopicIdType → List ℕ → Asked
topics_asked predefined kinds.Normal field = in_full field
topics_asked predefined kinds.Predefined field = by_id (name_of_id (id_in field) predefined)
topics_asked predefined kinds.Short field = in_short field
topics_asked predefined kinds.Reserved field = Refused 3
