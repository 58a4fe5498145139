-- The two fields of two bits in a flags octet, MQTT-SN 1.2 section 5.3.4.
use Rattle.std.specs.Prelude.{ℕ, ◌/◌, ◌%◌, ◌==◌, if◌then◌else◌}
use Rattle.sn_frame.specs.declared.flags.Qos.{Qos}
use Rattle.sn_frame.specs.declared.flags.Qos.TheVariants as levels
use Rattle.sn_frame.specs.declared.flags.TopicIdType.{TopicIdType}
use Rattle.sn_frame.specs.declared.flags.TopicIdType.TheVariants as kinds

-- the quality of service in the flags: bits 6 and 5 (5.3.4)
abbrev pub qos_of : ℕ → Qos
qos_of bits =
    if bits / 32 % 4 == 0 then levels.Zero
    else (if bits / 32 % 4 == 1 then levels.One
    else (if bits / 32 % 4 == 2 then levels.Two else levels.MinusOne))

-- the type of a topic in the flags: bits 1 and 0 (5.3.4)
abbrev pub kind_of : ℕ → TopicIdType
kind_of bits =
    if bits % 4 == 0 then kinds.Normal
    else (if bits % 4 == 1 then kinds.Predefined
    else (if bits % 4 == 2 then kinds.Short else kinds.Reserved))

-- the bits of a topic's type
abbrev pub kind_bits : TopicIdType → ℕ
kind_bits kinds.Normal = 0
kind_bits kinds.Predefined = 1
kind_bits kinds.Short = 2
kind_bits kinds.Reserved = 3
