-- Worked examples of the definitions.
use Rattle.std.proofs.Common.{◌≡◌, ℕ, List, [], ◌∷◌, Ok, Err, refl, true, false}
use Rattle.sn_session.specs.declared.presence.Presence.TheVariants.{Active}
use Rattle.sn_session.specs.declared.change.SessionOp.TheVariants.{Take}
use Rattle.sn_session.specs.Session.{empty_session}
use Rattle.rep_op.specs.declared.fault.OpsFault.TheVariants as faults
use Rattle.rep_op.specs.declared.op.Op.{Op}
use Rattle.rep_op.specs.declared.op.Op.TheVariants.{Session as OfSession, Put as OfPut, Ack, Retain as OfRetain}
use Rattle.rep_ops.specs.inner.Joining.{joined_ops}
use Rattle.rep_ops.specs.Reading.{delta_reading, reading_one, whole_at, text_at, needed_at, delta_at, listed_at}
use Rattle.rep_read.specs.Reading.{op_at, ack_at, range_at, client_id_at, retain_op_at, topic_at, qos_at, body_at}
use Rattle.rep_ops.specs.Spelling.{delta_spelling}

-- a client `s1`
abbrev s1 : List ℕ
s1 = 0x73 ∷ 0x31 ∷ []

-- it connected for 60 seconds with a clean session
abbrev connected : Op
connected = OfSession s1 (record { epoch = 1; gateway = 1 }) 0 (Take (record empty_session { clean = true; duration = 60 }))

abbrev connected_octets : List ℕ
connected_octets =
    0x01 ∷ 0x00 ∷ 0x00 ∷ 0x00 ∷ 0x01 ∷ 0x01 ∷ 0x02 ∷ 0x73 ∷ 0x31 ∷ 0x00 ∷ 0x00 ∷ 0x00 ∷ 0x00 ∷ 0x00 ∷ 0x00 ∷ 0x00 ∷ 0x01 ∷ 0x01 ∷ 0x00 ∷ 0x00
    ∷ 0x00 ∷ 0x01 ∷ 0x00 ∷ 0x3c ∷ 0x00 ∷ 0x01 ∷ 0x00 ∷ 0x00 ∷ 0x00 ∷ 0x00 ∷ 0x00 ∷ 0x00 ∷ 0x00 ∷ 0x00 ∷ []

connected_spelled : delta_spelling (connected ∷ []) ≡ connected_octets
connected_spelled = refl

-- the first message of gateway 2 is acknowledged
abbrev acknowledged_octets : List ℕ
acknowledged_octets =
    0x01 ∷ 0x00 ∷ 0x00 ∷ 0x00 ∷ 0x01 ∷ 0x03 ∷ 0x02 ∷ 0x73 ∷ 0x31 ∷ 0x02 ∷ 0x00 ∷ 0x00 ∷ 0x00 ∷ 0x00 ∷ 0x00 ∷ 0x00 ∷ 0x00 ∷ 0x01
    ∷ 0x00 ∷ 0x00 ∷ 0x00 ∷ 0x00 ∷ 0x00 ∷ 0x00 ∷ 0x00 ∷ 0x01 ∷ []

acknowledged_spelled : delta_spelling (Ack s1 2 1 1 ∷ []) ≡ acknowledged_octets
acknowledged_spelled = refl

acknowledged_read : delta_reading acknowledged_octets ≡ Ok (Ack s1 2 1 1 ∷ [])
unfolding whole_at delta_at listed_at op_at ack_at range_at client_id_at
acknowledged_read = refl

-- the first message of gateway 1 on the topic t, which was retained
abbrev retained : Op
retained = OfPut s1 (record { origin = 1; seq = 1; topic = 0x74 ∷ []; qos = 1; retain = true; expires = 0; body = 0x78 ∷ [] })

abbrev retained_octets : List ℕ
retained_octets =
    0x02 ∷ 0x00 ∷ 0x00 ∷ 0x00 ∷ 0x01 ∷ 0x02 ∷ 0x02 ∷ 0x73 ∷ 0x31 ∷ 0x01 ∷ 0x00 ∷ 0x00 ∷ 0x00 ∷ 0x00 ∷ 0x00 ∷ 0x00 ∷ 0x00 ∷ 0x01 ∷ 0x00 ∷ 0x01 ∷ 0x74
    ∷ 0x01 ∷ 0x01 ∷ 0x00 ∷ 0x00 ∷ 0x00 ∷ 0x00 ∷ 0x00 ∷ 0x00 ∷ 0x00 ∷ 0x00 ∷ 0x00 ∷ 0x01 ∷ 0x78 ∷ []

retained_spelled : delta_spelling (retained ∷ []) ≡ retained_octets
retained_spelled = refl

-- its first message on the topic `ab`, at quality of service 0, which expires at moment 33
abbrev expiring : Op
expiring = OfPut s1 (record { origin = 1; seq = 1; topic = 0x61 ∷ 0x62 ∷ []; qos = 0; retain = false; expires = 33; body = 0x78 ∷ [] })

abbrev expiring_octets : List ℕ
expiring_octets =
    0x02 ∷ 0x00 ∷ 0x00 ∷ 0x00 ∷ 0x01 ∷ 0x02 ∷ 0x02 ∷ 0x73 ∷ 0x31 ∷ 0x01 ∷ 0x00 ∷ 0x00 ∷ 0x00 ∷ 0x00 ∷ 0x00 ∷ 0x00 ∷ 0x00 ∷ 0x01 ∷ 0x00 ∷ 0x02 ∷ 0x61 ∷ 0x62
    ∷ 0x00 ∷ 0x00 ∷ 0x00 ∷ 0x00 ∷ 0x00 ∷ 0x00 ∷ 0x00 ∷ 0x00 ∷ 0x00 ∷ 0x21 ∷ 0x00 ∷ 0x01 ∷ 0x78 ∷ []

expiring_spelled : delta_spelling (expiring ∷ []) ≡ expiring_octets
expiring_spelled = refl

expiring_in_one : reading_one expiring_octets ≡ Err faults.Version
unfolding whole_at text_at
expiring_in_one = refl

-- gateway 1 retains `x` of the topic `ab`, for the first time and at quality of service 0
abbrev kept : Op
kept = OfRetain (0x61 ∷ 0x62 ∷ []) (record { clock = 1; gateway = 1; qos = 0; body = 0x78 ∷ [] })

abbrev kept_octets : List ℕ
kept_octets =
    0x02 ∷ 0x00 ∷ 0x00 ∷ 0x00 ∷ 0x01 ∷ 0x04 ∷ 0x00 ∷ 0x02 ∷ 0x61 ∷ 0x62 ∷ 0x00 ∷ 0x00 ∷ 0x00 ∷ 0x00 ∷ 0x00 ∷ 0x00 ∷ 0x00 ∷ 0x01 ∷ 0x01 ∷ 0x00
    ∷ 0x00 ∷ 0x01 ∷ 0x78 ∷ []

kept_spelled : delta_spelling (kept ∷ []) ≡ kept_octets
kept_spelled = refl

kept_read : delta_reading kept_octets ≡ Ok (kept ∷ [])
unfolding whole_at delta_at needed_at listed_at op_at retain_op_at topic_at qos_at body_at
kept_read = refl

kept_in_one : reading_one kept_octets ≡ Err faults.Version
unfolding whole_at text_at
kept_in_one = refl

-- what is retained stands after all else, by topic, then clock, then gateway
kept_last : joined_ops (Ack s1 2 1 2 ∷ kept ∷ []) ≡ Ack s1 2 1 2 ∷ kept ∷ []
kept_last = refl

-- version 2 of no operations was not needed
needless : delta_reading (0x02 ∷ 0x00 ∷ 0x00 ∷ 0x00 ∷ 0x00 ∷ []) ≡ Err faults.Version
unfolding whole_at delta_at needed_at listed_at
needless = refl

-- what reads version 1 alone does not look further than the version
other_alone : reading_one retained_octets ≡ Err faults.Version
unfolding whole_at text_at
other_alone = refl

other_version : delta_reading (0x03 ∷ []) ≡ Err faults.Version
unfolding whole_at delta_at
other_version = refl

nothing_there : delta_reading [] ≡ Err faults.Truncated
unfolding whole_at delta_at
nothing_there = refl

-- 1 to 2 and 3 to 3 are one range, and 4 is apart from 1 to 2
ranges_joined : joined_ops (Ack s1 2 1 2 ∷ Ack s1 2 3 3 ∷ []) ≡ Ack s1 2 1 3 ∷ []
ranges_joined = refl

ranges_apart : joined_ops (Ack s1 2 1 2 ∷ Ack s1 2 4 4 ∷ []) ≡ Ack s1 2 1 2 ∷ Ack s1 2 4 4 ∷ []
ranges_apart = refl
