-- Which operations a delta may hold.
use Rattle.std.specs.Prelude.{ℕ, ◌==◌, Bool, ◌&&◌, if◌then◌else◌, nat_le, nat_lt}
use Rattle.sn_session.specs.declared.change.SessionOp.{SessionOp}
use Rattle.sn_session.specs.Session.{is_take}
use Rattle.sn_tables.specs.Levels.{is_qos}
use Rattle.rep_op.specs.Ranges.{is_change, is_message}
use Rattle.rep_op.specs.declared.op.Stamp.{Stamp}
use Rattle.rep_op.specs.declared.op.Put.{Put}
use Rattle.rep_op.specs.declared.op.Retained.{Retained}
use Rattle.rep_op.specs.declared.op.Op.{Op}
use Rattle.rep_op.specs.declared.op.Op.TheVariants.{Session as OfSession, Put as OfPut, Ack, Retain as OfRetain}

-- epochs, gateways and sequence numbers begin at 1
abbrev pub is_stamp : Stamp → Bool
is_stamp stamp = nat_le 1 stamp.epoch && nat_le 1 stamp.gateway

-- a Take has counter 0, and no other change has
abbrev pub is_counted : ℕ → SessionOp → Bool
is_counted counter change = if is_take change then counter == 0 else nat_lt 0 counter

-- a message has an origin, a sequence number, a quality of service of 0 to 2 and at most 4,096
-- octets
abbrev pub is_put : Put → Bool
is_put put = nat_le 1 put.origin && nat_le 1 put.seq && is_qos put.qos && is_message put.body

-- what is retained has a clock, a gateway, a quality of service of 0 to 2 and at most 4,096 octets
abbrev pub is_retained : Retained → Bool
is_retained kept =
    nat_le 1 kept.clock && nat_le 1 kept.gateway && is_qos kept.qos && is_message kept.body

-- A delta may hold the operation: its values are in range. Numbers begin at 1, a Take and no other
-- change has counter 0, and a range is not empty.
abbrev pub is_well_made : Op → Bool
is_well_made (OfSession client stamp counter change) =
    is_stamp stamp && is_counted counter change && is_change change
is_well_made (OfPut client put) = is_put put
is_well_made (Ack client origin first last) = nat_le 1 origin && nat_le 1 first && nat_le first last
is_well_made (OfRetain topic kept) = is_retained kept
