-- Frames that no other row is for.
use Rattle.std.specs.Prelude.{ℕ, Bool, true, false, [], Option, Some, None}
use Rattle.sn_frame.specs.declared.frame.Frame.{Frame}
use Rattle.sn_frame.specs.declared.frame.Frame.TheVariants as frames
use Rattle.sn_session.specs.declared.presence.Presence.{Presence}
use Rattle.sn_session.specs.declared.presence.Presence.TheVariants.{Active, Asleep, Awake}
use Rattle.sn_session.specs.declared.session.Session.{Session}
use Rattle.sn_local.specs.declared.config.Addr.{Addr}
use Rattle.sn_plan.specs.declared.row.Row.{Row}
use Rattle.sn_plan.specs.Drafts.{nothing, sent}
use Rattle.sn_local.specs.Bindings.{client_at}
use Rattle.sn_local.specs.Locals.{Local}
use Rattle.sn_plan.specs.Rows.{row_of_none, empty_row, unexpected_row}

-- SEARCHGW: the gateway says its number (6.1)
abbrev pub searched : ℕ → Addr → Row
searched g a = row_of_none (sent a (frames.GwInfo g []) nothing)

-- SEARCHGW, the frames that only go from a gateway to a client or between others, and every frame
-- without a row of its own
abbrev pub other : ℕ → Local → Addr → Frame → ℕ → Row
other g local a (frames.SearchGw radius) now = searched g a
other g local a (frames.Advertise gateway duration) now = empty_row
other g local a (frames.GwInfo gateway address) now = empty_row
other g local a (frames.ConnAck code) now = empty_row
other g local a frames.WillTopicReq now = empty_row
other g local a frames.WillMsgReq now = empty_row
other g local a (frames.SubAck flags topic_id msg_id code) now = empty_row
other g local a (frames.UnsubAck msg_id) now = empty_row
other g local a (frames.WillTopicResp code) now = empty_row
other g local a (frames.WillMsgResp code) now = empty_row
other g local a frame now = unexpected_row a (client_at a local.bindings) now

-- a client that is there: Active, Asleep or Awake
abbrev pub is_up : Presence → Bool
is_up Active = true
is_up Asleep = true
is_up Awake = true
is_up presence = false

-- whether there is a session, and its client is Active, Asleep or Awake
abbrev pub can_wake : Option Session → Bool
can_wake None = false
can_wake (Some s) = is_up s.presence
