-- How a client is accepted (MQTT-SN 1.2 sections 6.2 and 6.3).
use Rattle.std.specs.Prelude.{ℕ, Bool, true, false, ◌&&◌, not, if◌then◌else◌, nat_le, List, [], map, length, Option, Some, None}
use Rattle.sn_session.specs.declared.presence.Presence.TheVariants.{Active}
use Rattle.sn_session.specs.declared.session.Session.{Session}
use Rattle.sn_session.specs.declared.will.Will.{Will}
use Rattle.sn_session.specs.declared.change.SessionOp.TheVariants.{Take}
use Rattle.sn_session.specs.Session.{empty_session}
use Rattle.sn_tables.specs.Topics.{unknown}
use Rattle.rep_op.specs.declared.op.Put.{Put}
use Rattle.rep_op.specs.Orders.{name_of}
use Rattle.rep_model.specs.declared.view.ClientView.{ClientView}
use Rattle.sn_frame.specs.declared.frame.Frame.TheVariants as frames
use Rattle.sn_flow.specs.declared.accept.TheConstants.{MAX_CLIENTS}
use Rattle.sn_flow.specs.declared.accept.GivenWill.{GivenWill}
use Rattle.sn_flow.specs.declared.accept.GivenWill.TheVariants.{AsItIs, Deleted, Replaced}
use Rattle.sn_local.specs.declared.local.Request.{Request}
use Rattle.sn_local.specs.declared.local.LocalChange.TheVariants.{EndDialog}
use Rattle.sn_plan.specs.Drafts.{Drafted, nothing, changed, acked_all, sent, moved}
use Rattle.sn_local.specs.Seen.{Seen}
use Rattle.sn_plan.specs.Bound.{bound_to}

-- the will of a session, once the client has said what becomes of it
abbrev pub will_after : GivenWill → Option Will → Option Will
will_after AsItIs will = will
will_after Deleted will = None
will_after (Replaced given) will = Some given

-- the session as seen, but that the client no longer knows any of the topic ids
abbrev pub with_ids_unknown : Session → Session
with_ids_unknown s = record s { topics = map unknown s.topics }

-- the session that goes on; a clean one begins as an empty one
abbrev pub going_on : Bool → Option Session → Session
going_on clean None = empty_session
going_on true (Some s) = empty_session
going_on false (Some s) = with_ids_unknown s

-- an accepted client is Active; the rest is as it asked
abbrev pub as_asked : Request → GivenWill → Session → Session
as_asked request given s =
    record s {
      presence = Active;
      clean = request.clean;
      duration = request.duration;
      will = will_after given s.will;
    }

-- the session that an accepted client has
abbrev pub accepted : Request → GivenWill → Option Session → Session
accepted request given session = as_asked request given (going_on request.clean session)

-- a clean session acknowledges all that waits
abbrev pub cleared : Bool → List Put → List (ℕ × ℕ)
cleared clean waiting = if clean then map name_of waiting else []

-- the client is taken over with that session and bound to the address, whose dialog ends
abbrev pub accept : Request → GivenWill → ClientView → ℕ → Drafted
accept request given v now =
    sent request.address (frames.ConnAck 0)
    (moved (EndDialog request.address)
    (bound_to request.address request.client now
    (acked_all (cleared request.clean v.pending)
    (changed (Take (accepted request given v.session)) nothing))))

-- whether there is no room for the client: it is new, and 1,024 are there
abbrev pub has_no_room : Seen → List ℕ → Bool
has_no_room seen c = not (seen.is_there c) && nat_le MAX_CLIENTS (length seen.all)
