-- What a row of the step table says, in a few words.
use Rattle.std.specs.Prelude.{ℕ, List, [], ◌∷◌, ◌++◌, fold, Option, Some, None}
use Rattle.sn_session.specs.declared.change.SessionOp.{SessionOp}
use Rattle.sn_session.specs.declared.session.Session.{Session}
use Rattle.sn_session.specs.Session.{applied}
use Rattle.sn_frame.specs.declared.frame.Frame.{Frame}
use Rattle.sn_frame.specs.Grammar.{spelling}
use Rattle.sn_local.specs.declared.config.Addr.{Addr}
use Rattle.sn_local.specs.declared.config.Send.{Send}
use Rattle.sn_plan.specs.declared.draft.NewPut.{NewPut}
use Rattle.sn_plan.specs.declared.draft.Posted.{Posted}
use Rattle.sn_local.specs.declared.local.LocalChange.{LocalChange}

-- changes of one client's session, acknowledgements of its puts (sequence number and origin), what
-- was retained and it is handed now, what is retained from now on, messages for any client, the
-- moment from which on these and what is handed need not wait (0 for none), frames, changes of the
-- local state
pub record Drafted : Type 0 where
  pub changes : List SessionOp
  pub acks : List (ℕ × ℕ)
  pub handed : List Posted
  pub retain : Option Posted
  pub puts : List NewPut
  pub expires : ℕ
  pub sends : List Send
  pub local : List LocalChange

-- nothing changes and nothing is sent
abbrev pub nothing : Drafted
nothing =
    record {
      changes = [];
      acks = [];
      handed = [];
      retain = None;
      puts = [];
      expires = 0;
      sends = [];
      local = [];
    }

-- and then this session operation
abbrev pub changed : SessionOp → Drafted → Drafted
changed change d = record d { changes = d.changes ++ change ∷ [] }

-- and then this one, if there is one
abbrev pub changed_if : Option SessionOp → Drafted → Drafted
changed_if None d = d
changed_if (Some change) d = changed change d

-- and then the acknowledgement of this put
abbrev pub acked : ℕ × ℕ → Drafted → Drafted
acked name d = record d { acks = d.acks ++ name ∷ [] }

-- and then the acknowledgements of these puts
abbrev pub acked_all : List (ℕ × ℕ) → Drafted → Drafted
acked_all names d = record d { acks = d.acks ++ names }

-- and then the client is handed this, which was retained
abbrev pub hand_all : List Posted → Drafted → Drafted
hand_all posted d = record d { handed = d.handed ++ posted }

-- and then this is retained, or nothing
abbrev pub retain_if : Option Posted → Drafted → Drafted
retain_if posted d = record d { retain = posted }

-- and then these messages
abbrev pub put_all : List NewPut → Drafted → Drafted
put_all puts d = record d { puts = d.puts ++ puts }

-- and each message that it makes need not wait from this moment on; 0 for none
abbrev pub lasting : ℕ → Drafted → Drafted
lasting moment d = record d { expires = moment }

-- and then this frame
abbrev pub sent : Addr → Frame → Drafted → Drafted
sent to frame d = record d { sends = d.sends ++ record { to = to; bytes = spelling frame } ∷ [] }

-- and then this change of the local state
abbrev pub moved : LocalChange → Drafted → Drafted
moved change d = record d { local = d.local ++ change ∷ [] }

-- a session after the changes of a draft
abbrev pub session_after : Session → Drafted → Session
session_after s d = fold applied s d.changes
