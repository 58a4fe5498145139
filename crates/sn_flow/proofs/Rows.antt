-- Worked steps: what the step table says of single frames, computed from sets of operations.
use Rattle.std.proofs.Common.{◌≡◌, ℕ, List, [], ◌∷◌, Some, None, refl, true}
use Rattle.sn_session.specs.declared.presence.Presence.TheVariants.{Asleep}
use Rattle.sn_session.specs.declared.session.Session.{Session}
use Rattle.sn_session.specs.declared.change.SessionOp.TheVariants.{Take, Presence}
use Rattle.sn_session.specs.Session.{empty_session}
use Rattle.rep_op.specs.declared.op.Op.{Op}
use Rattle.rep_op.specs.declared.op.Op.TheVariants.{Session as OfSession}
use Rattle.rep_model.specs.Views.{gapless}
use Rattle.sn_frame.specs.declared.frame.Frame.TheVariants as frames
use Rattle.sn_local.specs.declared.config.Addr.{Addr}
use Rattle.sn_local.specs.declared.local.LocalChange.TheVariants.{Bind, Time, Heard, EndDialog}
use Rattle.sn_plan.specs.Numbering.{write, planned}
use Rattle.sn_local.specs.Seen.{Seen, seen_of}
use Rattle.sn_local.specs.Locals.{Local, no_local}
use Rattle.sn_local.specs.Timers.{started}
use Rattle.sn_plan.specs.Rows.{plan_of_row}
use Rattle.sn_flow.specs.Connection.{connect, disconnect}
use Rattle.sn_plan.specs.Others.{other}

-- the client `s1`
abbrev pub s1 : List ℕ
s1 = 0x73 ∷ 0x31 ∷ []

abbrev pub seven : Addr
seven = record { host = 0; port = 7 }

abbrev pub session_of_s1 : Session
session_of_s1 = record empty_session { clean = true; duration = 60 }

-- the client is bound to that address
abbrev pub bound_seven : Local
bound_seven = record no_local { bindings = record { address = seven; client = s1 } ∷ [] }

-- the Take that the first CONNECT makes
abbrev pub first_take : Op
first_take = OfSession s1 (record { epoch = 1; gateway = 1 }) 0 (Take session_of_s1)

-- CONNECT of a new client with a clean session: one Take under stamp 1.1, CONNACK 0, and the binding
connects : plan_of_row 1 (seen_of []) (connect (seen_of []) no_local seven 4 1 60 s1 0)
    ≡ Some (record {
      ops = first_take ∷ [];
      sends = record { to = seven; bytes = 3 ∷ 5 ∷ 0 ∷ [] } ∷ [];
      local = Bind seven s1 ∷ Time (started s1 0) ∷ EndDialog seven ∷ [];
    })
unfolding gapless write planned
connects = refl

-- DISCONNECT with 300 s: the second operation under that stamp, and DISCONNECT
falls_asleep : plan_of_row 1 (seen_of (first_take ∷ [])) (disconnect (seen_of (first_take ∷ [])) bound_seven seven (Some 300) 1)
    ≡ Some (record {
      ops = OfSession s1 (record { epoch = 1; gateway = 1 }) 1 (Presence Asleep 300) ∷ [];
      sends = record { to = seven; bytes = 2 ∷ 0x18 ∷ [] } ∷ [];
      local = Heard s1 1 ∷ [];
    })
unfolding gapless write planned
falls_asleep = refl

-- a client of which 256 operations stand under stamp 1.1
abbrev pub full : Seen
full =
    record {
      all = s1 ∷ [];
      is_there = λ c. true;
      of = λ c. record { stamp = Some (record { epoch = 1; gateway = 1 }); prefix = 256; session = Some session_of_s1; pending = [] };
      epoch = λ c. Some 2;
      seq = λ c g. Some 1;
      topics = [];
      retained = λ t. None;
      clock = λ t. Some 1;
    }

-- the next operation goes under a new stamp, after a Take of the session so far, in the same delta
rolls_over : plan_of_row 1 full (disconnect full bound_seven seven (Some 300) 1)
    ≡ Some (record {
      ops = OfSession s1 (record { epoch = 2; gateway = 1 }) 0 (Take session_of_s1) ∷ OfSession s1 (record { epoch = 2; gateway = 1 }) 1 (Presence Asleep 300) ∷ [];
      sends = record { to = seven; bytes = 2 ∷ 0x18 ∷ [] } ∷ [];
      local = Heard s1 1 ∷ [];
    })
unfolding write planned
rolls_over = refl

-- at the last epoch a CONNECT has no plan
exhausted : plan_of_row 1 (record full { epoch = λ c. None }) (connect (record full { epoch = λ c. None }) no_local seven 4 1 60 s1 0) ≡ None
unfolding write planned
exhausted = refl

-- another protocol, a frame from nowhere, a gateway that is looked for
another_protocol : plan_of_row 1 (seen_of []) (connect (seen_of []) no_local seven 4 2 60 s1 0)
    ≡ Some (record { ops = []; sends = record { to = seven; bytes = 3 ∷ 5 ∷ 3 ∷ [] } ∷ []; local = [] })
unfolding gapless write planned
another_protocol = refl

from_nowhere : plan_of_row 1 (seen_of []) (other 1 no_local seven (frames.PingReq []) 0)
    ≡ Some (record { ops = []; sends = record { to = seven; bytes = 2 ∷ 0x18 ∷ [] } ∷ []; local = [] })
from_nowhere = refl

looked_for : plan_of_row 1 (seen_of []) (other 1 no_local seven (frames.SearchGw 0) 0)
    ≡ Some (record { ops = []; sends = record { to = seven; bytes = 3 ∷ 2 ∷ 1 ∷ [] } ∷ []; local = [] })
looked_for = refl
