-- From a draft to operations under names of the gateway's own.
use Rattle.std.specs.Prelude.{ℕ, Bool, ◌+◌, ◌==◌, if◌then◌else◌, nat_lt, List, [], ◌∷◌, ◌++◌, map, Option, Some, None, option_and_then, unwrap_or, true, false}
use Rattle.std.specs.Option.{option_map}
use Rattle.sn_session.specs.declared.session.Session.{Session}
use Rattle.sn_session.specs.declared.change.SessionOp.{SessionOp}
use Rattle.sn_session.specs.declared.change.SessionOp.TheVariants.{Take}
use Rattle.sn_session.specs.Session.{applied, empty_session}
use Rattle.rep_op.specs.declared.op.Stamp.{Stamp}
use Rattle.rep_op.specs.declared.op.Retained.{Retained}
use Rattle.rep_op.specs.declared.op.Op.{Op}
use Rattle.rep_op.specs.declared.op.Op.TheVariants.{Session as OfSession, Put as OfPut, Ack, Retain as OfRetain}
use Rattle.rep_model.specs.declared.view.ClientView.{ClientView}
use Rattle.rep_model.specs.Fresh.{one_more}
use Rattle.sn_plan.specs.declared.draft.NewPut.{NewPut}
use Rattle.sn_plan.specs.declared.draft.Posted.{Posted}
use Rattle.sn_plan.specs.declared.plan.Plan.{Plan}
use Rattle.rep_op.specs.declared.op.TheConstants.{MAX_OPERATIONS}
use Rattle.sn_plan.specs.Drafts.{Drafted}

-- the place of the client's next session operation (epoch and counter), the epoch of its next Take,
-- the session so far, and what is written
pub record Written : Type 0 where
  pub epoch : ℕ
  pub counter : ℕ
  pub next : Option ℕ
  pub session : Session
  pub ops : List Op

-- a change under the next counter
abbrev pub another : List ℕ → ℕ → SessionOp → Written → Written
another c g change w =
    record {
      epoch = w.epoch;
      counter = w.counter + 1;
      next = w.next;
      session = applied w.session change;
      ops = w.ops ++ OfSession c (record { epoch = w.epoch; gateway = g }) w.counter change ∷ [];
    }

-- a Take of this session, under the epoch e
abbrev pub taken_at : List ℕ → ℕ → Session → Written → ℕ → Written
taken_at c g session w e =
    record {
      epoch = e;
      counter = 1;
      next = one_more e;
      session = session;
      ops = w.ops ++ OfSession c (record { epoch = e; gateway = g }) 0 (Take session) ∷ [];
    }

-- a Take, under the next epoch
abbrev pub taken : List ℕ → ℕ → Session → Written → Option Written
taken c g session w = option_map (taken_at c g session w) w.next

-- a change that is no Take; if no more operations fit under the stamp, a Take of the session so far
-- goes first
abbrev pub counted : List ℕ → ℕ → SessionOp → Written → Option Written
counted c g change w =
    if nat_lt w.counter MAX_OPERATIONS then Some (another c g change w)
    else option_map (another c g change) (taken c g w.session w)

-- one session operation more
unfoldable pub write : List ℕ → ℕ → SessionOp → Written → Option Written
write c g (Take session) w = taken c g session w
write c g change w = counted c g change w

-- these session operations, one after the other; none if an epoch is needed and the last is taken
abbrev pub changes_written : List ℕ → ℕ → List SessionOp → Written → Option Written
changes_written c g [] w = Some w
changes_written c g (change ∷ rest) w =
    option_and_then (changes_written c g rest) (write c g change w)

-- the next counter of the visible stamp, if that is the gateway's own; else 256, so that a Take has
-- to go first
abbrev pub own_counter : ℕ → ℕ → Option Stamp → ℕ
own_counter g prefix None = MAX_OPERATIONS
own_counter g prefix (Some stamp) = if stamp.gateway == g then prefix else MAX_OPERATIONS

-- the epoch of the visible stamp; 0 if there is none
abbrev pub epoch_of : Option Stamp → ℕ
epoch_of None = 0
epoch_of (Some stamp) = stamp.epoch

-- where the numbering of a step starts, by the client's view and the epoch of its next Take
abbrev pub start_of : ℕ → ClientView → Option ℕ → Written
start_of g v next =
    record {
      epoch = epoch_of v.stamp;
      counter = own_counter g v.prefix v.stamp;
      next = next;
      session = unwrap_or v.session empty_session;
      ops = [];
    }

-- a message under a sequence number of the gateway's, with the moment from which on it need not
-- wait: since it is published, or since it was retained
abbrev pub put_under : ℕ → ℕ → Bool → NewPut → ℕ → Op
put_under g moment retain p n =
    OfPut p.client (record {
      origin = g;
      seq = n;
      topic = p.topic;
      qos = p.qos;
      retain = retain;
      expires = moment;
      body = p.body;
    })

-- a message under a sequence number of the gateway's, as it is published: not since it was
-- retained
abbrev pub put_at_seq : ℕ → ℕ → NewPut → ℕ → Op
put_at_seq g moment p n = put_under g moment false p n

-- the messages, each under the next sequence number of its client; one message a client
abbrev pub with_puts : ℕ → ℕ → (List ℕ → Option ℕ) → List NewPut → List Op → Option (List Op)
with_puts g moment seq [] ops = Some ops
with_puts g moment seq (p ∷ rest) ops =
    option_and_then (λ n. with_puts g moment seq rest (ops ++ put_at_seq g moment p n ∷ []))
    (seq p.client)

-- the message by which a client is handed what was retained
abbrev pub handed_to : List ℕ → Posted → NewPut
handed_to c m = record { client = c; topic = m.topic; qos = m.qos; body = m.body }

-- a message that a client is handed, under a sequence number of the gateway's: since it was
-- retained
abbrev pub handed_at_seq : ℕ → ℕ → List ℕ → Posted → ℕ → Op
handed_at_seq g moment c m n = put_under g moment true (handed_to c m) n

-- what a client is handed: the first under its next sequence number, each under the number after
-- the one before
abbrev pub with_handed : ℕ → ℕ → List ℕ → Option ℕ → List Posted → List Op → Option (List Op)
with_handed g moment c next [] ops = Some ops
with_handed g moment c next (m ∷ rest) ops =
    option_and_then
    (λ n. with_handed g moment c (one_more n) rest (ops ++ handed_at_seq g moment c m n ∷ [])) next

-- what is posted, as the gateway retains it under a clock
abbrev pub kept_as : ℕ → Posted → ℕ → Retained
kept_as g m n = record { clock = n; gateway = g; qos = m.qos; body = m.body }

-- what the gateway retains under a clock of its topic
abbrev pub retain_at_clock : ℕ → Posted → ℕ → Op
retain_at_clock g m n = OfRetain m.topic (kept_as g m n)

-- what is retained, if there is anything, under the next clock of its topic
abbrev pub with_retain : ℕ → (List ℕ → Option ℕ) → Option Posted → List Op → Option (List Op)
with_retain g clock None ops = Some ops
with_retain g clock (Some m) ops =
    option_map (λ n. ops ++ retain_at_clock g m n ∷ []) (clock m.topic)

-- and then what a draft needs new numbers for: what the client is handed, what is retained, the
-- messages; none if a number is needed and the last is taken
abbrev pub numbered : ℕ → List ℕ → (List ℕ → Option ℕ) → (List ℕ → Option ℕ) → Drafted → List Op
    → Option (List Op)
numbered g c seq clock d ops =
    option_and_then (with_puts g d.expires seq d.puts)
    (option_and_then (with_retain g clock d.retain)
    (with_handed g d.expires c (seq c) d.handed ops))

-- the acknowledgement of one put: of sequence number and origin
abbrev pub ack_of : List ℕ → ℕ × ℕ → Op
ack_of c name = Ack c name.1 name.0 name.0

-- the plan of a draft, with these operations
abbrev pub plan_with : Drafted → List Op → Plan
plan_with d ops = record { ops = ops; sends = d.sends; local = d.local }

-- the plan of a draft after its session operations: acknowledgements follow, then what needs new
-- numbers; none if one is needed and the last is taken
abbrev pub rest_of : ℕ → List ℕ → (List ℕ → Option ℕ) → (List ℕ → Option ℕ) → Drafted → Written
    → Option Plan
rest_of g c seq clock d w =
    option_map (plan_with d) (numbered g c seq clock d (w.ops ++ map (ack_of c) d.acks))

-- The plan of a draft for a client, by its view, its next epoch, the next sequence numbers of
-- clients and the next clocks of topics. There is none if it needs a number after the last.
unfoldable pub planned : ℕ → List ℕ → ClientView → Option ℕ → (List ℕ → Option ℕ)
    → (List ℕ → Option ℕ) → Drafted → Option Plan
planned g c v epoch seq clock d =
    option_and_then (rest_of g c seq clock d) (changes_written c g d.changes (start_of g v epoch))
