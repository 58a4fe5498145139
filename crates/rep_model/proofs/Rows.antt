-- Small sets, and what they say.
use Rattle.std.proofs.Common.{◌≡◌, ℕ, ◌-◌, ◌^◌, List, [], ◌∷◌, Some, None, refl, false}
use Rattle.sn_session.specs.declared.presence.Presence.TheVariants.{Asleep, Lost}
use Rattle.sn_session.specs.declared.session.Session.{Session}
use Rattle.sn_session.specs.Session.{empty_session}
use Rattle.sn_session.specs.declared.change.SessionOp.TheVariants.{Take, Presence as SetPresence}
use Rattle.rep_op.specs.declared.op.Stamp.{Stamp}
use Rattle.rep_op.specs.declared.op.Put.{Put}
use Rattle.rep_op.specs.declared.op.Op.{Op}
use Rattle.rep_op.specs.declared.op.Retained.{Retained}
use Rattle.rep_op.specs.declared.op.Op.TheVariants.{Session as OfSession, Put as OfPut, Ack, Retain as OfRetain}
use Rattle.rep_model.specs.declared.fault.Limit.TheVariants.{Exceptions}
use Rattle.rep_model.specs.Views.{gapless, view, clients, pending}
use Rattle.rep_model.specs.Topics.{latest, retained, topics, has_topic, all_retained, retained_matching}
use Rattle.rep_model.specs.Fresh.{next_epoch, next_seq, next_clock}
use Rattle.rep_model.specs.Keep.{keep}
use Rattle.rep_model.specs.Limits.{parked, acknowledged, exceptions, first_passed}

-- the client 'h1', and two others
abbrev client : List ℕ
client = 104 ∷ 49 ∷ []

abbrev longer : List ℕ
longer = 104 ∷ 49 ∷ 48 ∷ []

abbrev earlier : List ℕ
earlier = 97 ∷ []

abbrev stamp : ℕ → ℕ → Stamp
stamp epoch gateway = record { epoch = epoch; gateway = gateway }

-- a session with this next message id
abbrev active : ℕ → Session
active next = record empty_session { duration = 60; next_id = next }

abbrev taken : ℕ → ℕ → Op
taken epoch gateway = OfSession client (stamp epoch gateway) 0 (Take (active gateway))

abbrev asleep : ℕ → ℕ → ℕ → Op
asleep epoch gateway counter = OfSession client (stamp epoch gateway) counter (SetPresence Asleep 600)

abbrev lost : ℕ → ℕ → ℕ → Op
lost epoch gateway counter = OfSession client (stamp epoch gateway) counter (SetPresence Lost 0)

abbrev message : ℕ → ℕ → Put
message origin seq = record { origin = origin; seq = seq; topic = 116 ∷ []; qos = 1; retain = false; expires = 0; body = 55 ∷ [] }

abbrev sent : ℕ → ℕ → Op
sent origin seq = OfPut client (message origin seq)

-- a Take alone is a session
take_alone : view client (taken 1 1 ∷ []) ≡ record { stamp = Some (stamp 1 1); prefix = 1; session = Some (active 1); pending = [] }
unfolding gapless
take_alone = refl

-- what comes after a gap waits
gap : view client (lost 1 1 2 ∷ taken 1 1 ∷ []) ≡ record { stamp = Some (stamp 1 1); prefix = 1; session = Some (active 1); pending = [] }
unfolding gapless
gap = refl

-- and counts once the gap is filled
gap_filled : view client (lost 1 1 2 ∷ taken 1 1 ∷ asleep 1 1 1 ∷ []) ≡ record { stamp = Some (stamp 1 1); prefix = 3; session = Some (record empty_session { presence = Lost; duration = 0; next_id = 1 }); pending = [] }
unfolding gapless
gap_filled = refl

gap_parks : parked client (lost 1 1 2 ∷ taken 1 1 ∷ []) ≡ ((stamp 1 1, 2), SetPresence Lost 0) ∷ []
unfolding gapless
gap_parks = refl

-- without its Take a stamp is not visible
no_take : view client (asleep 2 1 1 ∷ taken 1 1 ∷ []) ≡ record { stamp = Some (stamp 1 1); prefix = 1; session = Some (active 1); pending = [] }
unfolding gapless
no_take = refl

-- of two Takes of one epoch the greater gateway's counts, whichever came first
two_takes : view client (taken 1 1 ∷ taken 1 2 ∷ []) ≡ record { stamp = Some (stamp 1 2); prefix = 1; session = Some (active 2); pending = [] }
unfolding gapless
two_takes = refl

two_takes_turned : view client (taken 1 2 ∷ taken 1 1 ∷ []) ≡ view client (taken 1 1 ∷ taken 1 2 ∷ [])
unfolding gapless
two_takes_turned = refl

-- messages stand by sequence number, then origin
messages : pending client (sent 1 2 ∷ sent 2 1 ∷ sent 1 1 ∷ sent 1 2 ∷ []) ≡ message 1 1 ∷ message 2 1 ∷ message 1 2 ∷ []
messages = refl

-- an acknowledgement counts also before its message
acknowledged_early : pending client (Ack client 1 1 1 ∷ sent 1 1 ∷ sent 2 1 ∷ []) ≡ message 2 1 ∷ []
acknowledged_early = refl

-- the next epoch counts operations whose Take is not there
epoch_of_parked : next_epoch client (taken 1 1 ∷ asleep 2 1 1 ∷ []) ≡ Some 3
epoch_of_parked = refl

first_epoch : next_epoch client [] ≡ Some 1
first_epoch = refl

last_epoch : next_epoch client (taken (2 ^ 64 - 1) 1 ∷ []) ≡ None
last_epoch = refl

-- the next sequence number counts acknowledgements, of the same gateway alone
seq_of_acknowledgement : next_seq client 1 (sent 1 3 ∷ Ack client 1 1 5 ∷ Ack client 2 1 9 ∷ []) ≡ Some 6
seq_of_acknowledgement = refl

first_seq : next_seq client 3 (sent 1 3 ∷ []) ≡ Some 1
first_seq = refl

-- older session operations and acknowledged messages are not kept; acknowledgements are
kept : keep (taken 1 1 ∷ asleep 1 1 1 ∷ taken 2 1 ∷ sent 1 1 ∷ Ack client 1 1 1 ∷ sent 1 2 ∷ asleep 3 1 1 ∷ []) ≡ taken 2 1 ∷ Ack client 1 1 1 ∷ sent 1 2 ∷ asleep 3 1 1 ∷ []
kept = refl

-- clients stand in the order of their octets, each once; a range without a sequence number names none
in_order : clients (OfPut longer (message 1 1) ∷ taken 1 1 ∷ Ack earlier 1 1 1 ∷ sent 1 1 ∷ Ack (98 ∷ []) 1 2 1 ∷ []) ≡ earlier ∷ client ∷ longer ∷ []
in_order = refl

-- ranges that touch are one
ranges : acknowledged client 1 (Ack client 1 7 9 ∷ Ack client 1 1 2 ∷ Ack client 2 5 5 ∷ Ack client 1 3 4 ∷ Ack client 1 8 12 ∷ []) ≡ (1, 4) ∷ (7, 12) ∷ []
ranges = refl

-- what is acknowledged above a gap counts, and nothing else
most_exceptions : exceptions client (Ack client 1 2 16385 ∷ Ack client 2 1 9 ∷ []) ≡ 16384
unfolding exceptions
most_exceptions = refl

at_the_limit : first_passed (Ack client 1 2 16385 ∷ []) ≡ None
unfolding exceptions gapless
at_the_limit = refl

past_the_limit : first_passed (Ack client 1 2 16386 ∷ []) ≡ Some Exceptions
unfolding exceptions gapless
past_the_limit = refl

-- ---- what is retained of topics

-- the topics 'ab', 'ac' and '$a'
abbrev ab : List ℕ
ab = 97 ∷ 98 ∷ []

abbrev ac : List ℕ
ac = 97 ∷ 99 ∷ []

abbrev dollar : List ℕ
dollar = 36 ∷ 97 ∷ []

abbrev kept_at : ℕ → ℕ → List ℕ → Retained
kept_at clock gateway body = record { clock = clock; gateway = gateway; qos = 0; body = body }

abbrev x : List ℕ
x = 120 ∷ []

abbrev y : List ℕ
y = 121 ∷ []

-- two gateways retain at once: the greater one's counts, whichever came first
two_gateways : retained ab (OfRetain ab (kept_at 1 1 x) ∷ OfRetain ab (kept_at 1 2 y) ∷ []) ≡ Some (kept_at 1 2 y)
two_gateways = refl

two_gateways_turned : retained ab (OfRetain ab (kept_at 1 2 y) ∷ OfRetain ab (kept_at 1 1 x) ∷ []) ≡ Some (kept_at 1 2 y)
two_gateways_turned = refl

-- the greater clock counts before the greater gateway
later_clock : retained ab (OfRetain ab (kept_at 1 2 y) ∷ OfRetain ab (kept_at 2 1 x) ∷ OfRetain ab (kept_at 1 1 y) ∷ []) ≡ Some (kept_at 2 1 x)
later_clock = refl

-- nothing was retained of another topic
other_topic : retained ac (OfRetain ab (kept_at 1 1 x) ∷ sent 1 1 ∷ []) ≡ None
other_topic = refl

-- what was ended is there, with an empty body, and is offered to nobody
ended : List Op
ended = OfRetain ab (kept_at 1 1 x) ∷ OfRetain ab (kept_at 2 1 []) ∷ OfRetain ac (kept_at 1 1 y) ∷ []

ended_is_there : retained ab ended ≡ Some (kept_at 2 1 [])
unfolding ended
ended_is_there = refl

ended_is_not_offered : retained_matching (35 ∷ []) ended ≡ (ac, kept_at 1 1 y) ∷ []
unfolding ended
ended_is_not_offered = refl

-- topics stand in the order of their octets, each once
several : List Op
several = OfRetain ac (kept_at 1 1 y) ∷ taken 1 1 ∷ OfRetain dollar (kept_at 1 2 x) ∷ OfRetain ab (kept_at 1 1 x) ∷ OfRetain ac (kept_at 1 2 x) ∷ []

topics_in_order : topics several ≡ dollar ∷ ab ∷ ac ∷ []
unfolding several
topics_in_order = refl

all_in_order : all_retained several ≡ (dollar, kept_at 1 2 x) ∷ (ab, kept_at 1 1 x) ∷ (ac, kept_at 1 2 x) ∷ []
unfolding several
all_in_order = refl

-- a filter that begins with a wildcard asks for no topic that begins with '$'
wildcard_in_order : retained_matching (35 ∷ []) several ≡ (ab, kept_at 1 1 x) ∷ (ac, kept_at 1 2 x) ∷ []
unfolding several
wildcard_in_order = refl

exactly_one : retained_matching ac several ≡ (ac, kept_at 1 2 x) ∷ []
unfolding several
exactly_one = refl

-- the next clock counts what any gateway retained of the topic
clock_after_both : next_clock ab (OfRetain ab (kept_at 1 2 y) ∷ OfRetain ab (kept_at 3 1 x) ∷ OfRetain ac (kept_at 9 1 x) ∷ []) ≡ Some 4
clock_after_both = refl

first_clock : next_clock ab (OfRetain ac (kept_at 9 1 x) ∷ []) ≡ Some 1
first_clock = refl

last_clock : next_clock ab (OfRetain ab (kept_at (2 ^ 64 - 1) 1 x) ∷ []) ≡ None
last_clock = refl

-- of each topic the last is kept, also if it ended what was retained
kept_of_topics : keep ended ≡ OfRetain ab (kept_at 2 1 []) ∷ OfRetain ac (kept_at 1 1 y) ∷ []
unfolding ended
kept_of_topics = refl

-- what is retained names no client
no_client : clients several ≡ client ∷ []
unfolding several
no_client = refl
