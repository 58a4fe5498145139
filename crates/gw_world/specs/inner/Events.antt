-- What an event does to the nodes of a field. `olds` and `news` are what they are before it and
-- after it.
use Rattle.std.specs.Prelude.{Bool, ◌≡◌, ◌⊎◌, ◌<◌, ℕ, ◌+◌, ◌-◌, ◌≤◌, ◌==◌, if◌then◌else◌, map, take, drop, length, Vec, List, [], ◌∷◌, ◌++◌, Option, Some, None, Result, Ok, Err, slice_get, slice_set, Contains}
use Rattle.std.specs.List.{AllByRecursion}
use Rattle.std.specs.declared.alloc.Global.{Global}
use Rattle.rep_op.specs.declared.op.Op.{Op}
use Rattle.rep_ops.specs.Spelling.{max_octets}
use Rattle.rep_answer.specs.Answers.{IsAnswer}
use Rattle.rep_digest.specs.Digests.{Digested, digest}
use Rattle.rep_digest.specs.Spelling.{digest_spelling, IsDigestWithinLimit}
use Rattle.sn_local.specs.declared.config.Config.{Config}
use Rattle.jr_disk.specs.declared.disk.Disk.{Ghosts}
use Rattle.rep_model.specs.Topics.{all_retained}
use Rattle.gw_answer.specs.declared.out.Out.{Out}
use Rattle.gw_answer.specs.declared.refusal.Refusal.{Refusal}
use Rattle.gw_answer.specs.declared.refusal.Refusal.TheVariants as refusals
use Rattle.gw_answer.specs.declared.step.Step.{Step}
use Rattle.gw_answer.specs.declared.step.Step.TheVariants as steps
use Rattle.gw_event.specs.Event.{StepOf, Event as CallEvent, IsWritable}
use Rattle.gw_event.specs.Together.{InTurnBy, Together}
use Rattle.jr_disk.specs.declared.disk.Failure.{Failure}
use Rattle.gw_event.specs.Gateways.{Gateway}
use Rattle.gw_node.specs.Parts.{State}
use Rattle.gw_answer.specs.Answers.{said, only_sends}
use Rattle.gw_node.specs.Standing.{CallAgrees, with_failure}
use Rattle.gw_world.specs.declared.event.Event.{Event}
use Rattle.gw_world.specs.declared.event.Event.TheVariants.{Frame, Tick, Take, Together as AtOnce, Answer as Asks, WriteFails, Compact, Restart, Show}
use Rattle.gw_world.specs.declared.event.Call.{Call}
use Rattle.gw_world.specs.declared.event.Call.TheVariants as calls
use Rattle.gw_world.specs.declared.event.Answer.{Answer}
use Rattle.gw_world.specs.declared.event.Answer.TheVariants.{Node, Row, Views, Records, Nothing}
use Rattle.gw_world.specs.declared.world.WorldFault.{WorldFault}
use Rattle.gw_world.specs.declared.world.WorldFault.TheVariants as stops
use Rattle.gw_world.specs.Events.{made_of, answered_of}
use Rattle.gw_world.specs.Whole.{made_of_all}
use Rattle.gw_world.specs.Field.{Field, new_field, AreStepsOf, AreFed, Run, NamesNoGateway, NamesNoDelta, shown, gateway_of_event, failing_gateway}
use Rattle.gw_world.specs.Keeping.{IsShown, AreShown}
use Rattle.gw_world.specs.Steps.{restarted, records_left}

-- memory did not run out
abbrev pub IsFed : Result Out Refusal → Type 0
IsFed (Err refusals.Memory) = ⊥
IsFed answer = Unit {0}

-- ---- one node

-- whatever gateway the node stood for, it does this step, and the node stands for the next one
abbrev pub GoesOn : {D : Type 0} {G : Ghosts D} → State G → Step → Result Out Refusal → State G
    → Type 0
GoesOn old step answer new =
    (gateway : Gateway) → IsShown gateway old → CallAgrees gateway step
    → (next : Gateway) × (made : List (List Op)) × StepOf gateway step answer next made
    × IsShown next new

-- the answer is not that the disk failed
abbrev pub IsNoFailure : Result Out Refusal → Type 0
IsNoFailure (Err (refusals.Disk excuse)) = ⊥
IsNoFailure answer = Unit {0}

-- what each call takes contradicts nothing that the gateway has taken by then, whatever failures
-- are arranged
abbrev pub AgreeAlong : Gateway → List Step → Type 0
AgreeAlong gateway [] = Unit {0}
AgreeAlong gateway (step ∷ rest) =
    CallAgrees gateway step
    × ((fate : Option Failure) (answer : Result Out Refusal) (next : Gateway)
    (made : List (List Op)) → CallEvent (with_failure fate gateway) step answer next made
    → AgreeAlong next rest)

-- whatever gateway the node stood for, it does these calls with one write, and the node stands for
-- the next one
abbrev pub GoesTogether : {D : Type 0} {G : Ghosts D} → State G → List Step
    → List (Result Out Refusal) → State G → Type 0
GoesTogether old called answers new =
    (gateway : Gateway) → IsShown gateway old → AgreeAlong gateway called
    → (next : Gateway) × (made : List (List Op)) × Together gateway called answers next made
    × AreFed answers × IsShown next new

-- the first ones of the calls are done and none failed; or all are, with one write
abbrev pub RowLeads : {D : Type 0} {G : Ghosts D} → Gateway → List Step → List (Result Out Refusal)
    → State G → Type 0
RowLeads gateway called answers state =
    (next : Gateway) × (made : List (List Op)) × AreFed answers × IsShown next state
    × ((InTurnBy StepOf gateway (take (length answers) called) answers next made
    × AllByRecursion IsNoFailure answers × AgreeAlong next (drop (length answers) called))
    ⊎ (Together gateway called answers next made × (length answers ≡ length called)))

-- more of the calls are done
abbrev pub RowDone : {D : Type 0} {G : Ghosts D} → State G → List Step → List (Result Out Refusal)
    → List (Result Out Refusal) → State G → Type 0
RowDone old called before after new =
    (gateway : Gateway) → RowLeads gateway called before old → RowLeads gateway called after new

-- the node stops and is opened again: so many records are read then
abbrev pub StartsAgain : {D : Type 0} {G : Ghosts D} → State G → ℕ → ℕ → State G → Type 0
StartsAgain old kept count new =
    (gateway : Gateway) → IsShown gateway old → IsShown (restarted kept gateway) new
    × (count ≡ records_left kept gateway)

-- the next write of the node is to fail
abbrev pub FailsNext : {D : Type 0} {G : Ghosts D} → State G → ℕ → Bool → State G → Type 0
FailsNext old bytes sync new =
    (gateway : Gateway) → IsShown gateway old → IsShown (failing_gateway bytes sync gateway) new

-- the node stands for some gateway
abbrev pub IsStood : {D : Type 0} {G : Ghosts D} → State G → Type 0
IsStood state = (gateway : Gateway) × IsShown gateway state

-- what a peer answers to a digest, by what it keeps
abbrev pub AnswersDigest : Digested → List Op → Result Out Refusal → Type 0
AnswersDigest asked kept (Ok out) =
    IsAnswer asked kept out.answer × (out ≡ record (only_sends []) { answer = out.answer })
AnswersDigest asked kept (Err refusal) = ⊥

-- why a gateway gives no digest: it is too long, or memory ran out
abbrev pub IsNoDigest : Refusal → Type 0
IsNoDigest refusals.Full = Unit {0}
IsNoDigest refusals.Memory = Unit {0}
IsNoDigest refusal = ⊥

-- what the digest of what is kept comes to at a peer, by what that one keeps
abbrev pub AskKept : List Op → List Op → Result Out Refusal → Type 0
AskKept kept other (Ok out) =
    IsDigestWithinLimit (digest kept) × AnswersDigest (digest kept) other (Ok out)
AskKept kept other (Err refusals.Full) = max_octets < length (digest_spelling (digest kept))
AskKept kept other answer = ⊥

-- ---- nodes in their places

-- the place of the node of this number; the first, if two have it
abbrev pub place_in : {D : Type 0} {G : Ghosts D} → ℕ → ℕ → List (State G) → Option ℕ
place_in number i [] = None
place_in number i (state ∷ rest) =
    if state.config.gateway == number then Some i else place_in number (i + 1) rest

-- the i-th node went on so, and no other changed
pub record Moves {D : Type 0} {G : Ghosts D} (olds : List (State G)) (i : ℕ) (Goes : State G
    → State G → Type 0) (news : List (State G)) : Type 0 where
  pub old : State G
  pub new : State G
  pub place : slice_get olds i ≡ Some old
  pub goes : Goes old new
  pub moved : news ≡ slice_set olds i new

-- the i-th node answers this call so, and no other node changes
abbrev pub StepsAt : {D : Type 0} {G : Ghosts D} → List (State G) → ℕ → Step → Result Out Refusal
    → List (State G) → Type 0
StepsAt olds i step answer news = Moves olds i (λ old new. GoesOn old step answer new) news

-- the i-th node answers these calls so, which have one write, and no other node changes
abbrev pub RowAt : {D : Type 0} {G : Ghosts D} → List (State G) → ℕ → List Step
    → List (Result Out Refusal) → List (State G) → Type 0
RowAt olds i called answers news =
    Moves olds i (λ old new. GoesTogether old called answers new) news

-- the digest of the i-th node goes to the j-th
abbrev pub AskAt : {D : Type 0} {G : Ghosts D} → List (State G) → ℕ → ℕ → Result Out Refusal
    → Type 0
AskAt {G = G} olds i j answer =
    (asker : State G) × (peer : State G) × (slice_get olds i ≡ Some asker)
    × (slice_get olds j ≡ Some peer) × AskKept asker.kept peer.kept answer

-- these deltas, which can all be written, are added to the list
abbrev pub Join : List (List Op) → List (List Op) → List (List Op) → Type 0
Join deltas more next = AllByRecursion IsWritable more × (next ≡ deltas ++ more)

-- ---- answers

-- the answer to a datagram or a tick, and the list of deltas after it
abbrev pub OwnAnswered : {D : Type 0} {G : Ghosts D} → List (State G) → List (List Op) → ℕ → Step
    → List (State G) → List (List Op) → Answer → Type 0
OwnAnswered olds deltas i step news next (Node answer) =
    StepsAt olds i step (said answer) news × Join deltas (made_of (said answer)) next
OwnAnswered olds deltas i step news next answer = ⊥

-- the answer to a delta or a compaction
abbrev pub StepAnswered : {D : Type 0} {G : Ghosts D} → List (State G) → ℕ → Step → List (State G)
    → Answer → Type 0
StepAnswered olds i step news (Node answer) = StepsAt olds i step (said answer) news
StepAnswered olds i step news answer = ⊥

-- a field of which nothing is known but its list
abbrev pub listing : List (List Op) → Field
listing deltas = record { gateways = []; deltas = deltas }

-- the answers to calls with one write, and the list of deltas after them
abbrev pub RowAnswered : {D : Type 0} {G : Ghosts D} → List (State G) → List (List Op) → ℕ
    → List Call → List (State G) → List (List Op) → Answer → Type 0
RowAnswered olds deltas i calls news next (Row answers) =
    (called : List Step) × AreStepsOf (listing deltas) calls called
    × RowAt olds i called (map said answers) news
    × Join deltas (made_of_all (map said answers)) next
RowAnswered olds deltas i calls news next answer = ⊥

-- the answer to a restart
abbrev pub RestartAnswered : {D : Type 0} {G : Ghosts D} → List (State G) → ℕ → ℕ → List (State G)
    → Answer → Type 0
RestartAnswered olds i kept news (Records count) =
    Moves olds i (λ old new. StartsAgain old kept count new) news
RestartAnswered olds i kept news answer = ⊥

-- the answer if a failure is arranged
abbrev pub FailAnswered : {D : Type 0} {G : Ghosts D} → List (State G) → ℕ → ℕ → Bool
    → List (State G) → Answer → Type 0
FailAnswered olds i bytes sync news Nothing =
    Moves olds i (λ old new. FailsNext old bytes sync new) news
FailAnswered olds i bytes sync news answer = ⊥

-- the answer of a peer in its place to the digest of the i-th node, and the list of deltas after it
abbrev pub AskAnswered : {D : Type 0} {G : Ghosts D} → List (State G) → List (List Op) → ℕ → ℕ
    → List (List Op) → Answer → Type 0
AskAnswered olds deltas i j next (Node answer) =
    AskAt olds i j (said answer) × Join deltas (answered_of (said answer)) next
AskAnswered olds deltas i j next answer = ⊥

-- the answer of the peer of this number to the digest of the i-th node, and the list of deltas
-- after it
abbrev pub PeerAnswered : {D : Type 0} {G : Ghosts D} → List (State G) → List (List Op) → ℕ → ℕ
    → List (List Op) → Answer → Type 0
PeerAnswered olds deltas i peer next answer =
    (j : ℕ) × (place_in peer 0 olds ≡ Some j) × AskAnswered olds deltas i j next answer

-- what a node shows
abbrev pub ShowAnswered : {D : Type 0} {G : Ghosts D} → List (State G) → ℕ → Answer → Type 0
ShowAnswered {G = G} olds i (Views views topics) =
    (state : State G) × (slice_get olds i ≡ Some state)
    × (views ≡ shown state.kept) × (topics ≡ all_retained state.kept)
ShowAnswered olds i answer = ⊥

-- the delta of this number; the first has number 1
abbrev pub IsListed : List (List Op) → ℕ → List Op → Type 0
IsListed deltas number delta = (1 ≤ number) × (slice_get deltas (number - 1) ≡ Some delta)

-- an event at the node in this place, its answer, and the nodes after it
abbrev pub EventAt : {D : Type 0} {G : Ghosts D} → List (State G) → List (List Op) → ℕ → Event
    → List (State G) → List (List Op) → Answer → Type 0
EventAt olds deltas i (Frame number from bytes now) news next answer =
    OwnAnswered olds deltas i (steps.Frame from bytes now) news next answer
EventAt olds deltas i (Tick number now) news next answer =
    OwnAnswered olds deltas i (steps.Tick now) news next answer
EventAt olds deltas i (Take number delta) news next answer =
    (ops : List Op) × IsListed deltas delta ops × StepAnswered olds i (steps.Take ops) news answer
    × (next ≡ deltas)
EventAt olds deltas i (AtOnce number calls) news next answer =
    RowAnswered olds deltas i calls news next answer
EventAt olds deltas i (Asks number peer) news next answer =
    PeerAnswered olds deltas i peer next answer × (news ≡ olds)
EventAt olds deltas i (WriteFails number bytes sync) news next answer =
    FailAnswered olds i bytes sync news answer × (next ≡ deltas)
EventAt olds deltas i (Compact number) news next answer =
    StepAnswered olds i steps.Compact news answer × (next ≡ deltas)
EventAt olds deltas i (Restart number kept) news next answer =
    RestartAnswered olds i kept news answer × (next ≡ deltas)
EventAt olds deltas i (Show number) news next answer =
    ShowAnswered olds i answer × (news ≡ olds) × (next ≡ deltas)

-- the event at the node that it names, its answer, and the nodes after it
abbrev pub EventPlayed : {D : Type 0} {G : Ghosts D} → List (State G) → List (List Op) → Event
    → List (State G) → List (List Op) → Answer → Type 0
EventPlayed olds deltas event news next answer =
    (i : ℕ) × (place_in (gateway_of_event event) 0 olds ≡ Some i)
    × EventAt olds deltas i event news next answer

-- ---- events without an answer

-- why a digest has no answer: its peer is not there, or memory ran out
abbrev pub NoPeer : {D : Type 0} {G : Ghosts D} → List (State G) → ℕ → ℕ → WorldFault → Type 0
NoPeer olds peer number (stops.NoGateway n) = (n ≡ number) × (place_in peer 0 olds ≡ None)
NoPeer olds peer number (stops.NoDelta n) = ⊥
NoPeer olds peer number stops.Memory = Unit {0}

-- why a delta cannot be taken: the list has none of this number, or memory ran out
abbrev pub NoDelta : List (List Op) → ℕ → ℕ → WorldFault → Type 0
NoDelta deltas delta number (stops.NoGateway n) = ⊥
NoDelta deltas delta number (stops.NoDelta n) =
    (n ≡ number) × ((ops : List Op) → IsListed deltas delta ops → ⊥)
NoDelta deltas delta number stops.Memory = Unit {0}

-- why a call is none of the node: the list has no delta of its number, or memory ran out
abbrev pub CallMissing : List (List Op) → Call → ℕ → WorldFault → Type 0
CallMissing deltas call number (stops.NoGateway n) = ⊥
CallMissing deltas call number (stops.NoDelta n) =
    (n ≡ number) × ((delta : ℕ) × (call ≡ calls.Take delta)
    × ((ops : List Op) → IsListed deltas delta ops → ⊥))
CallMissing deltas call number stops.Memory = Unit {0}

-- why one of these calls is none
abbrev pub CallsMissing : List (List Op) → List Call → ℕ → WorldFault → Type 0
CallsMissing deltas called number (stops.NoGateway n) = ⊥
CallsMissing deltas called number (stops.NoDelta n) =
    (n ≡ number) × ((delta : ℕ) × Contains called (calls.Take delta)
    × ((ops : List Op) → IsListed deltas delta ops → ⊥))
CallsMissing deltas called number stops.Memory = Unit {0}

-- why an event at a node that is there has no answer
abbrev pub IsMissing : {D : Type 0} {G : Ghosts D} → List (State G) → List (List Op) → Event → ℕ
    → WorldFault → Type 0
IsMissing olds deltas (Asks gateway peer) number fault = NoPeer olds peer number fault
IsMissing olds deltas (Take gateway delta) number fault = NoDelta deltas delta number fault
IsMissing olds deltas (AtOnce gateway calls) number fault =
    CallsMissing deltas calls number fault
IsMissing olds deltas event number fault = fault ≡ stops.Memory

-- why the event of this number stops a run
abbrev pub IsStopped : {D : Type 0} {G : Ghosts D} → List (State G) → List (List Op) → Event → ℕ
    → WorldFault → Type 0
IsStopped olds deltas event number (stops.NoGateway n) =
    (n ≡ number) × ((field : Field) → AreShown field.gateways olds → NamesNoGateway field event)
IsStopped olds deltas event number (stops.NoDelta n) =
    (n ≡ number) × ((field : Field) → AreShown field.gateways olds → field.deltas ≡ deltas
    → NamesNoDelta field event)
IsStopped olds deltas event number stops.Memory = Unit {0}

-- ---- runs

-- some run leads to the field
abbrev pub IsReached : Field → Type 0
IsReached field =
    (configs : List Config) × (events : List Event) × (answers : List Answer)
    × Run (new_field configs) events answers field

-- some run leads to a field for whose gateways these nodes stand, with this list
abbrev pub IsLed : {D : Type 0} {G : Ghosts D} → List (State G) → List (List Op) → Type 0
IsLed olds deltas =
    (field : Field) × IsReached field × AreShown field.gateways olds × (field.deltas ≡ deltas)

-- what the nodes are after a list of events
abbrev pub RunOn : {D : Type 0} {G : Ghosts D} → List (State G) → List (List Op) → List Event
    → List Answer → List (State G) → List (List Op) → Type 0
RunOn olds deltas events answers news next =
    (field : Field) → IsReached field → AreShown field.gateways olds → field.deltas ≡ deltas
    → (new : Field) × Run field events answers new × AreShown new.gateways news
    × (new.deltas ≡ next)

-- the same as `RunOn`, with the answers of the program's list
abbrev pub Played : {D : Type 0} {G : Ghosts D} → List (State G) → List (List Op) → List Event
    → List (State G) → List (List Op) → Vec Answer Global → Type 0
Played olds deltas events news next answers = RunOn olds deltas events answers.items news next

-- why a list of events stops
abbrev pub StopsRun : {D : Type 0} {G : Ghosts D} → List (State G) → List (List Op) → List Event
    → WorldFault → Type 0
StopsRun olds deltas events (stops.NoGateway n) =
    (field : Field) → IsReached field → AreShown field.gateways olds → field.deltas ≡ deltas
    → (k : ℕ) × (new : Field) × (event : Event) × (answers : List Answer)
    × Run field (take k events) answers new × (slice_get events k ≡ Some event)
    × (n ≡ k + 1) × NamesNoGateway new event
StopsRun olds deltas events (stops.NoDelta n) =
    (field : Field) → IsReached field → AreShown field.gateways olds → field.deltas ≡ deltas
    → (k : ℕ) × (new : Field) × (event : Event) × (answers : List Answer)
    × Run field (take k events) answers new × (slice_get events k ≡ Some event)
    × (n ≡ k + 1) × NamesNoDelta new event
StopsRun olds deltas events stops.Memory = Unit {0}
