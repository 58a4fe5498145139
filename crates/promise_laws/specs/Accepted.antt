-- What it is worth that a gateway accepted a message, from then on.
use Rattle.std.specs.Prelude.{◌≡◌, ◌⊎◌, ℕ, true, List, [], ◌++◌, Some, None, Contains, Result, Ok, slice_get}
use Rattle.std.specs.declared.sync.Arc.{Arc}
use Rattle.std.specs.declared.alloc.Global.{Global}
use Rattle.rep_op.specs.declared.op.Op.{Op}
use Rattle.rep_op.specs.declared.op.Op.TheVariants.{Put as OfPut}
use Rattle.rep_op.specs.declared.op.Put.{Put}
use Rattle.rep_op.specs.Sets.{put_at, is_acknowledged}
use Rattle.rep_ops.specs.Splitting.{all_of}
use Rattle.rep_model.specs.Keep.{Below}
use Rattle.rep_model.specs.Views.{view, clients}
use Rattle.jr_disk.specs.Disk.{Image}
use Rattle.jr_journal.specs.Records.{records}
use Rattle.sn_local.specs.declared.config.Addr.{Addr}
use Rattle.sn_local.specs.declared.config.Config.{Config}
use Rattle.sn_local.specs.Bindings.{client_at}
use Rattle.sn_local.specs.Seen.{seen_of}
use Rattle.sn_plan.specs.Bound.{session_of}
use Rattle.sn_publish.specs.declared.meaning.Meant.TheVariants.{Topic}
use Rattle.sn_publish.specs.Publishing.{publication_meant}
use Rattle.sn_publish.specs.Recipients.{qos_for}
use Rattle.gw_answer.specs.declared.out.Out.{Out}
use Rattle.gw_answer.specs.declared.fault.NodeFault.{NodeFault}
use Rattle.gw_answer.specs.Answers.{said}
use Rattle.gw_event.specs.Gateways.{Gateway, with_refused}
use Rattle.gw_node.specs.Taking.{RecoversTo}
use Rattle.gw_world.specs.declared.event.Event.{Event}
use Rattle.gw_world.specs.declared.event.Answer.{Answer}
use Rattle.gw_world.specs.declared.event.Answer.TheVariants.{Node}
use Rattle.gw_world.specs.Field.{Field, new_field, IsAt, After, Run, gateway_of_event}

-- the message waits for its client in the set, or the set has its acknowledgement
abbrev pub WaitsOrAcknowledged : List ℕ → Put → List Op → Type 0
WaitsOrAcknowledged c put S =
    Contains (view c S).pending put ⊎ (is_acknowledged c S (put.seq, put.origin) ≡ true)

-- These bytes are what a crash may leave of the gateway's disk: a journal that stands for its set,
-- or for its set with some first ones of the deltas that it refused when the disk failed.
abbrev pub IsLeftOf : Gateway → Image → Type 0
IsLeftOf gateway image =
    (n : ℕ)
    × RecoversTo gateway.config.gateway (with_refused n gateway.taken gateway.refused) [] image

-- The message waits for its client at the gateway, or is acknowledged there; and so it is in the
-- records of whatever a crash leaves of the gateway's disk.
pub record IsWithGateway (c : List ℕ) (put : Put) (gateway : Gateway) : Type 0 where
  pub in_set : WaitsOrAcknowledged c put gateway.taken
  pub on_disk : (image : Image) → IsLeftOf gateway image
      → WaitsOrAcknowledged c put (all_of (records gateway.config.gateway image))

-- The gateway in place j has the delta that the one in place i made: it is that gateway, or with
-- the delta its set would have nothing more that counts.
abbrev pub HasCome : ℕ → ℕ → List Op → Gateway → Type 0
HasCome i j delta gateway = (j ≡ i) ⊎ Below delta gateway.taken

-- However a run goes on from this field: the message is with the gateway in place i, and with each
-- gateway that has the delta.
abbrev pub IsKeptFrom : Field → ℕ → List Op → List ℕ → Put → Type 0
IsKeptFrom field i delta c put =
    (more : List Event) (replies : List Answer) (new : Field) (j : ℕ) (gateway : Gateway)
    → Run field more replies new → slice_get new.gateways j ≡ Some gateway
    → HasCome i j delta gateway → IsWithGateway c put gateway

-- In a run the event comes to the gateway in place i, and it answers: the field before, and after.
pub record HasAnswered (configs : List Config) (event : Event) (out : Out) (old new : Field) (i : ℕ)
    (gateway : Gateway) : Type 0 where
  pub events : List Event
  pub answers : List Answer
  pub run : Run (new_field configs) events answers old
  pub at : IsAt old (gateway_of_event event) i gateway
  pub answer : Result (Arc Out Global) NodeFault
  pub says : said answer ≡ Ok out
  pub after : After old event (Node answer) new

-- The gateway made the message with this delta. Its set had nothing under the name; with the delta
-- the message waits there.
pub record IsNewIn (gateway : Gateway) (delta : List Op) (c : List ℕ) (message : Put) : Type 0 where
  pub has : Contains delta (OfPut c message)
  pub origin : message.origin ≡ gateway.config.gateway
  pub fresh : put_at c gateway.taken (message.seq, message.origin) ≡ None
  pub waits : Contains (view c (gateway.taken ++ delta)).pending message

-- The gateway's answer reports a delta, and with that it made a message for the client, with this
-- topic, quality of service and body. `Holds` says what is true of the message from then on.
pub record IsServed (gateway : Gateway) (out : Out) (c topic : List ℕ) (qos : ℕ) (body : List ℕ)
    (Holds : List Op → List ℕ → Put → Type 0) : Type 0 where
  pub delta : List Op
  pub told : out.made ≡ Some delta
  pub message : Put
  pub is_new : IsNewIn gateway delta c message
  pub says : (message.topic ≡ topic) × (message.qos ≡ qos) × (message.body ≡ body)
  pub holds : Holds delta c message

-- The client p that is bound to the address publishes to a topic, and the publication is served:
-- each client that the gateway knows and that gets it (`qos_for`) has a message of its own.
abbrev pub IsAccepted : Gateway → Addr → ℕ → ℕ → ℕ → List ℕ → Out
    → (List Op → List ℕ → Put → Type 0) → Type 0
IsAccepted gateway a bits topic qos body out Holds =
    (p : List ℕ) × (name : List ℕ) × (client_at a gateway.local.bindings ≡ Some p)
    × (publication_meant gateway.config.predefined (session_of (seen_of gateway.taken) p) bits topic
    body ≡ Topic name)
    × ((c : List ℕ) (q : ℕ) → Contains (clients gateway.taken) c
    → qos_for name qos (view c gateway.taken) ≡ Some q
    → IsServed gateway out c name q body Holds)
