-- The promise: what a gateway accepted waits until it is acknowledged for a cause.
use Rattle.std.specs.Prelude.{◌≡◌, ◌⊎◌, ℕ, true, List, Some, Contains, slice_get}
use Rattle.rep_op.specs.declared.op.Op.{Op}
use Rattle.rep_op.specs.declared.op.Put.{Put}
use Rattle.rep_op.specs.Sets.{is_acknowledged}
use Rattle.rep_ops.specs.Splitting.{all_of}
use Rattle.rep_model.specs.Views.{view}
use Rattle.jr_disk.specs.Disk.{Image}
use Rattle.jr_journal.specs.Records.{records}
use Rattle.gw_event.specs.Gateways.{Gateway}
use Rattle.gw_world.specs.declared.event.Event.{Event}
use Rattle.gw_world.specs.declared.event.Answer.{Answer}
use Rattle.gw_world.specs.Field.{Field, Run}
use Rattle.promise_laws.specs.Accepted.{IsLeftOf, HasCome}
use Rattle.promise_laws.specs.Acknowledged.{IsWrittenBy}

-- The message waits for its client in the set. Or the set has its acknowledgement, and one of
-- these events is a step that wrote it, for a cause.
abbrev pub WaitsOrAnswered : Field → List Event → List Answer → List ℕ → Put → List Op → Type 0
WaitsOrAnswered field more replies c put S =
    Contains (view c S).pending put
    ⊎ ((is_acknowledged c S (put.seq, put.origin) ≡ true)
    × IsWrittenBy field more replies c (put.seq, put.origin))

-- However a run goes on from this field: at the gateway in place i, and at each gateway that has
-- the delta, the message waits until a step of this run acknowledges it, for a cause. So it is in
-- whatever a crash leaves of the gateway's disk.
abbrev pub WaitsUntilAnswered : Field → ℕ → List Op → List ℕ → Put → Type 0
WaitsUntilAnswered field i delta c put =
    (more : List Event) (replies : List Answer) (new : Field) (j : ℕ) (gateway : Gateway)
    → Run field more replies new → slice_get new.gateways j ≡ Some gateway
    → HasCome i j delta gateway
    → WaitsOrAnswered field more replies c put gateway.taken
    × ((image : Image) → IsLeftOf gateway image
    → WaitsOrAnswered field more replies c put (all_of (records gateway.config.gateway image)))
