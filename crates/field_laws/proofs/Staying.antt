-- What waits at a gateway waits there a run later, or is acknowledged in its set.
use Rattle.std.proofs.Common.{◌≡◌, true, ℕ, ◌⊎◌, List, ◌++◌, slice_get, Some, Contains, sym, ap, ◌∙◌, subst}
use Rattle.std.proofs.lemmas.Option.{same_Some}
use Rattle.rep_op.specs.declared.op.Op.{Op}
use Rattle.rep_op.specs.declared.op.Put.{Put}
use Rattle.rep_op.specs.Sets.{is_acknowledged, Within}
use Rattle.std.specs.Prelude.{IsTrue}
use Rattle.std.specs.Ordering.{is_lt}
use Rattle.rep_op.specs.declared.op.Retained.{Retained}
use Rattle.rep_op.specs.Orders.{clock_of, clock_cmp}
use Rattle.rep_model.specs.Topics.{retained}
use Rattle.rep_model.proofs.Topics.{retained-leaves}
use Rattle.rep_model.specs.Views.{view}
use Rattle.rep_model.proofs.Joins.{within-left}
use Rattle.rep_model.proofs.Pending.{pending-stay}
use Rattle.sn_local.specs.declared.config.Config.{Config}
use Rattle.gw_world.specs.declared.event.Event.{Event}
use Rattle.gw_world.specs.declared.event.Answer.{Answer}
use Rattle.gw_event.specs.Gateways.{Gateway}
use Rattle.gw_world.specs.Field.{Field, new_field, Run}
use Rattle.field_laws.proofs.Catching.{run-later, later-now}

-- it waits in this set, or is acknowledged there
abbrev WaitsOrAcknowledged : List ℕ → Put → List Op → Type 0
WaitsOrAcknowledged c put T = Contains (view c T).pending put ⊎ (is_acknowledged c T (put.seq, put.origin) ≡ true)

-- what a gateway has taken it has taken a run later too
pub grows : (old new : Field) (more : List Event) (replies : List Answer) (i : ℕ) (gateway later : Gateway)
    → slice_get old.gateways i ≡ Some gateway → Run old more replies new → slice_get new.gateways i ≡ Some later → Within gateway.taken later.taken
grows old new more replies i gateway later place after there =
    let l = run-later old more replies new i gateway.taken after (later-now old.gateways i gateway place) in
    let is : later.taken ≡ gateway.taken ++ l.more = ap (λ (x : Gateway). x.taken) (same_Some later l.gateway (sym there ∙ l.place)) ∙ l.taken in
    subst (Within gateway.taken) (sym is) (within-left gateway.taken l.more)

pub stays : (configs : List Config) (events more : List Event) (answers replies : List Answer) (old new : Field) (i : ℕ) (gateway later : Gateway) (c : List ℕ) (put : Put)
    → Run (new_field configs) events answers old → slice_get old.gateways i ≡ Some gateway → Contains (view c gateway.taken).pending put
    → Run old more replies new → slice_get new.gateways i ≡ Some later → WaitsOrAcknowledged c put later.taken
stays configs events more answers replies old new i gateway later c put before place waits after there =
    pending-stay c gateway.taken later.taken put (grows old new more replies i gateway later place after there) waits

pub moves : (gateway other : Gateway) (c : List ℕ) (put : Put) → Contains (view c gateway.taken).pending put → Within gateway.taken other.taken → WaitsOrAcknowledged c put other.taken
moves gateway other c put waits within = pending-stay c gateway.taken other.taken put within waits

-- ---- what is retained

-- what is retained of a topic is retained later, or something later is
abbrev IsRetainedFrom : List ℕ → Retained → List Op → Type 0
IsRetainedFrom t k W = (last : Retained) × (retained t W ≡ Some last) × ((last ≡ k) ⊎ IsTrue (is_lt (clock_cmp (clock_of k) (clock_of last))))

pub retained-stays : (old new : Field) (more : List Event) (replies : List Answer) (i : ℕ) (gateway later : Gateway) (t : List ℕ) (k : Retained)
    → slice_get old.gateways i ≡ Some gateway → retained t gateway.taken ≡ Some k → Run old more replies new → slice_get new.gateways i ≡ Some later → IsRetainedFrom t k later.taken
retained-stays old new more replies i gateway later t k place e after there =
    retained-leaves t gateway.taken k later.taken (grows old new more replies i gateway later place after there) e

pub retained-moves : (gateway other : Gateway) (t : List ℕ) (k : Retained) → retained t gateway.taken ≡ Some k → Within gateway.taken other.taken → IsRetainedFrom t k other.taken
retained-moves gateway other t k e within = retained-leaves t gateway.taken k other.taken within e
