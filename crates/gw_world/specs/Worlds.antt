-- The result of a run.
use Rattle.std.specs.Prelude.{◌≡◌, ℕ, ◌+◌, List, map, take, Some, slice_get}
use Rattle.rep_op.specs.declared.op.Op.{Op}
use Rattle.rep_model.specs.Topics.{all_retained}
use Rattle.rep_model.specs.Views.{view}
use Rattle.sn_local.specs.declared.config.Config.{Config}
use Rattle.gw_world.specs.declared.event.Event.{Event}
use Rattle.gw_world.specs.declared.event.Answer.{Answer}
use Rattle.gw_world.specs.declared.world.WorldFault.{WorldFault}
use Rattle.gw_world.specs.declared.world.WorldFault.TheVariants as stops
use Rattle.jr_disk.specs.declared.disk.Disk.{Ghosts}
use Rattle.gw_event.specs.Gateways.{Gateway}
use Rattle.gw_node.specs.Parts.{State}
use Rattle.gw_world.specs.Keeping.{AreShown}
use Rattle.gw_world.specs.Field.{Field, new_field, Run, NamesNoGateway, NamesNoDelta}

-- The events led the field, from its start, to these answers and deltas. A node stands for each of
-- its gateways, in the order of the configs. `held` is what a node is: it has the config, the local
-- state and the disk of its gateway. What its replica keeps counts as what that has made and taken,
-- and so do the records that a crash now leaves of the disk. So each node shows of every client the
-- view of its gateway's set, and of topics what that retains.
pub record IsWorld {N D : Type 0} {G : Ghosts D} (held : N → State G) (configs : List Config)
    (events : List Event) (answers : List Answer) (deltas : List (List Op))
    (nodes : List N) : Type 0 where
  pub field : Field
  pub run : Run (new_field configs) events answers field
  pub listed : deltas ≡ field.deltas
  pub shown : AreShown field.gateways (map held nodes)
  pub views : (i : ℕ) (gateway : Gateway) (node : N) → slice_get field.gateways i ≡ Some gateway
      → slice_get nodes i ≡ Some node
      → (c : List ℕ) → view c (held node).kept ≡ view c gateway.taken
  pub retained : (i : ℕ) (gateway : Gateway) (node : N)
      → slice_get field.gateways i ≡ Some gateway → slice_get nodes i ≡ Some node
      → all_retained (held node).kept ≡ all_retained gateway.taken

-- the events before the k-th, counted from 0, led the field to this
pub record Before (configs : List Config) (events : List Event) (k : ℕ) (field : Field)
    (event : Event) : Type 0 where
  pub answers : List Answer
  pub run : Run (new_field configs) (take k events) answers field
  pub event_is : slice_get events k ≡ Some event

-- why there is no result: an event, numbered from 1, names no gateway, or no delta of the list as
-- it then is; or memory ran out
abbrev pub IsStop : List Config → List Event → WorldFault → Type 0
IsStop configs events (stops.NoGateway n) =
    (k : ℕ) × (field : Field) × (event : Event) × Before configs events k field event × (n ≡ k + 1)
    × NamesNoGateway field event
IsStop configs events (stops.NoDelta n) =
    (k : ℕ) × (field : Field) × (event : Event) × Before configs events k field event × (n ≡ k + 1)
    × NamesNoDelta field event
IsStop configs events stops.Memory = Unit {0}
