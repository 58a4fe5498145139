-- Nodes of a field, and the gateways that they stand for.
use Rattle.std.specs.Prelude.{◌≡◌, false, List, [], ◌∷◌}
use Rattle.jr_disk.specs.declared.disk.Disk.{Ghosts}
use Rattle.jr_journal.specs.Parts.{disk_under}
use Rattle.gw_event.specs.Gateways.{Gateway}
use Rattle.gw_node.specs.Parts.{State}
use Rattle.gw_node.specs.Standing.{Lasts, Represents, IsForeseen}

-- The node stands for the gateway, and what that has taken lasts. It is known which failure is
-- arranged on its disk, and no memory was refused there.
pub record IsShown {D : Type 0} {G : Ghosts D} (gateway : Gateway) (state : State G) : Type 0 where
  pub stands : Represents gateway state
  pub foreseen : IsForeseen gateway state
  pub fed : G.starved (disk_under state.journal) ≡ false
  pub lasts : G.honest → Lasts gateway

-- each node of the world stands for its gateway of the field, one by one
abbrev pub AreShown : {D : Type 0} {G : Ghosts D} → List Gateway → List (State G) → Type 0
AreShown [] [] = Unit {0}
AreShown (gateway ∷ gateways) (state ∷ states) = IsShown gateway state × AreShown gateways states
AreShown [] (state ∷ states) = ⊥
AreShown (gateway ∷ gateways) [] = ⊥
