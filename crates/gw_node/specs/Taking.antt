-- What a node has taken, and what a crash would leave of it.
use Rattle.std.specs.Prelude.{◌≡◌, ℕ, false, List, [], ◌++◌, None}
use Rattle.rep_op.specs.declared.op.Op.{Op}
use Rattle.rep_op.specs.Sets.{Within, IsConsistent}
use Rattle.rep_ops.specs.Splitting.{all_of}
use Rattle.rep_model.specs.Keep.{keep, CountsAs}
use Rattle.rep_model.specs.Roomy.{IsRoomy}
use Rattle.jr_disk.specs.declared.disk.Disk.{Ghosts}
use Rattle.jr_disk.specs.Disk.{Image, image, EachCrash}
use Rattle.jr_journal.specs.Records.{records}
use Rattle.jr_journal.specs.Faults.{is_fresh, fault_of}
use Rattle.jr_journal.specs.Parts.{disk_under, gateway_of}
use Rattle.gw_event.specs.Gateways.{with_refused}
use Rattle.gw_node.specs.Parts.{State, is_halted}

-- the records that an opening of the node's disk would read
abbrev pub on_disk : {D : Type 0} {G : Ghosts D} → State G → List (List Op)
on_disk {G = G} state =
    records (gateway_of state.journal) (image (G.slots (disk_under state.journal)))

-- J contains what must be kept of S, and lies within S and the deltas that were refused
pub record IsBetween (S : List Op) (refused : List (List Op)) (J : List Op) : Type 0 where
  pub lower : Within (keep S) J
  pub upper : Within J (S ++ all_of refused)

-- J counts as S with some first ones of the deltas that were refused, each whole
abbrev pub IsWhole : List Op → List (List Op) → List Op → Type 0
IsWhole S refused J = (n : ℕ) × CountsAs (with_refused n S refused) J

-- An opening finds no fault in the image. Its records stand for S with some first ones of what was
-- refused. They contradict nothing. No front part of them passes a limit: they can be taken again.
pub record RecoversTo (gateway : ℕ) (S : List Op) (refused : List (List Op)) (i : Image)
    : Type 0 where
  pub sound : fault_of gateway i ≡ None
  pub between : IsBetween S refused (all_of (records gateway i))
  pub whole : IsWhole S refused (all_of (records gateway i))
  pub roomy : IsRoomy (records gateway i)
  pub proper : IsConsistent (all_of (records gateway i))

-- The node has taken the set S. Its replica counts as S. Whatever a crash leaves of an honest disk
-- stands for S with some first ones of the deltas that were refused, each whole. There is no
-- refused delta as long as the node goes on. No opening of it begins a new journal.
pub record HasTaken {D : Type 0} {G : Ghosts D} (S : List Op) (refused : List (List Op))
    (state : State G) : Type 0 where
  pub counts : CountsAs S state.kept
  pub quiet : is_halted state ≡ false → refused ≡ []
  pub images : G.honest → EachCrash (λ i. RecoversTo (gateway_of state.journal) S refused i)
      (G.slots (disk_under state.journal))
  pub begun : G.honest → EachCrash (λ i. is_fresh i ≡ false) (G.slots (disk_under state.journal))
