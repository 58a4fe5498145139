-- A gateway as its operator believes it, with the disk under it. `refused` are the deltas that it
-- refused when that disk failed, in the order of their records. No answer reported one as made or
-- taken, but some first ones may be on the disk. There is none as long as the gateway goes on.
use Rattle.std.specs.Prelude.{ℕ, zero, suc, List, [], ◌∷◌, ◌++◌}
use Rattle.rep_op.specs.declared.op.Op.{Op}
use Rattle.sn_local.specs.declared.config.Config.{Config}
use Rattle.sn_local.specs.Locals.{Local, no_local}
use Rattle.jr_disk.specs.Disk.{Image}
use Rattle.gw_event.specs.Drives.{Drive, new_drive, opened, more_records}

-- a gateway: its settings, the set that it has made and taken, its local state, its disk, and the
-- deltas that it refused when that disk failed
pub record Gateway : Type 0 where
  pub config : Config
  pub taken : List Op
  pub local : Local
  pub drive : Drive
  pub refused : List (List Op)

-- a gateway at the start: it has taken nothing, and its disk has only what an opening begins
abbrev pub new_gateway : Config → Gateway
new_gateway config =
    record {
      config = config;
      taken = [];
      local = no_local;
      drive = new_drive config.gateway;
      refused = [];
    }

-- a set with so many first ones of what was refused of it, or with all if there are fewer
abbrev pub with_refused : ℕ → List Op → List (List Op) → List Op
with_refused zero taken refused = taken
with_refused (suc n) taken [] = taken
with_refused (suc n) taken (delta ∷ refused) = with_refused n (taken ++ delta) refused

-- The gateway is opened again on this image. Its local state is empty, and its set is what it was,
-- for the journal stands for that. If the image has whole records of deltas that were refused, the
-- set has those deltas too; of the others it has nothing.
abbrev pub reopened : Image → Gateway → Gateway
reopened i old = record old {
  taken = with_refused (more_records old.config.gateway old.drive i) old.taken old.refused;
  local = no_local;
  drive = opened old.config.gateway old.drive.plan i;
  refused = [];
}
