-- A file that holds a slot: its octets, and what is certain of them.
use Rattle.std.specs.Prelude.{◌≡◌, ℕ, Bool, true, false, if◌then◌else◌, nat_lt, List, length}
use Rattle.jr_disk.specs.Disk.{SlotBytes, bytes_of, appended, all_synced, cut_to}

-- What contracts see of a file. A crash leaves of its octets those that are synced, and a first
-- part of the others, unless it is loose.
pub record FileState : Type 0 where
  pub octets : SlotBytes
  -- it was cut, and that is not settled: a crash may leave it as long as it was
  pub loose : Bool
  -- a sync of it failed, so a later one may succeed though octets from before it are lost
  pub doubted : Bool

-- nothing stands in the way of its next sync: it is neither loose nor doubted
abbrev pub IsCertain : FileState → Type 0
IsCertain s = (s.loose ≡ false) × (s.doubted ≡ false)

-- the file has more octets at its end, which are not synced
abbrev pub file_grown : FileState → List ℕ → FileState
file_grown s bytes = record s { octets = appended s.octets bytes }

-- the file is cut to its first `len` octets, and that is not settled
abbrev pub shortened : FileState → ℕ → FileState
shortened s len = record s { octets = cut_to s.octets len; loose = true }

-- its length is settled, for good; where it has no octets nothing is left to doubt
abbrev pub file_settled : FileState → FileState
file_settled s =
    record s {
      loose = false;
      doubted = if nat_lt 0 (length (bytes_of s.octets)) then s.doubted else false;
    }

-- all its octets are synced
abbrev pub synced : FileState → FileState
synced s = record s { octets = all_synced s.octets }

-- a sync of it failed
abbrev pub suspected : FileState → FileState
suspected s = record s { doubted = true }
