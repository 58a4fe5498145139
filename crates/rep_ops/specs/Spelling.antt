-- The one spelling of a delta as octets. Numbers have the most significant octet first.
use Rattle.std.specs.Prelude.{ℕ, ◌≤◌, if◌then◌else◌, List, ◌∷◌, ◌++◌, length}
use Rattle.std.specs.List.{flat_map, list_any}
use Rattle.byteorder.specs.Endian.{big_bytes}
use Rattle.rep_ops.specs.declared.size.TheConstants.{MAX_OCTETS}
use Rattle.rep_op.specs.declared.op.Op.{Op}
use Rattle.rep_op.specs.declared.version.Version.{Version}
use Rattle.rep_op.specs.declared.version.Version.TheVariants.{One, Two}
use Rattle.rep_op.specs.Versions.{version_octet, needs_two}
use Rattle.rep_op.specs.Spelling.{op_octets}

-- a text of the format: the version, how many values there are, and the values
abbrev pub text_of : {A : Type 0} → Version → (A → List ℕ) → List A → List ℕ
text_of version octets values =
    (version_octet version ∷ big_bytes 4 (length values)) ++ flat_map octets values

-- the text of operations in this version
abbrev pub spelled_in : Version → List Op → List ℕ
spelled_in version ops = text_of version (op_octets version) ops

-- version 2 if one of the operations needs it, else version 1
abbrev pub version_of : List Op → Version
version_of ops = if list_any needs_two ops then Two else One

-- a delta is the text of its operations, in the version that they need
abbrev pub delta_spelling : List Op → List ℕ
delta_spelling ops = spelled_in (version_of ops) ops

-- the most octets of a delta, 8 MiB
abbrev pub max_octets : ℕ
max_octets = MAX_OCTETS

-- the octets of the delta are at most 8 MiB
abbrev pub IsDeltaWithinLimit : List Op → Type 0
IsDeltaWithinLimit ops = length (delta_spelling ops) ≤ max_octets
