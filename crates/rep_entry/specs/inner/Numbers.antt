-- The numbers that a gateway took last.
use Rattle.std.specs.Prelude.{ℕ, ◌==◌, if◌then◌else◌}
use Rattle.rep_op.specs.declared.op.Stamp.{Stamp}
use Rattle.rep_op.specs.declared.op.Put.{Put}

-- the epoch in the name of a session operation
abbrev pub operation_epoch : Stamp × ℕ → ℕ
operation_epoch name = name.0.epoch

-- the sequence number of a message of the gateway, or 0
abbrev pub seq_from : ℕ → Put → ℕ
seq_from gateway put = if gateway == put.origin then put.seq else 0
