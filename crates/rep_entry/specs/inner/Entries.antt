-- What a change makes of the entry of a client.
use Rattle.std.specs.Prelude.{◌≡◌, ℕ, ◌+◌, ◌≤◌, false, ⊤, List, length, count_by, Option, None, Some}
use Rattle.std.specs.Map.{keys_of}
use Rattle.sn_session.specs.declared.change.SessionOp.{SessionOp}
use Rattle.rep_op.specs.declared.op.Stamp.{Stamp}
use Rattle.rep_shared.specs.Steps.{capped, waits}
use Rattle.rep_log.specs.declared.log.Log.{Log}
use Rattle.rep_entry.specs.declared.entry.Entry.{Entry}
use Rattle.rep_log.specs.Logs.{all_in_log, stamp_on, prefix_on, session_on, known_on}
use Rattle.rep_log.specs.Origins.{origins_above_gaps}

-- the entry with the log, if one is staged
abbrev pub with_log : Entry → Option Log → Entry
with_log entry log = record {
  seen = record {
    stamp = stamp_on entry.seen.stamp log;
    prefix = prefix_on entry.seen.prefix log;
    session = session_on entry.seen.session log;
    pending = entry.seen.pending;
  };
  known = known_on entry.known log;
  acks = entry.acks;
  parked = entry.parked;
  exceptions = entry.exceptions;
}

-- how many session operations wait for earlier ones; the count stays if no log is staged
abbrev pub parked_on : Entry → Option Log → ℕ
parked_on entry None = entry.parked
parked_on entry (Some log) =
    count_by (waits log.stamp log.prefix) (keys_of (all_in_log entry.known log))

-- how many acknowledgements are above a gap; the count stays if none are staged
abbrev pub exceptions_on : Entry → Option (List (ℕ × List (ℕ × ℕ))) → ℕ
exceptions_on entry None = entry.exceptions
exceptions_on entry (Some acks) = capped (origins_above_gaps acks 255)

-- there is room for the operations after those that are there
abbrev pub HasLogRoom : List ((Stamp × ℕ) × SessionOp) → Option Log → ℕ → Type 0
HasLogRoom known None room = ⊤
HasLogRoom known (Some log) room = log.anew ≡ false → length known + length log.more ≤ room
