-- The levels of events, as the settings write them.
use Rattle.std.specs.Prelude.{ℕ, List, Option, Some, None, codes, bytes_eq, if◌then◌else◌}

-- the number of a level, as syslog has it, by its word
abbrev pub read_level : List ℕ → Option ℕ
read_level word =
    if bytes_eq word (codes "err") then Some 3
    else if bytes_eq word (codes "warning") then Some 4
    else if bytes_eq word (codes "info") then Some 6
    else if bytes_eq word (codes "debug") then Some 7
    else None
