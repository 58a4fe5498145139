-- When the reader goes on reading, when a worker takes more than one datagram, and when it waits a moment before that.
use Rattle.std.specs.Prelude.{ℕ, ◌-◌, ◌/◌, Bool, ◌&&◌, ◌||◌, nat_lt, nat_le}
use Rattle.gw_serve.specs.declared.crowd.TheConstants.{MOST_PART, PART_FOR_ONE}
use Rattle.gw_serve.specs.declared.queue.TheConstants.{CAPACITY}

-- whether a queue has room into which so many datagrams were put, if at least so many were taken
abbrev pub has_room : ℕ → ℕ → Bool
has_room put taken = nat_lt (put - taken) CAPACITY

-- whether a worker that has taken so many may take one more at once: it has as many as there are workers, or as many wait
abbrev pub may_take_more : ℕ → ℕ → ℕ → ℕ → Bool
may_take_more had put taken workers = nat_le workers had || nat_le workers (put - taken)

-- whether a worker waits on for those who may come back: some wait, but fewer than expected, and so far it has waited for less than an eighth of what the
-- last row took, and for the next one for less than a thirty-second
abbrev pub waits_on : ℕ → ℕ → ℕ → ℕ → ℕ → Bool
waits_on waiting expected waited still lasted =
    nat_lt 0 waiting && nat_lt waiting expected && nat_lt waited (lasted / MOST_PART) && nat_lt still (lasted / PART_FOR_ONE)
