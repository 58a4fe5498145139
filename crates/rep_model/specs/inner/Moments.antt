-- The least moment from which on one of several messages need not wait, in seconds.
use Rattle.std.specs.Prelude.{ℕ, ◌&&◌, if◌then◌else◌, nat_lt, List, fold}
use Rattle.rep_op.specs.declared.op.Put.{Put}

-- the moment of a message, if it has one before this moment, else this one
abbrev pub sooner : ℕ → Put → ℕ
sooner moment put =
    if nat_lt 0 put.expires && nat_lt put.expires moment then put.expires else moment

-- the least moment that one of these messages has before this moment, else this one
abbrev pub soonest_of : ℕ → List Put → ℕ
soonest_of moment puts = fold sooner moment puts
