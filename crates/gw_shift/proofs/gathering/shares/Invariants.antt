use Rattle.std.proofs.Common.{◌≡◌, ◌+◌, ◌++◌, take, length}
use Rattle.gw_shift.specs.inner.Passes.{told_by, made_after}
use Rattle.gw_shift.proofs.gathering.shares.Given as goal

-- what was told of, and what is left up to the number that was asked for
abbrev pub invariant-entries : goal.invariant-entries
invariant-entries l = (told_by l.all.items ++ take l.room (made_after l.number l.left) ≡ take l.max (made_after l.before l.entries))
    × (l.number + length l.left ≡ l.before + length l.entries)

abbrev pub decreases-entries : goal.decreases-entries
decreases-entries l = length l.left
