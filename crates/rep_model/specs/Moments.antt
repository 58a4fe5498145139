-- The moments from which on messages need not wait, in seconds.
use Rattle.std.specs.Prelude.{◌≡◌, ℕ, Bool, true, ◌&&◌, ◌||◌, not, nat_lt, nat_le, List}
use Rattle.std.specs.List.{AllByRecursion}
use Rattle.rep_op.specs.declared.op.Put.{Put}

-- whether the moment of a message is there; without one it never is
abbrev pub is_past : ℕ → Put → Bool
is_past now put = nat_lt 0 put.expires && nat_le put.expires now

-- whether a message has no moment before this one
abbrev pub lasts : ℕ → Put → Bool
lasts moment put = not (nat_lt 0 put.expires) || nat_le moment put.expires

-- none of these messages has a moment before this one
abbrev pub AllLast : ℕ → List Put → Type 0
AllLast moment puts = AllByRecursion (λ (put : Put). lasts moment put ≡ true) puts
