-- The span of what is newly acknowledged.
use Rattle.std.specs.Prelude.{◌≡◌, ℕ, Bool, false, ◌&&◌, nat_le, List}
use Rattle.std.specs.List.{list_any, AllByRecursion}
use Rattle.rep_op.specs.declared.op.Put.{Put}
use Rattle.rep_op.specs.Orders.{name_of}
use Rattle.rep_entry.specs.declared.span.Span.{Span}
use Rattle.rep_log.specs.Mail.{Range, covers}

-- whether the span has the number
abbrev pub lies_in : Span → ℕ → Bool
lies_in span n = nat_le span.first n && nat_le n span.last

-- outside of the span no message is acknowledged
abbrev pub IsFreeOutside : Span → List Range → Put → Type 0
IsFreeOutside span ranges p =
    lies_in span p.seq ≡ false → list_any (covers (name_of p)) ranges ≡ false

-- outside of the span none of these messages is acknowledged
abbrev pub AreFreeOutside : Span → List Range → List Put → Type 0
AreFreeOutside span ranges ps = AllByRecursion (IsFreeOutside span ranges) ps
