-- The messages that wait for a client, in the order of delivery.
use Rattle.std.specs.Prelude.{ℕ, min, max, Bool, true, false, List, [], ◌∷◌, ◌++◌, take, drop, filter}
use Rattle.rep_op.specs.declared.op.Put.{Put}
use Rattle.rep_entry.specs.declared.span.Span.{Span}
use Rattle.rep_log.specs.Mail.{goes_before, Range, is_uncovered}

-- whether the first of the messages is delivered before p
abbrev pub begins_before : Put → List Put → Bool
begins_before p [] = false
begins_before p (n ∷ ns) = goes_before n p

-- there is none, or the first of them is delivered after p
abbrev pub are_behind : Put → List Put → Bool
are_behind p [] = true
are_behind p (n ∷ ns) = goes_before p n

-- the messages once those from a place on are without the acknowledged ones
abbrev pub left_from : List Range → ℕ → List Put → List Put
left_from ranges at ps = take at ps ++ filter (is_uncovered ranges) (drop at ps)

-- as far as the span and the numbers first to last reach
abbrev pub widened : Span → ℕ → ℕ → Span
widened span first last = record { first = min span.first first; last = max span.last last }
