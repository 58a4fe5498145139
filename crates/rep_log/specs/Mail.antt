-- The messages that wait for a client, in the order of delivery.
use Rattle.std.specs.Prelude.{◌≡◌, ℕ, Bool, true, false, ◌==◌, ◌&&◌, not, nat_le, List, [], ◌∷◌, ◌++◌, map, Option, None, is_some, if◌then◌else◌}
use Rattle.std.specs.declared.cmp.Ordering.TheVariants.{Less}
use Rattle.std.specs.List.{list_any, AllByRecursion}
use Rattle.std.specs.FinMap.{find}
use Rattle.std.specs.Ordering.{is_lt}
use Rattle.rep_op.specs.declared.op.Put.{Put}
use Rattle.rep_op.specs.Orders.{name_of, put_cmp}

-- whether the first message is delivered before the second
abbrev pub goes_before : Put → Put → Bool
goes_before p q = is_lt (put_cmp (name_of p) (name_of q))

-- those in front that go before p, and the others
abbrev pub front_before : Put → List Put → List Put
front_before p [] = []
front_before p (n ∷ ns) = if goes_before n p then n ∷ front_before p ns else []

-- the others: from the first on that does not go before p
abbrev pub rest_from : Put → List Put → List Put
rest_from p [] = []
rest_from p (n ∷ ns) = if goes_before n p then rest_from p ns else n ∷ ns

-- both lists in one
abbrev pub weave : List Put → List Put → List Put
weave [] ns = ns
weave (p ∷ ps) ns = front_before p ns ++ p ∷ weave ps (rest_from p ns)

-- in strictly ascending order of their names
abbrev pub IsLess : Put → Put → Type 0
IsLess p q = put_cmp (name_of p) (name_of q) ≡ Less

-- the message is delivered before all of these
abbrev pub Above : Put → List Put → Type 0
Above p ns = AllByRecursion (IsLess p) ns

-- the messages are in the order of delivery, and no two have one name
abbrev pub Rising : List Put → Type 0
Rising [] = Unit {0}
Rising (p ∷ ps) = Above p ps × Rising ps

-- the messages under their names
abbrev pub named_puts : List Put → List ((ℕ × ℕ) × Put)
named_puts ps = map (λ p. (name_of p, p)) ps

-- the message of a name, if there is one
abbrev pub put_by_name : ℕ × ℕ → List Put → Option Put
put_by_name q ps = find put_cmp q (named_puts ps)

-- a name is in one of them at most
abbrev pub InOne : ℕ × ℕ → List Put → List Put → Type 0
InOne name ps ns = is_some (put_by_name name ps) ≡ true → put_by_name name ns ≡ None

-- an origin with a range of acknowledged numbers
abbrev pub Range : Type 0
Range = ℕ × (ℕ × ℕ)

-- whether the range has the name
abbrev pub covers : ℕ × ℕ → Range → Bool
covers name r = (name.1 == r.0) && nat_le r.1.0 name.0 && nat_le name.0 r.1.1

-- whether no range has the name of the message
abbrev pub is_uncovered : List Range → Put → Bool
is_uncovered ranges put = not (list_any (covers (name_of put)) ranges)

-- none of the messages is acknowledged
abbrev pub NoneCovered : List Range → List Put → Type 0
NoneCovered ranges ps = AllByRecursion (λ p. list_any (covers (name_of p)) ranges ≡ false) ps
