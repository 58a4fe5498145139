-- The rule of the queue: each number that was sent was taken or is in the queue, as often as it was
-- sent.
use Rattle.std.specs.Prelude.{◌≡◌, ℕ, ◌+◌, ◌^◌, List, [], ◌∷◌, map}
use mathlib.Core.Option.{some}
use lib.ListN.{get_elem?}
use Rattle.gw_serve.specs.declared.queue.Hand.{Hand}
use Rattle.gw_serve.specs.declared.queue.Datagram.{Datagram}
use Rattle.gw_serve.specs.Count.{weigh}

-- what a ticket of the queue knows: its parts, and the numbers that it sent and took
abbrev pub hand : ℕ → List ℕ → List ℕ → Hand
hand parts sent taken = record { parts = parts; sent = sent; taken = taken }

-- f of each view, added up
abbrev pub total : (Hand → ℕ) → List Hand → ℕ
total f [] = 0
total f (v ∷ vs) = f v + total f vs

-- the numbers of the datagrams
abbrev pub numbers : List Datagram → List ℕ
numbers ds = map (λ d. d.number) ds

-- a pass with no part has sent and taken nothing
abbrev pub IdleIsEmpty : List Hand → Type 0
IdleIsEmpty views =
    (port : ℕ) (v : Hand) → get_elem? views port ≡ some v → v.parts ≡ 0 → (v.sent ≡ [])
    × (v.taken ≡ [])

-- all parts there are
abbrev pub whole : ℕ
whole = 2 ^ 64

-- what was sent is what was taken and what the queue holds, however the numbers are weighed
abbrev pub Balanced : List Datagram → List Hand → Type 0
Balanced items views =
    (total (λ v. v.parts) views ≡ whole)
    × ((h : ℕ → ℕ) → total (λ v. weigh h v.sent) views ≡ total (λ v. weigh h v.taken) views + weigh
    h (numbers items))
    × IdleIsEmpty views
