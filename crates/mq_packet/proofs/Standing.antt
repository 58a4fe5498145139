-- what a packet that was read is
use Rattle.std.proofs.Common.{◌≡◌, Bool, true, false, cond, ℕ, List, Option, Some, None, refl}
use Rattle.std.specs.Prelude.{option_map}
use Rattle.mq_packet.specs.declared.header.Header.{Header}
use Rattle.mq_packet.specs.declared.packet.Packet.{Packet}
use Rattle.mq_packet.specs.Bodies.{IsAllowedPacket, IsPacketValue, packet_body, header_of}
use Rattle.mq_packet.specs.inner.Reading.{◌>>=◌}

-- the packet has this header and this body
abbrev pub IsOf : Header → List ℕ → Packet → Type 0
IsOf header body p = IsAllowedPacket p × IsPacketValue p × (header_of p ≡ header) × (packet_body p ≡ body)

-- what was read, if anything, is such a packet
abbrev pub Stands : Header → List ℕ → Option Packet → Type 0
Stands header body None = Unit {0}
Stands header body (Some p) = IsOf header body p

-- what a test let through is one if the test holds
pub guarded : (test : Bool) (header : Header) (body : List ℕ) (p : Packet) → (test ≡ true → IsOf header body p) → Stands header body (cond test (Some p) None)
guarded true header body p h = h refl
guarded false header body p h = tt

-- and what was read on is one if it is at each value
pub stands_by : {A : Type 0} (header : Header) (body : List ℕ) (x : Option A) (f : A → Option Packet) → ((a : A) → x ≡ Some a → Stands header body (f a)) → Stands header body (x >>= f)
stands_by header body None f h = tt
stands_by header body (Some a) f h = h a refl

pub stands_at : {A : Type 0} (header : Header) (body : List ℕ) (make : A → Packet) (x : Option A) → ((a : A) → x ≡ Some a → IsOf header body (make a)) → Stands header body (option_map make x)
stands_at header body make None h = tt
stands_at header body make (Some a) h = h a refl
