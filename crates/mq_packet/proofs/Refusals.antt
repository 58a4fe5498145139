-- what octets that spell a packet say about reading, and about refusals
use Rattle.std.proofs.Common.{◌≡◌, ℕ, ◌≤◌, ◌⊎◌, inl, inr, List, ◌++◌, length, Option, Some, None, refl, ap, sym, subst, arith}
use Rattle.std.specs.Prelude.{Result, Ok, Err, IfOk, IfErr, ◌≢◌}
use Rattle.mq_packet.specs.declared.fault.PacketFault.{PacketFault}
use Rattle.mq_packet.specs.declared.fault.PacketFault.TheVariants as faults
use Rattle.mq_packet.specs.declared.header.Header.{Header}
use Rattle.mq_packet.specs.declared.packet.Packet.{Packet}
use Rattle.mq_packet.specs.Bodies.{IsAllowedPacket, IsPacketValue, packet_body, header_of}
use Rattle.mq_packet.specs.Faults.{IsFirstPacketFault, IsHeadFault, IsHeadThen, IsLengthFault}
use Rattle.mq_packet.specs.Grammar.{IsPacketFramed, IsSaid, SpellsPacket, fewest, length_in, packet_size, packet_spelling}
use Rattle.mq_packet.specs.Headers.{header_octet}
use Rattle.mq_packet.specs.inner.Reading.{ReadsPacket, packet_of}
use Rattle.mq_packet.proofs.Framing.{body_bytes, one_framing, one_header}
use Rattle.mq_packet.proofs.Lengths.{fewest_only, fewest_said, fewest_shortest, one_said, said_fits, said_or_fault}
use Rattle.mq_packet.proofs.Numbers.{IsBytes}
use Rattle.mq_packet.proofs.ReadBodies.{packet_stands, reads_back}
use Rattle.mq_packet.proofs.Standing.{Stands}

-- a packet that is spelled is the one that is read
pub only_read : (octets : List ℕ) (header : Header) (body : List ℕ) (p : Packet)
    → IsPacketFramed octets (header_octet header) body → IsPacketValue p → SpellsPacket octets p → packet_of header body ≡ Some p
only_read octets header body p framed v spells =
    let one = one_framing octets _ _ _ _ framed spells.framed in
    let kind : header ≡ header_of p = one_header header (header_of p) one.0 in
    let parts : body ≡ packet_body p = one.1 in
    let back = reads_back p v spells.message in
    cc

-- no octets spell two packets
pub one_packet : (octets : List ℕ) (p q : Packet) → IsPacketValue p → IsPacketValue q → SpellsPacket octets p → SpellsPacket octets q → p ≡ q
one_packet octets p q v w s t =
    let first = only_read octets (header_of p) (packet_body p) p s.framed v s in
    let second = only_read octets (header_of p) (packet_body p) q s.framed w t in
    cc

-- the canonical form of a packet that fits spells it
pub fitting_spelled : (p : Packet) → IsAllowedPacket p → packet_size p ≤ 268435455 → SpellsPacket (packet_spelling p) p
fitting_spelled p h fits =
    record {
      message = h;
      framed = record { after = length_in (fewest (length (packet_body p))) (length (packet_body p)) ++ packet_body p; begins = refl; said = fewest_said (length (packet_body p)) (packet_body p) fits };
    }

-- and so does that of a packet that is spelled
pub spelled_canonical : (octets : List ℕ) (p : Packet) → SpellsPacket octets p → SpellsPacket (packet_spelling p) p
spelled_canonical octets p s = fitting_spelled p s.message (said_fits s.framed.after (length (packet_body p)) (packet_body p) s.framed.said)

-- which is as short as any, and the only one as short
pub canonical_shortest : (octets : List ℕ) (p : Packet) → SpellsPacket octets p → length (packet_spelling p) ≤ length octets
canonical_shortest octets p s =
    let after = fewest_shortest s.framed.after (length (packet_body p)) (packet_body p) s.framed.said in
    let whole = ap length s.framed.begins in
    omega arith

pub canonical_only : (octets : List ℕ) (p : Packet) → SpellsPacket octets p → length octets ≡ length (packet_spelling p) → octets ≡ packet_spelling p
canonical_only octets p s e =
    let whole = ap length s.framed.begins in
    let only = fewest_only s.framed.after (length (packet_body p)) (packet_body p) s.framed.said (omega arith) in
    let begins = s.framed.begins in
    cc

-- the first octet of a packet is that of a header
no_head : (octets : List ℕ) (header : Header) (body : List ℕ) (fault : PacketFault) → IsHeadFault octets fault → IsPacketFramed octets (header_octet header) body → ⊥
no_head octets header body fault (first, after, begins, h) framed =
    let own = framed.begins in
    h.none header cc

-- and what follows it is a Remaining Length
no_length : (octets : List ℕ) (header : Header) (body : List ℕ) (fault : PacketFault) → IsHeadThen octets fault → IsPacketFramed octets (header_octet header) body → ⊥
no_length octets header body fault (other, after, begins, h) framed =
    let own = framed.begins in
    let same : framed.after ≡ after = cc in
    let P : List ℕ → Type 0 = λ x. IsLengthFault x fault in
    said_or_fault framed.after (length body) body fault framed.said (subst P (sym same) h)

-- which is the size of the body
no_other_size : (octets : List ℕ) (header : Header) (body : List ℕ) (said held : ℕ) → IsFirstPacketFault octets (faults.Length said held) → IsPacketFramed octets (header_octet header) body → ⊥
no_other_size octets header body said held (other, after, rest, begins, is, size, differ) framed =
    let own = framed.begins in
    let same : after ≡ framed.after = cc in
    let one = one_said after said (length body) rest body is (let P : List ℕ → Type 0 = λ x. IsSaid x (length body) body in subst P (sym same) framed.said) in
    let told = ap length one.1 in
    let number = one.0 in
    differ cc

-- the octets of a packet have no fault, but memory may be wanted for it
pub framed_fault : (octets : List ℕ) (header : Header) (body : List ℕ) (e : PacketFault) → IsPacketFramed octets (header_octet header) body → IsFirstPacketFault octets e → (e ≡ faults.Body) ⊎ (e ≡ faults.Memory)
framed_fault octets header body (faults.UnknownType octet) f h = absurd (no_head octets header body _ h f)
framed_fault octets header body (faults.QosTwo octet) f h = absurd (no_head octets header body _ h f)
framed_fault octets header body (faults.Flags octet) f h = absurd (no_head octets header body _ h f)
framed_fault octets header body faults.Short f (inl none) = let own = f.begins in absurd cc
framed_fault octets header body faults.Short f (inr h) = absurd (no_length octets header body faults.Short h f)
framed_fault octets header body faults.TooLong f h = absurd (no_length octets header body faults.TooLong h f)
framed_fault octets header body (faults.Length said held) f h = absurd (no_other_size octets header body said held h f)
framed_fault octets header body faults.Body f h = inl refl
framed_fault octets header body faults.Memory f h = inr refl

no_body : (octets : List ℕ) (p : Packet) (e : PacketFault) → IsPacketValue p → SpellsPacket octets p → IsFirstPacketFault octets e → (e ≡ faults.Body) ⊎ (e ≡ faults.Memory) → e ≡ faults.Memory
no_body octets p e v s h (inl body) =
    let P : PacketFault → Type 0 = λ x. IsFirstPacketFault octets x in
    absurd ((subst P body h).1 p v s)
no_body octets p e v s h (inr memory) = memory

pub is_refused : (octets : List ℕ) (e : PacketFault) (p : Packet) → IsFirstPacketFault octets e → IsPacketValue p → SpellsPacket octets p → e ≡ faults.Memory
is_refused octets e p h v s = no_body octets p e v s h (framed_fault octets (header_of p) (packet_body p) e s.framed h)

-- what was read from a packet's body is spelled by the packet
read_spells : (octets : List ℕ) (header : Header) (body : List ℕ) (p : Packet)
    → IsBytes octets → IsPacketFramed octets (header_octet header) body → packet_of header body ≡ Some p → IsPacketValue p × SpellsPacket octets p
read_spells octets header body p b framed read =
    let P : Option Packet → Type 0 = λ x. Stands header body x in
    let is = subst P read (packet_stands header body (body_bytes octets _ body b framed)) in
    let Q : Header → List ℕ → Type 0 = λ u x. IsPacketFramed octets (header_octet u) x in
    let R : Header → Type 0 = λ u. Q u body in
    let S : List ℕ → Type 0 = λ x. Q (header_of p) x in
    (is.1, record { message = is.0; framed = subst S (sym is.3) (subst R (sym is.2) framed) })

-- what is in an option that is not empty
there : (x : Option Packet) → x ≢ None → (p : Packet) × (x ≡ Some p)
there None h = absurd (h refl)
there (Some p) h = (p, refl)

-- what reading a body answers, as an answer to all octets
pub answers_ok : (octets : List ℕ) (header : Header) (body : List ℕ) (r : Result Packet PacketFault)
    → IsBytes octets → IsPacketFramed octets (header_octet header) body → ReadsPacket (packet_of header body) r → IfOk r (SpellsPacket octets)
answers_ok octets header body (Ok p) b framed read = (read_spells octets header body p b framed read).1
answers_ok octets header body (Err e) b framed read = tt

pub answers_value : (octets : List ℕ) (header : Header) (body : List ℕ) (r : Result Packet PacketFault)
    → IsBytes octets → IsPacketFramed octets (header_octet header) body → ReadsPacket (packet_of header body) r → IfOk r IsPacketValue
answers_value octets header body (Ok p) b framed read = (read_spells octets header body p b framed read).0
answers_value octets header body (Err e) b framed read = tt

pub answers_only : (octets : List ℕ) (header : Header) (body : List ℕ) (r : Result Packet PacketFault) (p : Packet)
    → IsPacketFramed octets (header_octet header) body → ReadsPacket (packet_of header body) r → IsPacketValue p → SpellsPacket octets p → (r ≡ Ok p) ⊎ (r ≡ Err faults.Memory)
answers_only octets header body (Ok q) p framed read v s = let only = only_read octets header body p framed v s in inl cc
answers_only octets header body (Err faults.Memory) p framed read v s = inr refl
answers_only octets header body (Err faults.Body) p framed read v s = let only = only_read octets header body p framed v s in absurd cc
answers_only octets header body (Err (faults.UnknownType octet)) p framed read v s = absurd read
answers_only octets header body (Err (faults.QosTwo octet)) p framed read v s = absurd read
answers_only octets header body (Err (faults.Flags octet)) p framed read v s = absurd read
answers_only octets header body (Err faults.Short) p framed read v s = absurd read
answers_only octets header body (Err faults.TooLong) p framed read v s = absurd read
answers_only octets header body (Err (faults.Length said held)) p framed read v s = absurd read

pub answers_fault : (octets : List ℕ) (header : Header) (body : List ℕ) (r : Result Packet PacketFault)
    → IsBytes octets → IsPacketFramed octets (header_octet header) body → ReadsPacket (packet_of header body) r → IfErr r (IsFirstPacketFault octets)
answers_fault octets header body (Ok q) b framed read = tt
answers_fault octets header body (Err faults.Memory) b framed read =
    let found = there _ read in
    (found.0, read_spells octets header body found.0 b framed found.1)
answers_fault octets header body (Err faults.Body) b framed read =
    ((header, body, framed), λ p v s. let only = only_read octets header body p framed v s in absurd cc)
answers_fault octets header body (Err (faults.UnknownType octet)) b framed read = absurd read
answers_fault octets header body (Err (faults.QosTwo octet)) b framed read = absurd read
answers_fault octets header body (Err (faults.Flags octet)) b framed read = absurd read
answers_fault octets header body (Err faults.Short) b framed read = absurd read
answers_fault octets header body (Err faults.TooLong) b framed read = absurd read
answers_fault octets header body (Err (faults.Length said held)) b framed read = absurd read
