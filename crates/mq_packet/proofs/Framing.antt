-- a framing has one first octet and one body, and a header one octet
use Rattle.std.proofs.Common.{◌≡◌, ℕ, zero, suc, ◌/◌, ◌==◌, true, false, cond, List, ◌∷◌, ◌++◌, length, Option, Some, None, refl, ap, subst}
use Rattle.mq_packet.specs.declared.header.Header.{Header}
use Rattle.mq_packet.specs.declared.header.Header.TheVariants as headers
use Rattle.mq_packet.specs.Grammar.{IsPacketFramed, IsSaid, length_in}
use Rattle.mq_packet.specs.Headers.{header_octet}
use Rattle.mq_packet.proofs.Lengths.{one_said}
use Rattle.mq_packet.proofs.Numbers.{IsBytes}

-- octets are framed in one way
pub one_framing : (octets : List ℕ) (j k : ℕ) (a b : List ℕ) → IsPacketFramed octets j a → IsPacketFramed octets k b → (j ≡ k) × (a ≡ b)
one_framing octets j k a b p q =
    let e = p.begins in
    let d = q.begins in
    let same : p.after ≡ q.after = cc in
    let P : List ℕ → Type 0 = λ x. IsSaid x (length a) a in
    let said = one_said q.after (length a) (length b) a b (subst P same p.said) q.said in
    (cc, said.1)

-- what follows Remaining Length is octets
after_length : (k n : ℕ) (rest : List ℕ) → IsBytes (length_in k n ++ rest) → IsBytes rest
after_length zero n rest h = λ i. h (suc i)
after_length (suc k) n rest h = after_length k (n / 128) rest (λ i. h (suc i))

-- a body's octets are octets of the packet
pub body_bytes : (octets : List ℕ) (first : ℕ) (body : List ℕ) → IsBytes octets → IsPacketFramed octets first body → IsBytes body
body_bytes octets first body h p =
    let P : List ℕ → Type 0 = λ x. IsBytes x in
    let whole : IsBytes (first ∷ p.after) = subst P p.begins h in
    let after : IsBytes p.after = λ i. whole (suc i) in
    after_length p.said.more (length body) body (subst P p.said.spelled after)

-- the header of an octet
abbrev pub header_at : ℕ → Option Header
header_at n =
    cond (n == 0x10) (Some headers.Connect) (
    cond (n == 0x20) (Some headers.ConnAck) (
    cond (n == 0x30) (Some (headers.PublishOnce false)) (
    cond (n == 0x31) (Some (headers.PublishOnce true)) (
    cond (n == 0x32) (Some (headers.PublishAcknowledged false false)) (
    cond (n == 0x33) (Some (headers.PublishAcknowledged false true)) (
    cond (n == 0x3A) (Some (headers.PublishAcknowledged true false)) (
    cond (n == 0x3B) (Some (headers.PublishAcknowledged true true)) (
    cond (n == 0x40) (Some headers.PubAck) (
    cond (n == 0x82) (Some headers.Subscribe) (
    cond (n == 0x90) (Some headers.SubAck) (
    cond (n == 0xA2) (Some headers.Unsubscribe) (
    cond (n == 0xB0) (Some headers.UnsubAck) (
    cond (n == 0xC0) (Some headers.PingReq) (
    cond (n == 0xD0) (Some headers.PingResp) (
    cond (n == 0xE0) (Some headers.Disconnect) (
    None))))))))))))))))

header_at-octet : (h : Header) → header_at (header_octet h) ≡ Some h
header_at-octet headers.Connect = refl
header_at-octet headers.ConnAck = refl
header_at-octet (headers.PublishOnce false) = refl
header_at-octet (headers.PublishOnce true) = refl
header_at-octet (headers.PublishAcknowledged false false) = refl
header_at-octet (headers.PublishAcknowledged false true) = refl
header_at-octet (headers.PublishAcknowledged true false) = refl
header_at-octet (headers.PublishAcknowledged true true) = refl
header_at-octet headers.PubAck = refl
header_at-octet headers.Subscribe = refl
header_at-octet headers.SubAck = refl
header_at-octet headers.Unsubscribe = refl
header_at-octet headers.UnsubAck = refl
header_at-octet headers.PingReq = refl
header_at-octet headers.PingResp = refl
header_at-octet headers.Disconnect = refl

-- no two headers have one octet
pub one_header : (g h : Header) → header_octet g ≡ header_octet h → g ≡ h
one_header g h e =
    let p = header_at-octet g in
    let q = header_at-octet h in
    let r = ap header_at e in
    cc
