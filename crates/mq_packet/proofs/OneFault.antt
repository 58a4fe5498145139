-- octets have one first fault
use Rattle.std.proofs.Common.{◌≡◌, ℕ, ◌⊎◌, inl, inr, List, [], ◌∷◌, length, refl, ap, subst, arith}
use Rattle.mq_packet.specs.declared.fault.PacketFault.{PacketFault}
use Rattle.mq_packet.specs.declared.fault.PacketFault.TheVariants as faults
use Rattle.mq_packet.specs.declared.header.Header.{Header}
use Rattle.mq_packet.specs.Faults.{IsFirstPacketFault, IsHeadFault, IsHeadThen, IsLengthFault, first_octet_fault}
use Rattle.mq_packet.specs.Grammar.{IsPacketFramed, IsSaid}
use Rattle.mq_packet.specs.Headers.{header_octet}
use Rattle.mq_packet.proofs.Lengths.{one_said, said_or_fault}
use Rattle.mq_packet.proofs.Refusals.{framed_fault}

-- how far octets are read before a fault is found
data Found (octets : List ℕ) (e : PacketFault) : Type 0 where
  nowhere : octets ≡ [] → e ≡ faults.Short → Found octets e
  in_head : IsHeadFault octets e → Found octets e
  in_length : IsHeadThen octets e → Found octets e
  in_size : (said held : ℕ) → e ≡ faults.Length said held → IsFirstPacketFault octets (faults.Length said held) → Found octets e
  in_body : (header : Header) (body : List ℕ) → IsPacketFramed octets (header_octet header) body → Found octets e

found : (octets : List ℕ) (e : PacketFault) → IsFirstPacketFault octets e → Found octets e
found octets (faults.UnknownType octet) h = in_head h
found octets (faults.QosTwo octet) h = in_head h
found octets (faults.Flags octet) h = in_head h
found octets faults.Short (inl none) = nowhere none refl
found octets faults.Short (inr h) = in_length h
found octets faults.TooLong h = in_length h
found octets (faults.Length said held) h = in_size said held refl h
found octets faults.Body h = in_body h.0.0 h.0.1 h.0.2
found octets faults.Memory h = let framed = h.1.1.framed in in_body _ _ framed

-- one first octet has one fault
same_head : (octets : List ℕ) (d e : PacketFault) → IsHeadFault octets d → IsHeadFault octets e → d ≡ e
same_head octets d e (first, after, begins, p) (other, rest, own, q) =
    let same : first ≡ other = cc in
    let why = p.why in
    let because = q.why in
    let so = ap first_octet_fault same in
    cc

-- and is none of a header
head_or_header : (octets : List ℕ) (e : PacketFault) (header : Header) (after : List ℕ) → IsHeadFault octets e → octets ≡ header_octet header ∷ after → ⊥
head_or_header octets e header after (first, rest, begins, p) own = p.none header cc

-- Remaining Length has one fault
same_length : (after : List ℕ) (d e : PacketFault) → IsLengthFault after d → IsLengthFault after e → d ≡ e
same_length after faults.Short faults.Short p q = refl
same_length after faults.Short faults.TooLong p q = let short = p.0 in let long = q.0 in absurd (omega arith)
same_length after faults.TooLong faults.Short p q = let short = q.0 in let long = p.0 in absurd (omega arith)
same_length after faults.TooLong faults.TooLong p q = refl
same_length after faults.Short (faults.UnknownType octet) p q = absurd q
same_length after faults.Short (faults.QosTwo octet) p q = absurd q
same_length after faults.Short (faults.Flags octet) p q = absurd q
same_length after faults.Short (faults.Length said held) p q = absurd q
same_length after faults.Short faults.Body p q = absurd q
same_length after faults.Short faults.Memory p q = absurd q
same_length after faults.TooLong (faults.UnknownType octet) p q = absurd q
same_length after faults.TooLong (faults.QosTwo octet) p q = absurd q
same_length after faults.TooLong (faults.Flags octet) p q = absurd q
same_length after faults.TooLong (faults.Length said held) p q = absurd q
same_length after faults.TooLong faults.Body p q = absurd q
same_length after faults.TooLong faults.Memory p q = absurd q
same_length after (faults.UnknownType octet) e p q = absurd p
same_length after (faults.QosTwo octet) e p q = absurd p
same_length after (faults.Flags octet) e p q = absurd p
same_length after (faults.Length said held) e p q = absurd p
same_length after faults.Body e p q = absurd p
same_length after faults.Memory e p q = absurd p

same_then : (octets : List ℕ) (d e : PacketFault) → IsHeadThen octets d → IsHeadThen octets e → d ≡ e
same_then octets d e (header, after, begins, p) (other, rest, own, q) =
    let same : rest ≡ after = cc in
    let P : List ℕ → Type 0 = λ x. IsLengthFault x e in
    same_length after d e p (subst P same q)

-- and says no size then
length_or_size : (octets : List ℕ) (d : PacketFault) (said held : ℕ) → IsHeadThen octets d → IsFirstPacketFault octets (faults.Length said held) → ⊥
length_or_size octets d said held (header, after, begins, p) (other, rest, body, own, is, size, differ) =
    let same : after ≡ rest = cc in
    let P : List ℕ → Type 0 = λ x. IsLengthFault x d in
    said_or_fault rest said body d is (subst P same p)

-- one size is said and one is held
same_size : (octets : List ℕ) (said held more other : ℕ) → IsFirstPacketFault octets (faults.Length said held) → IsFirstPacketFault octets (faults.Length more other) → faults.Length said held ≡ faults.Length more other
same_size octets said held more other (header, after, rest, begins, is, size, differ) (header_b, after_b, rest_b, begins_b, is_b, size_b, differ_b) =
    let same : after ≡ after_b = cc in
    let P : List ℕ → Type 0 = λ x. IsSaid x said rest in
    let one = one_said after_b said more rest rest_b (subst P same is) is_b in
    let lengths = ap length one.1 in
    let number = one.0 in
    cc

-- two faults of octets that are framed
both_framed : (octets : List ℕ) (d e : PacketFault) → IsFirstPacketFault octets d → IsFirstPacketFault octets e → (d ≡ faults.Body) ⊎ (d ≡ faults.Memory) → (e ≡ faults.Body) ⊎ (e ≡ faults.Memory) → d ≡ e
both_framed octets d e p q (inl x) (inl y) = cc
both_framed octets d e p q (inr x) (inr y) = cc
both_framed octets d e p q (inl x) (inr y) =
    let P : PacketFault → Type 0 = λ z. IsFirstPacketFault octets z in
    let memory = subst P y q in
    absurd ((subst P x p).1 memory.0 memory.1.0 memory.1.1)
both_framed octets d e p q (inr x) (inl y) =
    let P : PacketFault → Type 0 = λ z. IsFirstPacketFault octets z in
    let memory = subst P x p in
    absurd ((subst P y q).1 memory.0 memory.1.0 memory.1.1)

-- a fault of octets that are framed is of their body
framed_both : (octets : List ℕ) (d e : PacketFault) (header : Header) (body : List ℕ) → IsPacketFramed octets (header_octet header) body → IsFirstPacketFault octets d → IsFirstPacketFault octets e → d ≡ e
framed_both octets d e header body f p q = both_framed octets d e p q (framed_fault octets header body d f p) (framed_fault octets header body e f q)

same_found : (octets : List ℕ) (d e : PacketFault) → IsFirstPacketFault octets d → IsFirstPacketFault octets e → Found octets d → Found octets e → d ≡ e
same_found octets d e p q (nowhere none x) (nowhere also y) = cc
same_found octets d e p q (nowhere none x) (in_head h) = let begins = h.2 in absurd cc
same_found octets d e p q (nowhere none x) (in_length h) = let begins = h.2 in absurd cc
same_found octets d e p q (nowhere none x) (in_size said held y h) = let begins = h.3 in absurd cc
same_found octets d e p q (in_head g) (nowhere none y) = let begins = g.2 in absurd cc
same_found octets d e p q (in_length g) (nowhere none y) = let begins = g.2 in absurd cc
same_found octets d e p q (in_size said held x g) (nowhere none y) = let begins = g.3 in absurd cc
same_found octets d e p q (in_head g) (in_head h) = same_head octets d e g h
same_found octets d e p q (in_head g) (in_length h) = absurd (head_or_header octets d h.0 h.1 g h.2)
same_found octets d e p q (in_head g) (in_size said held y h) = absurd (head_or_header octets d h.0 h.1 g h.3)
same_found octets d e p q (in_length g) (in_head h) = absurd (head_or_header octets e g.0 g.1 h g.2)
same_found octets d e p q (in_size said held x g) (in_head h) = absurd (head_or_header octets e g.0 g.1 h g.3)
same_found octets d e p q (in_length g) (in_length h) = same_then octets d e g h
same_found octets d e p q (in_length g) (in_size said held y h) = absurd (length_or_size octets d said held g h)
same_found octets d e p q (in_size said held x g) (in_length h) = absurd (length_or_size octets e said held h g)
same_found octets d e p q (in_size said held x g) (in_size more other y h) = let same = same_size octets said held more other g h in cc
same_found octets d e p q (in_body header body f) h = framed_both octets d e header body f p q
same_found octets d e p q g (in_body header body f) = framed_both octets d e header body f p q

pub one_first_fault : (octets : List ℕ) (d e : PacketFault) → IsFirstPacketFault octets d → IsFirstPacketFault octets e → d ≡ e
one_first_fault octets d e p q = same_found octets d e p q (found octets d p) (found octets e q)
