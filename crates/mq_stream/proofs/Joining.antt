-- One packet after the other is read of a stream, and what is left gets shorter.
use Rattle.std.proofs.Common.{◌≡◌, ◌∙◌, ◌+◌, ◌-◌, ◌<◌, ◌≤◌, ℕ, zero, suc, List, [], ◌∷◌, ◌++◌, length, take, drop, refl, sym, ap, subst, append_assoc, length-append, arith}
use Rattle.mq_packet.specs.declared.packet.Packet.{Packet}
use Rattle.mq_packet.specs.Grammar.{length_in}
use Rattle.mq_stream.specs.Pieces.{IsPiece, ReadsPackets, held}

-- one packet more has been read
pub reads-more : (over : ℕ) (octets : List ℕ) (packets : List Packet) (left : ℕ) (rest : List ℕ) (p : Packet) (next : ℕ) (after : List ℕ) (more : ℕ) (end : List ℕ)
    → ReadsPackets over octets packets left rest → IsPiece rest p next after → more ≡ next - length after → end ≡ drop next after
    → ReadsPackets over octets (packets ++ p ∷ []) more end
reads-more over octets [] left rest p next after more end h piece few behind =
    (next, after, subst (λ zs. IsPiece zs p next after) h.1 piece, (few, behind))
reads-more over octets (q ∷ qs) left rest p next after more end h piece few behind =
    (h.0, h.1, h.2, reads-more h.0 h.1 qs left rest p next after more end h.3 piece few behind)

-- octets are the end of others
pub record IsEnd (octets rest : List ℕ) : Type 0 where
  pub front : List ℕ
  pub joined : octets ≡ front ++ rest

drop-parts : (k : ℕ) (xs : List ℕ) → xs ≡ take k xs ++ drop k xs
drop-parts zero xs = refl
drop-parts (suc k) [] = refl
drop-parts (suc k) (x ∷ xs) = ap (λ zs. x ∷ zs) (drop-parts k xs)

pub dropped-end : (octets rest : List ℕ) (k : ℕ) → rest ≡ drop k octets → IsEnd octets rest
dropped-end octets rest k e =
    record { front = take k octets; joined = drop-parts k octets ∙ ap (λ zs. take k octets ++ zs) (sym e) }

pub end-of-end : (a b c : List ℕ) → IsEnd a b → IsEnd b c → IsEnd a c
end-of-end a b c h k =
    record { front = h.front ++ k.front; joined = h.joined ∙ ap (λ zs. h.front ++ zs) k.joined ∙ sym (append_assoc h.front k.front c) }

piece-parts : (octets : List ℕ) (p : Packet) (over : ℕ) (rest : List ℕ) (i : IsPiece octets p over rest)
    → octets ≡ i.first ∷ ((length_in i.head.says.more i.said ++ take (held i.said) i.body) ++ rest)
piece-parts octets p over rest i =
    let L : List ℕ = length_in i.head.says.more i.said in
    let parts : i.body ≡ take (held i.said) i.body ++ rest = drop-parts (held i.said) i.body ∙ ap (λ zs. take (held i.said) i.body ++ zs) (sym i.follows) in
    i.head.begins ∙ ap (λ zs. i.first ∷ zs) (i.head.says.spelled ∙ ap (λ zs. L ++ zs) parts ∙ sym (append_assoc L (take (held i.said) i.body) rest))

pub piece-end : (octets : List ℕ) (p : Packet) (over : ℕ) (rest : List ℕ) → IsPiece octets p over rest → IsEnd octets rest
piece-end octets p over rest i =
    record { front = i.first ∷ (length_in i.head.says.more i.said ++ take (held i.said) i.body); joined = piece-parts octets p over rest i }

-- what is left is shorter
pub piece-shorter : (octets : List ℕ) (p : Packet) (over : ℕ) (rest : List ℕ) → IsPiece octets p over rest → length rest < length octets
piece-shorter octets p over rest i =
    let G : List ℕ = length_in i.head.says.more i.said ++ take (held i.said) i.body in
    let sizes : length octets ≡ length (i.first ∷ (G ++ rest)) = ap (λ zs. length zs) (piece-parts octets p over rest i) in
    let sum : length (G ++ rest) ≡ length G + length rest = length-append G rest in
    omega arith

pub end-length : (octets rest : List ℕ) → IsEnd octets rest → length rest ≤ length octets
end-length octets rest h =
    let sizes : length octets ≡ length h.front + length rest = ap (λ zs. length zs) h.joined ∙ length-append h.front rest in
    omega arith

drop-front : (xs ys : List ℕ) → drop (length xs) (xs ++ ys) ≡ ys
drop-front [] ys = refl
drop-front (x ∷ xs) ys = drop-front xs ys

-- and they are those behind as many as are in front
pub end-dropped : (octets rest : List ℕ) → IsEnd octets rest → rest ≡ drop (length octets - length rest) octets
end-dropped octets rest h =
    let sizes : length octets ≡ length h.front + length rest = ap (λ zs. length zs) h.joined ∙ length-append h.front rest in
    let place : length octets - length rest ≡ length h.front = omega arith in
    sym (ap (λ n. drop n octets) place ∙ ap (λ zs. drop (length h.front) zs) h.joined ∙ drop-front h.front rest)
