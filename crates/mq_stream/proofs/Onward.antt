-- What is read of a stream, and then of its rest with more octets, is read of all of them.
use Rattle.std.proofs.Common.{◌≡◌, ◌∙◌, ◌+◌, ◌-◌, ◌≤◌, ℕ, zero, suc, List, [], ◌∷◌, ◌++◌, length, take, drop, refl, sym, ap, subst, append_assoc, length-append, arith}
use Rattle.mq_packet.specs.declared.packet.Packet.{Packet}
use Rattle.mq_packet.specs.Grammar.{length_in}
use Rattle.mq_stream.specs.Pieces.{IsPiece, ReadsPackets, SaysPacket, held}

-- ---- lists

dropped-length : (k : ℕ) (xs : List ℕ) → length (drop k xs) ≡ length xs - k
dropped-length zero xs =
    let e : length xs - 0 ≡ length xs = omega arith in
    sym e
dropped-length (suc k) [] =
    let e : 0 - suc k ≡ 0 = omega arith in
    sym e
dropped-length (suc k) (x ∷ xs) =
    let deeper : length (drop k xs) ≡ length xs - k = dropped-length k xs in
    let e : length (x ∷ xs) - suc k ≡ length xs - k = omega arith in
    deeper ∙ sym e

take-front : (k : ℕ) (xs ys : List ℕ) → k ≤ length xs → take k (xs ++ ys) ≡ take k xs
take-front zero xs ys h = refl
take-front (suc k) [] ys h = absurd (omega arith)
take-front (suc k) (x ∷ xs) ys h =
    let less : k ≤ length xs = omega arith in
    ap (λ zs. x ∷ zs) (take-front k xs ys less)

drop-joined : (k : ℕ) (xs ys : List ℕ) → k ≤ length xs → drop k (xs ++ ys) ≡ drop k xs ++ ys
drop-joined zero xs ys h = refl
drop-joined (suc k) [] ys h = absurd (omega arith)
drop-joined (suc k) (x ∷ xs) ys h =
    let less : k ≤ length xs = omega arith in
    drop-joined k xs ys less

-- what is still to be passed over of octets is passed over of those after them
passed-on : (over : ℕ) (xs ys : List ℕ) → drop (over - length xs) (drop over xs ++ ys) ≡ drop over (xs ++ ys)
passed-on zero xs ys =
    let e : 0 - length xs ≡ 0 = omega arith in
    ap (λ n. drop n (xs ++ ys)) e
passed-on (suc k) [] ys =
    let e : suc k - 0 ≡ suc k = omega arith in
    ap (λ n. drop n ys) e
passed-on (suc k) (x ∷ xs) ys =
    let e : suc k - length (x ∷ xs) ≡ k - length xs = omega arith in
    ap (λ n. drop n (drop k xs ++ ys)) e ∙ passed-on k xs ys

count-on : (over : ℕ) (xs ys : List ℕ) → over - length xs - length (drop over xs ++ ys) ≡ over - length (xs ++ ys)
count-on over xs ys =
    let kept : length (drop over xs) ≡ length xs - over = dropped-length over xs in
    let later : length (drop over xs ++ ys) ≡ length (drop over xs) + length ys = length-append (drop over xs) ys in
    let all : length (xs ++ ys) ≡ length xs + length ys = length-append xs ys in
    omega arith

-- ---- pieces

-- a packet in front of octets is in front of these and more
piece-longer : (octets : List ℕ) (p : Packet) (over : ℕ) (rest ys : List ℕ) → IsPiece octets p over rest → IsPiece (octets ++ ys) p over (rest ++ ys)
piece-longer octets p over rest ys i =
    let sum : length (i.body ++ ys) ≡ length i.body + length ys = length-append i.body ys in
    let few : held i.said ≤ length i.body = i.there in
    record {
      first = i.first;
      said = i.said;
      body = i.body ++ ys;
      head = record {
        after = i.head.after ++ ys;
        begins = ap (λ zs. zs ++ ys) i.head.begins;
        says = record {
          more = i.head.says.more;
          few = i.head.says.few;
          fits = i.head.says.fits;
          spelled = ap (λ zs. zs ++ ys) i.head.says.spelled ∙ append_assoc (length_in i.head.says.more i.said) i.body ys;
        };
      };
      there = omega arith;
      says = subst (λ zs. SaysPacket i.first zs p) (sym (take-front (held i.said) i.body ys few)) i.says;
      left = i.left;
      follows = ap (λ zs. zs ++ ys) i.follows ∙ sym (drop-joined (held i.said) i.body ys few);
    }

-- ---- streams

passed-reads : (over : ℕ) (xs ys : List ℕ) (more : List Packet) (last : ℕ) (tail : List ℕ)
    → ReadsPackets (over - length xs) (drop over xs ++ ys) more last tail → ReadsPackets over (xs ++ ys) more last tail
passed-reads over xs ys [] last tail h = (h.0 ∙ count-on over xs ys, h.1 ∙ passed-on over xs ys)
passed-reads over xs ys (p ∷ ps) last tail h =
    (h.0, h.1, subst (λ zs. IsPiece zs p h.0 h.1) (passed-on over xs ys) h.2, h.3)

pub reads-on : (over left last : ℕ) (first second rest tail : List ℕ) (packets more : List Packet)
    → ReadsPackets over first packets left rest → ReadsPackets left (rest ++ second) more last tail → ReadsPackets over (first ++ second) (packets ++ more) last tail
reads-on over left last first second rest tail [] more h k =
    let P : ℕ → Type 0 = λ n. ReadsPackets n (rest ++ second) more last tail in
    let Q : List ℕ → Type 0 = λ zs. ReadsPackets (over - length first) (zs ++ second) more last tail in
    passed-reads over first second more last tail (subst Q h.1 (subst P h.0 k))
reads-on over left last first second rest tail (p ∷ ps) more h k =
    let there : length (drop over first) ≡ length first - over = dropped-length over first in
    let sizes : length (drop over first) ≡ length (h.2.first ∷ h.2.head.after) = ap (λ zs. length zs) h.2.head.begins in
    let few : over ≤ length first = omega arith in
    let longer : IsPiece (drop over first ++ second) p h.0 (h.1 ++ second) = piece-longer (drop over first) p h.0 h.1 second h.2 in (
      h.0,
      h.1 ++ second,
      subst (λ zs. IsPiece zs p h.0 (h.1 ++ second)) (sym (drop-joined over first second few)) longer,
      reads-on h.0 left last h.1 second rest tail ps more h.3 k,
    )
