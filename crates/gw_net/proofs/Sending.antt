-- Octets that go out one part after the other.
use Rattle.std.proofs.Common.{◌≡◌, ℕ, zero, suc, ◌+◌, ◌-◌, ◌<◌, ◌≤◌, List, [], ◌∷◌, ◌++◌, take, drop, length, Option, Some, None, refl, sym, ap, subst, ◌∙◌, arith, append_assoc, append-nil}
use Rattle.std.specs.Io.KnownBytes.{Appends, Keeps}
use Rattle.std.proofs.lemmas.List.{length-append, take-append-le}
use Rattle.byteorder.specs.Endian.{big_bytes}
use Rattle.gw_net.specs.declared.fault.LinkOutFault.{LinkOutFault}
use Rattle.gw_net.specs.declared.fault.LinkOutFault.TheVariants.{Write, Memory}
use Rattle.gw_net.specs.declared.message.LinkMessage.{LinkMessage}
use Rattle.gw_net.specs.Messages.{message_kind, body_of_message, message_spelling}
use Rattle.gw_net.specs.Writing.{IsCutShort}
use Rattle.gw_net.specs.inner.Writing.{IsCutBehind}

pub appends-both : (a b c : Option (List ℕ)) (x y : List ℕ) → Appends a b x → Appends b c y → Appends a c (x ++ y)
appends-both None b c x y p q = tt
appends-both (Some a) None c x y p q = absurd p
appends-both (Some a) (Some b) None x y p q = absurd q
appends-both (Some a) (Some b) (Some c) x y p q = q ∙ ap (λ (z : List ℕ). z ++ y) p ∙ append_assoc a x y

abbrev no_octets : List ℕ
no_octets = []

take-none : (m : ℕ) → take m no_octets ≡ no_octets
take-none zero = refl
take-none (suc m) = refl

take-more : (n m : ℕ) (xs : List ℕ) → take n xs ++ take m (drop n xs) ≡ take (n + m) xs
take-more zero m xs = ap (λ k. take k xs) (let e : m ≡ 0 + m = omega arith in e)
take-more (suc n) m [] = take-none m ∙ sym (take-none (suc n + m))
take-more (suc n) m (x ∷ xs) = ap (λ r. x ∷ r) (take-more n m xs) ∙ ap (λ k. take k (x ∷ xs)) (let e : suc (n + m) ≡ suc n + m = omega arith in e)

pub appends-more : (a b c : Option (List ℕ)) (n m : ℕ) (xs : List ℕ) → Appends a b (take n xs) → Appends b c (take m (drop n xs)) → Appends a c (take (n + m) xs)
appends-more a b c n m xs p q = subst (λ (z : List ℕ). Appends a c z) (take-more n m xs) (appends-both a b c (take n xs) (take m (drop n xs)) p q)

-- cut short in the first part
pub cut_first : (old new : Option (List ℕ)) (head body : List ℕ) (f : LinkOutFault) → IsCutBehind 0 old new head f → IsCutShort old new (head ++ body) f
cut_first old new head body (Write written) h =
    let same : h.0 ≡ written = omega (arith, h.1) in
    let sum = length-append head body in
    let short : written < length head = omega (arith, h.1, h.2) in
    (omega (arith, short, sum), subst (λ (z : List ℕ). Appends old new z) (ap (λ n. take n head) same ∙ sym (take-append-le written head body (omega (arith, short)))) h.3)
cut_first old new head body Memory h = absurd h

take-behind : (head body : List ℕ) (n : ℕ) → take (length head + n) (head ++ body) ≡ head ++ take n body
take-behind [] body n = ap (λ k. take k body) (let e : 0 + n ≡ n = omega arith in e)
take-behind (x ∷ head) body n = ap (λ k. take k (x ∷ (head ++ body))) (let e : suc (length head) + n ≡ suc (length head + n) = omega arith in e) ∙ ap (λ r. x ∷ r) (take-behind head body n)

-- cut short in the second
pub cut_second : (old mid new : Option (List ℕ)) (head body : List ℕ) (f : LinkOutFault) → Appends old mid head → IsCutBehind (length head) mid new body f → IsCutShort old new (head ++ body) f
cut_second old mid new head body (Write written) first h =
    let sum = length-append head body in
    (omega (arith, h.1, h.2, sum), subst (λ (z : List ℕ). Appends old new z) (sym (ap (λ n. take n (head ++ body)) h.1 ∙ take-behind head body h.0)) (appends-both old mid new head (take h.0 body) first h.3))
cut_second old mid new head body Memory first h = absurd h

-- a message is its head and its body
pub headed : (m : LinkMessage) (head body : List ℕ) (size : ℕ) → body ≡ body_of_message m → size ≡ length body → head ≡ message_kind m ∷ big_bytes 4 size → head ++ body ≡ message_spelling m
headed m head body size is sized e = (λ i. e i ++ is i) ∙ ap (λ n. message_kind m ∷ (big_bytes 4 n ++ body_of_message m)) (sized ∙ ap length is)
