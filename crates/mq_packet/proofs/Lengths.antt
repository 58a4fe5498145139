-- what Remaining Length says, and that it says nothing else
use Rattle.std.proofs.Common.{◌≡◌, ℕ, zero, suc, ◌+◌, ◌*◌, ◌/◌, ◌%◌, ◌^◌, ◌<◌, ◌≤◌, inl, inr, ltb, List, ◌++◌, length, take, refl, ap, sym, subst, ◌∙◌, add-one, length-append, arith}
use Rattle.std.proofs.Math.Nat.{pow-succ'}
use Rattle.std.proofs.lemmas.Bool.{lt-ltb, le-ltb, cases_lt}
use Rattle.mq_packet.specs.declared.fault.PacketFault.{PacketFault}
use Rattle.mq_packet.specs.declared.fault.PacketFault.TheVariants as faults
use Rattle.mq_packet.specs.Faults.{AreOpen, IsLengthFault}
use Rattle.mq_packet.specs.Grammar.{IsSaid, fewest, length_in}
use Rattle.mq_packet.proofs.Numbers.{chosen, otherwise}

-- an octet more says 128 times as much
limit_step : (more : ℕ) → 128 ^ (suc more + 1) ≡ 128 * 128 ^ (more + 1)
limit_step more = rw (add-one, add-one, pow-succ') refl

below_step : (n more : ℕ) → n < 128 ^ (suc more + 1) → n / 128 < 128 ^ (more + 1)
below_step n more h = let e = limit_step more in omega arith

-- the digits of two numbers are the same only if the numbers are
same_number : (m n : ℕ) → m % 128 + 128 ≡ n % 128 + 128 → m / 128 ≡ n / 128 → m ≡ n
same_number m n low high = omega arith

-- octets begin with one number alone, and one rest follows it
same_said : (j k m n : ℕ) (a b : List ℕ) → m < 128 ^ (j + 1) → n < 128 ^ (k + 1) → length_in j m ++ a ≡ length_in k n ++ b → (m ≡ n) × (a ≡ b)
same_said zero zero m n a b small few e = (cc, cc)
same_said zero (suc k) m n a b small few e = let head : m ≡ n % 128 + 128 = cc in absurd (omega arith)
same_said (suc j) zero m n a b small few e = let head : m % 128 + 128 ≡ n = cc in absurd (omega arith)
same_said (suc j) (suc k) m n a b small few e =
    let head : m % 128 + 128 ≡ n % 128 + 128 = cc in
    let tail : length_in j (m / 128) ++ a ≡ length_in k (n / 128) ++ b = cc in
    let deeper = same_said j k (m / 128) (n / 128) a b (below_step m j small) (below_step n k few) tail in
    (same_number m n head deeper.0, deeper.1)

pub one_said : (octets : List ℕ) (m n : ℕ) (a b : List ℕ) → IsSaid octets m a → IsSaid octets n b → (m ≡ n) × (a ≡ b)
one_said octets m n a b p q =
    let e = p.spelled in
    let d = q.spelled in
    same_said p.more q.more m n a b p.fits q.fits cc

-- a number has an octet that no other follows
not_open : (k n : ℕ) (rest : List ℕ) → n < 128 ^ (k + 1) → AreOpen (length_in k n ++ rest) → ⊥
not_open zero n rest few h = let first = h.0 in omega arith
not_open (suc k) n rest few h = not_open k (n / 128) rest (below_step n k few) h.1

not_open_front : (k j n : ℕ) (rest : List ℕ) → k < j → n < 128 ^ (k + 1) → AreOpen (take j (length_in k n ++ rest)) → ⊥
not_open_front k zero n rest below few h = omega arith
not_open_front zero (suc j) n rest below few h = let first = h.0 in omega arith
not_open_front (suc k) (suc j) n rest below few h = not_open_front k j (n / 128) rest (omega arith) (below_step n k few) h.1

-- so where it is wrong nothing is said
pub said_or_fault : (octets : List ℕ) (n : ℕ) (rest : List ℕ) (fault : PacketFault) → IsSaid octets n rest → IsLengthFault octets fault → ⊥
said_or_fault octets n rest faults.Short s h =
    let P : List ℕ → Type 0 = λ x. AreOpen x in
    not_open s.more n rest s.fits (subst P s.spelled h.1)
said_or_fault octets n rest faults.TooLong s h =
    let P : List ℕ → Type 0 = λ x. AreOpen (take 4 x) in
    not_open_front s.more 4 n rest s.few s.fits (subst P s.spelled h.1)
said_or_fault octets n rest (faults.UnknownType octet) s h = h
said_or_fault octets n rest (faults.QosTwo octet) s h = h
said_or_fault octets n rest (faults.Flags octet) s h = h
said_or_fault octets n rest (faults.Length said held) s h = h
said_or_fault octets n rest faults.Body s h = h
said_or_fault octets n rest faults.Memory s h = h

-- how many octets a number has
length-length_in : (k n : ℕ) → length (length_in k n) ≡ k + 1
length-length_in zero n = refl
length-length_in (suc k) n = let deeper = length-length_in k (n / 128) in omega arith

-- the fewest octets, by the size
fewest_none : (n : ℕ) → n < 128 → fewest n ≡ 0
fewest_none n h = chosen (ltb n 128) 0 _ (lt-ltb n 128 h)

fewest_one : (n : ℕ) → 128 ≤ n → n < 16384 → fewest n ≡ 1
fewest_one n l h = otherwise (ltb n 128) 0 _ (le-ltb n 128 l) ∙ chosen (ltb n 16384) 1 _ (lt-ltb n 16384 h)

fewest_two : (n : ℕ) → 16384 ≤ n → n < 2097152 → fewest n ≡ 2
fewest_two n l h =
    otherwise (ltb n 128) 0 _ (le-ltb n 128 (omega arith)) ∙ otherwise (ltb n 16384) 1 _ (le-ltb n 16384 l) ∙ chosen (ltb n 2097152) 2 3 (lt-ltb n 2097152 h)

fewest_three : (n : ℕ) → 2097152 ≤ n → fewest n ≡ 3
fewest_three n l =
    otherwise (ltb n 128) 0 _ (le-ltb n 128 (omega arith)) ∙ otherwise (ltb n 16384) 1 _ (le-ltb n 16384 (omega arith)) ∙ otherwise (ltb n 2097152) 2 3 (le-ltb n 2097152 l)

-- a size that fits is said in its fewest octets
fits_at : (k n : ℕ) (rest : List ℕ) → fewest n ≡ k → k < 4 → n < 128 ^ (k + 1) → IsSaid (length_in (fewest n) n ++ rest) n rest
fits_at k n rest e few fits =
    let P : ℕ → Type 0 = λ f. IsSaid (length_in f n ++ rest) n rest in
    subst P (sym e) (record { more = k; few = few; fits = fits; spelled = refl })

pub fewest_said : (n : ℕ) (rest : List ℕ) → n ≤ 268435455 → IsSaid (length_in (fewest n) n ++ rest) n rest
fewest_said n rest h =
    elim (cases_lt n 128) [
      | inl a ↦ fits_at 0 n rest (fewest_none n a) (omega arith) a
      | inr a ↦ elim (cases_lt n 16384) [
        | inl b ↦ fits_at 1 n rest (fewest_one n a b) (omega arith) b
        | inr b ↦ elim (cases_lt n 2097152) [
          | inl c ↦ fits_at 2 n rest (fewest_two n b c) (omega arith) c
          | inr c ↦ fits_at 3 n rest (fewest_three n c) (omega arith) (omega arith)
        ]
      ]
    ]

-- a size that is said fits in four octets
said_at : (k n : ℕ) → k < 4 → n < 128 ^ (k + 1) → n ≤ 268435455
said_at zero n few h = omega arith
said_at (suc zero) n few h = omega arith
said_at (suc (suc zero)) n few h = omega arith
said_at (suc (suc (suc zero))) n few h = omega arith
said_at (suc (suc (suc (suc k)))) n few h = absurd (omega arith)

pub said_fits : (octets : List ℕ) (n : ℕ) (rest : List ℕ) → IsSaid octets n rest → n ≤ 268435455
said_fits octets n rest s = said_at s.more n s.few s.fits

-- and in no fewer octets than its fewest
at_most_one : (n : ℕ) → n < 16384 → fewest n ≤ 1
at_most_one n h =
    elim (cases_lt n 128) [
      | inl a ↦ let e = fewest_none n a in omega arith
      | inr a ↦ let e = fewest_one n a h in omega arith
    ]

at_most_two : (n : ℕ) → n < 2097152 → fewest n ≤ 2
at_most_two n h =
    elim (cases_lt n 16384) [
      | inl a ↦ let e = at_most_one n a in omega arith
      | inr a ↦ let e = fewest_two n a h in omega arith
    ]

at_most_three : (n : ℕ) → fewest n ≤ 3
at_most_three n =
    elim (cases_lt n 2097152) [
      | inl a ↦ let e = at_most_two n a in omega arith
      | inr a ↦ let e = fewest_three n a in omega arith
    ]

fewest_least : (k n : ℕ) → n < 128 ^ (k + 1) → fewest n ≤ k
fewest_least zero n h = let e = fewest_none n h in omega arith
fewest_least (suc zero) n h = at_most_one n h
fewest_least (suc (suc zero)) n h = at_most_two n h
fewest_least (suc (suc (suc k))) n h = let e = at_most_three n in omega arith

pub fewest_shortest : (octets : List ℕ) (n : ℕ) (rest : List ℕ) → IsSaid octets n rest → length (length_in (fewest n) n ++ rest) ≤ length octets
fewest_shortest octets n rest s =
    let least = fewest_least s.more n s.fits in
    let own = length-length_in (fewest n) n in
    let other = length-length_in s.more n in
    let whole = length-append (length_in (fewest n) n) rest in
    let said = ap length s.spelled ∙ length-append (length_in s.more n) rest in
    omega arith

pub fewest_only : (octets : List ℕ) (n : ℕ) (rest : List ℕ) → IsSaid octets n rest → length octets ≡ length (length_in (fewest n) n ++ rest) → octets ≡ length_in (fewest n) n ++ rest
fewest_only octets n rest s e =
    let own = length-length_in (fewest n) n in
    let other = length-length_in s.more n in
    let whole = length-append (length_in (fewest n) n) rest in
    let said = ap length s.spelled ∙ length-append (length_in s.more n) rest in
    let same : s.more ≡ fewest n = omega arith in
    let P : ℕ → Type 0 = λ k. octets ≡ length_in k n ++ rest in
    subst P same s.spelled
