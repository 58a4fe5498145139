-- the parts of bodies: what was read has the octets that it was read from, and each part reads as it
use Rattle.std.proofs.Common.{◌≡◌, ℕ, suc, ◌/◌, ◌%◌, ◌<◌, ◌≤◌, ◌==◌, Bool, true, false, cond, leb, List, [], ◌∷◌, ◌++◌, length, take, drop, Option, Some, None, refl, ap, sym, subst, ◌∙◌, arith}
use Rattle.std.proofs.lemmas.Bool.{le-leb, leb-true, eqb-true, eqb-false, ne_eqb}
use Rattle.std.proofs.lemmas.List.{take-append-drop, length-take-le, nil_from_length, take_at, drop_at, length-append}
use Rattle.std.proofs.lemmas.Option.{cond_some}
use Rattle.byteorder.specs.Endian.{big_bytes}
use Rattle.mq_packet.specs.declared.packet.Qos.{Qos}
use Rattle.mq_packet.specs.declared.packet.Qos.TheVariants as levels
use Rattle.mq_packet.specs.Bodies.{data_octets, grant_number, qos_number, IsId, IsSixteenBits}
use Rattle.mq_packet.specs.Text.{IsData}
use Rattle.mq_packet.specs.inner.Reading.{◌>>=◌, grant_at, number_of_two, only_id, qos_of_number, read_data, read_data_if, read_id, read_one_octet}
use Rattle.mq_packet.proofs.Numbers.{IsBytes, bytes-drop, chosen, octets-number, number-fits, number-octets, otherwise}

-- what is read on from something that was read
pub some_bound : {A B : Type 0} (x : Option A) (f : A → Option B) (y : B) → (x >>= f) ≡ Some y → (a : A) × (x ≡ Some a) × (f a ≡ Some y)
some_bound None f y h = cc
some_bound (Some a) f y h = (a, refl, h)

pub bound : {A B : Type 0} (x : Option A) (f : A → Option B) (a : A) (y : Option B) → x ≡ Some a → f a ≡ y → (x >>= f) ≡ y
bound {A} x f a y e d =
    let P : Option A → Type 0 = λ o. (o >>= f) ≡ y in
    subst P (sym e) d

-- a choice of nothing failed its test
pub cond_none : {A : Type 0} (b : Bool) (x y : A) → cond b None (Some x) ≡ Some y → (b ≡ false) × (x ≡ y)
cond_none true x y h = cc
cond_none false x y h = (refl, cc)

-- the octets are this string or data with its length, and what follows
pub record Takes (bytes : List ℕ) (x : List ℕ × List ℕ) : Type 0 where
  pub whole : bytes ≡ data_octets x.0 ++ x.1
  pub short : IsData x.0
  pub rest : IsBytes x.1

data_whole : (high low : ℕ) (rest : List ℕ) → high < 256 → low < 256 → number_of_two high low ≤ length rest
    → high ∷ low ∷ rest ≡ data_octets (take (number_of_two high low) rest) ++ drop (number_of_two high low) rest
data_whole high low rest h l fits =
    let n : ℕ = number_of_two high low in
    let P : ℕ → Type 0 = λ k. high ∷ low ∷ rest ≡ (big_bytes 2 k ++ take (number_of_two high low) rest) ++ drop (number_of_two high low) rest in
    let Q : List ℕ → Type 0 = λ two. high ∷ low ∷ rest ≡ (two ++ take (number_of_two high low) rest) ++ drop (number_of_two high low) rest in
    subst P (sym (length-take-le (number_of_two high low) rest fits)) (subst Q (sym (octets-number high low h l)) (ap (λ r. high ∷ low ∷ r) (sym (take-append-drop (number_of_two high low) rest))))

data_at : (high low : ℕ) (rest : List ℕ) (x : List ℕ × List ℕ) → IsBytes (high ∷ low ∷ rest)
    → cond (leb (number_of_two high low) (length rest)) (Some (take (number_of_two high low) rest, drop (number_of_two high low) rest)) None ≡ Some x → Takes (high ∷ low ∷ rest) x
data_at high low rest x b h =
    let pair : List ℕ × List ℕ = (take (number_of_two high low) rest, drop (number_of_two high low) rest) in
    let found = cond_some (leb (number_of_two high low) (length rest)) pair x h in
    let fits = leb-true (number_of_two high low) (length rest) found.0 in
    let small = number-fits high low (b 0) (b 1) in
    let size = length-take-le (number_of_two high low) rest fits in
    let P : List ℕ × List ℕ → Type 0 = λ y. Takes (high ∷ low ∷ rest) y in
    let all : IsBytes rest = λ i. b (suc (suc i)) in
    subst P found.1 (record { whole = data_whole high low rest (b 0) (b 1) fits; short = omega arith; rest = bytes-drop (number_of_two high low) rest all })

pub data_taken : (bytes : List ℕ) (x : List ℕ × List ℕ) → IsBytes bytes → read_data bytes ≡ Some x → Takes bytes x
data_taken [] x b h = cc
data_taken (high ∷ []) x b h = cc
data_taken (high ∷ low ∷ rest) x b h = data_at high low rest x b h

-- two pairs are the same if their parts are
same_pair : (a b c d : List ℕ) → a ≡ c → b ≡ d → ◌≡◌ {A = Option (List ℕ × List ℕ)} (Some (a, b)) (Some (c, d))
same_pair a b c d p q =
    let P : List ℕ → Type 0 = λ x. ◌≡◌ {A = Option (List ℕ × List ℕ)} (Some (a, b)) (Some (x, b)) in
    let Q : List ℕ → Type 0 = λ y. ◌≡◌ {A = Option (List ℕ × List ℕ)} (Some (a, b)) (Some (c, y)) in
    subst Q q (subst P p refl)

-- so many octets, and the others
abbrev data_by : ℕ → List ℕ → Option (List ℕ × List ℕ)
data_by n octets = cond (leb n (length octets)) (Some (take n octets, drop n octets)) None

-- a string or data with its length reads as it, whatever follows
pub data_again : (octets rest : List ℕ) → IsData octets → read_data (data_octets octets ++ rest) ≡ Some (octets, rest)
data_again octets rest h =
    let size : number_of_two (length octets / 256 % 256) (length octets % 256) ≡ length octets = number-octets (length octets) (omega arith) in
    let whole = length-append octets rest in
    let found : Option (List ℕ × List ℕ) = Some (octets, rest) in
    let P : ℕ → Type 0 = λ n. data_by n (octets ++ rest) ≡ found in
    let fits : leb (length octets) (length (octets ++ rest)) ≡ true = le-leb (length octets) (length (octets ++ rest)) (omega arith) in
    let front = take_at octets rest (length octets) refl in
    let back = drop_at octets rest (length octets) refl in
    subst P (sym size)
    (chosen (leb (length octets) (length (octets ++ rest))) _ None fits
    ∙ same_pair (take (length octets) (octets ++ rest)) (drop (length octets) (octets ++ rest)) octets rest front back)

-- the octets of what the flags say is there
abbrev pub data_if : Bool → List ℕ → List ℕ
data_if true octets = data_octets octets
data_if false octets = []

pub record TakesIf (test : Bool) (bytes : List ℕ) (x : List ℕ × List ℕ) : Type 0 where
  pub whole : bytes ≡ data_if test x.0 ++ x.1
  pub short : IsData x.0
  pub rest : IsBytes x.1

pub data_if_taken : (test : Bool) (bytes : List ℕ) (x : List ℕ × List ℕ) → IsBytes bytes → read_data_if test bytes ≡ Some x → TakesIf test bytes x
data_if_taken true bytes x b h =
    let taken = data_taken bytes x b h in
    record { whole = taken.whole; short = taken.short; rest = taken.rest }
data_if_taken false bytes x b h =
    let none : List ℕ × List ℕ = ([], bytes) in
    let same : none ≡ x = cc in
    let P : List ℕ × List ℕ → Type 0 = λ y. TakesIf false bytes y in
    subst P same (record { whole = refl; short = omega arith; rest = b })

pub data_if_again : (test : Bool) (octets rest : List ℕ) → IsData octets → (test ≡ false → octets ≡ []) → read_data_if test (data_if test octets ++ rest) ≡ Some (octets, rest)
data_if_again true octets rest h none = data_again octets rest h
data_if_again false octets rest h none = let empty = none refl in cc

-- the octets are this packet id, and what follows
pub record TakesId (bytes : List ℕ) (x : ℕ × List ℕ) : Type 0 where
  pub whole : bytes ≡ big_bytes 2 x.0 ++ x.1
  pub id : IsId x.0
  pub number : IsSixteenBits x.0
  pub rest : IsBytes x.1

id_at : (high low : ℕ) (rest : List ℕ) (x : ℕ × List ℕ) → IsBytes (high ∷ low ∷ rest)
    → cond (number_of_two high low == 0) None (Some (number_of_two high low, rest)) ≡ Some x → TakesId (high ∷ low ∷ rest) x
id_at high low rest x b h =
    let pair : ℕ × List ℕ = (number_of_two high low, rest) in
    let found = cond_none (number_of_two high low == 0) pair x h in
    let some = eqb-false (number_of_two high low) 0 found.0 in
    let cells = octets-number high low (b 0) (b 1) in
    let P : ℕ × List ℕ → Type 0 = λ y. TakesId (high ∷ low ∷ rest) y in
    let all : IsBytes rest = λ i. b (suc (suc i)) in
    subst P found.1 (record { whole = ap (λ two. two ++ rest) (sym cells); id = omega arith; number = number-fits high low (b 0) (b 1); rest = all })

pub id_taken : (bytes : List ℕ) (x : ℕ × List ℕ) → IsBytes bytes → read_id bytes ≡ Some x → TakesId bytes x
id_taken [] x b h = cc
id_taken (high ∷ []) x b h = cc
id_taken (high ∷ low ∷ rest) x b h = id_at high low rest x b h

abbrev id_by : ℕ → List ℕ → Option (ℕ × List ℕ)
id_by n rest = cond (n == 0) None (Some (n, rest))

pub id_again : (id : ℕ) (rest : List ℕ) → IsId id → IsSixteenBits id → read_id (big_bytes 2 id ++ rest) ≡ Some (id, rest)
id_again id rest some fits =
    let size : number_of_two (id / 256 % 256) (id % 256) ≡ id = number-octets id fits in
    let found : Option (ℕ × List ℕ) = Some (id, rest) in
    let P : ℕ → Type 0 = λ n. id_by n rest ≡ found in
    let not_zero : (id == 0) ≡ false = ne_eqb id 0 (λ e. omega arith) in
    subst P (sym size) (otherwise (id == 0) None _ not_zero)

-- a packet id and nothing else
pub record TakesOnly (bytes : List ℕ) (n : ℕ) : Type 0 where
  pub whole : bytes ≡ big_bytes 2 n
  pub id : IsId n
  pub number : IsSixteenBits n

only_at : (bytes rest : List ℕ) (first id : ℕ) → TakesId bytes (first, rest) → cond (length rest == 0) (Some first) None ≡ Some id → TakesOnly bytes id
only_at bytes rest first id t h =
    let found = cond_some (length rest == 0) first id h in
    let empty = nil_from_length rest (eqb-true (length rest) 0 found.0) in
    let P : ℕ → Type 0 = λ n. TakesOnly bytes n in
    let Q : List ℕ → Type 0 = λ r. bytes ≡ big_bytes 2 first ++ r in
    subst P found.1 (record { whole = subst Q empty t.whole; id = t.id; number = t.number })

pub only_taken : (bytes : List ℕ) (id : ℕ) → IsBytes bytes → (read_id bytes >>= only_id) ≡ Some id → TakesOnly bytes id
only_taken bytes id b h =
    let first = some_bound (read_id bytes) only_id id h in
    only_at bytes first.0.1 first.0.0 id (id_taken bytes first.0 b first.1) first.2

pub only_again : (id : ℕ) → IsId id → IsSixteenBits id → (read_id (big_bytes 2 id) >>= only_id) ≡ Some id
only_again id some fits = bound (read_id (big_bytes 2 id ++ [])) only_id (id, []) (Some id) (id_again id [] some fits) refl

-- one octet and nothing else
pub octet_taken : (bytes : List ℕ) (octet : ℕ) → read_one_octet bytes ≡ Some octet → bytes ≡ octet ∷ []
octet_taken [] octet h = cc
octet_taken (x ∷ []) octet h = cc
octet_taken (x ∷ y ∷ more) octet h = cc

-- a quality of service that was read has its number
qos_by : (zero one : Bool) (n : ℕ) (qos : Qos) → (n == 0) ≡ zero → (n == 1) ≡ one → cond zero (Some levels.Zero) (cond one (Some levels.One) None) ≡ Some qos → qos_number qos ≡ n
qos_by true one n levels.Zero e d h = sym (eqb-true n 0 e)
qos_by true one n levels.One e d h = cc
qos_by false true n levels.Zero e d h = cc
qos_by false true n levels.One e d h = sym (eqb-true n 1 d)
qos_by false false n qos e d h = cc

pub qos_taken : (n : ℕ) (qos : Qos) → qos_of_number n ≡ Some qos → qos_number qos ≡ n
qos_taken n qos h = qos_by (n == 0) (n == 1) n qos refl refl h

pub qos_again : (qos : Qos) → qos_of_number (qos_number qos) ≡ Some qos
qos_again levels.Zero = refl
qos_again levels.One = refl

-- and so has a return code of SUBACK
grant_by : (none : Bool) (n : ℕ) (found : Option Qos) (granted : Option Qos) → (n == 0x80) ≡ none → qos_of_number n ≡ found
    → cond none (Some None) (found >>= λ qos. Some (Some qos)) ≡ Some granted → grant_number granted ≡ n
grant_by true n found None e d h = sym (eqb-true n 0x80 e)
grant_by true n found (Some qos) e d h = cc
grant_by false n None granted e d h = cc
grant_by false n (Some qos) granted e d h =
    let same : Some qos ≡ granted = cc in
    let P : Option Qos → Type 0 = λ g. grant_number g ≡ n in
    subst P same (qos_taken n qos d)

pub grant_taken : (n : ℕ) (granted : Option Qos) → grant_at n ≡ Some granted → grant_number granted ≡ n
grant_taken n granted h = grant_by (n == 0x80) n (qos_of_number n) granted refl refl h

pub grant_again : (granted : Option Qos) → grant_at (grant_number granted) ≡ Some granted
grant_again None = refl
grant_again (Some levels.Zero) = refl
grant_again (Some levels.One) = refl
