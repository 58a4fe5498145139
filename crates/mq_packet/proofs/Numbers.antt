-- octets, numbers of two octets, and choices by a test
use Rattle.std.proofs.Common.{◌≡◌, ℕ, ◌+◌, ◌*◌, ◌^◌, ◌/◌, ◌%◌, ◌<◌, Bool, true, false, cond, List, [], ◌∷◌, drop, get_or, refl, arith}
use Rattle.std.proofs.lemmas.List.{get_or-drop}
use Rattle.byteorder.specs.Endian.{big_bytes}
use Rattle.mq_packet.specs.inner.Reading.{number_of_two}

-- each octet is below 256
abbrev pub IsBytes : List ℕ → Type 0
IsBytes bytes = (i : ℕ) → get_or bytes i 0 < 256

-- and so is each after the first some
pub bytes-drop : (n : ℕ) (bytes : List ℕ) → IsBytes bytes → IsBytes (drop n bytes)
bytes-drop n bytes h = λ i. rw get_or-drop (h (n + i))

-- two octets make a number that has them
pub octets-number : (high low : ℕ) → high < 256 → low < 256 → big_bytes 2 (number_of_two high low) ≡ high ∷ low ∷ []
octets-number high low h l =
    let first : (high * 256 + low) / 256 % 256 ≡ high = omega arith in
    let second : (high * 256 + low) % 256 ≡ low = omega arith in
    cc

-- and the number fits
pub number-fits : (high low : ℕ) → high < 256 → low < 256 → number_of_two high low < 2 ^ 16
number-fits high low h l = omega arith

-- the octets of a number make it
pub number-octets : (n : ℕ) → n < 2 ^ 16 → number_of_two (n / 256 % 256) (n % 256) ≡ n
number-octets n h = omega arith

-- a test that holds chooses the first
pub chosen : {A : Type 0} (test : Bool) (x y : A) → test ≡ true → cond test x y ≡ x
chosen true x y h = refl
chosen false x y h = cc

-- one that fails chooses the second
pub otherwise : {A : Type 0} (test : Bool) (x y : A) → test ≡ false → cond test x y ≡ y
otherwise true x y h = cc
otherwise false x y h = refl
