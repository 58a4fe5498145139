-- What a slot is: by its bytes, and with more bytes after them.
use Rattle.std.proofs.Common.{◌≡◌, ℕ, ◌+◌, ◌<◌, ◌≤◌, Bool, true, false, cond, List, ◌++◌, length, take, drop, min, refl, sym, ap, ◌∙◌, inl, inr, arith}
use Rattle.std.specs.Prelude.{nat_lt}
use Rattle.std.specs.Int.{w64, from_be_bytes}
use Rattle.std.proofs.lemmas.Bool.{cases_lt, cases_Bool, lt-ltb, le-ltb}
use Rattle.std.proofs.lemmas.List.{take-take, length-take, length-drop, drop-drop, drop-take, take-append-le, drop-append-le, length-append}
use Rattle.jr_journal.specs.declared.piece.Found.{Found}
use Rattle.jr_journal.specs.declared.content.SlotContent.{SlotContent}
use Rattle.jr_journal.specs.declared.content.SlotContent.TheVariants.{Alien, Unsealed, Sealed, Broken}
use Rattle.std.specs.Str.{bytes_eq}
use Rattle.jr_journal.specs.Records.{found_joined, found, magic, begins, after_header, slot_content}
use Rattle.jr_journal.proofs.Append.{found_append, found_cut}

pub content_alien : (gateway : ℕ) (bytes : List ℕ) → begins gateway bytes ≡ false → Alien ≡ slot_content gateway bytes
unfolding slot_content
content_alien gateway bytes e = rw e refl

pub content_cut : (gateway : ℕ) (bytes : List ℕ) → begins gateway bytes ≡ true → length bytes < 13 → Unsealed ≡ slot_content gateway bytes
unfolding slot_content
content_cut gateway bytes e lt = let short : nat_lt (length bytes) 13 ≡ true = lt-ltb (length bytes) 13 lt in rw (e, short) refl

pub content_whole : (gateway : ℕ) (bytes : List ℕ) → begins gateway bytes ≡ true → 13 ≤ length bytes
    → after_header (from_be_bytes w64 (take 8 (drop 5 bytes))) (found 0 false (drop 13 bytes)) ≡ slot_content gateway bytes
unfolding slot_content
content_whole gateway bytes e le = let long : nat_lt (length bytes) 13 ≡ false = le-ltb (length bytes) 13 le in rw (e, long) refl

-- as a reader takes it: a number of eight bytes after the first five, and the pieces after it
pub content_read : (gateway generation : ℕ) (bytes numbered pieces : List ℕ) (f : Found) (content : SlotContent) → begins gateway bytes ≡ true → 13 ≤ length bytes → numbered ≡ drop 5 bytes
    → generation ≡ from_be_bytes w64 (take 8 numbered) → pieces ≡ drop 8 numbered → f ≡ found 0 false pieces → content ≡ after_header generation f → content ≡ slot_content gateway bytes
content_read gateway generation bytes numbered pieces f content e le cut number behind read is =
    let place : pieces ≡ drop 13 bytes = behind ∙ (ap (λ xs. drop 8 xs) cut ∙ drop-drop 8 5 bytes) in
    let number_is : generation ≡ from_be_bytes w64 (take 8 (drop 5 bytes)) = number ∙ ap (λ xs. from_be_bytes w64 (take 8 xs)) cut in
    is ∙ (ap (λ n. after_header n f) number_is ∙ (ap (λ r. after_header (from_be_bytes w64 (take 8 (drop 5 bytes))) r) (read ∙ ap (λ xs. found 0 false xs) place) ∙ content_whole gateway bytes e le))

-- ---- a sealed slot

pub record IsSealed (gateway : ℕ) (bytes : List ℕ) (generation : ℕ) (f : Found) : Type 0 where
  pub header : begins gateway bytes ≡ true
  pub long : 13 ≤ length bytes
  pub number : from_be_bytes w64 (take 8 (drop 5 bytes)) ≡ generation
  pub pieces : found 0 false (drop 13 bytes) ≡ f
  pub good : f.bad ≡ false
  pub seal : f.sealed ≡ true

header_case : (b s : Bool) (at n : ℕ) (r : Found) (generation : ℕ) (f : Found) → r.bad ≡ b → r.sealed ≡ s → cond b (Broken at) (cond s (Sealed n r) Unsealed) ≡ Sealed generation f
    → (n ≡ generation) × (r ≡ f) × (f.bad ≡ false) × (f.sealed ≡ true)
header_case true s at n r generation f bad seal e = absurd cc
header_case false true at n r generation f bad seal e =
    let same : r ≡ f = cc in
    (cc, same, ap (λ (q : Found). q.bad) (sym same) ∙ bad, ap (λ (q : Found). q.sealed) (sym same) ∙ seal)
header_case false false at n r generation f bad seal e = absurd cc

header_shape : (n : ℕ) (r : Found) (generation : ℕ) (f : Found) → after_header n r ≡ Sealed generation f → (n ≡ generation) × (r ≡ f) × (f.bad ≡ false) × (f.sealed ≡ true)
header_shape n r generation f e = header_case r.bad r.sealed (13 + r.whole) n r generation f refl refl e

pub sealed_shape : (gateway : ℕ) (bytes : List ℕ) (generation : ℕ) (f : Found) → slot_content gateway bytes ≡ Sealed generation f → IsSealed gateway bytes generation f
sealed_shape gateway bytes generation f e =
    elim (cases_Bool (begins gateway bytes)) [
      | inl is ↦
          elim (cases_lt (length bytes) 13) [
            | inl lt ↦ absurd (let wrong : Unsealed ≡ Sealed generation f = content_cut gateway bytes is lt ∙ e in cc)
            | inr le ↦
                let h = header_shape (from_be_bytes w64 (take 8 (drop 5 bytes))) (found 0 false (drop 13 bytes)) generation f (content_whole gateway bytes is le ∙ e) in
                record { header = is; long = le; number = h.0; pieces = h.1; good = h.2; seal = h.3 }
          ]
      | inr other ↦ absurd (let wrong : Alien ≡ Sealed generation f = content_alien gateway bytes other ∙ e in cc)
    ]

sealed_case : (b s : Bool) (at n : ℕ) (r : Found) → b ≡ false → s ≡ true → cond b (Broken at) (cond s (Sealed n r) Unsealed) ≡ Sealed n r
sealed_case true s at n r bad seal = absurd cc
sealed_case false true at n r bad seal = refl
sealed_case false false at n r bad seal = absurd cc

after_sealed : (n : ℕ) (r : Found) (generation : ℕ) (f : Found) → n ≡ generation → r ≡ f → f.bad ≡ false → f.sealed ≡ true → after_header n r ≡ Sealed generation f
after_sealed n r generation f number same good seal =
    sealed_case r.bad r.sealed (13 + r.whole) n r (ap (λ (q : Found). q.bad) same ∙ good) (ap (λ (q : Found). q.sealed) same ∙ seal) ∙
    (ap (λ k. Sealed k r) number ∙ ap (λ q. Sealed generation q) same)

pub sealed_again : (gateway : ℕ) (bytes : List ℕ) (generation : ℕ) (f : Found) → IsSealed gateway bytes generation f → slot_content gateway bytes ≡ Sealed generation f
sealed_again gateway bytes generation f h =
    sym (content_whole gateway bytes h.header h.long) ∙ after_sealed (from_be_bytes w64 (take 8 (drop 5 bytes))) (found 0 false (drop 13 bytes)) generation f h.number h.pieces h.good h.seal

-- bytes that agree in the first 13 have one header
begins_same : (gateway : ℕ) (xs ys : List ℕ) → 13 ≤ length xs → 13 ≤ length ys → take 13 ys ≡ take 13 xs → begins gateway xs ≡ true → begins gateway ys ≡ true
begins_same gateway xs ys long longer same e =
    let here : min (length xs) 5 ≡ 5 = omega arith in
    let there : min (length ys) 5 ≡ 5 = omega arith in
    let front : take 5 ys ≡ take 5 xs = sym (take-take 5 13 ys (omega arith)) ∙ (ap (λ zs. take 5 zs) same ∙ take-take 5 13 xs (omega arith)) in
    let before : bytes_eq (take 5 xs) (take 5 (magic gateway)) ≡ true = sym (ap (λ k. bytes_eq (take k xs) (take k (magic gateway))) here) ∙ e in
    ap (λ k. bytes_eq (take k ys) (take k (magic gateway))) there ∙ (ap (λ zs. bytes_eq zs (take 5 (magic gateway))) front ∙ before)

pub sealed_same : (gateway : ℕ) (xs ys : List ℕ) (generation : ℕ) (f g : Found) → IsSealed gateway xs generation f → 13 ≤ length ys → take 13 ys ≡ take 13 xs → found 0 false (drop 13 ys) ≡ g → g.bad ≡ false → g.sealed ≡ true
    → IsSealed gateway ys generation g
sealed_same gateway xs ys generation f g h long same pieces good seal =
    let number : take 8 (drop 5 ys) ≡ take 8 (drop 5 xs) = sym (drop-take 5 8 ys) ∙ (ap (λ zs. drop 5 zs) same ∙ drop-take 5 8 xs) in
    record {
      header = begins_same gateway xs ys h.long long same h.header;
      long = long;
      number = ap (λ zs. from_be_bytes w64 zs) number ∙ h.number;
      pieces = pieces;
      good = good;
      seal = seal;
    }

-- ---- more bytes after a sealed slot that ends with a whole piece

abbrev pub IsFull : List ℕ → Found → Type 0
IsFull bytes f = 13 + f.whole ≡ length bytes

pub sealed_more : (gateway : ℕ) (xs ys : List ℕ) (generation : ℕ) (f q : Found) → IsSealed gateway xs generation f → IsFull xs f → found 0 true ys ≡ q → q.bad ≡ false → q.sealed ≡ true
    → IsSealed gateway (xs ++ ys) generation (found_joined f q)
sealed_more gateway xs ys generation f q h full behind good seal =
    let long = h.long in
    let front : take 13 (xs ++ ys) ≡ take 13 xs = take-append-le 13 xs ys long in
    let place : drop 13 (xs ++ ys) ≡ drop 13 xs ++ ys = drop-append-le 13 xs ys long in
    let all : 0 + f.whole ≡ length (drop 13 xs) = omega (arith, length-drop 13 xs) in
    let pieces : found 0 false (drop 13 xs ++ ys) ≡ found_joined f (found 0 f.sealed ys) = found_append 0 false (drop 13 xs) ys f h.pieces h.good all in
    let rest : found 0 f.sealed ys ≡ q = ap (λ t. found 0 t ys) h.seal ∙ behind in
    sealed_same gateway xs (xs ++ ys) generation f (found_joined f q) h (omega (arith, length-append xs ys)) front
    (ap (λ zs. found 0 false zs) place ∙ (pieces ∙ ap (λ (r : Found). found_joined f r) rest)) good seal

-- the torn end of a sealed slot is cut away
pub sealed_cut : (gateway : ℕ) (xs : List ℕ) (generation : ℕ) (f : Found) → IsSealed gateway xs generation f → IsSealed gateway (take (13 + f.whole) xs) generation f
sealed_cut gateway xs generation f h =
    let long = h.long in
    let front : take 13 (take (13 + f.whole) xs) ≡ take 13 xs = take-take 13 (13 + f.whole) xs (omega arith) in
    let place : drop 13 (take (13 + f.whole) xs) ≡ take f.whole (drop 13 xs) = drop-take 13 f.whole xs in
    let none : f.whole ≡ 0 + f.whole = omega arith in
    let pieces : found 0 false (take (0 + f.whole) (drop 13 xs)) ≡ f = found_cut 0 false (drop 13 xs) f h.pieces h.good (omega arith) in
    sealed_same gateway xs (take (13 + f.whole) xs) generation f f h (omega (arith, length-take (13 + f.whole) xs)) front
    (ap (λ zs. found 0 false zs) place ∙ (ap (λ k. found 0 false (take k (drop 13 xs))) none ∙ pieces)) h.good h.seal
