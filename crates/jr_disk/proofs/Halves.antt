-- A list of bytes of which the first so many are synced: cut, and after a crash.
use Rattle.std.proofs.Common.{◌≡◌, ℕ, ◌+◌, ◌-◌, ◌≤◌, List, [], ◌++◌, length, take, drop, sym, ap, ◌∙◌, inl, inr, arith}
use Rattle.std.proofs.Math.Seq.{take-add, take-length, drop-length}
use Rattle.std.proofs.lemmas.Bool.{cases_lt}
use Rattle.std.proofs.lemmas.List.{take-take, take_all, length-take-le, length-take, length-drop, drop-take}
use Rattle.jr_disk.specs.Disk.{SlotBytes, cut_to, crashed}

abbrev slot_of : List ℕ → List ℕ → SlotBytes
slot_of a b = record { synced = a; unsynced = b }

abbrev pub split_at : ℕ → List ℕ → SlotBytes
split_at n b = slot_of (take n b) (drop n b)

parts : (a b c d : List ℕ) → a ≡ b → c ≡ d → slot_of a c ≡ slot_of b d
parts a b c d p q = λ i. record { synced = p i; unsynced = q i }

pub cut_split : (n len m : ℕ) (b t : List ℕ) → n ≤ length b → t ≡ take len b → (n ≤ length t → m ≡ n) → (length t ≤ n → m ≡ length t) → split_at m t ≡ cut_to (split_at n b) len
cut_split n len m b t inside same low high =
    let size : length t ≡ length (take len b) = ap length same in
    elim (cases_lt len n) [
      | inl below ↦
          let count : length t ≡ len = size ∙ length-take-le len b (omega arith) in
          let at : m ≡ length t = high (omega arith) in
          let front : take m t ≡ take len (take n b) = ap (λ k. take k t) at ∙ (take-length t ∙ (same ∙ sym (take-take len n b (omega arith)))) in
          let room : len - length (take n b) ≡ 0 = omega (arith, length-take-le n b inside) in
          let back : drop m t ≡ take (len - length (take n b)) (drop n b) = ap (λ k. drop k t) at ∙ (drop-length t ∙ sym (ap (λ k. take k (drop n b)) room)) in
          parts (take m t) (take len (take n b)) (drop m t) (take (len - length (take n b)) (drop n b)) front back
      | inr above ↦
          let whole : len ≡ n + (len - n) = omega arith in
          let long : n ≤ length t = omega (arith, size, length-take len b) in
          let at : m ≡ n = low long in
          let front : take m t ≡ take len (take n b) =
          ap (λ k. take k t) at ∙ (ap (λ l. take n l) same ∙ (take-take n len b above ∙ sym (take_all len (take n b) (omega (arith, length-take-le n b inside))))) in
          let room : len - length (take n b) ≡ len - n = omega (arith, length-take-le n b inside) in
          let back : drop m t ≡ take (len - length (take n b)) (drop n b) =
          ap (λ k. drop k t) at ∙ (ap (λ l. drop n l) same ∙ (ap (λ k. drop n (take k b)) whole ∙ (drop-take n (len - n) b ∙ sym (ap (λ k. take k (drop n b)) room)))) in
          parts (take m t) (take len (take n b)) (drop m t) (take (len - length (take n b)) (drop n b)) front back
    ]

pub crash_split : (n kept k m : ℕ) (b t : List ℕ) → n ≤ length b → t ≡ take (n + k) b → m ≡ length t → (kept ≤ length b - n → k ≡ kept) → (length b - n ≤ kept → k ≡ length b - n)
    → split_at m t ≡ crashed kept (split_at n b)
crash_split n kept k m b t inside same at low high =
    let left : take k (drop n b) ≡ take kept (drop n b) =
    elim (cases_lt (length b - n) kept) [
      | inl below ↦
          let e : k ≡ length b - n = high (omega arith) in
          take_all k (drop n b) (omega (arith, length-drop n b)) ∙ sym (take_all kept (drop n b) (omega (arith, length-drop n b)))
      | inr above ↦ ap (λ j. take j (drop n b)) (low above)
    ]
    in
    parts (take m t) (take n b ++ take kept (drop n b)) (drop m t) []
    (ap (λ k. take k t) at ∙ (take-length t ∙ (same ∙ (take-add n k b ∙ ap (λ xs. take n b ++ xs) left)))) (ap (λ k. drop k t) at ∙ drop-length t)
