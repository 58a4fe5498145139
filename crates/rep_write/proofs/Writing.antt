-- What was there stays in front through one writer after another.
use Rattle.std.proofs.Common.{◌≡◌, ℕ, List, ◌++◌, ◌≤◌, length, take, sym, ap, ◌∙◌, arith, refl, append_assoc}
use Rattle.std.proofs.lemmas.List.{take_all, take-take, length-append, take_at}
use Rattle.std.specs.Prelude.{Result, Ok, Err}
use Rattle.octets.specs.declared.memory.NoMemory.{NoMemory}
use Rattle.rep_write.specs.Writing.{KeepsFront, Writes}

pub keeps_itself : (old : List ℕ) → KeepsFront old old
keeps_itself old = take_all (length old) old (omega arith)

pub keeps_more : (old text new : List ℕ) → new ≡ old ++ text → KeepsFront old new
keeps_more old text new e = rw e (take_at old text (length old) refl)

pub keeps_through : (old text mid new : List ℕ) → mid ≡ old ++ text → KeepsFront mid new → KeepsFront old new
keeps_through old text mid new e keeps =
    let len : length old ≤ length mid = omega (arith, ap length e, length-append old text) in
    sym (take-take (length old) (length mid) new len) ∙ (ap (take (length old)) keeps ∙ (ap (take (length old)) e ∙ take_at old text (length old) refl))

pub two_parts : (old a b x z : List ℕ) → x ≡ old ++ a → z ≡ x ++ b → z ≡ old ++ (a ++ b)
two_parts old a b x z ex ez = ez ∙ (ap (λ (t : List ℕ). t ++ b) ex ∙ append_assoc old a b)

-- what one writer leaves after what others wrote is what all of them leave
pub writes_more : {T : Type 0} → (old front back mid new : List ℕ) (result : Result T NoMemory) → mid ≡ old ++ front → Writes back mid new result → Writes (front ++ back) old new result
writes_more old front back mid new (Ok x) e written = two_parts old front back mid new e written
writes_more old front back mid new (Err want) e kept = keeps_through old front mid new e kept
