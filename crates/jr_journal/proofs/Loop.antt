-- Reading the pieces of a slot one after the other, as a loop does.
use Rattle.std.proofs.Common.{◌≡◌, ℕ, ◌+◌, ◌≤◌, Bool, true, false, List, [], ◌∷◌, ◌++◌, length, drop, refl, sym, ap, subst, ◌∙◌, append_assoc, arith}
use Rattle.std.proofs.lemmas.List.{append-nil}
use Rattle.rep_op.specs.declared.op.Op.{Op}
use Rattle.jr_journal.specs.declared.piece.Piece.TheVariants.{Whole, Seal, Torn, Bad}
use Rattle.jr_journal.specs.declared.piece.Found.{Found}
use Rattle.jr_journal.specs.Records.{found_of, piece_at, ended, found_joined, one_record, found}
use Rattle.jr_journal.proofs.Pieces.{record_shape, found_record, found_seal, found_second_seal, found_torn, found_bad, found_nothing, found_skip}

made_same : (d e : List (List Op)) (s : Bool) (m n : ℕ) (b : Bool) → d ≡ e → m ≡ n → found_of d s m b ≡ found_of e s n b
made_same d e s m n b p q = λ i. found_of (p i) s (q i) b

-- the pieces so far, and those of what is left
abbrev pub IsSoFar : Found → List (List Op) → Bool → ℕ → List ℕ → Type 0
IsSoFar total deltas sealed whole left = total ≡ found_joined (found_of deltas sealed whole false) (found 0 sealed left)

pub goes_on : (total : Found) (deltas : List (List Op)) (sealed : Bool) (whole more : ℕ) (b : ℕ) (rest : List ℕ) (delta : List Op) (n : ℕ)
    → piece_at b rest ≡ Whole delta n → more ≡ whole + (5 + n) → IsSoFar total deltas sealed whole (b ∷ rest) → IsSoFar total (deltas ++ delta ∷ []) sealed more (drop (4 + n) rest)
goes_on total deltas sealed whole more b rest delta n e count h =
    let q : Found = found 0 sealed (drop (4 + n) rest) in
    let one : found 0 sealed (b ∷ rest) ≡ found_joined (one_record delta n sealed) q =
    found_record sealed b rest delta n e ∙ ap (λ (r : Found). found_joined (one_record delta n sealed) r) (found_skip (4 + n) sealed rest)
    in
    h ∙ (ap (λ (r : Found). found_joined (found_of deltas sealed whole false) r) one ∙
    made_same (deltas ++ (delta ∷ q.deltas)) ((deltas ++ delta ∷ []) ++ q.deltas) q.sealed (whole + (5 + n + q.whole)) (more + q.whole) q.bad
    (sym (append_assoc deltas (delta ∷ []) q.deltas)) (omega arith))

pub seals : (total : Found) (deltas : List (List Op)) (whole more : ℕ) (b : ℕ) (rest : List ℕ)
    → piece_at b rest ≡ Seal → more ≡ whole + 1 → IsSoFar total deltas false whole (b ∷ rest) → IsSoFar total deltas true more rest
seals total deltas whole more b rest e count h =
    let q : Found = found 0 true rest in
    h ∙ (ap (λ (r : Found). found_joined (found_of deltas false whole false) r) (found_seal b rest e) ∙
    made_same (deltas ++ q.deltas) (deltas ++ q.deltas) q.sealed (whole + (1 + q.whole)) (more + q.whole) q.bad refl (omega arith))

-- what was found is all that there is
stops : (total : Found) (deltas : List (List Op)) (sealed bad : Bool) (whole : ℕ) (left : List ℕ) → found 0 sealed left ≡ ended sealed bad → IsSoFar total deltas sealed whole left → found_of deltas sealed whole bad ≡ total
stops total deltas sealed bad whole left e h =
    sym (h ∙ (ap (λ (r : Found). found_joined (found_of deltas sealed whole false) r) e ∙ made_same (deltas ++ []) deltas sealed (whole + 0) whole bad (append-nil deltas) (omega arith)))

pub stops_at_end : (total : Found) (deltas : List (List Op)) (sealed : Bool) (whole : ℕ) → IsSoFar total deltas sealed whole [] → found_of deltas sealed whole false ≡ total
stops_at_end total deltas sealed whole h = stops total deltas sealed false whole [] (found_nothing 0 sealed) h

pub stops_torn : (total : Found) (deltas : List (List Op)) (sealed : Bool) (whole : ℕ) (b : ℕ) (rest : List ℕ) → piece_at b rest ≡ Torn → IsSoFar total deltas sealed whole (b ∷ rest) → found_of deltas sealed whole false ≡ total
stops_torn total deltas sealed whole b rest e h = stops total deltas sealed false whole (b ∷ rest) (found_torn sealed b rest e) h

pub stops_bad : (total : Found) (deltas : List (List Op)) (sealed : Bool) (whole : ℕ) (b : ℕ) (rest : List ℕ) → piece_at b rest ≡ Bad → IsSoFar total deltas sealed whole (b ∷ rest) → found_of deltas sealed whole true ≡ total
stops_bad total deltas sealed whole b rest e h = stops total deltas sealed true whole (b ∷ rest) (found_bad sealed b rest e) h

pub stops_sealed : (total : Found) (deltas : List (List Op)) (whole : ℕ) (b : ℕ) (rest : List ℕ) → piece_at b rest ≡ Seal → IsSoFar total deltas true whole (b ∷ rest) → found_of deltas true whole true ≡ total
stops_sealed total deltas whole b rest e h = stops total deltas true true whole (b ∷ rest) (found_second_seal b rest e) h

-- a whole record lies within what is left
pub record_inside : (b : ℕ) (rest : List ℕ) (delta : List Op) (n : ℕ) → piece_at b rest ≡ Whole delta n → 4 + n ≤ length rest
record_inside b rest delta n e = (record_shape b rest delta n e).inside

pub at_front : (total : Found) (deltas : List (List Op)) (sealed : Bool) (whole : ℕ) (left : List ℕ) (b : ℕ) (rest : List ℕ) → left ≡ b ∷ rest → IsSoFar total deltas sealed whole left → IsSoFar total deltas sealed whole (b ∷ rest)
at_front total deltas sealed whole left b rest e h = subst (λ (l : List ℕ). IsSoFar total deltas sealed whole l) e h

pub at_flag : (total : Found) (deltas : List (List Op)) (sealed flag : Bool) (whole : ℕ) (left : List ℕ) → sealed ≡ flag → IsSoFar total deltas sealed whole left → IsSoFar total deltas flag whole left
at_flag total deltas sealed flag whole left e h = subst (λ (s : Bool). IsSoFar total deltas s whole left) e h

pub at_next : (total : Found) (deltas next : List (List Op)) (sealed : Bool) (whole : ℕ) (left after : List ℕ) → next ≡ deltas → after ≡ left → IsSoFar total deltas sealed whole left → IsSoFar total next sealed whole after
at_next total deltas next sealed whole left after e f h =
    subst (λ (l : List ℕ). IsSoFar total next sealed whole l) (sym f) (subst (λ (d : List (List Op)). IsSoFar total d sealed whole left) (sym e) h)
