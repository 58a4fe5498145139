-- A walk over the clients that have operations.
use Rattle.std.proofs.Common.{◌≡◌, ℕ, suc, ◌+◌, ◌-◌, true, false, cond, List, ◌∷◌, map, filter, drop, sym, ap, ◌∙◌, arith, ◌<◌}
use Rattle.std.proofs.lemmas.List.{drop-drop}
use Rattle.rep_op.specs.declared.op.Op.{Op}
use Rattle.rep_shared.specs.Rows.{has_any}
use Rattle.rep_shared.specs.inner.Rows.{named_rows}

-- what stands after the one at a place
pub drop_next : {A : Type 0} (n : ℕ) (xs ys : List A) (y : A) → drop n xs ≡ y ∷ ys → drop (n + 1) xs ≡ ys
drop_next n xs ys y h = sym (drop-drop 1 n xs) ∙ ap (drop 1) h

-- a client with operations goes in front of the others
pub named_front : (c : List ℕ) (ops : List Op) (rows : List (List ℕ × List Op)) → has_any ops ≡ true → named_rows ((c, ops) ∷ rows) ≡ c ∷ named_rows rows
named_front c ops rows h = ap (λ b. map (λ (row : List ℕ × List Op). row.0) (cond b ((c, ops) ∷ filter (λ row. has_any row.1) rows) (filter (λ row. has_any row.1) rows))) h

-- and one without is passed over
pub named_behind : (c : List ℕ) (ops : List Op) (rows : List (List ℕ × List Op)) → has_any ops ≡ false → named_rows ((c, ops) ∷ rows) ≡ named_rows rows
named_behind c ops rows h = ap (λ b. map (λ (row : List ℕ × List Op). row.0) (cond b ((c, ops) ∷ filter (λ row. has_any row.1) rows) (filter (λ row. has_any row.1) rows))) h

-- one less is to be passed over
pub drop_less : {A : Type 0} (left : ℕ) (y : A) (ys : List A) → 0 < left → drop left (y ∷ ys) ≡ drop (left - 1) ys
drop_less left y ys h =
    let e : left ≡ suc (left - 1) = omega (arith, h) in
    ap (λ n. drop n (y ∷ ys)) e
