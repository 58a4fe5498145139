-- A digest has one answer: what is left of a set is one delta, and a delta has one split into parts that are full.
use Rattle.std.proofs.Common.{◌≡◌, ◌⊎◌, ◌+◌, ◌<◌, ◌≤◌, List, [], ◌∷◌, ◌++◌, length, refl, sym, ap, ◌∙◌, subst, append_assoc, arith, inl, inr}
use Rattle.std.specs.List.{AllByRecursion}
use Rattle.rep_op.specs.declared.op.Op.{Op}
use Rattle.rep_ops.specs.Making.{IsDeltaOf}
use Rattle.rep_op.specs.Sets.{Same}
use Rattle.rep_ops.specs.Spelling.{delta_spelling, IsDeltaWithinLimit}
use Rattle.rep_ops.specs.Splitting.{all_of, IsPart, AreFull, IsSplit, AreDeltasOf}
use Rattle.rep_ops.proofs.Canonical.{one_delta}
use Rattle.rep_ops.proofs.Sizes.{spelled_longer}
use Rattle.rep_op.proofs.Sets.{Same-sym, Same-trans}
use Rattle.rep_model.specs.Keep.{keep, CountsAs}
use Rattle.rep_model.specs.Held.{IsHeld}
use Rattle.rep_model.proofs.Joins.{same_refl}
use Rattle.rep_answer.specs.Answers.{IsRest, IsAnswer}
use Rattle.rep_digest.specs.Digests.{Digested}

no-cons : {A : Type 0} (x : A) (xs : List A) → [] ≡ x ∷ xs → ⊥
no-cons x xs e = absurd cc

head-same : {A : Type 0} (x y : A) (xs ys : List A) → x ∷ xs ≡ y ∷ ys → x ≡ y
head-same x y xs ys e = cc

tail-same : {A : Type 0} (x y : A) (xs ys : List A) → x ∷ xs ≡ y ∷ ys → xs ≡ ys
tail-same x y xs ys e = cc

-- ---- lengths

-- a part that goes on after a full one would pass the limit
too-long : (d : List Op) (op : Op) (r : List Op) → IsDeltaWithinLimit (d ++ op ∷ r) → 8388608 < length (delta_spelling (d ++ op ∷ [])) → ⊥
too-long d op r within full =
    let more : length (delta_spelling (d ++ op ∷ [])) ≤ length (delta_spelling (d ++ op ∷ r)) =
    subst (λ (e : List Op). length (delta_spelling (d ++ op ∷ [])) ≤ length (delta_spelling e)) (append_assoc d (op ∷ []) r) (spelled_longer (d ++ op ∷ []) r) in
    omega (arith, more, within, full)

-- ---- the first part of two splits

-- one begins the other, and goes on with an operation
abbrev GoesOn : List Op → List Op → List Op → List Op → Type 0
GoesOn d X e Y = (op : Op) × (r : List Op) × (e ≡ d ++ op ∷ r) × (X ≡ op ∷ (r ++ Y))

goes-on : (a b : Op) (d X e Y : List Op) → a ≡ b → GoesOn d X e Y → GoesOn (a ∷ d) X (b ∷ e) Y
goes-on a b d X e Y same g = (g.0, g.1, (λ i. sym same i ∷ g.2 i), g.3)

fronts : (d e X Y : List Op) → d ++ X ≡ e ++ Y → ((d ≡ e) × (X ≡ Y)) ⊎ GoesOn d X e Y ⊎ GoesOn e Y d X
fronts [] [] X Y p = inl (refl, p)
fronts [] (b ∷ e) X Y p = inr (inl (b, e, refl, p))
fronts (a ∷ d) [] X Y p = inr (inr (a, d, refl, sym p))
fronts (a ∷ d) (b ∷ e) X Y p =
    let same : a ≡ b = head-same a b (d ++ X) (e ++ Y) p in
    elim (fronts d e X Y (tail-same a b (d ++ X) (e ++ Y) p)) [
      | inl h ↦ inl ((λ i. same i ∷ h.0 i), h.1)
      | inr (inl g) ↦ inr (inl (goes-on a b d X e Y same g))
      | inr (inr g) ↦ inr (inr (goes-on b a e Y d X (sym same) g))
    ]

-- a full part does not begin another part that goes on
no-longer : (d e Y : List Op) (ds : List (List Op)) → AllByRecursion IsPart (d ∷ ds) → AreFull (d ∷ ds) → IsPart e → GoesOn d (all_of ds) e Y → ⊥
no-longer d e Y [] parts full other g = no-cons g.0 (g.1 ++ Y) g.3
no-longer d e Y ([] ∷ ds) parts full other g = parts.1.0.some refl
no-longer d e Y ((o ∷ n) ∷ ds) parts full other g =
    let same : o ≡ g.0 = head-same o g.0 (n ++ all_of ds) (g.1 ++ Y) g.3 in
    too-long d g.0 g.1 (subst IsDeltaWithinLimit g.2 other.within) (subst (λ (op : Op). 8388608 < length (delta_spelling (d ++ op ∷ []))) same full.0)

some-part : (d : List Op) (ds : List (List Op)) → IsPart d → [] ≡ all_of (d ∷ ds) → ⊥
some-part [] ds part e = part.some refl
some-part (op ∷ d) ds part e = no-cons op (d ++ all_of ds) e

full-rest : (d : List Op) (ds : List (List Op)) → AreFull (d ∷ ds) → AreFull ds
full-rest d [] full = tt
full-rest d (next ∷ ds) full = full.1

parts-one : (ds es : List (List Op)) → all_of ds ≡ all_of es → AllByRecursion IsPart ds → AllByRecursion IsPart es → AreFull ds → AreFull es → ds ≡ es
parts-one [] [] e p q f g = refl
parts-one [] (b ∷ es) e p q f g = absurd (some-part b es q.0 e)
parts-one (a ∷ ds) [] e p q f g = absurd (some-part a ds p.0 (sym e))
parts-one (a ∷ ds) (b ∷ es) e p q f g =
    elim (fronts a b (all_of ds) (all_of es) e) [
      | inl h ↦ let rest = parts-one ds es h.1 p.1 q.1 (full-rest a ds f) (full-rest b es g) in (λ i. h.0 i ∷ rest i)
      | inr (inl h) ↦ absurd (no-longer a b (all_of es) ds p f q.0 h)
      | inr (inr h) ↦ absurd (no-longer b a (all_of ds) es q g p.0 h)
    ]

pub split-one : (ops : List Op) (ds es : List (List Op)) → IsSplit ops ds → IsSplit ops es → ds ≡ es
split-one ops ds es s t = parts-one ds es (s.whole ∙ sym t.whole) s.parts t.parts s.full t.full

-- ---- the delta of operations, and the answer to a digest

pub delta-one : (ops d e : List Op) → IsDeltaOf ops d → IsDeltaOf ops e → d ≡ e
delta-one ops d e h k = one_delta d e h.delta k.delta (Same-trans d ops e h.same (Same-sym e ops k.same))

pub delta-same : (X Y d e : List Op) → Same X Y → IsDeltaOf X d → IsDeltaOf Y e → d ≡ e
delta-same X Y d e same h k = one_delta d e h.delta k.delta (Same-trans d X e h.same (Same-trans X Y e same (Same-sym e Y k.same)))

rest-one : (asked : Digested) (S X Y : List Op) → IsRest asked S X → IsRest asked S Y → Same X Y
rest-one asked S X Y h k = record {
  operations_same = λ c name. h.operations_left c name ∙ sym (k.operations_left c name);
  puts_same = λ c name. h.puts_left c name ∙ sym (k.puts_left c name);
  acknowledgements_same = λ c name. h.acknowledgements_left c name ∙ sym (k.acknowledgements_left c name);
  retains_same = λ t name. h.retains_left t name ∙ sym (k.retains_left t name);
}

deltas-one : (X Y : List Op) (ds es : List (List Op)) → Same X Y → AreDeltasOf X ds → AreDeltasOf Y es → ds ≡ es
deltas-one X Y ds es same h k =
    let whole : h.0 ≡ k.0 = delta-same X Y h.0 k.0 same h.1 k.1 in
    split-one k.0 ds es (subst (λ (w : List Op). IsSplit w ds) whole h.2) k.2

pub answer-one : (asked : Digested) (S : List Op) (ds es : List (List Op)) → IsAnswer asked S ds → IsAnswer asked S es → ds ≡ es
answer-one asked S ds es h k = deltas-one h.0 k.0 ds es (rest-one asked _ h.0 k.0 h.1 k.1) h.2 k.2

-- ---- what must be kept of a set, as deltas

pub held-one : (S : List Op) (ds es : List (List Op)) → IsHeld S ds → IsHeld S es → ds ≡ es
held-one S ds es h k = deltas-one (keep S) (keep S) ds es (same_refl (keep S)) h k

pub held-taken : (S K : List Op) (ds : List (List Op)) → CountsAs S K → IsHeld K ds → IsHeld S ds
held-taken S K ds counts h = (h.0, record { delta = h.1.delta; same = Same-trans h.0 (keep K) (keep S) h.1.same counts }, h.2)
