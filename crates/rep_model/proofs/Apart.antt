-- The ranges of a delta are apart.
use Rattle.std.proofs.Common.{◌≡◌, ℕ, ◌+◌, ◌==◌, ◌≤◌, true, false, ◌&&◌, if◌then◌else◌, List, [], ◌∷◌, Some, None, IfSome, sym, refl, ◌∙◌, arith}
use Rattle.std.specs.Prelude.{nat_le}
use Rattle.std.specs.List.{AllByRecursion, filter_map, cons_option}
use Rattle.std.proofs.lemmas.Bool.{and_parts, eqb-true, leb-true}
use Rattle.rep_op.specs.declared.op.Op.{Op}
use Rattle.rep_op.specs.declared.op.Op.TheVariants.{Session as OfSession, Put as OfPut, Ack, Retain as OfRetain}
use Rattle.rep_ops.specs.Making.{AreWellMade}
use Rattle.rep_op.specs.Sets.{same_client}
use Rattle.rep_ops.proofs.Rising.{Past, Rising}
use Rattle.rep_model.specs.Limits.{range_of}
use Rattle.rep_model.specs.Ranges.{AreApartFrom, AreApart}
use Rattle.rep_model.proofs.Readers.{same_client-true}

-- a range of the client and the origin begins at k or later
abbrev BeginsAt : List ℕ → ℕ → ℕ → Op → Type 0
BeginsAt c o k op = IfSome (range_of c o op) (λ r. k ≤ r.0)

begins_later : (c : List ℕ) (o : ℕ) (d : List ℕ) (q f l : ℕ) → same_client c d ≡ true → (o == q) ≡ true → (y : Op) → Past 1 (Ack d q f l) y → BeginsAt c o (l + 2) y
begins_later c o d q f l client origin (OfSession e s i change) past = tt
begins_later c o d q f l client origin (OfPut e p) past = tt
begins_later c o d q f l client origin (OfRetain t k) past = tt
begins_later c o d q f l client origin (Ack e s g m) past =
    elim (same_client c e && (o == s) && nat_le g m) as (λ b. (same_client c e && (o == s) && nat_le g m) ≡ b → IfSome {T = ℕ × ℕ} (if b then Some (g, m) else None) (λ r. l + 2 ≤ r.0)) [
      | false ↦ λ _. tt
      | true ↦ λ t.
          let w = and_parts (same_client c e && (o == s)) (nat_le g m) t in
          let v = and_parts (same_client c e) (o == s) w.0 in
          let far = past.clear (sym (same_client-true c d client) ∙ same_client-true c e v.0) (sym (eqb-true o q origin) ∙ eqb-true o s v.1) in
          omega (arith, far)
    ] refl

all_weaker_at : {A : Type 0} (P Q : A → Type 0) → ((x : A) → P x → Q x) → (xs : List A) → AllByRecursion P xs → AllByRecursion Q xs
all_weaker_at P Q f [] h = tt
all_weaker_at P Q f (x ∷ xs) h = (f x h.0, all_weaker_at P Q f xs h.1)

apart_rising : (c : List ℕ) (o k : ℕ) (W : List Op) → AllByRecursion (BeginsAt c o k) W → AreWellMade W → Rising 1 W → AreApartFrom k (filter_map (range_of c o) W)
apart_rising c o k [] low made up = tt
apart_rising c o k (OfSession d s i change ∷ W) low made up = apart_rising c o k W low.1 made.1 up.1
apart_rising c o k (OfPut d p ∷ W) low made up = apart_rising c o k W low.1 made.1 up.1
apart_rising c o k (OfRetain t m ∷ W) low made up = apart_rising c o k W low.1 made.1 up.1
apart_rising c o k (Ack d q f l ∷ W) low made up =
    elim (same_client c d && (o == q) && nat_le f l) as (λ b. (same_client c d && (o == q) && nat_le f l) ≡ b → IfSome {T = ℕ × ℕ} (if b then Some (f, l) else None) (λ r. k ≤ r.0)
    → AreApartFrom k (cons_option (if b then Some (f, l) else None) (filter_map (range_of c o) W))) [
      | false ↦ λ _ _. apart_rising c o k W low.1 made.1 up.1
      | true ↦ λ t begins.
          let w = and_parts (same_client c d && (o == q)) (nat_le f l) t in
          let v = and_parts (same_client c d) (o == q) w.0 in
          (begins, leb-true f l w.1, apart_rising c o (l + 2) W (all_weaker_at (Past 1 (Ack d q f l)) (BeginsAt c o (l + 2)) (begins_later c o d q f l v.0 v.1) W up.0) made.1 up.1)
    ] refl low.0

begins_somewhere : (c : List ℕ) (o : ℕ) (op : Op) → BeginsAt c o 0 op
begins_somewhere c o op = elim (range_of c o op) as (λ r. IfSome r (λ r. 0 ≤ r.0)) [ None ↦ tt | Some r ↦ omega arith ]

begin_somewhere : (c : List ℕ) (o : ℕ) (W : List Op) → AllByRecursion (BeginsAt c o 0) W
begin_somewhere c o [] = tt
begin_somewhere c o (op ∷ W) = (begins_somewhere c o op, begin_somewhere c o W)

pub ranges_rising : (c : List ℕ) (o : ℕ) (W : List Op) → AreWellMade W → Rising 1 W → AreApart (filter_map (range_of c o) W)
ranges_rising c o W made up = apart_rising c o 0 W (begin_somewhere c o W) made up
