-- A pass that made no call adds nothing to what passes account for.
use Rattle.std.proofs.Common.{◌≡◌, ◌||◌, ℕ, List, [], ◌∷◌, ◌++◌, refl, ◌∙◌, ap, arith}
use Rattle.rep_op.specs.declared.op.Op.{Op}
use Rattle.gw_shift.specs.Calls.{Call, Held, Holder}
use Rattle.gw_shift.specs.Closing.{Accounts, HaveOpening, AreOwn, AreKnown, has_number, is_held, taken_by, times_held, unused}

module _ (place : ℕ) (opening : List (List Op)) (behind : List Holder) where
  has_opening : (before : List Holder) → HaveOpening opening (before ++ behind) → HaveOpening opening (before ++ unused place opening ∷ behind)
  has_opening [] have = (refl, have)
  has_opening (p ∷ before) have = (have.0, has_opening before have.1)

  holds_alike : (number : ℕ) (before : List Holder) → is_held number (before ++ unused place opening ∷ behind) ≡ is_held number (before ++ behind)
  holds_alike number [] = refl
  holds_alike number (p ∷ before) = ap (λ b. has_number number p.calls || b) (holds_alike number before)

  owns_alike : (history : List Call) (at : ℕ) (before : List Holder) (calls : List Held) → AreOwn history at (before ++ behind) calls
      → AreOwn history at (before ++ unused place opening ∷ behind) calls
  owns_alike history at before [] own = tt
  owns_alike history at before (c ∷ calls) own =
      (own.0, holds_alike c.number before ∙ own.1, owns_alike history at before calls own.2)

  knows_alike : (history : List Call) (before : List Holder) → AreKnown history (before ++ behind)
      → AreKnown history (before ++ unused place opening ∷ behind)
  knows_alike history [] known = (tt, tt, known)
  knows_alike history (p ∷ before) known =
      (known.0, owns_alike history p.place before p.calls known.1, knows_alike history before known.2)

  takes_alike : (before : List Holder) → taken_by (before ++ unused place opening ∷ behind) ≡ taken_by (before ++ behind)
  takes_alike [] = omega arith
  takes_alike (p ∷ before) = omega (arith, takes_alike before)

  times_alike : (number : ℕ) (before : List Holder) → times_held number (before ++ unused place opening ∷ behind) ≡ times_held number (before ++ behind)
  times_alike number [] = omega arith
  times_alike number (p ∷ before) = omega (arith, times_alike number before)

pub may_go : (opening : List (List Op)) (history : List Call) (before behind : List Holder) (place : ℕ) → Accounts opening history (before ++ behind)
    → Accounts opening history (before ++ unused place opening ∷ behind)
may_go opening history before behind place all = record {
  openings = has_opening place opening behind before all.openings;
  known = knows_alike place opening behind history before all.known;
  whole = takes_alike place opening behind before ∙ all.whole;
  once = λ number some within. times_alike place opening behind number before ∙ all.once number some within;
}
