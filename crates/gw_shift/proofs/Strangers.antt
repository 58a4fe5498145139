-- A stranger is one: passes that account for a history have none.
use Rattle.std.proofs.Common.{ℕ, List, [], ◌∷◌, ⊎_elim}
use Rattle.std.proofs.lemmas.Bool.{both_ways}
use Rattle.gw_shift.specs.Calls.{Call, Held, Holder}
use Rattle.gw_shift.specs.Closing.{is_held, AreOwn, AreKnown, IsStrangeIn, IsStrange}

own_not_strange : (history : List Call) (place : ℕ) (others : List Holder) (calls : List Held) (number : ℕ)
    → IsStrangeIn history place others calls number → AreOwn history place others calls → ⊥
own_not_strange history place others [] number strange own = strange
own_not_strange history place others (c ∷ calls) number strange own =
    ⊎_elim (λ s. both_ways (is_held c.number others) own.1 (s.1 own.0)) (λ s. own_not_strange history place others calls number s.2 own.2) strange

pub known_not_strange : (history : List Call) (passes : List Holder) (number : ℕ) → IsStrange history passes number → AreKnown history passes → ⊥
known_not_strange history [] number strange known = strange
known_not_strange history (p ∷ passes) number strange known =
    ⊎_elim
    (λ s. own_not_strange history p.place passes p.calls number s known.1)
    (λ s. known_not_strange history passes number s.1 known.2)
    strange
