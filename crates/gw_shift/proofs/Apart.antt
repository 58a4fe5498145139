-- Passes of different places whose calls all stand in a history hold no call in common.
use Rattle.std.proofs.Common.{◌≡◌, ◌≢◌, ◌-◌, ◌==◌, ℕ, false, List, [], ◌∷◌, Option, Some, None, slice_get, refl, sym, ◌∙◌, ap}
use Rattle.std.proofs.lemmas.Bool.{ne_eqb, or_from}
use Rattle.gw_shift.specs.Calls.{Call, Held, Holder}
use Rattle.gw_shift.specs.Closing.{StandsIn, has_number, is_held, AreOwn, AreKnown}
use Rattle.gw_shift.specs.inner.Closing.{AllStand, EachStands, IsElsewhere, HavePlacesApart}

abbrev place_of : Option Call → ℕ
place_of None = 0
place_of (Some c) = c.place

-- a call of the history is one pass's
one_place : (history : List Call) (place other : ℕ) (a b : Held) → StandsIn history place a → StandsIn history other b → b.number ≡ a.number
    → other ≡ place
one_place history place other a b mine theirs same =
    sym (ap place_of theirs.1) ∙ ap (λ n. place_of (slice_get history (n - 1))) same ∙ ap place_of mine.1

has_none : (history : List Call) (place other : ℕ) (a : Held) (calls : List Held) → StandsIn history place a → other ≢ place
    → AllStand history other calls → has_number a.number calls ≡ false
has_none history place other a [] mine apart stand = refl
has_none history place other a (c ∷ calls) mine apart stand =
    or_from
    (c.number == a.number)
    (has_number a.number calls)
    (ne_eqb c.number a.number (λ e. apart (one_place history place other a c mine stand.0 e)))
    (has_none history place other a calls mine apart stand.1)

held_by_none : (history : List Call) (place : ℕ) (a : Held) (others : List Holder) → StandsIn history place a → IsElsewhere place others
    → EachStands history others → is_held a.number others ≡ false
held_by_none history place a [] mine apart stand = refl
held_by_none history place a (p ∷ others) mine apart stand =
    or_from
    (has_number a.number p.calls)
    (is_held a.number others)
    (has_none history place p.place a p.calls mine apart.0 stand.1)
    (held_by_none history place a others mine apart.1 stand.2)

apart_own : (history : List Call) (place : ℕ) (others : List Holder) (calls : List Held) → IsElsewhere place others → EachStands history others
    → AllStand history place calls → AreOwn history place others calls
apart_own history place others [] apart stand mine = tt
apart_own history place others (c ∷ calls) apart stand mine =
    (mine.0, held_by_none history place c others mine.0 apart stand, apart_own history place others calls apart stand mine.1)

pub apart_known : (history : List Call) (passes : List Holder) → HavePlacesApart passes → EachStands history passes → AreKnown history passes
apart_known history [] apart stand = tt
apart_known history (p ∷ passes) apart stand =
    (stand.0, apart_own history p.place passes p.calls apart.0 stand.2 stand.1, apart_known history passes apart.1 stand.2)
