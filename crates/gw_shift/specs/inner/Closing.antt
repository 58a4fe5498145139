-- When the passes that are given back hold just the calls of a history.
use Rattle.std.specs.Prelude.{◌≢◌, ◌-◌, ℕ, List, [], ◌∷◌}
use Rattle.gw_shift.specs.Calls.{Call, Held, Holder}
use Rattle.gw_shift.specs.Passes.{Ascend}
use Rattle.gw_shift.specs.Closing.{StandsIn}

-- the calls are in the history under that pass
abbrev pub AllStand : List Call → ℕ → List Held → Type 0
AllStand history place [] = Unit {0}
AllStand history place (held ∷ rest) = StandsIn history place held × AllStand history place rest

-- the calls of each pass are in the history, in its order
abbrev pub EachStands : List Call → List Holder → Type 0
EachStands history [] = Unit {0}
EachStands history (pass ∷ rest) =
    Ascend 0 pass.calls × AllStand history pass.place pass.calls × EachStands history rest

-- none of the passes has this place
abbrev pub IsElsewhere : ℕ → List Holder → Type 0
IsElsewhere place [] = Unit {0}
IsElsewhere place (pass ∷ rest) = (pass.place ≢ place) × IsElsewhere place rest

-- no two of the passes have one place
abbrev pub HavePlacesApart : List Holder → Type 0
HavePlacesApart [] = Unit {0}
HavePlacesApart (pass ∷ rest) = IsElsewhere pass.place rest × HavePlacesApart rest
