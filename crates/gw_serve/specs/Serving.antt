-- What serving adds to the passes of a shift.
use Rattle.std.specs.Prelude.{◌≡◌, ◌⊎◌, ◌<◌, ℕ, Bool, true, false, List, [], ◌∷◌, ◌++◌, All, map}
use Rattle.gw_answer.specs.declared.step.Step.{Step}
use Rattle.gw_answer.specs.declared.step.Step.TheVariants as steps
use Rattle.gw_shift.specs.Calls.{Held, Holder}
use Rattle.gw_shift.specs.Passes.{seen_by, with_calls}

-- the call is a datagram's
abbrev pub is_frame : Step → Bool
is_frame (steps.Frame from bytes now) = true
is_frame step = false

-- each of the calls is a datagram's
abbrev pub AreFrames : List Held → Type 0
AreFrames calls = All (λ (held : Held). is_frame held.step ≡ true) calls

-- the pass holds what it held and then calls of datagrams, which have these numbers, and nothing
-- else
abbrev pub Gains : Holder → List ℕ → Holder → Type 0
Gains before numbers after =
    (more : List Held) × (after ≡ with_calls before more)
    × (map (λ held. held.number) more ≡ numbers) × AreFrames more

-- each pass gains calls of datagrams, and these are the numbers of all, pass by pass
abbrev pub EachGains : List Holder → List ℕ → List Holder → Type 0
EachGains [] numbers [] = numbers ≡ []
EachGains (p ∷ ps) numbers (q ∷ qs) =
    (mine : List ℕ) × (rest : List ℕ) × (numbers ≡ mine ++ rest) × Gains p mine q
    × EachGains ps rest qs
EachGains [] numbers (q ∷ qs) = ⊥
EachGains (p ∷ ps) numbers [] = ⊥

-- one of the passes has seen a number
abbrev pub HaveSeen : List Holder → Type 0
HaveSeen [] = ⊥
HaveSeen (pass ∷ rest) = (0 < seen_by pass) ⊎ HaveSeen rest
