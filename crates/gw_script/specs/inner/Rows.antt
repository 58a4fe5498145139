-- The lines of calls that come together.
use Rattle.std.specs.Prelude.{◌≡◌, ◌+◌, ◌<◌, ◌≤◌, ◌⊎◌, ℕ, List, [], length, take, drop, get_or, slice_get}
use Rattle.gw_world.specs.declared.event.Call.{Call}
use Rattle.gw_world.specs.declared.event.Call.TheVariants as calls
use Rattle.gw_script.specs.declared.script.Script.{Script}
use Rattle.gw_script.specs.Rows.{IsRowLine, SpellCalls, SpellsNoCall}
use Rattle.gw_script.specs.Scripts.{Extends, with_row}

-- the call holds no octets
abbrev pub IsShort : Call → Type 0
IsShort (calls.Frame from bytes now) = ⊥
IsShort (calls.Tick now) = Unit {0}
IsShort (calls.Take delta) = Unit {0}

-- Of these lines, so many of which are to spell calls, the first ones do, and the next is the first
-- that does not, or is not there. It has this number among all, where so many lines are in front of
-- these.
abbrev pub IsNoCall : ℕ → ℕ → List (List ℕ) → ℕ → ℕ → Type 0
IsNoCall gateway count lines before number =
    (calls : List Call) × SpellCalls gateway (take (length calls) lines) calls
    × (length calls < count) × (number ≡ before + length calls + 1)
    × SpellsNoCall gateway (slice_get lines (length calls))

-- The line at this place says that calls come together, and the lines behind it, up to the place
-- `next`, spell them. The second script says what the first says, and then these calls.
abbrev pub RowRead : Script → List (List ℕ) → ℕ → Script → ℕ → Type 0
RowRead old lines at new next =
    (gateway : ℕ) × (calls : List Call) × IsRowLine (get_or lines at []) gateway (length calls)
    × SpellCalls gateway (take (length calls) (drop (at + 1) lines)) calls
    × (next ≡ at + length calls + 1) × (next ≤ length lines) × (new ≡ with_row old gateway calls)

-- the line at this place extends the script, or it does with the lines behind it
abbrev pub LineRead : Script → List (List ℕ) → ℕ → Script → ℕ → Type 0
LineRead old lines at new next =
    ((next ≡ at + 1) × Extends old (get_or lines at []) new) ⊎ RowRead old lines at new next

-- the line at this place extends no script, and does not say that calls come together
abbrev pub NoLineAt : Script → List (List ℕ) → ℕ → Type 0
NoLineAt old lines at =
    ((after : Script) → Extends old (get_or lines at []) after → ⊥)
    × ((gateway count : ℕ) → IsRowLine (get_or lines at []) gateway count → ⊥)

-- The line at this place says that calls come together, and the line of this number, from 1, is the
-- first behind it that is to spell one and does not.
abbrev pub NoCallBehind : List (List ℕ) → ℕ → ℕ → Type 0
NoCallBehind lines at number =
    (gateway : ℕ) × (count : ℕ) × IsRowLine (get_or lines at []) gateway count
    × IsNoCall gateway count (drop (at + 1) lines) (at + 1) number
