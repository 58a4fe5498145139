-- Calls that come to a gateway together: a line that begins them, and a line for each.
use Rattle.std.specs.Prelude.{◌≡◌, ◌≢◌, ℕ, List, [], ◌∷◌, codes, Option, Some, None}
use Rattle.octets.specs.Decimal.{IsNumber}
use Rattle.gw_world.specs.declared.event.Call.{Call}
use Rattle.gw_world.specs.Field.{by_itself}
use Rattle.gw_script.specs.declared.command.Command.TheVariants as commands
use Rattle.gw_script.specs.Commands.{fields_of, SpellsCommand}

-- the fields say that so many calls come to a gateway together, one at least
abbrev pub SaysRow : List (List ℕ) → ℕ → ℕ → Type 0
SaysRow (word ∷ number ∷ many ∷ []) gateway count =
    (word ≡ codes "together") × IsNumber 8 number gateway × IsNumber 64 many count × (count ≢ 0)
SaysRow fields gateway count = ⊥

-- the line says that so many calls come to a gateway together
abbrev pub IsRowLine : List ℕ → ℕ → ℕ → Type 0
IsRowLine line gateway count = SaysRow (fields_of line) gateway count

-- the line spells the call, as it does where that comes to the gateway by itself
abbrev pub SpellsCall : ℕ → List ℕ → Call → Type 0
SpellsCall gateway line call = SpellsCommand line (commands.Happens (by_itself gateway call))

-- each of the lines spells the call in its place
abbrev pub SpellCalls : ℕ → List (List ℕ) → List Call → Type 0
SpellCalls gateway [] [] = Unit {0}
SpellCalls gateway (line ∷ lines) (call ∷ calls) =
    SpellsCall gateway line call × SpellCalls gateway lines calls
SpellCalls gateway [] (call ∷ calls) = ⊥
SpellCalls gateway (line ∷ lines) [] = ⊥

-- no call at the gateway is spelled where this is the line, or where there is none
abbrev pub SpellsNoCall : ℕ → Option (List ℕ) → Type 0
SpellsNoCall gateway (Some line) = (call : Call) → SpellsCall gateway line call → ⊥
SpellsNoCall gateway None = Unit {0}
