-- A script: gateways, and then events.
use Rattle.std.specs.Prelude.{◌≡◌, ◌≢◌, ◌==◌, ℕ, ◌+◌, ◌-◌, ◌<◌, ◌⊎◌, Bool, false, List, [], ◌∷◌, ◌++◌, drop, length, take, position, slice_get, slice_set, Some, IsTrue, All, AllPairs}
use Rattle.std.specs.List.{list_any}
use Rattle.sn_topic.specs.Table.{is_table}
use Rattle.sn_local.specs.declared.config.Config.{Config}
use Rattle.gw_script.specs.declared.command.Command.{Command}
use Rattle.gw_script.specs.declared.command.Command.TheVariants as commands
use Rattle.gw_script.specs.declared.script.Script.{Script}
use Rattle.gw_world.specs.declared.event.Call.{Call}
use Rattle.gw_world.specs.declared.event.Event.TheVariants.{Together}
use Rattle.gw_script.specs.Commands.{SpellsCommand}
use Rattle.gw_script.specs.Rows.{IsRowLine, SpellCalls, SpellsNoCall}

-- a gateway whose settings are its number alone
abbrev pub plain_config : ℕ → Config
plain_config number =
    record { gateway = number; advertise = 0; lifetime = 0; field = []; predefined = [] }

-- whether a gateway has the number
abbrev pub has_gateway : List Config → ℕ → Bool
has_gateway configs number = list_any (λ config. config.gateway == number) configs

-- the script that says nothing
abbrev pub empty_script : Script
empty_script = record { configs = []; events = [] }

-- The second script says what the first says, and then the command. A gateway comes before all
-- events, its number is not 0, and no other has it. A predefined topic id comes before all events
-- too, for a gateway that is there, and is not 0000, FFFF or an id that the gateway has already. A
-- lifetime comes before all events, for a gateway that is there; the last one counts.
abbrev pub AddsCommand : Script → Command → Script → Type 0
AddsCommand before (commands.Gateway number) after =
    (before.events ≡ []) × (number ≢ 0) × (has_gateway before.configs number ≡ false)
    × (after ≡ record { configs = before.configs ++ plain_config number ∷ []; events = [] })
AddsCommand before (commands.Predefine number id name) after =
    (before.events ≡ []) × (place : ℕ) × (config : Config)
    × (position (λ (c : Config). c.gateway == number) before.configs ≡ Some place)
    × (slice_get before.configs place ≡ Some config)
    × IsTrue (is_table (config.predefined ++ (id, name) ∷ []))
    × (after ≡ record {
      configs = slice_set before.configs place
          (record config { predefined = config.predefined ++ (id, name) ∷ [] });
      events = [];
    })
AddsCommand before (commands.Lifetime number seconds) after =
    (before.events ≡ []) × (place : ℕ) × (config : Config)
    × (position (λ (c : Config). c.gateway == number) before.configs ≡ Some place)
    × (slice_get before.configs place ≡ Some config)
    × (after ≡ record {
      configs = slice_set before.configs place (record config { lifetime = seconds });
      events = [];
    })
AddsCommand before (commands.Happens event) after =
    after ≡ record { configs = before.configs; events = before.events ++ event ∷ [] }

-- a script, and then calls that come to a gateway together
abbrev pub with_row : Script → ℕ → List Call → Script
with_row before gateway calls =
    record { configs = before.configs; events = before.events ++ Together gateway calls ∷ [] }

-- the second script says what the first says, and then the line; an empty line says nothing
abbrev pub Extends : Script → List ℕ → Script → Type 0
Extends before line after =
    ((line ≡ []) × (after ≡ before))
    ⊎ ((command : Command) × SpellsCommand line command × AddsCommand before command after)

-- the lines make up the script; behind a line by which calls come together, each line is one of
-- them
pub data IsScriptOf : List (List ℕ) → Script → Type 0 where
  none : IsScriptOf [] empty_script
  more : (lines : List (List ℕ)) (line : List ℕ) (before after : Script) → IsScriptOf lines before
      → Extends before line after
      → IsScriptOf (lines ++ line ∷ []) after
  row : (lines : List (List ℕ)) (line : List ℕ) (behind : List (List ℕ)) (gateway : ℕ)
      (calls : List Call) (before : Script) → IsScriptOf lines before
      → IsRowLine line gateway (length calls) → SpellCalls gateway behind calls
      → IsScriptOf (lines ++ line ∷ behind) (with_row before gateway calls)

-- gateways as a field may have them: each has a number that is not 0, and no two have the same
pub record AreGateways (configs : List Config) : Type 0 where
  pub some : All (λ config. config.gateway ≢ 0) configs
  pub different : AllPairs (λ a b. a.gateway ≢ b.gateway) configs

-- The line of this number, from 1, is the first that cannot be where it is. The lines before it
-- make up a script, and no script has it next.
pub record IsBadLine (lines : List (List ℕ)) (number : ℕ) : Type 0 where
  pub before : Script
  pub line : List ℕ
  pub counted : 0 < number
  pub there : slice_get lines (number - 1) ≡ Some line
  pub read : IsScriptOf (take (number - 1) lines) before
  pub refused : (after : Script) → Extends before line after → ⊥
  pub no_row : (gateway count : ℕ) → IsRowLine line gateway count → ⊥

-- The line of this number, from 1, is to be a call and is none, or is not there. The lines before
-- `head` make up a script. The next one says that calls come together, and the lines between spell
-- the first ones of them.
pub record IsBadCall (lines : List (List ℕ)) (number : ℕ) : Type 0 where
  pub head : ℕ
  pub before : Script
  pub line : List ℕ
  pub gateway : ℕ
  pub count : ℕ
  pub calls : List Call
  pub read : IsScriptOf (take head lines) before
  pub there : slice_get lines head ≡ Some line
  pub begins : IsRowLine line gateway count
  pub first : SpellCalls gateway (take (length calls) (drop (head + 1) lines)) calls
  pub fewer : length calls < count
  pub counted : number ≡ head + length calls + 2
  pub refused : SpellsNoCall gateway (slice_get lines (number - 1))
