-- What is printed for a script, and the exit status.
use Rattle.std.specs.Prelude.{◌≡◌, ◌⊎◌, ℕ, List}
use Rattle.gw_world.specs.declared.event.Answer.{Answer}
use Rattle.gw_world.specs.declared.world.WorldFault.{WorldFault}
use Rattle.gw_world.specs.Worlds.{IsStop}
use Rattle.gw_script.specs.declared.script.Script.{Script}
use Rattle.gw_script.specs.Commands.{lines_of}
use Rattle.gw_script.specs.Scripts.{IsScriptOf, IsBadLine, IsBadCall}
use Rattle.gw_play.specs.Printing.{answers_text}
use Rattle.gw_play.specs.inner.Printing.{bad_line_text, bad_call_text, world_fault_line}
use Rattle.gw_play.specs.Playing.{IsPlayed}

-- the text is no script, for a line of it that is to be a command, or a call; or it is one, and an
-- event of it stops the run
abbrev pub IsTextRefused : List ℕ → List ℕ → Type 0
IsTextRefused text printed =
    ((number : ℕ) × IsBadLine (lines_of text) number × (printed ≡ bad_line_text number))
    ⊎ ((number : ℕ) × IsBadCall (lines_of text) number × (printed ≡ bad_call_text number))
    ⊎ ((script : Script) × (fault : WorldFault) × IsScriptOf (lines_of text) script
    × IsStop script.configs script.events fault × (printed ≡ world_fault_line fault))

-- what is printed for a text, with its status: the answers with 0, or why there are none with 1
abbrev pub IsOutcome : List ℕ → List ℕ → ℕ → Type 0
IsOutcome text printed status =
    ((status ≡ 0) × ((answers : List Answer) × IsPlayed text answers
    × (printed ≡ answers_text 0 answers)))
    ⊎ ((status ≡ 1) × IsTextRefused text printed)
