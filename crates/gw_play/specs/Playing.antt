-- What is printed for a script, and the exit status.
use Rattle.std.specs.Prelude.{ℕ, List}
use Rattle.gw_world.specs.declared.event.Answer.{Answer}
use Rattle.gw_world.specs.Field.{Field, Run, new_field}
use Rattle.gw_script.specs.declared.script.Script.{Script}
use Rattle.gw_script.specs.Commands.{lines_of}
use Rattle.gw_script.specs.Scripts.{IsScriptOf}

-- the text is a script, and its events lead its gateways, from their start, to these answers
pub record IsPlayed (text : List ℕ) (answers : List Answer) : Type 0 where
  pub script : Script
  pub said : IsScriptOf (lines_of text) script
  pub field : Field
  pub ran : Run (new_field script.configs) script.events answers field
