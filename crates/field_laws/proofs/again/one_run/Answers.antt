use Rattle.std.proofs.Common.{List}
use Rattle.sn_local.specs.declared.config.Config.{Config}
use Rattle.gw_world.specs.declared.event.Event.{Event}
use Rattle.gw_world.specs.declared.event.Answer.{Answer}
use Rattle.gw_world.specs.Field.{Field, new_field, Run}
use Rattle.field_laws.proofs.again.one_run.Goals as goal
use Rattle.gw_world.proofs.Consistency.{field-never}
use Rattle.field_laws.proofs.Replaying.{HaveNoConflict, runs-one}
use Rattle.field_laws.proofs.Stops.{stop-one, run-stop}

never : (configs : List Config) (events : List Event) (answers : List Answer) (field : Field) → Run (new_field configs) events answers field → HaveNoConflict answers
never configs events answers field h = λ client there. field-never configs events answers field client h there

pub returns : goal.returns
returns c = record {
  one = λ configs events answers others one other h k. runs-one configs events answers others one other (never configs events answers one h) (never configs events others other k) h k;
  stop = λ configs. stop-one configs (never configs);
  ends = λ configs. run-stop configs (never configs);
}
