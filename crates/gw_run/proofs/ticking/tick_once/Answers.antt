use Rattle.std.proofs.Common.{◌≡◌, ◌∙◌, Some, None, Ok, Err, refl, sym}
use Rattle.gw_link.specs.declared.calling.End.TheVariants as ends
use Rattle.gw_run.proofs.Clock.{clock_cannot, clock_uncalled, clock_found, finds_refused, starved_refused}
use Rattle.gw_run.proofs.ticking.tick_once.Goals as goal

pub returns-in_default : goal.returns-in_default
returns-in_default g c = clock_cannot _ _ ends.Memory tt refl

pub returns-in-Err : goal.returns-in-Err
returns-in-Err g c = clock_uncalled _ _ _ _ c.in-Err.is c.call-pass.ensures.none

pub returns-in-Ok-Err : goal.returns-in-Ok-Err
returns-in-Ok-Err g c =
    clock_found _ _ _ _ (finds_refused _ _ _ _ _ _ _ c.in-Ok-Err.is c.in-Ok-Err.field-0-is c.in-Ok.ensures.ok (sym c.is_halted.ensures ∙ c.if-is_halted.true) c.call-pass.ensures.made) c.open_anew-pass.ensures

pub returns : goal.returns
returns g c =
    starved_refused _ _ _ _ _ _ _ _ c.in-Ok-Err.is c.in-Ok-Err.field-0-is c.in-Ok.ensures.ok (sym c.is_halted.ensures ∙ c.if-is_halted.false) refl c.call-pass.ensures.made
