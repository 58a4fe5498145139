use Rattle.std.proofs.Common.{sym, ap, ◌∙◌, Some}
use Rattle.rep_digest.proofs.Occurring.{found, absent}
use Rattle.rep_digest.proofs.origins.find_origin.Goals as goal

pub returns-in-Ok : goal.returns-in-Ok
returns-in-Ok c = found c.args.origin c.args.origins.now c.in-Ok.at c.index-origins-at.result c.in-Ok.ensures.1 ∙ ap Some (sym c.index-origins-at.is)

pub returns-in-Err : goal.returns-in-Err
returns-in-Err c = absent c.args.origin c.args.origins.now c.in-Err.field-0 c.in-Err.ensures.1
