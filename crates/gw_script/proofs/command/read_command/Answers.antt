use Rattle.std.proofs.Common.{sym, ◌∙◌}
use Rattle.gw_script.proofs.Lines.{spelled, read_as}
use Rattle.gw_script.proofs.command.read_command.Goals as goal

pub returns : goal.returns
returns c =
    let whole = sym c.as_slice.ensures.value ∙ c.in-Some.ensures.cases.0 in
    let parts = sym (rw whole at c.in_ok-fields.ensures) in
    let told = spelled c.args.line.now c.in-Some.first.now.now _ c.in-Some-of.word c.say.result parts c.in-Some-of.ensures c.say.ensures in
    record { reads = told; only = read_as c.args.line.now c.say.result told }
