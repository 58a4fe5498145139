use Rattle.std.proofs.Common.{◌≢◌, arith, get_or}
use Rattle.std.proofs.lemmas.Bool.Decides.{nat_tests}
use Rattle.octets.proofs.Digits.{digits_utf8, parsed}
use Rattle.gw_script.proofs.number.number.Goals as goal

pub returns-in_default : goal.returns-in_default
returns-in_default c = λ n h. c.in_default.ensures.cases.0 (digits_utf8 c.args.text.now h.0)

pub returns : goal.returns
returns c =
    let plain : get_or c.args.text.now 0 0 ≢ 43 = grind (arith, nat_tests, c.has_plus.ensures, c.if-has_plus.false) in
    let same = (rw c.in-Ok.digits-is at c.in-Ok.ensures.cases).0 in
    rw c.ok.ensures.value (parsed c.args.text.now c.parse.result (rw same at c.parse.ensures.value.0) plain)
