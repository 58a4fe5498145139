use Rattle.sn_frame.proofs.Refusals.{is_refused, one_first_fault}
use Rattle.sn_frame.proofs.laws.one_fault.Goals as goal

pub returns-clause-one : goal.returns-clause-one
returns-clause-one c = one_first_fault

pub returns-clause-no_frame : goal.returns-clause-no_frame
returns-clause-no_frame c = is_refused
