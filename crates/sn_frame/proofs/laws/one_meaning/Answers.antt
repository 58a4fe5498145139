use Rattle.sn_frame.proofs.Refusals.{one_frame, spelled_canonical, fitting_spelled}
use Rattle.sn_frame.proofs.laws.one_meaning.Goals as goal

pub returns-clause-one : goal.returns-clause-one
returns-clause-one c = one_frame

pub returns-clause-canonical : goal.returns-clause-canonical
returns-clause-canonical c = spelled_canonical

pub returns-clause-spelled : goal.returns-clause-spelled
returns-clause-spelled c = fitting_spelled
