use Rattle.row_laws.proofs.Given.{given}
use Rattle.row_laws.proofs.request_laws.given_id_stands.Goals as goal

pub returns : goal.returns
returns c = given
