use Rattle.rep_digest.proofs.Format.{read_again, read_spelled}
use Rattle.rep_digest.proofs.laws.one_reading.Goals as goal

pub returns : goal.returns
returns c = record { again = read_again; spelled = read_spelled }
