use Rattle.rep_answer.proofs.laws.digest_laws.Goals as goal
use Rattle.rep_digest.proofs.Counted.{same_digest}
use Rattle.rep_answer.proofs.Completing.{same_answer}

pub returns : goal.returns
returns c = record { digest = same_digest; answer = λ d S K deltas counts. same_answer S K counts d deltas }
