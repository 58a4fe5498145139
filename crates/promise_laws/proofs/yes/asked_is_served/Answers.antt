use Rattle.promise_laws.proofs.Asking.{asks-gets, gets-asks, meant-about}
use Rattle.promise_laws.proofs.yes.asked_is_served.Goals as goal

pub returns : goal.returns
returns c = record { recipients = asks-gets; only = gets-asks; about = meant-about }
