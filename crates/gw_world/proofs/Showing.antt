-- What is shown: each client that is known is named.
use Rattle.std.proofs.Common.{◌≡◌, List, true}
use Rattle.std.specs.List.{AllByRecursion}
use Rattle.rep_op.specs.declared.op.Op.{Op}
use Rattle.rep_model.specs.Views.{clients, is_named}
use Rattle.rep_model.proofs.Joins.{all-moved}
use Rattle.rep_model.proofs.Named.{clients-named}

pub all_named : (S : List Op) → AllByRecursion (λ c. is_named c S ≡ true) (clients S)
all_named S = all-moved (λ c. is_named c S ≡ true) (clients S) (λ c h. (clients-named c S).1 h)
