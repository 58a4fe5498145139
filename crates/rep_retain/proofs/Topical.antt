-- A change of topics that lie aside does not matter.
use Rattle.std.proofs.Common.{◌≡◌, ℕ, Bool, true, false, List, refl}
use Rattle.rep_op.specs.declared.op.Retained.{Retained}
use Rattle.rep_retain.specs.declared.staged.TopicsStaged.{TopicsStaged}
use Rattle.rep_retain.specs.declared.staged.TopicsStaged.TheVariants.{Nothing, Entry, Table}
use Rattle.rep_retain.specs.Staging.{topics_moved}
use Rattle.rep_retain.specs.Asides.{topics_back, AreTopicsSaved}

abbrev Topics : Type 0
Topics = List (List ℕ × Retained)

pub topics_still : (b : Bool) (aside now : Topics) (staged : TopicsStaged) → AreTopicsSaved b staged → topics_back b aside (topics_moved now staged) ≡ topics_back b aside now
topics_still true aside now staged h = refl
topics_still false aside now Nothing h = refl
topics_still false aside now (Entry at e) h = absurd cc
topics_still false aside now (Table next) h = absurd cc
