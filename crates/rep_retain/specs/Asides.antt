-- What lies aside of a table of topics.
use Rattle.std.specs.Prelude.{◌≡◌, ℕ, Bool, true, false, List}
use Rattle.rep_op.specs.declared.op.Retained.{Retained}
use Rattle.rep_retain.specs.declared.staged.TopicsStaged.{TopicsStaged}
use Rattle.rep_retain.specs.Staging.{is_nothing}

-- the table once what lies aside is put back: that which lies there, if one does
abbrev pub topics_back : Bool → List (List ℕ × Retained) → List (List ℕ × Retained)
    → List (List ℕ × Retained)
topics_back true aside now = aside
topics_back false aside now = now

-- the table lies aside, or nothing is staged of it
abbrev pub AreTopicsSaved : Bool → TopicsStaged → Type 0
AreTopicsSaved true staged = Unit {0}
AreTopicsSaved false staged = is_nothing staged ≡ true
