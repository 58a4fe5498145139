-- What is staged of a table, and the table once that is in its place.
use Rattle.std.specs.Prelude.{ℕ, ◌<◌, Bool, true, false, List, length, slice_set}
use Rattle.rep_op.specs.declared.op.Retained.{Retained}
use Rattle.rep_retain.specs.declared.staged.TopicsStaged.{TopicsStaged}
use Rattle.rep_retain.specs.declared.staged.TopicsStaged.TheVariants.{Nothing, Entry, Table}
use Rattle.rep_retain.specs.Tables.{IsTopicTable}

-- the table once what is staged is in its place; if nothing is staged, it stays
abbrev pub topics_moved : List (List ℕ × Retained) → TopicsStaged → List (List ℕ × Retained)
topics_moved es Nothing = es
topics_moved es (Entry at e) = slice_set es at e
topics_moved es (Table next) = next

-- whether nothing is staged
abbrev pub is_nothing : TopicsStaged → Bool
is_nothing Nothing = true
is_nothing (Entry at e) = false
is_nothing (Table next) = false

-- it is staged of this table: an entry takes a place in it, and leaves a table
abbrev pub IsTopicsReady : List (List ℕ × Retained) → TopicsStaged → Type 0
IsTopicsReady es Nothing = Unit {0}
IsTopicsReady es (Entry at e) = (at < length es) × IsTopicTable (slice_set es at e)
IsTopicsReady es (Table next) = Unit {0}
