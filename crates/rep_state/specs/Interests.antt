-- Places with the marks of what their clients may ask for.
use Rattle.std.specs.Prelude.{ℕ, ⊤, List, Option, Some, None}
use Rattle.std.specs.List.{AllByRecursion}
use Rattle.std.specs.FinMap.{find}
use Rattle.rep_op.specs.Orders.{client_cmp}
use Rattle.rep_entry.specs.declared.entry.Entry.{Entry}
use Rattle.rep_state.specs.declared.places.Place.{Place}
use Rattle.rep_entry.specs.Interests.{SessionWithin}

-- the topics that the client asks for have their marks among these; without an entry it asks for
-- none
abbrev pub EntryWithin : ℕ → Option Entry → Type 0
EntryWithin marks None = ⊤
EntryWithin marks (Some entry) = SessionWithin marks entry.seen.session

-- each place has the marks of what its client asks for, and maybe more
abbrev pub AreMarked : List (List ℕ × Entry) → List Place → Type 0
AreMarked es places = AllByRecursion (λ p. EntryWithin p.marks (find client_cmp p.name es)) places
