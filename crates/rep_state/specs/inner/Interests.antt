-- Which topics a client's filters may ask for, by a few marks.
use Rattle.std.specs.Prelude.{◌≡◌, ℕ, false, cond, ⊤, map, List, ◌∷◌, ◌++◌, drop, Option, Some, None}
use Rattle.std.specs.List.{AllByRecursion}
use Rattle.std.specs.Ordering.{is_eq}
use Rattle.std.specs.FinMap.{find}
use Rattle.rep_op.specs.Orders.{client_cmp}
use Rattle.rep_model.specs.Asking.{is_subscribed}
use Rattle.rep_log.specs.declared.log.Log.{Log}
use Rattle.rep_entry.specs.declared.entry.Entry.{Entry}
use Rattle.rep_state.specs.declared.places.Place.{Place}
use Rattle.rep_entry.specs.Interests.{has_mark, SessionWithin}

-- the place with other marks, if it is that of the client
abbrev pub marked : List ℕ → ℕ → Place → Place
marked c marks p =
    cond (is_eq (client_cmp p.name c)) (record { name = p.name; index = p.index; marks = marks }) p

-- the marks of the session of a log, if there is a log
abbrev pub AreMarksOf : Option Log → Option ℕ → Type 0
AreMarksOf None marks = marks ≡ None
AreMarksOf (Some log) None = ⊥
AreMarksOf (Some log) (Some marks) = SessionWithin marks log.session

-- the places with other marks for the client, if there are any
abbrev pub marks_noted : List ℕ → Option ℕ → List Place → List Place
marks_noted c None places = places
marks_noted c (Some marks) places = map (marked c marks) places

-- none of these places has the mark
abbrev pub NoneMarked : ℕ → List Place → Type 0
NoneMarked mark places = AllByRecursion (λ p. has_mark p.marks mark ≡ false) places

-- none of the places from `from` up to `next` has the mark
pub record IsPassed (mark : ℕ) (places : List Place) (from next : ℕ) : Type 0 where
  pub passed : List Place
  pub stands : drop from places ≡ passed ++ drop next places
  pub none_marked : NoneMarked mark passed

-- no filter of the client asks for the topic
abbrev pub IsSilent : List ℕ → Option Entry → Type 0
IsSilent topic None = ⊤
IsSilent topic (Some entry) = is_subscribed topic entry.seen ≡ false

-- no filter of any of these clients asks for the topic
abbrev pub AreSilent : List ℕ → List (List ℕ × Entry) → List (List ℕ) → Type 0
AreSilent topic es cs = AllByRecursion (λ c. IsSilent topic (find client_cmp c es)) cs

-- The clients after c begin at `behind`. Of the clients from `place` on, none of those before c has
-- a filter that asks for the topic.
pub record IsNext (topic : List ℕ) (es : List (List ℕ × Entry)) (cs : List (List ℕ))
    (place behind : ℕ) (c : List ℕ) : Type 0 where
  pub passed : List (List ℕ)
  pub stands : drop place cs ≡ passed ++ c ∷ drop behind cs
  pub silent : AreSilent topic es passed
