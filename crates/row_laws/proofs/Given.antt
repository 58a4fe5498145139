-- The id that a client is given for a name stands for it from then on.
use Rattle.std.proofs.Common.{◌≡◌, ℕ, ◌==◌, Bool, true, false, cond, if◌then◌else◌, List, [], ◌∷◌, Option, Some, None, IfSome, is_none, ◌&&◌, bytes_eq, refl, sym, subst, ap, ◌∙◌, arith}
use Rattle.std.proofs.lemmas.Bool.Decides.{nat_tests}
use Rattle.std.proofs.lemmas.Cmp.{ranked}
use Rattle.std.proofs.lemmas.Slice.Eq.{bytes_eq-Decides}
use Rattle.std.specs.List.{AllByRecursion, find}
use Rattle.std.specs.declared.cmp.Ordering.TheVariants.{Less, Equal, Greater}
use Rattle.sn_session.specs.declared.session.Session.{Session}
use Rattle.sn_tables.specs.declared.topics.TopicEntry.{TopicEntry}
use Rattle.sn_session.specs.declared.change.SessionOp.{SessionOp}
use Rattle.sn_session.specs.declared.change.SessionOp.TheVariants.{Register}
use Rattle.sn_tables.specs.Tables.{IsTable, is_table_full, by_order}
use Rattle.sn_tables.specs.Topics.{topic_cmp, topic_of, topic_named, with_topic, topic_has_no_room, free_id, least_unused}
use Rattle.sn_session.specs.Session.{applied, session_changed, is_full}
use Rattle.sn_tables.proofs.Ascending.{Ascends, from_test}
use Rattle.sn_tables.proofs.TopicPlaces.{topic_total}
use Rattle.sn_subscribe.specs.Registration.{entry_or_free, id_for}
use Rattle.row_laws.specs.RequestLaws.{IsIdOf}

-- an operation that finds room
pub fits : (s : Session) (change : SessionOp) → is_full s change ≡ false → applied s change ≡ session_changed s change
fits s change h = rw h refl

same_id : (n : ℕ) → (n == n) ≡ true
same_id n = grind (arith, nat_tests)

-- an entry that is set is found
found_first : (e : TopicEntry) (rest : List TopicEntry) → topic_of e.id (e ∷ rest) ≡ Some e
found_first e rest = rw (same_id e.id) refl

found_later : (e x : TopicEntry) (rest : List TopicEntry) → topic_cmp e x ≡ Greater → topic_of e.id rest ≡ Some e → topic_of e.id (x ∷ rest) ≡ Some e
found_later e x rest above h =
    let lt = ranked e.id x.id Greater (sym above) in
    let apart : (x.id == e.id) ≡ false = grind (arith, nat_tests, lt) in
    rw apart h

found_set : (e : TopicEntry) (xs : List TopicEntry) → topic_of e.id (with_topic e xs) ≡ Some e
found_set e [] = found_first e []
found_set e (x ∷ xs) =
    elim (topic_cmp e x) as (λ o. topic_cmp e x ≡ o → topic_of e.id (by_order o (e ∷ x ∷ xs) (e ∷ xs) (x ∷ with_topic e xs)) ≡ Some e) [
      | Less ↦ λ _. found_first e (x ∷ xs)
      | Equal ↦ λ _. found_first e xs
      | Greater ↦ λ above. found_later e x (with_topic e xs) above (found_set e xs)
    ] refl

-- so a name that is registered where there is room stands under its id
registers : (s : Session) (id : ℕ) (name : List ℕ) → topic_has_no_room id s.topics ≡ false → topic_of id (applied s (Register id name true)).topics ≡ Some (record { id = id; name = name; known = true })
registers s id name room =
    subst (λ (t : Session). topic_of id t.topics ≡ Some (record { id = id; name = name; known = true })) (sym (fits s (Register id name true) room)) (found_set (record { id = id; name = name; known = true }) s.topics)

-- the entry of a name is that of its id
record IsEntry (name : List ℕ) (xs : List TopicEntry) (e : TopicEntry) : Type 0 where
  there : topic_of e.id xs ≡ Some e
  named : e.name ≡ name

below_all : (P : TopicEntry → Type 0) (test : TopicEntry → Bool) (xs : List TopicEntry) → AllByRecursion P xs → IfSome (find test xs) P
below_all P test [] h = tt
below_all P test (x ∷ xs) h = elim (test x) as (λ b. IfSome (cond b (Some x) (find test xs)) P) [ true ↦ h.0 | false ↦ below_all P test xs h.1 ]

entry_first : (name : List ℕ) (x : TopicEntry) (xs : List TopicEntry) → bytes_eq x.name name ≡ true → IsEntry name (x ∷ xs) x
entry_first name x xs is = record { there = found_first x xs; named = (bytes_eq-Decides x.name name).0 is }

entry_later : (name : List ℕ) (x : TopicEntry) (xs : List TopicEntry) (o : Option TopicEntry) → IfSome o (λ e. topic_cmp x e ≡ Less) → IfSome o (IsEntry name xs) → IfSome o (IsEntry name (x ∷ xs))
entry_later name x xs None below h = tt
entry_later name x xs (Some e) below h = record {
  there = let lt = ranked x.id e.id Less (sym below) in let apart : (x.id == e.id) ≡ false = grind (arith, nat_tests, lt) in rw apart h.there;
  named = h.named;
}

entry_named : (name : List ℕ) (xs : List TopicEntry) → Ascends topic_cmp xs → IfSome (topic_named name xs) (IsEntry name xs)
entry_named name [] up = tt
entry_named name (x ∷ xs) up =
    elim (bytes_eq x.name name) as (λ b. bytes_eq x.name name ≡ b → IfSome (cond b (Some x) (topic_named name xs)) (IsEntry name (x ∷ xs))) [
      | true ↦ λ is. entry_first name x xs is
      | false ↦ λ _. entry_later name x xs (topic_named name xs) (below_all (λ e. topic_cmp x e ≡ Less) (λ e. bytes_eq e.name name) xs up.0) (entry_named name xs up.1)
    ] refl

-- an entry that is there always finds room
room_there : (full absent : Bool) → absent ≡ false → (full && absent) ≡ false
room_there true absent h = h
room_there false absent h = refl

room_free : (full absent : Bool) → full ≡ false → (full && absent) ≡ false
room_free true absent h = cc
room_free false absent h = refl

-- of an entry
of_known : (s : Session) (name : List ℕ) (entry : TopicEntry) → IsEntry name s.topics entry → (known : Bool) → entry.known ≡ known → IsIdOf name s (record { id = entry.id; change = if known then None else Some (Register entry.id name true) })
of_known s name entry is true known = is.there ∙ ap Some (alike entry name is.named known)
  where
    alike : (e : TopicEntry) (name : List ℕ) → e.name ≡ name → e.known ≡ true → e ≡ record { id = e.id; name = name; known = true }
    alike e name h k = rw (sym h) (rw (sym k) refl)
of_known s name entry is false known =
    registers s entry.id name (room_there (is_table_full s.topics) (is_none (topic_of entry.id s.topics)) (ap is_none is.there))

-- of a free id
of_free : (s : Session) (name : List ℕ) (full : Bool) → is_table_full s.topics ≡ full → IfSome (entry_or_free name None (if full then None else Some (least_unused 1 s.topics))) (IsIdOf name s)
of_free s name true h = tt
of_free s name false h =
    registers s (least_unused 1 s.topics) name (room_free (is_table_full s.topics) (is_none (topic_of (least_unused 1 s.topics) s.topics)) h)

of_entry : (s : Session) (name : List ℕ) (o : Option TopicEntry) → IfSome o (IsEntry name s.topics) → IfSome (entry_or_free name o (free_id s.topics)) (IsIdOf name s)
of_entry s name None h = of_free s name (is_table_full s.topics) refl
of_entry s name (Some entry) h = of_known s name entry h entry.known refl

pub given : (s : Session) (name : List ℕ) → IsTable topic_cmp s.topics → IfSome (id_for s name) (IsIdOf name s)
given s name table = of_entry s name (topic_named name s.topics) (entry_named name s.topics (from_test topic_cmp topic_total s.topics table.0))
