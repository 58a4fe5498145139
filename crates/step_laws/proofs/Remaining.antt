-- What is left of the messages that wait, and which exchange is then open.
use Rattle.std.proofs.Common.{◌≡◌, ℕ, ◌==◌, Bool, true, false, ◌&&◌, ◌||◌, not, cond, if◌then◌else◌, is_some, is_none, List, [], ◌∷◌, ◌++◌, Option, Some, None, bytes_eq, refl, sym, ap, ◌∙◌, true≢false, eq-eqb}
use Rattle.std.specs.List.{AllByRecursion}
use Rattle.std.proofs.lemmas.Bool.{and_from}
use Rattle.std.proofs.lemmas.List.Folds.{list_any-append}
use Rattle.std.proofs.lemmas.Slice.Eq.{bytes_eq-Decides}
use Rattle.std.specs.declared.cmp.Ordering.TheVariants.{Less, Equal, Greater}
use Rattle.sn_session.specs.declared.outbound.Outbound.{Outbound as Exchange}
use Rattle.sn_session.specs.declared.outbound.Phase.{Phase}
use Rattle.sn_session.specs.declared.outbound.Phase.TheVariants.{Registering, Published, Released}
use Rattle.sn_session.specs.declared.session.Session.{Session}
use Rattle.sn_tables.specs.declared.topics.TopicEntry.{TopicEntry}
use Rattle.sn_session.specs.declared.change.SessionOp.TheVariants.{Register}
use Rattle.sn_tables.specs.Tables.{is_table_full, by_order}
use Rattle.sn_tables.specs.Topics.{topic_cmp, topic_of, topic_named, with_topic, free_id, least_unused}
use Rattle.sn_session.specs.Session.{applied, session_changed}
use Rattle.rep_op.specs.declared.op.Put.{Put}
use Rattle.rep_op.specs.Orders.{name_of}
use Rattle.row_laws.proofs.Given.{fits}
use Rattle.sn_exchange.specs.Exchanges.{same_name, is_done, is_left, left, put_named, put_left, message_of, is_open_in, if_open, open_exchange}
use Rattle.step_laws.specs.Laws.{AreNamedApart}
use Rattle.sn_tick.proofs.Calm.{none_some}

-- ---- what is left

pub same_name-itself : (name : ℕ × ℕ) → same_name name name ≡ true
same_name-itself name = and_from (name.0 == name.0) (name.1 == name.1) (eq-eqb name.0 name.0 refl) (eq-eqb name.1 name.1 refl)

pub left-none : (pending : List Put) → left [] pending ≡ pending
left-none [] = refl
left-none (put ∷ rest) = ap (λ xs. put ∷ xs) (left-none rest)

pub only_one : (b : Bool) → (b || false) ≡ b
only_one true = refl
only_one false = refl

pub one_left : (name : ℕ × ℕ) (put : Put) → is_left (name ∷ []) put ≡ not (same_name name (name_of put))
one_left name put = ap not (only_one (same_name name (name_of put)))

pub step_left : (name : ℕ × ℕ) (put : Put) (xs ys : List Put) (a b : Bool) → same_name name (name_of put) ≡ b → xs ≡ left (name ∷ []) ys
    → cond (not (a || (b || false))) (put ∷ xs) xs ≡ left (name ∷ []) (cond (not a) (put ∷ ys) ys)
step_left name put xs ys true b e h = h
step_left name put xs ys false true e h = h ∙ sym (ap (λ t. cond t (put ∷ left (name ∷ []) ys) (left (name ∷ []) ys)) (one_left name put ∙ ap not e))
step_left name put xs ys false false e h =
    ap (λ zs. put ∷ zs) h ∙ sym (ap (λ t. cond t (put ∷ left (name ∷ []) ys) (left (name ∷ []) ys)) (one_left name put ∙ ap not e))

-- one acknowledgement more takes one message more
pub left-more : (acks : List (ℕ × ℕ)) (name : ℕ × ℕ) (pending : List Put) → left (acks ++ name ∷ []) pending ≡ left (name ∷ []) (left acks pending)
left-more acks name [] = refl
left-more acks name (put ∷ rest) =
    ap (λ t. cond (not t) (put ∷ left (acks ++ name ∷ []) rest) (left (acks ++ name ∷ []) rest)) (list_any-append (λ ack. same_name ack (name_of put)) acks (name ∷ []))
    ∙ step_left name put (left (acks ++ name ∷ []) rest) (left acks rest) (is_done acks (name_of put)) (same_name name (name_of put)) refl (left-more acks name rest)

pub all_left : (name : ℕ × ℕ) (rest : List Put) → AllByRecursion (λ (other : Put). same_name name (name_of other) ≡ false) rest → left (name ∷ []) rest ≡ rest
all_left name [] h = refl
all_left name (put ∷ rest) h =
    ap (λ t. cond t (put ∷ left (name ∷ []) rest) (left (name ∷ []) rest)) (one_left name put ∙ ap not h.0) ∙ ap (λ xs. put ∷ xs) (all_left name rest h.1)

-- after the first message the others are left
pub rest_left : (put : Put) (rest : List Put) → AreNamedApart (put ∷ rest) → left (name_of put ∷ []) (put ∷ rest) ≡ rest
rest_left put rest apart =
    ap (λ t. cond t (put ∷ left (name_of put ∷ []) rest) (left (name_of put ∷ []) rest)) (one_left (name_of put) put ∙ ap not (same_name-itself (name_of put)))
    ∙ all_left (name_of put) rest apart.0

pub next_left : (acks : List (ℕ × ℕ)) (pending : List Put) (put : Put) (rest : List Put) → AreNamedApart (put ∷ rest) → left acks pending ≡ put ∷ rest
    → left (acks ++ name_of put ∷ []) pending ≡ rest
next_left acks pending put rest apart e = left-more acks (name_of put) pending ∙ ap (left (name_of put ∷ [])) e ∙ rest_left put rest apart

-- ---- exchanges

-- an exchange whose message is the first is found
pub opens : (s : Session) (put : Put) (rest : List Put) (x : Exchange) → s.outbound ≡ Some x → message_of x ≡ name_of put → is_open_in s x.phase (Some put) ≡ true
    → open_exchange s [] (put ∷ rest) ≡ Some x
opens s put rest x out named is =
    ap (if_open s [] (put ∷ rest)) out
    ∙ ap (λ name. if is_open_in s x.phase (cond (same_name (name_of put) name) (Some put) (put_named name rest)) then Some x else None) named
    ∙ ap (λ t. if is_open_in s x.phase (cond t (Some put) (put_named (name_of put) rest)) then Some x else None) (same_name-itself (name_of put))
    ∙ ap (λ t. if t then Some x else None) is

pub closed_in : (s : Session) (pending : List Put) (x : Exchange) (phase : Phase)
    → (if is_open_in s phase (put_left [] pending (message_of x)) then Some x else None) ≡ None
    → (if is_open_in s phase (put_left [] [] (message_of x)) then Some x else None) ≡ None
closed_in s pending x Registering h = refl
closed_in s pending x Published h = refl
closed_in s pending x Released h = h

pub closed_at : (s : Session) (pending : List Put) (o : Option Exchange) → if_open s [] pending o ≡ None → if_open s [] [] o ≡ None
closed_at s pending None h = refl
closed_at s pending (Some x) h = closed_in s pending x x.phase h

-- where no exchange is open, none is when nothing waits
pub closed : (s : Session) (pending : List Put) → open_exchange s [] pending ≡ None → open_exchange s [] [] ≡ None
closed s pending h = closed_at s pending s.outbound h

-- ---- names of topics

pub same_bytes : (name : List ℕ) → bytes_eq name name ≡ true
same_bytes name = (bytes_eq-Decides name name).1 refl

pub named_first : (e : TopicEntry) (rest : List TopicEntry) → is_some (topic_named e.name (e ∷ rest)) ≡ true
named_first e rest = ap (λ b. is_some (cond b (Some e) (topic_named e.name rest))) (same_bytes e.name)

pub named_later : (b : Bool) (x : TopicEntry) (o : Option TopicEntry) → is_some o ≡ true → is_some (cond b (Some x) o) ≡ true
named_later true x o h = refl
named_later false x o h = h

-- a name that has an entry is found
pub named_set : (e : TopicEntry) (topics : List TopicEntry) → is_some (topic_named e.name (with_topic e topics)) ≡ true
named_set e [] = named_first e []
named_set e (x ∷ rest) =
    elim (topic_cmp e x) as (λ o. is_some (topic_named e.name (by_order o (e ∷ x ∷ rest) (e ∷ rest) (x ∷ with_topic e rest))) ≡ true) [
      | Less ↦ named_first e (x ∷ rest)
      | Equal ↦ named_first e rest
      | Greater ↦ named_later (bytes_eq x.name e.name) x (topic_named e.name (with_topic e rest)) (named_set e rest)
    ]

pub not_full : (full absent : Bool) → full ≡ false → (full && absent) ≡ false
not_full true absent h = absurd (true≢false h)
not_full false absent h = refl

pub free_room : (full : Bool) (n id : ℕ) → (if full then None else Some n) ≡ Some id → full ≡ false
free_room true n id e = absurd (none_some id e)
free_room false n id e = refl

-- the session with a free id for a name
pub registered : (r : Session) (id : ℕ) (name : List ℕ) → free_id r.topics ≡ Some id → applied r (Register id name false) ≡ session_changed r (Register id name false)
registered r id name e =
    fits r (Register id name false) (not_full (is_table_full r.topics) (is_none (topic_of id r.topics)) (free_room (is_table_full r.topics) (least_unused 1 r.topics) id e))
