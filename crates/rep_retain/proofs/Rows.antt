-- Small tables, and what they keep.
use Rattle.std.proofs.Common.{◌≡◌, ℕ, List, [], ◌∷◌, ◌++◌, Some, None, refl}
use Rattle.rep_op.specs.declared.op.Retained.{Retained}
use Rattle.rep_op.specs.declared.op.Op.{Op}
use Rattle.rep_op.specs.declared.op.Op.TheVariants.{Ack, Retain as OfRetain}
use Rattle.rep_model.specs.Topics.{topics, all_retained}
use Rattle.rep_model.specs.Keep.{keep}
use Rattle.rep_retain.specs.Tables.{ops_of}
use Rattle.rep_retain.specs.inner.Tables.{kept_in, with_ops}

-- the topics 'ab' and 'ac', and the bodies 'x' and 'y'
abbrev ab : List ℕ
ab = 97 ∷ 98 ∷ []

abbrev ac : List ℕ
ac = 97 ∷ 99 ∷ []

abbrev x : List ℕ
x = 120 ∷ []

abbrev y : List ℕ
y = 121 ∷ []

abbrev kept_at : ℕ → ℕ → List ℕ → Retained
kept_at clock gateway body = record { clock = clock; gateway = gateway; qos = 0; body = body }

-- two gateways retain at once: the greater one's stays, whichever comes first
first_then_second : with_ops [] (OfRetain ab (kept_at 1 1 x) ∷ OfRetain ab (kept_at 1 2 y) ∷ []) ≡ (ab, kept_at 1 2 y) ∷ []
first_then_second = refl

second_then_first : with_ops [] (OfRetain ab (kept_at 1 2 y) ∷ OfRetain ab (kept_at 1 1 x) ∷ []) ≡ (ab, kept_at 1 2 y) ∷ []
second_then_first = refl

-- an end takes the place of what it ends, and stays
ended : with_ops ((ab, kept_at 1 2 y) ∷ []) (OfRetain ab (kept_at 2 1 []) ∷ []) ≡ (ab, kept_at 2 1 []) ∷ []
ended = refl

-- topics stand in the order of their octets, whatever came first; an operation of a client is none
in_order : with_ops [] (OfRetain ac (kept_at 1 1 y) ∷ Ack ab 1 1 1 ∷ OfRetain ab (kept_at 3 1 x) ∷ []) ≡ (ab, kept_at 3 1 x) ∷ (ac, kept_at 1 1 y) ∷ []
in_order = refl

-- the table with operations keeps what must be kept of both, and lists what is retained
abbrev before : List (List ℕ × Retained)
before = (ab, kept_at 2 1 x) ∷ []

abbrev more : List Op
more = OfRetain ab (kept_at 1 9 y) ∷ OfRetain ac (kept_at 1 1 y) ∷ OfRetain ac (kept_at 2 1 x) ∷ []

keeps : ops_of (with_ops before more) ≡ keep (ops_of before ++ more)
keeps = refl

lists : with_ops before more ≡ all_retained (ops_of before ++ more)
lists = refl

names : topics (ops_of (with_ops before more)) ≡ ab ∷ ac ∷ []
names = refl

found : kept_in ac (with_ops before more) ≡ Some (kept_at 2 1 x)
found = refl

absent : kept_in x (with_ops before more) ≡ None
absent = refl
