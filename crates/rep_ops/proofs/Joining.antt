-- Joining operations one by one.
use Rattle.std.proofs.Common.{◌≡◌, ℕ, ◌+◌, ◌≤◌, Bool, true, false, cond, List, [], ◌∷◌, ◌++◌, refl, sym, ap, ◌∙◌, inl, inr, ◌-◌, take, append-nil, append_assoc}
use Rattle.std.proofs.lemmas.Bool.{and_parts, and_from, eqb-true, eq-eqb, leb-true, le-leb, cases_Bool}
use Rattle.std.specs.List.{AllByRecursion}
use Rattle.std.proofs.lemmas.Slice.Eq.{bytes_eq-Decides}
use Rattle.rep_op.specs.declared.op.Op.{Op}
use Rattle.rep_op.specs.declared.op.Op.TheVariants.{Ack}
use Rattle.rep_ops.specs.inner.Joining.{joins, united, united_from, joined_ops}

-- what it means that two ranges join
pub record Near (c d : List ℕ) (r s last start : ℕ) : Type 0 where
  pub client : c ≡ d
  pub origin : r ≡ s
  pub near : start ≤ last + 1

pub near_parts : (c d : List ℕ) (origin other first last start end : ℕ) → joins (Ack c origin first last) (Ack d other start end) ≡ true → Near c d origin other last start
near_parts c d origin other first last start end e =
    let p = and_parts _ _ e in
    let q = and_parts _ _ p.0 in
    record { client = (bytes_eq-Decides c d).0 q.0; origin = eqb-true origin other q.1; near = leb-true start (last + 1) p.1 }

pub near_joins : (c d : List ℕ) (origin other first last start end : ℕ) → Near c d origin other last start → joins (Ack c origin first last) (Ack d other start end) ≡ true
near_joins c d origin other first last start end n =
    and_from _ _ (and_from _ _ ((bytes_eq-Decides c d).1 n.client) (eq-eqb origin other n.origin)) (le-leb start (last + 1) n.near)

-- ---- one more

-- one or two operations
abbrev pub pair : Op → Op → List Op
pair a b = cond (joins a b) (united a b ∷ []) (a ∷ b ∷ [])

-- joined operations and one more
abbrev pub behind : List Op → Op → List Op
behind [] op = op ∷ []
behind (a ∷ []) op = pair a op
behind (a ∷ b ∷ rest) op = a ∷ behind (b ∷ rest) op

behind_last : (front : List Op) (a op : Op) → behind (front ++ a ∷ []) op ≡ front ++ pair a op
behind_last [] a op = refl
behind_last (x ∷ []) a op = refl
behind_last (x ∷ y ∷ front) a op = ap (λ (rest : List Op). x ∷ rest) (behind_last (y ∷ front) a op)

some_from : (a : Op) (rest : List Op) → (h : Op) × (t : List Op) × (united_from a rest ≡ h ∷ t)
some_from a [] = (a, [], refl)
some_from a (b ∷ rest) =
    elim (cases_Bool (joins a b)) [
      | inl one ↦ rw one (some_from (united a b) rest)
      | inr apart ↦ rw apart (a, united_from b rest, refl)
    ]

behind_cons : (a op : Op) (xs : List Op) (h : Op) (t : List Op) → xs ≡ h ∷ t → behind (a ∷ xs) op ≡ a ∷ behind xs op
behind_cons a op [] h t e = absurd cc
behind_cons a op (x ∷ xs) h t e = refl

from_more : (a : Op) (rest : List Op) (op : Op) → united_from a (rest ++ op ∷ []) ≡ behind (united_from a rest) op
from_more a [] op = refl
from_more a (b ∷ rest) op =
    elim (cases_Bool (joins a b)) [
      | inl one ↦ rw one (from_more (united a b) rest op)
      | inr apart ↦ rw apart (
          let some = some_from b rest in
          ap (λ (xs : List Op). a ∷ xs) (from_more b rest op) ∙ sym (behind_cons a op (united_from b rest) some.0 some.1 some.2))
    ]

joined_more : (S : List Op) (op : Op) → joined_ops (S ++ op ∷ []) ≡ behind (joined_ops S) op
joined_more [] op = refl
joined_more (a ∷ rest) op = from_more a rest op

-- nothing joined is nothing
pub first_joined : (S out left : List Op) (n : ℕ) (op : Op) → n ≡ 0 → left ≡ take (n - 1) out → out ≡ left ++ [] → out ≡ joined_ops S → left ++ op ∷ [] ≡ joined_ops (S ++ op ∷ [])
first_joined S out left n op none cut e same =
    let empty : left ≡ [] = cut ∙ ap (λ (m : ℕ). take (m - 1) out) none in
    ap (λ (xs : List Op). xs ++ op ∷ []) empty ∙ ap (λ (xs : List Op). behind xs op) (sym (e ∙ append-nil left ∙ empty) ∙ same) ∙ sym (joined_more S op)

more_joined : (S front : List Op) (a op : Op) → front ++ a ∷ [] ≡ joined_ops S → front ++ pair a op ≡ joined_ops (S ++ op ∷ [])
more_joined S front a op e = sym (behind_last front a op) ∙ ap (λ (xs : List Op). behind xs op) e ∙ sym (joined_more S op)

pub one_joined : (S front : List Op) (a op : Op) → joins a op ≡ true → front ++ a ∷ [] ≡ joined_ops S → front ++ united a op ∷ [] ≡ joined_ops (S ++ op ∷ [])
one_joined S front a op one e = sym (ap (λ (b : Bool). front ++ cond b (united a op ∷ []) (a ∷ op ∷ [])) one) ∙ more_joined S front a op e

pub both_joined : (S front : List Op) (a op : Op) → joins a op ≡ false → front ++ a ∷ [] ≡ joined_ops S → (front ++ a ∷ []) ++ op ∷ [] ≡ joined_ops (S ++ op ∷ [])
both_joined S front a op apart e =
    append_assoc front (a ∷ []) (op ∷ []) ∙ sym (ap (λ (b : Bool). front ++ cond b (united a op ∷ []) (a ∷ op ∷ [])) apart) ∙ more_joined S front a op e

-- ---- what holds of each operation

pub all_from : (P : Op → Type 0) → ((a b : Op) → P a → P b → P (united a b)) → (a : Op) (rest : List Op) → P a → AllByRecursion P rest → AllByRecursion P (united_from a rest)
all_from P keeps a [] pa h = (pa, tt)
all_from P keeps a (b ∷ rest) pa h =
    elim (cases_Bool (joins a b)) [
      | inl one ↦ rw one (all_from P keeps (united a b) rest (keeps a b pa h.0) h.1)
      | inr apart ↦ rw apart (pa, all_from P keeps b rest h.0 h.1)
    ]

pub all_joined : (P : Op → Type 0) → ((a b : Op) → P a → P b → P (united a b)) → (xs : List Op) → AllByRecursion P xs → AllByRecursion P (joined_ops xs)
all_joined P keeps [] h = tt
all_joined P keeps (a ∷ rest) h = all_from P keeps a rest h.0 h.1
