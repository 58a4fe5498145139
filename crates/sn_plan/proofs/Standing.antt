-- Operations under fresh names stand in the set that they are put after, and contradict nothing.
use Rattle.std.proofs.Common.{◌≡◌, ℕ, ◌==◌, Bool, true, false, cond, not, ◌&&◌, ◌||◌, if◌then◌else◌, nat_le, List, [], ◌∷◌, ◌++◌, Option, Some, None, is_some, IfSome, refl, sym, ap, ◌∙◌, subst, true≢false, append_assoc, eq-eqb, le-leb}
use Rattle.std.specs.List.{AllByRecursion, cons_option}
use Rattle.std.specs.FinMap.{find}
use Rattle.std.specs.Ordering.{is_eq}
use Rattle.std.proofs.lemmas.Bool.{or_left, or_right, and_from}
use Rattle.std.proofs.lemmas.Cmp.{tied_itself}
use Rattle.sn_session.specs.declared.change.SessionOp.{SessionOp}
use Rattle.rep_op.specs.declared.op.Stamp.{Stamp}
use Rattle.rep_op.specs.declared.op.Put.{Put}
use Rattle.rep_op.specs.declared.op.Op.{Op}
use Rattle.rep_op.specs.declared.op.Op.TheVariants.{Session as OfSession, Put as OfPut, Ack, Retain as OfRetain}
use Rattle.rep_op.specs.declared.op.Retained.{Retained}
use Rattle.rep_op.specs.Orders.{operation_cmp, put_cmp, clock_of, clock_cmp}
use Rattle.rep_op.specs.Sets.{same_client, same_topic, operation_of, operation_at, put_of, put_at, acknowledges, is_acknowledged, retain_of, retain_at, HasOperation, IsConsistent, Agrees, Same}
use Rattle.rep_model.specs.Views.{visible}
use Rattle.rep_model.specs.Topics.{latest}
use Rattle.rep_model.specs.Keep.{is_below, is_outdone, keep}
use Rattle.rep_model.specs.Taking.{AllAgree}
use Rattle.rep_model.proofs.Lookup.{or_else, find-all}
use Rattle.rep_model.proofs.Readers.{operation_exact, put_total, put_exact, clock_total, clock_exact, same_client-true, same_topic-true, operation_at_both, put_at_both, is_acknowledged_both, retain_at_both, operation_at_keep, put_at_keep, retain_at_keep}
use Rattle.rep_model.proofs.Thin.{some_left, some_right}
use Rattle.sn_plan.specs.Own.{IsFreshName, AreFresh}
use Rattle.sn_plan.proofs.Lists.{all-append, all-weaken}
use Rattle.sn_local.proofs.Entries.{same_client-itself, none_or, at_own}

-- ---- what stands

stands-more : (A B : List Op) (op : Op) → HasOperation A op → HasOperation (A ++ B) op
stands-more A B (OfSession c stamp counter change) h = operation_at_both c A B (stamp, counter) ∙ ap (λ a. or_else a (operation_at c B (stamp, counter))) h
stands-more A B (OfPut c p) h = put_at_both c A B (p.seq, p.origin) ∙ ap (λ a. or_else a (put_at c B (p.seq, p.origin))) h
stands-more A B (Ack c origin first last) h = λ seq lower upper. is_acknowledged_both c A B (seq, origin) ∙ ap (λ a. a || is_acknowledged c B (seq, origin)) (h seq lower upper)
stands-more A B (OfRetain t k) h = retain_at_both t A B (clock_of k) ∙ ap (λ a. or_else a (retain_at t B (clock_of k))) h

pub put-alone : (c : List ℕ) (p : Put) → put_at c (OfPut c p ∷ []) (p.seq, p.origin) ≡ Some p
put-alone c p =
    ap (λ b. find put_cmp (p.seq, p.origin) (cons_option (if b then Some ((p.seq, p.origin), p) else None) [])) (same_client-itself c)
    ∙ ap (λ r. cond (is_eq r) (Some p) None) (tied_itself put_total (p.seq, p.origin))

pub retain-alone : (t : List ℕ) (k : Retained) → retain_at t (OfRetain t k ∷ []) (clock_of k) ≡ Some k
retain-alone t k =
    ap (λ b. find clock_cmp (clock_of k) (cons_option (if b then Some (clock_of k, k) else None) [])) (same_client-itself t)
    ∙ ap (λ r. cond (is_eq r) (Some k) None) (tied_itself clock_total (clock_of k))

stands-new : (S : List Op) (op : Op) → IsFreshName S op → HasOperation (S ++ op ∷ []) op
stands-new S (OfSession c stamp counter change) h = at_own c S stamp counter change h
stands-new S (OfPut c p) h = put_at_both c S (OfPut c p ∷ []) (p.seq, p.origin) ∙ none_or (put_at c S (p.seq, p.origin)) (put_at c (OfPut c p ∷ []) (p.seq, p.origin)) h ∙ put-alone c p
stands-new S (OfRetain t k) h = retain_at_both t S (OfRetain t k ∷ []) (clock_of k) ∙ none_or (retain_at t S (clock_of k)) (retain_at t (OfRetain t k ∷ []) (clock_of k)) h ∙ retain-alone t k
stands-new S (Ack c origin first last) h = λ seq lower upper.
    let own : (same_client c c && (origin == origin)) ≡ true = and_from (same_client c c) (origin == origin) (same_client-itself c) (eq-eqb origin origin refl) in
    let from : (same_client c c && (origin == origin) && nat_le first seq) ≡ true = and_from (same_client c c && (origin == origin)) (nat_le first seq) own (le-leb first seq lower) in
    is_acknowledged_both c S (Ack c origin first last ∷ []) (seq, origin)
    ∙ or_right (is_acknowledged c S (seq, origin)) (is_acknowledged c (Ack c origin first last ∷ []) (seq, origin))
    (or_left (acknowledges c (seq, origin) (Ack c origin first last)) false (and_from (same_client c c && (origin == origin) && nat_le first seq) (nat_le seq last) from (le-leb seq last upper)))

pub fresh-stand : (S ops : List Op) → AreFresh S ops → AllByRecursion (HasOperation (S ++ ops)) ops
fresh-stand S [] f = tt
fresh-stand S (op ∷ ops) f = (
  subst (λ T. HasOperation T op) (append_assoc S (op ∷ []) ops) (stands-more (S ++ op ∷ []) ops op (stands-new S op f.0)),
  subst (λ T. AllByRecursion (HasOperation T) ops) (append_assoc S (op ∷ []) ops) (fresh-stand (S ++ op ∷ []) ops f.1),
)

pub plan-consistent : (S ops : List Op) → AreFresh S ops → IsConsistent S → IsConsistent (S ++ ops)
plan-consistent S ops f h = all-append (HasOperation (S ++ ops)) S ops (all-weaken (HasOperation S) (HasOperation (S ++ ops)) (stands-more S ops) S h) (fresh-stand S ops f)

-- ---- what agrees

none_first : {X : Type 0} (a b : Option X) → or_else a b ≡ None → a ≡ None
none_first None b e = refl
none_first (Some x) b e = e

fresh-part : (A B : List Op) (op : Op) → IsFreshName (A ++ B) op → IsFreshName A op
fresh-part A B (OfSession c stamp counter change) h = none_first (operation_at c A (stamp, counter)) (operation_at c B (stamp, counter)) (sym (operation_at_both c A B (stamp, counter)) ∙ h)
fresh-part A B (OfPut c p) h = none_first (put_at c A (p.seq, p.origin)) (put_at c B (p.seq, p.origin)) (sym (put_at_both c A B (p.seq, p.origin)) ∙ h)
fresh-part A B (Ack c origin first last) h = tt
fresh-part A B (OfRetain t k) h = none_first (retain_at t A (clock_of k)) (retain_at t B (clock_of k)) (sym (retain_at_both t A B (clock_of k)) ∙ h)

all-fresh : (S ops : List Op) → AreFresh S ops → AllByRecursion (IsFreshName S) ops
all-fresh S [] f = tt
all-fresh S (op ∷ ops) f = (f.0, all-weaken (IsFreshName (S ++ op ∷ [])) (IsFreshName S) (fresh-part S (op ∷ [])) ops (all-fresh (S ++ op ∷ []) ops f.1))

fresh-operation : (S : List Op) (c : List ℕ) (op : Op) → IsFreshName S op → IfSome (operation_of c op) (λ e. operation_at c S e.0 ≡ None)
fresh-operation S c (OfSession d stamp counter change) h =
    elim (same_client c d) as (λ b. same_client c d ≡ b → IfSome {T = (Stamp × ℕ) × SessionOp} (if b then Some ((stamp, counter), change) else None) (λ e. operation_at c S e.0 ≡ None)) [
      | true ↦ λ t. ap (λ x. operation_at x S (stamp, counter)) (same_client-true c d t) ∙ h
      | false ↦ λ _. tt
    ] refl
fresh-operation S c (OfPut d p) h = tt
fresh-operation S c (Ack d origin first last) h = tt
fresh-operation S c (OfRetain t k) h = tt

fresh-put : (S : List Op) (c : List ℕ) (op : Op) → IsFreshName S op → IfSome (put_of c op) (λ e. put_at c S e.0 ≡ None)
fresh-put S c (OfSession d stamp counter change) h = tt
fresh-put S c (OfPut d p) h =
    elim (same_client c d) as (λ b. same_client c d ≡ b → IfSome {T = (ℕ × ℕ) × Put} (if b then Some ((p.seq, p.origin), p) else None) (λ e. put_at c S e.0 ≡ None)) [
      | true ↦ λ t. ap (λ x. put_at x S (p.seq, p.origin)) (same_client-true c d t) ∙ h
      | false ↦ λ _. tt
    ] refl
fresh-put S c (Ack d origin first last) h = tt
fresh-put S c (OfRetain t k) h = tt

fresh-retain : (S : List Op) (t : List ℕ) (op : Op) → IsFreshName S op → IfSome (retain_of t op) (λ e. retain_at t S e.0 ≡ None)
fresh-retain S t (OfSession d stamp counter change) h = tt
fresh-retain S t (OfPut d p) h = tt
fresh-retain S t (Ack d origin first last) h = tt
fresh-retain S t (OfRetain u k) h =
    elim (same_topic t u) as (λ b. same_topic t u ≡ b → IfSome {T = (ℕ × ℕ) × Retained} (if b then Some (clock_of k, k) else None) (λ e. retain_at t S e.0 ≡ None)) [
      | true ↦ λ same. ap (λ x. retain_at x S (clock_of k)) (same_topic-true t u same) ∙ h
      | false ↦ λ _. tt
    ] refl

if_there : {X Y : Type 0} (o p : Option X) (q : Option Y) → IfSome o (λ _. q ≡ None) → p ≡ o → is_some p ≡ true → q ≡ None
if_there None p q h e s = absurd (true≢false (sym s ∙ ap is_some e))
if_there (Some x) p q h e s = h

-- a list has something under the name of each of its operations
abbrev pub IsThere : List Op → Op → Type 0
IsThere D (OfSession c stamp counter change) = is_some (operation_at c D (stamp, counter)) ≡ true
IsThere D (OfPut c p) = is_some (put_at c D (p.seq, p.origin)) ≡ true
IsThere D (Ack c origin first last) = Unit {0}
IsThere D (OfRetain t k) = is_some (retain_at t D (clock_of k)) ≡ true

there-behind : (op : Op) (D : List Op) (other : Op) → IsThere D other → IsThere (op ∷ D) other
there-behind op D (OfSession c stamp counter change) h = ap is_some (operation_at_both c (op ∷ []) D (stamp, counter)) ∙ some_right (operation_at c (op ∷ []) (stamp, counter)) (operation_at c D (stamp, counter)) h
there-behind op D (OfPut c p) h = ap is_some (put_at_both c (op ∷ []) D (p.seq, p.origin)) ∙ some_right (put_at c (op ∷ []) (p.seq, p.origin)) (put_at c D (p.seq, p.origin)) h
there-behind op D (Ack c origin first last) h = tt
there-behind op D (OfRetain t k) h = ap is_some (retain_at_both t (op ∷ []) D (clock_of k)) ∙ some_right (retain_at t (op ∷ []) (clock_of k)) (retain_at t D (clock_of k)) h

there-first : (op : Op) (D : List Op) → IsThere (op ∷ D) op
there-first (OfSession c stamp counter change) D = ap is_some (operation_at_both c (OfSession c stamp counter change ∷ []) D (stamp, counter)) ∙ some_left (operation_at c (OfSession c stamp counter change ∷ []) (stamp, counter)) (operation_at c D (stamp, counter)) (ap is_some (at_own c [] stamp counter change refl))
there-first (OfPut c p) D = ap is_some (put_at_both c (OfPut c p ∷ []) D (p.seq, p.origin)) ∙ some_left (put_at c (OfPut c p ∷ []) (p.seq, p.origin)) (put_at c D (p.seq, p.origin)) (ap is_some (put-alone c p))
there-first (Ack c origin first last) D = tt
there-first (OfRetain t k) D = ap is_some (retain_at_both t (OfRetain t k ∷ []) D (clock_of k)) ∙ some_left (retain_at t (OfRetain t k ∷ []) (clock_of k)) (retain_at t D (clock_of k)) (ap is_some (retain-alone t k))

pub all-there : (D : List Op) → AllByRecursion (IsThere D) D
all-there [] = tt
all-there (op ∷ D) = (there-first op D, all-weaken (IsThere D) (IsThere (op ∷ D)) (there-behind op D) D (all-there D))

none_kept : {X : Type 0} (b : Bool) (o : Option X) → o ≡ None → cond b o None ≡ None
none_kept true o e = e
none_kept false o e = refl

-- what stands in fresh operations does not stand in the set
pub fresh-absent : (S ops : List Op) → AreFresh S ops → (c : List ℕ) (name : Stamp × ℕ) → IfSome (operation_at c ops name) (λ _. operation_at c S name ≡ None)
fresh-absent S ops f c name = find-all operation_cmp operation_exact (operation_of c) (λ n x. operation_at c S n ≡ None) ops (all-weaken (IsFreshName S) (λ op. IfSome (operation_of c op) (λ e. operation_at c S e.0 ≡ None)) (fresh-operation S c) ops (all-fresh S ops f)) name

module _ (S ops : List Op) (f : AreFresh S ops) (delta : List Op) (same : Same delta ops) where
  pub new-operation : (c : List ℕ) (name : Stamp × ℕ) → is_some (operation_at c delta name) ≡ true → operation_at c S name ≡ None
  new-operation c name = if_there (operation_at c ops name) (operation_at c delta name) (operation_at c S name) (fresh-absent S ops f c name) (same.operations_same c name)

  pub new-put : (c : List ℕ) (name : ℕ × ℕ) → is_some (put_at c delta name) ≡ true → put_at c S name ≡ None
  new-put c name = if_there (put_at c ops name) (put_at c delta name) (put_at c S name)
      (find-all put_cmp put_exact (put_of c) (λ n x. put_at c S n ≡ None) ops (all-weaken (IsFreshName S) (λ op. IfSome (put_of c op) (λ e. put_at c S e.0 ≡ None)) (fresh-put S c) ops (all-fresh S ops f)) name)
      (same.puts_same c name)

  pub new-retain : (t : List ℕ) (name : ℕ × ℕ) → is_some (retain_at t delta name) ≡ true → retain_at t S name ≡ None
  new-retain t name = if_there (retain_at t ops name) (retain_at t delta name) (retain_at t S name)
      (find-all clock_cmp clock_exact (retain_of t) (λ n x. retain_at t S n ≡ None) ops (all-weaken (IsFreshName S) (λ op. IfSome (retain_of t op) (λ e. retain_at t S e.0 ≡ None)) (fresh-retain S t) ops (all-fresh S ops f)) name)
      (same.retains_same t name)

  agree : (op : Op) → IsThere delta op → Agrees S op × Agrees (keep S) op
  agree (OfSession c stamp counter change) h =
      let none : operation_at c S (stamp, counter) ≡ None = new-operation c (stamp, counter) h in
      let kept : operation_at c (keep S) (stamp, counter) ≡ None = operation_at_keep c S (stamp, counter) ∙ none_kept (not (is_below stamp (visible c S))) (operation_at c S (stamp, counter)) none in
      (subst (λ o. IfSome o (λ x. x ≡ change)) (sym none) tt, subst (λ o. IfSome o (λ x. x ≡ change)) (sym kept) tt)
  agree (OfPut c p) h =
      let none : put_at c S (p.seq, p.origin) ≡ None = new-put c (p.seq, p.origin) h in
      let kept : put_at c (keep S) (p.seq, p.origin) ≡ None = put_at_keep c S (p.seq, p.origin) ∙ none_kept (not (is_acknowledged c S (p.seq, p.origin))) (put_at c S (p.seq, p.origin)) none in
      (subst (λ o. IfSome o (λ x. x ≡ p)) (sym none) tt, subst (λ o. IfSome o (λ x. x ≡ p)) (sym kept) tt)
  agree (Ack c origin first last) h = (tt, tt)
  agree (OfRetain t k) h =
      let none : retain_at t S (clock_of k) ≡ None = new-retain t (clock_of k) h in
      let kept : retain_at t (keep S) (clock_of k) ≡ None = retain_at_keep t S (clock_of k) ∙ none_kept (not (is_outdone (clock_of k) (latest t S))) (retain_at t S (clock_of k)) none in
      (subst (λ o. IfSome o (λ x. x ≡ k)) (sym none) tt, subst (λ o. IfSome o (λ x. x ≡ k)) (sym kept) tt)

  pub plan-fits : AllAgree S delta × AllAgree (keep S) delta
  plan-fits = (
    all-weaken (IsThere delta) (Agrees S) (λ op h. (agree op h).0) delta (all-there delta),
    all-weaken (IsThere delta) (Agrees (keep S)) (λ op h. (agree op h).1) delta (all-there delta),
  )
