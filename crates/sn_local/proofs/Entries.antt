-- The session operations of a client after one more.
use Rattle.std.proofs.Common.{◌≡◌, ℕ, ◌≤◌, true, false, cond, if◌then◌else◌, List, [], ◌∷◌, ◌++◌, filter_map, Option, Some, None, is_some, IfSome, refl, sym, ap, ◌∙◌, subst, true≢false, append-nil, arith}
use Rattle.std.specs.List.{cons_option}
use Rattle.std.specs.FinMap.{find}
use Rattle.std.specs.Ordering.{eq_by_cmp}
use Rattle.std.proofs.lemmas.Map.Views.{tells_apart}
use Rattle.std.proofs.lemmas.List.Elements.{filter_map-append}
use Rattle.std.proofs.lemmas.Slice.Eq.{bytes_eq-Decides}
use Rattle.std.proofs.lemmas.Cmp.{tied_itself}
use Rattle.std.specs.Ordering.{is_eq}
use Rattle.sn_session.specs.declared.change.SessionOp.{SessionOp}
use Rattle.rep_op.specs.declared.op.Stamp.{Stamp}
use Rattle.rep_op.specs.declared.op.Op.{Op}
use Rattle.rep_op.specs.declared.op.Op.TheVariants.{Session as OfSession}
use Rattle.rep_op.specs.Orders.{stamp_cmp, operation_cmp, put_cmp}
use Rattle.rep_op.specs.Sets.{same_client, operation_of, operations, operation_at, puts, put_at}
use Rattle.rep_model.specs.Views.{greatest, take_stamp, names, visible, history_at, history}
use Rattle.rep_model.specs.Fresh.{largest, one_more, greatest_epoch, next_epoch}
use Rattle.rep_model.proofs.Lookup.{or_else}
use Rattle.rep_model.proofs.Greatest.{has, same_greatest, greatest-has}
use Rattle.rep_model.proofs.Readers.{stamp_total, stamp_exact, operation_total, operation_exact, same_client-true, operation_at_both, put_at_both, takes, has_take}
use Rattle.rep_model.proofs.Thin.{some_left}
use Rattle.rep_model.proofs.Fresh.{epoch-at_most, epoch-reaches}

pub same_client-itself : (c : List ℕ) → same_client c c ≡ true
same_client-itself c = (bytes_eq-Decides c c).1 refl

pub same_client-apart : (c d : List ℕ) → ¬ (c ≡ d) → same_client c d ≡ false
same_client-apart c d h = elim (same_client c d) as (λ b. same_client c d ≡ b → b ≡ false) [ true ↦ λ e. absurd (h (same_client-true c d e)) | false ↦ λ _. refl ] refl

pub or_none : {X : Type 0} (a : Option X) → or_else a None ≡ a
or_none None = refl
or_none (Some x) = refl

pub none_or : {X : Type 0} (a b : Option X) → a ≡ None → or_else a b ≡ b
none_or a b e = ap (λ o. or_else o b) e

some_none : {X : Type 0} (a : Option X) → is_some a ≡ true → a ≡ None → ⊥
some_none a h e = true≢false (sym h ∙ ap is_some e)

pub by_some : {X : Type 0} (a : Option X) → (is_some a ≡ true → ⊥) → a ≡ None
by_some None f = refl
by_some (Some x) f = absurd (f refl)

-- nothing is put after: the client's operations stay
pub operations-same : (c : List ℕ) (A B : List Op) → operations c B ≡ [] → operations c (A ++ B) ≡ operations c A
operations-same c A B e = filter_map-append (operation_of c) A B ∙ ap (λ es. operations c A ++ es) e ∙ append-nil (operations c A)

-- the same Takes, the same visible stamp
pub visible-same : (c : List ℕ) (A B : List Op) → ((s : Stamp) → is_some (operation_at c A (s, 0)) ≡ is_some (operation_at c B (s, 0))) → visible c A ≡ visible c B
visible-same c A B same = same_greatest stamp_cmp stamp_total stamp_exact (takes c A) (takes c B)
    (λ s h. has_take c B s ∙ sym (same s) ∙ sym (has_take c A s) ∙ h)
    (elim (visible c B) as (λ v. IfSome v (λ g. has stamp_cmp g (takes c B) ≡ true) → IfSome v (λ g. has stamp_cmp g (takes c A) ≡ true)) [
      | None ↦ λ _. tt
      | Some g ↦ λ h. has_take c A g ∙ same g ∙ sym (has_take c B g) ∙ h
    ] (greatest-has stamp_cmp stamp_total (takes c B)))

-- the visible stamp has its Take
pub visible-there : (c : List ℕ) (S : List Op) (s : Stamp) → visible c S ≡ Some s → is_some (operation_at c S (s, 0)) ≡ true
visible-there c S s e = sym (has_take c S s) ∙ subst (λ v. IfSome v (λ g. has stamp_cmp g (takes c S) ≡ true)) e (greatest-has stamp_cmp stamp_total (takes c S))

module _ (c : List ℕ) (A : List Op) (stamp : Stamp) (counter : ℕ) (change : SessionOp) where
  -- the set with one more session operation of the client
  abbrev pub one_more_op : List Op
  one_more_op = A ++ OfSession c stamp counter change ∷ []

  alone : (name : Stamp × ℕ) → operation_at c (OfSession c stamp counter change ∷ []) name ≡ cond (eq_by_cmp operation_cmp name (stamp, counter)) (Some change) None
  alone name = ap (λ b. find operation_cmp name (cons_option (if b then Some ((stamp, counter), change) else None) [])) (same_client-itself c)

  pub at_own : operation_at c A (stamp, counter) ≡ None → operation_at c one_more_op (stamp, counter) ≡ Some change
  at_own e = operation_at_both c A (OfSession c stamp counter change ∷ []) (stamp, counter)
      ∙ none_or (operation_at c A (stamp, counter)) (operation_at c (OfSession c stamp counter change ∷ []) (stamp, counter)) e
      ∙ alone (stamp, counter)
      ∙ ap (λ r. cond (is_eq r) (Some change) None) (tied_itself operation_total (stamp, counter))

  apart : (name : Stamp × ℕ) → ¬ (name ≡ (stamp, counter)) → eq_by_cmp operation_cmp name (stamp, counter) ≡ false
  apart name h = elim (eq_by_cmp operation_cmp name (stamp, counter)) as (λ b. eq_by_cmp operation_cmp name (stamp, counter) ≡ b → b ≡ false) [
    | true ↦ λ t. absurd (h (tells_apart operation_exact name (stamp, counter) t))
    | false ↦ λ _. refl
  ] refl

  pub at_other : (name : Stamp × ℕ) → ¬ (name ≡ (stamp, counter)) → operation_at c one_more_op name ≡ operation_at c A name
  at_other name h = operation_at_both c A (OfSession c stamp counter change ∷ []) name
      ∙ ap (or_else (operation_at c A name)) (alone name ∙ ap (λ b. cond b (Some change) None) (apart name h))
      ∙ or_none (operation_at c A name)

  -- what stands in the larger set stood before, or is the new one
  pub at_either : {P : Type 0} (name : Stamp × ℕ) → is_some (operation_at c one_more_op name) ≡ true → (is_some (operation_at c A name) ≡ true → P) → (name ≡ (stamp, counter) → P) → P
  at_either {P} name h before own = elim (eq_by_cmp operation_cmp name (stamp, counter)) as (λ b. eq_by_cmp operation_cmp name (stamp, counter) ≡ b → P) [
    | true ↦ λ t. own (tells_apart operation_exact name (stamp, counter) t)
    | false ↦ λ f. before (ap is_some (sym (at_other name (λ e. true≢false (sym (ap (λ n. eq_by_cmp operation_cmp n (stamp, counter)) e ∙ ap is_eq (tied_itself operation_total (stamp, counter))) ∙ f)))) ∙ h)
  ] refl

  pub at_before : (name : Stamp × ℕ) → is_some (operation_at c A name) ≡ true → is_some (operation_at c one_more_op name) ≡ true
  at_before name h = ap is_some (operation_at_both c A (OfSession c stamp counter change ∷ []) name) ∙ some_left (operation_at c A name) (operation_at c (OfSession c stamp counter change ∷ []) name) h

  pub epochs-more : (n : ℕ) → greatest_epoch c A ≤ n → stamp.epoch ≤ n → greatest_epoch c one_more_op ≤ n
  epochs-more n old own = epoch-at_most c one_more_op n (λ name h. at_either name h
      (λ there. omega (arith, epoch-reaches c A name there, old))
      (λ e. let same : name.0.epoch ≡ stamp.epoch = ap (λ (m : Stamp × ℕ). m.0.epoch) e in omega (arith, same, own)))

  pub epochs-grow : greatest_epoch c A ≤ greatest_epoch c one_more_op
  epochs-grow = epoch-at_most c A (greatest_epoch c one_more_op) (λ name h. epoch-reaches c one_more_op name (at_before name h))

-- a list without puts of the client
pub puts-other : (c : List ℕ) (A B : List Op) (name : ℕ × ℕ) → puts c B ≡ [] → put_at c (A ++ B) name ≡ put_at c A name
puts-other c A B name e = put_at_both c A B name ∙ ap (λ es. or_else (put_at c A name) (find put_cmp name es)) e ∙ or_none (put_at c A name)

-- the visible stamp and the history are read off the client's session operations
pub visible-by : (c : List ℕ) (A B : List Op) → operations c A ≡ operations c B → visible c A ≡ visible c B
visible-by c A B e = ap (λ es. greatest stamp_cmp (filter_map take_stamp (names es))) e

pub history-by : (c : List ℕ) (A B : List Op) → operations c A ≡ operations c B → history c A ≡ history c B
history-by c A B e = ap (λ es. history_at (λ name. find operation_cmp name es) (greatest stamp_cmp (filter_map take_stamp (names es)))) e

pub next_epoch-by : (c : List ℕ) (A B : List Op) → operations c A ≡ operations c B → next_epoch c A ≡ next_epoch c B
next_epoch-by c A B e = ap (λ es. one_more (largest (λ (name : Stamp × ℕ). name.0.epoch) (names es))) e
