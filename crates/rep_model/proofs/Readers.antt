-- The readers of two sets together, and of what is kept of a set.
use Rattle.std.proofs.Common.{◌≡◌, ℕ, Bool, true, false, cond, not, ◌&&◌, ◌||◌, ◌==◌, List, [], ◌∷◌, ◌++◌, filter_map, if◌then◌else◌, Some, None, is_some, IfSome, refl, sym, ap, ◌∙◌, true≢false, Ordering, Less, Equal, Greater, nat_cmp, is_eq, arith}
use Rattle.std.specs.List.{cons_option}
use Rattle.std.specs.Cmp.{IsTotalOrder}
use Rattle.std.specs.Ordering.{ordering_then}
use Rattle.std.specs.FinMap.{find}
use Rattle.std.specs.FinMap.Entries.{find-where_key, is_some-find}
use Rattle.std.proofs.lemmas.Cmp.{then_total, on_total, nat_cmp_total, nat_list_cmp_total}
use Rattle.std.proofs.lemmas.List.Elements.{filter_map-append}
use Rattle.std.proofs.lemmas.List.Folds.{list_any-append}
use Rattle.std.proofs.lemmas.Map.Lookups.{CmpEqualImpliesEq, exact_unsigned, exact_pairs, exact_bytes}
use Rattle.std.proofs.lemmas.Bool.Decides.{nat_tests}
use Rattle.std.proofs.lemmas.Slice.Eq.{bytes_eq-Decides}
use Rattle.sn_session.specs.declared.change.SessionOp.{SessionOp}
use Rattle.rep_op.specs.declared.op.Stamp.{Stamp}
use Rattle.rep_op.specs.declared.op.Put.{Put}
use Rattle.rep_op.specs.declared.op.Op.{Op}
use Rattle.rep_op.specs.declared.op.Retained.{Retained}
use Rattle.rep_op.specs.declared.op.Op.TheVariants.{Session as OfSession, Put as OfPut, Ack, Retain as OfRetain}
use Rattle.rep_op.specs.Orders.{stamp_cmp, operation_cmp, put_cmp, client_cmp, topic_name_cmp, clock_of, clock_cmp}
use Rattle.rep_op.specs.Sets.{same_client, operation_of, operations, operation_at, put_of, puts, put_at, acknowledges, is_acknowledged, same_topic, retain_of, retains, retain_at}
use Rattle.rep_model.specs.Views.{take_stamp, names, visible}
use Rattle.rep_model.specs.Topics.{clocks, latest}
use Rattle.rep_model.specs.Keep.{is_below, is_outdone, is_kept, keep}
use Rattle.rep_model.proofs.Lookup.{or_else, find_both, filter_map-filter, list_any-filter}
use Rattle.rep_model.proofs.Greatest.{has}

-- the orders of names are total, and only equal names tie
pub stamp_total : IsTotalOrder stamp_cmp
stamp_total = then_total (on_total (λ (s : Stamp). s.epoch) nat_cmp_total) (on_total (λ (s : Stamp). s.gateway) nat_cmp_total)

pub stamp_exact : CmpEqualImpliesEq stamp_cmp
stamp_exact a b e =
    let p = exact_pairs nat_cmp nat_cmp exact_unsigned exact_unsigned (a.epoch, a.gateway) (b.epoch, b.gateway) e in
    λ i. record { epoch = (p i).0; gateway = (p i).1 }

pub operation_total : IsTotalOrder operation_cmp
operation_total = then_total (on_total (λ (n : Stamp × ℕ). n.0) stamp_total) (on_total (λ (n : Stamp × ℕ). n.1) nat_cmp_total)

pub operation_exact : CmpEqualImpliesEq operation_cmp
operation_exact = exact_pairs stamp_cmp nat_cmp stamp_exact exact_unsigned

pub put_total : IsTotalOrder put_cmp
put_total = then_total (on_total (λ (n : ℕ × ℕ). n.0) nat_cmp_total) (on_total (λ (n : ℕ × ℕ). n.1) nat_cmp_total)

pub put_exact : CmpEqualImpliesEq put_cmp
put_exact = exact_pairs nat_cmp nat_cmp exact_unsigned exact_unsigned

pub client_total : IsTotalOrder client_cmp
client_total = nat_list_cmp_total

pub client_exact : CmpEqualImpliesEq client_cmp
client_exact = exact_bytes

pub clock_total : IsTotalOrder clock_cmp
clock_total = then_total (on_total (λ (n : ℕ × ℕ). n.0) nat_cmp_total) (on_total (λ (n : ℕ × ℕ). n.1) nat_cmp_total)

pub clock_exact : CmpEqualImpliesEq clock_cmp
clock_exact = exact_pairs nat_cmp nat_cmp exact_unsigned exact_unsigned

pub topic_total : IsTotalOrder topic_name_cmp
topic_total = nat_list_cmp_total

pub topic_exact : CmpEqualImpliesEq topic_name_cmp
topic_exact = exact_bytes

pub same_topic-true : (t u : List ℕ) → same_topic t u ≡ true → t ≡ u
same_topic-true t u e = (bytes_eq-Decides t u).0 e

pub same_client-true : (c d : List ℕ) → same_client c d ≡ true → c ≡ d
same_client-true c d e = (bytes_eq-Decides c d).0 e

-- two sets together
module _ (c : List ℕ) (A B : List Op) where
  pub operation_at_both : (name : Stamp × ℕ) → operation_at c (A ++ B) name ≡ or_else (operation_at c A name) (operation_at c B name)
  operation_at_both name = ap (find operation_cmp name) (filter_map-append (operation_of c) A B) ∙ find_both operation_cmp name (operations c A) (operations c B)

  pub put_at_both : (name : ℕ × ℕ) → put_at c (A ++ B) name ≡ or_else (put_at c A name) (put_at c B name)
  put_at_both name = ap (find put_cmp name) (filter_map-append (put_of c) A B) ∙ find_both put_cmp name (puts c A) (puts c B)

  pub is_acknowledged_both : (name : ℕ × ℕ) → is_acknowledged c (A ++ B) name ≡ (is_acknowledged c A name || is_acknowledged c B name)
  is_acknowledged_both name = list_any-append (acknowledges c name) A B

  pub retain_at_both : (name : ℕ × ℕ) → retain_at c (A ++ B) name ≡ or_else (retain_at c A name) (retain_at c B name)
  retain_at_both name = ap (find clock_cmp name) (filter_map-append (retain_of c) A B) ∙ find_both clock_cmp name (retains c A) (retains c B)

-- what is kept of a set
module _ (c : List ℕ) (S : List Op) where
  kept_operation : (op : Op) → IfSome (operation_of c op) (λ e. is_kept S op ≡ not (is_below e.0.0 (visible c S)))
  kept_operation (OfSession d stamp counter change) =
      elim (same_client c d) as (λ b. same_client c d ≡ b → IfSome {T = (Stamp × ℕ) × SessionOp} (if b then Some ((stamp, counter), change) else None) (λ e. not (is_below stamp (visible d S)) ≡ not (is_below e.0.0 (visible c S)))) [
        | true ↦ λ e. ap (λ x. not (is_below stamp (visible x S))) (sym (same_client-true c d e))
        | false ↦ λ _. tt
      ] refl
  kept_operation (OfPut d put) = tt
  kept_operation (Ack d origin first last) = tt
  kept_operation (OfRetain u kept) = tt

  pub operation_at_keep : (name : Stamp × ℕ) → operation_at c (keep S) name ≡ cond (not (is_below name.0 (visible c S))) (operation_at c S name) None
  operation_at_keep name =
      ap (find operation_cmp name) (filter_map-filter (operation_of c) (is_kept S) (λ n. not (is_below n.0 (visible c S))) kept_operation S)
      ∙ find-where_key operation_cmp (λ n. not (is_below n.0 (visible c S))) name (λ x t. ap (λ (n : Stamp × ℕ). not (is_below n.0 (visible c S))) (sym (operation_exact name x t))) (operations c S)

  kept_put : (op : Op) → IfSome (put_of c op) (λ e. is_kept S op ≡ not (is_acknowledged c S e.0))
  kept_put (OfSession d stamp counter change) = tt
  kept_put (OfPut d put) =
      elim (same_client c d) as (λ b. same_client c d ≡ b → IfSome {T = (ℕ × ℕ) × Put} (if b then Some ((put.seq, put.origin), put) else None) (λ e. not (is_acknowledged d S (put.seq, put.origin)) ≡ not (is_acknowledged c S e.0))) [
        | true ↦ λ e. ap (λ x. not (is_acknowledged x S (put.seq, put.origin))) (sym (same_client-true c d e))
        | false ↦ λ _. tt
      ] refl
  kept_put (Ack d origin first last) = tt
  kept_put (OfRetain u kept) = tt

  pub put_at_keep : (name : ℕ × ℕ) → put_at c (keep S) name ≡ cond (not (is_acknowledged c S name)) (put_at c S name) None
  put_at_keep name =
      ap (find put_cmp name) (filter_map-filter (put_of c) (is_kept S) (λ n. not (is_acknowledged c S n)) kept_put S)
      ∙ find-where_key put_cmp (λ n. not (is_acknowledged c S n)) name (λ x t. ap (λ n. not (is_acknowledged c S n)) (sym (put_exact name x t))) (puts c S)

  kept_acknowledgement : (name : ℕ × ℕ) (op : Op) → acknowledges c name op ≡ true → is_kept S op ≡ true
  kept_acknowledgement name (OfSession d stamp counter change) e = absurd (true≢false (sym e))
  kept_acknowledgement name (OfPut d put) e = absurd (true≢false (sym e))
  kept_acknowledgement name (Ack d origin first last) e = refl
  kept_acknowledgement name (OfRetain u kept) e = absurd (true≢false (sym e))

  pub is_acknowledged_keep : (name : ℕ × ℕ) → is_acknowledged c (keep S) name ≡ is_acknowledged c S name
  is_acknowledged_keep name = list_any-filter (acknowledges c name) (is_kept S) (kept_acknowledgement name) S

  kept_retain : (op : Op) → IfSome (retain_of c op) (λ e. is_kept S op ≡ not (is_outdone e.0 (latest c S)))
  kept_retain (OfSession d stamp counter change) = tt
  kept_retain (OfPut d put) = tt
  kept_retain (Ack d origin first last) = tt
  kept_retain (OfRetain u kept) =
      elim (same_topic c u) as (λ b. same_topic c u ≡ b → IfSome {T = (ℕ × ℕ) × Retained} (if b then Some (clock_of kept, kept) else None) (λ e. not (is_outdone (clock_of kept) (latest u S)) ≡ not (is_outdone e.0 (latest c S)))) [
        | true ↦ λ e. ap (λ x. not (is_outdone (clock_of kept) (latest x S))) (sym (same_topic-true c u e))
        | false ↦ λ _. tt
      ] refl

  pub retain_at_keep : (name : ℕ × ℕ) → retain_at c (keep S) name ≡ cond (not (is_outdone name (latest c S))) (retain_at c S name) None
  retain_at_keep name =
      ap (find clock_cmp name) (filter_map-filter (retain_of c) (is_kept S) (λ n. not (is_outdone n (latest c S))) kept_retain S)
      ∙ find-where_key clock_cmp (λ n. not (is_outdone n (latest c S))) name (λ x t. ap (λ (n : ℕ × ℕ). not (is_outdone n (latest c S))) (sym (clock_exact name x t))) (retains c S)

-- the names under which something was retained are those that a reader finds
pub has_clock : (t : List ℕ) (S : List Op) (name : ℕ × ℕ) → has clock_cmp name (clocks t S) ≡ is_some (retain_at t S name)
has_clock t S name = sym (is_some-find clock_cmp name (retains t S))

-- the stamps whose Take is there
abbrev pub takes : List ℕ → List Op → List Stamp
takes c S = filter_map take_stamp (names (operations c S))

at_zero : (r : Ordering) (k : ℕ) → is_eq (ordering_then r (nat_cmp 0 k)) ≡ (is_eq r && (k == 0))
at_zero Less k = refl
at_zero Equal k = grind (arith, nat_tests)
at_zero Greater k = refl

and_true : (b : Bool) → b ≡ (b && true)
and_true true = refl
and_true false = refl

and_false : (b : Bool) → false ≡ (b && false)
and_false true = refl
and_false false = refl

has_zero : (s : Stamp) (ns : List (Stamp × ℕ)) → has stamp_cmp s (filter_map take_stamp ns) ≡ has operation_cmp (s, 0) ns
has_zero s [] = refl
has_zero s (n ∷ ns) =
    let rest = has_zero s ns in
    elim (n.1 == 0) as (λ b. has stamp_cmp s (cons_option (if b then Some n.0 else None) (filter_map take_stamp ns)) ≡ ((is_eq (stamp_cmp s n.0) && b) || has operation_cmp (s, 0) ns)) [
      | true ↦ λ i. and_true (is_eq (stamp_cmp s n.0)) i || rest i
      | false ↦ rest ∙ ap (λ b. b || has operation_cmp (s, 0) ns) (and_false (is_eq (stamp_cmp s n.0)))
    ] ∙ ap (λ b. b || has operation_cmp (s, 0) ns) (sym (at_zero (stamp_cmp s n.0) n.1))

pub has_take : (c : List ℕ) (S : List Op) (s : Stamp) → has stamp_cmp s (takes c S) ≡ is_some (operation_at c S (s, 0))
has_take c S s = has_zero s (names (operations c S)) ∙ sym (is_some-find operation_cmp (s, 0) (operations c S))
