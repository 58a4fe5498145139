-- What is said of a client is said by the client's own operations.
use Rattle.std.proofs.Common.{◌≡◌, ℕ, Bool, true, false, not, cond, ◌&&◌, ◌||◌, ◌==◌, if◌then◌else◌, nat_le, List, [], ◌∷◌, length, map, filter, Option, Some, None, max, refl, sym, ap, ◌∙◌, true≢false, arith}
use Rattle.std.specs.List.{filter_map, list_any, cons_option}
use Rattle.std.specs.FinMap.{find}
use Rattle.std.proofs.lemmas.Slice.Eq.{bytes_eq-Decides}
use Rattle.sn_session.specs.declared.change.SessionOp.{SessionOp}
use Rattle.rep_op.specs.declared.op.Stamp.{Stamp}
use Rattle.rep_op.specs.declared.op.Op.{Op}
use Rattle.rep_op.specs.declared.op.Op.TheVariants.{Session as OfSession, Put as OfPut, Ack, Retain as OfRetain}
use Rattle.rep_op.specs.Orders.{stamp_cmp, operation_cmp, put_cmp, clock_cmp, client_of}
use Rattle.rep_op.specs.Sets.{same_client, operation_of, operations, operation_at, put_of, puts, put_at, acknowledges, is_acknowledged, retain_of, retains, retain_at}
use Rattle.rep_model.specs.Views.{greatest, take_stamp, names, visible, history, history_at, session_made, in_order, pending, view, names_client, is_named}
use Rattle.rep_model.specs.Fresh.{largest, seq_of, greatest_epoch}
use Rattle.rep_model.specs.Limits.{is_parked, parked, range_of, joined, above_a_gap, sum_to, exceptions}
use Rattle.rep_shared.specs.inner.Rows.{of_client}

-- a reader that reads nothing of other clients
reads_own : {X : Type 0} (c : List ℕ) (f : Op → Option X) → ((op : Op) → same_client c (client_of op) ≡ false → f op ≡ None) → (S : List Op) → filter_map f S ≡ filter_map f (of_client c S)
reads_own c f h [] = refl
reads_own c f h (op ∷ S) =
    let rest = reads_own c f h S in
    elim (same_client c (client_of op)) as (λ b. same_client c (client_of op) ≡ b → cons_option (f op) (filter_map f S) ≡ filter_map f (cond b (op ∷ of_client c S) (of_client c S))) [
      | true ↦ λ _. ap (cons_option (f op)) rest
      | false ↦ λ e. ap (λ o. cons_option o (filter_map f S)) (h op e) ∙ rest
    ] refl

-- a test that no operation of another client passes
pub tests_own : (c : List ℕ) (t : Op → Bool) → ((op : Op) → same_client c (client_of op) ≡ false → t op ≡ false) → (S : List Op) → list_any t S ≡ list_any t (of_client c S)
tests_own c t h [] = refl
tests_own c t h (op ∷ S) =
    let rest = tests_own c t h S in
    elim (same_client c (client_of op)) as (λ b. same_client c (client_of op) ≡ b → (t op || list_any t S) ≡ list_any t (cond b (op ∷ of_client c S) (of_client c S))) [
      | true ↦ λ _. ap (λ b. t op || b) rest
      | false ↦ λ e. ap (λ b. b || list_any t S) (h op e) ∙ rest
    ] refl

-- numbers of which other clients have none
largest_own : (c : List ℕ) (f : Op → ℕ) → ((op : Op) → same_client c (client_of op) ≡ false → f op ≡ 0) → (S : List Op) → largest f S ≡ largest f (of_client c S)
largest_own c f h [] = refl
largest_own c f h (op ∷ S) =
    let rest = largest_own c f h S in
    elim (same_client c (client_of op)) as (λ b. same_client c (client_of op) ≡ b → max (f op) (largest f S) ≡ largest f (cond b (op ∷ of_client c S) (of_client c S))) [
      | true ↦ λ _. ap (max (f op)) rest
      | false ↦ λ e. ap (λ n. max n (largest f S)) (h op e) ∙ no_more (largest f S) ∙ rest
    ] refl
  where
    no_more : (n : ℕ) → max 0 n ≡ n
    no_more n = omega arith

module _ (c : List ℕ) (S : List Op) where
  other_operation : (op : Op) → same_client c (client_of op) ≡ false → operation_of c op ≡ None
  other_operation (OfSession d stamp counter change) e = ap (λ b. if b then Some ((stamp, counter), change) else None) e
  other_operation (OfPut d put) e = refl
  other_operation (Ack d origin first last) e = refl
  other_operation (OfRetain t k) e = refl

  other_put : (op : Op) → same_client c (client_of op) ≡ false → put_of c op ≡ None
  other_put (OfSession d stamp counter change) e = refl
  other_put (OfPut d put) e = ap (λ b. if b then Some ((put.seq, put.origin), put) else None) e
  other_put (Ack d origin first last) e = refl
  other_put (OfRetain t k) e = refl

  other_acknowledges : (name : ℕ × ℕ) (op : Op) → same_client c (client_of op) ≡ false → acknowledges c name op ≡ false
  other_acknowledges name (OfSession d stamp counter change) e = refl
  other_acknowledges name (OfPut d put) e = refl
  other_acknowledges name (Ack d origin first last) e = ap (λ b. b && (name.1 == origin) && nat_le first name.0 && nat_le name.0 last) e
  other_acknowledges name (OfRetain t k) e = refl

  other_named : (op : Op) → same_client c (client_of op) ≡ false → names_client c op ≡ false
  other_named (OfSession d stamp counter change) e = e
  other_named (OfPut d put) e = e
  other_named (Ack d origin first last) e = ap (λ b. b && nat_le first last) e
  other_named (OfRetain t k) e = refl

  other_range : (origin : ℕ) (op : Op) → same_client c (client_of op) ≡ false → range_of c origin op ≡ None
  other_range origin (OfSession d stamp counter change) e = refl
  other_range origin (OfPut d put) e = refl
  other_range origin (Ack d o first last) e = ap (λ b. if b && (origin == o) && nat_le first last then Some (first, last) else None) e
  other_range origin (OfRetain t k) e = refl

  other_seq : (gateway : ℕ) (op : Op) → same_client c (client_of op) ≡ false → seq_of c gateway op ≡ 0
  other_seq gateway (OfSession d stamp counter change) e = refl
  other_seq gateway (OfPut d put) e = ap (λ b. if b && (gateway == put.origin) then put.seq else 0) e
  other_seq gateway (Ack d origin first last) e = ap (λ b. if b && (gateway == origin) && nat_le first last then last else 0) e
  other_seq gateway (OfRetain t k) e = refl

  pub operations_own : operations c S ≡ operations c (of_client c S)
  operations_own = reads_own c (operation_of c) other_operation S

  pub operation_at_own : (name : Stamp × ℕ) → operation_at c S name ≡ operation_at c (of_client c S) name
  operation_at_own name = ap (find operation_cmp name) operations_own

  pub puts_own : puts c S ≡ puts c (of_client c S)
  puts_own = reads_own c (put_of c) other_put S

  pub put_at_own : (name : ℕ × ℕ) → put_at c S name ≡ put_at c (of_client c S) name
  put_at_own name = ap (find put_cmp name) puts_own

  pub is_acknowledged_own : (name : ℕ × ℕ) → is_acknowledged c S name ≡ is_acknowledged c (of_client c S) name
  is_acknowledged_own name = tests_own c (acknowledges c name) (other_acknowledges name) S

  pub is_named_own : is_named c S ≡ is_named c (of_client c S)
  is_named_own = tests_own c (names_client c) other_named S

  pub greatest_epoch_own : greatest_epoch c S ≡ greatest_epoch c (of_client c S)
  greatest_epoch_own = ap (λ (os : List ((Stamp × ℕ) × SessionOp)). largest (λ (name : Stamp × ℕ). name.0.epoch) (names os)) operations_own

  pub greatest_seq_own : (gateway : ℕ) → largest (seq_of c gateway) S ≡ largest (seq_of c gateway) (of_client c S)
  greatest_seq_own gateway = largest_own c (seq_of c gateway) (other_seq gateway) S

  pub visible_own : visible c S ≡ visible c (of_client c S)
  visible_own = ap (λ (os : List ((Stamp × ℕ) × SessionOp)). greatest stamp_cmp (filter_map take_stamp (names os))) operations_own

  pub history_own : history c S ≡ history c (of_client c S)
  history_own = λ i. history_at (λ name. find operation_cmp name (operations_own i)) (visible_own i)

  pub pending_own : pending c S ≡ pending c (of_client c S)
  pending_own = λ i. map (λ e. e.1) (in_order put_cmp (filter (λ e. not (is_acknowledged_own e.0 i)) (puts_own i)))

  pub view_own : view c S ≡ view c (of_client c S)
  view_own = λ i. record { stamp = visible_own i; prefix = length (history_own i); session = session_made (history_own i); pending = pending_own i }

  pub parked_own : parked c S ≡ parked c (of_client c S)
  parked_own = λ i. filter (is_parked (visible_own i) (length (history_own i))) (in_order operation_cmp (operations_own i))

  pub exceptions_own : exceptions c S ≡ exceptions c (of_client c S)
  unfolding exceptions
  exceptions_own = λ i. sum_to (λ origin. above_a_gap (joined (reads_own c (range_of c origin) (other_range origin) S i))) 255

-- what is retained is of no client: it stands under the name of none
module _ (S : List Op) where
  other_retain : (t : List ℕ) (op : Op) → same_client [] (client_of op) ≡ false → retain_of t op ≡ None
  other_retain t (OfSession d stamp counter change) e = refl
  other_retain t (OfPut d put) e = refl
  other_retain t (Ack d origin first last) e = refl
  other_retain t (OfRetain u kept) e = absurd (true≢false (sym ((bytes_eq-Decides [] []).1 refl) ∙ e))

  pub retains_own : (t : List ℕ) → retains t S ≡ retains t (of_client [] S)
  retains_own t = reads_own [] (retain_of t) (other_retain t) S

  pub retain_at_own : (t : List ℕ) (name : ℕ × ℕ) → retain_at t S name ≡ retain_at t (of_client [] S) name
  retain_at_own t name = ap (find clock_cmp name) (retains_own t)
