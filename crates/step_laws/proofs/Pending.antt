-- The messages that wait for a client: under names that are all different, and which of them are left after acknowledgements.
use Rattle.std.proofs.Common.{◌≡◌, ℕ, Bool, true, false, cond, not, ◌&&◌, ◌==◌, T, if◌then◌else◌, List, [], ◌∷◌, filter, map, Some, None, refl, sym, ap, ◌∙◌, subst, Less, Equal, Greater, is_lt, eqb-true}
use Rattle.std.specs.List.{cons_option, AllByRecursion}
use Rattle.std.specs.FinMap.{find}
use Rattle.std.specs.FinMap.Entries.{by_order, put, where_key, below_all, is_sorted, is_sorted-where_key, find-where_key, same_entries}
use Rattle.std.proofs.lemmas.Bool.{and_parts}
use Rattle.std.proofs.lemmas.Cmp.{tied_itself}
use Rattle.rep_op.specs.declared.op.Put.{Put}
use Rattle.rep_op.specs.declared.op.Op.{Op}
use Rattle.rep_op.specs.declared.op.Op.TheVariants.{Session as OfSession, Put as OfPut, Ack}
use Rattle.rep_op.specs.Orders.{name_of, put_cmp}
use Rattle.rep_op.specs.Sets.{same_client, puts, is_acknowledged}
use Rattle.rep_model.specs.Views.{unacknowledged, pending_at, in_order, pending}
use Rattle.rep_model.proofs.Lookup.{find-in_order, is_sorted-in_order}
use Rattle.rep_model.proofs.Readers.{put_total, put_exact}
use Rattle.rep_model.proofs.Waiting.{AreUnderNames, waiting_entries, waiting_under, waiting_sorted, waiting_found}
use Rattle.sn_exchange.specs.Exchanges.{same_name, is_done, left}
use Rattle.step_laws.specs.Laws.{AreNamedApart}

-- ---- names that are all different

less_apart : (a b : ℕ × ℕ) → T (is_lt (put_cmp a b)) → same_name a b ≡ false
less_apart a b less =
    elim (same_name a b) as (λ t. same_name a b ≡ t → t ≡ false) [
      | true ↦ λ e.
          let parts = and_parts (a.0 == b.0) (a.1 == b.1) e in
          let seq : a.0 ≡ b.0 = eqb-true a.0 b.0 parts.0 in
          let origin : a.1 ≡ b.1 = eqb-true a.1 b.1 parts.1 in
          let pair : a ≡ b = λ i. (seq i, origin i) in
          let same : is_lt (put_cmp a b) ≡ false = ap (λ x. is_lt (put_cmp a x)) (sym pair) ∙ ap is_lt (tied_itself put_total a) in
          absurd (subst T same less)
      | false ↦ λ _. refl
    ] refl

first : (a b : Bool) → T (a && b) → T a
first true b p = tt
first false b p = p

second : (a b : Bool) → T (a && b) → T b
second true b p = p
second false b p = absurd p

below_apart : (name : ℕ × ℕ) (es : List ((ℕ × ℕ) × Put)) → T (below_all put_cmp name es) → AreUnderNames es
    → AllByRecursion (λ (other : Put). same_name name (name_of other) ≡ false) (map (λ e. e.1) es)
below_apart name [] below all = tt
below_apart name (e ∷ es) below all = (
  ap (same_name name) (sym all.0) ∙ less_apart name e.0 (first (is_lt (put_cmp name e.0)) (below_all put_cmp name es) below),
  below_apart name es (second (is_lt (put_cmp name e.0)) (below_all put_cmp name es) below) all.1,
)

sorted_apart : (es : List ((ℕ × ℕ) × Put)) → T (is_sorted put_cmp es) → AreUnderNames es → AreNamedApart (map (λ e. e.1) es)
sorted_apart [] sorted all = tt
sorted_apart (e ∷ es) sorted all = (
  subst (λ name. AllByRecursion (λ (other : Put). same_name name (name_of other) ≡ false) (map (λ e. e.1) es)) all.0
      (below_apart e.0 es (first (below_all put_cmp e.0 es) (is_sorted put_cmp es) sorted) all.1),
  sorted_apart es (second (below_all put_cmp e.0 es) (is_sorted put_cmp es) sorted) all.1,
)

-- the messages that wait have names that are all different
pub pending-apart : (c : List ℕ) (S : List Op) → AreNamedApart (pending c S)
pending-apart c S = sorted_apart (waiting_entries c S) (waiting_sorted c S) (waiting_under c S)

-- ---- what waits, by the look-up of names

pub pending-by : (c : List ℕ) (A B : List Op) → ((name : ℕ × ℕ) → pending_at c A name ≡ pending_at c B name) → pending c A ≡ pending c B
pending-by c A B same =
    ap (map (λ e. e.1)) (same_entries put_cmp put_total put_exact (waiting_entries c A) (waiting_entries c B) (waiting_sorted c A) (waiting_sorted c B)
    (λ name. waiting_found c A name ∙ same name ∙ sym (waiting_found c B name)))

module _ (acks : List (ℕ × ℕ)) where
  abbrev stays : ℕ × ℕ → Bool
  stays name = not (is_done acks name)

  one_stays : (b : Bool) (e : (ℕ × ℕ) × Put) (xs : List ((ℕ × ℕ) × Put)) (ys : List Put) → map (λ e. e.1) xs ≡ ys
      → map (λ e. e.1) (cond b (e ∷ xs) xs) ≡ cond b (e.1 ∷ ys) ys
  one_stays true e xs ys h = ap (λ zs. e.1 ∷ zs) h
  one_stays false e xs ys h = h

  stay : (es : List ((ℕ × ℕ) × Put)) → AreUnderNames es → map (λ e. e.1) (where_key put_cmp stays es) ≡ left acks (map (λ e. e.1) es)
  stay [] all = refl
  stay (e ∷ es) all =
      ap (λ name. map (λ e. e.1) (cond (stays name) (e ∷ where_key put_cmp stays es) (where_key put_cmp stays es))) all.0
      ∙ one_stays (stays (name_of e.1)) e (where_key put_cmp stays es) (left acks (map (λ e. e.1) es)) (stay es all.1)

  -- where B has what A has but for what is acknowledged, the messages of A are left
  pub pending-left : (c : List ℕ) (A B : List Op) → ((name : ℕ × ℕ) → pending_at c B name ≡ cond (stays name) (pending_at c A name) None)
      → pending c B ≡ left acks (pending c A)
  pending-left c A B same =
      ap (map (λ e. e.1)) (same_entries put_cmp put_total put_exact (waiting_entries c B) (where_key put_cmp stays (waiting_entries c A))
      (waiting_sorted c B) (is_sorted-where_key put_cmp stays (waiting_entries c A) (waiting_sorted c A))
      (λ name. waiting_found c B name ∙ same name ∙ ap (λ o. cond (stays name) o None) (sym (waiting_found c A name))
      ∙ sym (find-where_key put_cmp stays name (λ x t. ap stays (sym (put_exact name x t))) (waiting_entries c A))))
      ∙ stay (waiting_entries c A) (waiting_under c A)
