-- What a digest leaves of what must be kept is the rest that the definition asks for.
use Rattle.std.proofs.Common.{◌≡◌, ℕ, ◌≤◌, Bool, true, false, cond, not, ◌&&◌, ◌||◌, ◌==◌, if◌then◌else◌, nat_le, List, [], ◌∷◌, ◌++◌, map, filter, filter_map, Option, Some, None, refl, sym, ap, subst, ◌∙◌, arith, leb-true, le-leb, eqb-true}
use Rattle.std.specs.Prelude.{IsTrue}
use Rattle.std.specs.List.{list_any, flat_map, cons_option, AllByRecursion, find as find_first}
use Rattle.std.specs.FinMap.{find}
use Rattle.std.specs.FinMap.Entries.{find-where_key}
use Rattle.std.proofs.lemmas.Bool.{and_parts, and_from}
use Rattle.std.proofs.lemmas.List.Folds.{list_any-append}
use Rattle.rep_op.specs.declared.op.Stamp.{Stamp}
use Rattle.rep_op.specs.declared.op.Op.{Op}
use Rattle.rep_op.specs.declared.op.Op.TheVariants.{Session as OfSession, Put as OfPut, Ack, Retain as OfRetain}
use Rattle.rep_op.specs.Orders.{operation_cmp, put_cmp, clock_of, clock_cmp}
use Rattle.rep_op.specs.Sets.{same_client, same_topic, operation_of, operations, operation_at, put_of, puts, put_at, acknowledges, is_acknowledged, retain_of, retains, retain_at, Same}
use Rattle.rep_ops.specs.Making.{AreWellMade, IsDeltaOf}
use Rattle.rep_ops.specs.Splitting.{all_of}
use Rattle.rep_model.specs.Keep.{keep}
use Rattle.rep_model.specs.Held.{IsHeld}
use Rattle.rep_op.specs.WellMade.{is_well_made}
use Rattle.rep_op.proofs.Names.{made_range}
use Rattle.rep_model.specs.Ranges.{is_within, in_ranges, AreApart}
use Rattle.rep_model.proofs.Readers.{operation_exact, put_exact, clock_exact, same_client-true, same_topic-true}
use Rattle.rep_digest.specs.declared.entry.OriginEntry.{OriginEntry}
use Rattle.rep_digest.specs.declared.entry.ClientEntry.{ClientEntry}
use Rattle.rep_digest.specs.Digests.{Digested}
use Rattle.rep_answer.specs.Answers.{entry_of, ranges_of, acknowledged_in, waiting_in, sees, covers_operation, covers_put, covers_acknowledgement, covers_retain, IsRest}
use Rattle.rep_digest.specs.WellMade.{IsOriginEntry, IsDigestEntry, IsDigest}
use Rattle.rep_answer.specs.inner.Steps.{outside, ack_of_range, left_by_digest, IsLeftByDigest}
use Rattle.rep_answer.proofs.Reaching.{in_outside, IsPartOf, parts}

-- ---- the ranges that an entry has are apart

found_origin : (test : OriginEntry → Bool) (os : List OriginEntry) → AllByRecursion IsOriginEntry os → AreApart (ranges_of (λ o. o.acknowledged) (find_first test os))
found_origin test [] h = tt
found_origin test (o ∷ os) h = elim (test o) as (λ b. AreApart (ranges_of (λ o. o.acknowledged) (cond b (Some o) (find_first test os)))) [ true ↦ h.0.acknowledged.1 | false ↦ found_origin test os h.1 ]

found_entry : (test : ClientEntry → Bool) (origin : ℕ) (d : List ClientEntry) → AllByRecursion IsDigestEntry d → AreApart (acknowledged_in origin (find_first test d))
found_entry test origin [] h = tt
found_entry test origin (e ∷ d) h = elim (test e) as (λ b. AreApart (acknowledged_in origin (cond b (Some e) (find_first test d)))) [ true ↦ found_origin (λ o. origin == o.origin) e.origins h.0.origins | false ↦ found_entry test origin d h.1 ]

module _ (d : Digested) (is : IsDigest d) where
  pub acknowledged-apart : (c : List ℕ) (origin : ℕ) → AreApart (acknowledged_in origin (entry_of c d.clients))
  acknowledged-apart c origin = found_entry (λ e. same_client c e.client) origin d.clients is.clients.entries

  -- ---- session operations

  no_operations : (c e : List ℕ) (o : ℕ) (rs : List (ℕ × ℕ)) (X : List Op) → filter_map (operation_of c) (map (ack_of_range e o) rs ++ X) ≡ filter_map (operation_of c) X
  no_operations c e o [] X = refl
  no_operations c e o (r ∷ rs) X = no_operations c e o rs X

  no_puts : (c e : List ℕ) (o : ℕ) (rs : List (ℕ × ℕ)) (X : List Op) → filter_map (put_of c) (map (ack_of_range e o) rs ++ X) ≡ filter_map (put_of c) X
  no_puts c e o [] X = refl
  no_puts c e o (r ∷ rs) X = no_puts c e o rs X

  abbrev unseen : List ℕ → Stamp × ℕ → Bool
  unseen c name = not (covers_operation d c name)

  operations_left : (c : List ℕ) (W : List Op) → operations c (flat_map (left_by_digest d) W) ≡ filter (λ e. unseen c e.0) (operations c W)
  operations_left c [] = refl
  operations_left c (OfPut e p ∷ W) =
      elim (in_ranges p.seq (waiting_in p.origin (entry_of e d.clients)) || in_ranges p.seq (acknowledged_in p.origin (entry_of e d.clients))) as (λ b. filter_map (operation_of c) ((if b then [] else OfPut e p ∷ []) ++ flat_map (left_by_digest d) W) ≡ filter (λ e. unseen c e.0) (operations c W)) [
        | true ↦ operations_left c W
        | false ↦ operations_left c W
      ]
  operations_left c (OfRetain t k ∷ W) =
      elim (covers_retain d t (clock_of k)) as (λ b. filter_map (operation_of c) ((if b then [] else OfRetain t k ∷ []) ++ flat_map (left_by_digest d) W) ≡ filter (λ e. unseen c e.0) (operations c W)) [
        | true ↦ operations_left c W
        | false ↦ operations_left c W
      ]
  operations_left c (Ack e o f l ∷ W) = no_operations c e o (outside (f, l) (acknowledged_in o (entry_of e d.clients))) (flat_map (left_by_digest d) W) ∙ operations_left c W
  operations_left c (OfSession e s i change ∷ W) =
      let rest = operations_left c W in
      elim (same_client c e) as (λ b. same_client c e ≡ b → filter_map (operation_of c) ((if sees (entry_of e d.clients) (s, i) then [] else OfSession e s i change ∷ []) ++ flat_map (left_by_digest d) W)
      ≡ filter (λ e. unseen c e.0) (cons_option (if b then Some ((s, i), change) else None) (operations c W))) [
        | true ↦ λ same.
            ap (λ x. filter_map (operation_of c) ((if sees (entry_of x d.clients) (s, i) then [] else OfSession e s i change ∷ []) ++ flat_map (left_by_digest d) W)) (sym (same_client-true c e same))
            ∙ elim (sees (entry_of c d.clients) (s, i)) as (λ v. filter_map (operation_of c) ((if v then [] else OfSession e s i change ∷ []) ++ flat_map (left_by_digest d) W) ≡ cond (not v) (((s, i), change) ∷ filter (λ e. unseen c e.0) (operations c W)) (filter (λ e. unseen c e.0) (operations c W))) [
              | true ↦ rest
              | false ↦ (λ k. cons_option (if same k then Some ((s, i), change) else None) (rest k))
            ]
        | false ↦ λ other. elim (sees (entry_of e d.clients) (s, i)) as (λ v. filter_map (operation_of c) ((if v then [] else OfSession e s i change ∷ []) ++ flat_map (left_by_digest d) W) ≡ filter (λ e. unseen c e.0) (operations c W)) [
          | true ↦ rest
          | false ↦ (λ k. cons_option (if other k then Some ((s, i), change) else None) (rest k))
        ]
      ] refl

  -- ---- messages

  abbrev uncovered : List ℕ → ℕ × ℕ → Bool
  uncovered c name = not (covers_put d c name)

  puts_left : (c : List ℕ) (W : List Op) → puts c (flat_map (left_by_digest d) W) ≡ filter (λ e. uncovered c e.0) (puts c W)
  puts_left c [] = refl
  puts_left c (OfSession e s i change ∷ W) =
      elim (sees (entry_of e d.clients) (s, i)) as (λ v. filter_map (put_of c) ((if v then [] else OfSession e s i change ∷ []) ++ flat_map (left_by_digest d) W) ≡ filter (λ e. uncovered c e.0) (puts c W)) [
        | true ↦ puts_left c W
        | false ↦ puts_left c W
      ]
  puts_left c (OfRetain t k ∷ W) =
      elim (covers_retain d t (clock_of k)) as (λ b. filter_map (put_of c) ((if b then [] else OfRetain t k ∷ []) ++ flat_map (left_by_digest d) W) ≡ filter (λ e. uncovered c e.0) (puts c W)) [
        | true ↦ puts_left c W
        | false ↦ puts_left c W
      ]
  puts_left c (Ack e o f l ∷ W) = no_puts c e o (outside (f, l) (acknowledged_in o (entry_of e d.clients))) (flat_map (left_by_digest d) W) ∙ puts_left c W
  puts_left c (OfPut e p ∷ W) =
      let rest = puts_left c W in
      elim (same_client c e) as (λ b. same_client c e ≡ b → filter_map (put_of c) ((if covers_put d e (p.seq, p.origin) then [] else OfPut e p ∷ []) ++ flat_map (left_by_digest d) W)
      ≡ filter (λ e. uncovered c e.0) (cons_option (if b then Some ((p.seq, p.origin), p) else None) (puts c W))) [
        | true ↦ λ same.
            ap (λ x. filter_map (put_of c) ((if covers_put d x (p.seq, p.origin) then [] else OfPut e p ∷ []) ++ flat_map (left_by_digest d) W)) (sym (same_client-true c e same))
            ∙ elim (covers_put d c (p.seq, p.origin)) as (λ v. filter_map (put_of c) ((if v then [] else OfPut e p ∷ []) ++ flat_map (left_by_digest d) W) ≡ cond (not v) (((p.seq, p.origin), p) ∷ filter (λ e. uncovered c e.0) (puts c W)) (filter (λ e. uncovered c e.0) (puts c W))) [
              | true ↦ rest
              | false ↦ (λ k. cons_option (if same k then Some ((p.seq, p.origin), p) else None) (rest k))
            ]
        | false ↦ λ other. elim (covers_put d e (p.seq, p.origin)) as (λ v. filter_map (put_of c) ((if v then [] else OfPut e p ∷ []) ++ flat_map (left_by_digest d) W) ≡ filter (λ e. uncovered c e.0) (puts c W)) [
          | true ↦ rest
          | false ↦ (λ k. cons_option (if other k then Some ((p.seq, p.origin), p) else None) (rest k))
        ]
      ] refl

  -- ---- acknowledgements

  -- the pieces of a range
  acknowledged_pieces : (c : List ℕ) (name : ℕ × ℕ) (e : List ℕ) (o : ℕ) (rs : List (ℕ × ℕ)) → list_any (acknowledges c name) (map (ack_of_range e o) rs) ≡ (same_client c e && (name.1 == o) && in_ranges name.0 rs)
  acknowledged_pieces c name e o [] = nothing (same_client c e && (name.1 == o))
    where
      nothing : (b : Bool) → false ≡ (b && false)
      nothing true = refl
      nothing false = refl
  acknowledged_pieces c name e o (r ∷ rs) =
      ap (λ b. (same_client c e && (name.1 == o) && nat_le r.0 name.0 && nat_le name.0 r.1) || b) (acknowledged_pieces c name e o rs)
      ∙ shared (same_client c e && (name.1 == o)) (nat_le r.0 name.0) (nat_le name.0 r.1) (in_ranges name.0 rs)
    where
      shared : (a x y z : Bool) → ((a && x && y) || (a && z)) ≡ (a && ((x && y) || z))
      shared true x y z = refl
      shared false x y z = refl

  one_acknowledged : (c : List ℕ) (name : ℕ × ℕ) (op : Op) → IsTrue (is_well_made op) → list_any (acknowledges c name) (left_by_digest d op) ≡ (not (covers_acknowledgement d c name) && acknowledges c name op)
  one_acknowledged c name (OfSession e s i change) made =
      elim (sees (entry_of e d.clients) (s, i)) as (λ v. list_any (acknowledges c name) (if v then [] else OfSession e s i change ∷ []) ≡ (not (covers_acknowledgement d c name) && false)) [ true ↦ falsely (not (covers_acknowledgement d c name)) | false ↦ falsely (not (covers_acknowledgement d c name)) ]
    where
      falsely : (b : Bool) → false ≡ (b && false)
      falsely true = refl
      falsely false = refl
  one_acknowledged c name (OfPut e p) made =
      elim (covers_put d e (p.seq, p.origin)) as (λ v. list_any (acknowledges c name) (if v then [] else OfPut e p ∷ []) ≡ (not (covers_acknowledgement d c name) && false)) [ true ↦ falsely (not (covers_acknowledgement d c name)) | false ↦ falsely (not (covers_acknowledgement d c name)) ]
    where
      falsely : (b : Bool) → false ≡ (b && false)
      falsely true = refl
      falsely false = refl
  one_acknowledged c name (OfRetain t k) made =
      elim (covers_retain d t (clock_of k)) as (λ v. list_any (acknowledges c name) (if v then [] else OfRetain t k ∷ []) ≡ (not (covers_acknowledgement d c name) && false)) [ true ↦ falsely (not (covers_acknowledgement d c name)) | false ↦ falsely (not (covers_acknowledgement d c name)) ]
    where
      falsely : (b : Bool) → false ≡ (b && false)
      falsely true = refl
      falsely false = refl
  one_acknowledged c name (Ack e o f l) made =
      acknowledged_pieces c name e o (outside (f, l) (acknowledged_in o (entry_of e d.clients)))
      ∙ ap (λ b. same_client c e && (name.1 == o) && b) (in_outside name.0 0 (f, l) (acknowledged_in o (entry_of e d.clients)) (made_range e o f l made).forward (acknowledged-apart e o))
      ∙ elim (same_client c e) as (λ a. same_client c e ≡ a → (a && (name.1 == o) && (is_within name.0 (f, l) && not (in_ranges name.0 (acknowledged_in o (entry_of e d.clients)))))
      ≡ (not (covers_acknowledgement d c name) && (a && (name.1 == o) && nat_le f name.0 && nat_le name.0 l))) [
        | false ↦ λ _. falsely (not (covers_acknowledgement d c name))
        | true ↦ λ same. elim (name.1 == o) as (λ b. (name.1 == o) ≡ b → (b && (is_within name.0 (f, l) && not (in_ranges name.0 (acknowledged_in o (entry_of e d.clients)))))
            ≡ (not (covers_acknowledgement d c name) && (b && nat_le f name.0 && nat_le name.0 l))) [
              | false ↦ λ _. falsely (not (covers_acknowledgement d c name))
              | true ↦ λ own.
                  (λ k. is_within name.0 (f, l) && not (in_ranges name.0 (acknowledged_in (sym (eqb-true name.1 o own) k) (entry_of (sym (same_client-true c e same) k) d.clients))))
                  ∙ swapped (is_within name.0 (f, l)) (not (covers_acknowledgement d c name))
            ] refl
      ] refl
    where
      falsely : (b : Bool) → false ≡ (b && false)
      falsely true = refl
      falsely false = refl

      swapped : (a b : Bool) → (a && b) ≡ (b && a)
      swapped true true = refl
      swapped true false = refl
      swapped false true = refl
      swapped false false = refl

  acknowledgements_left : (c : List ℕ) (name : ℕ × ℕ) (W : List Op) → AreWellMade W → is_acknowledged c (flat_map (left_by_digest d) W) name ≡ (not (covers_acknowledgement d c name) && is_acknowledged c W name)
  acknowledgements_left c name [] made = nothing (not (covers_acknowledgement d c name))
    where
      nothing : (b : Bool) → false ≡ (b && false)
      nothing true = refl
      nothing false = refl
  acknowledgements_left c name (op ∷ W) made =
      list_any-append (acknowledges c name) (left_by_digest d op) (flat_map (left_by_digest d) W)
      ∙ (λ k. one_acknowledged c name op made.0 k || acknowledgements_left c name W made.1 k)
      ∙ both (not (covers_acknowledgement d c name)) (acknowledges c name op) (is_acknowledged c W name)
    where
      both : (a x y : Bool) → ((a && x) || (a && y)) ≡ (a && (x || y))
      both true x y = refl
      both false x y = refl

  -- ---- what is retained

  no_retains : (t e : List ℕ) (o : ℕ) (rs : List (ℕ × ℕ)) (X : List Op) → filter_map (retain_of t) (map (ack_of_range e o) rs ++ X) ≡ filter_map (retain_of t) X
  no_retains t e o [] X = refl
  no_retains t e o (r ∷ rs) X = no_retains t e o rs X

  abbrev unsaid : List ℕ → ℕ × ℕ → Bool
  unsaid t name = not (covers_retain d t name)

  retains_left : (t : List ℕ) (W : List Op) → retains t (flat_map (left_by_digest d) W) ≡ filter (λ e. unsaid t e.0) (retains t W)
  retains_left t [] = refl
  retains_left t (OfSession e s i change ∷ W) =
      elim (sees (entry_of e d.clients) (s, i)) as (λ v. filter_map (retain_of t) ((if v then [] else OfSession e s i change ∷ []) ++ flat_map (left_by_digest d) W) ≡ filter (λ e. unsaid t e.0) (retains t W)) [
        | true ↦ retains_left t W
        | false ↦ retains_left t W
      ]
  retains_left t (OfPut e p ∷ W) =
      elim (covers_put d e (p.seq, p.origin)) as (λ v. filter_map (retain_of t) ((if v then [] else OfPut e p ∷ []) ++ flat_map (left_by_digest d) W) ≡ filter (λ e. unsaid t e.0) (retains t W)) [
        | true ↦ retains_left t W
        | false ↦ retains_left t W
      ]
  retains_left t (Ack e o f l ∷ W) = no_retains t e o (outside (f, l) (acknowledged_in o (entry_of e d.clients))) (flat_map (left_by_digest d) W) ∙ retains_left t W
  retains_left t (OfRetain u k ∷ W) =
      let rest = retains_left t W in
      elim (same_topic t u) as (λ b. same_topic t u ≡ b → filter_map (retain_of t) ((if covers_retain d u (clock_of k) then [] else OfRetain u k ∷ []) ++ flat_map (left_by_digest d) W)
      ≡ filter (λ e. unsaid t e.0) (cons_option (if b then Some (clock_of k, k) else None) (retains t W))) [
        | true ↦ λ same.
            ap (λ x. filter_map (retain_of t) ((if covers_retain d x (clock_of k) then [] else OfRetain u k ∷ []) ++ flat_map (left_by_digest d) W)) (sym (same_topic-true t u same))
            ∙ elim (covers_retain d t (clock_of k)) as (λ v. filter_map (retain_of t) ((if v then [] else OfRetain u k ∷ []) ++ flat_map (left_by_digest d) W) ≡ cond (not v) ((clock_of k, k) ∷ filter (λ e. unsaid t e.0) (retains t W)) (filter (λ e. unsaid t e.0) (retains t W))) [
              | true ↦ rest
              | false ↦ (λ i. cons_option (if same i then Some (clock_of k, k) else None) (rest i))
            ]
        | false ↦ λ other. elim (covers_retain d u (clock_of k)) as (λ v. filter_map (retain_of t) ((if v then [] else OfRetain u k ∷ []) ++ flat_map (left_by_digest d) W) ≡ filter (λ e. unsaid t e.0) (retains t W)) [
          | true ↦ rest
          | false ↦ (λ i. cons_option (if other i then Some (clock_of k, k) else None) (rest i))
        ]
      ] refl

  -- ---- together

  turned : {X : Type 0} (b : Bool) (x : Option X) → cond (not b) x None ≡ (if b then None else x)
  turned true x = refl
  turned false x = refl

  pub is_rest : (K W : List Op) → AreWellMade W → Same W K → IsRest d K (flat_map (left_by_digest d) W)
  is_rest K W made same = record {
    operations_left = λ c name.
        ap (find operation_cmp name) (operations_left c W)
        ∙ find-where_key operation_cmp (unseen c) name (λ x t. ap (unseen c) (sym (operation_exact name x t))) (operations c W)
        ∙ turned (covers_operation d c name) (operation_at c W name)
        ∙ ap (λ x. if covers_operation d c name then None else x) (same.operations_same c name);
    puts_left = λ c name.
        ap (find put_cmp name) (puts_left c W)
        ∙ find-where_key put_cmp (uncovered c) name (λ x t. ap (uncovered c) (sym (put_exact name x t))) (puts c W)
        ∙ turned (covers_put d c name) (put_at c W name)
        ∙ ap (λ x. if covers_put d c name then None else x) (same.puts_same c name);
    acknowledgements_left = λ c name. acknowledgements_left c name W made ∙ ap (λ x. not (covers_acknowledgement d c name) && x) (same.acknowledgements_same c name);
    retains_left = λ t name.
        ap (find clock_cmp name) (retains_left t W)
        ∙ find-where_key clock_cmp (unsaid t) name (λ x e. ap (unsaid t) (sym (clock_exact name x e))) (retains t W)
        ∙ turned (covers_retain d t name) (retain_at t W name)
        ∙ ap (λ x. if covers_retain d t name then None else x) (same.retains_same t name);
  }

  -- ---- what is left is well made

  made_pieces : (e : List ℕ) (o f l : ℕ) → IsTrue (is_well_made (Ack e o f l)) → (rs : List (ℕ × ℕ)) → AllByRecursion (IsPartOf (f, l)) rs → AreWellMade (map (ack_of_range e o) rs)
  made_pieces e o f l made [] h = tt
  made_pieces e o f l made (r ∷ rs) h =
      let w = and_parts _ (nat_le f l) made in
      let x = and_parts (nat_le 1 o) (nat_le 1 f) w.0 in
      let low = leb-true 1 f x.1 in
      let from : f ≤ r.0 = h.0.from in
      (and_from _ (nat_le r.0 r.1) (and_from (nat_le 1 o) (nat_le 1 r.0) x.0 (le-leb 1 r.0 (omega (arith, low, from)))) (le-leb r.0 r.1 h.0.forward), made_pieces e o f l made rs h.1)

  all_of_both : (xs ys : List Op) → AreWellMade xs → AreWellMade ys → AreWellMade (xs ++ ys)
  all_of_both [] ys f g = g
  all_of_both (x ∷ xs) ys f g = (f.0, all_of_both xs ys f.1 g)

  made_one : (op : Op) → IsTrue (is_well_made op) → AreWellMade (left_by_digest d op)
  made_one (OfSession e s i change) made = elim (sees (entry_of e d.clients) (s, i)) as (λ v. AreWellMade (if v then [] else OfSession e s i change ∷ [])) [ true ↦ tt | false ↦ (made, tt) ]
  made_one (OfPut e p) made = elim (covers_put d e (p.seq, p.origin)) as (λ v. AreWellMade (if v then [] else OfPut e p ∷ [])) [ true ↦ tt | false ↦ (made, tt) ]
  made_one (OfRetain t k) made = elim (covers_retain d t (clock_of k)) as (λ v. AreWellMade (if v then [] else OfRetain t k ∷ [])) [ true ↦ tt | false ↦ (made, tt) ]
  made_one (Ack e o f l) made = made_pieces e o f l made (outside (f, l) (acknowledged_in o (entry_of e d.clients))) (parts (f, l) (acknowledged_in o (entry_of e d.clients)) (made_range e o f l made).forward)

  pub left_made : (W : List Op) → AreWellMade W → AreWellMade (flat_map (left_by_digest d) W)
  left_made [] made = tt
  left_made (op ∷ W) made = all_of_both (left_by_digest d op) (flat_map (left_by_digest d) W) (made_one op made.0) (left_made W made.1)

  -- what is left of what a replica hands out
  pub left_held : (K : List Op) (held : List (List Op)) (X : List Op) → IsHeld K held → X ≡ flat_map (left_by_digest d) (all_of held) → AreWellMade X × IsLeftByDigest d K X
  left_held K held X h e =
      let W = all_of held in
      let whole : h.0 ≡ W = sym h.2.whole in
      let delta : IsDeltaOf (keep K) W = subst (λ (V : List Op). IsDeltaOf (keep K) V) whole h.1 in (
        subst AreWellMade (sym e) (left_made W delta.delta.well_made),
        subst (λ (Y : List Op). IsLeftByDigest d K Y) (sym e) (is_rest (keep K) W delta.delta.well_made delta.same),
      )
