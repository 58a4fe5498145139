-- What is read off the entry of a client.
use Rattle.std.proofs.Common.{◌≡◌, ℕ, ◌+◌, max, Bool, true, false, cond, ◌==◌, ◌&&◌, if◌then◌else◌, List, [], ◌∷◌, ◌++◌, map, Option, Some, T, refl, sym, ap, ◌∙◌, subst, arith, le-leb, eqb-true, nat_cmp}
use Rattle.std.specs.List.{AllByRecursion}
use Rattle.std.specs.Option.{option_map}
use Rattle.std.specs.Cmp.{unsigned_tied}
use Rattle.std.specs.Map.{keys_of}
use Rattle.std.specs.FinMap.{find, is_sorted}
use Rattle.std.specs.FinMap.Entries.{below_all}
use Rattle.sn_session.specs.declared.change.SessionOp.{SessionOp}
use Rattle.rep_op.specs.declared.op.Stamp.{Stamp}
use Rattle.rep_op.specs.declared.op.Put.{Put}
use Rattle.rep_op.specs.Orders.{client_cmp, name_of, put_cmp}
use Rattle.rep_model.specs.Fresh.{largest, seq_of, greatest_epoch}
use Rattle.rep_model.specs.Ranges.{AreApartFrom}
use Rattle.rep_model.specs.Views.{names}
use Rattle.std.specs.Ordering.{is_eq}
use Rattle.rep_shared.specs.Rows.{own, or_nothing}
use Rattle.rep_state.proofs.Rows.{find_rows}
use Rattle.rep_state.specs.Tables.{rows_of}
use Rattle.rep_shared.proofs.Flat.{find_below}
use Rattle.rep_entry.specs.declared.entry.Entry.{Entry}
use Rattle.rep_log.specs.Mail.{put_by_name}
use Rattle.rep_log.specs.Origins.{ranges_of_origin, ranges_in, IsOrigin, AreOrigins}
use Rattle.rep_log.specs.Kept.{of_log, of_mail, of_acks}
use Rattle.rep_entry.specs.Entries.{entry_row}
use Rattle.rep_entry.specs.inner.Numbers.{operation_epoch, seq_from}
use Rattle.rep_entry.proofs.Client.{itself, kept_operations}
use Rattle.rep_log.proofs.Ranges.{acks_both}

-- ---- whether there is anything

-- ---- numbers

largest_both : {A : Type 0} (f : A → ℕ) (a b : List A) → largest f (a ++ b) ≡ max (largest f a) (largest f b)
largest_both f [] b = omega arith
largest_both f (x ∷ a) b = let rest = largest_both f a b in omega (arith, rest)

pub largest_last : {A : Type 0} (f : A → ℕ) (a : List A) (x : A) → largest f (a ++ x ∷ []) ≡ max (f x) (largest f a)
largest_last f a x = let both = largest_both f a (x ∷ []) in omega (arith, both)

module _ (c : List ℕ) (g : ℕ) where
  largest_log : (es : List ((Stamp × ℕ) × SessionOp)) → largest (seq_of c g) (of_log c es) ≡ 0
  largest_log [] = refl
  largest_log (e ∷ es) = let rest = largest_log es in omega (arith, rest)

  largest_mail : (ps : List Put) → largest (seq_of c g) (of_mail c ps) ≡ largest (seq_from g) ps
  largest_mail [] = refl
  largest_mail (p ∷ ps) = λ i. max (if itself c i && (g == p.origin) then p.seq else 0) (largest_mail ps i)

  largest_origin : (o k : ℕ) (rs : List (ℕ × ℕ)) → AreApartFrom k rs → largest (seq_of c g) (of_acks c (map (λ r. (o, r)) rs)) ≡ (if g == o then largest (λ (r : ℕ × ℕ). r.1) rs else 0)
  largest_origin o k [] h = elim (g == o) as (λ b. ◌≡◌ {A = ℕ} 0 (if b then 0 else 0)) [ true ↦ refl | false ↦ refl ]
  largest_origin o k (r ∷ rs) h =
      (λ i. max (if itself c i && (g == o) && le-leb r.0 r.1 h.1 i then r.1 else 0) (largest_origin o (r.1 + 2) rs h.2 i))
      ∙ elim (g == o) as (λ b. max (if b && true then r.1 else 0) (if b then largest (λ (r : ℕ × ℕ). r.1) rs else 0) ≡ (if b then max r.1 (largest (λ (r : ℕ × ℕ). r.1) rs) else 0)) [ true ↦ refl | false ↦ refl ]

  first : (a b : Bool) → T (a && b) → T a
  first true b p = tt
  first false b p = p

  second : (a b : Bool) → T (a && b) → T b
  second true b p = p
  second false b p = absurd p

  largest_acks : (os : List (ℕ × List (ℕ × ℕ))) → T (is_sorted nat_cmp os) → AllByRecursion (λ (o : ℕ × List (ℕ × ℕ)). IsOrigin o.0 o.1) os → largest (seq_of c g) (of_acks c (ranges_in os)) ≡ largest (λ (r : ℕ × ℕ). r.1) (ranges_of_origin g os)
  largest_acks [] h apart = refl
  largest_acks (o ∷ os) h apart =
      let rest = largest_acks os (second (below_all nat_cmp o.0 os) (is_sorted nat_cmp os) h) apart.1 in
      ap (largest (seq_of c g)) (acks_both c (map (λ r. (o.0, r)) o.1) (ranges_in os))
      ∙ largest_both (seq_of c g) (of_acks c (map (λ r. (o.0, r)) o.1)) (of_acks c (ranges_in os))
      ∙ (λ i. max (largest_origin o.0 1 o.1 apart.0.1 i) (rest i))
      ∙ elim (g == o.0) as (λ b. (g == o.0) ≡ b → max (if b then largest (λ (r : ℕ × ℕ). r.1) o.1 else 0) (largest (λ (r : ℕ × ℕ). r.1) (ranges_of_origin g os)) ≡ largest (λ (r : ℕ × ℕ). r.1) (or_nothing (cond b (Some o.1) (find nat_cmp g os)))) [
        | true ↦ λ t.
            let same : g ≡ o.0 = eqb-true g o.0 t in
            let below = subst (λ k. T (below_all nat_cmp k os)) (sym same) (first (below_all nat_cmp o.0 os) (is_sorted nat_cmp os) h) in
            ap (λ x. max (largest (λ (r : ℕ × ℕ). r.1) o.1) (largest (λ (r : ℕ × ℕ). r.1) (or_nothing x))) (find_below nat_cmp g os below)
            ∙ (let e : max (largest (λ (r : ℕ × ℕ). r.1) o.1) 0 ≡ largest (λ (r : ℕ × ℕ). r.1) o.1 = omega arith in e)
        | false ↦ λ _. let e : max 0 (largest (λ (r : ℕ × ℕ). r.1) (ranges_of_origin g os)) ≡ largest (λ (r : ℕ × ℕ). r.1) (ranges_of_origin g os) = omega arith in e
      ] refl
      ∙ sym (ap (λ b. largest (λ (r : ℕ × ℕ). r.1) (or_nothing (cond b (Some o.1) (find nat_cmp g os)))) (unsigned_tied g o.0))

  -- the greatest sequence number is that of a message that waits, or the end of a range
  pub largest_row : (e : Entry) → AreOrigins e.acks → largest (seq_of c g) (entry_row c e) ≡ max (largest (seq_from g) e.seen.pending) (largest (λ (r : ℕ × ℕ). r.1) (ranges_of_origin g e.acks))
  largest_row e h =
      let all = largest_both (seq_of c g) (of_log c e.known) (of_mail c e.seen.pending ++ of_acks c (ranges_in e.acks)) in
      let mail = largest_both (seq_of c g) (of_mail c e.seen.pending) (of_acks c (ranges_in e.acks)) in
      all ∙ (λ i. max (largest_log e.known i) ((mail ∙ (λ j. max (largest_mail e.seen.pending j) (largest_acks e.acks h.sorted h.apart j))) i))
      ∙ (let e : max 0 (max (largest (seq_from g) e.seen.pending) (largest (λ (r : ℕ × ℕ). r.1) (ranges_of_origin g e.acks))) ≡ max (largest (seq_from g) e.seen.pending) (largest (λ (r : ℕ × ℕ). r.1) (ranges_of_origin g e.acks)) = omega arith in e)

names_keys : (es : List ((Stamp × ℕ) × SessionOp)) → largest (λ (name : Stamp × ℕ). name.0.epoch) (names es) ≡ largest operation_epoch (keys_of es)
names_keys [] = refl
names_keys (e ∷ es) = ap (max e.0.0.epoch) (names_keys es)

pub epoch_row : (c : List ℕ) (e : Entry) → greatest_epoch c (entry_row c e) ≡ largest operation_epoch (keys_of e.known)
epoch_row c e = ap (λ es. largest (λ (name : Stamp × ℕ). name.0.epoch) (names es)) (kept_operations c e.known e.seen.pending (ranges_in e.acks)) ∙ names_keys e.known

-- ---- lists of entries

pub own_found : (c : List ℕ) (es : List (List ℕ × Entry)) (o : Option Entry) → o ≡ find client_cmp c es → or_nothing (option_map (entry_row c) o) ≡ own c (rows_of es)
own_found c es o h = ap (λ o. or_nothing (option_map (entry_row c) o)) h ∙ sym (ap or_nothing (find_rows c es))

-- ---- loops

pub largest_step : {A : Type 0} (f : A → ℕ) (x : A) (rest it : List A) (most new all : ℕ) → it ≡ x ∷ rest → new ≡ max (f x) most → max most (largest f it) ≡ all → max new (largest f rest) ≡ all
largest_step f x rest it most new all is more h = let here = sym (ap (λ it. max most (largest f it)) is) ∙ h in omega (arith, more, here)

pub largest_done : {A : Type 0} (f : A → ℕ) (it : List A) (most all : ℕ) → it ≡ [] → max most (largest f it) ≡ all → most ≡ all
largest_done f it most all is h = let here = sym (ap (λ it. max most (largest f it)) is) ∙ h in omega (arith, here)

pub put_here : (q : ℕ × ℕ) (x : Put) (rest : List Put) → is_eq (put_cmp q (name_of x)) ≡ true → Some x ≡ put_by_name q (x ∷ rest)
put_here q x rest h = sym (ap (λ b. cond b (Some x) (put_by_name q rest)) h)

pub put_later : (q : ℕ × ℕ) (x : Put) (rest : List Put) → is_eq (put_cmp q (name_of x)) ≡ false → put_by_name q (x ∷ rest) ≡ put_by_name q rest
put_later q x rest h = ap (λ b. cond b (Some x) (put_by_name q rest)) h
