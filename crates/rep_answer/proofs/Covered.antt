-- What the digest of a set covers, the set has.
use Rattle.std.proofs.Common.{◌≡◌, ℕ, zero, suc, ◌+◌, ◌<◌, ◌==◌, Bool, true, false, cond, not, ◌||◌, List, [], ◌∷◌, map, filter, length, Option, Some, None, is_some, IfSome, refl, sym, ap, subst, ◌∙◌, true≢false, arith, eqb-true, is_eq, is_lt, Ordering, Less, Equal, Greater}
use Rattle.std.specs.Prelude.{nat_lt, option_map}
use Rattle.std.specs.List.{find as find_first, filter_map, cons_option}
use Rattle.std.specs.Ordering.{ordering_reverse}
use Rattle.std.proofs.lemmas.Bool.{and_parts, ltb-true}
use Rattle.sn_session.specs.declared.change.SessionOp.{SessionOp}
use Rattle.rep_op.specs.declared.op.Stamp.{Stamp}
use Rattle.rep_op.specs.declared.op.Op.{Op}
use Rattle.rep_op.specs.Orders.{stamp_cmp, clock_cmp}
use Rattle.rep_op.specs.Sets.{same_client, same_topic, operation_at, put_at, is_acknowledged, retain_at}
use Rattle.rep_model.specs.Views.{gapless, then_more, visible, history_at, history, clients}
use Rattle.rep_model.specs.Topics.{latest, topics}
use Rattle.rep_model.specs.Keep.{is_below, is_outdone}
use Rattle.rep_model.specs.Limits.{is_in_prefix}
use Rattle.rep_model.specs.Ranges.{in_ranges}
use Rattle.rep_model.proofs.Readers.{stamp_exact, clock_total, clock_exact, same_client-true, same_topic-true}
use Rattle.rep_model.proofs.Topics.{latest-there}
use Rattle.rep_model.proofs.Limits.{in-acknowledged}
use Rattle.rep_digest.specs.declared.entry.OriginEntry.{OriginEntry}
use Rattle.rep_digest.specs.declared.entry.ClientEntry.{ClientEntry}
use Rattle.rep_digest.specs.declared.entry.RetainedEntry.{RetainedEntry}
use Rattle.rep_digest.specs.Digests.{origin_entry, has_ranges, numbers_from, origin_entries, client_entry, entry_of_topic, topic_entry, digest}
use Rattle.rep_answer.specs.Answers.{entry_of, topic_entry_of, ranges_of, entry_ranges, acknowledged_in, waiting_in, sees, covers_operation, covers_put, covers_acknowledgement, is_as_late, covers_retain}
use Rattle.rep_digest.proofs.Waiting.{by_or, waiting_there}

-- ---- what an entry says, the set says

-- the entry of a client in the digest of a set is what the set says of it
said : (P : Option ClientEntry → Type 0) (T : List Op) (cs : List (List ℕ)) (c : List ℕ) → P None → P (Some (client_entry T c)) → P (entry_of c (map (client_entry T) cs))
said P T [] c none some = none
said P T (d ∷ cs) c none some =
    elim (same_client c d) as (λ b. same_client c d ≡ b → P (cond b (Some (client_entry T d)) (entry_of c (map (client_entry T) cs)))) [
      | true ↦ λ is. subst (λ x. P (Some (client_entry T x))) (same_client-true c d is) some
      | false ↦ λ _. said P T cs c none some
    ] refl

said_of : (ranges : OriginEntry → List (ℕ × ℕ)) (n : ℕ) (c : List ℕ) (T : List Op) (os : List ℕ) (origin : ℕ)
    → in_ranges n (ranges_of ranges (find_first (λ o. origin == o.origin) (filter has_ranges (map (origin_entry c T) os)))) ≡ true → in_ranges n (ranges (origin_entry c T origin)) ≡ true
said_of ranges n c T [] origin e = absurd (true≢false (sym e))
said_of ranges n c T (o ∷ os) origin e =
    let rest = filter has_ranges (map (origin_entry c T) os) in
    elim (has_ranges (origin_entry c T o)) as (λ b. in_ranges n (ranges_of ranges (find_first (λ o. origin == o.origin) (cond b (origin_entry c T o ∷ rest) rest))) ≡ true → in_ranges n (ranges (origin_entry c T origin)) ≡ true) [
      | true ↦ λ h. elim (origin == o) as (λ b. (origin == o) ≡ b → in_ranges n (ranges_of ranges (cond b (Some (origin_entry c T o)) (find_first (λ o. origin == o.origin) rest))) ≡ true → in_ranges n (ranges (origin_entry c T origin)) ≡ true) [
        | true ↦ λ is k. ap (λ x. in_ranges n (ranges (origin_entry c T x))) (eqb-true origin o is) ∙ k
        | false ↦ λ _ k. said_of ranges n c T os origin k
      ] refl h
      | false ↦ λ h. said_of ranges n c T os origin h
    ] e

said_ranges : (ranges : OriginEntry → List (ℕ × ℕ)) (n : ℕ) (c : List ℕ) (T : List Op) (origin : ℕ) → in_ranges n (entry_ranges ranges origin (entry_of c (digest T).clients)) ≡ true → in_ranges n (ranges (origin_entry c T origin)) ≡ true
unfolding origin_entries
said_ranges ranges n c T origin =
    said (λ e. in_ranges n (entry_ranges ranges origin e) ≡ true → in_ranges n (ranges (origin_entry c T origin)) ≡ true) T (clients T) c
    (λ e. absurd (true≢false (sym e))) (said_of ranges n c T (numbers_from 1 255) origin)

-- the entry of a topic in the digest of a set is what the set says of it
said_topic : (P : Option RetainedEntry → Type 0) (T : List Op) (ts : List (List ℕ)) (t : List ℕ) → P None → ((g : ℕ × ℕ) → latest t T ≡ Some g → P (Some (entry_of_topic t g))) → P (topic_entry_of t (filter_map (topic_entry T) ts))
said_topic P T [] t none some = none
said_topic P T (u ∷ ts) t none some =
    let rest = said_topic P T ts t none some in
    elim (latest u T) as (λ v. latest u T ≡ v → P (topic_entry_of t (cons_option (option_map (entry_of_topic u) v) (filter_map (topic_entry T) ts)))) [
      | None ↦ λ _. rest
      | Some g ↦ λ is. elim (same_topic t u) as (λ b. same_topic t u ≡ b → P (cond b (Some (entry_of_topic u g)) (topic_entry_of t (filter_map (topic_entry T) ts)))) [
        | true ↦ λ same. subst (λ x. latest x T ≡ Some g → P (Some (entry_of_topic x g))) (same_topic-true t u same) (some g) is
        | false ↦ λ _. rest
      ] refl
    ] refl

-- ---- operations without a gap are there

tied_equal : (r : Ordering) → is_eq r ≡ true → r ≡ Equal
tied_equal Less e = absurd (true≢false (sym e))
tied_equal Equal e = refl
tied_equal Greater e = absurd (true≢false (sym e))

first-or-later : (at : ℕ → Option SessionOp) (k n size : ℕ) (x : SessionOp) → at k ≡ Some x → n < suc size → ((m : ℕ) → m < size → is_some (at ((k + 1) + m)) ≡ true) → is_some (at (k + n)) ≡ true
first-or-later at k zero size x e lt later = ap (λ m. is_some (at m)) (let z : k + 0 ≡ k = omega arith in z) ∙ ap is_some e
first-or-later at k (suc n) size x e lt later = ap (λ m. is_some (at m)) (let z : k + suc n ≡ (k + 1) + n = omega arith in z) ∙ later n (omega (arith, lt))

gapless-there : (at : ℕ → Option SessionOp) (room k n : ℕ) → n < length (gapless at room k) → is_some (at (k + n)) ≡ true
unfolding gapless
gapless-there at zero k n lt = absurd (omega (arith, lt))
gapless-there at (suc room) k n lt =
    elim (at k) as (λ o. at k ≡ o → n < length (then_more o (gapless at room (k + 1))) → is_some (at (k + n)) ≡ true) [
      | None ↦ λ _ l. absurd (omega (arith, l))
      | Some x ↦ λ e l. first-or-later at k n (length (gapless at room (k + 1))) x e l (λ m more. gapless-there at room (k + 1) m more)
    ] refl lt

in_prefix_there : (c : List ℕ) (T : List Op) (name : Stamp × ℕ) → is_in_prefix (visible c T) (length (history c T)) name ≡ true → is_some (operation_at c T name) ≡ true
in_prefix_there c T name =
    elim (visible c T) as (λ v. is_in_prefix v (length (history_at (operation_at c T) v)) name ≡ true → is_some (operation_at c T name) ≡ true) [
      | None ↦ λ e. absurd (true≢false (sym e))
      | Some s ↦ λ e.
          let w = and_parts (is_eq (stamp_cmp name.0 s)) (nat_lt name.1 (length (history_at (operation_at c T) (Some s)))) e in
          let same : name.0 ≡ s = stamp_exact name.0 s (tied_equal (stamp_cmp name.0 s) w.0) in
          ap (λ x. is_some (operation_at c T (x, name.1))) same ∙ ap (λ k. is_some (operation_at c T (s, k))) (let z : name.1 ≡ 0 + name.1 = omega arith in z)
          ∙ gapless-there (λ k. operation_at c T (s, k)) 256 0 name.1 (ltb-true name.1 (length (history_at (operation_at c T) (Some s))) w.1)
    ]

-- ---- what is covered

module _ (c : List ℕ) (T : List Op) where
  pub covered_operation : (name : Stamp × ℕ) → covers_operation (digest T) c name ≡ true → is_below name.0 (visible c T) ≡ false → is_some (operation_at c T name) ≡ true
  covered_operation name e above =
      by_or (is_below name.0 (visible c T)) (is_in_prefix (visible c T) (length (history c T)) name)
      (said (λ entry. sees entry name ≡ true → (is_below name.0 (visible c T) || is_in_prefix (visible c T) (length (history c T)) name) ≡ true) T (clients T) c (λ none. absurd (true≢false (sym none))) (λ s. s) e)
      (λ below. absurd (true≢false (sym below ∙ above)))
      (in_prefix_there c T name)

  pub covered_put : (name : ℕ × ℕ) → covers_put (digest T) c name ≡ true → is_acknowledged c T name ≡ false → is_some (put_at c T name) ≡ true
  covered_put name e unfinished =
      by_or (in_ranges name.0 (waiting_in name.1 (entry_of c (digest T).clients))) (in_ranges name.0 (acknowledged_in name.1 (entry_of c (digest T).clients))) e
      (λ waits. waiting_there c name.1 name.0 T (said_ranges (λ o. o.waiting) name.0 c T name.1 waits))
      (λ done. absurd (true≢false (sym (said_ranges (λ o. o.acknowledged) name.0 c T name.1 done) ∙ in-acknowledged c name.1 name.0 T ∙ unfinished)))

  pub covered_acknowledgement : (name : ℕ × ℕ) → covers_acknowledgement (digest T) c name ≡ true → is_acknowledged c T name ≡ true
  covered_acknowledgement name e = sym (in-acknowledged c name.1 name.0 T) ∙ said_ranges (λ o. o.acknowledged) name.0 c T name.1 e

-- ---- what was retained

not_true : (b : Bool) → not b ≡ true → b ≡ false
not_true false e = refl
not_true true e = absurd (true≢false (sym e))

level : (a b : ℕ × ℕ) → is_lt (clock_cmp a b) ≡ false → is_lt (clock_cmp b a) ≡ false → (o : Ordering) → clock_cmp a b ≡ o → a ≡ b
level a b up down Less o = absurd (true≢false (sym (ap is_lt o) ∙ up))
level a b up down Equal o = clock_exact a b o
level a b up down Greater o = absurd (true≢false (sym (ap is_lt (clock_total.antisymm b a ∙ ap ordering_reverse o)) ∙ down))

pub covered_retain : (t : List ℕ) (T : List Op) (name : ℕ × ℕ) → covers_retain (digest T) t name ≡ true → is_outdone name (latest t T) ≡ false → is_some (retain_at t T name) ≡ true
covered_retain t T name e last =
    said_topic (λ entry. is_as_late entry name ≡ true → is_some (retain_at t T name) ≡ true) T (topics T) t (λ none. absurd (true≢false (sym none)))
    (λ g is late.
    let there : is_some (retain_at t T g) ≡ true = subst (λ v. IfSome v (λ g. is_some (retain_at t T g) ≡ true)) is (latest-there t T) in
    let after : is_lt (clock_cmp g name) ≡ false = not_true (is_lt (clock_cmp g name)) late in
    let before : is_lt (clock_cmp name g) ≡ false = sym (ap (is_outdone name) is) ∙ last in
    ap (λ n. is_some (retain_at t T n)) (level name g before after (clock_cmp name g) refl) ∙ there) e
