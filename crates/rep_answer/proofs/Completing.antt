-- An answer completes: with it the asker keeps what it would keep with all that the answerer has.
use Rattle.std.proofs.Common.{◌≡◌, ℕ, Bool, true, false, cond, not, ◌&&◌, ◌||◌, if◌then◌else◌, List, ◌++◌, Option, Some, None, is_some, refl, sym, ap, ◌∙◌, true≢false}
use Rattle.std.proofs.lemmas.Bool.{false_from_ne_true}
use Rattle.rep_op.specs.declared.op.Stamp.{Stamp}
use Rattle.rep_op.specs.declared.op.Op.{Op}
use Rattle.rep_op.specs.Sets.{operation_at, put_at, is_acknowledged, retain_at, Same}
use Rattle.rep_model.specs.Views.{visible}
use Rattle.rep_model.specs.Topics.{latest}
use Rattle.rep_model.specs.Keep.{is_below, is_outdone, keep, CountsAs}
use Rattle.rep_model.proofs.Lookup.{or_else}
use Rattle.rep_model.proofs.Readers.{operation_at_both, put_at_both, is_acknowledged_both, retain_at_both, operation_at_keep, put_at_keep, is_acknowledged_keep, retain_at_keep}
use Rattle.rep_model.proofs.Thin.{Thin, not_below-part, not_outdone-part, same_kept, kept_some, some_second, some_left, some_right, none_left, none_right, thin-right}
use Rattle.rep_digest.specs.Digests.{Digested, digest}
use Rattle.rep_answer.specs.Answers.{covers_operation, covers_put, covers_acknowledgement, covers_retain, IsRest, IsAnswer}
use Rattle.rep_answer.proofs.Covered.{covered_operation, covered_put, covered_acknowledgement, covered_retain}

uncovered_some : {A : Type 0} (b : Bool) (x : Option A) → is_some (if b then None else x) ≡ true → is_some x ≡ true
uncovered_some true x e = absurd (true≢false (sym e))
uncovered_some false x e = e

-- what the first has not, the second has alike
second_same : {A : Type 0} (o x y : Option A) → (o ≡ None → x ≡ y) → or_else o x ≡ or_else o y
second_same None x y f = f refl
second_same (Some z) x y f = refl

covered_or : (t covers s : Bool) → (covers ≡ true → t ≡ true) → (t || (not covers && s)) ≡ (t || s)
covered_or true covers s f = refl
covered_or false false s f = refl
covered_or false true s f = absurd (true≢false (sym (f refl)))

none_there : {A : Type 0} (o : Option A) → o ≡ None → is_some o ≡ true → ⊥
none_there o e f = true≢false (sym f ∙ ap is_some e)

module _ (S T X : List Op) (rest : IsRest (digest T) (keep S) X) where
  taken_there : (c : List ℕ) (name : Stamp × ℕ) → is_some (operation_at c X name) ≡ true → is_some (operation_at c S name) ≡ true
  taken_there c name h =
      kept_some (not (is_below name.0 (visible c S))) (operation_at c S name) (sym (ap is_some (operation_at_keep c S name))
      ∙ uncovered_some (covers_operation (digest T) c name) (operation_at c (keep S) name) (sym (ap is_some (rest.operations_left c name)) ∙ h))

  put_there : (c : List ℕ) (name : ℕ × ℕ) → is_some (put_at c X name) ≡ true → is_some (put_at c S name) ≡ true
  put_there c name h =
      kept_some (not (is_acknowledged c S name)) (put_at c S name) (sym (ap is_some (put_at_keep c S name))
      ∙ uncovered_some (covers_put (digest T) c name) (put_at c (keep S) name) (sym (ap is_some (rest.puts_left c name)) ∙ h))

  taken_same : (c : List ℕ) (name : Stamp × ℕ) → is_below name.0 (visible c (T ++ S)) ≡ false → operation_at c T name ≡ None → operation_at c X name ≡ operation_at c S name
  taken_same c name b none =
      let in_asker = not_below-part c T (T ++ S) (λ s h. ap is_some (operation_at_both c T S (s, 0)) ∙ some_left (operation_at c T (s, 0)) (operation_at c S (s, 0)) h) name.0 b in
      let in_answerer = not_below-part c S (T ++ S) (λ s h. ap is_some (operation_at_both c T S (s, 0)) ∙ some_right (operation_at c T (s, 0)) (operation_at c S (s, 0)) h) name.0 b in
      let uncovered = false_from_ne_true (covers_operation (digest T) c name) (λ e. none_there (operation_at c T name) none (covered_operation c T name e in_asker)) in
      rest.operations_left c name ∙ ap (λ x. if x then None else operation_at c (keep S) name) uncovered
      ∙ operation_at_keep c S name ∙ ap (λ z. cond (not z) (operation_at c S name) None) in_answerer

  put_same : (c : List ℕ) (name : ℕ × ℕ) → is_acknowledged c (T ++ S) name ≡ false → put_at c T name ≡ None → put_at c X name ≡ put_at c S name
  put_same c name b none =
      let both = sym (is_acknowledged_both c T S name) ∙ b in
      let uncovered = false_from_ne_true (covers_put (digest T) c name)
      (λ e. none_there (put_at c T name) none (covered_put c T name e (none_left (is_acknowledged c T name) (is_acknowledged c S name) both))) in
      rest.puts_left c name ∙ ap (λ x. if x then None else put_at c (keep S) name) uncovered
      ∙ put_at_keep c S name ∙ ap (λ z. cond (not z) (put_at c S name) None) (none_right (is_acknowledged c T name) (is_acknowledged c S name) both)

  retain_there : (t : List ℕ) (name : ℕ × ℕ) → is_some (retain_at t X name) ≡ true → is_some (retain_at t S name) ≡ true
  retain_there t name h =
      kept_some (not (is_outdone name (latest t S))) (retain_at t S name) (sym (ap is_some (retain_at_keep t S name))
      ∙ uncovered_some (covers_retain (digest T) t name) (retain_at t (keep S) name) (sym (ap is_some (rest.retains_left t name)) ∙ h))

  retain_same : (t : List ℕ) (name : ℕ × ℕ) → is_outdone name (latest t (T ++ S)) ≡ false → retain_at t T name ≡ None → retain_at t X name ≡ retain_at t S name
  retain_same t name b none =
      let in_asker = not_outdone-part t T (T ++ S) (λ n h. ap is_some (retain_at_both t T S n) ∙ some_left (retain_at t T n) (retain_at t S n) h) name b in
      let in_answerer = not_outdone-part t S (T ++ S) (λ n h. ap is_some (retain_at_both t T S n) ∙ some_right (retain_at t T n) (retain_at t S n) h) name b in
      let uncovered = false_from_ne_true (covers_retain (digest T) t name) (λ e. none_there (retain_at t T name) none (covered_retain t T name e in_asker)) in
      rest.retains_left t name ∙ ap (λ x. if x then None else retain_at t (keep S) name) uncovered
      ∙ retain_at_keep t S name ∙ ap (λ z. cond (not z) (retain_at t S name) None) in_answerer

  thin_answer : Thin (T ++ X) (T ++ S)
  thin_answer = record {
    operations_there = λ c name h. ap is_some (operation_at_both c T S name) ∙ some_second (operation_at c X name) (operation_at c S name) (operation_at c T name) (taken_there c name) (sym (ap is_some (operation_at_both c T X name)) ∙ h);
    operations_same = λ c name b. operation_at_both c T X name ∙ second_same (operation_at c T name) (operation_at c X name) (operation_at c S name) (taken_same c name b) ∙ sym (operation_at_both c T S name);
    puts_there = λ c name h. ap is_some (put_at_both c T S name) ∙ some_second (put_at c X name) (put_at c S name) (put_at c T name) (put_there c name) (sym (ap is_some (put_at_both c T X name)) ∙ h);
    puts_same = λ c name b. put_at_both c T X name ∙ second_same (put_at c T name) (put_at c X name) (put_at c S name) (put_same c name b) ∙ sym (put_at_both c T S name);
    acknowledgements_same = λ c name. is_acknowledged_both c T X name
        ∙ ap (λ x. is_acknowledged c T name || x) (rest.acknowledgements_left c name ∙ ap (λ x. not (covers_acknowledgement (digest T) c name) && x) (is_acknowledged_keep c S name))
        ∙ covered_or (is_acknowledged c T name) (covers_acknowledgement (digest T) c name) (is_acknowledged c S name) (covered_acknowledgement c T name)
        ∙ sym (is_acknowledged_both c T S name);
    retains_there = λ t name h. ap is_some (retain_at_both t T S name) ∙ some_second (retain_at t X name) (retain_at t S name) (retain_at t T name) (retain_there t name) (sym (ap is_some (retain_at_both t T X name)) ∙ h);
    retains_same = λ t name b. retain_at_both t T X name ∙ second_same (retain_at t T name) (retain_at t X name) (retain_at t S name) (retain_same t name b) ∙ sym (retain_at_both t T S name);
  }

  pub completed : (Y : List Op) → Same (keep ((T ++ X) ++ Y)) (keep ((T ++ S) ++ Y))
  completed Y = same_kept ((T ++ X) ++ Y) ((T ++ S) ++ Y) (thin-right (T ++ X) (T ++ S) thin_answer Y)

-- ---- the answer of what counts as a set is one of the set

module _ (S K : List Op) (h : CountsAs S K) where
  same_rest : (d : Digested) (X : List Op) → IsRest d (keep K) X → IsRest d (keep S) X
  same_rest d X rest = record {
    operations_left = λ c name. rest.operations_left c name ∙ ap (λ o. if covers_operation d c name then None else o) (h.operations_same c name);
    puts_left = λ c name. rest.puts_left c name ∙ ap (λ o. if covers_put d c name then None else o) (h.puts_same c name);
    acknowledgements_left = λ c name. rest.acknowledgements_left c name ∙ ap (λ b. not (covers_acknowledgement d c name) && b) (h.acknowledgements_same c name);
    retains_left = λ t name. rest.retains_left t name ∙ ap (λ o. if covers_retain d t name then None else o) (h.retains_same t name);
  }

  pub same_answer : (d : Digested) (deltas : List (List Op)) → IsAnswer d K deltas → IsAnswer d S deltas
  same_answer d deltas (X, rest, split) = (X, same_rest d X rest, split)
