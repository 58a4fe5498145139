-- Sets between what must be kept and what was taken, with more after them.
use Rattle.std.proofs.Common.{◌≡◌, ℕ, Bool, true, false, cond, not, if◌then◌else◌, ◌||◌, List, [], ◌∷◌, ◌++◌, Option, Some, None, is_some, IfSome, refl, sym, ap, ◌∙◌, subst, true≢false}
use Rattle.std.proofs.lemmas.List.{append-nil}
use Rattle.sn_session.specs.declared.change.SessionOp.{SessionOp}
use Rattle.rep_op.specs.declared.op.Stamp.{Stamp}
use Rattle.rep_op.specs.declared.op.Put.{Put}
use Rattle.rep_op.specs.declared.op.Op.{Op}
use Rattle.rep_op.specs.declared.op.Op.TheVariants.{Session as OfSession, Put as OfPut, Ack, Retain as OfRetain}
use Rattle.rep_op.specs.declared.op.Retained.{Retained}
use Rattle.rep_op.specs.Orders.{operation_cmp, put_cmp, clock_of, clock_cmp}
use Rattle.rep_op.specs.Sets.{same_client, same_topic, operation_of, operation_at, put_of, put_at, is_acknowledged, retain_of, retain_at, Agrees, Within, Same}
use Rattle.rep_ops.specs.Splitting.{all_of}
use Rattle.rep_ops.proofs.Splitting.{all_of_more}
use Rattle.rep_model.specs.Views.{visible}
use Rattle.rep_model.specs.Topics.{latest}
use Rattle.rep_model.specs.Keep.{is_below, is_outdone, keep, CountsAs}
use Rattle.rep_model.specs.Taking.{AllAgree}
use Rattle.rep_model.proofs.Lookup.{or_else, find-all}
use Rattle.rep_model.proofs.Readers.{operation_exact, put_exact, clock_exact, same_client-true, same_topic-true, operation_at_both, put_at_both, is_acknowledged_both, retain_at_both, operation_at_keep, put_at_keep, is_acknowledged_keep, retain_at_keep}
use Rattle.rep_model.proofs.Thin.{thin-keep, thin-right}
use Rattle.rep_model.proofs.Joins.{all-weaker, counts-between, same_trans, within-left}
use Rattle.gw_node.specs.Taking.{IsBetween}

-- ---- options

there : {X : Type 0} (b : Bool) (o : Option X) (x : X) → cond (not b) o None ≡ Some x → (b ≡ false) × (o ≡ Some x)
there false o x e = (refl, e)
there true o x e = absurd (true≢false (sym (ap is_some e)))

-- j has what k has, and s what j has
behind_both : {X : Type 0} (k j s d : Option X) (x : X) → ((y : X) → k ≡ Some y → j ≡ Some y) → ((y : X) → j ≡ Some y → s ≡ Some y) → or_else k d ≡ Some x → or_else s d ≡ Some x → or_else j d ≡ Some x
behind_both k (Some y) s d x f g both all = sym (ap (λ a. or_else a d) (g y refl)) ∙ all
behind_both None None s d x f g both all = both
behind_both (Some y) None s d x f g both all = absurd (true≢false (sym (ap is_some (f y refl))))

-- s has what j has, and where it has anything that is what d has
behind_agreed : {X : Type 0} (j s d : Option X) (x : X) → ((y : X) → j ≡ Some y → s ≡ Some y) → IfSome d (λ y. IfSome s (λ z. z ≡ y)) → or_else j d ≡ Some x → or_else s d ≡ Some x
behind_agreed (Some y) s d x g agree e = ap (λ a. or_else a d) (g y refl) ∙ e
behind_agreed None None d x g agree e = e
behind_agreed None (Some z) None x g agree e = absurd (true≢false (sym (ap is_some e)))
behind_agreed None (Some z) (Some y) x g agree e = ap Some agree ∙ e

-- what must be kept of both together stands in the second
second_has : {X : Type 0} (k j : Option X) (x : X) → ((y : X) → k ≡ Some y → j ≡ Some y) → or_else k j ≡ Some x → j ≡ Some x
second_has None j x f e = e
second_has (Some y) j x f e = f y refl ∙ e

first_or_second : {X : Type 0} (s r j : Option X) (x : X) → j ≡ Some x → or_else s r ≡ Some x → or_else s j ≡ Some x
first_or_second None r j x e h = e
first_or_second (Some y) r j x e h = h

either : (a b p q : Bool) → (a ≡ true → p ≡ true) → (b ≡ true → q ≡ true) → (a || b) ≡ true → (p || q) ≡ true
either true b true q f g e = refl
either true b false q f g e = absurd (true≢false (sym (f refl)))
either false true p true f g e = or_last p
  where
    or_last : (p : Bool) → (p || true) ≡ true
    or_last true = refl
    or_last false = refl
either false true p false f g e = absurd (true≢false (sym (g refl)))
either false false p q f g e = absurd (true≢false (sym e))

-- ---- what agrees with a set

module _ (S : List Op) (c : List ℕ) where
  agreed_operation : (op : Op) → Agrees S op → IfSome (operation_of c op) (λ e. IfSome (operation_at c S e.0) (λ kept. kept ≡ e.1))
  agreed_operation (OfSession d stamp counter change) h =
      elim (same_client c d) as (λ b. same_client c d ≡ b → IfSome {T = (Stamp × ℕ) × SessionOp} (if b then Some ((stamp, counter), change) else None) (λ e. IfSome (operation_at c S e.0) (λ kept. kept ≡ e.1))) [
        | true ↦ λ e. subst (λ (x : List ℕ). IfSome (operation_at x S (stamp, counter)) (λ kept. kept ≡ change)) (sym (same_client-true c d e)) h
        | false ↦ λ _. tt
      ] refl
  agreed_operation (OfPut d put) h = tt
  agreed_operation (Ack d origin first last) h = tt
  agreed_operation (OfRetain t k) h = tt

  agreed_put : (op : Op) → Agrees S op → IfSome (put_of c op) (λ e. IfSome (put_at c S e.0) (λ kept. kept ≡ e.1))
  agreed_put (OfSession d stamp counter change) h = tt
  agreed_put (OfPut d put) h =
      elim (same_client c d) as (λ b. same_client c d ≡ b → IfSome {T = (ℕ × ℕ) × Put} (if b then Some ((put.seq, put.origin), put) else None) (λ e. IfSome (put_at c S e.0) (λ kept. kept ≡ e.1))) [
        | true ↦ λ e. subst (λ (x : List ℕ). IfSome (put_at x S (put.seq, put.origin)) (λ kept. kept ≡ put)) (sym (same_client-true c d e)) h
        | false ↦ λ _. tt
      ] refl
  agreed_put (Ack d origin first last) h = tt
  agreed_put (OfRetain t k) h = tt

  -- of the topic c
  agreed_retain : (op : Op) → Agrees S op → IfSome (retain_of c op) (λ e. IfSome (retain_at c S e.0) (λ kept. kept ≡ e.1))
  agreed_retain (OfSession d stamp counter change) h = tt
  agreed_retain (OfPut d put) h = tt
  agreed_retain (Ack d origin first last) h = tt
  agreed_retain (OfRetain t k) h =
      elim (same_topic c t) as (λ b. same_topic c t ≡ b → IfSome {T = (ℕ × ℕ) × Retained} (if b then Some (clock_of k, k) else None) (λ e. IfSome (retain_at c S e.0) (λ kept. kept ≡ e.1))) [
        | true ↦ λ e. subst (λ (x : List ℕ). IfSome (retain_at x S (clock_of k)) (λ kept. kept ≡ k)) (sym (same_topic-true c t e)) h
        | false ↦ λ _. tt
      ] refl

  agreed_operations : (D : List Op) → AllAgree S D → (name : Stamp × ℕ) → IfSome (operation_at c D name) (λ x. IfSome (operation_at c S name) (λ kept. kept ≡ x))
  agreed_operations D all name = find-all operation_cmp operation_exact (operation_of c) (λ k x. IfSome (operation_at c S k) (λ kept. kept ≡ x)) D (all-weaker (Agrees S) _ agreed_operation D all) name

  agreed_puts : (D : List Op) → AllAgree S D → (name : ℕ × ℕ) → IfSome (put_at c D name) (λ x. IfSome (put_at c S name) (λ kept. kept ≡ x))
  agreed_puts D all name = find-all put_cmp put_exact (put_of c) (λ k x. IfSome (put_at c S k) (λ kept. kept ≡ x)) D (all-weaker (Agrees S) _ agreed_put D all) name

  agreed_retains : (D : List Op) → AllAgree S D → (name : ℕ × ℕ) → IfSome (retain_at c D name) (λ x. IfSome (retain_at c S name) (λ kept. kept ≡ x))
  agreed_retains D all name = find-all clock_cmp clock_exact (retain_of c) (λ k x. IfSome (retain_at c S k) (λ kept. kept ≡ x)) D (all-weaker (Agrees S) _ agreed_retain D all) name

-- ---- one more delta

module _ (S J D : List Op) where
  pub lower-join : Within (keep S) J → Within J S → Within (keep (S ++ D)) (J ++ D)
  lower-join lower upper = record {
    operations_in = λ c name x e.
        let w = there (is_below name.0 (visible c (S ++ D))) (operation_at c (S ++ D) name) x (sym (operation_at_keep c (S ++ D) name) ∙ e) in
        let thin = (thin-right (keep S) S (thin-keep S) D).operations_same c name w.0 in
        operation_at_both c J D name
        ∙ behind_both (operation_at c (keep S) name) (operation_at c J name) (operation_at c S name) (operation_at c D name) x (lower.operations_in c name) (upper.operations_in c name)
        (sym (operation_at_both c (keep S) D name) ∙ thin ∙ w.1) (sym (operation_at_both c S D name) ∙ w.1);
    puts_in = λ c name x e.
        let w = there (is_acknowledged c (S ++ D) name) (put_at c (S ++ D) name) x (sym (put_at_keep c (S ++ D) name) ∙ e) in
        let thin = (thin-right (keep S) S (thin-keep S) D).puts_same c name w.0 in
        put_at_both c J D name
        ∙ behind_both (put_at c (keep S) name) (put_at c J name) (put_at c S name) (put_at c D name) x (lower.puts_in c name) (upper.puts_in c name)
        (sym (put_at_both c (keep S) D name) ∙ thin ∙ w.1) (sym (put_at_both c S D name) ∙ w.1);
    acknowledgements_in = λ c name e.
        is_acknowledged_both c J D name
        ∙ either (is_acknowledged c S name) (is_acknowledged c D name) (is_acknowledged c J name) (is_acknowledged c D name)
        (λ h. lower.acknowledgements_in c name (is_acknowledged_keep c S name ∙ h)) (λ h. h)
        (sym (is_acknowledged_both c S D name) ∙ sym (is_acknowledged_keep c (S ++ D) name) ∙ e);
    retains_in = λ t name x e.
        let w = there (is_outdone name (latest t (S ++ D))) (retain_at t (S ++ D) name) x (sym (retain_at_keep t (S ++ D) name) ∙ e) in
        let thin = (thin-right (keep S) S (thin-keep S) D).retains_same t name w.0 in
        retain_at_both t J D name
        ∙ behind_both (retain_at t (keep S) name) (retain_at t J name) (retain_at t S name) (retain_at t D name) x (lower.retains_in t name) (upper.retains_in t name)
        (sym (retain_at_both t (keep S) D name) ∙ thin ∙ w.1) (sym (retain_at_both t S D name) ∙ w.1);
  }

  pub upper-join : Within J S → AllAgree S D → Within (J ++ D) (S ++ D)
  upper-join upper all = record {
    operations_in = λ c name x e.
        operation_at_both c S D name
        ∙ behind_agreed (operation_at c J name) (operation_at c S name) (operation_at c D name) x (upper.operations_in c name) (agreed_operations S c D all name) (sym (operation_at_both c J D name) ∙ e);
    puts_in = λ c name x e.
        put_at_both c S D name
        ∙ behind_agreed (put_at c J name) (put_at c S name) (put_at c D name) x (upper.puts_in c name) (agreed_puts S c D all name) (sym (put_at_both c J D name) ∙ e);
    acknowledgements_in = λ c name e.
        is_acknowledged_both c S D name
        ∙ either (is_acknowledged c J name) (is_acknowledged c D name) (is_acknowledged c S name) (is_acknowledged c D name) (upper.acknowledgements_in c name) (λ h. h)
        (sym (is_acknowledged_both c J D name) ∙ e);
    retains_in = λ t name x e.
        retain_at_both t S D name
        ∙ behind_agreed (retain_at t J name) (retain_at t S name) (retain_at t D name) x (upper.retains_in t name) (agreed_retains S t D all name) (sym (retain_at_both t J D name) ∙ e);
  }

-- ---- what a journal gives back is taken once more

module _ (S J : List Op) where
  pub restart-lower : Within (keep S) J → Within (keep (S ++ J)) J
  restart-lower lower = record {
    operations_in = λ c name x e.
        let w = there (is_below name.0 (visible c (S ++ J))) (operation_at c (S ++ J) name) x (sym (operation_at_keep c (S ++ J) name) ∙ e) in
        let thin = (thin-right (keep S) S (thin-keep S) J).operations_same c name w.0 in
        second_has (operation_at c (keep S) name) (operation_at c J name) x (lower.operations_in c name) (sym (operation_at_both c (keep S) J name) ∙ thin ∙ w.1);
    puts_in = λ c name x e.
        let w = there (is_acknowledged c (S ++ J) name) (put_at c (S ++ J) name) x (sym (put_at_keep c (S ++ J) name) ∙ e) in
        let thin = (thin-right (keep S) S (thin-keep S) J).puts_same c name w.0 in
        second_has (put_at c (keep S) name) (put_at c J name) x (lower.puts_in c name) (sym (put_at_both c (keep S) J name) ∙ thin ∙ w.1);
    acknowledgements_in = λ c name e.
        once (is_acknowledged c S name) (is_acknowledged c J name) (λ h. lower.acknowledgements_in c name (is_acknowledged_keep c S name ∙ h))
        (sym (is_acknowledged_both c S J name) ∙ sym (is_acknowledged_keep c (S ++ J) name) ∙ e);
    retains_in = λ t name x e.
        let w = there (is_outdone name (latest t (S ++ J))) (retain_at t (S ++ J) name) x (sym (retain_at_keep t (S ++ J) name) ∙ e) in
        let thin = (thin-right (keep S) S (thin-keep S) J).retains_same t name w.0 in
        second_has (retain_at t (keep S) name) (retain_at t J name) x (lower.retains_in t name) (sym (retain_at_both t (keep S) J name) ∙ thin ∙ w.1);
  }
    where
      once : (a b : Bool) → (a ≡ true → b ≡ true) → (a || b) ≡ true → b ≡ true
      once true b f e = f refl
      once false b f e = e

  pub restart-upper : (refused : List Op) → Within J (S ++ refused) → Within J (S ++ J)
  restart-upper refused upper = record {
    operations_in = λ c name x e.
        operation_at_both c S J name
        ∙ first_or_second (operation_at c S name) (operation_at c refused name) (operation_at c J name) x e (sym (operation_at_both c S refused name) ∙ upper.operations_in c name x e);
    puts_in = λ c name x e.
        put_at_both c S J name
        ∙ first_or_second (put_at c S name) (put_at c refused name) (put_at c J name) x e (sym (put_at_both c S refused name) ∙ upper.puts_in c name x e);
    acknowledgements_in = λ c name e. is_acknowledged_both c S J name ∙ or_last (is_acknowledged c S name) (is_acknowledged c J name) e;
    retains_in = λ t name x e.
        retain_at_both t S J name
        ∙ first_or_second (retain_at t S name) (retain_at t refused name) (retain_at t J name) x e (sym (retain_at_both t S refused name) ∙ upper.retains_in t name x e);
  }
    where
      or_last : (a b : Bool) → b ≡ true → (a || b) ≡ true
      or_last true b e = refl
      or_last false b e = e

-- ---- the records of a journal

pub within-trans : (A B C : List Op) → Within A B → Within B C → Within A C
within-trans A B C f g = record {
  operations_in = λ c name x e. g.operations_in c name x (f.operations_in c name x e);
  puts_in = λ c name x e. g.puts_in c name x (f.puts_in c name x e);
  acknowledgements_in = λ c name e. g.acknowledgements_in c name (f.acknowledgements_in c name e);
  retains_in = λ t name x e. g.retains_in t name x (f.retains_in t name x e);
}

pub within-same : (A B : List Op) → Same A B → Within A B
within-same A B s = record {
  operations_in = λ c name x e. sym (s.operations_same c name) ∙ e;
  puts_in = λ c name x e. sym (s.puts_same c name) ∙ e;
  acknowledgements_in = λ c name e. sym (s.acknowledgements_same c name) ∙ e;
  retains_in = λ t name x e. sym (s.retains_same t name) ∙ e;
}

pub within-keep : (S : List Op) → Within (keep S) S
within-keep S = record {
  operations_in = λ c name x e. (there (is_below name.0 (visible c S)) (operation_at c S name) x (sym (operation_at_keep c S name) ∙ e)).1;
  puts_in = λ c name x e. (there (is_acknowledged c S name) (put_at c S name) x (sym (put_at_keep c S name) ∙ e)).1;
  acknowledgements_in = λ c name e. sym (is_acknowledged_keep c S name) ∙ e;
  retains_in = λ t name x e. (there (is_outdone name (latest t S)) (retain_at t S name) x (sym (retain_at_keep t S name) ∙ e)).1;
}

pub within-nothing : (A S : List Op) → Within A (S ++ []) → Within A S
within-nothing A S h = subst (λ (U : List Op). Within A U) (append-nil S) h

pub within-nothing_more : (A S : List Op) → Within A S → Within A (S ++ [])
within-nothing_more A S h = subst (λ (U : List Op). Within A U) (sym (append-nil S)) h

-- with one more record, which is taken
pub between_more : (S D : List Op) (deltas : List (List Op)) → AllAgree S D → IsBetween S [] (all_of deltas) → IsBetween (S ++ D) [] (all_of (deltas ++ D ∷ []))
between_more S D deltas all h =
    let J = all_of deltas in
    let upper = within-nothing J S h.upper in
    subst (λ (ops : List Op). IsBetween (S ++ D) [] ops) (sym (all_of_more deltas D))
    (record { lower = lower-join S J D h.lower upper; upper = within-nothing_more (J ++ D) (S ++ D) (upper-join S J D upper all) })

-- without it, or with it, where it is refused
pub between_refused : (S D : List Op) (deltas : List (List Op)) → IsBetween S [] (all_of deltas) → IsBetween S (D ∷ []) (all_of deltas)
between_refused S D deltas h =
    record { lower = h.lower; upper = within-trans (all_of deltas) S (S ++ all_of (D ∷ [])) (within-nothing (all_of deltas) S h.upper) (within-left S (all_of (D ∷ []))) }

pub between_left_over : (S D : List Op) (deltas : List (List Op)) → AllAgree S D → IsBetween S [] (all_of deltas) → IsBetween S (D ∷ []) (all_of (deltas ++ D ∷ []))
between_left_over S D deltas all h =
    let J = all_of deltas in
    let upper = within-nothing J S h.upper in
    subst (λ (ops : List Op). IsBetween S (D ∷ []) ops) (sym (all_of_more deltas D))
    (record { lower = within-trans (keep S) J (J ++ D) h.lower (within-left J D); upper = subst (λ (T : List Op). Within (J ++ D) (S ++ T)) (sym (append-nil D)) (upper-join S J D upper all) })

-- what was read back, with what was taken before
pub between_again : (S : List Op) (refused : List (List Op)) (J : List Op) → IsBetween S refused J → IsBetween (S ++ J) [] J
between_again S refused J h =
    record { lower = restart-lower S J h.lower; upper = within-nothing_more J (S ++ J) (restart-upper S J (all_of refused) h.upper) }

pub counts_back : (S : List Op) (refused : List (List Op)) (J : List Op) → IsBetween S refused J → CountsAs (S ++ J) J
counts_back S refused J h = counts-between (S ++ J) J (record { lower = restart-lower S J h.lower; upper = restart-upper S J (all_of refused) h.upper })

pub counts_again : (S : List Op) (refused : List (List Op)) (J K : List Op) → IsBetween S refused J → CountsAs J K → CountsAs (S ++ J) K
counts_again S refused J K h counts = same_trans counts (counts_back S refused J h)
