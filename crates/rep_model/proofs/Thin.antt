-- A set that says of each client what another says, but for what the other does not keep: the same views.
use Rattle.std.proofs.Common.{◌≡◌, ℕ, Bool, true, false, cond, not, ◌||◌, List, ◌++◌, map, length, Option, Some, None, is_some, IfSome, IsSomeAnd, refl, sym, ap, ◌∙◌, true≢false, is_lt}
use Rattle.std.specs.Prelude.{option_and_then}
use Rattle.std.specs.FinMap.Entries.{find-where_key, same_entries}
use Rattle.std.proofs.lemmas.Cmp.{tied_itself}
use Rattle.sn_session.specs.declared.change.SessionOp.{SessionOp}
use Rattle.rep_op.specs.declared.op.Stamp.{Stamp}
use Rattle.rep_op.specs.declared.op.Op.{Op}
use Rattle.rep_op.specs.Orders.{stamp_cmp, put_cmp, clock_cmp}
use Rattle.rep_op.specs.Sets.{operation_at, puts, put_at, is_acknowledged, retain_at, Same}
use Rattle.rep_model.specs.Views.{visible, gapless, history_at, history, session_made, unacknowledged, pending_at, in_order, pending, view}
use Rattle.rep_model.specs.Topics.{clocks, latest, retained}
use Rattle.rep_model.specs.Keep.{is_below, is_outdone, keep, IsKeptOf}
use Rattle.rep_model.proofs.Lookup.{or_else, find-in_order, is_sorted-in_order}
use Rattle.rep_model.proofs.Greatest.{has, not_below, greatest-has, greatest-reaches, same_greatest}
use Rattle.rep_model.proofs.Readers.{stamp_total, stamp_exact, put_total, put_exact, clock_total, clock_exact, takes, has_take, has_clock, operation_at_both, put_at_both, is_acknowledged_both, retain_at_both, operation_at_keep, put_at_keep, is_acknowledged_keep, retain_at_keep}

-- N says of each client what W says, but for what W does not keep
pub record Thin (N W : List Op) : Type 0 where
  pub operations_there : (c : List ℕ) (name : Stamp × ℕ) → is_some (operation_at c N name) ≡ true → is_some (operation_at c W name) ≡ true
  pub operations_same : (c : List ℕ) (name : Stamp × ℕ) → is_below name.0 (visible c W) ≡ false → operation_at c N name ≡ operation_at c W name
  pub puts_there : (c : List ℕ) (name : ℕ × ℕ) → is_some (put_at c N name) ≡ true → is_some (put_at c W name) ≡ true
  pub puts_same : (c : List ℕ) (name : ℕ × ℕ) → is_acknowledged c W name ≡ false → put_at c N name ≡ put_at c W name
  pub acknowledgements_same : (c : List ℕ) (name : ℕ × ℕ) → is_acknowledged c N name ≡ is_acknowledged c W name
  pub retains_there : (c : List ℕ) (name : ℕ × ℕ) → is_some (retain_at c N name) ≡ true → is_some (retain_at c W name) ≡ true
  pub retains_same : (c : List ℕ) (name : ℕ × ℕ) → is_outdone name (latest c W) ≡ false → retain_at c N name ≡ retain_at c W name

pub not_below_itself : (s : Stamp) → is_below s (Some s) ≡ false
not_below_itself s = ap is_lt (tied_itself stamp_total s)

-- what is not below the visible stamp is not below that of a set with fewer Takes
pub not_below-part : (c : List ℕ) (A B : List Op) → ((s : Stamp) → is_some (operation_at c A (s, 0)) ≡ true → is_some (operation_at c B (s, 0)) ≡ true) → (x : Stamp) → is_below x (visible c B) ≡ false → is_below x (visible c A) ≡ false
not_below-part c A B sub x =
    elim (visible c A) as (λ v. IfSome v (λ g. has stamp_cmp g (takes c A) ≡ true) → is_below x (visible c B) ≡ false → is_below x v ≡ false) [
      | None ↦ λ _ _. refl
      | Some g ↦ λ h. elim (visible c B) as (λ w. IsSomeAnd w (λ u. is_lt (stamp_cmp u g) ≡ false) → is_below x w ≡ false → is_lt (stamp_cmp x g) ≡ false) [
        | None ↦ λ r. absurd r
        | Some u ↦ λ r b. not_below stamp_cmp stamp_total x u g b r
      ] (greatest-reaches stamp_cmp stamp_total g (takes c B) (has_take c B g ∙ sub g (sym (has_take c A g) ∙ h)))
    ] (greatest-has stamp_cmp stamp_total (takes c A))

pub not_outdone_itself : (n : ℕ × ℕ) → is_outdone n (Some n) ≡ false
not_outdone_itself n = ap is_lt (tied_itself clock_total n)

-- what is not outdone by the last of a set is not outdone by the last of a part of it
pub not_outdone-part : (c : List ℕ) (A B : List Op) → ((n : ℕ × ℕ) → is_some (retain_at c A n) ≡ true → is_some (retain_at c B n) ≡ true) → (x : ℕ × ℕ) → is_outdone x (latest c B) ≡ false → is_outdone x (latest c A) ≡ false
not_outdone-part c A B sub x =
    elim (latest c A) as (λ v. IfSome v (λ g. has clock_cmp g (clocks c A) ≡ true) → is_outdone x (latest c B) ≡ false → is_outdone x v ≡ false) [
      | None ↦ λ _ _. refl
      | Some g ↦ λ h. elim (latest c B) as (λ w. IsSomeAnd w (λ u. is_lt (clock_cmp u g) ≡ false) → is_outdone x w ≡ false → is_lt (clock_cmp x g) ≡ false) [
        | None ↦ λ r. absurd r
        | Some u ↦ λ r b. not_below clock_cmp clock_total x u g b r
      ] (greatest-reaches clock_cmp clock_total g (clocks c B) (has_clock c B g ∙ sub g (sym (has_clock c A g) ∙ h)))
    ] (greatest-has clock_cmp clock_total (clocks c A))

pub pending_at-reads : (c : List ℕ) (S : List Op) (name : ℕ × ℕ) → pending_at c S name ≡ cond (not (is_acknowledged c S name)) (put_at c S name) None
pending_at-reads c S name = find-where_key put_cmp (λ n. not (is_acknowledged c S n)) name (λ x t. ap (λ n. not (is_acknowledged c S n)) (sym (put_exact name x t))) (puts c S)

module _ (N W : List Op) (t : Thin N W) (c : List ℕ) where
  pub visible-thin : visible c N ≡ visible c W
  visible-thin = same_greatest stamp_cmp stamp_total stamp_exact (takes c N) (takes c W)
      (λ s h. has_take c W s ∙ t.operations_there c (s, 0) (sym (has_take c N s) ∙ h))
      (elim (visible c W) as (λ v. ((s : Stamp) → is_below s v ≡ false → is_some (operation_at c N (s, 0)) ≡ is_some (operation_at c W (s, 0))) → IfSome v (λ g. has stamp_cmp g (takes c W) ≡ true) → IfSome v (λ g. has stamp_cmp g (takes c N) ≡ true)) [
        | None ↦ λ _ _. tt
        | Some g ↦ λ same h. has_take c N g ∙ same g (not_below_itself g) ∙ sym (has_take c W g) ∙ h
      ] (λ s b. ap is_some (t.operations_same c (s, 0) b)) (greatest-has stamp_cmp stamp_total (takes c W)))

  pub history-thin : history c N ≡ history c W
  history-thin = ap (history_at (operation_at c N)) visible-thin
      ∙ elim (visible c W) as (λ v. ((name : Stamp × ℕ) → is_below name.0 v ≡ false → operation_at c N name ≡ operation_at c W name) → history_at (operation_at c N) v ≡ history_at (operation_at c W) v) [
        | None ↦ λ _. refl
        | Some s ↦ λ same. ap (λ (at : ℕ → Option SessionOp). gapless at 256 0) (λ i k. same (s, k) (not_below_itself s) i)
      ] (t.operations_same c)

  pub pending_at-thin : (name : ℕ × ℕ) → pending_at c N name ≡ pending_at c W name
  pending_at-thin name =
      pending_at-reads c N name ∙ ap (λ b. cond (not b) (put_at c N name) None) (t.acknowledgements_same c name)
      ∙ elim (is_acknowledged c W name) as (λ b. is_acknowledged c W name ≡ b → cond (not b) (put_at c N name) None ≡ cond (not b) (put_at c W name) None) [
        | true ↦ λ _. refl
        | false ↦ λ e. t.puts_same c name e
      ] refl ∙ sym (pending_at-reads c W name)

  pub pending-thin : pending c N ≡ pending c W
  pending-thin = ap (map (λ e. e.1)) (same_entries put_cmp put_total put_exact (in_order put_cmp (unacknowledged c N)) (in_order put_cmp (unacknowledged c W))
      (is_sorted-in_order put_cmp put_total (unacknowledged c N)) (is_sorted-in_order put_cmp put_total (unacknowledged c W))
      (λ q. find-in_order put_cmp put_total q (unacknowledged c N) ∙ pending_at-thin q ∙ sym (find-in_order put_cmp put_total q (unacknowledged c W))))

  pub latest-thin : latest c N ≡ latest c W
  latest-thin = same_greatest clock_cmp clock_total clock_exact (clocks c N) (clocks c W)
      (λ n h. has_clock c W n ∙ t.retains_there c n (sym (has_clock c N n) ∙ h))
      (elim (latest c W) as (λ v. ((n : ℕ × ℕ) → is_outdone n v ≡ false → is_some (retain_at c N n) ≡ is_some (retain_at c W n)) → IfSome v (λ g. has clock_cmp g (clocks c W) ≡ true) → IfSome v (λ g. has clock_cmp g (clocks c N) ≡ true)) [
        | None ↦ λ _ _. tt
        | Some g ↦ λ same h. has_clock c N g ∙ same g (not_outdone_itself g) ∙ sym (has_clock c W g) ∙ h
      ] (λ n b. ap is_some (t.retains_same c n b)) (greatest-has clock_cmp clock_total (clocks c W)))

  pub retained-thin : retained c N ≡ retained c W
  retained-thin = ap (option_and_then (retain_at c N)) latest-thin
      ∙ elim (latest c W) as (λ v. ((n : ℕ × ℕ) → is_outdone n v ≡ false → retain_at c N n ≡ retain_at c W n) → option_and_then (retain_at c N) v ≡ option_and_then (retain_at c W) v) [
        | None ↦ λ _. refl
        | Some g ↦ λ same. same g (not_outdone_itself g)
      ] (t.retains_same c)

  pub view-thin : view c N ≡ view c W
  view-thin = λ i. record { stamp = visible-thin i; prefix = length (history-thin i); session = session_made (history-thin i); pending = pending-thin i }

-- both keep the same
pub same_kept : (N W : List Op) → Thin N W → Same (keep N) (keep W)
same_kept N W t = record {
  operations_same = λ c name. operation_at_keep c N name ∙ ap (λ v. cond (not (is_below name.0 v)) (operation_at c N name) None) (visible-thin N W t c)
      ∙ elim (is_below name.0 (visible c W)) as (λ b. is_below name.0 (visible c W) ≡ b → cond (not b) (operation_at c N name) None ≡ cond (not b) (operation_at c W name) None) [
        | true ↦ λ _. refl
        | false ↦ λ e. t.operations_same c name e
      ] refl ∙ sym (operation_at_keep c W name);
  puts_same = λ c name. put_at_keep c N name ∙ ap (λ b. cond (not b) (put_at c N name) None) (t.acknowledgements_same c name)
      ∙ elim (is_acknowledged c W name) as (λ b. is_acknowledged c W name ≡ b → cond (not b) (put_at c N name) None ≡ cond (not b) (put_at c W name) None) [
        | true ↦ λ _. refl
        | false ↦ λ e. t.puts_same c name e
      ] refl ∙ sym (put_at_keep c W name);
  acknowledgements_same = λ c name. is_acknowledged_keep c N name ∙ t.acknowledgements_same c name ∙ sym (is_acknowledged_keep c W name);
  retains_same = λ c name. retain_at_keep c N name ∙ ap (λ v. cond (not (is_outdone name v)) (retain_at c N name) None) (latest-thin N W t c)
      ∙ elim (is_outdone name (latest c W)) as (λ b. is_outdone name (latest c W) ≡ b → cond (not b) (retain_at c N name) None ≡ cond (not b) (retain_at c W name) None) [
        | true ↦ λ _. refl
        | false ↦ λ e. t.retains_same c name e
      ] refl ∙ sym (retain_at_keep c W name);
}

pub kept_some : {X : Type 0} (b : Bool) (x : Option X) → is_some (cond b x None) ≡ true → is_some x ≡ true
kept_some true x e = e
kept_some false x e = absurd (true≢false (sym e))

-- what is kept of a set is thin
pub thin-keep : (S : List Op) → Thin (keep S) S
thin-keep S = record {
  operations_there = λ c name h. kept_some (not (is_below name.0 (visible c S))) (operation_at c S name) (sym (ap is_some (operation_at_keep c S name)) ∙ h);
  operations_same = λ c name b. operation_at_keep c S name ∙ ap (λ z. cond (not z) (operation_at c S name) None) b;
  puts_there = λ c name h. kept_some (not (is_acknowledged c S name)) (put_at c S name) (sym (ap is_some (put_at_keep c S name)) ∙ h);
  puts_same = λ c name b. put_at_keep c S name ∙ ap (λ z. cond (not z) (put_at c S name) None) b;
  acknowledgements_same = λ c name. is_acknowledged_keep c S name;
  retains_there = λ c name h. kept_some (not (is_outdone name (latest c S))) (retain_at c S name) (sym (ap is_some (retain_at_keep c S name)) ∙ h);
  retains_same = λ c name b. retain_at_keep c S name ∙ ap (λ z. cond (not z) (retain_at c S name) None) b;
}

pub thin-same : (A B : List Op) → Same A B → Thin A B
thin-same A B s = record {
  operations_there = λ c name h. ap is_some (sym (s.operations_same c name)) ∙ h;
  operations_same = λ c name _. s.operations_same c name;
  puts_there = λ c name h. ap is_some (sym (s.puts_same c name)) ∙ h;
  puts_same = λ c name _. s.puts_same c name;
  acknowledgements_same = s.acknowledgements_same;
  retains_there = λ c name h. ap is_some (sym (s.retains_same c name)) ∙ h;
  retains_same = λ c name _. s.retains_same c name;
}

-- b has what a has, and a has what k gives of b
squeezed : {X : Type 0} (a b : Option X) → ((x : X) → a ≡ Some x → b ≡ Some x) → ((x : X) → b ≡ Some x → a ≡ Some x) → a ≡ b
squeezed None None f g = refl
squeezed None (Some y) f g = g y refl
squeezed (Some x) b f g = sym (f x refl)

some_there : {X : Type 0} (a b : Option X) → ((x : X) → a ≡ Some x → b ≡ Some x) → is_some a ≡ true → is_some b ≡ true
some_there None b f e = absurd (true≢false (sym e))
some_there (Some x) b f e = ap is_some (f x refl)

same_truth : (a b : Bool) → (a ≡ true → b ≡ true) → (b ≡ true → a ≡ true) → a ≡ b
same_truth true b f g = sym (f refl)
same_truth false true f g = g refl
same_truth false false f g = refl

pub thin-between : (S K : List Op) → IsKeptOf S K → Thin K S
thin-between S K k = record {
  operations_there = λ c name. some_there (operation_at c K name) (operation_at c S name) (λ x. k.upper.operations_in c name x);
  operations_same = λ c name b. squeezed (operation_at c K name) (operation_at c S name) (λ x. k.upper.operations_in c name x)
      (λ x e. k.lower.operations_in c name x (operation_at_keep c S name ∙ ap (λ z. cond (not z) (operation_at c S name) None) b ∙ e));
  puts_there = λ c name. some_there (put_at c K name) (put_at c S name) (λ x. k.upper.puts_in c name x);
  puts_same = λ c name b. squeezed (put_at c K name) (put_at c S name) (λ x. k.upper.puts_in c name x)
      (λ x e. k.lower.puts_in c name x (put_at_keep c S name ∙ ap (λ z. cond (not z) (put_at c S name) None) b ∙ e));
  acknowledgements_same = λ c name. same_truth (is_acknowledged c K name) (is_acknowledged c S name) (k.upper.acknowledgements_in c name)
      (λ e. k.lower.acknowledgements_in c name (is_acknowledged_keep c S name ∙ e));
  retains_there = λ c name. some_there (retain_at c K name) (retain_at c S name) (λ x. k.upper.retains_in c name x);
  retains_same = λ c name b. squeezed (retain_at c K name) (retain_at c S name) (λ x. k.upper.retains_in c name x)
      (λ x e. k.lower.retains_in c name x (retain_at_keep c S name ∙ ap (λ z. cond (not z) (retain_at c S name) None) b ∙ e));
}

some_first : {X : Type 0} (a b d : Option X) → (is_some a ≡ true → is_some b ≡ true) → is_some (or_else a d) ≡ true → is_some (or_else b d) ≡ true
some_first a (Some y) d f e = refl
some_first None None d f e = e
some_first (Some x) None d f e = absurd (true≢false (sym (f refl)))

pub some_second : {X : Type 0} (a b d : Option X) → (is_some a ≡ true → is_some b ≡ true) → is_some (or_else d a) ≡ true → is_some (or_else d b) ≡ true
some_second a b (Some y) f e = refl
some_second a b None f e = f e

pub some_left : {X : Type 0} (a b : Option X) → is_some a ≡ true → is_some (or_else a b) ≡ true
some_left None b e = absurd (true≢false (sym e))
some_left (Some x) b e = refl

pub some_right : {X : Type 0} (a b : Option X) → is_some b ≡ true → is_some (or_else a b) ≡ true
some_right None b e = e
some_right (Some x) b e = refl

pub none_left : (a b : Bool) → (a || b) ≡ false → a ≡ false
none_left false b e = refl
none_left true b e = e

pub none_right : (a b : Bool) → (a || b) ≡ false → b ≡ false
none_right false b e = e
none_right true b e = absurd (true≢false e)

module _ (N W : List Op) (t : Thin N W) (Y : List Op) where
  -- with more after both
  pub thin-right : Thin (N ++ Y) (W ++ Y)
  thin-right = record {
    operations_there = λ c name h. ap is_some (operation_at_both c W Y name) ∙ some_first (operation_at c N name) (operation_at c W name) (operation_at c Y name) (t.operations_there c name) (sym (ap is_some (operation_at_both c N Y name)) ∙ h);
    operations_same = λ c name b. operation_at_both c N Y name
        ∙ ap (λ a. or_else a (operation_at c Y name)) (t.operations_same c name (not_below-part c W (W ++ Y) (λ s h. ap is_some (operation_at_both c W Y (s, 0)) ∙ some_left (operation_at c W (s, 0)) (operation_at c Y (s, 0)) h) name.0 b))
        ∙ sym (operation_at_both c W Y name);
    puts_there = λ c name h. ap is_some (put_at_both c W Y name) ∙ some_first (put_at c N name) (put_at c W name) (put_at c Y name) (t.puts_there c name) (sym (ap is_some (put_at_both c N Y name)) ∙ h);
    puts_same = λ c name b. put_at_both c N Y name
        ∙ ap (λ a. or_else a (put_at c Y name)) (t.puts_same c name (none_left (is_acknowledged c W name) (is_acknowledged c Y name) (sym (is_acknowledged_both c W Y name) ∙ b)))
        ∙ sym (put_at_both c W Y name);
    acknowledgements_same = λ c name. is_acknowledged_both c N Y name ∙ ap (λ a. a || is_acknowledged c Y name) (t.acknowledgements_same c name) ∙ sym (is_acknowledged_both c W Y name);
    retains_there = λ c name h. ap is_some (retain_at_both c W Y name) ∙ some_first (retain_at c N name) (retain_at c W name) (retain_at c Y name) (t.retains_there c name) (sym (ap is_some (retain_at_both c N Y name)) ∙ h);
    retains_same = λ c name b. retain_at_both c N Y name
        ∙ ap (λ a. or_else a (retain_at c Y name)) (t.retains_same c name (not_outdone-part c W (W ++ Y) (λ n h. ap is_some (retain_at_both c W Y n) ∙ some_left (retain_at c W n) (retain_at c Y n) h) name b))
        ∙ sym (retain_at_both c W Y name);
  }

  -- and with more before both
  pub thin-left : Thin (Y ++ N) (Y ++ W)
  thin-left = record {
    operations_there = λ c name h. ap is_some (operation_at_both c Y W name) ∙ some_second (operation_at c N name) (operation_at c W name) (operation_at c Y name) (t.operations_there c name) (sym (ap is_some (operation_at_both c Y N name)) ∙ h);
    operations_same = λ c name b. operation_at_both c Y N name
        ∙ ap (or_else (operation_at c Y name)) (t.operations_same c name (not_below-part c W (Y ++ W) (λ s h. ap is_some (operation_at_both c Y W (s, 0)) ∙ some_right (operation_at c Y (s, 0)) (operation_at c W (s, 0)) h) name.0 b))
        ∙ sym (operation_at_both c Y W name);
    puts_there = λ c name h. ap is_some (put_at_both c Y W name) ∙ some_second (put_at c N name) (put_at c W name) (put_at c Y name) (t.puts_there c name) (sym (ap is_some (put_at_both c Y N name)) ∙ h);
    puts_same = λ c name b. put_at_both c Y N name
        ∙ ap (or_else (put_at c Y name)) (t.puts_same c name (none_right (is_acknowledged c Y name) (is_acknowledged c W name) (sym (is_acknowledged_both c Y W name) ∙ b)))
        ∙ sym (put_at_both c Y W name);
    acknowledgements_same = λ c name. is_acknowledged_both c Y N name ∙ ap (λ a. is_acknowledged c Y name || a) (t.acknowledgements_same c name) ∙ sym (is_acknowledged_both c Y W name);
    retains_there = λ c name h. ap is_some (retain_at_both c Y W name) ∙ some_second (retain_at c N name) (retain_at c W name) (retain_at c Y name) (t.retains_there c name) (sym (ap is_some (retain_at_both c Y N name)) ∙ h);
    retains_same = λ c name b. retain_at_both c Y N name
        ∙ ap (or_else (retain_at c Y name)) (t.retains_same c name (not_outdone-part c W (Y ++ W) (λ n h. ap is_some (retain_at_both c Y W n) ∙ some_right (retain_at c Y n) (retain_at c W n) h) name b))
        ∙ sym (retain_at_both c Y W name);
  }

-- where a stamp is below the visible one, N has the visible one's Take
pub taken_above : (N W : List Op) (t : Thin N W) (c : List ℕ) (x : Stamp) → is_below x (visible c W) ≡ true → (g : Stamp) × (is_lt (stamp_cmp x g) ≡ true) × (is_some (operation_at c N (g, 0)) ≡ true)
taken_above N W t c x =
    elim (visible c W) as (λ v. visible c W ≡ v → IfSome v (λ g. has stamp_cmp g (takes c W) ≡ true) → is_below x v ≡ true → (g : Stamp) × (is_lt (stamp_cmp x g) ≡ true) × (is_some (operation_at c N (g, 0)) ≡ true)) [
      | None ↦ λ _ _ b. absurd (true≢false (sym b))
      | Some g ↦ λ e h b. (g, b, ap is_some (t.operations_same c (g, 0) (ap (is_below g) e ∙ not_below_itself g)) ∙ sym (has_take c W g) ∙ h)
    ] refl (greatest-has stamp_cmp stamp_total (takes c W))
