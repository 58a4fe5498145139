-- Joining sets, and what counts as a set: the lemmas that crates above cite.
use Rattle.std.proofs.Common.{◌≡◌, ℕ, Bool, true, false, cond, not, if◌then◌else◌, ◌&&◌, ◌||◌, ◌⊎◌, List, [], ◌∷◌, ◌++◌, Option, Some, None, is_some, IfSome, Contains, refl, sym, ap, ◌∙◌, subst, true≢false, append_assoc, inl, inr, leb-true, eqb-true}
use Rattle.std.specs.List.{list_any, AllByRecursion}
use Rattle.std.proofs.lemmas.List.Folds.{Any-from_list_any, list_any_at}
use Rattle.std.proofs.lemmas.List.Elements.{All-weaker, All-contains, All-contains_itself, All-from_recursion, recursion_from_All}
use Rattle.sn_session.specs.declared.change.SessionOp.{SessionOp}
use Rattle.rep_op.specs.declared.op.Stamp.{Stamp}
use Rattle.rep_op.specs.declared.op.Put.{Put}
use Rattle.rep_op.specs.declared.op.Op.{Op}
use Rattle.rep_op.specs.declared.op.Retained.{Retained}
use Rattle.rep_op.specs.declared.op.Op.TheVariants.{Session as OfSession, Put as OfPut, Ack, Retain as OfRetain}
use Rattle.rep_op.specs.Orders.{operation_cmp, put_cmp, clock_of, clock_cmp}
use Rattle.rep_op.specs.Sets.{same_client, operation_of, operation_at, put_of, put_at, acknowledges, is_acknowledged, same_topic, retain_of, retain_at, HasOperation, IsConsistent, Within, Same}
use Rattle.rep_model.specs.Views.{pending_at, view}
use Rattle.rep_model.specs.Keep.{keep, IsKeptOf, CountsAs, Below}
use Rattle.rep_model.proofs.Lookup.{or_else, is_entry_of, is_some-find_map, find-all}
use Rattle.rep_model.proofs.Readers.{operation_exact, put_exact, clock_exact, same_client-true, same_topic-true, operation_at_both, put_at_both, is_acknowledged_both, retain_at_both}
use Rattle.rep_model.proofs.Thin.{Thin, pending_at-reads, view-thin, same_kept, thin-keep, thin-same, thin-between, thin-left, thin-right}

pub same_refl : (A : List Op) → Same A A
same_refl A = record { operations_same = λ c name. refl; puts_same = λ c name. refl; acknowledgements_same = λ c name. refl; retains_same = λ t name. refl }

pub same_sym : {A B : List Op} → Same A B → Same B A
same_sym s = record {
  operations_same = λ c name. sym (s.operations_same c name);
  puts_same = λ c name. sym (s.puts_same c name);
  acknowledgements_same = λ c name. sym (s.acknowledgements_same c name);
  retains_same = λ t name. sym (s.retains_same t name);
}

pub same_trans : {A B C : List Op} → Same A B → Same B C → Same A C
same_trans s t = record {
  operations_same = λ c name. s.operations_same c name ∙ t.operations_same c name;
  puts_same = λ c name. s.puts_same c name ∙ t.puts_same c name;
  acknowledgements_same = λ c name. s.acknowledgements_same c name ∙ t.acknowledgements_same c name;
  retains_same = λ c name. s.retains_same c name ∙ t.retains_same c name;
}

-- ---- what counts as a set

pub counts-refl : (S : List Op) → CountsAs S S
counts-refl S = same_refl (keep S)

-- what lies between keep(S) and S counts as S
pub counts-between : (S K : List Op) → IsKeptOf S K → CountsAs S K
counts-between S K k = same_kept K S (thin-between S K k)

-- equal sets count as each other
pub counts-same : (S K : List Op) → Same K S → CountsAs S K
counts-same S K s = same_kept K S (thin-same K S s)

pub joined-kept : (S Y : List Op) → Same (keep (keep S ++ Y)) (keep (S ++ Y))
joined-kept S Y = same_kept (keep S ++ Y) (S ++ Y) (thin-right (keep S) S (thin-keep S) Y)

-- with the same more after both
pub counts-more : (S K Y : List Op) → CountsAs S K → CountsAs (S ++ Y) (K ++ Y)
counts-more S K Y h =
    same_trans (same_sym (joined-kept K Y))
    (same_trans (same_kept (keep K ++ Y) (keep S ++ Y) (thin-right (keep K) (keep S) (thin-same (keep K) (keep S) h) Y)) (joined-kept S Y))

-- one step of a replica: it takes Y, and keeps L
pub counts-join : (S K Y L : List Op) → CountsAs S K → IsKeptOf (K ++ Y) L → CountsAs (S ++ Y) L
counts-join S K Y L h k = same_trans (counts-between (K ++ Y) L k) (counts-more S K Y h)

-- what is the same of thin sets is the same of what counts as a set
pub same_by_counts : {X : Type 0} (F : List Op → X) → ((N W : List Op) → Thin N W → F N ≡ F W) → (S K : List Op) → CountsAs S K → F K ≡ F S
same_by_counts F same S K h = sym (same (keep K) K (thin-keep K)) ∙ same (keep K) (keep S) (thin-same (keep K) (keep S) h) ∙ same (keep S) S (thin-keep S)

pub view-counts : (c : List ℕ) (S K : List Op) → CountsAs S K → view c K ≡ view c S
view-counts c = same_by_counts (view c) (λ N W t. view-thin N W t c)

-- ---- parts of sets

within-refl : (A : List Op) → Within A A
within-refl A = record { operations_in = λ c name x e. e; puts_in = λ c name x e. e; acknowledgements_in = λ c name e. e; retains_in = λ t name x e. e }

or_first : (a b : Bool) → a ≡ true → (a || b) ≡ true
or_first a b e = ap (λ x. x || b) e

pub within-left : (A B : List Op) → Within A (A ++ B)
within-left A B = record {
  operations_in = λ c name x e. operation_at_both c A B name ∙ ap (λ a. or_else a (operation_at c B name)) e;
  puts_in = λ c name x e. put_at_both c A B name ∙ ap (λ a. or_else a (put_at c B name)) e;
  acknowledgements_in = λ c name e. is_acknowledged_both c A B name ∙ or_first (is_acknowledged c A name) (is_acknowledged c B name) e;
  retains_in = λ t name x e. retain_at_both t A B name ∙ ap (λ a. or_else a (retain_at t B name)) e;
}

absorbed : {X : Type 0} (a w : Option X) → ((x : X) → a ≡ Some x → w ≡ Some x) → or_else a w ≡ w
absorbed None w f = refl
absorbed (Some x) w f = sym (f x refl)

absorbed_test : (a w : Bool) → (a ≡ true → w ≡ true) → (a || w) ≡ w
absorbed_test false w f = refl
absorbed_test true w f = sym (f refl)

-- what stands in a set adds nothing to it
pub same-absorbed : (A W : List Op) → Within A W → Same (A ++ W) W
same-absorbed A W h = record {
  operations_same = λ c name. operation_at_both c A W name ∙ absorbed (operation_at c A name) (operation_at c W name) (λ x. h.operations_in c name x);
  puts_same = λ c name. put_at_both c A W name ∙ absorbed (put_at c A name) (put_at c W name) (λ x. h.puts_in c name x);
  acknowledgements_same = λ c name. is_acknowledged_both c A W name ∙ absorbed_test (is_acknowledged c A name) (is_acknowledged c W name) (h.acknowledgements_in c name);
  retains_same = λ t name. retain_at_both t A W name ∙ absorbed (retain_at t A name) (retain_at t W name) (λ x. h.retains_in t name x);
}

pub all-right : {X : Type 0} (P : X → Type 0) (xs ys : List X) → AllByRecursion P (xs ++ ys) → AllByRecursion P ys
all-right P [] ys h = h
all-right P (x ∷ xs) ys h = all-right P xs ys h.1

pub all-left : {X : Type 0} (P : X → Type 0) (xs ys : List X) → AllByRecursion P (xs ++ ys) → AllByRecursion P xs
all-left P [] ys h = tt
all-left P (x ∷ xs) ys h = (h.0, all-left P xs ys h.1)

pub all-both : {X : Type 0} (P : X → Type 0) (xs ys : List X) → AllByRecursion P xs → AllByRecursion P ys → AllByRecursion P (xs ++ ys)
all-both P [] ys f g = g
all-both P (x ∷ xs) ys f g = (f.0, all-both P xs ys f.1 g)

pub all-weaker : {X : Type 0} (P Q : X → Type 0) → ((x : X) → P x → Q x) → (xs : List X) → AllByRecursion P xs → AllByRecursion Q xs
all-weaker P Q f [] h = tt
all-weaker P Q f (x ∷ xs) h = (f x h.0, all-weaker P Q f xs h.1)

four_parts : (a b p q : Bool) → (a && b && p && q) ≡ true → (a ≡ true) × (b ≡ true) × (p ≡ true) × (q ≡ true)
four_parts false b p q e = absurd (true≢false (sym e))
four_parts true false p q e = absurd (true≢false (sym e))
four_parts true true false q e = absurd (true≢false (sym e))
four_parts true true true q e = (refl, refl, refl, e)

module _ (S : List Op) (c : List ℕ) where
  standing_operation : (op : Op) → HasOperation S op → IfSome (operation_of c op) (λ e. operation_at c S e.0 ≡ Some e.1)
  standing_operation (OfSession d stamp counter change) h =
      elim (same_client c d) as (λ b. same_client c d ≡ b → IfSome {T = (Stamp × ℕ) × SessionOp} (if b then Some ((stamp, counter), change) else None) (λ e. operation_at c S e.0 ≡ Some e.1)) [
        | true ↦ λ e. ap (λ x. operation_at x S (stamp, counter)) (same_client-true c d e) ∙ h
        | false ↦ λ _. tt
      ] refl
  standing_operation (OfPut d put) h = tt
  standing_operation (Ack d origin first last) h = tt
  standing_operation (OfRetain u kept) h = tt

  standing_put : (op : Op) → HasOperation S op → IfSome (put_of c op) (λ e. put_at c S e.0 ≡ Some e.1)
  standing_put (OfSession d stamp counter change) h = tt
  standing_put (OfPut d put) h =
      elim (same_client c d) as (λ b. same_client c d ≡ b → IfSome {T = (ℕ × ℕ) × Put} (if b then Some ((put.seq, put.origin), put) else None) (λ e. put_at c S e.0 ≡ Some e.1)) [
        | true ↦ λ e. ap (λ x. put_at x S (put.seq, put.origin)) (same_client-true c d e) ∙ h
        | false ↦ λ _. tt
      ] refl
  standing_put (Ack d origin first last) h = tt
  standing_put (OfRetain u kept) h = tt

  standing_retain : (op : Op) → HasOperation S op → IfSome (retain_of c op) (λ e. retain_at c S e.0 ≡ Some e.1)
  standing_retain (OfSession d stamp counter change) h = tt
  standing_retain (OfPut d put) h = tt
  standing_retain (Ack d origin first last) h = tt
  standing_retain (OfRetain u kept) h =
      elim (same_topic c u) as (λ b. same_topic c u ≡ b → IfSome {T = (ℕ × ℕ) × Retained} (if b then Some (clock_of kept, kept) else None) (λ e. retain_at c S e.0 ≡ Some e.1)) [
        | true ↦ λ e. ap (λ x. retain_at x S (clock_of kept)) (same_topic-true c u e) ∙ h
        | false ↦ λ _. tt
      ] refl

  standing_acknowledgement : (name : ℕ × ℕ) (op : Op) → acknowledges c name op ≡ true → HasOperation S op → is_acknowledged c S name ≡ true
  standing_acknowledgement name (OfSession d stamp counter change) e h = absurd (true≢false (sym e))
  standing_acknowledgement name (OfPut d put) e h = absurd (true≢false (sym e))
  standing_acknowledgement name (OfRetain u kept) e h = absurd (true≢false (sym e))
  standing_acknowledgement name (Ack d origin first last) e h =
      let w = four_parts (same_client c d) _ _ _ e in
      ap (λ x. is_acknowledged x S name) (same_client-true c d w.0)
      ∙ ap (λ o. is_acknowledged d S (name.0, o)) (eqb-true name.1 origin w.1)
      ∙ h name.0 (leb-true first name.0 w.2) (leb-true name.0 last w.3)

  standing_acknowledgements : (name : ℕ × ℕ) (T : List Op) → AllByRecursion (HasOperation S) T → is_acknowledged c T name ≡ true → is_acknowledged c S name ≡ true
  standing_acknowledgements name [] h e = absurd (true≢false (sym e))
  standing_acknowledgements name (op ∷ T) h e =
      elim (acknowledges c name op) as (λ b. acknowledges c name op ≡ b → (b || is_acknowledged c T name) ≡ true → is_acknowledged c S name ≡ true) [
        | true ↦ λ is _. standing_acknowledgement name op is h.0
        | false ↦ λ _ r. standing_acknowledgements name T h.1 r
      ] refl e

found : {X : Type 0} (o p : Option X) (x : X) → IfSome o (λ y. p ≡ Some y) → o ≡ Some x → p ≡ Some x
found None p x h e = absurd (true≢false (sym (ap is_some e)))
found (Some y) p x h e = h ∙ e

-- a list of which each operation stands in S
pub within-standing : (S T : List Op) → AllByRecursion (HasOperation S) T → Within T S
within-standing S T h = record {
  operations_in = λ c name x e. found (operation_at c T name) (operation_at c S name) x (find-all operation_cmp operation_exact (operation_of c) (λ k y. operation_at c S k ≡ Some y) T (all-weaker (HasOperation S) _ (standing_operation S c) T h) name) e;
  puts_in = λ c name x e. found (put_at c T name) (put_at c S name) x (find-all put_cmp put_exact (put_of c) (λ k y. put_at c S k ≡ Some y) T (all-weaker (HasOperation S) _ (standing_put S c) T h) name) e;
  acknowledgements_in = λ c name e. standing_acknowledgements S c name T h e;
  retains_in = λ t name x e. found (retain_at t T name) (retain_at t S name) x (find-all clock_cmp clock_exact (retain_of t) (λ k y. retain_at t S k ≡ Some y) T (all-weaker (HasOperation S) _ (standing_retain S t) T h) name) e;
}

pub within-right : (A B : List Op) → IsConsistent (A ++ B) → Within B (A ++ B)
within-right A B h = within-standing (A ++ B) B (all-right (HasOperation (A ++ B)) A B h)

swapped : {X : Type 0} (a b : Option X) → ((y : X) → b ≡ Some y → or_else a b ≡ Some y) → or_else a b ≡ or_else b a
swapped None None f = refl
swapped None (Some y) f = refl
swapped (Some x) None f = refl
swapped (Some x) (Some y) f = f y refl

swapped_test : (a b : Bool) → (a || b) ≡ (b || a)
swapped_test true true = refl
swapped_test true false = refl
swapped_test false true = refl
swapped_test false false = refl

pub same-turned : (A B : List Op) → IsConsistent (A ++ B) → Same (A ++ B) (B ++ A)
same-turned A B h =
    let w = within-right A B h in record {
      operations_same = λ c name. operation_at_both c A B name ∙ swapped (operation_at c A name) (operation_at c B name) (λ y e. sym (operation_at_both c A B name) ∙ w.operations_in c name y e) ∙ sym (operation_at_both c B A name);
      puts_same = λ c name. put_at_both c A B name ∙ swapped (put_at c A name) (put_at c B name) (λ y e. sym (put_at_both c A B name) ∙ w.puts_in c name y e) ∙ sym (put_at_both c B A name);
      acknowledgements_same = λ c name. is_acknowledged_both c A B name ∙ swapped_test (is_acknowledged c A name) (is_acknowledged c B name) ∙ sym (is_acknowledged_both c B A name);
      retains_same = λ t name. retain_at_both t A B name ∙ swapped (retain_at t A name) (retain_at t B name) (λ y e. sym (retain_at_both t A B name) ∙ w.retains_in t name y e) ∙ sym (retain_at_both t B A name);
    }

pub same-twice : (A : List Op) → Same (A ++ A) A
same-twice A = same-absorbed A A (within-refl A)

-- ---- the order of sets

pub below-left : (A B : List Op) → Below A (A ++ B)
below-left A B = same_kept (A ++ (A ++ B)) (A ++ B) (thin-same (A ++ (A ++ B)) (A ++ B) (same-absorbed A (A ++ B) (within-left A B)))

pub below-right : (A B : List Op) → IsConsistent (A ++ B) → Below B (A ++ B)
below-right A B h = same_kept (B ++ (A ++ B)) (A ++ B) (thin-same (B ++ (A ++ B)) (A ++ B) (same-absorbed B (A ++ B) (within-right A B h)))

pub below-least : (A B C : List Op) → Below A C → Below B C → Below (A ++ B) C
below-least A B C p q = subst (λ U. Same (keep U) (keep C)) (sym (append_assoc A B C))
    (same_trans (same_sym (same_kept (A ++ keep (B ++ C)) (A ++ (B ++ C)) (thin-left (keep (B ++ C)) (B ++ C) (thin-keep (B ++ C)) A)))
    (same_trans (same_kept (A ++ keep (B ++ C)) (A ++ keep C) (thin-left (keep (B ++ C)) (keep C) (thin-same (keep (B ++ C)) (keep C) q) A))
    (same_trans (same_kept (A ++ keep C) (A ++ C) (thin-left (keep C) C (thin-keep C) A)) p)))

-- ---- the same elements

-- a test that finds an element finds it in each list that has all elements
moved : {X : Type 0} (p : X → Bool) (xs ys : List X) → ((x : X) → Contains xs x → Contains ys x) → list_any p xs ≡ true → list_any p ys ≡ true
moved p xs ys f e =
    let w = Any-from_list_any p xs e in
    let v = f w.1 (w.0, w.2, w.3) in
    list_any_at p ys v.0 w.1 v.1 (ap p v.2 ∙ w.4)

pub all-moved : {X : Type 0} (P : X → Type 0) (xs : List X) → ((x : X) → Contains xs x → P x) → AllByRecursion P xs
all-moved P xs f = recursion_from_All P xs (All-weaker (Contains xs) P f xs (All-contains_itself xs))

agree : {X : Type 0} (a b : Option X) → (is_some a ≡ true → is_some b ≡ true) → ((y : X) → b ≡ Some y → a ≡ Some y) → a ≡ b
agree None None f g = refl
agree None (Some y) f g = g y refl
agree (Some x) None f g = absurd (true≢false (sym (f refl)))
agree (Some x) (Some y) f g = g y refl

agree_test : (a b : Bool) → (a ≡ true → b ≡ true) → (b ≡ true → a ≡ true) → a ≡ b
agree_test true b f g = sym (f refl)
agree_test false true f g = g refl
agree_test false false f g = refl

-- lists of the same operations are the same set, in whatever order and however often each stands, where no name has two contents
pub same-elements : (A B : List Op) → IsConsistent A → ((op : Op) → Contains A op → Contains B op) → ((op : Op) → Contains B op → Contains A op) → Same A B
same-elements A B k f g =
    let back = within-standing A B (all-moved (HasOperation A) B (λ op h. All-contains (HasOperation A) A op (All-from_recursion (HasOperation A) A k) (g op h))) in record {
      operations_same = λ c name. agree (operation_at c A name) (operation_at c B name)
          (λ e. is_some-find_map operation_cmp (operation_of c) name B ∙ moved (λ op. is_entry_of operation_cmp name (operation_of c op)) A B f (sym (is_some-find_map operation_cmp (operation_of c) name A) ∙ e))
          (λ y e. back.operations_in c name y e);
      puts_same = λ c name. agree (put_at c A name) (put_at c B name)
          (λ e. is_some-find_map put_cmp (put_of c) name B ∙ moved (λ op. is_entry_of put_cmp name (put_of c op)) A B f (sym (is_some-find_map put_cmp (put_of c) name A) ∙ e))
          (λ y e. back.puts_in c name y e);
      acknowledgements_same = λ c name. agree_test (is_acknowledged c A name) (is_acknowledged c B name) (moved (acknowledges c name) A B f) (moved (acknowledges c name) B A g);
      retains_same = λ t name. agree (retain_at t A name) (retain_at t B name)
          (λ e. is_some-find_map clock_cmp (retain_of t) name B ∙ moved (λ op. is_entry_of clock_cmp name (retain_of t op)) A B f (sym (is_some-find_map clock_cmp (retain_of t) name A) ∙ e))
          (λ y e. back.retains_in t name y e);
    }

-- ---- losses

waits : {X : Type 0} (b : Bool) (o : Option X) (x : X) → cond (not b) o None ≡ Some x → o ≡ Some x
waits false o x e = e
waits true o x e = absurd (true≢false (sym (ap is_some e)))

-- what waits of a part waits in the whole, or is acknowledged there
pub pending-leaves : (S W : List Op) → Within S W → (c : List ℕ) (name : ℕ × ℕ) (put : Put) → pending_at c S name ≡ Some put → (pending_at c W name ≡ Some put) ⊎ (is_acknowledged c W name ≡ true)
pending-leaves S W h c name put e =
    let there = waits (is_acknowledged c S name) (put_at c S name) put (sym (pending_at-reads c S name) ∙ e) in
    elim (is_acknowledged c W name) as (λ b. is_acknowledged c W name ≡ b → (pending_at c W name ≡ Some put) ⊎ (b ≡ true)) [
      | true ↦ λ _. inr refl
      | false ↦ λ none. inl (pending_at-reads c W name ∙ ap (λ b. cond (not b) (put_at c W name) None) none ∙ h.puts_in c name put there)
    ] refl
