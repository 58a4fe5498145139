-- The next epoch and the next sequence number of thin sets.
use Rattle.std.proofs.Common.{◌≡◌, ℕ, ◌≤◌, Bool, true, false, ◌&&◌, ◌||◌, ◌⊎◌, ◌==◌, nat_le, if◌then◌else◌, List, Some, None, is_some, refl, sym, ap, ◌∙◌, true≢false, inl, inr, Ordering, Less, Equal, Greater, nat_cmp, is_eq, is_lt, arith, le_antisymm, leb-true, le-leb, eqb-true, eq-eqb}
use Rattle.std.specs.List.{list_any}
use Rattle.std.specs.Ordering.{eq_by_cmp, ordering_then}
use Rattle.std.specs.FinMap.Entries.{is_some-find}
use Rattle.std.proofs.lemmas.Bool.{or_left, or_right, and_parts, and_from}
use Rattle.std.proofs.lemmas.Cmp.{ranked, tied_itself}
use Rattle.std.proofs.lemmas.Map.Views.{tells_apart}
use Rattle.rep_op.specs.declared.op.Stamp.{Stamp}
use Rattle.rep_op.specs.declared.op.Put.{Put}
use Rattle.rep_op.specs.declared.op.Op.{Op}
use Rattle.rep_op.specs.declared.op.Op.TheVariants.{Session as OfSession, Put as OfPut, Ack, Retain as OfRetain}
use Rattle.rep_op.specs.Orders.{stamp_cmp, operation_cmp, put_cmp}
use Rattle.rep_op.specs.Sets.{same_client, operations, operation_at, put_of, put_at, acknowledges, is_acknowledged}
use Rattle.rep_model.specs.Views.{names, visible}
use Rattle.rep_model.specs.Fresh.{largest, one_more, greatest_epoch, next_epoch, seq_of, next_seq}
use Rattle.rep_model.specs.Keep.{is_below, CountsAs}
use Rattle.rep_model.proofs.Lookup.{is_entry_of, is_some-find_map, list_any-or}
use Rattle.rep_model.proofs.Greatest.{largest-least, largest-reaches}
use Rattle.rep_model.proofs.Readers.{operation_total, operation_exact, put_total, put_exact}
use Rattle.rep_model.proofs.Thin.{Thin, taken_above}
use Rattle.rep_model.proofs.Joins.{same_by_counts}

-- ---- epochs

pub epoch-at_most : (c : List ℕ) (S : List Op) (n : ℕ) → ((name : Stamp × ℕ) → is_some (operation_at c S name) ≡ true → name.0.epoch ≤ n) → greatest_epoch c S ≤ n
epoch-at_most c S n below = largest-least (λ (name : Stamp × ℕ). name.0.epoch) (eq_by_cmp operation_cmp) (λ (name : Stamp × ℕ). name.0.epoch)
    (λ a. inr (a, ap is_eq (tied_itself operation_total a), refl)) n (names (operations c S))
    (λ m h. below m (is_some-find operation_cmp m (operations c S) ∙ h))

pub epoch-reaches : (c : List ℕ) (S : List Op) (name : Stamp × ℕ) → is_some (operation_at c S name) ≡ true → name.0.epoch ≤ greatest_epoch c S
epoch-reaches c S name h = largest-reaches (λ (name : Stamp × ℕ). name.0.epoch) (eq_by_cmp operation_cmp) (λ (name : Stamp × ℕ). name.0.epoch)
    (λ m a t. let e : m.0.epoch ≡ a.0.epoch = ap (λ (n : Stamp × ℕ). n.0.epoch) (tells_apart operation_exact m a t) in omega arith) name (names (operations c S))
    (sym (is_some-find operation_cmp name (operations c S)) ∙ h)

lower : (x y : ℕ) (r q : Ordering) → r ≡ nat_cmp x y → is_lt (ordering_then r q) ≡ true → x ≤ y
lower x y Less q e h = let l = ranked x y Less e in omega (arith, l)
lower x y Equal q e h = let l = ranked x y Equal e in omega (arith, l)
lower x y Greater q e h = absurd (true≢false (sym h))

below-epoch : (a b : Stamp) → is_lt (stamp_cmp a b) ≡ true → a.epoch ≤ b.epoch
below-epoch a b h = lower a.epoch b.epoch (nat_cmp a.epoch b.epoch) (nat_cmp a.gateway b.gateway) refl h

pub greatest_epoch-thin : (N W : List Op) (t : Thin N W) (c : List ℕ) → greatest_epoch c N ≡ greatest_epoch c W
greatest_epoch-thin N W t c = le_antisymm
    (epoch-at_most c N (greatest_epoch c W) (λ name h. epoch-reaches c W name (t.operations_there c name h)))
    (epoch-at_most c W (greatest_epoch c N) (λ name h. elim (is_below name.0 (visible c W)) as (λ b. is_below name.0 (visible c W) ≡ b → name.0.epoch ≤ greatest_epoch c N) [
      | true ↦ λ e. let w = taken_above N W t c name.0 e in
          omega (arith, below-epoch name.0 w.0 w.1, epoch-reaches c N (w.0, 0) w.2)
      | false ↦ λ e. epoch-reaches c N name (ap is_some (t.operations_same c name e) ∙ h)
    ] refl))

pub next_epoch-thin : (N W : List Op) (t : Thin N W) (c : List ℕ) → next_epoch c N ≡ next_epoch c W
next_epoch-thin N W t c = ap one_more (greatest_epoch-thin N W t c)

pub next_epoch-counts : (c : List ℕ) (S K : List Op) → CountsAs S K → next_epoch c K ≡ next_epoch c S
next_epoch-counts c = same_by_counts (next_epoch c) (λ N W t. next_epoch-thin N W t c)

-- ---- sequence numbers

ack_finds : (a b : Bool) (first last : ℕ) → ((if a && b && nat_le first last then last else 0) ≡ 0) ⊎ ((m : ℕ) × ((a && b && nat_le first m && nat_le m last) ≡ true) × (m ≡ (if a && b && nat_le first last then last else 0)))
ack_finds false b first last = inl refl
ack_finds true false first last = inl refl
ack_finds true true first last =
    elim (nat_le first last) as (λ l. nat_le first last ≡ l → ((if l then last else 0) ≡ 0) ⊎ ((m : ℕ) × ((nat_le first m && nat_le m last) ≡ true) × (m ≡ (if l then last else 0)))) [
      | true ↦ λ e. inr (last, and_from (nat_le first last) (nat_le last last) e (le-leb last last (omega arith)), refl)
      | false ↦ λ _. inl refl
    ] refl

ack_reaches : (a b : Bool) (first last m : ℕ) → (a && b && nat_le first m && nat_le m last) ≡ true → m ≤ (if a && b && nat_le first last then last else 0)
ack_reaches false b first last m e = absurd (true≢false (sym e))
ack_reaches true false first last m e = absurd (true≢false (sym e))
ack_reaches true true first last m e =
    let w = and_parts (nat_le first m) (nat_le m last) e in
    let above : first ≤ m = leb-true first m w.0 in
    let below : m ≤ last = leb-true m last w.1 in
    let same : (if nat_le first last then last else 0) ≡ last = ap (λ b. if b then last else 0) (le-leb first last (omega arith)) in
    omega arith

put_finds : (a : Bool) (gateway : ℕ) (p : Put) → ((if a && (gateway == p.origin) then p.seq else 0) ≡ 0) ⊎ ((m : ℕ) × ((is_entry_of put_cmp (m, gateway) (if a then Some ((p.seq, p.origin), p) else None) || false) ≡ true) × (m ≡ (if a && (gateway == p.origin) then p.seq else 0)))
put_finds false gateway p = inl refl
put_finds true gateway p =
    elim (gateway == p.origin) as (λ b. (gateway == p.origin) ≡ b → ((if b then p.seq else 0) ≡ 0) ⊎ ((m : ℕ) × ((eq_by_cmp put_cmp (m, gateway) (p.seq, p.origin) || false) ≡ true) × (m ≡ (if b then p.seq else 0)))) [
      | true ↦ λ e. inr (p.seq, or_left (eq_by_cmp put_cmp (p.seq, gateway) (p.seq, p.origin)) false (ap (λ o. is_eq (put_cmp (p.seq, gateway) (p.seq, o))) (sym (eqb-true gateway p.origin e)) ∙ ap is_eq (tied_itself put_total (p.seq, gateway))), refl)
      | false ↦ λ _. inl refl
    ] refl

without : (b : Bool) → (b || false) ≡ true → b ≡ true
without true e = refl
without false e = e

put_reaches : (a : Bool) (gateway m : ℕ) (p : Put) → (is_entry_of put_cmp (m, gateway) (if a then Some ((p.seq, p.origin), p) else None) || false) ≡ true → m ≤ (if a && (gateway == p.origin) then p.seq else 0)
put_reaches false gateway m p e = absurd (true≢false (sym e))
put_reaches true gateway m p e =
    let names = tells_apart put_exact (m, gateway) (p.seq, p.origin) (without (eq_by_cmp put_cmp (m, gateway) (p.seq, p.origin)) e) in
    let seqs : m ≡ p.seq = ap (λ (n : ℕ × ℕ). n.0) names in
    let same : (if gateway == p.origin then p.seq else 0) ≡ p.seq = ap (λ b. if b then p.seq else 0) (eq-eqb gateway p.origin (ap (λ (n : ℕ × ℕ). n.1) names)) in
    omega arith

module _ (c : List ℕ) (gateway : ℕ) where
  -- the operation is the put of that name, or acknowledges it
  abbrev uses : ℕ → Op → Bool
  uses m op = is_entry_of put_cmp (m, gateway) (put_of c op) || acknowledges c (m, gateway) op

  uses-reads : (S : List Op) (m : ℕ) → list_any (uses m) S ≡ (is_some (put_at c S (m, gateway)) || is_acknowledged c S (m, gateway))
  uses-reads S m = list_any-or (λ op. is_entry_of put_cmp (m, gateway) (put_of c op)) (acknowledges c (m, gateway)) S
      ∙ ap (λ b. b || is_acknowledged c S (m, gateway)) (sym (is_some-find_map put_cmp (put_of c) (m, gateway) S))

  uses-finds : (op : Op) → (seq_of c gateway op ≡ 0) ⊎ ((m : ℕ) × (uses m op ≡ true) × (m ≡ seq_of c gateway op))
  uses-finds (OfSession d stamp counter change) = inl refl
  uses-finds (OfPut d p) = put_finds (same_client c d) gateway p
  uses-finds (Ack d origin first last) = ack_finds (same_client c d) (gateway == origin) first last
  uses-finds (OfRetain u k) = inl refl

  uses-below : (m : ℕ) (op : Op) → uses m op ≡ true → m ≤ seq_of c gateway op
  uses-below m (OfSession d stamp counter change) e = absurd (true≢false (sym e))
  uses-below m (OfPut d p) e = put_reaches (same_client c d) gateway m p e
  uses-below m (Ack d origin first last) e = ack_reaches (same_client c d) (gateway == origin) first last m e
  uses-below m (OfRetain u k) e = absurd (true≢false (sym e))

  pub seq-at_most : (S : List Op) (n : ℕ) → ((m : ℕ) → (is_some (put_at c S (m, gateway)) || is_acknowledged c S (m, gateway)) ≡ true → m ≤ n) → largest (seq_of c gateway) S ≤ n
  seq-at_most S n h = largest-least (seq_of c gateway) uses (λ m. m) uses-finds n S (λ m e. h m (sym (uses-reads S m) ∙ e))

  pub seq-reaches : (S : List Op) (m : ℕ) → (is_some (put_at c S (m, gateway)) || is_acknowledged c S (m, gateway)) ≡ true → m ≤ largest (seq_of c gateway) S
  seq-reaches S m e = largest-reaches (seq_of c gateway) uses (λ m. m) uses-below m S (uses-reads S m ∙ e)

  module _ (N W : List Op) (t : Thin N W) where
    there : (a b s r : Bool) → (a ≡ true → b ≡ true) → s ≡ r → (a || s) ≡ true → (b || r) ≡ true
    there true b s r f g e = or_left b r (f refl)
    there false b s r f g e = or_right b r (sym g ∙ e)

    back : (m : ℕ) → (is_some (put_at c W (m, gateway)) || is_acknowledged c W (m, gateway)) ≡ true → (is_some (put_at c N (m, gateway)) || is_acknowledged c N (m, gateway)) ≡ true
    back m e = elim (is_acknowledged c W (m, gateway)) as (λ b. is_acknowledged c W (m, gateway) ≡ b → (is_some (put_at c W (m, gateway)) || b) ≡ true → (is_some (put_at c N (m, gateway)) || is_acknowledged c N (m, gateway)) ≡ true) [
      | true ↦ λ is _. or_right (is_some (put_at c N (m, gateway))) (is_acknowledged c N (m, gateway)) (t.acknowledgements_same c (m, gateway) ∙ is)
      | false ↦ λ is h. or_left (is_some (put_at c N (m, gateway))) (is_acknowledged c N (m, gateway)) (ap is_some (t.puts_same c (m, gateway) is) ∙ without (is_some (put_at c W (m, gateway))) h)
    ] refl e

    pub next_seq-thin : next_seq c gateway N ≡ next_seq c gateway W
    next_seq-thin = ap one_more (le_antisymm
        (seq-at_most N (largest (seq_of c gateway) W) (λ m e. seq-reaches W m (there (is_some (put_at c N (m, gateway))) (is_some (put_at c W (m, gateway))) (is_acknowledged c N (m, gateway)) (is_acknowledged c W (m, gateway)) (t.puts_there c (m, gateway)) (t.acknowledgements_same c (m, gateway)) e)))
        (seq-at_most W (largest (seq_of c gateway) N) (λ m e. seq-reaches N m (back m e))))

pub next_seq-counts : (c : List ℕ) (gateway : ℕ) (S K : List Op) → CountsAs S K → next_seq c gateway K ≡ next_seq c gateway S
next_seq-counts c gateway = same_by_counts (next_seq c gateway) (λ N W t. next_seq-thin c gateway N W t)
