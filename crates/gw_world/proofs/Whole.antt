-- A field whose operations, but for acknowledgements, stand at the gateways of their names.
use Rattle.std.proofs.Common.{◌≡◌, ℕ, zero, suc, ◌⊎◌, List, [], ◌∷◌, ◌++◌, set, length, slice_get, Some, is_some, IfSome, Contains, refl, sym, ap, ◌∙◌, subst, append-nil, inl, inr}
use Rattle.std.specs.List.{AllByRecursion}
use Rattle.std.proofs.lemmas.List.Elements.{All-from_recursion, All-contains}
use Rattle.std.proofs.lemmas.Option.{none-some, same_Some}
use Rattle.rep_op.specs.declared.op.Op.{Op}
use Rattle.rep_op.specs.declared.op.Op.TheVariants.{Session as OfSession, Put as OfPut, Ack, Retain as OfRetain}
use Rattle.rep_ops.specs.Deltas.{IsDelta}
use Rattle.rep_op.specs.Orders.{clock_of}
use Rattle.rep_op.specs.Sets.{operation_at, put_at, retain_at, HasOperation}
use Rattle.rep_model.proofs.Joins.{all-moved}
use Rattle.sn_plan.specs.declared.plan.Plan.{Plan}
use Rattle.sn_local.specs.Seen.{seen_of}
use Rattle.sn_plan.specs.Own.{IsOwnWrite, IsFreshName, IsOfDraft}
use Rattle.sn_plan.specs.Flush.{HaveNoGap, stamp_of}
use Rattle.sn_plan.proofs.Lists.{all-append, all-weaken}
use Rattle.row_laws.proofs.Names.{plan-own}
use Rattle.row_laws.proofs.Stepping.{step-new_operation, step-new_put, step-new_retain}
use Rattle.gw_event.specs.Gateways.{Gateway}
use Rattle.gw_event.specs.Event.{HaveName, IsWritable}
use Rattle.gw_world.specs.Steady.{IsKnown}
use Rattle.gw_world.specs.Whole.{maker_of}
use Rattle.gw_world.proofs.Alone.{turned, some-is, delta-stands, stands-left, stands-right, stands-contains}
use Rattle.gw_world.proofs.Each.{all-at, AllOf, EachOf, each-weaken, each-grown}
use Rattle.gw_world.proofs.Numbers.{First, first-one, first-kept, set-there}
use Rattle.gw_node.proofs.Occurring.{is_there, operation_occurs, put_occurs, retain_occurs}
use Rattle.gw_world.proofs.Steadiness.{Still, Stepped, names-apart}

-- the operation stands in the set of the first gateway of this number
abbrev pub AtFirst : List Gateway → Op → ℕ → Type 0
AtFirst gs op n = (j : ℕ) × (gateway : Gateway) × First n gs j × (slice_get gs j ≡ Some gateway) × HasOperation gateway.taken op

abbrev pub IsHeld : List Gateway → Op → Type 0
IsHeld gs op = IfSome (maker_of op) (λ n. AtFirst gs op n)

-- no name stands in two deltas
abbrev pub AreApart : List (List Op) → Type 0
AreApart deltas = (i j : ℕ) (one other : List Op) (a b : Op) → slice_get deltas i ≡ Some one → slice_get deltas j ≡ Some other → Contains one a → Contains other b → HaveName a b → i ≡ j

pub record Whole (gateways : List Gateway) (deltas : List (List Op)) : Type 0 where
  pub each : EachOf (IsHeld gateways) gateways deltas
  pub proper : AllByRecursion IsDelta deltas
  pub writable : AllByRecursion IsWritable deltas

-- the same of deltas that were made; none has a name of another
pub record Made (gateways : List Gateway) (deltas : List (List Op)) : Type 0 where
  pub each : AllOf (IsHeld gateways) deltas
  pub apart : AreApart deltas
  pub proper : AllByRecursion IsDelta deltas

-- ---- two of one name

first-same : (gs : List Gateway) (n m : ℕ) (a b : Op) (h : AtFirst gs a n) (k : AtFirst gs b m) → n ≡ m → h.1 ≡ k.1
first-same gs n m a b h k e =
    let place : h.0 ≡ k.0 = first-one m h.0 k.0 gs (subst (λ x. First x gs h.0) e h.2) k.2 in
    same_Some h.1 k.1 (sym h.3 ∙ ap (slice_get gs) place ∙ k.3)

-- of one name, in one set, so one operation
pub held-alike : (gs : List Gateway) (a b : Op) → IsHeld gs a → IsHeld gs b → HaveName a b → a ≡ b
held-alike gs (OfSession c s x o) (OfSession d t y p) h k named =
    let one : h.1 ≡ k.1 = first-same gs s.gateway t.gateway (OfSession c s x o) (OfSession d t y p) h k (λ i. (named.1 i).gateway) in
    let found : operation_at c h.1.taken (s, x) ≡ operation_at d k.1.taken (t, y) = λ i. operation_at (named.0 i) (one i).taken (named.1 i, named.2 i) in
    let content : o ≡ p = same_Some o p (sym h.4 ∙ found ∙ k.4) in
    λ i. OfSession (named.0 i) (named.1 i) (named.2 i) (content i)
held-alike gs (OfPut c p) (OfPut d q) h k named =
    let one : h.1 ≡ k.1 = first-same gs p.origin q.origin (OfPut c p) (OfPut d q) h k named.1 in
    let found : put_at c h.1.taken (p.seq, p.origin) ≡ put_at d k.1.taken (q.seq, q.origin) = λ i. put_at (named.0 i) (one i).taken (named.2 i, named.1 i) in
    let content : p ≡ q = same_Some p q (sym h.4 ∙ found ∙ k.4) in
    λ i. OfPut (named.0 i) (content i)
held-alike gs (OfRetain t x) (OfRetain u y) h k named =
    let one : h.1 ≡ k.1 = first-same gs x.gateway y.gateway (OfRetain t x) (OfRetain u y) h k named.2 in
    let found : retain_at t h.1.taken (clock_of x) ≡ retain_at u k.1.taken (clock_of y) = λ i. retain_at (named.0 i) (one i).taken (named.1 i, named.2 i) in
    let content : x ≡ y = same_Some x y (sym h.4 ∙ found ∙ k.4) in
    λ i. OfRetain (named.0 i) (content i)
held-alike gs a b h k named = absurd named

-- ---- a gateway takes more

module _ (gs : List Gateway) (i : ℕ) (old next : Gateway) (more : List Op) (is : slice_get gs i ≡ Some old) (config : next.config ≡ old.config) (taken : next.taken ≡ old.taken ++ more) where
  at-more : (op : Op) (n : ℕ) → AtFirst gs op n → AtFirst (set gs i next) op n
  at-more op n h =
      let r = first-kept n i h.0 gs old next h.1 is config h.2 h.3 in
      elim r.1 [
        | inl same ↦ (h.0, h.1, r.0, same, h.4)
        | inr moved ↦ (h.0, next, r.0, moved.1, subst (λ T. HasOperation T op) (sym taken) (stands-left old.taken more op (subst (λ (g : Gateway). HasOperation g.taken op) moved.0 h.4)))
      ]

  held-more : (op : Op) → IsHeld gs op → IsHeld (set gs i next) op
  held-more (OfSession c s k o) h = at-more (OfSession c s k o) s.gateway h
  held-more (OfPut c p) h = at-more (OfPut c p) p.origin h
  held-more (Ack c origin first last) h = tt
  held-more (OfRetain t k) h = at-more (OfRetain t k) k.gateway h

  pub whole-grown : (deltas made : List (List Op)) → AllByRecursion (IsHeld (set gs i next)) more → AllOf (IsHeld (set gs i next)) made → AllByRecursion IsDelta made → AllByRecursion IsWritable made → Whole gs deltas → Whole (set gs i next) (deltas ++ made)
  whole-grown deltas made news listed proper writable w = record {
    each = each-grown (IsHeld (set gs i next)) gs deltas i old next more made is taken news listed (each-weaken (IsHeld gs) (IsHeld (set gs i next)) held-more gs deltas w.each);
    proper = all-append IsDelta deltas made w.proper proper;
    writable = all-append IsWritable deltas made w.writable writable;
  }

  each-held : (deltas : List (List Op)) → AllOf (IsHeld gs) deltas → AllOf (IsHeld (set gs i next)) deltas
  each-held deltas h = all-weaken (λ (D : List Op). AllByRecursion (IsHeld gs) D) (λ (D : List Op). AllByRecursion (IsHeld (set gs i next)) D)
      (λ D all. all-weaken (IsHeld gs) (IsHeld (set gs i next)) held-more D all) deltas h

  -- what was made stays so
  pub made-kept : (deltas : List (List Op)) → Made gs deltas → Made (set gs i next) deltas
  made-kept deltas m = record { each = each-held deltas m.each; apart = m.apart; proper = m.proper }

  -- and makes no delta
  pub whole-silent : (deltas made : List (List Op)) → AllByRecursion (IsHeld gs) more → made ≡ [] → Whole gs deltas → Whole (set gs i next) (deltas ++ made)
  whole-silent deltas made news none w =
      subst (λ m. Whole (set gs i next) (deltas ++ m)) (sym none)
      (whole-grown deltas [] (all-weaken (IsHeld gs) (IsHeld (set gs i next)) held-more more news) tt tt tt w)

pub whole-still : (gs : List Gateway) (i : ℕ) (old next : Gateway) (deltas made : List (List Op)) → slice_get gs i ≡ Some old → Still old next made → Whole gs deltas → Whole (set gs i next) (deltas ++ made)
whole-still gs i old next deltas made is u w = whole-silent gs i old next [] is u.config (u.taken ∙ sym (append-nil old.taken)) deltas made tt u.none w

-- deltas that answer a digest join the list
pub whole-joined : (gs : List Gateway) (deltas made : List (List Op)) → AllOf (IsHeld gs) made → AllByRecursion IsDelta made → AllByRecursion IsWritable made → Whole gs deltas → Whole gs (deltas ++ made)
whole-joined gs deltas made listed proper writable w = record {
  each = record { sets = w.each.sets; lists = all-append (λ (D : List Op). AllByRecursion (IsHeld gs) D) deltas made w.each.lists listed };
  proper = all-append IsDelta deltas made w.proper proper;
  writable = all-append IsWritable deltas made w.writable writable;
}

-- ---- what is held brings nobody news of what it wrote itself

pub held-known : (gs : List Gateway) (n j : ℕ) (gateway : Gateway) → First n gs j → slice_get gs j ≡ Some gateway → (D : List Op) → AllByRecursion (IsHeld gs) D → IsKnown n gateway.taken D
held-known gs n j gateway f is D all c epoch counter change e =
    let op = OfSession c (stamp_of epoch n) counter change in
    let h = All-contains (IsHeld gs) D op (All-from_recursion (IsHeld gs) D all) (operation_occurs c D (stamp_of epoch n, counter) change e) in
    let place : h.0 ≡ j = first-one n h.0 j gs h.2 f in
    let same : h.1 ≡ gateway = same_Some h.1 gateway (sym h.3 ∙ ap (slice_get gs) place ∙ is) in
    subst (λ (g : Gateway). HasOperation g.taken op) same h.4

-- ---- a gateway writes

planned-own : (g : ℕ) (S : List Op) (plan : Plan) (p : IsOfDraft g (seen_of S) plan) (op : Op) → Contains plan.ops op → IsOwnWrite g p.client op
planned-own g S plan p op there = All-contains (IsOwnWrite g p.client) plan.ops op (All-from_recursion (IsOwnWrite g p.client) plan.ops (plan-own g p.client (seen_of S) p.draft plan p.is)) there

-- the number of an operation of a plan's delta is that of the gateway
pub own-number : (old next : Gateway) (made : List (List Op)) (u : Stepped old next made) (op : Op) → Contains u.delta op → IfSome (maker_of op) (λ n. n ≡ old.config.gateway)
own-number old next made u (OfSession c s k o) h =
    let r = some-is (operation_at c u.plan.ops (s, k)) (ap is_some (sym (u.same.operations_same c (s, k))) ∙ is_there u.delta (OfSession c s k o) h) in
    (planned-own old.config.gateway old.taken u.plan u.drafted (OfSession c s k r.0) (operation_occurs c u.plan.ops (s, k) r.0 r.1)).1
own-number old next made u (OfPut c p) h =
    let r = some-is (put_at c u.plan.ops (p.seq, p.origin)) (ap is_some (sym (u.same.puts_same c (p.seq, p.origin))) ∙ is_there u.delta (OfPut c p) h) in
    let there = put_occurs c u.plan.ops (p.seq, p.origin) r.0 r.1 in
    sym (ap (λ (n : ℕ × ℕ). n.1) there.1) ∙ planned-own old.config.gateway old.taken u.plan u.drafted (OfPut c r.0) there.0
own-number old next made u (Ack c origin first last) h = tt
own-number old next made u (OfRetain t k) h =
    let r = some-is (retain_at t u.plan.ops (clock_of k)) (ap is_some (sym (u.same.retains_same t (clock_of k))) ∙ is_there u.delta (OfRetain t k) h) in
    let there = retain_occurs t u.plan.ops (clock_of k) r.0 r.1 in
    sym (ap (λ (n : ℕ × ℕ). n.1) there.1) ∙ planned-own old.config.gateway old.taken u.plan u.drafted (OfRetain t r.0) there.0

pushed-cases : (ds : List (List Op)) (d a : List Op) (i : ℕ) → slice_get (ds ++ d ∷ []) i ≡ Some a → (slice_get ds i ≡ Some a) ⊎ ((i ≡ length ds) × (a ≡ d))
pushed-cases [] d a zero e = inr (refl, sym (same_Some d a e))
pushed-cases [] d a (suc i) e = absurd (none-some a e)
pushed-cases (x ∷ ds) d a zero e = inl e
pushed-cases (x ∷ ds) d a (suc i) e = elim (pushed-cases ds d a i e) [ inl before ↦ inl before | inr last ↦ inr (ap suc last.0, last.1) ]

-- the second of two of one name has the number of the first
same-number : (a b : Op) (n : ℕ) → HaveName a b → IfSome (maker_of b) (λ m. m ≡ n) → IfSome (maker_of a) (λ m. m ≡ n)
same-number (OfSession c s k o) (OfSession d t j p) n h e = (λ i. (h.1 i).gateway) ∙ e
same-number (OfPut c p) (OfPut d q) n h e = h.1 ∙ e
same-number (OfRetain t k) (OfRetain u l) n h e = h.2 ∙ e
same-number a b n h e = absurd h

module _ (gs : List Gateway) (i : ℕ) (old next : Gateway) (made : List (List Op)) (is : slice_get gs i ≡ Some old) (f : First old.config.gateway gs i) (flush : HaveNoGap old.config.gateway old.taken) (u : Stepped old next made) where
  new-fresh : (op : Op) → Contains u.delta op → IsFreshName old.taken op
  new-fresh (OfSession c s k o) h = step-new_operation old.config.gateway old.taken u.plan u.drafted u.delta u.same flush c (s, k) (is_there u.delta (OfSession c s k o) h)
  new-fresh (OfPut c p) h = step-new_put old.config.gateway old.taken u.plan u.drafted u.delta u.same flush c (p.seq, p.origin) (is_there u.delta (OfPut c p) h)
  new-fresh (Ack c origin first last) h = tt
  new-fresh (OfRetain t k) h = step-new_retain old.config.gateway old.taken u.plan u.drafted u.delta u.same flush t (clock_of k) (is_there u.delta (OfRetain t k) h)

  -- what is written stands at the gateway that wrote it
  new-first : (op : Op) → Contains u.delta op → (n : ℕ) → n ≡ old.config.gateway → AtFirst (set gs i next) op n
  new-first op h n e =
      let r = first-kept n i i gs old next old is u.config (subst (λ m. First m gs i) (sym e) f) is in
      (i, next, r.0, set-there i gs old next is, subst (λ T. HasOperation T op) (sym u.taken) (stands-right old.taken u.delta op (new-fresh op h) (delta-stands u.delta u.proper op h)))

  new-held : (op : Op) → Contains u.delta op → IsHeld (set gs i next) op
  new-held (OfSession c s k o) h = new-first (OfSession c s k o) h s.gateway (own-number old next made u (OfSession c s k o) h)
  new-held (OfPut c p) h = new-first (OfPut c p) h p.origin (own-number old next made u (OfPut c p) h)
  new-held (Ack c origin first last) h = tt
  new-held (OfRetain t k) h = new-first (OfRetain t k) h k.gateway (own-number old next made u (OfRetain t k) h)

  -- what stands at the gateway has another name
  first-apart : (a b : Op) → AtFirst gs a old.config.gateway → Contains u.delta b → HaveName a b → ⊥
  first-apart a b h there named =
      let place : h.0 ≡ i = first-one old.config.gateway h.0 i gs h.2 f in
      let same : h.1 ≡ old = same_Some h.1 old (sym h.3 ∙ ap (slice_get gs) place ∙ is) in
      names-apart old u.plan u.drafted u.delta u.same flush a b (stands-contains old.taken a b named (subst (λ (g : Gateway). HasOperation g.taken a) same h.4)) there named

  held-apart : (a b : Op) → IsHeld gs a → Contains u.delta b → HaveName a b → IfSome (maker_of a) (λ n. n ≡ old.config.gateway) → ⊥
  held-apart (OfSession c s k o) b h there named e = first-apart (OfSession c s k o) b (subst (λ n. AtFirst gs (OfSession c s k o) n) e h) there named
  held-apart (OfPut c p) b h there named e = first-apart (OfPut c p) b (subst (λ n. AtFirst gs (OfPut c p) n) e h) there named
  held-apart (OfRetain t k) b h there named e = first-apart (OfRetain t k) b (subst (λ n. AtFirst gs (OfRetain t k) n) e h) there named
  held-apart (Ack c origin first last) (OfSession d s k o) h there named e = named
  held-apart (Ack c origin first last) (OfPut d p) h there named e = named
  held-apart (Ack c origin first last) (Ack d from start end) h there named e = named
  held-apart (Ack c origin first last) (OfRetain t k) h there named e = named

  news : AllByRecursion (IsHeld (set gs i next)) u.delta
  news = all-moved (IsHeld (set gs i next)) u.delta new-held

  pub whole-stepped : (deltas : List (List Op)) → AllByRecursion IsWritable made → Whole gs deltas → Whole (set gs i next) (deltas ++ made)
  whole-stepped deltas writable w =
      subst (λ m. Whole (set gs i next) (deltas ++ m)) (sym u.one)
      (whole-grown gs i old next u.delta is u.config u.taken deltas (u.delta ∷ []) news (news, tt) (u.proper, tt) (subst (λ (m : List (List Op)). AllByRecursion IsWritable m) u.one writable) w)

  -- where it had been refused and is on the disk, nobody is told
  pub whole-back : (deltas : List (List Op)) → Whole gs deltas → Whole (set gs i next) (deltas ++ [])
  whole-back deltas w = whole-grown gs i old next u.delta is u.config u.taken deltas [] news tt tt tt w

  module _ (ts : List (List Op)) (m : Made gs ts) where
    -- no name of a delta that was made is written again
    listed-apart : (k : ℕ) (one : List Op) (a b : Op) → slice_get ts k ≡ Some one → Contains one a → Contains u.delta b → HaveName a b → ⊥
    listed-apart k one a b at inside there named =
        let all = all-at (λ (delta : List Op). AllByRecursion (IsHeld gs) delta) ts k one m.each at in
        held-apart a b (All-contains (IsHeld gs) one a (All-from_recursion (IsHeld gs) one all) inside) there named
        (same-number a b old.config.gateway named (own-number old next made u b there))

    made-apart : AreApart (ts ++ u.delta ∷ [])
    made-apart k l one other a b at there inside within named =
        elim (pushed-cases ts u.delta one k at) [
          | inl before ↦ elim (pushed-cases ts u.delta other l there) [
            | inl too ↦ m.apart k l one other a b before too inside within named
            | inr last ↦ absurd (listed-apart k one a b before inside (subst (λ (D : List Op). Contains D b) last.1 within) named)
          ]
          | inr new ↦ elim (pushed-cases ts u.delta other l there) [
            | inl too ↦ absurd (listed-apart l other b a too within (subst (λ (D : List Op). Contains D a) new.1 inside) (turned a b named))
            | inr last ↦ new.0 ∙ sym last.0
          ]
        ]

    pub made-stepped : Made (set gs i next) (ts ++ u.delta ∷ [])
    made-stepped = record {
      each = all-append (λ (D : List Op). AllByRecursion (IsHeld (set gs i next)) D) ts (u.delta ∷ []) (made-kept gs i old next u.delta is u.config u.taken ts m).each (news, tt);
      apart = made-apart;
      proper = all-append IsDelta ts (u.delta ∷ []) m.proper (u.proper, tt);
    }
