-- The names that a plan writes under were not used before.
use Rattle.std.proofs.Common.{◌≡◌, ℕ, ◌+◌, ◌^◌, ◌≤◌, Bool, true, false, ◌||◌, cond, if◌then◌else◌, nat_lt, List, [], ◌∷◌, ◌++◌, map, Option, Some, None, IfSome, is_some, refl, sym, ap, ◌∙◌, subst, append_assoc, true≢false, inl, inr, arith}
use Rattle.std.specs.List.{AllByRecursion, cons_option}
use Rattle.std.specs.FinMap.{find}
use Rattle.std.specs.Ordering.{is_eq}
use Rattle.std.proofs.lemmas.Option.{none-some, same_Some}
use Rattle.std.proofs.lemmas.Map.Views.{tells_apart}
use Rattle.std.proofs.lemmas.Bool.{or_left, or_right}
use Rattle.rep_op.specs.declared.op.Op.{Op}
use Rattle.rep_op.specs.declared.op.Op.TheVariants.{Session as OfSession, Put as OfPut, Ack, Retain as OfRetain}
use Rattle.rep_op.specs.declared.op.Put.{Put}
use Rattle.rep_op.specs.Orders.{put_cmp, clock_cmp}
use Rattle.rep_op.specs.Sets.{put_of, puts, put_at, is_acknowledged, retain_of, retains, retain_at}
use Rattle.rep_model.specs.Views.{view}
use Rattle.rep_model.specs.Fresh.{one_more, largest, next_epoch, seq_of, next_seq, next_clock}
use Rattle.rep_model.proofs.Fresh.{seq-reaches}
use Rattle.rep_model.proofs.Lookup.{or_else}
use Rattle.rep_model.proofs.Readers.{put_exact, put_at_both, retain_at_both}
use Rattle.rep_model.proofs.Topics.{next_clock-free}
use Rattle.sn_plan.specs.declared.draft.NewPut.{NewPut}
use Rattle.sn_plan.specs.declared.draft.Posted.{Posted}
use Rattle.sn_plan.specs.declared.plan.Plan.{Plan}
use Rattle.sn_plan.specs.Drafts.{Drafted}
use Rattle.sn_plan.specs.Numbering.{put_at_seq, with_puts, handed_at_seq, with_handed, retain_at_clock, with_retain, ack_of}
use Rattle.sn_local.specs.Seen.{seen_of}
use Rattle.sn_plan.specs.Plans.{plan_of}
use Rattle.sn_plan.specs.Own.{AreFresh, IsOneEach, PutsApart}
use Rattle.sn_plan.specs.Flush.{IsFlush}
use Rattle.sn_plan.proofs.Lists.{and_then-some, map-some, all-append, all-weaken, all-map, all-both, all-given}
use Rattle.sn_local.proofs.Entries.{same_client-itself, same_client-apart, by_some, none_or, or_none, puts-other}
use Rattle.row_laws.proofs.Planned.{IsNumbered, retain-passed, handed-passed, Parts, planned-parts, parts-more}
use Rattle.row_laws.proofs.Names.{IsWritten, start-written, before-none}
use Rattle.row_laws.proofs.Reached.{one_more-is}
use Rattle.row_laws.proofs.Carried.{fresh-append, written-fresh}

-- the set does not acknowledge the message
abbrev pub IsUnacknowledged : List Op → Op → Type 0
IsUnacknowledged S (OfSession c stamp counter change) = Unit {0}
IsUnacknowledged S (OfPut c put) = is_acknowledged c S (put.seq, put.origin) ≡ false
IsUnacknowledged S (Ack c origin first last) = Unit {0}
IsUnacknowledged S (OfRetain topic kept) = Unit {0}

by_test : (b : Bool) → (b ≡ true → ⊥) → b ≡ false
by_test true f = absurd (f refl)
by_test false f = refl

-- nothing stands from the next sequence number on
module _ (e : List ℕ) (g : ℕ) (S : List Op) (n k : ℕ) (next : next_seq e g S ≡ Some n) (least : n ≤ k) where
  beyond : (is_some (put_at e S (k, g)) || is_acknowledged e S (k, g)) ≡ true → ⊥
  beyond there = let r = seq-reaches e g S k there in let m : largest (seq_of e g) S + 1 ≡ n = one_more-is (largest (seq_of e g) S) n next in omega (arith, r, m, least)

  pub unput : put_at e S (k, g) ≡ None
  unput = by_some (put_at e S (k, g)) (λ h. beyond (or_left (is_some (put_at e S (k, g))) (is_acknowledged e S (k, g)) h))

  pub unacked : is_acknowledged e S (k, g) ≡ false
  unacked = by_test (is_acknowledged e S (k, g)) (λ h. beyond (or_right (is_some (put_at e S (k, g))) (is_acknowledged e S (k, g)) h))

-- a list that retains nothing of the topic
retains-other : (t : List ℕ) (A B : List Op) (name : ℕ × ℕ) → retains t B ≡ [] → retain_at t (A ++ B) name ≡ retain_at t A name
retains-other t A B name e = retain_at_both t A B name ∙ ap (λ es. or_else (retain_at t A name) (find clock_cmp name es)) e ∙ or_none (retain_at t A name)

-- a message alone does not stand under another number
alone-apart : (c : List ℕ) (p : Put) (k : ℕ) → ¬ (k ≡ p.seq) → put_at c (OfPut c p ∷ []) (k, p.origin) ≡ None
alone-apart c p k h =
    ap (λ b. find put_cmp (k, p.origin) (cons_option (if b then Some ((p.seq, p.origin), p) else None) [])) (same_client-itself c)
    ∙ (elim (is_eq (put_cmp (k, p.origin) (p.seq, p.origin))) as (λ b. is_eq (put_cmp (k, p.origin) (p.seq, p.origin)) ≡ b → cond b (Some p) None ≡ None) [
      | true ↦ λ e. absurd (h (ap (λ (m : ℕ × ℕ). m.0) (tells_apart put_exact (k, p.origin) (p.seq, p.origin) e)))
      | false ↦ λ _. refl
    ] refl)

acks-fresh : (c : List ℕ) (S : List Op) (names : List (ℕ × ℕ)) → AreFresh S (map (ack_of c) names)
acks-fresh c S [] = tt
acks-fresh c S (name ∷ names) = (tt, acks-fresh c (S ++ ack_of c name ∷ []) names)

written-puts : (g : ℕ) (c e : List ℕ) (op : Op) → IsWritten g c op → put_of e op ≡ None
written-puts g c e (OfSession d stamp counter change) h = refl
written-puts g c e (OfPut d p) h = absurd h
written-puts g c e (Ack d origin first last) h = absurd h
written-puts g c e (OfRetain topic kept) h = absurd h

module _ (g moment : ℕ) (seq : List ℕ → Option ℕ) where
  -- the client's next number is free
  abbrev IsFree : List Op → NewPut → Type 0
  IsFree A p = (n : ℕ) → seq p.client ≡ Some n → put_at p.client A (n, g) ≡ None

  still_free : (A : List Op) (p : NewPut) (n : ℕ) (q : NewPut) → ¬ (q.client ≡ p.client) → IsFree A q → IsFree (A ++ put_at_seq g moment p n ∷ []) q
  still_free A p n q h free k next =
      puts-other q.client A (put_at_seq g moment p n ∷ []) (k, g) (ap (λ b. cons_option (if b then Some ((n, g), record { origin = g; seq = n; topic = p.topic; qos = p.qos; retain = false; expires = moment; body = p.body }) else None) []) (same_client-apart q.client p.client h))
      ∙ free k next

  pub puts-fresh : (S : List Op) (new : List NewPut) (before after : List Op) → IsOneEach new → AllByRecursion (IsFree (S ++ before)) new → AreFresh S before → with_puts g moment seq new before ≡ Some after → AreFresh S after
  puts-fresh S [] before after one free fresh e = subst (AreFresh S) (same_Some before after e) fresh
  puts-fresh S (p ∷ rest) before after one free fresh e =
      let m = and_then-some (λ n. with_puts g moment seq rest (before ++ put_at_seq g moment p n ∷ [])) (seq p.client) after e in
      let longer : List Op = before ++ put_at_seq g moment p m.0 ∷ [] in
      puts-fresh S rest longer after one.1
      (subst (λ A. AllByRecursion (IsFree A) rest) (append_assoc S before (put_at_seq g moment p m.0 ∷ []))
      (all-both (λ (q : NewPut). ¬ (q.client ≡ p.client)) (IsFree (S ++ before)) (IsFree ((S ++ before) ++ put_at_seq g moment p m.0 ∷ [])) (still_free (S ++ before) p m.0) rest one.0 free.1))
      (fresh-append S before (put_at_seq g moment p m.0 ∷ []) fresh (free.0 m.0 m.1, tt))
      m.2

module _ (g moment : ℕ) (c : List ℕ) where
  -- from this number on the client has no message of the gateway's
  abbrev IsBare : List Op → Option ℕ → Type 0
  IsBare A next = IfSome next (λ n. (k : ℕ) → n ≤ k → put_at c A (k, g) ≡ None)

  still_bare : (A : List Op) (p : Posted) (n : ℕ) → ((k : ℕ) → n ≤ k → put_at c A (k, g) ≡ None) → (next : Option ℕ) → IfSome next (λ m. n + 1 ≤ m) → IsBare (A ++ handed_at_seq g moment c p n ∷ []) next
  still_bare A p n bare None h = tt
  still_bare A p n bare (Some m) h = λ k least.
      let more : n + 1 ≤ m = h in
      let new : Put = record { origin = g; seq = n; topic = p.topic; qos = p.qos; retain = true; expires = moment; body = p.body } in
      put_at_both c A (OfPut c new ∷ []) (k, g) ∙ none_or (put_at c A (k, g)) (put_at c (OfPut c new ∷ []) (k, g)) (bare k (omega (arith, more, least)))
      ∙ alone-apart c new k (λ e. omega (arith, e, more, least))

  after_one : (n : ℕ) → IfSome (one_more n) (λ m. n + 1 ≤ m)
  after_one n = elim (nat_lt (n + 1) (2 ^ 64)) as (λ b. IfSome {T = ℕ} (if b then Some (n + 1) else None) (λ m. n + 1 ≤ m)) [
    | true ↦ omega arith
    | false ↦ tt
  ]

  handed-fresh : (S : List Op) (handed : List Posted) (next : Option ℕ) (before after : List Op) → IsBare (S ++ before) next → AreFresh S before → with_handed g moment c next handed before ≡ Some after → AreFresh S after
  handed-fresh S [] next before after bare fresh e = subst (AreFresh S) (same_Some before after e) fresh
  handed-fresh S (p ∷ rest) None before after bare fresh e = absurd (none-some after e)
  handed-fresh S (p ∷ rest) (Some n) before after bare fresh e =
      let one : List Op = handed_at_seq g moment c p n ∷ [] in
      handed-fresh S rest (one_more n) (before ++ one) after
      (subst (λ A. IsBare A (one_more n)) (append_assoc S before one) (still_bare (S ++ before) p n bare (one_more n) (after_one n)))
      (fresh-append S before one fresh (bare n (omega arith), tt))
      e

-- what is retained is fresh where the next clock of its topic is free
retain-fresh : (g : ℕ) (clock : List ℕ → Option ℕ) (S : List Op) (retain : Option Posted) (before after : List Op) → ((t : List ℕ) (n : ℕ) → clock t ≡ Some n → retain_at t (S ++ before) (n, g) ≡ None)
    → AreFresh S before → with_retain g clock retain before ≡ Some after → AreFresh S after
retain-fresh g clock S None before after free fresh e = subst (AreFresh S) (same_Some before after e) fresh
retain-fresh g clock S (Some p) before after free fresh e =
    let m = map-some (λ n. before ++ retain_at_clock g p n ∷ []) (clock p.topic) after e in
    subst (AreFresh S) m.2 (fresh-append S before (retain_at_clock g p m.0 ∷ []) fresh (free p.topic m.0 m.1, tt))

written-retains : (g : ℕ) (c t : List ℕ) (op : Op) → IsWritten g c op → retain_of t op ≡ None
written-retains g c t (OfSession d stamp counter change) h = refl
written-retains g c t (OfPut d p) h = absurd h
written-retains g c t (Ack d origin first last) h = absurd h
written-retains g c t (OfRetain topic kept) h = absurd h

module _ (g : ℕ) (c : List ℕ) (S : List Op) (d : Drafted) (plan : Plan) (planned : plan_of g c (seen_of S) d ≡ Some plan) where
  abbrev seq_in : List ℕ → Option ℕ
  seq_in e = next_seq e g S

  abbrev clock_now : List ℕ → Option ℕ
  clock_now t = next_clock t S

  pub cut : Parts g c (view c S) (next_epoch c S) (λ e. next_seq e g S) (λ t. next_clock t S) d plan.ops
  cut = planned-parts g c (view c S) (next_epoch c S) (λ e. next_seq e g S) (λ t. next_clock t S) d plan planned

  abbrev before : List Op
  before = cut.w.ops ++ map (ack_of c) d.acks

  before-fresh : IsFlush g c S → AreFresh S before
  before-fresh flush =
      fresh-append S cut.w.ops (map (ack_of c) d.acks) (written-fresh g c S flush d.changes cut.w cut.is_written) (acks-fresh c (S ++ cut.w.ops) d.acks)

  before-puts : (e : List ℕ) → puts e before ≡ []
  before-puts e = before-none g c (put_of e) (written-puts g c e) (λ name. refl) (view c S) (next_epoch c S) d.changes cut.w cut.is_written d.acks

  pub handed-retains : (t : List ℕ) → retains t cut.handed ≡ []
  handed-retains t =
      handed-passed g seq_in clock_now c d.expires (retain_of t) (λ p n. refl) d.handed (next_seq c g S) before cut.handed cut.is_handed
      ∙ before-none g c (retain_of t) (written-retains g c t) (λ name. refl) (view c S) (next_epoch c S) d.changes cut.w cut.is_written d.acks

  start-bare : (next : Option ℕ) → next_seq c g S ≡ next → IsBare g d.expires c (S ++ before) next
  start-bare None e = tt
  start-bare (Some n) e = λ k least. puts-other c S before (k, g) (before-puts c) ∙ unput c g S n k e least

  kept-fresh : IsFlush g c S → AreFresh S cut.kept
  kept-fresh flush =
      retain-fresh g clock_now S d.retain cut.handed cut.kept
      (λ t n next. retains-other t S cut.handed (n, g) (handed-retains t) ∙ next_clock-free t S n g next)
      (handed-fresh g d.expires c S d.handed (next_seq c g S) before cut.handed (start-bare (next_seq c g S) refl) (before-fresh flush) cut.is_handed)
      cut.is_kept

  -- where nothing is handed there are no messages yet
  kept-puts : d.handed ≡ [] → (e : List ℕ) → puts e cut.kept ≡ []
  kept-puts none e =
      let given : with_handed g d.expires c (next_seq c g S) [] before ≡ Some cut.handed = ap (λ xs. with_handed g d.expires c (next_seq c g S) xs before) (sym none) ∙ cut.is_handed in
      retain-passed g seq_in clock_now (put_of e) (λ p n. refl) d.retain cut.handed cut.kept cut.is_kept
      ∙ ap (puts e) (sym (same_Some before cut.handed given)) ∙ before-puts e

  -- where nothing is put either there are none
  pub bare-puts : d.handed ≡ [] → d.puts ≡ [] → (e : List ℕ) → puts e plan.ops ≡ []
  bare-puts bare none e =
      let last : with_puts g d.expires seq_in [] cut.kept ≡ Some plan.ops = ap (λ xs. with_puts g d.expires seq_in xs cut.kept) (sym none) ∙ cut.is_numbered in
      ap (puts e) (sym (same_Some cut.kept plan.ops last)) ∙ kept-puts bare e

  pub plan-fresh : IsFlush g c S → PutsApart d → AreFresh S plan.ops
  plan-fresh flush apart = elim apart.alone [
    | inl none ↦ puts-fresh g d.expires seq_in S d.puts cut.kept plan.ops apart.one_each
        (all-given (IsFree g d.expires seq_in (S ++ cut.kept)) (λ p n next. puts-other p.client S cut.kept (n, g) (kept-puts none p.client) ∙ unput p.client g S n n next (omega arith)) d.puts)
        (kept-fresh flush) cut.is_numbered
    | inr none ↦
        let last : with_puts g d.expires seq_in [] cut.kept ≡ Some plan.ops = ap (λ xs. with_puts g d.expires seq_in xs cut.kept) (sym none) ∙ cut.is_numbered in
        subst (AreFresh S) (same_Some cut.kept plan.ops last) (kept-fresh flush)
  ]

  written-unacked : (op : Op) → IsWritten g c op → IsUnacknowledged S op
  written-unacked (OfSession e stamp counter change) h = tt
  written-unacked (OfPut e p) h = absurd h
  written-unacked (Ack e origin first last) h = absurd h
  written-unacked (OfRetain topic kept) h = absurd h

  numbered-unacked : (op : Op) → IsNumbered g seq_in clock_now op → IsUnacknowledged S op
  numbered-unacked (OfSession e stamp counter change) h = absurd h
  numbered-unacked (OfPut e p) h = let from = h.1 in ap (λ o. is_acknowledged e S (p.seq, o)) h.0 ∙ unacked e g S from.0 p.seq from.1 from.2
  numbered-unacked (Ack e origin first last) h = absurd h
  numbered-unacked (OfRetain topic kept) h = tt

  pub plan-unacked : AllByRecursion (IsUnacknowledged S) plan.ops
  plan-unacked =
      let acks : List Op = map (ack_of c) d.acks in
      let b = parts-more g c (view c S) (next_epoch c S) seq_in clock_now d plan.ops cut in
      subst (AllByRecursion (IsUnacknowledged S)) (sym b.1)
      (all-append (IsUnacknowledged S) before b.0
      (all-append (IsUnacknowledged S) cut.w.ops acks
      (all-weaken (IsWritten g c) (IsUnacknowledged S) written-unacked cut.w.ops (start-written g c (view c S) (next_epoch c S) d.changes cut.w cut.is_written))
      (all-map (IsUnacknowledged S) (ack_of c) (λ name. tt) d.acks))
      (all-weaken (IsNumbered g seq_in clock_now) (IsUnacknowledged S) numbered-unacked b.0 b.2))
