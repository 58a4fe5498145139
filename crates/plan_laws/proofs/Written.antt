-- The operations of a plan whose draft can be written: each well made, no two of one name.
use Rattle.std.proofs.Common.{◌≡◌, ℕ, zero, suc, ◌+◌, ◌^◌, ◌<◌, ◌≤◌, Bool, true, false, ◌&&◌, ◌==◌, nat_le, nat_lt, if◌then◌else◌, List, [], ◌∷◌, ◌++◌, map, length, Option, Some, None, IfSome, is_some, unwrap_or, option_map, cond, refl, sym, ap, ◌∙◌, subst, true≢false, arith, le-leb, leb-true, lt-ltb, eqb-true, eq-eqb, IsTrue}
use Rattle.std.specs.Prelude.{slice_get}
use Rattle.std.specs.List.{AllByRecursion, cons_option}
use Rattle.std.specs.FinMap.{find}
use Rattle.std.specs.Ordering.{is_eq}
use Rattle.std.proofs.lemmas.Cmp.{tied_itself}
use Rattle.std.proofs.lemmas.Bool.{and_parts, and_from}
use Rattle.std.proofs.lemmas.Option.{none-some, same_Some}
use Rattle.sn_session.specs.declared.session.Session.{Session}
use Rattle.sn_session.specs.declared.change.SessionOp.{SessionOp}
use Rattle.sn_session.specs.declared.change.SessionOp.TheVariants.{Take, Presence as SetPresence, Register, Subscribe, Unsubscribe, WillTopic as SetWillTopic, WillMsg, Received, Released, Outbound as SetOutbound}
use Rattle.sn_session.specs.Session.{applied, empty_session, is_take}
use Rattle.rep_op.specs.declared.op.Stamp.{Stamp}
use Rattle.rep_op.specs.declared.op.Put.{Put}
use Rattle.rep_op.specs.declared.op.Op.{Op}
use Rattle.rep_op.specs.declared.op.Op.TheVariants.{Session as OfSession, Put as OfPut, Ack, Retain as OfRetain}
use Rattle.rep_op.specs.Orders.{ShareName, HasTwice, put_cmp, clock_of}
use Rattle.rep_ops.specs.Making.{AreWellMade, HaveOwnNames}
use Rattle.rep_op.specs.Ranges.{is_change, is_session}
use Rattle.rep_op.specs.Sets.{operation_at, put_at, retain_at}
use Rattle.rep_op.specs.WellMade.{is_stamp, is_counted, is_put, is_well_made}
use Rattle.rep_ops.proofs.Rising.{all_at}
use Rattle.rep_model.specs.declared.view.ClientView.{ClientView}
use Rattle.rep_model.specs.Fresh.{one_more, next_epoch, next_seq, next_clock, greatest_epoch, largest, seq_of, clock_in}
use Rattle.rep_model.specs.Views.{visible, history, session_made, view}
use Rattle.rep_model.proofs.Lookup.{or_else}
use Rattle.rep_model.proofs.Readers.{put_total, operation_at_both, put_at_both, retain_at_both}
use Rattle.sn_plan.proofs.Standing.{retain-alone}
use Rattle.sn_plan.specs.declared.draft.NewPut.{NewPut}
use Rattle.sn_plan.specs.declared.draft.Posted.{Posted}
use Rattle.sn_plan.specs.declared.plan.Plan.{Plan}
use Rattle.sn_plan.specs.Drafts.{Drafted}
use Rattle.sn_plan.specs.Flush.{IsFlush, stamp_of}
use Rattle.sn_plan.specs.Numbering.{Written, another, taken_at, taken, counted, write, changes_written, own_counter, epoch_of, start_of, put_at_seq, with_puts, handed_to, handed_at_seq, with_handed, retain_at_clock, with_retain, ack_of}
use Rattle.sn_plan.specs.Own.{IsFreshName, AreFresh}
use Rattle.sn_local.specs.Seen.{seen_of}
use Rattle.sn_plan.specs.Plans.{plan_of}
use Rattle.sn_local.proofs.Entries.{same_client-itself, at_own}
use Rattle.sn_plan.proofs.Lists.{and_then-some, map-some, all-append, all-weaken, all-given}
use Rattle.row_laws.proofs.Names.{IsWritten, start-written}
use Rattle.row_laws.proofs.Planned.{IsNumbered, Parts, planned-parts, parts-more}
use Rattle.sn_exchange.specs.Exchanges.{same_name}
use Rattle.plan_laws.proofs.Sessions.{Fine, IsChange, fine-from, fine-to, applied-fine}
use Rattle.plan_laws.proofs.Kept.{visible-made, seen-fine}
use Rattle.plan_laws.proofs.Sound.{IsNamed, AreOnce, IsMessage, IsPosted, Sound}

-- ---- session operations

-- the next Take is at 1 or later
abbrev IsNext : Option ℕ → Type 0
IsNext next = IfSome next (λ e. nat_le 1 e ≡ true)

next-one : (n : ℕ) → IsNext (one_more n)
next-one n =
    elim (nat_lt (n + 1) (2 ^ 64)) as (λ b. IsNext (if b then Some (n + 1) else None)) [
      | true ↦ le-leb 1 (n + 1) (omega arith)
      | false ↦ tt
    ]

-- where operations are written: under a stamp and a counter that can be, with a session in range
record Ready (w : Written) : Type 0 where
  at : nat_lt w.counter 256 ≡ true → (nat_le 1 w.epoch ≡ true) × (nat_lt 0 w.counter ≡ true)
  next : IsNext w.next
  session : Fine w.session
  ops : AreWellMade w.ops

some-next : (o : Option ℕ) (e : ℕ) → IsNext o → o ≡ Some e → nat_le 1 e ≡ true
some-next o e h is = subst IsNext is h

module _ (c : List ℕ) (g : ℕ) (numbered : nat_le 1 g ≡ true) where
  stamped : (epoch : ℕ) → nat_le 1 epoch ≡ true → is_stamp (stamp_of epoch g) ≡ true
  stamped epoch e = and_from (nat_le 1 epoch) (nat_le 1 g) e numbered

  op-made : (epoch counter : ℕ) (change : SessionOp) → nat_le 1 epoch ≡ true → is_counted counter change ≡ true → IsChange change → IsTrue (is_well_made (OfSession c (stamp_of epoch g) counter change))
  op-made epoch counter change e n h =
      (and_from (is_stamp (stamp_of epoch g) && is_counted counter change) (is_change change)
      (and_from (is_stamp (stamp_of epoch g)) (is_counted counter change) (stamped epoch e) n) h)

  another-ready : (change : SessionOp) (w : Written) → is_take change ≡ false → IsChange change → nat_lt w.counter 256 ≡ true → Ready w → Ready (another c g change w)
  another-ready change w plain h lt r = record {
    at = λ _. ((r.at lt).0, lt-ltb 0 (w.counter + 1) (omega arith));
    next = r.next;
    session = applied-fine w.session change r.session h;
    ops = all-append (λ op. IsTrue (is_well_made op)) w.ops _ r.ops
        (op-made w.epoch w.counter change (r.at lt).0 (ap (λ b. if b then w.counter == 0 else nat_lt 0 w.counter) plain ∙ (r.at lt).1) h, tt);
  }

  taken-ready : (session : Session) (w : Written) (e : ℕ) → w.next ≡ Some e → Fine session → Ready w → Ready (taken_at c g session w e)
  taken-ready session w e is f r = record {
    at = λ _. (some-next w.next e r.next is, refl);
    next = next-one e;
    session = f;
    ops = all-append (λ op. IsTrue (is_well_made op)) w.ops _ r.ops (op-made e 0 (Take session) (some-next w.next e r.next is) refl (fine-to session f), tt);
  }

  taken-gives : (session : Session) (w x : Written) → Fine session → Ready w → taken c g session w ≡ Some x → Ready x
  taken-gives session w x f r e =
      let m = map-some (taken_at c g session w) w.next x e in
      subst Ready m.2 (taken-ready session w m.0 m.1 f r)

  counted-gives : (change : SessionOp) (w x : Written) → is_take change ≡ false → IsChange change → Ready w → counted c g change w ≡ Some x → Ready x
  counted-gives change w x plain h r e =
      elim (nat_lt w.counter 256) as (λ b. nat_lt w.counter 256 ≡ b → (if b then Some (another c g change w) else option_map (another c g change) (taken c g w.session w)) ≡ Some x → Ready x) [
        | true ↦ λ lt is. subst Ready (same_Some (another c g change w) x is) (another-ready change w plain h lt r)
        | false ↦ λ _ is.
            let m = map-some (another c g change) (taken c g w.session w) x is in
            let n = map-some (taken_at c g w.session w) w.next m.0 m.1 in
            subst Ready m.2 (another-ready change m.0 plain h (ap (λ (y : Written). nat_lt y.counter 256) (sym n.2)) (taken-gives w.session w m.0 r.session r m.1))
      ] refl e

  write-gives : (change : SessionOp) (w x : Written) → IsChange change → Ready w → write c g change w ≡ Some x → Ready x
  unfolding write
  write-gives (Take session) w x h r e = taken-gives session w x (fine-from session h) r e
  write-gives (SetPresence presence duration) w x h r e = counted-gives (SetPresence presence duration) w x refl h r e
  write-gives (Register id name known) w x h r e = counted-gives (Register id name known) w x refl h r e
  write-gives (Subscribe filter qos) w x h r e = counted-gives (Subscribe filter qos) w x refl h r e
  write-gives (Unsubscribe filter) w x h r e = counted-gives (Unsubscribe filter) w x refl h r e
  write-gives (SetWillTopic asked) w x h r e = counted-gives (SetWillTopic asked) w x refl h r e
  write-gives (WillMsg message) w x h r e = counted-gives (WillMsg message) w x refl h r e
  write-gives (Received id) w x h r e = counted-gives (Received id) w x refl h r e
  write-gives (Released id) w x h r e = counted-gives (Released id) w x refl h r e
  write-gives (SetOutbound exchange next_id) w x h r e = counted-gives (SetOutbound exchange next_id) w x refl h r e

  written-ready : (changes : List SessionOp) (w x : Written) → AllByRecursion IsChange changes → Ready w → changes_written c g changes w ≡ Some x → Ready x
  written-ready [] w x all r e = subst Ready (same_Some w x e) r
  written-ready (change ∷ rest) w x all r e =
      let m = and_then-some (changes_written c g rest) (write c g change w) x e in
      written-ready rest m.0 x all.1 (write-gives change w m.0 all.0 r m.1) m.2

  -- ---- acknowledgements and messages

  acks-made : (names : List (ℕ × ℕ)) → AllByRecursion IsNamed names → AreWellMade (map (ack_of c) names)
  acks-made [] all = tt
  acks-made (name ∷ rest) all = (
    and_from (nat_le 1 name.1 && nat_le 1 name.0) (nat_le name.0 name.0)
        (and_from (nat_le 1 name.1) (nat_le 1 name.0) all.0.1 all.0.0) (le-leb name.0 name.0 (omega arith)),
    acks-made rest all.1,
  )

  put-made : (moment : ℕ) (p : NewPut) (n : ℕ) → IsMessage p → nat_le 1 n ≡ true → IsTrue (is_well_made (put_at_seq g moment p n))
  put-made moment p n h e =
      and_from (nat_le 1 g && nat_le 1 n && nat_le p.qos 2) (nat_le (length p.body) 4096)
      (and_from (nat_le 1 g && nat_le 1 n) (nat_le p.qos 2) (and_from (nat_le 1 g) (nat_le 1 n) numbered e) h.0) h.1

  puts-made : (moment : ℕ) (seq : List ℕ → Option ℕ) → ((e : List ℕ) → IsNext (seq e)) → (puts : List NewPut) (before after : List Op) → AllByRecursion IsMessage puts → AreWellMade before
      → with_puts g moment seq puts before ≡ Some after → AreWellMade after
  puts-made moment seq each [] before after all made e = subst AreWellMade (same_Some before after e) made
  puts-made moment seq each (p ∷ rest) before after all made e =
      let m = and_then-some (λ n. with_puts g moment seq rest (before ++ put_at_seq g moment p n ∷ [])) (seq p.client) after e in
      puts-made moment seq each rest (before ++ put_at_seq g moment p m.0 ∷ []) after all.1
      (all-append (λ op. IsTrue (is_well_made op)) before _ made (put-made moment p m.0 all.0 (some-next (seq p.client) m.0 (each p.client) m.1), tt)) m.2

  handed-made : (moment : ℕ) (handed : List Posted) (next : Option ℕ) → IsNext next → (before after : List Op) → AllByRecursion IsPosted handed → AreWellMade before
      → with_handed g moment c next handed before ≡ Some after → AreWellMade after
  handed-made moment [] next n before after all made e = subst AreWellMade (same_Some before after e) made
  handed-made moment (p ∷ rest) None n before after all made e = absurd (none-some after e)
  handed-made moment (p ∷ rest) (Some m) n before after all made e =
      handed-made moment rest (one_more m) (next-one m) (before ++ handed_at_seq g moment c p m ∷ []) after all.1
      (all-append (λ op. IsTrue (is_well_made op)) before _ made (put-made moment (handed_to c p) m all.0 n, tt)) e

  kept-made : (p : Posted) (n : ℕ) → IsPosted p → nat_le 1 n ≡ true → IsTrue (is_well_made (retain_at_clock g p n))
  kept-made p n h e =
      and_from (nat_le 1 n && nat_le 1 g && nat_le p.qos 2) (nat_le (length p.body) 4096)
      (and_from (nat_le 1 n && nat_le 1 g) (nat_le p.qos 2) (and_from (nat_le 1 n) (nat_le 1 g) e numbered) h.0) h.1

  retain-made : (clock : List ℕ → Option ℕ) → ((t : List ℕ) → IsNext (clock t)) → (retain : Option Posted) (before after : List Op) → IfSome retain IsPosted → AreWellMade before
      → with_retain g clock retain before ≡ Some after → AreWellMade after
  retain-made clock each None before after h made e = subst AreWellMade (same_Some before after e) made
  retain-made clock each (Some p) before after h made e =
      let m = map-some (λ n. before ++ retain_at_clock g p n ∷ []) (clock p.topic) after e in
      subst AreWellMade m.2
      (all-append (λ op. IsTrue (is_well_made op)) before _ made (kept-made p m.0 h (some-next (clock p.topic) m.0 (each p.topic) m.1), tt))

-- ---- no two of one name

-- each shares its name with none that follows
abbrev Pairwise : (Op → Op → Type 0) → List Op → Type 0
Pairwise R [] = Unit {0}
Pairwise R (a ∷ rest) = AllByRecursion (R a) rest × Pairwise R rest

module _ (R : Op → Op → Type 0) where
  pair_at : (S : List Op) → Pairwise R S → (i j : ℕ) (a b : Op) → i < j → slice_get S i ≡ Some a → slice_get S j ≡ Some b → R a b
  pair_at [] h i j a b lt p q = absurd cc
  pair_at (x ∷ xs) h i zero a b lt p q = absurd (omega arith)
  pair_at (x ∷ xs) h zero (suc j) a b lt p q =
      let same : x ≡ a = cc in
      subst (λ (y : Op). R y b) same (all_at (R x) xs j b h.0 q)
  pair_at (x ∷ xs) h (suc i) (suc j) a b lt p q = pair_at xs h.1 i j a b (omega arith) p q

  -- of two parts
  pair-append : (xs ys : List Op) → Pairwise R xs → Pairwise R ys → AllByRecursion (λ x. AllByRecursion (R x) ys) xs → Pairwise R (xs ++ ys)
  pair-append [] ys h k cross = k
  pair-append (x ∷ xs) ys h k cross = (all-append (R x) xs ys h.0 cross.0, pair-append xs ys h.1 k cross.1)

-- a name that is fresh after an operation is not that operation's
abbrev Apart : Op → Op → Type 0
Apart a b = ¬ (ShareName a b)

abbrev IsNoAck : Op → Type 0
IsNoAck (OfSession c stamp counter change) = Unit {0}
IsNoAck (OfPut c put) = Unit {0}
IsNoAck (Ack c origin first last) = ⊥
IsNoAck (OfRetain topic kept) = Unit {0}

none_of : {X : Type 0} (a b : Option X) → or_else a b ≡ None → (a ≡ None) × (b ≡ None)
none_of None b e = (refl, e)
none_of (Some x) b e = absurd (cc)

fresh-before : (S more : List Op) (op : Op) → IsFreshName (S ++ more) op → IsFreshName S op
fresh-before S more (OfSession c s i o) h = (none_of (operation_at c S (s, i)) (operation_at c more (s, i)) (sym (operation_at_both c S more (s, i)) ∙ h)).0
fresh-before S more (OfPut c p) h = (none_of (put_at c S (p.seq, p.origin)) (put_at c more (p.seq, p.origin)) (sym (put_at_both c S more (p.seq, p.origin)) ∙ h)).0
fresh-before S more (Ack c origin first last) h = tt
fresh-before S more (OfRetain t k) h = (none_of (retain_at t S (clock_of k)) (retain_at t more (clock_of k)) (sym (retain_at_both t S more (clock_of k)) ∙ h)).0

fresh-all : (S ops : List Op) → AreFresh S ops → AllByRecursion (IsFreshName S) ops
fresh-all S [] h = tt
fresh-all S (op ∷ rest) h = (h.0, all-weaken (IsFreshName (S ++ op ∷ [])) (IsFreshName S) (fresh-before S (op ∷ [])) rest (fresh-all (S ++ op ∷ []) rest h.1))

put-alone : (c : List ℕ) (p : Put) → put_at c (OfPut c p ∷ []) (p.seq, p.origin) ≡ Some p
put-alone c p =
    ap (λ b. find put_cmp (p.seq, p.origin) (cons_option (if b then Some ((p.seq, p.origin), p) else None) [])) (same_client-itself c)
    ∙ ap (λ r. cond (is_eq r) (Some p) None) (tied_itself put_total (p.seq, p.origin))

some_none : {X : Type 0} (o : Option X) (x : X) → o ≡ Some x → o ≡ None → ⊥
some_none o x e f = none-some x (sym f ∙ e)

fresh-apart : (S : List Op) (a b : Op) → IsFreshName (S ++ a ∷ []) b → IsNoAck a → Apart a b
fresh-apart S (OfSession c s i o) (OfSession d t j p) h n e =
    let free : operation_at d (OfSession c s i o ∷ []) (t, j) ≡ None = (none_of (operation_at d S (t, j)) (operation_at d (OfSession c s i o ∷ []) (t, j)) (sym (operation_at_both d S (OfSession c s i o ∷ []) (t, j)) ∙ h)).1 in
    let moved : operation_at c (OfSession c s i o ∷ []) (s, i) ≡ operation_at d (OfSession c s i o ∷ []) (t, j) = λ k. operation_at (e.0 k) (OfSession c s i o ∷ []) (e.1 k, e.2 k) in
    some_none (operation_at c (OfSession c s i o ∷ []) (s, i)) o (at_own c [] s i o refl) (moved ∙ free)
fresh-apart S (OfSession c s i o) (OfPut d q) h n e = e
fresh-apart S (OfSession c s i o) (Ack d r f l) h n e = e
fresh-apart S (OfSession c s i o) (OfRetain t k) h n e = e
fresh-apart S (OfPut c p) (OfSession d t j o) h n e = e
fresh-apart S (OfPut c p) (OfPut d q) h n e =
    let free : put_at d (OfPut c p ∷ []) (q.seq, q.origin) ≡ None = (none_of (put_at d S (q.seq, q.origin)) (put_at d (OfPut c p ∷ []) (q.seq, q.origin)) (sym (put_at_both d S (OfPut c p ∷ []) (q.seq, q.origin)) ∙ h)).1 in
    let moved : put_at c (OfPut c p ∷ []) (p.seq, p.origin) ≡ put_at d (OfPut c p ∷ []) (q.seq, q.origin) = λ k. put_at (e.0 k) (OfPut c p ∷ []) (e.2 k, e.1 k) in
    some_none (put_at c (OfPut c p ∷ []) (p.seq, p.origin)) p (put-alone c p) (moved ∙ free)
fresh-apart S (OfPut c p) (Ack d r f l) h n e = e
fresh-apart S (OfPut c p) (OfRetain t k) h n e = e
fresh-apart S (OfRetain t k) (OfSession d u j o) h n e = e
fresh-apart S (OfRetain t k) (OfPut d q) h n e = e
fresh-apart S (OfRetain t k) (Ack d r f l) h n e = e
fresh-apart S (OfRetain t k) (OfRetain u l) h n e =
    let free : retain_at u (OfRetain t k ∷ []) (clock_of l) ≡ None = (none_of (retain_at u S (clock_of l)) (retain_at u (OfRetain t k ∷ []) (clock_of l)) (sym (retain_at_both u S (OfRetain t k ∷ []) (clock_of l)) ∙ h)).1 in
    let moved : retain_at t (OfRetain t k ∷ []) (clock_of k) ≡ retain_at u (OfRetain t k ∷ []) (clock_of l) = λ i. retain_at (e.0 i) (OfRetain t k ∷ []) (e.1 i, e.2 i) in
    some_none (retain_at t (OfRetain t k ∷ []) (clock_of k)) k (retain-alone t k) (moved ∙ free)
fresh-apart S (Ack c r f l) b h n e = absurd n

-- but for acknowledgements, which are not written under fresh names
abbrev ApartIfFresh : Op → Op → Type 0
ApartIfFresh (Ack c origin first last) b = Unit {0}
ApartIfFresh a b = Apart a b

if-fresh : (S : List Op) (a b : Op) → IsFreshName (S ++ a ∷ []) b → ApartIfFresh a b
if-fresh S (OfSession c s i o) b h = fresh-apart S (OfSession c s i o) b h tt
if-fresh S (OfPut c p) b h = fresh-apart S (OfPut c p) b h tt
if-fresh S (Ack c r f l) b h = tt
if-fresh S (OfRetain t k) b h = fresh-apart S (OfRetain t k) b h tt

fresh-pairs : (S ops : List Op) → AreFresh S ops → Pairwise ApartIfFresh ops
fresh-pairs S [] h = tt
fresh-pairs S (op ∷ rest) h =
    (all-weaken (IsFreshName (S ++ op ∷ [])) (ApartIfFresh op) (if-fresh S op) rest (fresh-all (S ++ op ∷ []) rest h.1), fresh-pairs (S ++ op ∷ []) rest h.1)

-- of acknowledgements alone
abbrev ApartIfAck : Op → Op → Type 0
ApartIfAck (Ack c origin first last) b = Apart (Ack c origin first last) b
ApartIfAck a b = Unit {0}

no-ack-first : (a b : Op) → IsNoAck a → ApartIfAck a b
no-ack-first (OfSession c s i o) b n = tt
no-ack-first (OfPut c p) b n = tt
no-ack-first (Ack c r f l) b n = absurd n
no-ack-first (OfRetain t k) b n = tt

no-ack-second : (a b : Op) → IsNoAck b → ApartIfAck a b
no-ack-second (OfSession c s i o) b n = tt
no-ack-second (OfPut c p) b n = tt
no-ack-second (OfRetain t k) b n = tt
no-ack-second (Ack c r f l) (OfSession d t j o) n = λ e. e
no-ack-second (Ack c r f l) (OfPut d q) n = λ e. e
no-ack-second (Ack c r f l) (OfRetain t k) n = λ e. e
no-ack-second (Ack c r f l) (Ack d s g m) n = absurd n

no-ack-pairs : (ops : List Op) → AllByRecursion IsNoAck ops → Pairwise ApartIfAck ops
no-ack-pairs [] all = tt
no-ack-pairs (op ∷ rest) all = (all-given (ApartIfAck op) (λ b. no-ack-first op b all.0) rest, no-ack-pairs rest all.1)

names-apart : (c : List ℕ) (a b : ℕ × ℕ) → same_name a b ≡ false → Apart (ack_of c a) (ack_of c b)
names-apart c a b e h =
    let up = h.2 in
    let down = h.3 in
    let seq : a.0 ≡ b.0 = omega (arith, up, down) in
    true≢false (sym (and_from (a.0 == b.0) (a.1 == b.1) (eq-eqb a.0 b.0 seq) (eq-eqb a.1 b.1 h.1)) ∙ e)

acks-pairs : (c : List ℕ) (names : List (ℕ × ℕ)) → AreOnce names → Pairwise ApartIfAck (map (ack_of c) names)
acks-pairs c [] once = tt
acks-pairs c (name ∷ rest) once = (apart-all rest once.0, acks-pairs c rest once.1)
  where
    apart-all : (others : List (ℕ × ℕ)) → AllByRecursion (λ (other : ℕ × ℕ). same_name name other ≡ false) others → AllByRecursion (ApartIfAck (ack_of c name)) (map (ack_of c) others)
    apart-all [] all = tt
    apart-all (other ∷ others) all = (names-apart c name other all.0, apart-all others all.1)

both-apart : (a b : Op) → ApartIfFresh a b → ApartIfAck a b → Apart a b
both-apart (OfSession c s i o) b h k = h
both-apart (OfPut c p) b h k = h
both-apart (Ack c r f l) b h k = k
both-apart (OfRetain t k) b h m = h

-- ---- the plan

written-no-ack : (g : ℕ) (c : List ℕ) (op : Op) → IsWritten g c op → IsNoAck op
written-no-ack g c (OfSession d s i o) h = tt
written-no-ack g c (OfPut d p) h = absurd h
written-no-ack g c (Ack d r f l) h = absurd h
written-no-ack g c (OfRetain topic kept) h = absurd h

numbered-no-ack : (g : ℕ) (seq clock : List ℕ → Option ℕ) (op : Op) → IsNumbered g seq clock op → IsNoAck op
numbered-no-ack g seq clock (OfSession d s i o) h = absurd h
numbered-no-ack g seq clock (OfPut d p) h = tt
numbered-no-ack g seq clock (Ack d r f l) h = absurd h
numbered-no-ack g seq clock (OfRetain topic kept) h = tt

module _ (g : ℕ) (c : List ℕ) (S : List Op) (d : Drafted) (plan : Plan) (planned : plan_of g c (seen_of S) d ≡ Some plan)
    (numbered : 1 ≤ g) (flush : IsFlush g c S) (made : AreWellMade S) (sound : Sound d) where
  cut : Parts g c (view c S) (next_epoch c S) (λ e. next_seq e g S) (λ t. next_clock t S) d plan.ops
  cut = planned-parts g c (view c S) (next_epoch c S) (λ e. next_seq e g S) (λ t. next_clock t S) d plan planned

  abbrev acks : List Op
  acks = map (ack_of c) d.acks

  begun : (h : List SessionOp) → is_some (session_made h) ≡ true → 1 ≤ length h
  begun [] e = absurd (true≢false (sym e))
  begun (x ∷ h) e = omega arith

  start-at : (seen : Option Stamp) → visible c S ≡ seen → nat_lt (own_counter g (length (history c S)) seen) 256 ≡ true
      → (nat_le 1 (epoch_of seen) ≡ true) × (nat_lt 0 (own_counter g (length (history c S)) seen) ≡ true)
  start-at None is lt = absurd (true≢false (sym lt))
  start-at (Some stamp) is lt =
      elim (stamp.gateway == g) as (λ b. (stamp.gateway == g) ≡ b → nat_lt (if b then length (history c S) else 256) 256 ≡ true → (nat_le 1 stamp.epoch ≡ true) × (nat_lt 0 (if b then length (history c S) else 256) ≡ true)) [
        | true ↦ λ mine _.
            let gateway : stamp.gateway ≡ g = eqb-true stamp.gateway g mine in
            let same : stamp ≡ stamp_of stamp.epoch g = λ i. record { epoch = stamp.epoch; gateway = gateway i } in
            let there = begun (history c S) (flush.begun stamp.epoch (is ∙ ap Some same)) in
            ((and_parts (nat_le 1 stamp.epoch) (nat_le 1 stamp.gateway) (visible-made c S made stamp is)).0, lt-ltb 0 (length (history c S)) there)
        | false ↦ λ _ lt. absurd (true≢false (sym lt))
      ] refl lt

  start-ready : Ready (start_of g (view c S) (next_epoch c S))
  start-ready = record {
    at = start-at (visible c S) refl;
    next = next-one (greatest_epoch c S);
    session = seen-fine c S made;
    ops = tt;
  }

  ready : Ready cut.w
  ready = written-ready c g (le-leb 1 g numbered) d.changes (start_of g (view c S) (next_epoch c S)) cut.w sound.changes start-ready cut.is_written

  pub plan-made : AreWellMade plan.ops
  plan-made =
      puts-made c g (le-leb 1 g numbered) d.expires (λ e. next_seq e g S) (λ e. next-one (largest (seq_of e g) S)) d.puts cut.kept plan.ops sound.puts
      (retain-made c g (le-leb 1 g numbered) (λ t. next_clock t S) (λ t. next-one (largest (clock_in t) S)) d.retain cut.handed cut.kept sound.retain
      (handed-made c g (le-leb 1 g numbered) d.expires d.handed (next_seq c g S) (next-one (largest (seq_of c g) S)) (cut.w.ops ++ acks) cut.handed sound.handed
      (all-append (λ op. IsTrue (is_well_made op)) cut.w.ops acks ready.ops (acks-made c g (le-leb 1 g numbered) d.acks sound.acks)) cut.is_handed) cut.is_kept) cut.is_numbered

  ack-pairs : Pairwise ApartIfAck plan.ops
  ack-pairs =
      let b = parts-more g c (view c S) (next_epoch c S) (λ e. next_seq e g S) (λ t. next_clock t S) d plan.ops cut in
      let written : AllByRecursion IsNoAck cut.w.ops = all-weaken (IsWritten g c) IsNoAck (written-no-ack g c) cut.w.ops (start-written g c (view c S) (next_epoch c S) d.changes cut.w cut.is_written) in
      let more : AllByRecursion IsNoAck b.0 = all-weaken (IsNumbered g (λ e. next_seq e g S) (λ t. next_clock t S)) IsNoAck (numbered-no-ack g (λ e. next_seq e g S) (λ t. next_clock t S)) b.0 b.2 in
      subst (Pairwise ApartIfAck) (sym b.1)
      (pair-append ApartIfAck (cut.w.ops ++ acks) b.0
      (pair-append ApartIfAck cut.w.ops acks (no-ack-pairs cut.w.ops written) (acks-pairs c d.acks sound.once)
      (all-weaken IsNoAck (λ x. AllByRecursion (ApartIfAck x) acks) (λ x n. all-given (ApartIfAck x) (λ y. no-ack-first x y n) acks) cut.w.ops written))
      (no-ack-pairs b.0 more)
      (all-given (λ x. AllByRecursion (ApartIfAck x) b.0) (λ x. all-weaken IsNoAck (ApartIfAck x) (no-ack-second x) b.0 more) (cut.w.ops ++ acks)))

  pub plan-apart : AreFresh S plan.ops → HaveOwnNames plan.ops
  plan-apart fresh = record {
    well_made = plan-made;
    once = λ t. both-apart t.2 t.3
        (pair_at ApartIfFresh plan.ops (fresh-pairs S plan.ops fresh) t.0 t.1 t.2 t.3 t.4 t.5 t.6)
        (pair_at ApartIfAck plan.ops ack-pairs t.0 t.1 t.2 t.3 t.4 t.5 t.6) t.7;
  }
