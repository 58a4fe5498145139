-- What is read off a set of well made operations: sessions in range, stamps and messages that begin at 1, names that are all
-- different.
use Rattle.std.proofs.Common.{◌≡◌, ℕ, zero, suc, ◌+◌, ◌≤◌, Bool, true, false, cond, not, ◌&&◌, ◌==◌, nat_le, if◌then◌else◌, List, [], ◌∷◌, map, filter, fold, length, Option, Some, None, IfSome, is_some, unwrap_or, refl, sym, ap, ◌∙◌, subst, true≢false, Less, Equal, Greater, is_lt, eqb-true, IsTrue}
use Rattle.std.specs.List.{AllByRecursion, cons_option}
use Rattle.std.specs.List.Sorted.{IsStrictlySortedBy}
use Rattle.std.specs.FinMap.Entries.{by_order, put}
use Rattle.std.proofs.lemmas.Bool.{and_parts}
use Rattle.std.proofs.lemmas.Cmp.{tied_itself}
use Rattle.sn_session.specs.declared.session.Session.{Session}
use Rattle.sn_session.specs.declared.change.SessionOp.{SessionOp}
use Rattle.sn_session.specs.declared.change.SessionOp.TheVariants.{Take}
use Rattle.sn_session.specs.Session.{applied, empty_session}
use Rattle.rep_op.specs.declared.op.Stamp.{Stamp}
use Rattle.rep_op.specs.declared.op.Put.{Put}
use Rattle.rep_op.specs.declared.op.Op.{Op}
use Rattle.rep_op.specs.declared.op.Op.TheVariants.{Session as OfSession, Put as OfPut, Ack, Retain as OfRetain}
use Rattle.rep_ops.specs.Making.{AreWellMade}
use Rattle.rep_op.specs.Orders.{operation_cmp, name_of, put_cmp}
use Rattle.rep_op.specs.Ranges.{is_change, is_session}
use Rattle.rep_op.specs.Sets.{same_client, operation_of, operation_at, puts, is_acknowledged}
use Rattle.rep_op.specs.WellMade.{is_stamp, is_counted, is_put, is_well_made}
use Rattle.rep_model.specs.Views.{visible, gapless, then_more, history_at, history, after_change, session_made, unacknowledged, in_order, pending, view}
use Rattle.rep_model.proofs.Lookup.{find-all}
use Rattle.rep_model.proofs.Pending.{pending-ascend}
use Rattle.rep_model.proofs.Readers.{operation_exact, put_total}
use Rattle.sn_plan.specs.Bound.{session_of as session_seen}
use Rattle.sn_local.specs.Seen.{seen_of}
use Rattle.sn_plan.proofs.Lists.{all-weaken}
use Rattle.sn_local.proofs.Entries.{visible-there}
use Rattle.sn_exchange.specs.Exchanges.{same_name}
use Rattle.step_laws.specs.Laws.{AreNamedApart}
use Rattle.plan_laws.proofs.Sessions.{Fine, IsChange, fine-from, applied-fine, empty-fine}

-- ---- what stands under a name

abbrev IsEntry : Stamp × ℕ → SessionOp → Type 0
IsEntry name change = (is_stamp name.0 ≡ true) × (is_change change ≡ true)

entry_of : (c : List ℕ) (op : Op) → IsTrue (is_well_made op) → IfSome (operation_of c op) (λ e. IsEntry e.0 e.1)
entry_of c (OfSession d stamp counter change) made =
    let a = and_parts (is_stamp stamp && is_counted counter change) (is_change change) made in
    let b = and_parts (is_stamp stamp) (is_counted counter change) a.0 in
    elim (same_client c d) as (λ b. IfSome {T = (Stamp × ℕ) × SessionOp} (if b then Some ((stamp, counter), change) else None) (λ e. IsEntry e.0 e.1)) [
      | true ↦ (b.0, a.1)
      | false ↦ tt
    ]
entry_of c (OfPut d put) made = tt
entry_of c (Ack d origin first last) made = tt
entry_of c (OfRetain topic kept) made = tt

entry_at : (c : List ℕ) (S : List Op) → AreWellMade S → (name : Stamp × ℕ) → IfSome (operation_at c S name) (λ change. IsEntry name change)
entry_at c S made name =
    find-all operation_cmp operation_exact (operation_of c) IsEntry S
    (all-weaken (λ op. IsTrue (is_well_made op)) (λ op. IfSome (operation_of c op) (λ e. IsEntry e.0 e.1)) (entry_of c) S made) name

-- ---- the visible stamp

some_is : {X : Type 0} (P : Type 0) (o : Option X) → is_some o ≡ true → IfSome o (λ _. P) → P
some_is P None e h = absurd (true≢false (sym e))
some_is P (Some x) e h = h

if_weaken : {X : Type 0} (P Q : X → Type 0) → ((x : X) → P x → Q x) → (o : Option X) → IfSome o P → IfSome o Q
if_weaken P Q f None h = tt
if_weaken P Q f (Some x) h = f x h

-- it begins at 1
pub visible-made : (c : List ℕ) (S : List Op) → AreWellMade S → (s : Stamp) → visible c S ≡ Some s → is_stamp s ≡ true
visible-made c S made s e =
    some_is (is_stamp s ≡ true) (operation_at c S (s, 0)) (visible-there c S s e)
    (if_weaken (λ change. IsEntry (s, 0) change) (λ _. is_stamp s ≡ true) (λ change h. h.0) (operation_at c S (s, 0)) (entry_at c S made (s, 0)))

-- ---- the session

more_all : (o : Option SessionOp) (rest : List SessionOp) → IfSome o IsChange → AllByRecursion IsChange rest → AllByRecursion IsChange (then_more o rest)
more_all None rest h all = tt
more_all (Some change) rest h all = (h, all)

gapless_all : (at : ℕ → Option SessionOp) → ((k : ℕ) → IfSome (at k) IsChange) → (room k : ℕ) → AllByRecursion IsChange (gapless at room k)
unfolding gapless
gapless_all at each zero k = tt
gapless_all at each (suc room) k = more_all (at k) (gapless at room (k + 1)) (each k) (gapless_all at each room (k + 1))

history_all : (c : List ℕ) (S : List Op) → AreWellMade S → (stamp : Option Stamp) → AllByRecursion IsChange (history_at (operation_at c S) stamp)
history_all c S made None = tt
history_all c S made (Some stamp) =
    gapless_all (λ k. operation_at c S (stamp, k))
    (λ k. if_weaken (λ change. IsEntry (stamp, k) change) IsChange (λ change h. h.1) (operation_at c S (stamp, k)) (entry_at c S made (stamp, k))) 256 0

after_fine : (o : Option Session) (change : SessionOp) → IfSome o Fine → IsChange change → IfSome (after_change o change) Fine
after_fine None (Take taken) f h = fine-from taken h
after_fine None change f h = tt
after_fine (Some session) change f h = applied-fine session change f h

made_fine : (o : Option Session) (done : List SessionOp) → IfSome o Fine → AllByRecursion IsChange done → IfSome (fold after_change o done) Fine
made_fine o [] f all = f
made_fine o (change ∷ rest) f all = made_fine (after_change o change) rest (after_fine o change f all.0) all.1

-- the session of a client, where there is one
pub view-fine : (c : List ℕ) (S : List Op) → AreWellMade S → IfSome (view c S).session Fine
view-fine c S made = made_fine None (history c S) tt (history_all c S made (visible c S))

or_empty : (o : Option Session) → IfSome o Fine → Fine (unwrap_or o empty_session)
or_empty None f = empty-fine
or_empty (Some s) f = f

-- and so as rows see it
pub seen-fine : (c : List ℕ) (S : List Op) → AreWellMade S → Fine (session_seen (seen_of S) c)
seen-fine c S made = or_empty (view c S).session (view-fine c S made)

-- ---- the messages that wait

abbrev pub IsWell : Put → Type 0
IsWell p = is_put p ≡ true

abbrev AreWell : List ((ℕ × ℕ) × Put) → Type 0
AreWell es = AllByRecursion (λ e. IsWell e.1) es

put_well : (k : ℕ × ℕ) (v : Put) (es : List ((ℕ × ℕ) × Put)) → IsWell v → AreWell es → AreWell (put put_cmp k v es)
put_well k v [] h all = (h, tt)
put_well k v (e ∷ es) h all =
    elim (put_cmp k e.0) as (λ o. AreWell (by_order o ((k, v) ∷ e ∷ es) ((e.0, v) ∷ es) (e ∷ put put_cmp k v es))) [
      | Less ↦ (h, all)
      | Equal ↦ (h, all.1)
      | Greater ↦ (all.0, put_well k v es h all.1)
    ]

in_order_well : (es : List ((ℕ × ℕ) × Put)) → AreWell es → AreWell (in_order put_cmp es)
in_order_well [] all = tt
in_order_well (e ∷ es) all = put_well e.0 e.1 (in_order put_cmp es) all.0 (in_order_well es all.1)

kept_well : (b : Bool) (e : (ℕ × ℕ) × Put) (es : List ((ℕ × ℕ) × Put)) → IsWell e.1 → AreWell es → AreWell (cond b (e ∷ es) es)
kept_well true e es h all = (h, all)
kept_well false e es h all = all

filter_well : (test : (ℕ × ℕ) × Put → Bool) (es : List ((ℕ × ℕ) × Put)) → AreWell es → AreWell (filter test es)
filter_well test [] all = tt
filter_well test (e ∷ es) all = kept_well (test e) e (filter test es) all.0 (filter_well test es all.1)

puts_well : (c : List ℕ) (S : List Op) → AreWellMade S → AreWell (puts c S)
puts_well c [] made = tt
puts_well c (OfSession d stamp counter change ∷ S) made = puts_well c S made.1
puts_well c (OfPut d p ∷ S) made =
    elim (same_client c d) as (λ b. AreWell (cons_option (if b then Some ((p.seq, p.origin), p) else None) (puts c S))) [
      | true ↦ (made.0, puts_well c S made.1)
      | false ↦ puts_well c S made.1
    ]
puts_well c (Ack d origin first last ∷ S) made = puts_well c S made.1
puts_well c (OfRetain t k ∷ S) made = puts_well c S made.1

values_well : (es : List ((ℕ × ℕ) × Put)) → AreWell es → AllByRecursion IsWell (map (λ e. e.1) es)
values_well [] all = tt
values_well (e ∷ es) all = (all.0, values_well es all.1)

pub pending-well : (c : List ℕ) (S : List Op) → AreWellMade S → AllByRecursion IsWell (pending c S)
pending-well c S made =
    values_well (in_order put_cmp (unacknowledged c S))
    (in_order_well (unacknowledged c S) (filter_well (λ e. not (is_acknowledged c S e.0)) (puts c S) (puts_well c S made)))

-- their names are all different
less_apart : (a b : ℕ × ℕ) → put_cmp a b ≡ Less → same_name a b ≡ false
less_apart a b less =
    elim (same_name a b) as (λ t. same_name a b ≡ t → t ≡ false) [
      | true ↦ λ e.
          let parts = and_parts (a.0 == b.0) (a.1 == b.1) e in
          let seq : a.0 ≡ b.0 = eqb-true a.0 b.0 parts.0 in
          let origin : a.1 ≡ b.1 = eqb-true a.1 b.1 parts.1 in
          let pair : a ≡ b = λ i. (seq i, origin i) in
          let same : is_lt (put_cmp a b) ≡ false = ap (λ x. is_lt (put_cmp a x)) (sym pair) ∙ ap is_lt (tied_itself put_total a) in
          absurd (true≢false (sym (ap is_lt less) ∙ same))
      | false ↦ λ _. refl
    ] refl

sorted_apart : (ps : List Put) → IsStrictlySortedBy (λ (a b : Put). put_cmp (name_of a) (name_of b)) ps → AreNamedApart ps
unfolding IsStrictlySortedBy
sorted_apart [] sorted = tt
sorted_apart (p ∷ ps) sorted =
    (all-weaken (λ (q : Put). put_cmp (name_of p) (name_of q) ≡ Less) (λ (q : Put). same_name (name_of p) (name_of q) ≡ false) (λ q h. less_apart (name_of p) (name_of q) h) ps sorted.0, sorted_apart ps sorted.1)

pub pending-apart : (c : List ℕ) (S : List Op) → AreNamedApart (pending c S)
pending-apart c S = sorted_apart (pending c S) (pending-ascend c S)
