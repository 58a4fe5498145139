-- Session operations, one more after the other.
use Rattle.std.proofs.Common.{◌≡◌, ℕ, suc, zero, ◌+◌, ◌-◌, ◌≤◌, ◌==◌, Bool, true, false, not, cond, ◌&&◌, ◌||◌, if◌then◌else◌, List, [], ◌∷◌, ◌++◌, length, filter, fold, Some, None, Option, IfSome, is_some, Ordering, Less, Equal, Greater, is_eq, nat_cmp, refl, sym, ap, ◌∙◌, subst, arith, true≢false}
use Rattle.std.specs.List.{filter_map, cons_option, AllByRecursion}
use Rattle.std.specs.Ordering.{eq_by_cmp, is_lt, ordering_then}
use Rattle.std.proofs.lemmas.Cmp.{tied_itself}
use Rattle.std.proofs.lemmas.Map.Views.{tells_apart}
use Rattle.std.proofs.lemmas.Bool.Decides.{nat_tests}
use Rattle.std.specs.FinMap.Entries.{is_some-find, by_order, find-where_key, find-put}
use Rattle.rep_model.proofs.Greatest.{has, greatest-has, same_greatest}
use Rattle.std.specs.FinMap.{find, put}
use Rattle.sn_session.specs.declared.session.Session.{Session}
use Rattle.sn_session.specs.declared.change.SessionOp.{SessionOp}
use Rattle.rep_op.specs.declared.op.Stamp.{Stamp}
use Rattle.rep_op.specs.Orders.{stamp_cmp, operation_cmp}
use Rattle.rep_model.specs.Views.{greatest, greater, take_stamp, names, gapless, then_more, session_made, after_change}
use Rattle.rep_model.specs.Keep.{is_below}
use Rattle.rep_model.proofs.Readers.{operation_total, operation_exact, stamp_total, stamp_exact}
use Rattle.rep_log.specs.Logs.{visible_in, history_in, IsFoldedOf, IsKeptIn}
use Rattle.rep_shared.specs.inner.Replays.{IsReplayed}

Entry : Type 0
Entry = (Stamp × ℕ) × SessionOp

-- ---- where more is there, the prefix goes on

-- what stands in `at` stands in `more`
abbrev pub Grows : (at more : ℕ → Option SessionOp) → Type 0
Grows at more = (k : ℕ) → IfSome (at k) (λ x. more k ≡ Some x)

gapless_grow : (at more : ℕ → Option SessionOp) → Grows at more → (room k : ℕ) → gapless more room k ≡ gapless at room k ++ gapless more (room - length (gapless at room k)) (k + length (gapless at room k))
unfolding gapless
gapless_grow at more h zero k = refl
gapless_grow at more h (suc room) k =
    elim (at k) as (λ o. IfSome o (λ x. more k ≡ Some x) → gapless more (suc room) k ≡ then_more o (gapless at room (k + 1)) ++ gapless more (suc room - length (then_more o (gapless at room (k + 1)))) (k + length (then_more o (gapless at room (k + 1))))) [
      | None ↦ λ _. λ i. gapless more ((let e : suc room ≡ suc room - 0 = omega arith in e) i) ((let e : k ≡ k + 0 = omega arith in e) i)
      | Some x ↦ λ is.
          let n = length (gapless at room (k + 1)) in
          ap (λ o. then_more o (gapless more room (k + 1))) is
          ∙ ap (λ rest. x ∷ rest) (gapless_grow at more h room (k + 1)
          ∙ (λ i. gapless at room (k + 1) ++ gapless more ((let e : room - n ≡ suc room - suc n = omega arith in e) i) ((let e : (k + 1) + n ≡ k + suc n = omega arith in e) i)))
    ] (h k)

pub gapless_short : (at : ℕ → Option SessionOp) (room k : ℕ) → length (gapless at room k) ≤ room
unfolding gapless
gapless_short at zero k = omega arith
gapless_short at (suc room) k = elim (at k) as (λ o. length (then_more o (gapless at room (k + 1))) ≤ suc room) [
  | None ↦ omega arith
  | Some x ↦ omega (arith, gapless_short at room (k + 1))
]

fold_append : {A B : Type 0} (f : B → A → B) (b : B) (xs ys : List A) → fold f b (xs ++ ys) ≡ fold f (fold f b xs) ys
fold_append f b [] ys = refl
fold_append f b (x ∷ xs) ys = fold_append f (f b x) xs ys

length_append : {A : Type 0} (xs ys : List A) → length (xs ++ ys) ≡ length xs + length ys
length_append [] ys = omega arith
length_append (x ∷ xs) ys = let e = length_append xs ys in omega (arith, e)

pub replayed_grown : (at more : ℕ → Option SessionOp) → Grows at more → (session : Option Session) (n : ℕ) → n ≡ length (gapless at 256 0) → session ≡ session_made (gapless at 256 0) → IsReplayed more session n
replayed_grown at more h session n is made =
    let e = gapless_grow at more h 256 0 in
    let m = length (gapless at 256 0) in
    let from : gapless more (256 - m) (0 + m) ≡ gapless more (256 - n) n = λ i. gapless more (256 - sym is i) ((let z : 0 + m ≡ n = omega (arith, is) in z) i) in
    let all : gapless more 256 0 ≡ gapless at 256 0 ++ gapless more (256 - n) n = e ∙ ap (λ rest. gapless at 256 0 ++ rest) from in
    record {
      prefix = ap length all ∙ length_append (gapless at 256 0) (gapless more (256 - n) n) ∙ ap (λ k. k + length (gapless more (256 - n) n)) (sym is);
      made = ap session_made all ∙ fold_append after_change None (gapless at 256 0) (gapless more (256 - n) n) ∙ ap (λ s. fold after_change s (gapless more (256 - n) n)) (sym made);
    }

-- ---- the visible stamp

at_zero : (r : Ordering) (k : ℕ) → is_eq (ordering_then r (nat_cmp 0 k)) ≡ (is_eq r && (k == 0))
at_zero Less k = refl
at_zero Equal k = grind (arith, nat_tests)
at_zero Greater k = refl

and_true : (b : Bool) → b ≡ (b && true)
and_true true = refl
and_true false = refl

and_false : (b : Bool) → false ≡ (b && false)
and_false true = refl
and_false false = refl

has_zero : (s : Stamp) (ns : List (Stamp × ℕ)) → has stamp_cmp s (filter_map take_stamp ns) ≡ has operation_cmp (s, 0) ns
has_zero s [] = refl
has_zero s (n ∷ ns) =
    let rest = has_zero s ns in
    elim (n.1 == 0) as (λ b. has stamp_cmp s (cons_option (if b then Some n.0 else None) (filter_map take_stamp ns)) ≡ ((is_eq (stamp_cmp s n.0) && b) || has operation_cmp (s, 0) ns)) [
      | true ↦ λ i. and_true (is_eq (stamp_cmp s n.0)) i || rest i
      | false ↦ rest ∙ ap (λ b. b || has operation_cmp (s, 0) ns) (and_false (is_eq (stamp_cmp s n.0)))
    ] ∙ ap (λ b. b || has operation_cmp (s, 0) ns) (sym (at_zero (stamp_cmp s n.0) n.1))

takes_in : List ((Stamp × ℕ) × SessionOp) → List Stamp
takes_in es = filter_map take_stamp (names es)

has_take_in : (s : Stamp) (es : List ((Stamp × ℕ) × SessionOp)) → has stamp_cmp s (takes_in es) ≡ is_some (find operation_cmp (s, 0) es)
unfolding takes_in
has_take_in s es = has_zero s (names es) ∙ sym (is_some-find operation_cmp (s, 0) es)

kept_some : {X : Type 0} (b : Bool) (x : Option X) → is_some (cond b x None) ≡ true → is_some x ≡ true
kept_some true x e = e
kept_some false x e = absurd (true≢false (sym e))

not_below_itself : (s : Stamp) → is_below s (Some s) ≡ false
not_below_itself s = ap is_lt (tied_itself stamp_total s)

-- what is kept has the visible stamp
pub kept_visible : (es others : List ((Stamp × ℕ) × SessionOp)) (stamp : Option Stamp) → IsKeptIn es others stamp → stamp ≡ visible_in others
unfolding takes_in
kept_visible es others stamp h = h.visible ∙ sym (same_greatest stamp_cmp stamp_total stamp_exact (takes_in others) (takes_in es)
    (λ s there. has_take_in s es ∙ kept_some (not (is_below s stamp)) (find operation_cmp (s, 0) es) (sym (ap is_some (h.found (s, 0))) ∙ sym (has_take_in s others) ∙ there))
    (elim (visible_in es) as (λ v. stamp ≡ v → IfSome v (λ g. has stamp_cmp g (takes_in es) ≡ true) → IfSome v (λ g. has stamp_cmp g (takes_in others) ≡ true)) [
      | None ↦ λ _ _. tt
      | Some g ↦ λ is there. has_take_in g others ∙ ap is_some (h.found (g, 0)) ∙ ap (λ b. is_some (cond (not b) (find operation_cmp (g, 0) es) None)) (ap (is_below g) is ∙ not_below_itself g) ∙ sym (has_take_in g es) ∙ there
    ] h.visible (greatest-has stamp_cmp stamp_total (takes_in es))))

greater_below : (s : Stamp) (v : Option Stamp) → is_below s v ≡ true → greater stamp_cmp s v ≡ v
greater_below s None e = absurd (true≢false (sym e))
greater_below s (Some g) e = ap (λ b. if b then Some g else Some s) e

greater_above : (s : Stamp) (v : Option Stamp) → is_below s v ≡ false → greater stamp_cmp s v ≡ Some s
greater_above s None e = refl
greater_above s (Some g) e = ap (λ b. if b then Some g else Some s) e

visible_more : (s : Stamp) (k : ℕ) (x : SessionOp) (es : List ((Stamp × ℕ) × SessionOp)) → visible_in (((s, k), x) ∷ es) ≡ (if k == 0 then greater stamp_cmp s (visible_in es) else visible_in es)
visible_more s k x es = elim (k == 0) as (λ b. greatest stamp_cmp (cons_option (if b then Some s else None) (filter_map take_stamp (names es))) ≡ (if b then greater stamp_cmp s (visible_in es) else visible_in es)) [ true ↦ refl | false ↦ refl ]

-- ---- one operation more

abbrev pub NoneBelow : Option Stamp → List ((Stamp × ℕ) × SessionOp) → Type 0
NoneBelow stamp es = AllByRecursion (λ (e : (Stamp × ℕ) × SessionOp). is_below e.0.0 stamp ≡ false) es

absent_below : (stamp : Option Stamp) (name : Stamp × ℕ) (es : List ((Stamp × ℕ) × SessionOp)) → NoneBelow stamp es → is_below name.0 stamp ≡ true → find operation_cmp name es ≡ None
absent_below stamp name [] h low = refl
absent_below stamp name (e ∷ es) h low =
    elim (eq_by_cmp operation_cmp name e.0) as (λ b. eq_by_cmp operation_cmp name e.0 ≡ b → cond b (Some e.1) (find operation_cmp name es) ≡ None) [
      | true ↦ λ t. absurd (true≢false (sym low ∙ ap (λ (n : Stamp × ℕ). is_below n.0 stamp) (tells_apart operation_exact name e.0 t) ∙ h.0))
      | false ↦ λ _. absent_below stamp name es h.1 low
    ] refl

-- all of them are kept where none is below
pub all_kept : (stamp : Option Stamp) (es others : List ((Stamp × ℕ) × SessionOp)) → NoneBelow stamp es → ((name : Stamp × ℕ) → find operation_cmp name others ≡ find operation_cmp name es) → (name : Stamp × ℕ) → find operation_cmp name others ≡ cond (not (is_below name.0 stamp)) (find operation_cmp name es) None
all_kept stamp es others h same name =
    elim (is_below name.0 stamp) as (λ b. is_below name.0 stamp ≡ b → find operation_cmp name others ≡ cond (not b) (find operation_cmp name es) None) [
      | true ↦ λ low. same name ∙ absent_below stamp name es h low
      | false ↦ λ _. same name
    ] refl

module _ (s : Stamp) (k : ℕ) (x : SessionOp) (es : List ((Stamp × ℕ) × SessionOp)) (stamp : Option Stamp) (visible : stamp ≡ visible_in es) (none : NoneBelow stamp es) where
  -- one that is below changes nothing
  pub kept_below : is_below s stamp ≡ true → IsKeptIn (((s, k), x) ∷ es) es stamp
  kept_below low = record {
    visible = visible ∙ sym (visible_more s k x es ∙ ap (λ v. if k == 0 then v else visible_in es) (greater_below s (visible_in es) (ap (is_below s) (sym visible) ∙ low)) ∙ both_ways (k == 0));
    found = λ name. elim (is_below name.0 stamp) as (λ b. is_below name.0 stamp ≡ b → find operation_cmp name es ≡ cond (not b) (cond (eq_by_cmp operation_cmp name (s, k)) (Some x) (find operation_cmp name es)) None) [
      | true ↦ λ is. absent_below stamp name es none is
      | false ↦ λ is. elim (eq_by_cmp operation_cmp name (s, k)) as (λ b. eq_by_cmp operation_cmp name (s, k) ≡ b → find operation_cmp name es ≡ cond b (Some x) (find operation_cmp name es)) [
        | true ↦ λ t. absurd (true≢false (sym low ∙ ap (λ (n : Stamp × ℕ). is_below n.0 stamp) (sym (tells_apart operation_exact name (s, k) t)) ∙ is))
        | false ↦ λ _. refl
      ] refl
    ] refl;
  }
    where
      both_ways : (b : Bool) → (if b then visible_in es else visible_in es) ≡ visible_in es
      both_ways true = refl
      both_ways false = refl

-- ---- an operation that is not below the visible stamp

insert_found : (name : Stamp × ℕ) (x : SessionOp) (es more : List ((Stamp × ℕ) × SessionOp)) → more ≡ put operation_cmp name x es → (q : Stamp × ℕ) → find operation_cmp q more ≡ find operation_cmp q ((name, x) ∷ es)
insert_found name x es more is q = ap (find operation_cmp q) is ∙ find-put operation_cmp operation_total q name x es

none_below_put : (stamp : Option Stamp) (name : Stamp × ℕ) (x : SessionOp) (es : List ((Stamp × ℕ) × SessionOp)) → is_below name.0 stamp ≡ false → NoneBelow stamp es → NoneBelow stamp (put operation_cmp name x es)
none_below_put stamp name x [] here h = (here, tt)
none_below_put stamp name x (e ∷ es) here h =
    elim (operation_cmp name e.0) as (λ r. operation_cmp name e.0 ≡ r → NoneBelow stamp (by_order r ((name, x) ∷ e ∷ es) ((e.0, x) ∷ es) (e ∷ put operation_cmp name x es))) [
      | Less ↦ λ _. (here, h)
      | Equal ↦ λ _. (h.0, h.1)
      | Greater ↦ λ _. (h.0, none_below_put stamp name x es here h.1)
    ] refl

kept_none_below : (stamp : Option Stamp) (es : List ((Stamp × ℕ) × SessionOp)) → NoneBelow stamp (filter (λ e. not (is_below e.0.0 stamp)) es)
kept_none_below stamp [] = tt
kept_none_below stamp (e ∷ es) =
    elim (is_below e.0.0 stamp) as (λ b. is_below e.0.0 stamp ≡ b → NoneBelow stamp (cond (not b) (e ∷ filter (λ e. not (is_below e.0.0 stamp)) es) (filter (λ e. not (is_below e.0.0 stamp)) es))) [
      | true ↦ λ _. kept_none_below stamp es
      | false ↦ λ is. (is, kept_none_below stamp es)
    ] refl

module _ (s : Stamp) (k : ℕ) (x : SessionOp) (es more : List ((Stamp × ℕ) × SessionOp)) (stamp : Option Stamp) (visible : stamp ≡ visible_in es) (none : NoneBelow stamp es)
    (high : is_below s stamp ≡ false) (is : more ≡ put operation_cmp (s, k) x es) where
  abbrev grown : List ((Stamp × ℕ) × SessionOp)
  grown = ((s, k), x) ∷ es

  -- a Take: its stamp is the visible one from now on
  pub kept_take : (kept : List ((Stamp × ℕ) × SessionOp)) → k ≡ 0 → kept ≡ filter (λ e. not (is_below e.0.0 (Some s))) more → IsKeptIn grown kept (Some s)
  kept_take kept zeroth are = record {
    visible = sym (visible_more s k x es ∙ ap (λ n. if n == 0 then greater stamp_cmp s (visible_in es) else visible_in es) zeroth ∙ greater_above s (visible_in es) (ap (is_below s) (sym visible) ∙ high));
    found = λ name. ap (find operation_cmp name) are
        ∙ find-where_key operation_cmp (λ (n : Stamp × ℕ). not (is_below n.0 (Some s))) name (λ n t. ap (λ (n : Stamp × ℕ). not (is_below n.0 (Some s))) (sym (operation_exact name n t))) more
        ∙ ap (λ o. cond (not (is_below name.0 (Some s))) o None) (insert_found (s, k) x es more is name);
  }

  pub none_below_take : (kept : List ((Stamp × ℕ) × SessionOp)) → kept ≡ filter (λ e. not (is_below e.0.0 (Some s))) more → NoneBelow (Some s) kept
  none_below_take kept are = subst (NoneBelow (Some s)) (sym are) (kept_none_below (Some s) more)

  none_below_grown : NoneBelow stamp more
  none_below_grown = subst (NoneBelow stamp) (sym is) (none_below_put stamp (s, k) x es high none)

  -- any other: the visible stamp stays
  pub kept_other : (k == 0) ≡ false → IsKeptIn grown more stamp
  kept_other later = record {
    visible = visible ∙ sym (visible_more s k x es ∙ ap (λ b. if b then greater stamp_cmp s (visible_in es) else visible_in es) later);
    found = all_kept stamp grown more (high, none) (insert_found (s, k) x es more is);
  }

  pub folded_other : (k == 0) ≡ false → (n : ℕ) (session : Option Session) → n ≡ length (history_in more stamp) → session ≡ session_made (history_in more stamp) → IsFoldedOf stamp n session more
  folded_other later n session a b = record { visible = kept_visible grown more stamp (kept_other later); prefix = a; session = b; none_below = none_below_grown }

  pub folded_take : (kept : List ((Stamp × ℕ) × SessionOp)) → k ≡ 0 → kept ≡ filter (λ e. not (is_below e.0.0 (Some s))) more → (n : ℕ) (session : Option Session) → n ≡ length (history_in kept (Some s)) → session ≡ session_made (history_in kept (Some s)) → IsFoldedOf (Some s) n session kept
  folded_take kept zeroth are n session a b = record { visible = kept_visible grown kept (Some s) (kept_take kept zeroth are); prefix = a; session = b; none_below = none_below_take kept are }

  -- what was there is there
  pub grows : find operation_cmp (s, k) es ≡ None → (seen : Stamp) → Grows (λ j. find operation_cmp (seen, j) es) (λ j. find operation_cmp (seen, j) more)
  grows fresh seen j =
      subst (λ o. IfSome (find operation_cmp (seen, j) es) (λ y. o ≡ Some y)) (sym (insert_found (s, k) x es more is (seen, j)))
      (elim (eq_by_cmp operation_cmp (seen, j) (s, k)) as (λ b. eq_by_cmp operation_cmp (seen, j) (s, k) ≡ b → IfSome (find operation_cmp (seen, j) es) (λ y. cond b (Some x) (find operation_cmp (seen, j) es) ≡ Some y)) [
        | true ↦ λ t. subst (λ o. IfSome o (λ y. Some x ≡ Some y)) (sym (ap (λ n. find operation_cmp n es) (tells_apart operation_exact (seen, j) (s, k) t) ∙ fresh)) tt
        | false ↦ λ _. itself (find operation_cmp (seen, j) es)
      ] refl)
    where
      itself : (o : Option SessionOp) → IfSome o (λ y. o ≡ Some y)
      itself None = tt
      itself (Some y) = refl
