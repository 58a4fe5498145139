-- What the client's view says while the operations of a step are written.
use Rattle.std.proofs.Common.{◌≡◌, ℕ, ◌+◌, ◌^◌, ◌<◌, ◌≤◌, true, false, if◌then◌else◌, nat_lt, List, [], ◌∷◌, ◌++◌, length, Option, Some, None, is_some, refl, sym, ap, ◌∙◌, arith, le_antisymm}
use Rattle.std.proofs.lemmas.Option.{none-some, same_Some}
use Rattle.std.specs.Ordering.{is_lt}
use Rattle.sn_session.specs.declared.session.Session.{Session}
use Rattle.sn_session.specs.declared.change.SessionOp.{SessionOp}
use Rattle.sn_session.specs.declared.change.SessionOp.TheVariants.{Take}
use Rattle.sn_session.specs.Session.{applied}
use Rattle.rep_op.specs.declared.op.Stamp.{Stamp}
use Rattle.rep_op.specs.declared.op.Op.{Op}
use Rattle.rep_op.specs.Orders.{stamp_cmp}
use Rattle.rep_op.specs.Sets.{operation_at}
use Rattle.rep_model.specs.Views.{visible, gapless, history_at, history, after_change, session_made}
use Rattle.rep_model.specs.Fresh.{one_more, greatest_epoch, next_epoch}
use Rattle.rep_model.proofs.Readers.{stamp_total, stamp_exact, takes, has_take}
use Rattle.rep_model.proofs.Fresh.{epoch-reaches}
use Rattle.rep_model.proofs.Thin.{not_below_itself}
use Rattle.sn_plan.specs.Flush.{stamp_of}
use Rattle.sn_plan.proofs.Lists.{fold_one_more}
use Rattle.row_laws.proofs.Gapless.{gapless-one, gapless-more, greatest-is, below-epoch}
use Rattle.sn_local.proofs.Entries.{one_more_op, at_own, at_other, at_either, by_some, visible-same, visible-there, epochs-more, epochs-grow}

pub one_more-is : (n e : ℕ) → one_more n ≡ Some e → n + 1 ≡ e
one_more-is n e h = elim (nat_lt (n + 1) (2 ^ 64)) as (λ b. (if b then Some (n + 1) else None) ≡ Some e → n + 1 ≡ e) [
  | true ↦ λ s. same_Some (n + 1) e s
  | false ↦ λ s. absurd (none-some e s)
] h

-- of the set T the client's view has the stamp of that epoch, as many operations as the counter, this session; nothing stands
-- after, and the next epoch is next
pub record At (g : ℕ) (c : List ℕ) (T : List Op) (epoch counter : ℕ) (next : Option ℕ) (session : Session) : Type 0 where
  pub numbered : next ≡ next_epoch c T
  pub seen : visible c T ≡ Some (stamp_of epoch g)
  pub begun : 1 ≤ counter
  pub prefix : length (history c T) ≡ counter
  pub made : session_made (history c T) ≡ Some session
  pub behind : (k : ℕ) → counter ≤ k → operation_at c T (stamp_of epoch g, k) ≡ None

pub history-own : (c : List ℕ) (T : List Op) (s : Stamp) → visible c T ≡ Some s → history c T ≡ gapless (λ k. operation_at c T (s, k)) 256 0
history-own c T s e = ap (history_at (operation_at c T)) e

-- names under one stamp differ where their counters do
counters : (s : Stamp) (k n : ℕ) → ¬ (k ≡ n) → ¬ (◌≡◌ {A = Stamp × ℕ} (s, k) (s, n))
counters s k n h e = h (ap (λ (m : Stamp × ℕ). m.1) e)

module _ (g : ℕ) (c : List ℕ) (T : List Op) (epoch counter : ℕ) (next : Option ℕ) (session : Session) (change : SessionOp) (lt : counter < 256) (at : At g c T epoch counter next session) where
  abbrev own : Stamp
  own = stamp_of epoch g

  abbrev longer : List Op
  longer = one_more_op c T own counter change

  others : (k : ℕ) → ¬ (k ≡ counter) → operation_at c longer (own, k) ≡ operation_at c T (own, k)
  others k h = at_other c T own counter change (own, k) (counters own k counter h)

  here : operation_at c longer (own, counter) ≡ Some change
  here = at_own c T own counter change (at.behind counter (omega arith))

  seen-more : visible c longer ≡ Some own
  seen-more = visible-same c longer T (λ s. ap is_some (at_other c T own counter change (s, 0) (λ e. let z : 0 ≡ counter = ap (λ (m : Stamp × ℕ). m.1) e in omega (arith, z, at.begun)))) ∙ at.seen

  history-more : history c longer ≡ history c T ++ change ∷ []
  history-more = history-own c longer own seen-more
      ∙ gapless-more (λ k. operation_at c longer (own, k)) (λ k. operation_at c T (own, k)) change 256 0 counter
      (ap length (sym (history-own c T own at.seen)) ∙ at.prefix) lt
      (ap (λ k. operation_at c longer (own, k)) (plain counter) ∙ here)
      (ap (λ k. operation_at c longer (own, k)) after ∙ others (counter + 1) (λ e. omega (arith, e)) ∙ at.behind (counter + 1) (omega arith))
      (λ j h. others j (λ e. h (e ∙ sym (plain counter))))
      ∙ ap (λ h. h ++ change ∷ []) (sym (history-own c T own at.seen))
    where
      plain : (n : ℕ) → 0 + n ≡ n
      plain n = omega arith

      after : 0 + counter + 1 ≡ counter + 1
      after = omega arith

  pub another-at : At g c longer epoch (counter + 1) next (applied session change)
  another-at = record {
    numbered = at.numbered ∙ ap one_more (le_antisymm (epochs-grow c T own counter change) (epochs-more c T own counter change (greatest_epoch c T) (omega arith) (epoch-reaches c T (own, 0) (visible-there c T own at.seen))));
    seen = seen-more;
    begun = omega arith;
    prefix = ap length history-more ∙ longer-by-one (history c T) ∙ ap (λ n. n + 1) at.prefix;
    made = ap session_made history-more ∙ fold_one_more after_change None (history c T) change ∙ ap (λ s. after_change s change) at.made;
    behind = λ k le. others k (λ e. omega (arith, e, le)) ∙ at.behind k (omega (arith, le));
  }
    where
      longer-by-one : (h : List SessionOp) → length (h ++ change ∷ []) ≡ length h + 1
      longer-by-one [] = refl
      longer-by-one (x ∷ h) = let r = longer-by-one h in omega (arith, r)

module _ (g : ℕ) (c : List ℕ) (T : List Op) (e : ℕ) (session : Session) (is_next : next_epoch c T ≡ Some e) where
  abbrev new : Stamp
  new = stamp_of e g

  abbrev begun_anew : List Op
  begun_anew = one_more_op c T new 0 (Take session)

  above : greatest_epoch c T + 1 ≡ e
  above = one_more-is (greatest_epoch c T) e is_next

  pub unused : (s : Stamp) (k : ℕ) → s.epoch ≡ e → operation_at c T (s, k) ≡ None
  unused s k h = by_some (operation_at c T (s, k)) (λ there. let r : s.epoch ≤ greatest_epoch c T = epoch-reaches c T (s, k) there in omega (arith, r, above, h))

  first : operation_at c begun_anew (new, 0) ≡ Some (Take session)
  first = at_own c T new 0 (Take session) (unused new 0 refl)

  later : (k : ℕ) → 1 ≤ k → operation_at c begun_anew (new, k) ≡ None
  later k le = at_other c T new 0 (Take session) (new, k) (counters new k 0 (λ z. omega (arith, z, le))) ∙ unused new k refl

  not_above : (s : Stamp) → is_some (operation_at c begun_anew (s, 0)) ≡ true → is_lt (stamp_cmp new s) ≡ false
  not_above s h = at_either c T new 0 (Take session) (s, 0) h
      (λ there. let r : s.epoch ≤ greatest_epoch c T = epoch-reaches c T (s, 0) there in less new s (omega (arith, r, above)))
      (λ same. ap (λ (m : Stamp × ℕ). is_lt (stamp_cmp new m.0)) same ∙ itself)
    where
      itself : is_lt (stamp_cmp new new) ≡ false
      itself = not_below_itself new

      less : (a b : Stamp) → b.epoch < a.epoch → is_lt (stamp_cmp a b) ≡ false
      less a b h = elim (is_lt (stamp_cmp a b)) as (λ l. is_lt (stamp_cmp a b) ≡ l → l ≡ false) [ true ↦ λ e. absurd (omega (arith, h, below-epoch a b e)) | false ↦ λ _. refl ] refl

  seen-new : visible c begun_anew ≡ Some new
  seen-new = greatest-is stamp_cmp stamp_total stamp_exact new (takes c begun_anew) (has_take c begun_anew new ∙ ap is_some first) (λ s h. not_above s (sym (has_take c begun_anew s) ∙ h))

  history-new : history c begun_anew ≡ Take session ∷ []
  history-new = history-own c begun_anew new seen-new ∙ gapless-one (λ k. operation_at c begun_anew (new, k)) (Take session) 256 0 first (later 1 (omega arith)) (omega arith)

  pub taken-at : At g c begun_anew e 1 (one_more e) session
  taken-at = record {
    numbered = ap one_more (le_antisymm (epoch-reaches c begun_anew (new, 0) (ap is_some first)) (epochs-more c T new 0 (Take session) e (omega (arith, above)) (omega arith)));
    seen = seen-new;
    begun = omega arith;
    prefix = ap length history-new;
    made = ap session_made history-new;
    behind = later;
  }
