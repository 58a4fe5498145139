-- What is written in a step is what the client's view then says, and is written under fresh names.
use Rattle.std.proofs.Common.{◌≡◌, ℕ, ◌+◌, ◌≤◌, ◌==◌, true, false, if◌then◌else◌, nat_lt, List, [], ◌∷◌, ◌++◌, length, fold, Option, Some, None, option_map, is_some, unwrap_or, refl, sym, ap, ◌∙◌, subst, true≢false, append_assoc, append-nil, arith, eqb-true, ltb-true}
use Rattle.std.proofs.lemmas.Option.{same_Some}
use Rattle.sn_session.specs.declared.session.Session.{Session}
use Rattle.sn_session.specs.declared.change.SessionOp.{SessionOp}
use Rattle.sn_session.specs.declared.change.SessionOp.TheVariants.{Take}
use Rattle.sn_session.specs.Session.{applied, empty_session}
use Rattle.rep_op.specs.declared.op.Op.{Op}
use Rattle.rep_op.specs.declared.op.Op.TheVariants.{Session as OfSession}
use Rattle.rep_model.specs.Views.{visible, history, session_made, view}
use Rattle.rep_model.specs.Fresh.{one_more, next_epoch}
use Rattle.sn_plan.specs.Flush.{stamp_of, IsFlush}
use Rattle.sn_plan.specs.Numbering.{Written, another, taken_at, taken, counted, write, changes_written, start_of, own_counter, epoch_of}
use Rattle.sn_plan.specs.Own.{AreFresh}
use Rattle.sn_plan.proofs.Lists.{and_then-some, map-some}
use Rattle.row_laws.proofs.Reached.{At, another-at, taken-at, unused}
use Rattle.row_laws.proofs.Planned.{written-gives}

pub fresh-append : (S xs ys : List Op) → AreFresh S xs → AreFresh (S ++ xs) ys → AreFresh S (xs ++ ys)
fresh-append S [] ys f h = subst (λ T. AreFresh T ys) (append-nil S) h
fresh-append S (x ∷ xs) ys f h = (f.0, fresh-append (S ++ x ∷ []) xs ys f.1 (subst (λ T. AreFresh T ys) (sym (append_assoc S (x ∷ []) xs)) h))

-- before a change: the next epoch is next; where a counter is left the view is at it; what is written is fresh
pub record Ready (g : ℕ) (c : List ℕ) (S : List Op) (w : Written) : Type 0 where
  pub numbered : w.next ≡ next_epoch c (S ++ w.ops)
  pub at : nat_lt w.counter 256 ≡ true → At g c (S ++ w.ops) w.epoch w.counter w.next w.session
  pub fresh : AreFresh S w.ops

-- after a change: the view is at the counter
pub record Reached (g : ℕ) (c : List ℕ) (S : List Op) (w : Written) : Type 0 where
  pub at : At g c (S ++ w.ops) w.epoch w.counter w.next w.session
  pub fresh : AreFresh S w.ops

some-unwrap : {X : Type 0} (o : Option X) (d : X) → is_some o ≡ true → o ≡ Some (unwrap_or o d)
some-unwrap None d h = absurd (true≢false (sym h))
some-unwrap (Some x) d h = refl

begun-length : (h : List SessionOp) → is_some (session_made h) ≡ true → 1 ≤ length h
begun-length [] e = absurd (true≢false (sym e))
begun-length (x ∷ h) e = omega arith

module _ (g : ℕ) (c : List ℕ) (S : List Op) where
  by_another : (change : SessionOp) (w : Written) → nat_lt w.counter 256 ≡ true → Ready g c S w → Reached g c S (another c g change w)
  by_another change w lt r =
      let op : Op = OfSession c (stamp_of w.epoch g) w.counter change in
      record {
        at = subst (λ T. At g c T w.epoch (w.counter + 1) w.next (applied w.session change)) (append_assoc S w.ops (op ∷ [])) (another-at g c (S ++ w.ops) w.epoch w.counter w.next w.session change (ltb-true w.counter 256 lt) (r.at lt));
        fresh = fresh-append S w.ops (op ∷ []) r.fresh ((r.at lt).behind w.counter (omega arith), tt);
      }

  by_taken : (session : Session) (w : Written) (e : ℕ) → w.next ≡ Some e → Ready g c S w → Reached g c S (taken_at c g session w e)
  by_taken session w e is r =
      let op : Op = OfSession c (stamp_of e g) 0 (Take session) in
      let next : next_epoch c (S ++ w.ops) ≡ Some e = sym r.numbered ∙ is in
      record {
        at = subst (λ T. At g c T e 1 (one_more e) session) (append_assoc S w.ops (op ∷ [])) (taken-at g c (S ++ w.ops) e session next);
        fresh = fresh-append S w.ops (op ∷ []) r.fresh (unused g c (S ++ w.ops) e session next (stamp_of e g) 0 refl, tt);
      }

  still_ready : (w : Written) → Reached g c S w → Ready g c S w
  still_ready w r = record { numbered = r.at.numbered; at = λ _. r.at; fresh = r.fresh }

  start-at : IsFlush g c S → nat_lt (own_counter g (length (history c S)) (visible c S)) 256 ≡ true → At g c S (epoch_of (visible c S)) (own_counter g (length (history c S)) (visible c S)) (next_epoch c S) (unwrap_or (session_made (history c S)) empty_session)
  start-at flush lt =
      elim (visible c S) as (λ v. visible c S ≡ v → nat_lt (own_counter g (length (history c S)) v) 256 ≡ true → At g c S (epoch_of v) (own_counter g (length (history c S)) v) (next_epoch c S) (unwrap_or (session_made (history c S)) empty_session)) [
        | None ↦ λ _ h. absurd (true≢false (sym h))
        | Some stamp ↦ λ is. elim (stamp.gateway == g) as (λ b. (stamp.gateway == g) ≡ b → nat_lt (if b then length (history c S) else 256) 256 ≡ true → At g c S stamp.epoch (if b then length (history c S) else 256) (next_epoch c S) (unwrap_or (session_made (history c S)) empty_session)) [
          | true ↦ λ mine _.
              let gateway : stamp.gateway ≡ g = eqb-true stamp.gateway g mine in
              let same : stamp ≡ stamp_of stamp.epoch g = λ i. record { epoch = stamp.epoch; gateway = gateway i } in
              let seen : visible c S ≡ Some (stamp_of stamp.epoch g) = is ∙ ap Some same in
              let there : is_some (session_made (history c S)) ≡ true = flush.begun stamp.epoch seen in
              record {
                numbered = refl;
                seen = seen;
                begun = begun-length (history c S) there;
                prefix = refl;
                made = some-unwrap (session_made (history c S)) empty_session there;
                behind = λ k. flush.nothing_behind stamp.epoch k seen;
              }
          | false ↦ λ _ h. absurd (true≢false (sym h))
        ] refl
      ] refl lt

  start-ready : IsFlush g c S → Ready g c S (start_of g (view c S) (next_epoch c S))
  start-ready flush = record {
    numbered = ap (next_epoch c) (sym (append-nil S));
    at = λ lt. subst (λ T. At g c T (epoch_of (visible c S)) (own_counter g (length (history c S)) (visible c S)) (next_epoch c S) (unwrap_or (session_made (history c S)) empty_session)) (sym (append-nil S)) (start-at flush lt);
    fresh = tt;
  }

  pub written-reached : IsFlush g c S → (change : SessionOp) (rest : List SessionOp) (w : Written) → changes_written c g (change ∷ rest) (start_of g (view c S) (next_epoch c S)) ≡ Some w → Reached g c S w
  written-reached flush change rest w e = written-gives c g (Ready g c S) (Reached g c S) still_ready by_another by_taken change rest (start_of g (view c S) (next_epoch c S)) w (start-ready flush) e

  pub written-fresh : IsFlush g c S → (changes : List SessionOp) (w : Written) → changes_written c g changes (start_of g (view c S) (next_epoch c S)) ≡ Some w → AreFresh S w.ops
  written-fresh flush [] w e = subst (λ (x : Written). AreFresh S x.ops) (same_Some (start_of g (view c S) (next_epoch c S)) w e) tt
  written-fresh flush (change ∷ rest) w e = (written-reached flush change rest w e).fresh

-- the session so far is the one before with the changes applied
module _ (c : List ℕ) (g : ℕ) where
  taken-session : (session : Session) (w x : Written) → taken c g session w ≡ Some x → x.session ≡ session
  taken-session session w x e = let m = map-some (taken_at c g session w) w.next x e in ap (λ (y : Written). y.session) (sym m.2)

  counted-session : (change : SessionOp) (w x : Written) → counted c g change w ≡ Some x → x.session ≡ applied w.session change
  counted-session change w x e =
      elim (nat_lt w.counter 256) as (λ b. (if b then Some (another c g change w) else option_map (another c g change) (taken c g w.session w)) ≡ Some x → x.session ≡ applied w.session change) [
        | true ↦ λ h. ap (λ (y : Written). y.session) (sym (same_Some (another c g change w) x h))
        | false ↦ λ h.
            let m = map-some (another c g change) (taken c g w.session w) x h in
            ap (λ (y : Written). y.session) (sym m.2) ∙ ap (λ s. applied s change) (taken-session w.session w m.0 m.1)
      ] e

  write-session : (change : SessionOp) (w x : Written) → write c g change w ≡ Some x → x.session ≡ applied w.session change
  unfolding write
  write-session (Take session) w x e = taken-session session w x e
  write-session change w x e = counted-session change w x e

  pub written-session : (changes : List SessionOp) (w x : Written) → changes_written c g changes w ≡ Some x → x.session ≡ fold applied w.session changes
  written-session [] w x e = ap (λ (y : Written). y.session) (sym (same_Some w x e))
  written-session (change ∷ rest) w x e =
      let m = and_then-some (changes_written c g rest) (write c g change w) x e in
      written-session rest m.0 x m.2 ∙ ap (λ s. fold applied s rest) (write-session change w m.0 m.1)
