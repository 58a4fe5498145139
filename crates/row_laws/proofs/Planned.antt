-- What the numbering does with each change, and the parts of a plan.
use Rattle.std.proofs.Common.{◌≡◌, ℕ, ◌+◌, ◌^◌, ◌≤◌, true, false, if◌then◌else◌, nat_lt, List, [], ◌∷◌, ◌++◌, map, Option, Some, None, IfSome, option_map, option_and_then, refl, sym, ap, ◌∙◌, subst, append_assoc, append-nil, arith}
use Rattle.std.specs.List.{AllByRecursion, filter_map, cons_option}
use Rattle.std.proofs.lemmas.Option.{none-some, same_Some}
use Rattle.std.proofs.lemmas.List.Elements.{filter_map-append}
use Rattle.sn_session.specs.declared.session.Session.{Session}
use Rattle.sn_session.specs.declared.change.SessionOp.{SessionOp}
use Rattle.sn_session.specs.declared.change.SessionOp.TheVariants.{Take}
use Rattle.rep_op.specs.declared.op.Op.{Op}
use Rattle.rep_op.specs.declared.op.Op.TheVariants.{Session as OfSession, Put as OfPut, Ack, Retain as OfRetain}
use Rattle.rep_model.specs.declared.view.ClientView.{ClientView}
use Rattle.rep_model.specs.Fresh.{one_more}
use Rattle.sn_plan.specs.declared.draft.NewPut.{NewPut}
use Rattle.sn_plan.specs.declared.draft.Posted.{Posted}
use Rattle.sn_plan.specs.declared.plan.Plan.{Plan}
use Rattle.sn_plan.specs.Drafts.{Drafted}
use Rattle.sn_plan.specs.Numbering.{Written, another, taken_at, taken, counted, write, changes_written, start_of, put_at_seq, with_puts, handed_at_seq, with_handed, retain_at_clock, with_retain, numbered, ack_of, plan_with, rest_of, planned}
use Rattle.sn_plan.proofs.Lists.{and_then-some, map-some, all-append}

-- P holds before a change, Q after it, whether it is written under the next counter or is a Take under the next epoch
module _ (c : List ℕ) (g : ℕ) (P Q : Written → Type 0)
    (weaken : (w : Written) → Q w → P w)
    (by_another : (change : SessionOp) (w : Written) → nat_lt w.counter 256 ≡ true → P w → Q (another c g change w))
    (by_taken : (session : Session) (w : Written) (e : ℕ) → w.next ≡ Some e → P w → Q (taken_at c g session w e)) where
  taken-gives : (session : Session) (w x : Written) → P w → taken c g session w ≡ Some x → Q x
  taken-gives session w x p e =
      let m = map-some (taken_at c g session w) w.next x e in
      subst Q m.2 (by_taken session w m.0 m.1 p)

  counted-gives : (change : SessionOp) (w x : Written) → P w → counted c g change w ≡ Some x → Q x
  counted-gives change w x p e =
      elim (nat_lt w.counter 256) as (λ b. nat_lt w.counter 256 ≡ b → (if b then Some (another c g change w) else option_map (another c g change) (taken c g w.session w)) ≡ Some x → Q x) [
        | true ↦ λ lt h. subst Q (same_Some (another c g change w) x h) (by_another change w lt p)
        | false ↦ λ _ h.
            let m = map-some (another c g change) (taken c g w.session w) x h in
            let n = map-some (taken_at c g w.session w) w.next m.0 m.1 in
            subst Q m.2 (by_another change m.0 (ap (λ (y : Written). nat_lt y.counter 256) (sym n.2)) (weaken m.0 (taken-gives w.session w m.0 p m.1)))
      ] refl e

  write-gives : (change : SessionOp) (w x : Written) → P w → write c g change w ≡ Some x → Q x
  unfolding write
  write-gives (Take session) w x p e = taken-gives session w x p e
  write-gives change w x p e = counted-gives change w x p e

  pub written-keeps : (changes : List SessionOp) (w x : Written) → Q w → changes_written c g changes w ≡ Some x → Q x
  written-keeps [] w x q e = subst Q (same_Some w x e) q
  written-keeps (change ∷ rest) w x q e =
      let m = and_then-some (changes_written c g rest) (write c g change w) x e in
      written-keeps rest m.0 x (write-gives change w m.0 (weaken w q) m.1) m.2

  pub written-gives : (change : SessionOp) (rest : List SessionOp) (w x : Written) → P w → changes_written c g (change ∷ rest) w ≡ Some x → Q x
  written-gives change rest w x p e =
      let m = and_then-some (changes_written c g rest) (write c g change w) x e in
      written-keeps rest m.0 x (write-gives change w m.0 p m.1) m.2

-- a message of the gateway's, under a sequence number of its client from the next one on; what the gateway retained, under the next clock of its topic
abbrev pub IsNumbered : ℕ → (List ℕ → Option ℕ) → (List ℕ → Option ℕ) → Op → Type 0
IsNumbered g seq clock (OfSession d stamp counter change) = ⊥
IsNumbered g seq clock (OfPut d p) = (p.origin ≡ g) × ((n : ℕ) × (seq d ≡ Some n) × (n ≤ p.seq))
IsNumbered g seq clock (Ack d origin first last) = ⊥
IsNumbered g seq clock (OfRetain topic kept) = (kept.gateway ≡ g) × (clock topic ≡ Some kept.clock)

-- the number after one is no less
pub no_less : (m n : ℕ) → m ≤ n → IfSome (one_more n) (λ k. m ≤ k)
no_less m n h = elim (nat_lt (n + 1) (2 ^ 64)) as (λ b. IfSome {T = ℕ} (if b then Some (n + 1) else None) (λ k. m ≤ k)) [
  | true ↦ omega (arith, h)
  | false ↦ tt
]

-- a reader that passes over the last operation
one-passed : {X : Type 0} (f : Op → Option X) (before : List Op) (op : Op) → f op ≡ None → filter_map f (before ++ op ∷ []) ≡ filter_map f before
one-passed f before op h = filter_map-append f before (op ∷ []) ∙ ap (λ o. filter_map f before ++ cons_option o []) h ∙ append-nil (filter_map f before)

module _ (g : ℕ) (seq clock : List ℕ → Option ℕ) where
  -- more operations, all of them numbered
  abbrev pub IsMore : List Op → List Op → Type 0
  IsMore before after = (more : List Op) × (after ≡ before ++ more) × AllByRecursion (IsNumbered g seq clock) more

  none-more : (before after : List Op) → Some before ≡ Some after → IsMore before after
  none-more before after e = ([], sym (same_Some before after e) ∙ sym (append-nil before), tt)

  pub more-again : (a b c : List Op) → IsMore a b → IsMore b c → IsMore a c
  more-again a b c h k =
      (h.0 ++ k.0, k.1 ∙ ap (λ xs. xs ++ k.0) h.1 ∙ append_assoc a h.0 k.0, all-append (IsNumbered g seq clock) h.0 k.0 h.2 k.2)

  pub puts-more : (moment : ℕ) (puts : List NewPut) (before after : List Op) → with_puts g moment seq puts before ≡ Some after → IsMore before after
  puts-more moment [] before after e = none-more before after e
  puts-more moment (p ∷ rest) before after e =
      let m = and_then-some (λ n. with_puts g moment seq rest (before ++ put_at_seq g moment p n ∷ [])) (seq p.client) after e in
      let r = puts-more moment rest (before ++ put_at_seq g moment p m.0 ∷ []) after m.2 in
      (put_at_seq g moment p m.0 ∷ r.0, r.1 ∙ append_assoc before (put_at_seq g moment p m.0 ∷ []) r.0, ((refl, (m.0, m.1, omega arith)), r.2))

  pub retain-more : (retain : Option Posted) (before after : List Op) → with_retain g clock retain before ≡ Some after → IsMore before after
  retain-more None before after e = none-more before after e
  retain-more (Some p) before after e =
      let n = map-some (λ n. before ++ retain_at_clock g p n ∷ []) (clock p.topic) after e in
      (retain_at_clock g p n.0 ∷ [], sym n.2, ((refl, n.1), tt))

  -- readers that pass over what is put, or retained
  pub puts-passed : {X : Type 0} (moment : ℕ) (f : Op → Option X) → ((p : NewPut) (n : ℕ) → f (put_at_seq g moment p n) ≡ None) → (puts : List NewPut) (before after : List Op) → with_puts g moment seq puts before ≡ Some after
      → filter_map f after ≡ filter_map f before
  puts-passed moment f h [] before after e = ap (filter_map f) (sym (same_Some before after e))
  puts-passed moment f h (p ∷ rest) before after e =
      let m = and_then-some (λ n. with_puts g moment seq rest (before ++ put_at_seq g moment p n ∷ [])) (seq p.client) after e in
      puts-passed moment f h rest (before ++ put_at_seq g moment p m.0 ∷ []) after m.2 ∙ one-passed f before (put_at_seq g moment p m.0) (h p m.0)

  pub retain-passed : {X : Type 0} (f : Op → Option X) → ((p : Posted) (n : ℕ) → f (retain_at_clock g p n) ≡ None) → (retain : Option Posted) (before after : List Op) → with_retain g clock retain before ≡ Some after
      → filter_map f after ≡ filter_map f before
  retain-passed f h None before after e = ap (filter_map f) (sym (same_Some before after e))
  retain-passed f h (Some p) before after e =
      let n = map-some (λ n. before ++ retain_at_clock g p n ∷ []) (clock p.topic) after e in
      ap (filter_map f) (sym n.2) ∙ one-passed f before (retain_at_clock g p n.0) (h p n.0)

  module _ (c : List ℕ) where
    -- a reader that passes over what is handed
    pub handed-passed : {X : Type 0} (moment : ℕ) (f : Op → Option X) → ((p : Posted) (n : ℕ) → f (handed_at_seq g moment c p n) ≡ None) → (handed : List Posted) (next : Option ℕ) (before after : List Op)
        → with_handed g moment c next handed before ≡ Some after → filter_map f after ≡ filter_map f before
    handed-passed moment f h [] next before after e = ap (filter_map f) (sym (same_Some before after e))
    handed-passed moment f h (p ∷ rest) None before after e = absurd (none-some after e)
    handed-passed moment f h (p ∷ rest) (Some n) before after e =
        handed-passed moment f h rest (one_more n) (before ++ handed_at_seq g moment c p n ∷ []) after e ∙ one-passed f before (handed_at_seq g moment c p n) (h p n)

    -- a number from the next one of the client on
    abbrev IsFrom : ℕ → Type 0
    IsFrom n = (m : ℕ) × (seq c ≡ Some m) × (m ≤ n)

    later-from : (n : ℕ) → IsFrom n → (next : Option ℕ) → IfSome next (λ k. n ≤ k) → IfSome next IsFrom
    later-from n from None h = tt
    later-from n from (Some k) h = let least = from.2 in let more : n ≤ k = h in (from.0, from.1, omega (arith, least, more))

    handed-from : (moment : ℕ) (handed : List Posted) (next : Option ℕ) → IfSome next IsFrom → (before after : List Op) → with_handed g moment c next handed before ≡ Some after → IsMore before after
    handed-from moment [] next from before after e = none-more before after e
    handed-from moment (p ∷ rest) None from before after e = absurd (none-some after e)
    handed-from moment (p ∷ rest) (Some n) from before after e =
        let r = handed-from moment rest (one_more n) (later-from n from (one_more n) (no_less n n (omega arith))) (before ++ handed_at_seq g moment c p n ∷ []) after e in
        (handed_at_seq g moment c p n ∷ r.0, r.1 ∙ append_assoc before (handed_at_seq g moment c p n ∷ []) r.0, ((refl, from), r.2))

    first-from : (next : Option ℕ) → seq c ≡ next → IfSome next IsFrom
    first-from None e = tt
    first-from (Some n) e = (n, e, omega arith)

    pub handed-more : (moment : ℕ) (handed : List Posted) (before after : List Op) → with_handed g moment c (seq c) handed before ≡ Some after → IsMore before after
    handed-more moment handed before after e = handed-from moment handed (seq c) (first-from (seq c) refl) before after e

-- a plan is the session operations that were written, then the acknowledgements, what is handed, what is retained, and the messages
pub record Parts (g : ℕ) (c : List ℕ) (v : ClientView) (epoch : Option ℕ) (seq clock : List ℕ → Option ℕ) (d : Drafted) (ops : List Op) : Type 0 where
  pub w : Written
  pub handed : List Op
  pub kept : List Op
  pub is_written : changes_written c g d.changes (start_of g v epoch) ≡ Some w
  pub is_handed : with_handed g d.expires c (seq c) d.handed (w.ops ++ map (ack_of c) d.acks) ≡ Some handed
  pub is_kept : with_retain g clock d.retain handed ≡ Some kept
  pub is_numbered : with_puts g d.expires seq d.puts kept ≡ Some ops

module _ (g : ℕ) (c : List ℕ) (v : ClientView) (epoch : Option ℕ) (seq clock : List ℕ → Option ℕ) (d : Drafted) where
  pub planned-parts : (plan : Plan) → planned g c v epoch seq clock d ≡ Some plan → Parts g c v epoch seq clock d plan.ops
  unfolding planned
  planned-parts plan e =
      let m = and_then-some (rest_of g c seq clock d) (changes_written c g d.changes (start_of g v epoch)) plan e in
      let acks : List Op = m.0.ops ++ map (ack_of c) d.acks in
      let n = map-some (plan_with d) (numbered g c seq clock d acks) plan m.2 in
      let k = and_then-some (with_puts g d.expires seq d.puts) (option_and_then (with_retain g clock d.retain) (with_handed g d.expires c (seq c) d.handed acks)) n.0 n.1 in
      let h = and_then-some (with_retain g clock d.retain) (with_handed g d.expires c (seq c) d.handed acks) k.0 k.1 in
      record { w = m.0; handed = h.0; kept = k.0; is_written = m.1; is_handed = h.1; is_kept = h.2; is_numbered = k.2 ∙ ap (λ (p : Plan). Some p.ops) n.2 }

  -- behind the acknowledgements there are operations under new numbers alone
  pub parts-more : (ops : List Op) (p : Parts g c v epoch seq clock d ops) → IsMore g seq clock (p.w.ops ++ map (ack_of c) d.acks) ops
  parts-more ops p =
      more-again g seq clock (p.w.ops ++ map (ack_of c) d.acks) p.kept ops
      (more-again g seq clock (p.w.ops ++ map (ack_of c) d.acks) p.handed p.kept (handed-more g seq clock c d.expires d.handed (p.w.ops ++ map (ack_of c) d.acks) p.handed p.is_handed) (retain-more g seq clock d.retain p.handed p.kept p.is_kept))
      (puts-more g seq clock d.expires d.puts p.kept ops p.is_numbered)
