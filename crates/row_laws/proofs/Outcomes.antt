-- The set after a step: which operations of a client it has, and what its view then says.
use Rattle.std.proofs.Common.{◌≡◌, ℕ, if◌then◌else◌, List, [], ◌∷◌, ◌++◌, map, length, fold, Option, Some, None, unwrap_or, refl, sym, ap, ◌∙◌, append_assoc, append-nil}
use Rattle.std.specs.List.{AllByRecursion}
use Rattle.std.proofs.lemmas.Option.{same_Some}
use Rattle.std.proofs.lemmas.List.Elements.{filter_map-append}
use Rattle.sn_session.specs.declared.change.SessionOp.{SessionOp}
use Rattle.sn_session.specs.Session.{applied, empty_session}
use Rattle.rep_op.specs.declared.op.Op.{Op}
use Rattle.rep_op.specs.declared.op.Op.TheVariants.{Session as OfSession, Put as OfPut, Ack, Retain as OfRetain}
use Rattle.rep_op.specs.Sets.{operation_of, operations}
use Rattle.rep_model.specs.Views.{visible, history, session_made, view}
use Rattle.rep_model.specs.Fresh.{next_epoch, next_seq, next_clock}
use Rattle.sn_plan.specs.declared.plan.Plan.{Plan}
use Rattle.sn_plan.specs.Drafts.{Drafted}
use Rattle.sn_plan.specs.Numbering.{Written, changes_written, start_of, ack_of}
use Rattle.sn_local.specs.Seen.{seen_of}
use Rattle.sn_plan.specs.Plans.{plan_of}
use Rattle.sn_plan.specs.Own.{IsOwnWrite}
use Rattle.sn_plan.specs.Flush.{IsFlush, Shows, session_with}
use Rattle.sn_plan.proofs.Lists.{all-append, all-weaken, all-map, none_pass}
use Rattle.sn_local.proofs.Entries.{same_client-apart, operations-same, visible-by, history-by}
use Rattle.row_laws.proofs.Planned.{IsNumbered, Parts, planned-parts, parts-more}
use Rattle.row_laws.proofs.Names.{plan-own}
use Rattle.row_laws.proofs.Carried.{Reached, written-reached, written-session}

-- operations that are no session operations of the client e
abbrev pub IsElse : List ℕ → Op → Type 0
IsElse e op = operation_of e op ≡ None

own-else : (g : ℕ) (c e : List ℕ) → ¬ (e ≡ c) → (op : Op) → IsOwnWrite g c op → IsElse e op
own-else g c e h (OfSession d stamp counter change) own = ap (λ b. if b then Some ((stamp, counter), change) else None) (same_client-apart e d (λ s. h (s ∙ own.0)))
own-else g c e h (OfPut d p) own = refl
own-else g c e h (Ack d origin first last) own = refl
own-else g c e h (OfRetain topic kept) own = refl

numbered-else : (g : ℕ) (seq clock : List ℕ → Option ℕ) (e : List ℕ) (op : Op) → IsNumbered g seq clock op → IsElse e op
numbered-else g seq clock e (OfSession d stamp counter change) h = absurd h
numbered-else g seq clock e (OfPut d p) h = refl
numbered-else g seq clock e (Ack d origin first last) h = absurd h
numbered-else g seq clock e (OfRetain topic kept) h = refl

module _ (g : ℕ) (c : List ℕ) (S : List Op) (d : Drafted) (plan : Plan) (planned : plan_of g c (seen_of S) d ≡ Some plan) where
  abbrev seq : List ℕ → Option ℕ
  seq e = next_seq e g S

  abbrev clock : List ℕ → Option ℕ
  clock t = next_clock t S

  pub parts : Parts g c (view c S) (next_epoch c S) (λ e. next_seq e g S) (λ t. next_clock t S) d plan.ops
  parts = planned-parts g c (view c S) (next_epoch c S) (λ e. next_seq e g S) (λ t. next_clock t S) d plan planned

  -- another client's session operations stay
  pub operations-else : (e : List ℕ) → ¬ (e ≡ c) → operations e (S ++ plan.ops) ≡ operations e S
  operations-else e h = operations-same e S plan.ops (none_pass (operation_of e) plan.ops (all-weaken (IsOwnWrite g c) (IsElse e) (own-else g c e h) plan.ops (plan-own g c (seen_of S) d plan planned)))

  -- of session operations, the plan has those that were written
  pub operations-alone : (e : List ℕ) (p : Parts g c (view c S) (next_epoch c S) (λ e. next_seq e g S) (λ t. next_clock t S) d plan.ops) → operations e plan.ops ≡ operations e p.w.ops
  operations-alone e p =
      let b = parts-more g c (view c S) (next_epoch c S) seq clock d plan.ops p in
      let rest : List Op = map (ack_of c) d.acks ++ b.0 in
      let none : AllByRecursion (IsElse e) rest = all-append (IsElse e) (map (ack_of c) d.acks) b.0 (all-map (IsElse e) (ack_of c) (λ name. refl) d.acks) (all-weaken (IsNumbered g seq clock) (IsElse e) (numbered-else g seq clock e) b.0 b.2) in
      ap (operations e) (b.1 ∙ append_assoc p.w.ops (map (ack_of c) d.acks) b.0) ∙ operations-same e p.w.ops rest (none_pass (operation_of e) rest none)

  pub operations-plan : (e : List ℕ) (p : Parts g c (view c S) (next_epoch c S) (λ e. next_seq e g S) (λ t. next_clock t S) d plan.ops) → operations e (S ++ plan.ops) ≡ operations e (S ++ p.w.ops)
  operations-plan e p = filter_map-append (operation_of e) S plan.ops ∙ ap (λ es. operations e S ++ es) (operations-alone e p) ∙ sym (filter_map-append (operation_of e) S p.w.ops)

  -- without changes nothing is written
  pub operations-unchanged : d.changes ≡ [] → operations c (S ++ plan.ops) ≡ operations c S
  operations-unchanged none =
      let is : changes_written c g [] (start_of g (view c S) (next_epoch c S)) ≡ Some parts.w = ap (λ changes. changes_written c g changes (start_of g (view c S) (next_epoch c S))) (sym none) ∙ parts.is_written in
      let ops : parts.w.ops ≡ [] = ap (λ (w : Written). w.ops) (sym (same_Some (start_of g (view c S) (next_epoch c S)) parts.w is)) in
      operations-plan c parts ∙ ap (λ ops. operations c (S ++ ops)) ops ∙ ap (operations c) (append-nil S)

  pub reached : IsFlush g c S → (change : SessionOp) (rest : List SessionOp) → d.changes ≡ change ∷ rest → Reached g c S parts.w
  reached flush change rest e = written-reached g c S flush change rest parts.w (ap (λ changes. changes_written c g changes (start_of g (view c S) (next_epoch c S))) (sym e) ∙ parts.is_written)

  pub shows : Reached g c S parts.w → Shows g parts.w (view c (S ++ plan.ops))
  shows r =
      let same = operations-plan c parts in
      record {
        stamp = visible-by c (S ++ plan.ops) (S ++ parts.w.ops) same ∙ r.at.seen;
        prefix = ap length (history-by c (S ++ plan.ops) (S ++ parts.w.ops) same) ∙ r.at.prefix;
        session = ap session_made (history-by c (S ++ plan.ops) (S ++ parts.w.ops) same) ∙ r.at.made;
      }

  by_changes : (P : List SessionOp → Type 0) → (d.changes ≡ [] → P []) → ((change : SessionOp) (rest : List SessionOp) → d.changes ≡ change ∷ rest → P (change ∷ rest)) → P d.changes
  by_changes P nil cons = elim d.changes as (λ xs. d.changes ≡ xs → P xs) [ [] ↦ nil | change ∷ rest ↦ cons change rest ] refl

  pub written-shown : IsFlush g c S → ¬ (d.changes ≡ []) → (w : Written) × (changes_written c g d.changes (start_of g (view c S) (next_epoch c S)) ≡ Some w) × Shows g w (view c (S ++ plan.ops))
  written-shown flush some = (parts.w, parts.is_written, shows (by_changes (λ _. Reached g c S parts.w) (λ e. absurd (some e)) (reached flush)))

  pub session-shown : IsFlush g c S → session_made (history c (S ++ plan.ops)) ≡ session_with (session_made (history c S)) d.changes
  session-shown flush = by_changes (λ xs. session_made (history c (S ++ plan.ops)) ≡ session_with (session_made (history c S)) xs)
      (λ none. ap session_made (history-by c (S ++ plan.ops) S (operations-unchanged none)))
      (λ change rest e. (shows (reached flush change rest e)).session ∙ ap Some (written-session c g d.changes (start_of g (view c S) (next_epoch c S)) parts.w parts.is_written ∙ ap (λ xs. fold applied (unwrap_or (session_made (history c S)) empty_session) xs) e))

  pub unchanged-shown : d.changes ≡ [] → (visible c (S ++ plan.ops) ≡ visible c S) × (length (history c (S ++ plan.ops)) ≡ length (history c S))
  unchanged-shown none =
      let same = operations-unchanged none in
      (visible-by c (S ++ plan.ops) S same, ap length (history-by c (S ++ plan.ops) S same))

  pub others-shown : (e : List ℕ) → ¬ (e ≡ c) → (visible e (S ++ plan.ops) ≡ visible e S) × (length (history e (S ++ plan.ops)) ≡ length (history e S)) × (session_made (history e (S ++ plan.ops)) ≡ session_made (history e S))
  others-shown e h =
      let same = operations-else e h in
      (visible-by e (S ++ plan.ops) S same, ap length (history-by e (S ++ plan.ops) S same), ap session_made (history-by e (S ++ plan.ops) S same))
