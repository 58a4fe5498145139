-- The messages of a draft wait for their clients after the step.
use Rattle.std.proofs.Common.{◌≡◌, ℕ, true, false, cond, not, ◌||◌, List, [], ◌∷◌, ◌++◌, map, Option, Some, None, option_to_list, refl, sym, ap, ◌∙◌, inl, inr, append_assoc, append-nil}
use Rattle.std.specs.List.{AllByRecursion, filter_map}
use Rattle.std.proofs.lemmas.Option.{none-some, same_Some}
use Rattle.std.proofs.lemmas.List.Elements.{filter_map-append}
use Rattle.rep_op.specs.declared.op.Op.{Op}
use Rattle.rep_op.specs.declared.op.Op.TheVariants.{Session as OfSession, Put as OfPut, Ack, Retain as OfRetain}
use Rattle.rep_op.specs.Sets.{put_at, is_acknowledged, HasOperation}
use Rattle.rep_model.proofs.Readers.{is_acknowledged_both}
use Rattle.rep_model.proofs.Thin.{pending_at-reads}
use Rattle.rep_model.specs.Fresh.{one_more}
use Rattle.sn_plan.specs.declared.draft.NewPut.{NewPut}
use Rattle.sn_plan.specs.declared.draft.Posted.{Posted}
use Rattle.sn_plan.specs.declared.plan.Plan.{Plan}
use Rattle.sn_plan.specs.Drafts.{Drafted}
use Rattle.sn_plan.specs.Numbering.{put_at_seq, with_puts, handed_to, handed_at_seq, with_handed, retain_at_clock, with_retain, ack_of}
use Rattle.sn_local.specs.Seen.{Seen, seen_of}
use Rattle.sn_plan.specs.Plans.{plan_of}
use Rattle.sn_plan.specs.Own.{PutsApart, WaitsOrIsAcked, new_message_of, new_messages, handed_of, handed_in, posted_of, retained_in}
use Rattle.sn_plan.specs.Flush.{IsFlush}
use Rattle.sn_plan.proofs.Lists.{and_then-some, map-some, all-both}
use Rattle.row_laws.proofs.Planned.{Parts, planned-parts, puts-passed, retain-passed, handed-passed}
use Rattle.row_laws.proofs.Names.{IsWritten, before-none}
use Rattle.row_laws.proofs.Freshness.{IsUnacknowledged, plan-fresh, plan-unacked}
use Rattle.row_laws.proofs.Leaving.{acked-plan, names-acked}
use Rattle.sn_plan.proofs.Standing.{fresh-stand}

puts-messages : (g moment : ℕ) (seq : List ℕ → Option ℕ) (new : List NewPut) (before after : List Op) → with_puts g moment seq new before ≡ Some after → new_messages after ≡ new_messages before ++ new
puts-messages g moment seq [] before after e = ap new_messages (sym (same_Some before after e)) ∙ sym (append-nil (new_messages before))
puts-messages g moment seq (p ∷ rest) before after e =
    let m = and_then-some (λ n. with_puts g moment seq rest (before ++ put_at_seq g moment p n ∷ [])) (seq p.client) after e in
    puts-messages g moment seq rest (before ++ put_at_seq g moment p m.0 ∷ []) after m.2
    ∙ ap (λ xs. xs ++ rest) (filter_map-append new_message_of before (put_at_seq g moment p m.0 ∷ []))
    ∙ append_assoc (new_messages before) (p ∷ []) rest

written-messages : (g : ℕ) (c : List ℕ) (op : Op) → IsWritten g c op → new_message_of op ≡ None
written-messages g c (OfSession d stamp counter change) h = refl
written-messages g c (OfPut d p) h = absurd h
written-messages g c (Ack d origin first last) h = absurd h
written-messages g c (OfRetain topic kept) h = absurd h

written-handed : (g : ℕ) (c : List ℕ) (op : Op) → IsWritten g c op → handed_of op ≡ None
written-handed g c (OfSession d stamp counter change) h = refl
written-handed g c (OfPut d p) h = absurd h
written-handed g c (Ack d origin first last) h = absurd h
written-handed g c (OfRetain topic kept) h = absurd h

written-posted : (g : ℕ) (c : List ℕ) (op : Op) → IsWritten g c op → posted_of op ≡ None
written-posted g c (OfSession d stamp counter change) h = refl
written-posted g c (OfPut d p) h = absurd h
written-posted g c (Ack d origin first last) h = absurd h
written-posted g c (OfRetain topic kept) h = absurd h

-- what is handed is read back
handed-read : (g moment : ℕ) (c : List ℕ) (handed : List Posted) (next : Option ℕ) (before after : List Op) → with_handed g moment c next handed before ≡ Some after → handed_in after ≡ handed_in before ++ map (handed_to c) handed
handed-read g moment c [] next before after e = ap handed_in (sym (same_Some before after e)) ∙ sym (append-nil (handed_in before))
handed-read g moment c (p ∷ rest) None before after e = absurd (none-some after e)
handed-read g moment c (p ∷ rest) (Some n) before after e =
    handed-read g moment c rest (one_more n) (before ++ handed_at_seq g moment c p n ∷ []) after e
    ∙ ap (λ xs. xs ++ map (handed_to c) rest) (filter_map-append handed_of before (handed_at_seq g moment c p n ∷ []))
    ∙ append_assoc (handed_in before) (handed_to c p ∷ []) (map (handed_to c) rest)

-- and so is what is retained
retain-read : (g : ℕ) (clock : List ℕ → Option ℕ) (retain : Option Posted) (before after : List Op) → with_retain g clock retain before ≡ Some after → retained_in after ≡ retained_in before ++ option_to_list retain
retain-read g clock None before after e = ap retained_in (sym (same_Some before after e)) ∙ sym (append-nil (retained_in before))
retain-read g clock (Some p) before after e =
    let n = map-some (λ n. before ++ retain_at_clock g p n ∷ []) (clock p.topic) after e in
    ap retained_in (sym n.2) ∙ filter_map-append posted_of before (retain_at_clock g p n.0 ∷ [])

module _ (g : ℕ) (c : List ℕ) (seen : Seen) (d : Drafted) (plan : Plan) (planned : plan_of g c seen d ≡ Some plan) where
  abbrev seq : List ℕ → Option ℕ
  seq e = seen.seq e g

  parts : Parts g c (seen.of c) (seen.epoch c) (λ e. seen.seq e g) seen.clock d plan.ops
  parts = planned-parts g c (seen.of c) (seen.epoch c) (λ e. seen.seq e g) seen.clock d plan planned

  abbrev before : List Op
  before = parts.w.ops ++ map (ack_of c) d.acks

  -- a reader that reads neither session operations nor acknowledgements
  nothing-yet : {X : Type 0} (f : Op → Option X) → ((op : Op) → IsWritten g c op → f op ≡ None) → ((name : ℕ × ℕ) → f (ack_of c name) ≡ None) → filter_map f before ≡ []
  nothing-yet f written acked = before-none g c f written acked (seen.of c) (seen.epoch c) d.changes parts.w parts.is_written d.acks

  pub plan-messages : new_messages plan.ops ≡ d.puts
  plan-messages =
      puts-messages g d.expires seq d.puts parts.kept plan.ops parts.is_numbered
      ∙ ap (λ xs. xs ++ d.puts)
      (retain-passed g seq seen.clock new_message_of (λ p n. refl) d.retain parts.handed parts.kept parts.is_kept
      ∙ handed-passed g seq seen.clock c d.expires new_message_of (λ p n. refl) d.handed (seen.seq c g) before parts.handed parts.is_handed
      ∙ nothing-yet new_message_of (written-messages g c) (λ name. refl))

  -- what the draft hands is handed to its client, and nobody else is handed anything
  pub plan-handed : handed_in plan.ops ≡ map (handed_to c) d.handed
  plan-handed =
      puts-passed g seq seen.clock d.expires handed_of (λ p n. refl) d.puts parts.kept plan.ops parts.is_numbered
      ∙ retain-passed g seq seen.clock handed_of (λ p n. refl) d.retain parts.handed parts.kept parts.is_kept
      ∙ handed-read g d.expires c d.handed (seen.seq c g) before parts.handed parts.is_handed
      ∙ ap (λ xs. xs ++ map (handed_to c) d.handed) (nothing-yet handed_of (written-handed g c) (λ name. refl))

  pub plan-retained : retained_in plan.ops ≡ option_to_list d.retain
  plan-retained =
      puts-passed g seq seen.clock d.expires posted_of (λ p n. refl) d.puts parts.kept plan.ops parts.is_numbered
      ∙ retain-read g seen.clock d.retain parts.handed parts.kept parts.is_kept
      ∙ ap (λ xs. xs ++ option_to_list d.retain)
      (handed-passed g seq seen.clock c d.expires posted_of (λ p n. refl) d.handed (seen.seq c g) before parts.handed parts.is_handed
      ∙ nothing-yet posted_of (written-posted g c) (λ name. refl))

module _ (g : ℕ) (c : List ℕ) (S : List Op) (d : Drafted) (plan : Plan) (planned : plan_of g c (seen_of S) d ≡ Some plan) where
  waits : (op : Op) → HasOperation (S ++ plan.ops) op → IsUnacknowledged S op → WaitsOrIsAcked (S ++ plan.ops) c d.acks op
  waits (OfSession e stamp counter change) h u = tt
  waits (OfPut e p) h u =
      elim (is_acknowledged e (S ++ plan.ops) (p.seq, p.origin)) as (λ b. is_acknowledged e (S ++ plan.ops) (p.seq, p.origin) ≡ b → WaitsOrIsAcked (S ++ plan.ops) c d.acks (OfPut e p)) [
        | true ↦ λ t.
            let new : is_acknowledged e plan.ops (p.seq, p.origin) ≡ true = ap (λ b. b || is_acknowledged e plan.ops (p.seq, p.origin)) (sym u) ∙ sym (is_acknowledged_both e S plan.ops (p.seq, p.origin)) ∙ t in
            inr (names-acked c e (p.seq, p.origin) d.acks (sym (acked-plan g c S d plan planned e (p.seq, p.origin)) ∙ new))
        | false ↦ λ f. inl (pending_at-reads e (S ++ plan.ops) (p.seq, p.origin) ∙ ap (λ b. cond (not b) (put_at e (S ++ plan.ops) (p.seq, p.origin)) None) f ∙ h)
      ] refl
  waits (Ack e origin first last) h u = tt
  waits (OfRetain topic kept) h u = tt

  pub plan-waits : IsFlush g c S → PutsApart d → AllByRecursion (WaitsOrIsAcked (S ++ plan.ops) c d.acks) plan.ops
  plan-waits flush apart = all-both (HasOperation (S ++ plan.ops)) (IsUnacknowledged S) (WaitsOrIsAcked (S ++ plan.ops) c d.acks) waits plan.ops
      (fresh-stand S plan.ops (plan-fresh g c S d plan planned flush apart))
      (plan-unacked g c S d plan planned)
