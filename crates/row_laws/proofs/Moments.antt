-- Each message of a plan has the moment of its draft.
use Rattle.std.proofs.Common.{◌≡◌, ℕ, List, [], ◌∷◌, ◌++◌, map, Option, Some, None, option_and_then, refl, ap, ◌∙◌, subst}
use Rattle.std.specs.List.{AllByRecursion}
use Rattle.std.proofs.lemmas.Option.{none-some, same_Some}
use Rattle.rep_op.specs.declared.op.Op.{Op}
use Rattle.rep_op.specs.declared.op.Op.TheVariants.{Session as OfSession, Put as OfPut, Ack, Retain as OfRetain}
use Rattle.rep_model.specs.Fresh.{one_more}
use Rattle.sn_plan.specs.declared.draft.NewPut.{NewPut}
use Rattle.sn_plan.specs.declared.draft.Posted.{Posted}
use Rattle.sn_plan.specs.declared.plan.Plan.{Plan}
use Rattle.sn_plan.specs.Drafts.{Drafted}
use Rattle.sn_plan.specs.Numbering.{put_at_seq, with_puts, handed_at_seq, with_handed, retain_at_clock, with_retain, ack_of, plan_with}
use Rattle.sn_local.specs.Seen.{Seen}
use Rattle.sn_plan.specs.Plans.{plan_of, plan_of_puts}
use Rattle.sn_plan.specs.Own.{HasMoment}
use Rattle.sn_plan.proofs.Lists.{and_then-some, map-some, all-append, all-map, all-weaken}
use Rattle.row_laws.proofs.Planned.{Parts, planned-parts}
use Rattle.row_laws.proofs.Names.{IsWritten, start-written}

-- all messages among these operations have the moment
abbrev pub AllHave : ℕ → List Op → Type 0
AllHave moment ops = AllByRecursion (HasMoment moment) ops

module _ (g moment : ℕ) where
  puts-moments : (seq : List ℕ → Option ℕ) (puts : List NewPut) (before after : List Op) → AllHave moment before → with_puts g moment seq puts before ≡ Some after → AllHave moment after
  puts-moments seq [] before after all e = subst (AllHave moment) (same_Some before after e) all
  puts-moments seq (p ∷ rest) before after all e =
      let m = and_then-some (λ n. with_puts g moment seq rest (before ++ put_at_seq g moment p n ∷ [])) (seq p.client) after e in
      puts-moments seq rest (before ++ put_at_seq g moment p m.0 ∷ []) after
      (all-append (HasMoment moment) before (put_at_seq g moment p m.0 ∷ []) all (refl, tt)) m.2

  handed-moments : (c : List ℕ) (handed : List Posted) (next : Option ℕ) (before after : List Op) → AllHave moment before → with_handed g moment c next handed before ≡ Some after → AllHave moment after
  handed-moments c [] next before after all e = subst (AllHave moment) (same_Some before after e) all
  handed-moments c (p ∷ rest) None before after all e = absurd (none-some after e)
  handed-moments c (p ∷ rest) (Some n) before after all e =
      handed-moments c rest (one_more n) (before ++ handed_at_seq g moment c p n ∷ []) after
      (all-append (HasMoment moment) before (handed_at_seq g moment c p n ∷ []) all (refl, tt)) e

  retain-moments : (clock : List ℕ → Option ℕ) (retain : Option Posted) (before after : List Op) → AllHave moment before → with_retain g clock retain before ≡ Some after → AllHave moment after
  retain-moments clock None before after all e = subst (AllHave moment) (same_Some before after e) all
  retain-moments clock (Some p) before after all e =
      let m = map-some (λ n. before ++ retain_at_clock g p n ∷ []) (clock p.topic) after e in
      subst (AllHave moment) m.2 (all-append (HasMoment moment) before (retain_at_clock g p m.0 ∷ []) all (tt, tt))

written-moment : (g moment : ℕ) (c : List ℕ) (op : Op) → IsWritten g c op → HasMoment moment op
written-moment g moment c (OfSession d stamp counter change) h = tt
written-moment g moment c (OfPut d p) h = absurd h
written-moment g moment c (Ack d origin first last) h = absurd h
written-moment g moment c (OfRetain topic kept) h = absurd h

pub plan-moments : (g : ℕ) (c : List ℕ) (seen : Seen) (d : Drafted) (plan : Plan) → plan_of g c seen d ≡ Some plan → AllHave d.expires plan.ops
plan-moments g c seen d plan planned =
    let p : Parts g c (seen.of c) (seen.epoch c) (λ e. seen.seq e g) seen.clock d plan.ops = planned-parts g c (seen.of c) (seen.epoch c) (λ e. seen.seq e g) seen.clock d plan planned in
    puts-moments g d.expires (λ e. seen.seq e g) d.puts p.kept plan.ops
    (retain-moments g d.expires seen.clock d.retain p.handed p.kept
    (handed-moments g d.expires c d.handed (seen.seq c g) (p.w.ops ++ map (ack_of c) d.acks) p.handed
    (all-append (HasMoment d.expires) p.w.ops (map (ack_of c) d.acks)
    (all-weaken (IsWritten g c) (HasMoment d.expires) (written-moment g d.expires c) p.w.ops (start-written g c (seen.of c) (seen.epoch c) d.changes p.w p.is_written))
    (all-map (HasMoment d.expires) (ack_of c) (λ name. tt) d.acks))
    p.is_handed) p.is_kept) p.is_numbered

pub nobody-moments : (g : ℕ) (seen : Seen) (d : Drafted) (plan : Plan) → plan_of_puts g seen d ≡ Some plan → AllHave d.expires plan.ops
nobody-moments g seen d plan planned =
    let m = map-some (plan_with d) (option_and_then (with_puts g d.expires (λ e. seen.seq e g) d.puts) (with_retain g seen.clock d.retain [])) plan planned in
    let k = and_then-some (with_puts g d.expires (λ e. seen.seq e g) d.puts) (with_retain g seen.clock d.retain []) m.0 m.1 in
    puts-moments g d.expires (λ e. seen.seq e g) d.puts k.0 plan.ops
    (retain-moments g d.expires seen.clock d.retain [] k.0 tt k.1)
    (k.2 ∙ ap (λ (p : Plan). Some p.ops) m.2)
