-- Each call of a node is an event of the gateway that it stands for.
use Rattle.std.proofs.Common.{◌≡◌, ◌≢◌, ◌⊎◌, ℕ, ◌+◌, ◌<◌, length, if◌then◌else◌, Bool, true, false, true≢false, inl, inr, List, [], ◌∷◌, ◌++◌, Option, Some, None, Result, Ok, Err, refl, sym, ap, ◌∙◌, subst, append-nil}
use Rattle.std.specs.Prelude.{IsTrue}
use Rattle.rep_op.specs.declared.op.Subject.{Subject}
use Rattle.rep_op.specs.declared.op.Op.{Op}
use Rattle.rep_ops.specs.Making.{IsDeltaOf}
use Rattle.rep_ops.specs.Spelling.{max_octets}
use Rattle.rep_ops.specs.Splitting.{all_of}
use Rattle.rep_digest.specs.Digests.{Digested, digest}
use Rattle.rep_digest.specs.Spelling.{digest_spelling, IsDigestWithinLimit}
use Rattle.rep_digest.proofs.Counted.{same_digest}
use Rattle.rep_answer.proofs.Completing.{same_answer}
use Rattle.rep_model.specs.Views.{view}
use Rattle.rep_model.specs.Taking.{AllAgree}
use Rattle.rep_model.proofs.Joins.{view-counts, same_trans}
use Rattle.rep_model.proofs.Named.{is_named-counts}
use Rattle.sn_plan.specs.declared.plan.Plan.{Plan}
use Rattle.sn_local.specs.Seen.{seen_of}
use Rattle.sn_local.specs.Locals.{after_all, owned}
use Rattle.jr_disk.specs.declared.disk.Disk.{Ghosts}
use Rattle.jr_disk.specs.declared.disk.Failure.{Failure}
use Rattle.jr_journal.specs.declared.fault.JournalFault.TheVariants as journal_faults
use Rattle.jr_disk.specs.Disk.{Slots, Image, at, image}
use Rattle.jr_journal.specs.Faults.{is_fresh}
use Rattle.jr_journal.specs.Crashes.{recovered}
use Rattle.jr_journal.specs.Arranged.{after_append, misses_failure}
use Rattle.jr_journal.specs.Journals.{other_slot, emptied, last_generation}
use Rattle.jr_journal.specs.Opening.{slot_read}
use Rattle.jr_journal.specs.Parts.{disk_under, gateway_of, slot_of, generation_of}
use Rattle.jr_journal.specs.Records.{base_bytes, slot_content, generation_in, records}
use Rattle.gw_answer.specs.declared.out.Out.{Out}
use Rattle.gw_answer.specs.declared.refusal.Refusal.{Refusal}
use Rattle.gw_answer.specs.declared.refusal.Refusal.TheVariants as refusals
use Rattle.gw_answer.specs.declared.step.Step.{Step}
use Rattle.gw_answer.specs.declared.step.Step.TheVariants as steps
use Rattle.gw_node.specs.Calls.{OwnCall, TakeCall, ViewCall, DigestCall, AnswerCall, CompactCall, StepCall, IsDone, AreTooMuch}
use Rattle.gw_event.specs.Drives.{generation, compacted, torn_base, more_records}
use Rattle.gw_event.specs.Event.{Event, OwnStep, TakeStep, ViewStep, DigestStep, ReplyStep, CompactStep, ReopenStep, IsPlan, IsMade, IsTooMuch, HasNoDelta, NothingHappens, shows}
use Rattle.gw_event.specs.Gateways.{Gateway, with_refused, reopened}
use Rattle.gw_node.specs.Keeping.{Keeps}
use Rattle.gw_event.specs.Occasions.{Occasion, Datagram, Clock, IsPlanOf}
use Rattle.gw_node.specs.Opening.{ReopenCall}
use Rattle.gw_node.specs.Parts.{State, is_halted, IsUnchanged}
use Rattle.gw_node.specs.Plans.{IsPlanFor, Makes}
use Rattle.gw_node.specs.Standing.{Lasts, Represents, with_failure, LeadsTo, OwnAgrees, CallAgrees, IsClear, CanBeSaid, EventOn}
use Rattle.gw_node.specs.Taking.{on_disk, RecoversTo}
use Rattle.gw_node.specs.Writing.{IsRewritten, IsNotRewritten, HasReadGeneration}
use Rattle.gw_node.proofs.Keeping.{keeps_more}
use Rattle.gw_node.proofs.Held.{seen_same, takable, conflict_with_taken, full_for_taken}
use Rattle.gw_node.proofs.Splits.{held-taken}
use Rattle.gw_node.proofs.Standing.{keeps-read, recovered_synced, anew_synced, met, unmet, from_taken, to_taken, goes, halts, keeps_still, noted_leads, same_leads, wrote, written_leads, torn_leads}
use Rattle.gw_node.proofs.Taken.{StandFor, all_left, records_stand, as_taken, rewritten, not_rewritten, read_back}

-- this may happen, or memory runs out
abbrev OrWant : Result Out Refusal → (Gateway → Gateway → List (List Op) → Type 0) → Gateway → Gateway → List (List Op) → Type 0
OrWant answer Step before next made = Step before next made ⊎ ((answer ≡ Err refusals.Memory) × NothingHappens before next made)

module _ {D : Type 0} {G : Ghosts D} (g : Gateway) (old : State G) (s : Represents g old) where
  -- the plan by what is kept is the plan by what was taken
  pub plan_taken : (occasion : Occasion) (now : ℕ) (plan : Option Plan) → IsPlanFor old occasion now plan → IsPlan g occasion now plan
  plan_taken occasion now plan h =
      let seen : seen_of old.kept ≡ seen_of g.taken = seen_same g.taken old.kept s.keeps.counts in
      let same : IsPlanOf old.config (seen_of old.kept) old.local occasion now plan ≡ IsPlanOf g.config (seen_of g.taken) g.local occasion now plan =
      λ i. IsPlanOf (s.configured i) (seen i) (s.bound i) occasion now plan in
      subst (λ (x : Type 0). x) same h

  nothing : NothingHappens g g []
  nothing = record { same = refl; none = refl }

  -- operations that cannot be taken
  conflict_taken : (plan : Plan) (c : Subject) → AreTooMuch old.kept plan.ops (refusals.Conflict c) → IsTooMuch g plan (refusals.Conflict c)
  conflict_taken plan c (inl (delta, is_delta, h)) = (delta, is_delta, conflict_with_taken g.taken old.kept delta c s.keeps h)
  conflict_taken plan c (inr (e, h)) = absurd (cc)

  full_taken : (plan : Plan) → AreTooMuch old.kept plan.ops refusals.Full → IsTooMuch g plan refusals.Full ⊎ HasNoDelta plan
  full_taken plan (inl (delta, is_delta, (limit, h))) = inl (delta, is_delta, full_for_taken g.taken old.kept delta limit s.keeps h)
  full_taken plan (inr (e, h)) = inr h

  -- memory ran out
  wants : (Step : Gateway → Gateway → List (List Op) → Type 0) (Agrees : Type 0) (new : State G) → IsUnchanged old new → LeadsTo (OrWant (Err refusals.Memory) Step) Agrees g old new
  wants Step Agrees new u = same_leads g old s (OrWant (Err refusals.Memory) Step) Agrees new u (inr (refl, nothing))

  -- ---- a datagram, or a tick

  abbrev Owns : Occasion → ℕ → Result Out Refusal → State G → Type 0
  Owns occasion now answer new = LeadsTo (OrWant answer (λ before next made. OwnStep before occasion now answer next made)) (OwnAgrees g occasion now) g old new

  stays : (occasion : Occasion) (now : ℕ) (answer : Result Out Refusal) (new : State G) → IsUnchanged old new → OwnStep g occasion now answer g [] → Owns occasion now answer new
  stays occasion now answer new u step = same_leads g old s (OrWant answer (λ before next made. OwnStep before occasion now answer next made)) (OwnAgrees g occasion now) new u (inl step)

  -- what was made of the operations
  done_leads : (occasion : Occasion) (now : ℕ) (plan : Plan) (out : Out) (new : State G) → is_halted old ≡ false → IsPlan g occasion now (Some plan) → IsDone old plan out new
      → (ops : List Op) (made : Option (List Op)) → plan.ops ≡ ops → out.made ≡ made → Makes ops made old new → Owns occasion now (Ok out) new
  done_leads occasion now plan out new runs is_plan done [] None ops made (kept, u) =
      noted_leads g old s (OrWant (Ok out) (λ before next mades. OwnStep before occasion now (Ok out) next mades)) (OwnAgrees g occasion now) new (after_all g.local plan.local) [] done.config (keeps_still g old s new kept)
      (done.local ∙ ap (λ b. after_all b plan.local) s.bound) u
      (inl (
        plan,
        is_plan,
        (
          done.answer,
          subst (λ (os : List Op). IsMade os g plan out.made (record g { local = after_all g.local plan.local }) []) (sym ops)
              (subst (λ (m : Option (List Op)). IsMade [] g plan m (record g { local = after_all g.local plan.local }) []) (sym made) (refl, refl)),
          done.apart,
        ),
        goes g old s runs,
      ))
  done_leads occasion now plan out new runs is_plan done [] (Some delta) ops made h = absurd h
  done_leads occasion now plan out new runs is_plan done (op ∷ rest) None ops made h = absurd h
  done_leads occasion now plan out new runs is_plan done (op ∷ rest) (Some delta) ops made (is_delta, fits, kept, w, writable) =
      written_leads g old s new delta w (OrWant (Ok out) (λ before next mades. OwnStep before occasion now (Ok out) next mades)) (OwnAgrees g occasion now) (after_all g.local plan.local) (delta ∷ []) done.config
      (done.local ∙ ap (λ b. after_all b plan.local) s.bound) is_delta.delta fits kept
      (λ agrees. agrees plan delta is_plan (subst (λ (os : List Op). IsDeltaOf os delta) (sym ops) is_delta))
      (inl (
        plan,
        is_plan,
        (
          done.answer,
          subst (λ (os : List Op). IsMade os (with_failure None g) plan out.made (wrote delta (after_all g.local plan.local) g) (delta ∷ [])) (sym ops)
              (subst (λ (m : Option (List Op)). IsMade (op ∷ rest) (with_failure None g) plan m (wrote delta (after_all g.local plan.local) g) (delta ∷ [])) (sym made)
              (is_delta, writable, takable g.taken old.kept delta s.keeps fits, refl, refl, refl)),
          done.apart,
        ),
        goes g old s runs,
      ))

  pub own_leads : (new : State G) (occasion : Occasion) (now : ℕ) (answer : Result Out Refusal) → OwnCall old occasion now answer new → Owns occasion now answer new
  own_leads new occasion now (Ok out) (runs, (plan, is_plan, done)) =
      done_leads occasion now plan out new runs (plan_taken occasion now (Some plan) is_plan) done plan.ops out.made refl refl done.made
  own_leads new occasion now (Err refusals.Halted) (halted, u) = stays occasion now (Err refusals.Halted) new u (halts g old s halted, nothing)
  own_leads new occasion now (Err (refusals.Frame fault)) (runs, why, u) = stays occasion now (Err (refusals.Frame fault)) new u (why, nothing, goes g old s runs)
  own_leads new occasion now (Err refusals.Exhausted) (runs, why, u) =
      stays occasion now (Err refusals.Exhausted) new u (plan_taken occasion now None why, nothing, goes g old s runs)
  own_leads new occasion now (Err (refusals.Conflict client)) (runs, (plan, is_plan, why), u) =
      stays occasion now (Err (refusals.Conflict client)) new u (plan, plan_taken occasion now (Some plan) is_plan, conflict_taken plan client why, nothing, goes g old s runs)
  own_leads new occasion now (Err refusals.Full) (runs, (plan, is_plan, why), u) =
      stays occasion now (Err refusals.Full) new u (plan, plan_taken occasion now (Some plan) is_plan, full_taken plan why, nothing, goes g old s runs)
  own_leads new occasion now (Err (refusals.Disk excuse)) (runs, (plan, is_plan, excused, h)) =
      let planned = plan_taken occasion now (Some plan) is_plan in
      torn_leads g old s new h.delta h.failed (OrWant (Err (refusals.Disk excuse)) (λ before next made. OwnStep before occasion now (Err (refusals.Disk excuse)) next made)) (OwnAgrees g occasion now)
      h.config h.kept h.local h.is_delta.delta h.fits (λ agrees. agrees plan h.delta planned h.is_delta)
      (λ failure.
      inl (
        plan,
        planned,
        record {
          some = h.some;
          apart = h.apart;
          delta = h.delta;
          is_delta = h.is_delta;
          limit = h.limit;
          torn = record { takable = takable g.taken old.kept h.delta s.keeps h.fits; failure = failure; planned = refl; halted = refl; none = refl };
          excused = excused;
          sends = h.answer;
        },
        goes g old s runs,
      ))
  own_leads new occasion now (Err refusals.Memory) u = wants (λ before next made. OwnStep before occasion now (Err refusals.Memory) next made) (OwnAgrees g occasion now) new u
  own_leads new occasion now (Err (refusals.Journal fault)) h = absurd h

  -- ---- a delta

  abbrev Takes : List Op → Result Out Refusal → State G → Type 0
  Takes delta answer new = LeadsTo (OrWant answer (λ before next made. TakeStep before delta answer next made)) (AllAgree g.taken delta) g old new

  left : (delta : List Op) (answer : Result Out Refusal) (new : State G) → IsUnchanged old new → TakeStep g delta answer g [] → Takes delta answer new
  left delta answer new u step = same_leads g old s (OrWant answer (λ before next made. TakeStep before delta answer next made)) (AllAgree g.taken delta) new u (inl step)

  -- clients that another gateway now owns are forgotten
  owned_taken : (S K : List Op) → Keeps S K → owned old.config.gateway (seen_of K) old.local ≡ owned g.config.gateway (seen_of S) g.local
  owned_taken S K keeps = let seen : seen_of K ≡ seen_of S = seen_same S K keeps.counts in λ i. owned (s.configured i).gateway (seen i) (s.bound i)

  pub take_leads : (new : State G) (delta : List Op) (answer : Result Out Refusal) → TakeCall old delta answer new → Takes delta answer new
  take_leads new [] (Ok out) (runs, empty, h) =
      let keeps = keeps_more g.taken old.kept [] new.kept s.keeps h.kept in
      let local = owned g.config.gateway (seen_of (g.taken ++ [])) g.local in
      noted_leads g old s (OrWant (Ok out) (λ before next made. TakeStep before [] (Ok out) next made)) (AllAgree g.taken []) new local [] h.config
      (subst (λ (S : List Op). Keeps S new.kept) (append-nil g.taken) keeps) (h.local ∙ owned_taken (g.taken ++ []) new.kept keeps) h.noted
      (inl (empty, takable g.taken old.kept [] s.keeps h.fits, refl, (λ i. record g { taken = sym (append-nil g.taken) i; local = local }), tt, goes g old s runs))
  take_leads new (op ∷ ops) (Ok out) (runs, empty, h) =
      let delta = op ∷ ops in
      let keeps = keeps_more g.taken old.kept delta new.kept s.keeps h.kept in
      written_leads g old s new delta h.noted (OrWant (Ok out) (λ before next made. TakeStep before delta (Ok out) next made)) (AllAgree g.taken delta)
      (owned g.config.gateway (seen_of (g.taken ++ delta)) g.local) [] h.config (h.local ∙ owned_taken (g.taken ++ delta) new.kept keeps) h.is_delta h.fits h.kept (λ agrees. agrees)
      (inl (empty, takable g.taken old.kept delta s.keeps h.fits, refl, refl, refl, goes g old s runs))
  take_leads new delta (Err refusals.Halted) (halted, u) = left delta (Err refusals.Halted) new u (halts g old s halted, nothing)
  take_leads new delta (Err (refusals.Conflict client)) (runs, why, u) =
      left delta (Err (refusals.Conflict client)) new u (conflict_with_taken g.taken old.kept delta client s.keeps why, nothing, goes g old s runs)
  take_leads new delta (Err refusals.Full) (runs, (limit, why), u) = left delta (Err refusals.Full) new u (full_for_taken g.taken old.kept delta limit s.keeps why, nothing, goes g old s runs)
  take_leads new delta (Err (refusals.Disk excuse)) (runs, empty, h) =
      torn_leads g old s new delta h.failed (OrWant (Err (refusals.Disk excuse)) (λ before next made. TakeStep before delta (Err (refusals.Disk excuse)) next made)) (AllAgree g.taken delta)
      h.config h.kept h.local h.is_delta h.fits (λ agrees. agrees)
      (λ failure.
      inl (
        empty,
        h.some,
        record { takable = takable g.taken old.kept delta s.keeps h.fits; failure = failure; planned = refl; halted = refl; none = refl },
        goes g old s runs,
      ))
  take_leads new delta (Err refusals.Memory) u = wants (λ before next made. TakeStep before delta (Err refusals.Memory) next made) (AllAgree g.taken delta) new u
  take_leads new delta (Err (refusals.Frame fault)) h = absurd h
  take_leads new delta (Err refusals.Exhausted) h = absurd h
  take_leads new delta (Err (refusals.Journal fault)) h = absurd h

  -- ---- views, digests, answers

  view_leads : (new : State G) (client : List ℕ) (answer : Result Out Refusal) → ViewCall old client answer new
      → LeadsTo (OrWant answer (λ before next made. ViewStep before client answer next × (made ≡ []))) (Unit {0}) g old new
  view_leads new client (Ok out) (is_out, u) =
      let same : shows old.kept client ≡ shows g.taken client =
      λ i. record {
        sends = [];
        made = None;
        answer = [];
        digest = None;
        view = if is_named-counts client g.taken old.kept s.keeps.counts i then Some (view-counts client g.taken old.kept s.keeps.counts i) else None;
      } in
      same_leads g old s (OrWant (Ok out) (λ before next made. ViewStep before client (Ok out) next × (made ≡ []))) (Unit {0}) new u (inl ((is_out ∙ same, refl), refl))
  view_leads new client (Err refusals.Memory) u = wants (λ before next made. ViewStep before client (Err refusals.Memory) next × (made ≡ [])) (Unit {0}) new u
  view_leads new client (Err refusals.Halted) h = absurd h
  view_leads new client (Err (refusals.Frame fault)) h = absurd h
  view_leads new client (Err (refusals.Disk excuse)) h = absurd h
  view_leads new client (Err (refusals.Conflict of)) h = absurd h
  view_leads new client (Err refusals.Full) h = absurd h
  view_leads new client (Err refusals.Exhausted) h = absurd h
  view_leads new client (Err (refusals.Journal fault)) h = absurd h

  digest_taken : digest old.kept ≡ digest g.taken
  digest_taken = same_digest g.taken old.kept s.keeps.counts

  digest_leads : (new : State G) (answer : Result Out Refusal) → DigestCall old answer new
      → LeadsTo (OrWant answer (λ before next made. DigestStep before answer next × (made ≡ []))) (Unit {0}) g old new
  digest_leads new (Ok out) (within, is_out, u) =
      same_leads g old s (OrWant (Ok out) (λ before next made. DigestStep before (Ok out) next × (made ≡ []))) (Unit {0}) new u
      (inl ((subst IsDigestWithinLimit digest_taken within, is_out ∙ (λ i. record { sends = []; made = None; answer = []; digest = Some (digest_taken i); view = None }), refl), refl))
  digest_leads new (Err refusals.Full) (long, u) =
      same_leads g old s (OrWant (Err refusals.Full) (λ before next made. DigestStep before (Err refusals.Full) next × (made ≡ []))) (Unit {0}) new u
      (inl ((subst (λ (d : Digested). max_octets < length (digest_spelling d)) digest_taken long, refl), refl))
  digest_leads new (Err refusals.Memory) u = wants (λ before next made. DigestStep before (Err refusals.Memory) next × (made ≡ [])) (Unit {0}) new u
  digest_leads new (Err refusals.Halted) h = absurd h
  digest_leads new (Err (refusals.Frame fault)) h = absurd h
  digest_leads new (Err (refusals.Disk excuse)) h = absurd h
  digest_leads new (Err (refusals.Conflict of)) h = absurd h
  digest_leads new (Err refusals.Exhausted) h = absurd h
  digest_leads new (Err (refusals.Journal fault)) h = absurd h

  reply_leads : (new : State G) (asked : Digested) (answer : Result Out Refusal) → AnswerCall old asked answer new
      → LeadsTo (OrWant answer (λ before next made. ReplyStep before asked answer next × (made ≡ []))) (Unit {0}) g old new
  reply_leads new asked (Ok out) (is_answer, is_out, u) =
      same_leads g old s (OrWant (Ok out) (λ before next made. ReplyStep before asked (Ok out) next × (made ≡ []))) (Unit {0}) new u
      (inl ((same_answer g.taken old.kept s.keeps.counts asked out.answer is_answer, is_out, refl), refl))
  reply_leads new asked (Err refusals.Memory) u = wants (λ before next made. ReplyStep before asked (Err refusals.Memory) next × (made ≡ [])) (Unit {0}) new u
  reply_leads new asked (Err refusals.Full) h = absurd h
  reply_leads new asked (Err refusals.Halted) h = absurd h
  reply_leads new asked (Err (refusals.Frame fault)) h = absurd h
  reply_leads new asked (Err (refusals.Disk excuse)) h = absurd h
  reply_leads new asked (Err (refusals.Conflict of)) h = absurd h
  reply_leads new asked (Err refusals.Exhausted) h = absurd h
  reply_leads new asked (Err (refusals.Journal fault)) h = absurd h

  -- ---- a compaction

  abbrev Compacts : Result Out Refusal → State G → Type 0
  Compacts answer new = LeadsTo (OrWant answer (λ before next made. CompactStep before answer next × (made ≡ []))) (Unit {0}) g old new

  -- the generation that the journal goes by is the one that its slot tells
  numbered : G.honest → HasReadGeneration old.journal → generation_of old.journal ≡ generation g.config.gateway g.drive
  numbered honest number = number honest ∙ (λ i. generation_in (slot_content (s.numbered i) (at (s.slots honest i) (s.slot i)).synced))

  same_base : (base : List (List Op)) → G.honest → HasReadGeneration old.journal
      → base_bytes (gateway_of old.journal) (generation_of old.journal + 1) base ≡ base_bytes g.config.gateway (generation g.config.gateway g.drive + 1) base
  same_base base honest number = λ i. base_bytes (s.numbered i) (numbered honest number i + 1) base

  still : (answer : Result Out Refusal) (new : State G) → IsUnchanged old new → CompactStep g answer g → Compacts answer new
  still answer new u step = same_leads g old s (OrWant answer (λ before next made. CompactStep before answer next × (made ≡ []))) (Unit {0}) new u (inl (step, refl))

  abbrev anew : List (List Op) → Gateway
  anew base = record g { drive = compacted g.config.gateway base (record g.drive { plan = None }) }

  abbrev torn_anew : Failure → List (List Op) → Gateway
  torn_anew failure base = record g { drive = torn_base failure g.config.gateway base (record g.drive { plan = Some failure }) }

  anew_stands : (new : State G) (base : List (List Op)) → G.honest → new.config ≡ old.config → new.kept ≡ old.kept → new.local ≡ old.local → IsRewritten old.journal base new.journal → Represents (anew base) new
  anew_stands new base honest config kept local w = record {
    configured = config ∙ s.configured;
    numbered = w.gateway ∙ s.numbered;
    bound = local ∙ s.bound;
    keeps = keeps_still g old s new kept;
    slot = w.slot ∙ ap other_slot s.slot;
    halted = w.goes_on ∙ sym (goes g old s w.runs);
    slots = λ h. w.exact h ∙ (λ i. after_append None (emptied (s.slots h i) (other_slot (s.slot i))) (other_slot (s.slot i)) (same_base base h w.number i));
  }

  torn_anew_stands : (new : State G) (base : List (List Op)) (failure : Failure) → new.config ≡ old.config → new.kept ≡ old.kept → new.local ≡ old.local → IsNotRewritten old.journal base new.journal
      → (G.honest → G.slots (disk_under new.journal) ≡ after_append (Some failure) (emptied (G.slots (disk_under old.journal)) (other_slot (slot_of old.journal))) (other_slot (slot_of old.journal)) (base_bytes (gateway_of old.journal) (generation_of old.journal + 1) base))
      → Represents (torn_anew failure base) new
  torn_anew_stands new base failure config kept local w slots = record {
    configured = config ∙ s.configured;
    numbered = w.gateway ∙ s.numbered;
    bound = local ∙ s.bound;
    keeps = keeps_still g old s new kept;
    slot = w.slot ∙ s.slot;
    halted = w.halts;
    slots = λ h. slots h ∙ (λ i. after_append (Some failure) (emptied (s.slots h i) (other_slot (s.slot i))) (other_slot (s.slot i)) (same_base base h w.number i));
  }

  pub compact_leads : (new : State G) (answer : Result Out Refusal) → IsClear g old answer new → CompactCall old answer new → Compacts answer new
  compact_leads new (Ok out) known (runs, empty, h) =
      let w = h.rewritten in
      let stands = anew_stands new h.base known.honest h.config h.kept h.local w in
      record {
        fate = None;
        next = anew h.base;
        made = [];
        happens = inl (
          (
            subst (λ (n : ℕ). n ≢ last_generation) (numbered known.honest w.number) w.room,
            empty,
            (h.base, held-taken g.taken old.kept h.base s.keeps.counts h.held, refl),
            refl,
            goes g old s runs,
          ),
          refl,
        );
        stands = stands;
        foreseen = λ honest fed f. let none = unmet _ g.drive.plan _ _ _ _ _ f.plan (w.known honest fed) in (none.0, record { plan = none.1; quiet = refl });
        lasts = λ agrees honest l.
            from_taken (anew h.base) new stands honest (l.none (goes g old s runs)) (λ going. anew_synced g.drive.slots (other_slot g.drive.slot) _ (l.synced going))
            (rewritten old new h.base h.held h.kept w g.taken [] (to_taken g old s (goes g old s runs) honest l));
      }
  compact_leads new (Err refusals.Halted) known (halted, u) = still (Err refusals.Halted) new u (halts g old s halted, refl)
  compact_leads new (Err (refusals.Journal journal_faults.Foreign)) known (runs, last, number, u) =
      still (Err (refusals.Journal journal_faults.Foreign)) new u (sym (numbered known.honest number) ∙ last, refl, refl, goes g old s runs)
  compact_leads new (Err (refusals.Journal journal_faults.Disk)) known h = absurd h
  compact_leads new (Err (refusals.Journal journal_faults.Halted)) known h = absurd h
  compact_leads new (Err (refusals.Journal journal_faults.Memory)) known h = absurd h
  compact_leads new (Err (refusals.Journal (journal_faults.BadRecord slot at))) known h = absurd h
  compact_leads new (Err (refusals.Disk excuse)) known (runs, empty, h) =
      let w = h.failed in
      let cause = known.cause refl in
      let m = met _ g.drive.plan _ _ _ _ _ cause.1.plan (w.known known.honest cause.0) in
      let stands = torn_anew_stands new h.base m.0 h.config h.kept h.local w (λ _. m.2) in
      record {
        fate = Some m.0;
        next = torn_anew m.0 h.base;
        made = [];
        happens = inl (
          (
            subst (λ (n : ℕ). n ≢ last_generation) (numbered known.honest w.number) w.room,
            empty,
            (h.base, m.0, held-taken g.taken old.kept h.base s.keeps.counts h.held, refl, refl),
            goes g old s runs,
          ),
          refl,
        );
        stands = stands;
        foreseen = λ honest fed f. (m.1, record { plan = m.3; quiet = refl });
        lasts = λ agrees honest l.
            from_taken (torn_anew m.0 h.base) new stands honest (l.none (goes g old s runs)) (λ going. absurd (true≢false going))
            (not_rewritten old new h.base h.held h.kept w g.taken [] (to_taken g old s (goes g old s runs) honest l));
      }
  compact_leads new (Err refusals.Memory) known u = wants (λ before next made. CompactStep before (Err refusals.Memory) next × (made ≡ [])) (Unit {0}) new u
  compact_leads new (Err (refusals.Frame fault)) known h = absurd h
  compact_leads new (Err (refusals.Conflict client)) known h = absurd h
  compact_leads new (Err refusals.Full) known h = absurd h
  compact_leads new (Err refusals.Exhausted) known h = absurd h

  -- ---- a reopening

  -- what an opening of the disk would read now stands for the set, with what was refused or without
  pub read_now : Lasts g
      → RecoversTo g.config.gateway (with_refused (more_records g.config.gateway g.drive (image g.drive.slots)) g.taken g.refused) [] (image g.drive.slots)
  read_now l =
      subst (λ (i : Image). RecoversTo g.config.gateway (with_refused (more_records g.config.gateway g.drive i) g.taken g.refused) [] i) (all_left g.drive.slots)
      (l.images (length g.drive.slots.first.unsynced) (length g.drive.slots.second.unsynced))

  begun_now : Lasts g → is_fresh (image g.drive.slots) ≡ false
  begun_now l = subst (λ (i : Image). is_fresh i ≡ false) (all_left g.drive.slots) (l.begun (length g.drive.slots.first.unsynced) (length g.drive.slots.second.unsynced))

  reopened_leads : (new : State G) (out : Out) → G.honest → Lasts g → ReopenCall old (Ok out) new
      → LeadsTo (OrWant (Ok out) (λ before next made. ReopenStep before (Ok out) next × (made ≡ []))) (Unit {0}) g old new
  reopened_leads new out honest l (empty, w) =
      let i = image g.drive.slots in
      let next = reopened i g in
      let there = read_now l in
      let same : on_disk old ≡ records g.config.gateway i = λ j. records (s.numbered j) (image (s.slots honest j)) in
      let keeps : Keeps (all_of (records g.config.gateway i)) new.kept = subst (λ (ds : List (List Op)). Keeps (all_of ds) new.kept) same (w.keeps honest) in
      let counts = same_trans keeps.counts (as_taken next.taken (all_of (records g.config.gateway i)) there.whole) in
      let stands : Represents next new = record {
        configured = w.config ∙ s.configured;
        numbered = w.gateway ∙ s.numbered;
        bound = w.local;
        keeps = keeps-read next.taken (all_of (records g.config.gateway i)) new.kept there.between there.proper keeps counts;
        slot = (w.place honest).slot ∙ (λ j. slot_read (s.numbered j) (image (s.slots honest j)));
        halted = w.runs;
        slots = λ h. w.known h ∙ (λ j. recovered (s.numbered j) (image (s.slots h j)));
      } in
      record {
        fate = g.drive.plan;
        next = next;
        made = [];
        happens = inl ((empty, refl), refl);
        stands = stands;
        foreseen = λ h fed f. (
          refl,
          record {
            plan = w.quiet h fed
                (subst (λ (o : Option (Option Failure)). IsTrue (misses_failure o (is_fresh (image (G.slots (disk_under old.journal)))))) (sym f.plan)
                (subst (λ (b : Bool). IsTrue (misses_failure (Some g.drive.plan) b)) (sym (ap (λ (d : Slots). is_fresh (image d)) (s.slots h) ∙ begun_now l)) f.quiet))
                ∙ f.plan;
            quiet = f.quiet;
          },
        );
        lasts = λ agrees h k.
            from_taken next new stands h refl (λ runs. recovered_synced g.config.gateway i)
            (read_back new (gateway_of old.journal) (on_disk old) next.taken w.gateway (w.keeps h).counts (λ _. w.durable h)
            (subst (λ (ds : List (List Op)). StandFor next.taken [] ds) (sym same) (records_stand g.config.gateway next.taken [] i there)));
      }

  -- ---- every call

  pub step_leads : (new : State G) (step : Step) (answer : Result Out Refusal) → CanBeSaid g old step answer new → StepCall old step answer new
      → LeadsTo (λ before next made. Event before step answer next made) (CallAgrees g step) g old new
  step_leads new (steps.Frame from bytes now) answer premise h = own_leads new (Datagram from bytes) now answer h
  step_leads new (steps.Take delta) answer premise h = take_leads new delta answer h
  step_leads new (steps.Tick now) answer premise h = own_leads new Clock now answer h
  step_leads new (steps.View client) answer premise h = view_leads new client answer h
  step_leads new steps.Digest answer premise h = digest_leads new answer h
  step_leads new (steps.Answer asked) answer premise h = reply_leads new asked answer h
  step_leads new steps.Compact answer premise h = compact_leads new answer premise h
  step_leads new steps.Reopen (Ok out) premise h = reopened_leads new out premise.0 premise.1 h
  step_leads new steps.Reopen (Err refusal) premise h = absurd premise

-- each of them
pub event_on : {D : Type 0} {G : Ghosts D} (old new : State G) (step : Step) (answer : Result Out Refusal) → StepCall old step answer new → EventOn old step answer new
event_on old new step answer h = λ g s premise. step_leads g old s new step answer premise h
