-- Calls of a row, one after the other, and the gateways that they lead to.
use Rattle.std.proofs.Common.{◌≡◌, ◌≢◌, ◌⊎◌, ◌++◌, ◌∷◌, ◌+◌, ◌<◌, ℕ, zero, suc, length, take, map, get_or, true, false, List, [], Option, Some, None, Result, Ok, Err, refl, sym, ap, ◌∙◌, subst, append-nil, append_assoc, inl, inr, arith}
use Rattle.std.specs.List.{AllByRecursion}
use Rattle.std.proofs.lemmas.List.{map-append, take_more}
use Rattle.std.specs.Option.{option_to_list}
use Rattle.rep_op.specs.declared.op.Op.{Op}
use Rattle.rep_ops.specs.Deltas.{IsDelta}
use Rattle.rep_ops.specs.Making.{IsDeltaOf}
use Rattle.rep_ops.specs.Splitting.{all_of}
use Rattle.rep_ops.proofs.Splitting.{all_of_more}
use Rattle.rep_op.specs.declared.op.Subject.{Subject}
use Rattle.rep_model.specs.Keep.{CountsAs}
use Rattle.rep_model.specs.Taking.{AllAgree, Fits}
use Rattle.sn_plan.specs.declared.plan.Plan.{Plan}
use Rattle.sn_local.specs.Seen.{seen_of}
use Rattle.sn_local.specs.Locals.{after_all, owned}
use Rattle.jr_disk.specs.declared.disk.Disk.{Ghosts}
use Rattle.jr_disk.specs.declared.disk.Slot.{Slot}
use Rattle.jr_disk.specs.declared.disk.Slot.TheVariants.{First, Second}
use Rattle.jr_disk.specs.Disk.{SlotBytes, Slots}
use Rattle.jr_journal.specs.Arranged.{after_append}
use Rattle.jr_journal.specs.Records.{written, written_all}
use Rattle.gw_answer.specs.declared.out.Out.{Out}
use Rattle.gw_answer.specs.declared.refusal.Refusal.{Refusal}
use Rattle.gw_answer.specs.declared.refusal.Refusal.TheVariants as refusals
use Rattle.gw_answer.specs.declared.step.Step.{Step}
use Rattle.gw_answer.specs.declared.step.Step.TheVariants as steps
use Rattle.gw_event.specs.Drives.{Drive, with_record}
use Rattle.gw_event.specs.Gateways.{Gateway, with_refused}
use Rattle.gw_event.specs.Occasions.{Occasion, Datagram, Clock, IsPlanOf}
use Rattle.gw_event.specs.Event.{NothingHappens, IsMade, IsPlan, IsTooMuch, HasNoDelta, OwnStep, TakeStep, StepOf}
use Rattle.gw_event.specs.Together.{InTurnBy, CanWrite, put_by, put_by_all, halted_all, FailsLast}
use Rattle.gw_event.proofs.Turns.{step_adds}
use Rattle.gw_node.specs.Failures.{failed, failed_all}
use Rattle.gw_node.specs.Keeping.{Keeps}
use Rattle.gw_node.specs.Parts.{State, is_halted, IsUnchanged, IsUntouched}
use Rattle.gw_node.specs.Plans.{IsPlanFor}
use Rattle.gw_node.specs.Calls.{AreTooMuch}
use Rattle.gw_node.specs.Standing.{OwnAgrees, CallAgrees, AgreeInTurn}
use Rattle.gw_node.specs.inner.Ahead.{MakesAhead, IsDoneAhead, OwnAhead, TakeAhead, StepAhead}
use Rattle.gw_node.specs.inner.Rows.{TurnAhead, OneMore, WentOn}
use Rattle.gw_node.proofs.Unwritten.{nothing_done}
use Rattle.gw_node.proofs.Keeping.{keeps_more}
use Rattle.gw_node.proofs.Held.{seen_same, takable, conflict_with_taken, full_for_taken}
use Rattle.gw_node.proofs.Taken.{StandFor, MayFollow, taken_then}

abbrev Answers : Type 0
Answers = List (Result Out Refusal)

abbrev as_refusal : Refusal → Result Out Refusal
as_refusal refusal = Err refusal

-- ---- several records

-- the disk once these deltas are written, one by one
abbrev pub with_records : List (List Op) → Drive → Drive
with_records [] drive = drive
with_records (delta ∷ deltas) drive = with_records deltas (with_record delta drive)

pub records_more : (deltas more : List (List Op)) (drive : Drive) → with_records (deltas ++ more) drive ≡ with_records more (with_records deltas drive)
records_more [] more drive = refl
records_more (delta ∷ deltas) more drive = records_more deltas more (with_record delta drive)

pub records_plan : (deltas : List (List Op)) (drive : Drive) → (with_records deltas drive).plan ≡ drive.plan
records_plan [] drive = refl
records_plan (delta ∷ deltas) drive = records_plan deltas (with_record delta drive)

pub records_halted : (deltas : List (List Op)) (drive : Drive) → (with_records deltas drive).halted ≡ drive.halted
records_halted [] drive = refl
records_halted (delta ∷ deltas) drive = records_halted deltas (with_record delta drive)

pub records_slot : (deltas : List (List Op)) (drive : Drive) → (with_records deltas drive).slot ≡ drive.slot
records_slot [] drive = refl
records_slot (delta ∷ deltas) drive = records_slot deltas (with_record delta drive)

-- two appends that are synced are one of both
synced_twice : (s : SlotBytes) (a b : List ℕ) → (s.synced ++ (s.unsynced ++ a)) ++ ([] ++ b) ≡ s.synced ++ (s.unsynced ++ (a ++ b))
synced_twice s a b = append_assoc s.synced (s.unsynced ++ a) b ∙ ap (λ xs. s.synced ++ xs) (append_assoc s.unsynced a b)

append_twice : (d : Slots) (slot : Slot) (a b : List ℕ) → after_append None (after_append None d slot a) slot b ≡ after_append None d slot (a ++ b)
append_twice d First a b = λ i. record { first = record { synced = synced_twice d.first a b i; unsynced = [] }; second = d.second }
append_twice d Second a b = λ i. record { first = d.first; second = record { synced = synced_twice d.second a b i; unsynced = [] } }

-- so records that are written one by one are as in one append
pub records_slots : (delta : List Op) (deltas : List (List Op)) (drive : Drive) → (with_records (delta ∷ deltas) drive).slots ≡ after_append None drive.slots drive.slot (written_all (delta ∷ deltas))
records_slots delta [] drive = ap (λ xs. after_append None drive.slots drive.slot xs) (sym (append-nil (written delta)))
records_slots delta (next ∷ deltas) drive =
    records_slots next deltas (with_record delta drive) ∙ append_twice drive.slots drive.slot (written delta) (written_all (next ∷ deltas))

-- ---- deltas that may be taken one after the other

-- a delta contradicts nothing of the set, and both pass no limit
pub record IsNext (S D : List Op) : Type 0 where
  pub kept : List Op
  pub counts : CountsAs S kept
  pub fits : Fits kept D
  pub delta : IsDelta D
  pub agrees : AllAgree S D

abbrev pub AreNext : List Op → List (List Op) → Type 0
AreNext S [] = Unit {0}
AreNext S (D ∷ Ds) = IsNext S D × AreNext (S ++ D) Ds

pub next_more : (S : List Op) (Ds Es : List (List Op)) → AreNext S Ds → AreNext (S ++ all_of Ds) Es → AreNext S (Ds ++ Es)
next_more S [] Es h k = subst (λ (T : List Op). AreNext T Es) (append-nil S) k
next_more S (D ∷ Ds) Es h k = (h.0, next_more (S ++ D) Ds Es h.1 (subst (λ (T : List Op). AreNext T Es) (sym (append_assoc S D (all_of Ds))) k))

-- some first ones of them stand behind records as they stand behind the set
pub first_stand : (n : ℕ) (S : List Op) (Ds records : List (List Op)) → AreNext S Ds → StandFor S [] records → StandFor (with_refused n S Ds) [] (records ++ take n Ds)
first_stand zero S Ds records h stand = subst (λ (ds : List (List Op)). StandFor S [] ds) (sym (append-nil records)) stand
first_stand (suc n) S [] records h stand = subst (λ (ds : List (List Op)). StandFor S [] ds) (sym (append-nil records)) stand
first_stand (suc n) S (D ∷ Ds) records h stand =
    let may : MayFollow S h.0.kept D records = record { agrees = h.0.agrees; delta = h.0.delta; counts = h.0.counts; fits = h.0.fits; now = stand } in
    subst (λ (ds : List (List Op)). StandFor (with_refused n (S ++ D) Ds) [] ds) (append_assoc records (D ∷ []) (take n Ds))
    (first_stand n (S ++ D) Ds (records ++ D ∷ []) h.1 (taken_then S h.0.kept D records may))

-- how many of them there are is all that counts
pub so_many : (n : ℕ) (S : List Op) (Ds : List (List Op)) → with_refused (length (take n Ds)) S Ds ≡ with_refused n S Ds
so_many zero S Ds = refl
so_many (suc n) S [] = refl
so_many (suc n) S (D ∷ Ds) = so_many n (S ++ D) Ds

pub all_back : (S : List Op) (Ds : List (List Op)) → with_refused (length Ds) S Ds ≡ S ++ all_of Ds
all_back S [] = sym (append-nil S)
all_back S (D ∷ Ds) = all_back (S ++ D) Ds ∙ append_assoc S D (all_of Ds)

pub all_taken : (Ds : List (List Op)) → take (length Ds) Ds ≡ Ds
all_taken [] = refl
all_taken (D ∷ Ds) = ap (λ (ds : List (List Op)). D ∷ ds) (all_taken Ds)

-- ---- a node that is ahead of its journal

-- What the node keeps and knows is that of the gateway `there`. Its journal is still that of the
-- gateway `here`, of which these deltas are not written yet.
pub record IsAhead {D : Type 0} {G : Ghosts D} (here there : Gateway) (deltas : List (List Op)) (base now : State G) : Type 0 where
  pub configured : now.config ≡ there.config
  pub bound : now.local ≡ there.local
  pub keeps : Keeps there.taken now.kept
  pub records : now.records ≡ base.records
  pub journal : IsUntouched base.journal now.journal
  pub config : there.config ≡ here.config
  pub taken : there.taken ≡ here.taken ++ all_of deltas
  pub drive : there.drive ≡ with_records deltas here.drive
  pub refused : there.refused ≡ here.refused

-- what a call leads to
pub record Leads {D : Type 0} {G : Ghosts D} (here there : Gateway) (deltas : List (List Op)) (base : State G) (step : Step) (answer : Result Out Refusal) (new : State G) : Type 0 where
  pub next : Gateway
  pub made : List (List Op)
  pub does : StepOf there step answer next made
  pub ahead : IsAhead here next (deltas ++ put_by step answer) base new
  pub due : CallAgrees there step → AreNext there.taken (put_by step answer)

-- what calls lead to
pub record AllLead {D : Type 0} {G : Ghosts D} (here there : Gateway) (deltas : List (List Op)) (base : State G) (calls : List Step) (answers : Answers) (new : State G) : Type 0 where
  pub next : Gateway
  pub made : List (List Op)
  pub does : InTurnBy StepOf there calls answers next made
  pub ahead : IsAhead here next (deltas ++ put_by_all calls answers) base new
  pub due : AgreeInTurn there calls → AreNext there.taken (put_by_all calls answers)

module _ {D : Type 0} {G : Ghosts D} where
  untouched_then : (a b c : State G) → IsUntouched a.journal b.journal → IsUntouched b.journal c.journal → IsUntouched a.journal c.journal
  untouched_then a b c h k =
      record { gateway = k.gateway ∙ h.gateway; slot = k.slot ∙ h.slot; generation = k.generation ∙ h.generation; halted = k.halted ∙ h.halted; disk = k.disk ∙ h.disk }

  own_untouched : (old new : State G) (occasion : Occasion) (now : ℕ) (answer : Result Out Refusal) → OwnAhead old occasion now answer new → IsUntouched old.journal new.journal
  own_untouched old new occasion now (Ok out) h = h.2.journal
  own_untouched old new occasion now (Err refusals.Halted) h = absurd h
  own_untouched old new occasion now (Err (refusals.Frame fault)) h = h.1.journal
  own_untouched old new occasion now (Err refusals.Exhausted) h = h.1.journal
  own_untouched old new occasion now (Err (refusals.Conflict client)) h = h.1.journal
  own_untouched old new occasion now (Err refusals.Full) h = h.1.journal
  own_untouched old new occasion now (Err (refusals.Disk excuse)) h = absurd h
  own_untouched old new occasion now (Err refusals.Memory) h = h.journal
  own_untouched old new occasion now (Err (refusals.Journal fault)) h = absurd h

  take_untouched : (old new : State G) (delta : List Op) (answer : Result Out Refusal) → TakeAhead old delta answer new → IsUntouched old.journal new.journal
  take_untouched old new delta (Ok out) h = h.1.journal
  take_untouched old new delta (Err refusals.Halted) h = absurd h
  take_untouched old new delta (Err (refusals.Conflict client)) h = h.1.journal
  take_untouched old new delta (Err refusals.Full) h = h.1.journal
  take_untouched old new delta (Err (refusals.Disk excuse)) h = absurd h
  take_untouched old new delta (Err refusals.Memory) h = h.journal
  take_untouched old new delta (Err (refusals.Frame fault)) h = absurd h
  take_untouched old new delta (Err refusals.Exhausted) h = absurd h
  take_untouched old new delta (Err (refusals.Journal fault)) h = absurd h

  module _ (here there : Gateway) (deltas : List (List Op)) (base now : State G) (a : IsAhead here there deltas base now) (goes : here.drive.halted ≡ false) (free : here.drive.plan ≡ None) where
    runs : there.drive.halted ≡ false
    runs = ap (λ (d : Drive). d.halted) a.drive ∙ records_halted deltas here.drive ∙ goes

    no_plan : there.drive.plan ≡ None
    no_plan = ap (λ (d : Drive). d.plan) a.drive ∙ records_plan deltas here.drive ∙ free

    nothing : NothingHappens there there []
    nothing = record { same = refl; none = refl }

    planned : (occasion : Occasion) (moment : ℕ) (plan : Option Plan) → IsPlanFor now occasion moment plan → IsPlan there occasion moment plan
    planned occasion moment plan h =
        let seen : seen_of now.kept ≡ seen_of there.taken = seen_same there.taken now.kept a.keeps.counts in
        let same : IsPlanOf now.config (seen_of now.kept) now.local occasion moment plan ≡ IsPlanOf there.config (seen_of there.taken) there.local occasion moment plan =
        λ i. IsPlanOf (a.configured i) (seen i) (a.bound i) occasion moment plan in
        subst (λ (x : Type 0). x) same h

    too_much : (plan : Plan) (c : Subject) → AreTooMuch now.kept plan.ops (refusals.Conflict c) → IsTooMuch there plan (refusals.Conflict c)
    too_much plan c (inl (delta, is_delta, h)) = (delta, is_delta, conflict_with_taken there.taken now.kept delta c a.keeps h)
    too_much plan c (inr (e, h)) = absurd (cc)

    too_full : (plan : Plan) → AreTooMuch now.kept plan.ops refusals.Full → IsTooMuch there plan refusals.Full ⊎ HasNoDelta plan
    too_full plan (inl (delta, is_delta, (limit, h))) = inl (delta, is_delta, full_for_taken there.taken now.kept delta limit a.keeps h)
    too_full plan (inr (e, h)) = inr h

    -- nothing changed
    same_ahead : (new : State G) → IsUnchanged now new → IsAhead here there deltas base new
    same_ahead new u = record {
      configured = u.config ∙ a.configured;
      bound = u.local ∙ a.bound;
      keeps = subst (λ (K : List Op). Keeps there.taken K) (sym u.kept) a.keeps;
      records = u.records ∙ a.records;
      journal = untouched_then base now new a.journal u.journal;
      config = a.config;
      taken = a.taken;
      drive = a.drive;
      refused = a.refused;
    }

    stays : (step : Step) (answer : Result Out Refusal) (new : State G) → put_by step answer ≡ [] → IsUnchanged now new → StepOf there step answer there [] → Leads here there deltas base step answer new
    stays step answer new none u does = record {
      next = there;
      made = [];
      does = does;
      ahead = subst (λ (ds : List (List Op)). IsAhead here there ds base new) (sym (ap (λ (ds : List (List Op)). deltas ++ ds) none ∙ append-nil deltas)) (same_ahead new u);
      due = λ agrees. subst (λ (ds : List (List Op)). AreNext there.taken ds) (sym none) tt;
    }

    -- a delta more
    more_ahead : (new : State G) (delta : List Op) (next : Gateway) → next ≡ record there { taken = there.taken ++ delta; local = next.local; drive = with_record delta there.drive } → new.config ≡ now.config → new.records ≡ now.records
        → new.local ≡ next.local → Keeps (there.taken ++ delta) new.kept → IsUntouched now.journal new.journal → IsAhead here next (deltas ++ delta ∷ []) base new
    more_ahead new delta next is config records local keeps journal = record {
      configured = config ∙ a.configured ∙ sym (ap (λ (g : Gateway). g.config) is);
      bound = local;
      keeps = subst (λ (S : List Op). Keeps S new.kept) (sym (ap (λ (g : Gateway). g.taken) is)) keeps;
      records = records ∙ a.records;
      journal = untouched_then base now new a.journal journal;
      config = ap (λ (g : Gateway). g.config) is ∙ a.config;
      taken = ap (λ (g : Gateway). g.taken) is ∙ ap (λ (S : List Op). S ++ delta) a.taken ∙ append_assoc here.taken (all_of deltas) delta ∙ ap (λ (T : List Op). here.taken ++ T) (sym (all_of_more deltas delta));
      drive = ap (λ (g : Gateway). g.drive) is ∙ ap (λ (d : Drive). with_record delta d) a.drive ∙ sym (records_more deltas (delta ∷ []) here.drive);
      refused = ap (λ (g : Gateway). g.refused) is ∙ a.refused;
    }

    -- nothing more
    quiet_ahead : (new : State G) (next : Gateway) → next ≡ record there { local = next.local } → new.config ≡ now.config → new.records ≡ now.records → new.local ≡ next.local → Keeps there.taken new.kept
        → IsUntouched now.journal new.journal → IsAhead here next (deltas ++ []) base new
    quiet_ahead new next is config records local keeps journal =
        subst (λ (ds : List (List Op)). IsAhead here next ds base new) (sym (append-nil deltas))
        (record {
          configured = config ∙ a.configured ∙ sym (ap (λ (g : Gateway). g.config) is);
          bound = local;
          keeps = subst (λ (S : List Op). Keeps S new.kept) (sym (ap (λ (g : Gateway). g.taken) is)) keeps;
          records = records ∙ a.records;
          journal = untouched_then base now new a.journal journal;
          config = ap (λ (g : Gateway). g.config) is ∙ a.config;
          taken = ap (λ (g : Gateway). g.taken) is ∙ a.taken;
          drive = ap (λ (g : Gateway). g.drive) is ∙ a.drive;
          refused = ap (λ (g : Gateway). g.refused) is ∙ a.refused;
        })

    -- ---- a datagram, or a tick

    -- what such a call leads to
    abbrev Owns : Occasion → ℕ → Out → State G → Type 0
    Owns occasion moment out new =
        (next : Gateway) × (made : List (List Op)) × OwnStep there occasion moment (Ok out) next made × IsAhead here next (deltas ++ option_to_list out.made) base new
        × (OwnAgrees there occasion moment → AreNext there.taken (option_to_list out.made))

    own_done : (occasion : Occasion) (moment : ℕ) (plan : Plan) (out : Out) (new : State G) → IsPlan there occasion moment (Some plan) → IsDoneAhead now plan out new
        → (ops : List Op) (made : Option (List Op)) → plan.ops ≡ ops → out.made ≡ made → MakesAhead ops made now new → Owns occasion moment out new
    own_done occasion moment plan out new is_plan done [] None ops made kept =
        let next : Gateway = record there { local = after_all there.local plan.local } in
        let local : new.local ≡ next.local = done.local ∙ ap (λ b. after_all b plan.local) a.bound in (
          next,
          [],
          (
            plan,
            is_plan,
            (
              done.answer,
              subst (λ (os : List Op). IsMade os there plan out.made next []) (sym ops) (subst (λ (m : Option (List Op)). IsMade [] there plan m next []) (sym made) (refl, refl)),
              done.apart,
            ),
            runs,
          ),
          subst (λ (m : Option (List Op)). IsAhead here next (deltas ++ option_to_list m) base new) (sym made)
              (quiet_ahead new next refl done.config done.records local (subst (λ (K : List Op). Keeps there.taken K) (sym kept) a.keeps) done.journal),
          λ agrees. subst (λ (m : Option (List Op)). AreNext there.taken (option_to_list m)) (sym made) tt,
        )
    own_done occasion moment plan out new is_plan done [] (Some delta) ops made h = absurd h
    own_done occasion moment plan out new is_plan done (op ∷ rest) None ops made h = absurd h
    own_done occasion moment plan out new is_plan done (op ∷ rest) (Some delta) ops made (is_delta, fits, kept, writable) =
        let next : Gateway = record there { taken = there.taken ++ delta; local = after_all there.local plan.local; drive = with_record delta there.drive } in
        let local : new.local ≡ next.local = done.local ∙ ap (λ b. after_all b plan.local) a.bound in (
          next,
          delta ∷ [],
          (
            plan,
            is_plan,
            (
              done.answer,
              subst (λ (os : List Op). IsMade os there plan out.made next (delta ∷ [])) (sym ops)
                  (subst (λ (m : Option (List Op)). IsMade (op ∷ rest) there plan m next (delta ∷ [])) (sym made)
                  (is_delta, writable, takable there.taken now.kept delta a.keeps fits, refl, refl, no_plan)),
              done.apart,
            ),
            runs,
          ),
          subst (λ (m : Option (List Op)). IsAhead here next (deltas ++ option_to_list m) base new) (sym made)
              (more_ahead new delta next refl done.config done.records local (keeps_more there.taken now.kept delta new.kept a.keeps kept) done.journal),
          λ agrees.
              subst (λ (m : Option (List Op)). AreNext there.taken (option_to_list m)) (sym made) (
                record {
                  kept = now.kept;
                  counts = a.keeps.counts;
                  fits = fits;
                  delta = is_delta.delta;
                  agrees = agrees plan delta is_plan (subst (λ (os : List Op). IsDeltaOf os delta) (sym ops) is_delta);
                },
                tt,
              ),
        )

    own_leads : (occasion : Occasion) (moment : ℕ) (out : Out) (new : State G) → OwnAhead now occasion moment (Ok out) new → Owns occasion moment out new
    own_leads occasion moment out new (plan, is_plan, done) = own_done occasion moment plan out new (planned occasion moment (Some plan) is_plan) done plan.ops out.made refl refl done.made

    -- a refusal
    own_refused : (occasion : Occasion) (moment : ℕ) (refusal : Refusal) (new : State G) → OwnAhead now occasion moment (Err refusal) new → as_refusal refusal ≢ as_refusal refusals.Memory
        → OwnStep there occasion moment (Err refusal) there [] × IsUnchanged now new
    own_refused occasion moment refusals.Halted new h some = absurd h
    own_refused occasion moment (refusals.Frame fault) new h some = ((h.0, nothing, runs), h.1)
    own_refused occasion moment refusals.Exhausted new h some = ((planned occasion moment None h.0, nothing, runs), h.1)
    own_refused occasion moment (refusals.Conflict client) new ((plan, is_plan, why), u) some =
        ((plan, planned occasion moment (Some plan) is_plan, too_much plan client why, nothing, runs), u)
    own_refused occasion moment refusals.Full new ((plan, is_plan, why), u) some = ((plan, planned occasion moment (Some plan) is_plan, too_full plan why, nothing, runs), u)
    own_refused occasion moment (refusals.Disk excuse) new h some = absurd h
    own_refused occasion moment refusals.Memory new h some = absurd (some refl)
    own_refused occasion moment (refusals.Journal fault) new h some = absurd h

    -- ---- a delta

    -- clients that another gateway now owns are forgotten
    owned_then : (S K : List Op) → Keeps S K → owned now.config.gateway (seen_of K) now.local ≡ owned there.config.gateway (seen_of S) there.local
    owned_then S K keeps = let seen : seen_of K ≡ seen_of S = seen_same S K keeps.counts in λ i. owned (a.configured i).gateway (seen i) (a.bound i)

    take_done : (delta : List Op) (out : Out) (new : State G) → TakeAhead now delta (Ok out) new → Leads here there deltas base (steps.Take delta) (Ok out) new
    take_done [] out new (empty, h) =
        let keeps = keeps_more there.taken now.kept [] new.kept a.keeps h.kept in
        let next : Gateway = record there { local = owned there.config.gateway (seen_of (there.taken ++ [])) there.local } in
        record {
          next = next;
          made = [];
          does = (empty, takable there.taken now.kept [] a.keeps h.fits, refl, (λ i. record next { taken = sym (append-nil there.taken) i }), tt, runs);
          ahead = quiet_ahead new next refl h.config h.records (h.local ∙ owned_then (there.taken ++ []) new.kept keeps) (subst (λ (S : List Op). Keeps S new.kept) (append-nil there.taken) keeps) h.journal;
          due = λ agrees. tt;
        }
    take_done (op ∷ ops) out new (empty, h) =
        let delta = op ∷ ops in
        let keeps = keeps_more there.taken now.kept delta new.kept a.keeps h.kept in
        let next : Gateway = record there { taken = there.taken ++ delta; local = owned there.config.gateway (seen_of (there.taken ++ delta)) there.local; drive = with_record delta there.drive } in
        record {
          next = next;
          made = [];
          does = (empty, takable there.taken now.kept delta a.keeps h.fits, refl, refl, no_plan, runs);
          ahead = more_ahead new delta next refl h.config h.records (h.local ∙ owned_then (there.taken ++ delta) new.kept keeps) keeps h.journal;
          due = λ agrees. (record { kept = now.kept; counts = a.keeps.counts; fits = h.fits; delta = h.is_delta; agrees = agrees }, tt);
        }

    take_refused : (delta : List Op) (refusal : Refusal) (new : State G) → TakeAhead now delta (Err refusal) new → as_refusal refusal ≢ as_refusal refusals.Memory → TakeStep there delta (Err refusal) there [] × IsUnchanged now new
    take_refused delta refusals.Halted new h some = absurd h
    take_refused delta (refusals.Conflict client) new h some = ((conflict_with_taken there.taken now.kept delta client a.keeps h.0, nothing, runs), h.1)
    take_refused delta refusals.Full new h some = ((full_for_taken there.taken now.kept delta h.0.0 a.keeps h.0.1, nothing, runs), h.1)
    take_refused delta (refusals.Disk excuse) new h some = absurd h
    take_refused delta refusals.Memory new h some = absurd (some refl)
    take_refused delta (refusals.Frame fault) new h some = absurd h
    take_refused delta refusals.Exhausted new h some = absurd h
    take_refused delta (refusals.Journal fault) new h some = absurd h

    -- ---- a call

    pub call_leads : (step : Step) (answer : Result Out Refusal) (new : State G) → StepAhead now step answer new → answer ≢ Err refusals.Memory → Leads here there deltas base step answer new
    call_leads (steps.Frame from bytes moment) (Ok out) new h some = let l = own_leads (Datagram from bytes) moment out new h in record { next = l.0; made = l.1; does = l.2; ahead = l.3; due = l.4 }
    call_leads (steps.Tick moment) (Ok out) new h some = let l = own_leads Clock moment out new h in record { next = l.0; made = l.1; does = l.2; ahead = l.3; due = l.4 }
    call_leads (steps.Take delta) (Ok out) new h some = take_done delta out new h
    call_leads (steps.Frame from bytes moment) (Err refusal) new h some =
        let r = own_refused (Datagram from bytes) moment refusal new h some in stays (steps.Frame from bytes moment) (Err refusal) new refl r.1 r.0
    call_leads (steps.Tick moment) (Err refusal) new h some = let r = own_refused Clock moment refusal new h some in stays (steps.Tick moment) (Err refusal) new refl r.1 r.0
    call_leads (steps.Take delta) (Err refusal) new h some = let r = take_refused delta refusal new h some in stays (steps.Take delta) (Err refusal) new refl r.1 r.0
    call_leads (steps.View client) answer new h some = absurd h
    call_leads steps.Digest answer new h some = absurd h
    call_leads (steps.Answer asked) answer new h some = absurd h
    call_leads steps.Compact answer new h some = absurd h
    call_leads steps.Reopen answer new h some = absurd h

  -- ---- calls

  -- such a call may write
  can_write : (old new : State G) (step : Step) (answer : Result Out Refusal) → StepAhead old step answer new → CanWrite step
  can_write old new (steps.Frame from bytes now) answer h = tt
  can_write old new (steps.Take delta) answer h = tt
  can_write old new (steps.Tick now) answer h = tt
  can_write old new (steps.View client) answer h = absurd h
  can_write old new steps.Digest answer h = absurd h
  can_write old new (steps.Answer asked) answer h = absurd h
  can_write old new steps.Compact answer h = absurd h
  can_write old new steps.Reopen answer h = absurd h

  -- what the first and those behind it lead to
  then_lead : (here there : Gateway) (deltas : List (List Op)) (base new : State G) (step : Step) (answer : Result Out Refusal) (rest : List Step) (answers : Answers) (mid : State G) → CanWrite step
      → (l : Leads here there deltas base step answer mid) → AllLead here l.next (deltas ++ put_by step answer) base rest answers new → AllLead here there deltas base (step ∷ rest) (answer ∷ answers) new
  then_lead here there deltas base new step answer rest answers mid can l more =
      let grows : l.next.taken ≡ there.taken ++ all_of (put_by step answer) = step_adds there l.next step answer l.made can l.does in
      record {
        next = more.next;
        made = l.made ++ more.made;
        does = (l.next, l.made, more.made, l.does, more.does, refl);
        ahead = subst (λ (ds : List (List Op)). IsAhead here more.next ds base new) (append_assoc deltas (put_by step answer) (put_by_all rest answers)) more.ahead;
        due = λ agrees.
            next_more there.taken (put_by step answer) (put_by_all rest answers) (l.due agrees.0)
            (subst (λ (S : List Op). AreNext S (put_by_all rest answers)) grows (more.due (agrees.1 answer l.next l.made (inl l.does))));
      }

  pub turn_leads : (here there : Gateway) (deltas : List (List Op)) (base now new : State G) → IsAhead here there deltas base now → here.drive.halted ≡ false → here.drive.plan ≡ None
      → (calls : List Step) (answers : Answers) → TurnAhead now calls answers new → AllLead here there deltas base calls answers new
  turn_leads here there deltas base now new a goes free [] [] h = record {
    next = there;
    made = [];
    does = record { same = refl; none = refl };
    ahead = subst (λ (ds : List (List Op)). IsAhead here there ds base new) (sym (append-nil deltas)) (subst (λ (s : State G). IsAhead here there deltas base s) (sym h) a);
    due = λ agrees. tt;
  }
  turn_leads here there deltas base now new a goes free (step ∷ rest) (answer ∷ answers) (mid, does, some, more) =
      let l = call_leads here there deltas base now a goes free step answer mid does some in
      then_lead here there deltas base new step answer rest answers mid (can_write now mid step answer does) l
      (turn_leads here l.next (deltas ++ put_by step answer) base mid new l.ahead goes free rest answers more)
  turn_leads here there deltas base now new a goes free [] (answer ∷ answers) h = absurd h
  turn_leads here there deltas base now new a goes free (step ∷ rest) [] h = absurd h

  -- ---- the calls so far

  -- each of them may write
  pub all_write : (old new : State G) (calls : List Step) (answers : Answers) → TurnAhead old calls answers new → AllByRecursion CanWrite calls
  all_write old new [] [] h = tt
  all_write old new (step ∷ rest) (answer ∷ answers) (mid, does, some, more) = (can_write old mid step answer does, all_write mid new rest answers more)
  all_write old new [] (answer ∷ answers) h = absurd h
  all_write old new (step ∷ rest) [] h = absurd h

  -- each has an answer
  pub as_many : (old new : State G) (calls : List Step) (answers : Answers) → TurnAhead old calls answers new → length answers ≡ length calls
  as_many old new [] [] h = refl
  as_many old new (step ∷ rest) (answer ∷ answers) (mid, does, some, more) = ap suc (as_many mid new rest answers more)
  as_many old new [] (answer ∷ answers) h = absurd h
  as_many old new (step ∷ rest) [] h = absurd h

  pub all_halted : (old new : State G) (calls : List Step) (answers : Answers) → TurnAhead old calls answers new → map (λ (a : Result Out Refusal). Err refusals.Halted) answers ≡ halted_all calls
  all_halted old new [] [] h = refl
  all_halted old new (step ∷ rest) (answer ∷ answers) (mid, does, some, more) = ap (λ (xs : Answers). Err refusals.Halted ∷ xs) (all_halted mid new rest answers more)
  all_halted old new [] (answer ∷ answers) h = absurd h
  all_halted old new (step ∷ rest) [] h = absurd h

  -- none of them was told of the disk
  none_failed : (old new : State G) (step : Step) (answer : Result Out Refusal) → StepAhead old step answer new → failed answer ≡ 0
  none_failed old new step (Ok out) h = refl
  none_failed old new step (Err refusals.Halted) h = refl
  none_failed old new step (Err (refusals.Frame fault)) h = refl
  none_failed old new step (Err refusals.Exhausted) h = refl
  none_failed old new step (Err (refusals.Conflict client)) h = refl
  none_failed old new step (Err refusals.Full) h = refl
  none_failed old new step (Err (refusals.Journal fault)) h = refl
  none_failed old new step (Err refusals.Memory) h = refl
  none_failed old new (steps.Frame from bytes now) (Err (refusals.Disk excuse)) h = absurd h
  none_failed old new (steps.Take delta) (Err (refusals.Disk excuse)) h = absurd h
  none_failed old new (steps.Tick now) (Err (refusals.Disk excuse)) h = absurd h
  none_failed old new (steps.View client) (Err (refusals.Disk excuse)) h = absurd h
  none_failed old new steps.Digest (Err (refusals.Disk excuse)) h = absurd h
  none_failed old new (steps.Answer asked) (Err (refusals.Disk excuse)) h = absurd h
  none_failed old new steps.Compact (Err (refusals.Disk excuse)) h = absurd h
  none_failed old new steps.Reopen (Err (refusals.Disk excuse)) h = absurd h

  pub turn_failed : (old new : State G) (calls : List Step) (answers : Answers) → TurnAhead old calls answers new → failed_all answers ≡ 0
  turn_failed old new [] [] h = refl
  turn_failed old new (step ∷ rest) (answer ∷ answers) (mid, does, some, more) =
      let one : failed answer ≡ 0 = none_failed old mid step answer does in
      let others : failed_all answers ≡ 0 = turn_failed mid new rest answers more in
      omega (arith, one, others)
  turn_failed old new [] (answer ∷ answers) h = absurd h
  turn_failed old new (step ∷ rest) [] h = absurd h

  -- an answer that the disk failed would be the last
  last_of : (old new : State G) (step : Step) (answer : Result Out Refusal) (answers : Answers) → StepAhead old step answer new → FailsLast answers → FailsLast (answer ∷ answers)
  last_of old new step (Ok out) answers h k = k
  last_of old new step (Err refusals.Halted) answers h k = k
  last_of old new step (Err (refusals.Frame fault)) answers h k = k
  last_of old new step (Err refusals.Exhausted) answers h k = k
  last_of old new step (Err (refusals.Conflict client)) answers h k = k
  last_of old new step (Err refusals.Full) answers h k = k
  last_of old new step (Err (refusals.Journal fault)) answers h k = k
  last_of old new step (Err refusals.Memory) answers h k = k
  last_of old new step (Err (refusals.Disk excuse)) answers h k = absurd (let e : 1 ≡ 0 = none_failed old new step (Err (refusals.Disk excuse)) h in cc)

  pub turn_last : (old new : State G) (calls : List Step) (answers : Answers) → TurnAhead old calls answers new → FailsLast answers
  turn_last old new [] [] h = tt
  turn_last old new (step ∷ rest) (answer ∷ answers) (mid, does, some, more) = last_of old mid step answer answers does (turn_last mid new rest answers more)
  turn_last old new [] (answer ∷ answers) h = absurd h
  turn_last old new (step ∷ rest) [] h = absurd h

  -- the journal is as it was
  step_untouched : (old new : State G) (step : Step) (answer : Result Out Refusal) → StepAhead old step answer new → IsUntouched old.journal new.journal
  step_untouched old new (steps.Frame from bytes now) answer h = own_untouched old new (Datagram from bytes) now answer h
  step_untouched old new (steps.Tick now) answer h = own_untouched old new Clock now answer h
  step_untouched old new (steps.Take delta) answer h = take_untouched old new delta answer h
  step_untouched old new (steps.View client) answer h = absurd h
  step_untouched old new steps.Digest answer h = absurd h
  step_untouched old new (steps.Answer asked) answer h = absurd h
  step_untouched old new steps.Compact answer h = absurd h
  step_untouched old new steps.Reopen answer h = absurd h

  pub turn_untouched : (old new : State G) (calls : List Step) (answers : Answers) → TurnAhead old calls answers new → IsUntouched old.journal new.journal
  turn_untouched old new [] [] h = subst (λ (s : State G). IsUntouched old.journal s.journal) (sym h) (record { gateway = refl; slot = refl; generation = refl; halted = refl; disk = refl })
  turn_untouched old new (step ∷ rest) (answer ∷ answers) (mid, does, some, more) = untouched_then old mid new (step_untouched old mid step answer does) (turn_untouched mid new rest answers more)
  turn_untouched old new [] (answer ∷ answers) h = absurd h
  turn_untouched old new (step ∷ rest) [] h = absurd h

  -- ---- calls that are carried out one by one

  turn_more : (old mid new : State G) (calls : List Step) (replies : Answers) (step : Step) (reply : Result Out Refusal) → TurnAhead old calls replies mid → StepAhead mid step reply new → reply ≢ Err refusals.Memory
      → TurnAhead old (calls ++ step ∷ []) (replies ++ reply ∷ []) new
  turn_more old mid new [] [] step reply h does some = (new, subst (λ (s : State G). StepAhead s step reply new) h does, some, refl)
  turn_more old mid new (call ∷ calls) (answer ∷ replies) step reply (between, first, wants, more) does some =
      (between, first, wants, turn_more between mid new calls replies step reply more does some)
  turn_more old mid new [] (answer ∷ replies) step reply h does some = absurd h
  turn_more old mid new (call ∷ calls) [] step reply h does some = absurd h

  puts_more : (old mid : State G) (calls : List Step) (replies : Answers) (step : Step) (reply : Result Out Refusal) → TurnAhead old calls replies mid
      → put_by_all (calls ++ step ∷ []) (replies ++ reply ∷ []) ≡ put_by_all calls replies ++ put_by step reply
  puts_more old mid [] [] step reply h = append-nil (put_by step reply)
  puts_more old mid (call ∷ calls) (answer ∷ replies) step reply (between, first, wants, more) =
      ap (λ (ds : List (List Op)). put_by call answer ++ ds) (puts_more between mid calls replies step reply more) ∙ sym (append_assoc (put_by call answer) (put_by_all calls replies) (put_by step reply))
  puts_more old mid [] (answer ∷ replies) step reply h = absurd h
  puts_more old mid (call ∷ calls) [] step reply h = absurd h

  -- these calls are carried out; their answers and what they put into the journal are behind what was there
  pub record GoneOn (old : State G) (calls : List Step) (said : Answers) (puts : List (List Op)) (answers : Answers) (all : List (List Op)) (new : State G) : Type 0 where
    pub replies : Answers
    pub turn : TurnAhead old calls replies new
    pub answers_are : answers ≡ said ++ replies
    pub puts_are : all ≡ puts ++ put_by_all calls replies

  pub gone_none : (old : State G) (said : Answers) (puts : List (List Op)) → GoneOn old [] said puts said puts old
  gone_none old said puts = record { replies = []; turn = refl; answers_are = sym (append-nil said); puts_are = sym (append-nil puts) }

  pub gone_more : (old mid new : State G) (calls : List Step) (step : Step) (said answers next : Answers) (puts all more : List (List Op)) → GoneOn old calls said puts answers all mid
      → OneMore mid step answers all true next more new → GoneOn old (calls ++ step ∷ []) said puts next more new
  gone_more old mid new calls step said answers next puts all more g (reply, does, some, answers_are, puts_are) = record {
    replies = g.replies ++ reply ∷ [];
    turn = turn_more old mid new calls g.replies step reply g.turn does some;
    answers_are = answers_are ∙ ap (λ (xs : Answers). xs ++ reply ∷ []) g.answers_are ∙ append_assoc said g.replies (reply ∷ []);
    puts_are = puts_are ∙ ap (λ (ds : List (List Op)). ds ++ put_by step reply) g.puts_are ∙ append_assoc puts (put_by_all calls g.replies) (put_by step reply)
        ∙ ap (λ (ds : List (List Op)). puts ++ ds) (sym (puts_more old mid calls g.replies step reply g.turn));
  }

  -- the next call is for another row
  pub gone_stops : (old mid new : State G) (count : ℕ) (calls : List Step) (step : Step) (said answers next : Answers) (puts all more : List (List Op)) → GoneOn old (take count calls) said puts answers all mid
      → OneMore mid step answers all false next more new → WentOn old calls said puts next more new
  gone_stops old mid new count calls step said answers next puts all more g (same, answers_are, puts_are) = record {
    count = count;
    replies = g.replies;
    after = mid;
    turn = g.turn;
    same = same;
    answers_are = answers_are ∙ g.answers_are;
    puts_are = puts_are ∙ g.puts_are;
  }

  -- or there is none
  pub gone_all : (old new : State G) (count : ℕ) (calls : List Step) (said answers : Answers) (puts all : List (List Op)) → GoneOn old (take count calls) said puts answers all new → WentOn old calls said puts answers all new
  gone_all old new count calls said answers puts all g = record {
    count = count;
    replies = g.replies;
    after = new;
    turn = g.turn;
    same = nothing_done new;
    answers_are = g.answers_are;
    puts_are = g.puts_are;
  }

  pub gone_runs : (old new : State G) (calls : List Step) (said answers : Answers) (puts all : List (List Op)) → is_halted old ≡ false → GoneOn old calls said puts answers all new → is_halted new ≡ false
  gone_runs old new calls said answers puts all runs g = (turn_untouched old new calls g.replies g.turn).halted ∙ runs

  pub went_runs : (old new : State G) (calls : List Step) (said answers : Answers) (puts all : List (List Op)) → is_halted old ≡ false → WentOn old calls said puts answers all new → is_halted new ≡ false
  went_runs old new calls said answers puts all runs h = h.same.journal.halted ∙ (turn_untouched old h.after (take h.count calls) h.replies h.turn).halted ∙ runs

-- the first of several values, and one more
take_map : {X Y : Type 0} (f : X → Y) (n : ℕ) (xs : List X) → take n (map f xs) ≡ map f (take n xs)
take_map f zero xs = refl
take_map f (suc n) [] = refl
take_map f (suc n) (x ∷ xs) = ap (λ ys. f x ∷ ys) (take_map f n xs)

pub one_more_of : {X Y : Type 0} (f : X → Y) (xs : List X) (i : ℕ) (x : X) → i < length xs → x ≡ get_or xs i x → take (i + 1) (map f xs) ≡ take i (map f xs) ++ f x ∷ []
one_more_of f xs i x within is =
    take_map f (i + 1) xs ∙ ap (λ ys. map f ys) (take_more xs i x within ∙ ap (λ y. take i xs ++ y ∷ []) (sym is)) ∙ map-append f (take i xs) (x ∷ []) ∙ ap (λ ys. ys ++ f x ∷ []) (sym (take_map f i xs))
