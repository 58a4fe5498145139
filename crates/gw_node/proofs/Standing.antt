-- From what a node's calls do to what they do to the gateway that it stands for.
use Rattle.std.proofs.Common.{◌≡◌, ◌≢◌, ◌⊎◌, ℕ, ◌+◌, length, ◌-◌, zero, suc, if◌then◌else◌, arith, Bool, true, false, true≢false, append-nil, inl, inr, List, [], ◌∷◌, ◌++◌, Option, Some, None, Ok, Err, refl, sym, ap, ◌∙◌, subst}
use Rattle.std.specs.Prelude.{IsSome}
use Rattle.std.proofs.lemmas.List.{length-append}
use Rattle.std.proofs.lemmas.List.Elements.{All-from_recursion, All-contains}
use Rattle.rep_op.specs.declared.op.Op.{Op}
use Rattle.rep_op.specs.declared.op.Op.TheVariants.{Session as OfSession, Put as OfPut, Retain as OfRetain}
use Rattle.rep_ops.specs.Deltas.{IsDelta}
use Rattle.rep_op.specs.Orders.{clock_of}
use Rattle.rep_op.specs.Sets.{operation_at, put_at, retain_at, HasOperation, IsConsistent}
use Rattle.rep_model.specs.Keep.{CountsAs, IsKeptOf}
use Rattle.rep_model.specs.Taking.{AllAgree, Fits}
use Rattle.sn_local.specs.Locals.{Local}
use Rattle.jr_disk.specs.declared.disk.Disk.{Ghosts}
use Rattle.jr_disk.specs.declared.disk.Failure.{Failure}
use Rattle.jr_disk.specs.declared.disk.Failure.TheVariants.{Stop, KeepBack, FailSync}
use Rattle.jr_disk.specs.declared.disk.Slot.{Slot}
use Rattle.jr_disk.specs.declared.disk.Slot.TheVariants.{First, Second}
use Rattle.jr_journal.specs.declared.fault.JournalFault.TheVariants as journal_faults
use Rattle.jr_disk.specs.Disk.{Slots, Image, image, after_crash, EachCrash}
use Rattle.jr_journal.specs.Faults.{is_fresh}
use Rattle.jr_journal.specs.Crashes.{Opens, recovered, reads_first}
use Rattle.jr_journal.specs.Arranged.{after_append, IsStruck, AppendedAs}
use Rattle.jr_journal.specs.Journals.{emptied}
use Rattle.jr_journal.specs.Parts.{disk_under, gateway_of, slot_of}
use Rattle.jr_journal.specs.Records.{written, records, slot_content}
use Rattle.gw_event.specs.Drives.{with_record, torn, more_records, left_by}
use Rattle.gw_event.specs.Gateways.{Gateway, with_refused}
use Rattle.gw_node.specs.Keeping.{Keeps}
use Rattle.gw_node.specs.Parts.{State, is_halted, IsUntouched, IsUnchanged}
use Rattle.gw_node.specs.Standing.{IsSynced, Lasts, Represents, IsForeseen, with_failure, LeadsTo}
use Rattle.gw_node.specs.Taking.{on_disk, IsBetween, RecoversTo, HasTaken}
use Rattle.gw_node.specs.Writing.{IsWritten, IsFailed}
use Rattle.gw_node.proofs.Keeping.{keeps_more}
use Rattle.gw_node.proofs.Occurring.{operation_occurs, put_occurs, retain_occurs}
use Rattle.gw_node.proofs.Refused.{without}
use Rattle.gw_node.proofs.Taken.{StandFor, MayFollow, stands_at, records_stand, taken_then, opened, more}

-- ---- sets

-- where a replica keeps what the records have, and these stand for the set
pub keeps-read : (S J K : List Op) → IsBetween S [] J → IsConsistent J → Keeps J K → CountsAs S K → Keeps S K
keeps-read S J K between proper keeps counts = record {
  counts = counts;
  operations_taken = λ c name change e.
      let there = keeps.operations_taken c name change e in
      let stands = All-contains (HasOperation J) J (OfSession c name.0 name.1 change) (All-from_recursion (HasOperation J) J proper) there in
      operation_occurs c S (name.0, name.1) change
      (subst (λ (T : List Op). operation_at c T (name.0, name.1) ≡ Some change) (append-nil S) (between.upper.operations_in c (name.0, name.1) change stands));
  puts_taken = λ c name put e.
      let there = keeps.puts_taken c name put e in
      let stands = All-contains (HasOperation J) J (OfPut c put) (All-from_recursion (HasOperation J) J proper) there.0 in
      let found = subst (λ (T : List Op). put_at c T (put.seq, put.origin) ≡ Some put) (append-nil S) (between.upper.puts_in c (put.seq, put.origin) put stands) in
      ((put_occurs c S (put.seq, put.origin) put found).0, there.1);
  retains_taken = λ t name last e.
      let there = keeps.retains_taken t name last e in
      let stands = All-contains (HasOperation J) J (OfRetain t last) (All-from_recursion (HasOperation J) J proper) there.0 in
      let found = subst (λ (T : List Op). retain_at t T (clock_of last) ≡ Some last) (append-nil S) (between.upper.retains_in t (clock_of last) last stands) in
      ((retain_occurs t S (clock_of last) last found).0, there.1);
}

-- ---- all of a disk is synced

pub append_synced : (d : Slots) (slot : Slot) (bytes : List ℕ) → IsSynced d → IsSynced (after_append None d slot bytes)
append_synced d First bytes h = record { first = refl; second = h.second }
append_synced d Second bytes h = record { first = h.first; second = refl }

pub anew_synced : (d : Slots) (slot : Slot) (bytes : List ℕ) → IsSynced d → IsSynced (after_append None (emptied d slot) slot bytes)
anew_synced d First bytes h = record { first = refl; second = h.second }
anew_synced d Second bytes h = record { first = h.first; second = refl }

if_synced : (b : Bool) (one other : Slots) → IsSynced one → IsSynced other → IsSynced (if b then one else other)
if_synced true one other h k = h
if_synced false one other h k = k

pub recovered_synced : (gateway : ℕ) (i : Image) → IsSynced (recovered gateway i)
recovered_synced gateway i =
    if_synced (is_fresh i) _ _ (record { first = refl; second = refl })
    (if_synced (reads_first (slot_content gateway i.first) (slot_content gateway i.second)) _ _ (record { first = refl; second = refl }) (record { first = refl; second = refl }))

-- ---- a failure that comes

-- of a failed append nothing need be left
pub left_torn : (failure : Failure) (d : Slots) (slot : Slot) (bytes : List ℕ) → IsSynced d → after_crash 0 0 (after_append (Some failure) d slot bytes) ≡ image d
left_torn (Stop k) d First bytes h = λ i. record { first = d.first.synced ++ sym h.first i; second = d.second.synced ++ sym h.second i }
left_torn (Stop k) d Second bytes h = λ i. record { first = d.first.synced ++ sym h.first i; second = d.second.synced ++ sym h.second i }
left_torn KeepBack d First bytes h = λ i. record { first = d.first.synced ++ sym h.first i; second = d.second.synced ++ sym h.second i }
left_torn KeepBack d Second bytes h = λ i. record { first = d.first.synced ++ sym h.first i; second = d.second.synced ++ sym h.second i }
left_torn FailSync d First bytes h = λ i. record { first = d.first.synced ++ sym h.first i; second = d.second.synced ++ sym h.second i }
left_torn FailSync d Second bytes h = λ i. record { first = d.first.synced ++ sym h.first i; second = d.second.synced ++ sym h.second i }

-- the failure that came as bytes were written: where it was known which one is arranged, it is that one
pub record Came (Honest : Type 0) (starved : Bool) (o : Option (Option Failure)) (old : Slots) (slot : Slot) (bytes : List ℕ) (new : Slots) (after : Option (Option Failure)) : Type 0 where
  pub failure : Failure
  pub slots : Honest → new ≡ after_append (Some failure) old slot bytes
  pub known : Honest → starved ≡ false → (plan : Option Failure) → o ≡ Some plan → (Some failure ≡ plan) × (after ≡ Some None)

pub came : (Honest : Type 0) (starved : Bool) (o : Option (Option Failure)) (old : Slots) (slot : Slot) (bytes : List ℕ) (new : Slots) (after : Option (Option Failure)) → IsStruck Honest old slot bytes new
    → (Honest → starved ≡ false → AppendedAs o old slot bytes (Err journal_faults.Disk) new after) → Came Honest starved o old slot bytes new after
came Honest true o old slot bytes new after s k = record { failure = s.0; slots = s.1; known = λ honest fed plan e. absurd (true≢false fed) }
came Honest false None old slot bytes new after s k = record { failure = s.0; slots = s.1; known = λ honest fed plan e. absurd cc }
came Honest false (Some None) old slot bytes new after s k =
    record { failure = s.0; slots = s.1; known = λ honest fed plan e. absurd (let none : IsSome {T = Failure} None = (k honest refl).0 in cc) }
came Honest false (Some (Some failure)) old slot bytes new after s k =
    record { failure = failure; slots = λ honest. (k honest refl).1; known = λ honest fed plan e. (cc, (k honest refl).2) }

-- an append that failed met the failure that was arranged
pub met : (o : Option (Option Failure)) (plan : Option Failure) (old : Slots) (slot : Slot) (bytes : List ℕ) (new : Slots) (after : Option (Option Failure)) → o ≡ Some plan
    → AppendedAs o old slot bytes (Err journal_faults.Disk) new after
    → (failure : Failure) × (Some failure ≡ plan) × (new ≡ after_append (Some failure) old slot bytes) × (after ≡ Some None)
met o (Some failure) old slot bytes new after e h =
    let k = subst (λ (x : Option (Option Failure)). AppendedAs x old slot bytes (Err journal_faults.Disk) new after) e h in (failure, refl, k.1, k.2)
met o None old slot bytes new after e h =
    let k = subst (λ (x : Option (Option Failure)). AppendedAs x old slot bytes (Err journal_faults.Disk) new after) e h in
    absurd (let none : IsSome {T = Failure} None = k.0 in cc)

-- and one that went out met none
pub unmet : (o : Option (Option Failure)) (plan : Option Failure) (old : Slots) (slot : Slot) (bytes : List ℕ) (new : Slots) (after : Option (Option Failure)) → o ≡ Some plan
    → AppendedAs o old slot bytes (Ok (record {})) new after → (None ≡ plan) × (after ≡ Some None)
unmet o plan old slot bytes new after e h =
    let k = subst (λ (x : Option (Option Failure)). AppendedAs x old slot bytes (Ok (record {})) new after) e h in (sym k.0, k.2)

one_above : (n m : ℕ) → m ≡ n + 1 → m - n ≡ suc zero
one_above n m e = omega (arith, e)

none_above : (n m : ℕ) → m ≡ n → m - n ≡ zero
none_above n m e = omega (arith, e)

-- ---- what a call leaves of a gateway

-- one more record
abbrev pub wrote : List Op → Local → Gateway → Gateway
wrote delta local g = record g { taken = g.taken ++ delta; local = local; drive = with_record delta (record g.drive { plan = None }) }

-- a failure came as the record was written
abbrev pub struck : Failure → List Op → Gateway → Gateway
struck failure delta g = record g { refused = delta ∷ []; drive = torn failure delta (record g.drive { plan = Some failure }) }

module _ {D : Type 0} {G : Ghosts D} where
  -- what lasts at a gateway a node that stands for it has taken, as long as it goes on
  pub to_taken : (g : Gateway) (state : State G) → Represents g state → g.drive.halted ≡ false → G.honest → Lasts g → HasTaken g.taken [] state
  to_taken g state s runs honest l = record {
    counts = s.keeps.counts;
    quiet = λ _. refl;
    images = λ _.
        subst (λ (n : ℕ). EachCrash (λ i. RecoversTo n g.taken [] i) (G.slots (disk_under state.journal))) (sym s.numbered)
        (subst (λ (d : Slots). EachCrash (λ i. RecoversTo g.config.gateway g.taken [] i) d) (sym (s.slots honest))
        (λ k m. subst (λ (T : List Op). RecoversTo g.config.gateway T [] (after_crash k m g.drive.slots)) (without _ g.taken g.refused (l.none runs)) (l.images k m)));
    begun = λ _. subst (λ (d : Slots). EachCrash (λ i. is_fresh i ≡ false) d) (sym (s.slots honest)) l.begun;
  }

  -- and the other way
  pub from_taken : (g : Gateway) (state : State G) → Represents g state → G.honest → g.refused ≡ [] → (g.drive.halted ≡ false → IsSynced g.drive.slots) → HasTaken g.taken [] state → Lasts g
  from_taken g state s honest none synced h = record {
    synced = synced;
    none = λ _. none;
    images = λ k m.
        subst (λ (T : List Op). RecoversTo g.config.gateway T [] (after_crash k m g.drive.slots)) (sym (without _ g.taken g.refused none))
        (subst (λ (d : Slots). EachCrash (λ i. RecoversTo g.config.gateway g.taken [] i) d) (s.slots honest)
        (subst (λ (n : ℕ). EachCrash (λ i. RecoversTo n g.taken [] i) (G.slots (disk_under state.journal))) s.numbered (h.images honest)) k m);
    begun = subst (λ (d : Slots). EachCrash (λ i. is_fresh i ≡ false) d) (s.slots honest) (h.begun honest);
  }

  module _ (g : Gateway) (old : State G) (s : Represents g old) where
    pub goes : is_halted old ≡ false → g.drive.halted ≡ false
    goes runs = sym s.halted ∙ runs

    pub halts : is_halted old ≡ true → g.drive.halted ≡ true
    halts halted = sym s.halted ∙ halted

    -- ---- nothing changed

    pub keeps_still : (new : State G) → new.kept ≡ old.kept → Keeps g.taken new.kept
    keeps_still new kept = subst (λ (K : List Op). Keeps g.taken K) (sym kept) s.keeps

    pub unchanged : (new : State G) (local : Local) → new.config ≡ old.config → Keeps g.taken new.kept → new.local ≡ local → IsUntouched old.journal new.journal → Represents (record g { local = local }) new
    unchanged new local config keeps bound u = record {
      configured = config ∙ s.configured;
      numbered = u.gateway ∙ s.numbered;
      bound = bound;
      keeps = keeps;
      slot = u.slot ∙ s.slot;
      halted = u.halted ∙ s.halted;
      slots = λ honest. ap G.slots u.disk ∙ s.slots honest;
    }

    foreseen_still : (new : State G) → IsUntouched old.journal new.journal → IsForeseen g old → IsForeseen g new
    foreseen_still new u f = record { plan = ap G.outlook u.disk ∙ f.plan; quiet = f.quiet }

    -- but for what is known besides
    pub noted_leads : (Happens : Gateway → Gateway → List (List Op) → Type 0) (Agrees : Type 0) (new : State G) (local : Local) (made : List (List Op))
        → new.config ≡ old.config → Keeps g.taken new.kept → new.local ≡ local → IsUntouched old.journal new.journal → Happens g (record g { local = local }) made → LeadsTo Happens Agrees g old new
    noted_leads Happens Agrees new local made config keeps bound u happens = record {
      fate = g.drive.plan;
      next = record g { local = local };
      made = made;
      happens = happens;
      stands = unchanged new local config keeps bound u;
      foreseen = λ honest fed f. let k = foreseen_still new u f in (refl, record { plan = k.plan; quiet = k.quiet });
      lasts = λ agrees honest l. record { synced = l.synced; none = l.none; images = l.images; begun = l.begun };
    }

    pub same_leads : (Happens : Gateway → Gateway → List (List Op) → Type 0) (Agrees : Type 0) (new : State G) → IsUnchanged old new → Happens g g [] → LeadsTo Happens Agrees g old new
    same_leads Happens Agrees new u happens = noted_leads Happens Agrees new g.local [] u.config (keeps_still new u.kept) (u.local ∙ s.bound) u.journal happens

    -- ---- one more record

    module _ (new : State G) (delta : List Op) (w : IsWritten old.journal delta new.journal) where
      pub written_stands : (local : Local) → new.config ≡ old.config → new.local ≡ local → IsKeptOf (old.kept ++ delta) new.kept → Represents (wrote delta local g) new
      written_stands local config bound kept = record {
        configured = config ∙ s.configured;
        numbered = w.gateway ∙ s.numbered;
        bound = bound;
        keeps = keeps_more g.taken old.kept delta new.kept s.keeps kept;
        slot = w.slot ∙ s.slot;
        halted = w.goes_on ∙ sym (goes w.runs);
        slots = λ honest. w.exact honest ∙ (λ i. after_append None (s.slots honest i) (s.slot i) (written delta));
      }

      pub written_leads : (Happens : Gateway → Gateway → List (List Op) → Type 0) (Agrees : Type 0) (local : Local) (made : List (List Op))
          → new.config ≡ old.config → new.local ≡ local → IsDelta delta → Fits old.kept delta → IsKeptOf (old.kept ++ delta) new.kept → (Agrees → AllAgree g.taken delta)
          → Happens (with_failure None g) (wrote delta local g) made → LeadsTo Happens Agrees g old new
      written_leads Happens Agrees local made config bound is fits kept agree happens =
          let stands = written_stands local config bound kept in
          record {
            fate = None;
            next = wrote delta local g;
            made = made;
            happens = happens;
            stands = stands;
            foreseen = λ honest fed f.
                let none = unmet _ g.drive.plan _ _ _ _ _ f.plan (w.known honest fed) in
                (none.0, record { plan = none.1; quiet = refl });
            lasts = λ agrees honest l.
                from_taken (wrote delta local g) new stands honest (l.none (goes w.runs)) (λ runs. append_synced g.drive.slots g.drive.slot (written delta) (l.synced runs))
                (more old new delta is fits kept w g.taken (agree agrees) (to_taken g old s (goes w.runs) honest l));
          }

    -- ---- a failure that came as a delta was written

    module _ (new : State G) (delta : List Op) (w : IsFailed old.journal delta new.journal) where
      fate : Came G.honest (G.starved (disk_under new.journal)) (G.outlook (disk_under old.journal)) (G.slots (disk_under old.journal)) (slot_of old.journal) (written delta) (G.slots (disk_under new.journal)) (G.outlook (disk_under new.journal))
      fate = came G.honest _ _ _ _ _ _ _ w.struck w.known

      torn_stands : new.config ≡ old.config → new.kept ≡ old.kept → new.local ≡ old.local → Represents (struck fate.failure delta g) new
      torn_stands config kept local = record {
        configured = config ∙ s.configured;
        numbered = w.gateway ∙ s.numbered;
        bound = local ∙ s.bound;
        keeps = keeps_still new kept;
        slot = w.slot ∙ s.slot;
        halted = w.halts;
        slots = λ honest. fate.slots honest ∙ (λ i. after_append (Some fate.failure) (s.slots honest i) (s.slot i) (written delta));
      }

      -- an image has one record more than the synced bytes exactly where it has the refused one
      module _ (honest : G.honest) (l : Lasts g) (may : MayFollow g.taken old.kept delta (records g.config.gateway (image g.drive.slots))) where
        left_before : records g.config.gateway (left_by 0 (struck fate.failure delta g).drive) ≡ records g.config.gateway (image g.drive.slots)
        left_before = ap (λ (i : Image). records g.config.gateway i) (left_torn fate.failure g.drive.slots g.drive.slot (written delta) (l.synced (goes w.runs)))

        torn_image : (i : Image) → Opens g.config.gateway (records g.config.gateway (image g.drive.slots)) i ⊎ Opens g.config.gateway (records g.config.gateway (image g.drive.slots) ++ delta ∷ []) i
            → RecoversTo g.config.gateway (with_refused (more_records g.config.gateway (struck fate.failure delta g).drive i) g.taken (delta ∷ [])) [] i
        torn_image i (inl opens) =
            let count : length (records g.config.gateway i) ≡ length (records g.config.gateway (left_by 0 (struck fate.failure delta g).drive)) = ap length (opens.0 ∙ sym left_before) in
            let none : more_records g.config.gateway (struck fate.failure delta g).drive i ≡ zero = none_above _ _ count in
            subst (λ (n : ℕ). RecoversTo g.config.gateway (with_refused n g.taken (delta ∷ [])) [] i) (sym none) (opened g.config.gateway g.taken [] (records g.config.gateway (image g.drive.slots)) i opens may.now)
        torn_image i (inr opens) =
            let count : length (records g.config.gateway i) ≡ length (records g.config.gateway (left_by 0 (struck fate.failure delta g).drive)) + 1 =
            ap length opens.0 ∙ length-append (records g.config.gateway (image g.drive.slots)) (delta ∷ []) ∙ ap (λ (ds : List (List Op)). length ds + 1) (sym left_before) in
            let one : more_records g.config.gateway (struck fate.failure delta g).drive i ≡ suc zero = one_above _ _ count in
            subst (λ (n : ℕ). RecoversTo g.config.gateway (with_refused n g.taken (delta ∷ [])) [] i) (sym one)
            (opened g.config.gateway (g.taken ++ delta) [] (records g.config.gateway (image g.drive.slots) ++ delta ∷ []) i opens (taken_then g.taken old.kept delta (records g.config.gateway (image g.drive.slots)) may))

      either_begun : (deltas more : List (List Op)) (i : Image) → Opens g.config.gateway deltas i ⊎ Opens g.config.gateway more i → is_fresh i ≡ false
      either_begun deltas more i (inl opens) = opens.2
      either_begun deltas more i (inr opens) = opens.2

      torn_lasts : IsDelta delta → Fits old.kept delta → AllAgree g.taken delta → G.honest → Lasts g → Lasts (struck fate.failure delta g)
      torn_lasts is fits agrees honest l =
          let taken = to_taken g old s (goes w.runs) honest l in
          let there : StandFor g.taken [] (on_disk old) =
          records_stand (gateway_of old.journal) g.taken [] (image (G.slots (disk_under old.journal))) (stands_at (gateway_of old.journal) g.taken [] (G.slots (disk_under old.journal)) (taken.images honest)) in
          let same : on_disk old ≡ records g.config.gateway (image g.drive.slots) = λ i. records (s.numbered i) (image (s.slots honest i)) in
          let may : MayFollow g.taken old.kept delta (records g.config.gateway (image g.drive.slots)) =
          record { agrees = agrees; delta = is; counts = s.keeps.counts; fits = fits; now = subst (λ (ds : List (List Op)). StandFor g.taken [] ds) same there } in
          let left : EachCrash (λ i. Opens g.config.gateway (records g.config.gateway (image g.drive.slots)) i ⊎ Opens g.config.gateway (records g.config.gateway (image g.drive.slots) ++ delta ∷ []) i) (struck fate.failure delta g).drive.slots =
          subst (λ (d : Slots). EachCrash (λ i. Opens g.config.gateway (records g.config.gateway (image g.drive.slots)) i ⊎ Opens g.config.gateway (records g.config.gateway (image g.drive.slots) ++ delta ∷ []) i) d)
          (fate.slots honest ∙ (λ i. after_append (Some fate.failure) (s.slots honest i) (s.slot i) (written delta)))
          (subst (λ (ds : List (List Op)). EachCrash (λ i. Opens g.config.gateway ds i ⊎ Opens g.config.gateway (ds ++ delta ∷ []) i) (G.slots (disk_under new.journal))) same
          (subst (λ (n : ℕ). EachCrash (λ i. Opens n (on_disk old) i ⊎ Opens n (on_disk old ++ delta ∷ []) i) (G.slots (disk_under new.journal))) s.numbered (w.torn honest))) in
          record {
            synced = λ runs. absurd (true≢false runs);
            none = λ runs. absurd (true≢false runs);
            images = λ k m. torn_image honest l may (after_crash k m (struck fate.failure delta g).drive.slots) (left k m);
            begun = λ k m. either_begun (records g.config.gateway (image g.drive.slots)) _ (after_crash k m (struck fate.failure delta g).drive.slots) (left k m);
          }

      pub torn_leads : (Happens : Gateway → Gateway → List (List Op) → Type 0) (Agrees : Type 0)
          → new.config ≡ old.config → new.kept ≡ old.kept → new.local ≡ old.local → IsDelta delta → Fits old.kept delta → (Agrees → AllAgree g.taken delta)
          → ((failure : Failure) → Happens (with_failure (Some failure) g) (struck failure delta g) []) → LeadsTo Happens Agrees g old new
      torn_leads Happens Agrees config kept local is fits agree happens = record {
        fate = Some fate.failure;
        next = struck fate.failure delta g;
        made = [];
        happens = happens fate.failure;
        stands = torn_stands config kept local;
        foreseen = λ honest fed f. let k = fate.known honest fed g.drive.plan f.plan in (k.0, record { plan = k.1; quiet = refl });
        lasts = λ agrees honest l. torn_lasts is fits (agree agrees) honest l;
      }
