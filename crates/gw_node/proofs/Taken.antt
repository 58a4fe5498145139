-- What a node has taken, from call to call.
use Rattle.std.proofs.Common.{◌≡◌, ◌≢◌, ℕ, zero, suc, Bool, true, false, true≢false, List, [], ◌∷◌, ◌++◌, length, Option, Some, None, unwrap_or, Result, Ok, Err, refl, sym, ap, ◌∙◌, subst, inl, inr, ◌⊎◌, arith}
use Rattle.std.proofs.lemmas.List.{append-nil, take_all}
use Rattle.rep_op.specs.declared.op.Op.{Op}
use Rattle.rep_ops.specs.Deltas.{IsDelta}
use Rattle.rep_op.specs.Sets.{IsConsistent, Same}
use Rattle.rep_ops.specs.Splitting.{all_of}
use Rattle.rep_ops.proofs.Splitting.{all_of_more}
use Rattle.rep_model.specs.Held.{IsHeld}
use Rattle.rep_model.specs.Keep.{keep, CountsAs, IsKeptOf}
use Rattle.rep_model.specs.Roomy.{IsRoomy}
use Rattle.rep_model.specs.Taking.{AllAgree, Fits}
use Rattle.rep_model.proofs.Joins.{counts-join, counts-more, same_sym, same_trans}
use Rattle.rep_model.proofs.Roomy.{base_counts, base_is_roomy}
use Rattle.jr_disk.specs.declared.disk.Disk.{Ghosts}
use Rattle.jr_journal.specs.declared.journal.Journal.{Journal}
use Rattle.jr_disk.specs.Disk.{Slots, SlotBytes, Image, image, bytes_of, left_of, after_crash, EachCrash}
use Rattle.jr_journal.specs.Records.{records}
use Rattle.jr_journal.specs.Faults.{is_fresh}
use Rattle.jr_journal.specs.declared.fault.JournalFault.TheVariants as journal_faults
use Rattle.jr_journal.specs.Crashes.{Opens, Leaves, LeavesOneMore, LeavesEither, LeavesNoMore}
use Rattle.jr_journal.specs.Parts.{disk_under, gateway_of}
use Rattle.rep_digest.specs.Digests.{Digested}
use Rattle.gw_answer.specs.declared.out.Out.{Out}
use Rattle.gw_answer.specs.declared.refusal.Refusal.{Refusal}
use Rattle.gw_answer.specs.declared.refusal.Refusal.TheVariants as refusals
use Rattle.gw_answer.specs.declared.step.Step.{Step}
use Rattle.gw_answer.specs.declared.step.Step.TheVariants as steps
use Rattle.gw_event.specs.Occasions.{Occasion, Datagram, Clock}
use Rattle.gw_node.specs.Parts.{State, is_halted, IsUnchanged, IsUntouched}
use Rattle.gw_node.specs.Writing.{IsWritten, IsFailed, IsRewritten, IsNotRewritten}
use Rattle.gw_node.specs.Plans.{Makes}
use Rattle.gw_node.specs.Taking.{on_disk, IsBetween, IsWhole, RecoversTo, HasTaken}
use Rattle.gw_node.specs.Opening.{IsReopened, IsNotReopened, ReopenCall}
use Rattle.gw_node.specs.Carrying.{TakesMore, TakesNoMore, TakesNothing, TakesAgain, CarriesOn, OwnCarriesOn, ReopenCarriesOn, StepCarriesOn}
use Rattle.gw_node.specs.Calls.{OwnCall, TakeCall, ViewCall, DigestCall, AnswerCall, CompactCall, StepCall, IsNoted}
use Rattle.gw_node.proofs.Between.{between_more, between_refused, between_left_over, between_again, counts_back, counts_again, within-trans, within-nothing, within-nothing_more, within-same, within-keep}
use Rattle.gw_node.proofs.Refused.{none_refused}
use Rattle.gw_node.proofs.Proper.{delta_consistent, proper_more}
use Rattle.gw_node.proofs.Roomy.{kept_room, roomy_more}

-- ---- crashes that leave all

left_all : (s : SlotBytes) → left_of (length s.unsynced) s ≡ bytes_of s
left_all s = ap (λ xs. s.synced ++ xs) (take_all (length s.unsynced) s.unsynced (omega arith))

pub all_left : (d : Slots) → after_crash (length d.first.unsynced) (length d.second.unsynced) d ≡ image d
all_left d =
    let first = left_all d.first in
    let second = left_all d.second in
    λ i. record { first = first i; second = second i }

pub stands_at : (gateway : ℕ) (S : List Op) (refused : List (List Op)) (d : Slots) → EachCrash (λ i. RecoversTo gateway S refused i) d → RecoversTo gateway S refused (image d)
stands_at gateway S refused d h =
    subst (λ (i : Image). RecoversTo gateway S refused i) (all_left d) (h (length d.first.unsynced) (length d.second.unsynced))

-- ---- one image

-- what the records of a journal stand for
pub record StandFor (S : List Op) (refused : List (List Op)) (deltas : List (List Op)) : Type 0 where
  pub between : IsBetween S refused (all_of deltas)
  pub whole : IsWhole S refused (all_of deltas)
  pub roomy : IsRoomy deltas
  pub proper : IsConsistent (all_of deltas)

pub records_stand : (gateway : ℕ) (S : List Op) (refused : List (List Op)) (i : Image) → RecoversTo gateway S refused i → StandFor S refused (records gateway i)
records_stand gateway S refused i h = record { between = h.between; whole = h.whole; roomy = h.roomy; proper = h.proper }

pub opened : (gateway : ℕ) (S : List Op) (refused : List (List Op)) (deltas : List (List Op)) (i : Image) → Opens gateway deltas i → StandFor S refused deltas → RecoversTo gateway S refused i
opened gateway S refused deltas i opens h =
    let there : StandFor S refused (records gateway i) = subst (λ (ds : List (List Op)). StandFor S refused ds) (sym opens.0) h in
    record { sound = opens.1; between = there.between; whole = there.whole; roomy = there.roomy; proper = there.proper }

-- where nothing was refused it counts as the set
pub as_taken : (S J : List Op) → IsWhole S [] J → CountsAs S J
as_taken S J h = subst (λ (T : List Op). CountsAs T J) (none_refused h.0 S) h.1

-- ---- an image in which an opening begins no journal

abbrev pub IsBegun : Image → Type 0
IsBegun i = is_fresh i ≡ false

begun_all : (gateway : ℕ) (d : Slots) (deltas : List (List Op)) → Leaves gateway d deltas → EachCrash IsBegun d
begun_all gateway d deltas h = λ k l. (h k l).2

either_begun : (gateway : ℕ) (deltas base : List (List Op)) (i : Image) → Opens gateway deltas i ⊎ Opens gateway base i → IsBegun i
either_begun gateway deltas base i (inl opens) = opens.2
either_begun gateway deltas base i (inr opens) = opens.2

begun_one_more : (gateway : ℕ) (d : Slots) (deltas : List (List Op)) (delta : List Op) → LeavesOneMore gateway d deltas delta → EachCrash IsBegun d
begun_one_more gateway d deltas delta h = λ k l. either_begun gateway deltas (deltas ++ delta ∷ []) (after_crash k l d) (h k l)

begun_either : (gateway : ℕ) (d : Slots) (deltas base : List (List Op)) → LeavesEither gateway d deltas base → EachCrash IsBegun d
begun_either gateway d deltas base h = λ k l. either_begun gateway deltas base (after_crash k l d) (h k l)

begun_still : (gateway : ℕ) (old new : Slots) → LeavesNoMore gateway old new → EachCrash IsBegun old → EachCrash IsBegun new
begun_still gateway old new leaves h = λ k l. let a = leaves k l in a.1.1.2 (h a.0 a.1.0)

-- with one record more
one_more : (S D : List Op) (deltas : List (List Op)) → CountsAs S (all_of deltas) → CountsAs (S ++ D) (all_of (deltas ++ D ∷ []))
one_more S D deltas h =
    subst (λ (ops : List Op). CountsAs (S ++ D) ops) (sym (all_of_more deltas D))
    (counts-more S (all_of deltas) D h)

-- ---- a delta that may be written after records

pub record MayFollow (S kept D : List Op) (deltas : List (List Op)) : Type 0 where
  pub agrees : AllAgree S D
  pub delta : IsDelta D
  pub counts : CountsAs S kept
  pub fits : Fits kept D
  pub now : StandFor S [] deltas

module _ (S kept D : List Op) (deltas : List (List Op)) (h : MayFollow S kept D deltas) where
  counted : CountsAs S (all_of deltas)
  counted = as_taken S (all_of deltas) h.now.whole

  room_then : IsRoomy (deltas ++ D ∷ [])
  room_then = roomy_more S kept D deltas h.counts counted h.fits.within h.now.roomy

  proper_then : IsConsistent (all_of (deltas ++ D ∷ []))
  proper_then = proper_more S D deltas h.agrees (delta_consistent D h.delta) (within-nothing (all_of deltas) S h.now.between.upper) h.now.proper

  pub taken_then : StandFor (S ++ D) [] (deltas ++ D ∷ [])
  taken_then = record { between = between_more S D deltas h.agrees h.now.between; whole = (zero, one_more S D deltas counted); roomy = room_then; proper = proper_then }

  left_over : StandFor S (D ∷ []) (deltas ++ D ∷ [])
  left_over = record { between = between_left_over S D deltas h.agrees h.now.between; whole = (suc zero, one_more S D deltas counted); roomy = room_then; proper = proper_then }

  left_out : StandFor S (D ∷ []) deltas
  left_out = record { between = between_refused S D deltas h.now.between; whole = (zero, counted); roomy = h.now.roomy; proper = h.now.proper }

  torn : (gateway : ℕ) (i : Image) → Opens gateway deltas i ⊎ Opens gateway (deltas ++ D ∷ []) i → RecoversTo gateway S (D ∷ []) i
  torn gateway i (inl opens) = opened gateway S (D ∷ []) deltas i opens left_out
  torn gateway i (inr opens) = opened gateway S (D ∷ []) (deltas ++ D ∷ []) i opens left_over

at_gateway : (a b : ℕ) (S : List Op) (refused : List (List Op)) (d : Slots) → b ≡ a → EachCrash (λ i. RecoversTo a S refused i) d → EachCrash (λ i. RecoversTo b S refused i) d
at_gateway a b S refused d same h = subst (λ (g : ℕ). EachCrash (λ i. RecoversTo g S refused i) d) (sym same) h

-- ---- a base in the place of records

pub base_now : (S kept : List Op) (base deltas : List (List Op)) → IsHeld kept base → CountsAs S kept → StandFor S [] deltas → StandFor S [] base
base_now S kept base deltas (W, is, split) counts h =
    let same : Same (all_of base) (keep S) = same_trans (subst (λ (ops : List Op). Same ops (keep kept)) (sym split.whole) is.same) counts in
    record {
      between = record {
        lower = within-same (keep S) (all_of base) (same_sym same);
        upper = within-nothing_more (all_of base) S (within-trans (all_of base) (keep S) S (within-same (all_of base) (keep S) same) (within-keep S));
      };
      whole = (zero, same_trans (base_counts kept base (W, is, split)) counts);
      roomy = base_is_roomy kept base (W, is, split) (kept_room S kept deltas counts (as_taken S (all_of deltas) h.whole) h.roomy);
      proper = subst IsConsistent (sym split.whole) (delta_consistent W is.delta);
    }

base_stands : (S : List Op) (refused : List (List Op)) (kept : List Op) (base deltas : List (List Op)) → refused ≡ [] → IsHeld kept base → CountsAs S kept → StandFor S refused deltas → StandFor S refused base
base_stands S refused kept base deltas none held counts h =
    subst (λ (R : List (List Op)). StandFor S R base) (sym none) (base_now S kept base deltas held counts (subst (λ (R : List (List Op)). StandFor S R deltas) none h))

either_stands : (gateway : ℕ) (S : List Op) (refused : List (List Op)) (deltas base : List (List Op)) (i : Image) → StandFor S refused deltas → StandFor S refused base → Opens gateway deltas i ⊎ Opens gateway base i → RecoversTo gateway S refused i
either_stands gateway S refused deltas base i h b (inl opens) = opened gateway S refused deltas i opens h
either_stands gateway S refused deltas base i h b (inr opens) = opened gateway S refused base i opens b

-- ---- records that are read once more

stand_again : (S : List Op) (refused : List (List Op)) (deltas : List (List Op)) → StandFor S refused deltas → StandFor (S ++ all_of deltas) [] deltas
stand_again S refused deltas h = record {
  between = between_again S refused (all_of deltas) h.between;
  whole = (zero, counts_back S refused (all_of deltas) h.between);
  roomy = h.roomy;
  proper = h.proper;
}

-- where a crash leaves no more than before, it stands for as much
stands_still : (gateway : ℕ) (S : List Op) (refused : List (List Op)) (old new : Slots) → LeavesNoMore gateway old new → EachCrash IsBegun old → EachCrash (λ i. RecoversTo gateway S refused i) old
    → EachCrash (λ i. RecoversTo gateway S refused i) new
stands_still gateway S refused old new leaves begun h = λ k l.
    let a = leaves k l in
    let i = after_crash a.0 a.1.0 old in
    let there = h a.0 a.1.0 in
    opened gateway S refused (records gateway i) (after_crash k l new) (a.1.1.0, a.1.1.1 ∙ there.sound, a.1.1.2 (begun a.0 a.1.0)) (records_stand gateway S refused i there)

-- a node that was not opened again goes on only if it did before
still_runs : (refusal : Refusal) (now before : Bool) → (refusal ≢ refusals.Memory → now ≡ true) → (refusal ≡ refusals.Memory → now ≡ before) → now ≡ false → before ≡ false
still_runs refusals.Memory now before halts wanting runs = sym (wanting refl) ∙ runs
still_runs refusals.Halted now before halts wanting runs = absurd (true≢false (sym (halts (λ e. absurd cc)) ∙ runs))
still_runs (refusals.Frame fault) now before halts wanting runs = absurd (true≢false (sym (halts (λ e. absurd cc)) ∙ runs))
still_runs (refusals.Disk excuse) now before halts wanting runs = absurd (true≢false (sym (halts (λ e. absurd cc)) ∙ runs))
still_runs (refusals.Conflict client) now before halts wanting runs = absurd (true≢false (sym (halts (λ e. absurd cc)) ∙ runs))
still_runs refusals.Full now before halts wanting runs = absurd (true≢false (sym (halts (λ e. absurd cc)) ∙ runs))
still_runs refusals.Exhausted now before halts wanting runs = absurd (true≢false (sym (halts (λ e. absurd cc)) ∙ runs))
still_runs (refusals.Journal fault) now before halts wanting runs = absurd (true≢false (sym (halts (λ e. absurd cc)) ∙ runs))

module _ {D : Type 0} {G : Ghosts D} where
  -- ---- what was read

  -- beside what had been taken before
  pub read_again : (state : State G) (gateway : ℕ) (deltas : List (List Op)) (S : List Op) (refused : List (List Op)) → gateway_of state.journal ≡ gateway → CountsAs (all_of deltas) state.kept
      → (G.honest → Leaves gateway (G.slots (disk_under state.journal)) deltas) → StandFor S refused deltas → HasTaken (S ++ all_of deltas) [] state
  read_again state gateway deltas S refused same counts leaves h = record {
    counts = counts_again S refused (all_of deltas) state.kept h.between counts;
    quiet = λ _. refl;
    images = λ honest.
        at_gateway gateway (gateway_of state.journal) (S ++ all_of deltas) [] (G.slots (disk_under state.journal)) same
        (λ k l. opened gateway (S ++ all_of deltas) [] deltas (after_crash k l (G.slots (disk_under state.journal))) (leaves honest k l) (stand_again S refused deltas h));
    begun = λ honest. begun_all gateway (G.slots (disk_under state.journal)) deltas (leaves honest);
  }

  -- where nothing was refused it is what had been taken
  pub read_back : (state : State G) (gateway : ℕ) (deltas : List (List Op)) (S : List Op) → gateway_of state.journal ≡ gateway → CountsAs (all_of deltas) state.kept
      → (G.honest → Leaves gateway (G.slots (disk_under state.journal)) deltas) → StandFor S [] deltas → HasTaken S [] state
  read_back state gateway deltas S same counts leaves h = record {
    counts = same_trans counts (as_taken S (all_of deltas) h.whole);
    quiet = λ _. refl;
    images = λ honest.
        at_gateway gateway (gateway_of state.journal) S [] (G.slots (disk_under state.journal)) same
        (λ k l. opened gateway S [] deltas (after_crash k l (G.slots (disk_under state.journal))) (leaves honest k l) h);
    begun = λ honest. begun_all gateway (G.slots (disk_under state.journal)) deltas (leaves honest);
  }

  -- ---- one call

  before : (old : State G) (S : List Op) (refused : List (List Op)) → HasTaken S refused old → G.honest → StandFor S refused (on_disk old)
  before old S refused h honest =
      records_stand (gateway_of old.journal) S refused (image (G.slots (disk_under old.journal)))
      (stands_at (gateway_of old.journal) S refused (G.slots (disk_under old.journal)) (h.images honest))

  follow : (old : State G) (S delta : List Op) → AllAgree S delta → IsDelta delta → Fits old.kept delta → HasTaken S [] old → G.honest → MayFollow S old.kept delta (on_disk old)
  follow old S delta all is fits h honest = record { agrees = all; delta = is; counts = h.counts; fits = fits; now = before old S [] h honest }

  pub more : (old new : State G) (delta : List Op) → IsDelta delta → Fits old.kept delta → IsKeptOf (old.kept ++ delta) new.kept → IsWritten old.journal delta new.journal → TakesMore old delta new
  more old new delta is fits kept w = λ S all h. record {
    counts = counts-join S old.kept delta new.kept h.counts kept;
    quiet = λ _. refl;
    images = λ honest.
        at_gateway (gateway_of old.journal) (gateway_of new.journal) (S ++ delta) [] (G.slots (disk_under new.journal)) w.gateway
        (λ k l. opened (gateway_of old.journal) (S ++ delta) [] (on_disk old ++ delta ∷ []) (after_crash k l (G.slots (disk_under new.journal))) (w.durable honest k l)
        (taken_then S old.kept delta (on_disk old) (follow old S delta all is fits h honest)));
    begun = λ honest. begun_all (gateway_of old.journal) (G.slots (disk_under new.journal)) (on_disk old ++ delta ∷ []) (w.durable honest);
  }

  pub no_more : (old new : State G) (delta : List Op) → IsDelta delta → Fits old.kept delta → new.kept ≡ old.kept → IsFailed old.journal delta new.journal → TakesNoMore old delta new
  no_more old new delta is fits kept w = λ S all h. record {
    counts = subst (λ (K : List Op). CountsAs S K) (sym kept) h.counts;
    quiet = λ runs. absurd (let halts = w.halts in cc);
    images = λ honest.
        at_gateway (gateway_of old.journal) (gateway_of new.journal) S (delta ∷ []) (G.slots (disk_under new.journal)) w.gateway
        (λ k l. torn S old.kept delta (on_disk old) (follow old S delta all is fits h honest) (gateway_of old.journal) (after_crash k l (G.slots (disk_under new.journal))) (w.torn honest k l));
    begun = λ honest. begun_one_more (gateway_of old.journal) (G.slots (disk_under new.journal)) (on_disk old) delta (w.torn honest);
  }

  untouched_begun : (old new : Journal D G) → IsUntouched old new → (G.honest → EachCrash IsBegun (G.slots (disk_under old))) → G.honest → EachCrash IsBegun (G.slots (disk_under new))
  untouched_begun old new u begun honest = subst (λ (d : D). EachCrash IsBegun (G.slots d)) (sym u.disk) (begun honest)

  untouched_images : (old new : Journal D G) (S : List Op) (refused : List (List Op)) → IsUntouched old new → (G.honest → EachCrash (λ i. RecoversTo (gateway_of old) S refused i) (G.slots (disk_under old)))
      → G.honest → EachCrash (λ i. RecoversTo (gateway_of new) S refused i) (G.slots (disk_under new))
  untouched_images old new S refused u images honest =
      at_gateway (gateway_of old) (gateway_of new) S refused (G.slots (disk_under new)) u.gateway
      (subst (λ (d : D). EachCrash (λ i. RecoversTo (gateway_of old) S refused i) (G.slots d)) (sym u.disk) (images honest))

  -- with nothing new
  pub same : (old new : State G) → new.kept ≡ old.kept → IsUntouched old.journal new.journal → TakesNothing old new
  same old new kept u = λ S refused h. record {
    counts = subst (λ (K : List Op). CountsAs S K) (sym kept) h.counts;
    quiet = λ runs. h.quiet (sym u.halted ∙ runs);
    images = untouched_images old.journal new.journal S refused u h.images;
    begun = untouched_begun old.journal new.journal u h.begun;
  }

  -- another failure is arranged on the disk, and its slots are as they were
  pub still : (old new : State G) → new.kept ≡ old.kept → gateway_of new.journal ≡ gateway_of old.journal → is_halted new ≡ is_halted old
      → G.slots (disk_under new.journal) ≡ G.slots (disk_under old.journal) → TakesNothing old new
  still old new kept gateway halted slots = λ S refused h. record {
    counts = subst (λ (K : List Op). CountsAs S K) (sym kept) h.counts;
    quiet = λ runs. h.quiet (sym halted ∙ runs);
    images = λ honest.
        at_gateway (gateway_of old.journal) (gateway_of new.journal) S refused (G.slots (disk_under new.journal)) gateway
        (subst (λ (d : Slots). EachCrash (λ i. RecoversTo (gateway_of old.journal) S refused i) d) (sym slots) (h.images honest));
    begun = λ honest. subst (λ (d : Slots). EachCrash IsBegun d) (sym slots) (h.begun honest);
  }

  pub unchanged : (old new : State G) → IsUnchanged old new → TakesNothing old new
  unchanged old new u = same old new u.kept u.journal

  -- a delta without operations
  none : (old new : State G) → IsKeptOf (old.kept ++ []) new.kept → IsUntouched old.journal new.journal → TakesMore old [] new
  none old new kept u = λ S all h. record {
    counts = counts-join S old.kept [] new.kept h.counts kept;
    quiet = λ runs. refl;
    images = λ honest.
        subst (λ (T : List Op). EachCrash (λ i. RecoversTo (gateway_of new.journal) T [] i) (G.slots (disk_under new.journal))) (sym (append-nil S))
        (untouched_images old.journal new.journal S [] u h.images honest);
    begun = untouched_begun old.journal new.journal u h.begun;
  }

  noted : (old new : State G) (delta : List Op) → IsDelta delta → Fits old.kept delta → IsKeptOf (old.kept ++ delta) new.kept → IsNoted old.journal delta new.journal → TakesMore old delta new
  noted old new [] is fits kept h = none old new kept h
  noted old new (op ∷ ops) is fits kept h = more old new (op ∷ ops) is fits kept h

  -- ---- the journal is written anew, or read anew

  pub rewritten : (old new : State G) (base : List (List Op)) → IsHeld old.kept base → new.kept ≡ old.kept → IsRewritten old.journal base new.journal → TakesNothing old new
  rewritten old new base held kept w = λ S refused h.
      let none : refused ≡ [] = h.quiet w.runs in
      record {
        counts = subst (λ (K : List Op). CountsAs S K) (sym kept) h.counts;
        quiet = λ _. none;
        images = λ honest.
            at_gateway (gateway_of old.journal) (gateway_of new.journal) S refused (G.slots (disk_under new.journal)) w.gateway
            (λ k l. opened (gateway_of old.journal) S refused base (after_crash k l (G.slots (disk_under new.journal))) (w.durable honest k l)
            (base_stands S refused old.kept base (on_disk old) none held h.counts (before old S refused h honest)));
        begun = λ honest. begun_all (gateway_of old.journal) (G.slots (disk_under new.journal)) base (w.durable honest);
      }

  pub not_rewritten : (old new : State G) (base : List (List Op)) → IsHeld old.kept base → new.kept ≡ old.kept → IsNotRewritten old.journal base new.journal → TakesNothing old new
  not_rewritten old new base held kept w = λ S refused h.
      let none : refused ≡ [] = h.quiet w.runs in
      record {
        counts = subst (λ (K : List Op). CountsAs S K) (sym kept) h.counts;
        quiet = λ _. none;
        images = λ honest.
            at_gateway (gateway_of old.journal) (gateway_of new.journal) S refused (G.slots (disk_under new.journal)) w.gateway
            (λ k l. either_stands (gateway_of old.journal) S refused (on_disk old) base (after_crash k l (G.slots (disk_under new.journal))) (before old S refused h honest)
            (base_stands S refused old.kept base (on_disk old) none held h.counts (before old S refused h honest)) (w.torn honest k l));
        begun = λ honest. begun_either (gateway_of old.journal) (G.slots (disk_under new.journal)) (on_disk old) base (w.torn honest);
      }

  pub reopened : (old new : State G) → IsReopened old new → TakesAgain old new
  reopened old new w = record {
    with_read = λ honest S refused h.
        read_again new (gateway_of old.journal) (on_disk old) S refused w.gateway (w.keeps honest).counts (λ _. w.durable honest) (before old S refused h honest);
    itself = λ honest S h. read_back new (gateway_of old.journal) (on_disk old) S w.gateway (w.keeps honest).counts (λ _. w.durable honest) (before old S [] h honest);
  }

  pub not_reopened : (old new : State G) (refusal : Refusal) → IsNotReopened old refusal new → TakesNothing old new
  not_reopened old new refusal w = λ S refused h. record {
    counts = subst (λ (K : List Op). CountsAs S K) (sym w.kept) h.counts;
    quiet = λ runs. h.quiet (still_runs refusal (is_halted new) (is_halted old) w.halts w.wanting runs);
    images = λ honest.
        at_gateway (gateway_of old.journal) (gateway_of new.journal) S refused (G.slots (disk_under new.journal)) w.gateway
        (stands_still (gateway_of old.journal) S refused (G.slots (disk_under old.journal)) (G.slots (disk_under new.journal)) (w.leaves honest) (h.begun honest) (h.images honest));
    begun = λ honest. begun_still (gateway_of old.journal) (G.slots (disk_under old.journal)) (G.slots (disk_under new.journal)) (w.leaves honest) (h.begun honest);
  }

  -- ---- calls

  pub take_carries_on : (old new : State G) (delta : List Op) (answer : Result Out Refusal) → TakeCall old delta answer new → CarriesOn old delta answer new
  take_carries_on old new delta (Ok out) (runs, empty, h) = noted old new delta h.is_delta h.fits h.kept h.noted
  take_carries_on old new delta (Err refusals.Halted) h = unchanged old new h.1
  take_carries_on old new delta (Err (refusals.Conflict client)) (runs, misfit, h) = unchanged old new h
  take_carries_on old new delta (Err refusals.Full) (runs, misfit, h) = unchanged old new h
  take_carries_on old new delta (Err (refusals.Disk excuse)) (runs, empty, h) = no_more old new delta h.is_delta h.fits h.kept h.failed
  take_carries_on old new delta (Err refusals.Memory) h = unchanged old new h
  take_carries_on old new delta (Err (refusals.Frame fault)) h = absurd h
  take_carries_on old new delta (Err refusals.Exhausted) h = absurd h
  take_carries_on old new delta (Err (refusals.Journal fault)) h = absurd h

  taken_nothing : (old new : State G) → TakesNothing old new → TakesMore old [] new
  taken_nothing old new f = λ S all h. subst (λ (T : List Op). HasTaken T [] new) (sym (append-nil S)) (f S [] h)

  made : (ops : List Op) (delta : Option (List Op)) (old new : State G) → Makes ops delta old new → TakesMore old (unwrap_or delta []) new
  made [] None old new h = taken_nothing old new (same old new h.0 h.1)
  made [] (Some delta) old new h = absurd h
  made (op ∷ ops) None old new h = absurd h
  made (op ∷ ops) (Some delta) old new (is_delta, fits, kept, written, writable) = more old new delta is_delta.delta fits kept written

  pub own_carries_on : (old new : State G) (occasion : Occasion) (now : ℕ) (answer : Result Out Refusal) → OwnCall old occasion now answer new → OwnCarriesOn old occasion now answer new
  own_carries_on old new occasion now (Ok out) (runs, (plan, is_plan, h)) = made plan.ops out.made old new h.made
  own_carries_on old new occasion now (Err refusals.Halted) h = unchanged old new h.1
  own_carries_on old new occasion now (Err (refusals.Frame fault)) (runs, no_frame, h) = unchanged old new h
  own_carries_on old new occasion now (Err refusals.Exhausted) (runs, no_plan, h) = unchanged old new h
  own_carries_on old new occasion now (Err (refusals.Conflict client)) (runs, why, h) = unchanged old new h
  own_carries_on old new occasion now (Err refusals.Full) (runs, why, h) = unchanged old new h
  own_carries_on old new occasion now (Err (refusals.Disk excuse)) (runs, (plan, is_plan, is_excuse, h)) =
      (plan, is_plan, (h.delta, h.is_delta, no_more old new h.delta h.is_delta.delta h.fits h.kept h.failed))
  own_carries_on old new occasion now (Err refusals.Memory) h = unchanged old new h
  own_carries_on old new occasion now (Err (refusals.Journal fault)) h = absurd h

  view_carries_on : (old new : State G) (client : List ℕ) (answer : Result Out Refusal) → ViewCall old client answer new → TakesNothing old new
  view_carries_on old new client (Ok out) h = unchanged old new h.1
  view_carries_on old new client (Err refusals.Memory) h = unchanged old new h
  view_carries_on old new client (Err refusals.Halted) h = absurd h
  view_carries_on old new client (Err (refusals.Frame fault)) h = absurd h
  view_carries_on old new client (Err (refusals.Disk excuse)) h = absurd h
  view_carries_on old new client (Err (refusals.Conflict of)) h = absurd h
  view_carries_on old new client (Err refusals.Full) h = absurd h
  view_carries_on old new client (Err refusals.Exhausted) h = absurd h
  view_carries_on old new client (Err (refusals.Journal fault)) h = absurd h

  digest_carries_on : (old new : State G) (answer : Result Out Refusal) → DigestCall old answer new → TakesNothing old new
  digest_carries_on old new (Ok out) (within, is_out, same) = unchanged old new same
  digest_carries_on old new (Err refusals.Full) h = unchanged old new h.1
  digest_carries_on old new (Err refusals.Memory) h = unchanged old new h
  digest_carries_on old new (Err refusals.Halted) h = absurd h
  digest_carries_on old new (Err (refusals.Frame fault)) h = absurd h
  digest_carries_on old new (Err (refusals.Disk excuse)) h = absurd h
  digest_carries_on old new (Err (refusals.Conflict of)) h = absurd h
  digest_carries_on old new (Err refusals.Exhausted) h = absurd h
  digest_carries_on old new (Err (refusals.Journal fault)) h = absurd h

  answer_carries_on : (old new : State G) (asked : Digested) (answer : Result Out Refusal) → AnswerCall old asked answer new → TakesNothing old new
  answer_carries_on old new asked (Ok out) (is_answer, is_out, same) = unchanged old new same
  answer_carries_on old new asked (Err refusals.Memory) h = unchanged old new h
  answer_carries_on old new asked (Err refusals.Full) h = absurd h
  answer_carries_on old new asked (Err refusals.Halted) h = absurd h
  answer_carries_on old new asked (Err (refusals.Frame fault)) h = absurd h
  answer_carries_on old new asked (Err (refusals.Disk excuse)) h = absurd h
  answer_carries_on old new asked (Err (refusals.Conflict of)) h = absurd h
  answer_carries_on old new asked (Err refusals.Exhausted) h = absurd h
  answer_carries_on old new asked (Err (refusals.Journal fault)) h = absurd h

  pub compact_carries_on : (old new : State G) (answer : Result Out Refusal) → CompactCall old answer new → TakesNothing old new
  compact_carries_on old new (Ok out) (runs, empty, h) = rewritten old new h.base h.held h.kept h.rewritten
  compact_carries_on old new (Err refusals.Halted) h = unchanged old new h.1
  compact_carries_on old new (Err (refusals.Journal journal_faults.Foreign)) h = unchanged old new h.3
  compact_carries_on old new (Err (refusals.Journal journal_faults.Disk)) h = absurd h
  compact_carries_on old new (Err (refusals.Journal journal_faults.Halted)) h = absurd h
  compact_carries_on old new (Err (refusals.Journal journal_faults.Memory)) h = absurd h
  compact_carries_on old new (Err (refusals.Journal (journal_faults.BadRecord slot at))) h = absurd h
  compact_carries_on old new (Err (refusals.Disk excuse)) (runs, empty, h) = not_rewritten old new h.base h.held h.kept h.failed
  compact_carries_on old new (Err refusals.Memory) h = unchanged old new h
  compact_carries_on old new (Err (refusals.Frame fault)) h = absurd h
  compact_carries_on old new (Err (refusals.Conflict client)) h = absurd h
  compact_carries_on old new (Err refusals.Full) h = absurd h
  compact_carries_on old new (Err refusals.Exhausted) h = absurd h

  pub reopen_carries_on : (old new : State G) (answer : Result Out Refusal) → ReopenCall old answer new → ReopenCarriesOn old answer new
  reopen_carries_on old new (Ok out) h = reopened old new h.1
  reopen_carries_on old new (Err refusal) h = not_reopened old new refusal h.1

  pub step_carries_on : (old new : State G) (step : Step) (answer : Result Out Refusal) → StepCall old step answer new → StepCarriesOn old step answer new
  step_carries_on old new (steps.Frame from bytes now) answer h = own_carries_on old new (Datagram from bytes) now answer h
  step_carries_on old new (steps.Take delta) answer h = take_carries_on old new delta answer h
  step_carries_on old new (steps.Tick now) answer h = own_carries_on old new Clock now answer h
  step_carries_on old new (steps.View client) answer h = view_carries_on old new client answer h
  step_carries_on old new steps.Digest answer h = digest_carries_on old new answer h
  step_carries_on old new (steps.Answer asked) answer h = answer_carries_on old new asked answer h
  step_carries_on old new steps.Compact answer h = compact_carries_on old new answer h
  step_carries_on old new steps.Reopen answer h = reopen_carries_on old new answer h
