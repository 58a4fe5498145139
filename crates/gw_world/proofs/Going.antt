-- From the event of a node's call to a step of the gateway for which it stands.
use Rattle.std.proofs.Common.{◌≡◌, ◌<◌, ◌≤◌, ℕ, Bool, true, false, if◌then◌else◌, length, inl, inr, List, Some, Result, Ok, Err, IfOk, OnOk, refl, sym, ap, ◌∙◌, subst, arith}
use Rattle.std.specs.Prelude.{IsTrue}
use Rattle.std.specs.List.{AllByRecursion}
use Rattle.rep_op.specs.declared.op.Op.{Op}
use Rattle.rep_ops.specs.Spelling.{max_octets}
use Rattle.rep_answer.specs.Answers.{IsAnswer}
use Rattle.rep_digest.specs.Digests.{digest}
use Rattle.rep_digest.specs.Spelling.{digest_spelling, IsDigestWithinLimit}
use Rattle.rep_digest.proofs.Counted.{same_digest}
use Rattle.rep_answer.proofs.Completing.{same_answer}
use Rattle.jr_disk.specs.declared.disk.Disk.{Ghosts}
use Rattle.jr_disk.specs.declared.disk.Failure.TheVariants.{Stop, KeepBack}
use Rattle.jr_disk.specs.Memory.{MemoryState, failing as failing_disk}
use Rattle.jr_journal.specs.Arranged.{misses_failure}
use Rattle.jr_journal.specs.Parts.{disk_under}
use Rattle.gw_answer.specs.declared.out.Out.{Out}
use Rattle.gw_answer.specs.declared.refusal.Refusal.{Refusal}
use Rattle.gw_answer.specs.declared.refusal.Refusal.TheVariants as refusals
use Rattle.gw_answer.specs.declared.step.Step.{Step}
use Rattle.gw_node.specs.Arranging.{Arranges}
use Rattle.gw_event.specs.Event.{Event, StepOf, IsWritable}
use Rattle.gw_event.specs.Gateways.{Gateway}
use Rattle.gw_node.specs.Keeping.{Keeps}
use Rattle.gw_node.specs.Parts.{State}
use Rattle.gw_node.specs.Standing.{with_failure, CanBeSaid, EventOn}
use Rattle.gw_world.specs.Events.{answered_of}
use Rattle.gw_world.specs.Keeping.{IsShown}
use Rattle.gw_world.specs.Steps.{AnswerStep}
use Rattle.gw_world.specs.inner.Events.{IsFed, GoesOn, FailsNext, AskKept}

-- where memory did not run out, the event is a step
step_of : (before next : Gateway) (made : List (List Op)) (step : Step) (answer : Result Out Refusal) → IsFed answer → Event before step answer next made → StepOf before step answer next made
step_of before next made step answer memory (inl h) = h
step_of before next made step answer memory (inr h) = absurd (subst IsFed h.0 memory)

module _ {D : Type 0} {G : Ghosts D} where
  pub goes_on : (old new : State G) (step : Step) (answer : Result Out Refusal) → G.honest → G.starved (disk_under new.journal) ≡ false → IsFed answer
      → ((gateway : Gateway) → IsShown gateway old → CanBeSaid gateway old step answer new) → EventOn old step answer new → GoesOn old step answer new
  goes_on old new step answer honest fed memory premise event = λ gateway s agrees.
      let l = event gateway s.stands (premise gateway s) in
      let f = l.foreseen honest fed s.foreseen in
      let same : with_failure l.fate gateway ≡ gateway = λ i. record gateway { drive = record gateway.drive { plan = f.0 i } } in
      let happened = subst (λ (x : Gateway). Event x step answer l.next l.made) same l.happens in (
        l.next,
        l.made,
        step_of gateway l.next l.made step answer memory happened,
        record { stands = l.stands; foreseen = f.1; fed = fed; lasts = λ h. l.lasts agrees h (s.lasts h) },
      )

-- ---- a failure is arranged

failing_quiet : (bytes : ℕ) (sync : Bool) → IsTrue (misses_failure (Some (Some (if sync then KeepBack else Stop bytes))) false)
failing_quiet bytes true = refl
failing_quiet bytes false = refl

-- a disk of which what is arranged changes that and nothing else
pub fails_next : {G : Ghosts MemoryState} (old new : State G) (bytes : ℕ) (sync : Bool)
    → ((d : MemoryState) → G.slots (failing_disk bytes sync d) ≡ G.slots d) → ((d : MemoryState) → G.starved (failing_disk bytes sync d) ≡ G.starved d)
    → ((d : MemoryState) → G.outlook (failing_disk bytes sync d) ≡ Some (Some (if sync then KeepBack else Stop bytes)))
    → Arranges bytes sync old new → FailsNext old bytes sync new
fails_next {G} old new bytes sync same_slots same_starved outlook a = λ gateway s. record {
  stands = record {
    configured = a.config ∙ s.stands.configured;
    numbered = a.gateway ∙ s.stands.numbered;
    bound = a.local ∙ s.stands.bound;
    keeps = subst (λ (K : List Op). Keeps gateway.taken K) (sym a.kept) s.stands.keeps;
    slot = a.slot ∙ s.stands.slot;
    halted = a.halted ∙ s.stands.halted;
    slots = λ honest. ap G.slots a.disk ∙ same_slots (disk_under old.journal) ∙ s.stands.slots honest;
  };
  foreseen = record { plan = ap G.outlook a.disk ∙ outlook (disk_under old.journal); quiet = failing_quiet bytes sync };
  fed = ap G.starved a.disk ∙ same_starved (disk_under old.journal) ∙ s.fed;
  lasts = λ honest. let l = s.lasts honest in record { synced = l.synced; none = l.none; images = l.images; begun = l.begun };
}

-- ---- a digest goes to a peer

-- more than the limit is not within it
past : (n limit : ℕ) → limit < n → n ≤ limit → ⊥
past n limit lt le = absurd (omega (arith, lt, le))

pub ask_taken : {D : Type 0} {G : Ghosts D} (g : Gateway) (k : State G) → IsShown g k → (h : Gateway) (l : State G) → IsShown h l → (answer : Result Out Refusal) → AskKept k.kept l.kept answer
    → AllByRecursion IsWritable (answered_of answer) → AnswerStep g h answer (answered_of answer)
ask_taken g k s h l t (Ok out) (within, (is_answer, is_out)) writable =
    let same : digest k.kept ≡ digest g.taken = same_digest g.taken k.kept s.stands.keeps.counts in (
      subst IsDigestWithinLimit same within,
      subst (λ d. IsAnswer d h.taken out.answer) same (same_answer h.taken l.kept t.stands.keeps.counts (digest k.kept) out.answer is_answer),
      writable,
      is_out,
    )
ask_taken g k s h l t (Err refusals.Full) long writable =
    let same : digest k.kept ≡ digest g.taken = same_digest g.taken k.kept s.stands.keeps.counts in
    (λ within. past (length (digest_spelling (digest g.taken))) max_octets (subst (λ d. max_octets < length (digest_spelling d)) same long) within, refl)
ask_taken g k s h l t (Err (refusals.Frame fault)) answer writable = absurd answer
ask_taken g k s h l t (Err refusals.Halted) answer writable = absurd answer
ask_taken g k s h l t (Err (refusals.Disk excuse)) answer writable = absurd answer
ask_taken g k s h l t (Err (refusals.Conflict client)) answer writable = absurd answer
ask_taken g k s h l t (Err refusals.Exhausted) answer writable = absurd answer
ask_taken g k s h l t (Err (refusals.Journal fault)) answer writable = absurd answer
ask_taken g k s h l t (Err refusals.Memory) answer writable = absurd answer

-- ---- results

-- an answer that is given on, where memory did not run out
pub if_fed : {A E S P Q : Type 0} (r : Result A E) (f : A → S) (s : S) (W : S → Type 0) → IfOk r (λ given. f given ≡ s) → OnOk r P → OnOk r Q → (P → Q → W s) → IfOk r (λ given. W (f given))
if_fed (Ok x) f s W same p q h = subst W (sym same) (h p q)
if_fed (Err e) f s W same p q h = tt
