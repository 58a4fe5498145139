-- The disk failed as often at least as a call was told so, whichever call it was.
use Rattle.std.proofs.Common.{◌≡◌, ◌+◌, ◌≤◌, ℕ, List, [], ◌∷◌, Option, Some, None, Result, Ok, Err, ap, arith}
use Rattle.rep_op.specs.declared.op.Op.{Op}
use Rattle.rep_digest.specs.Digests.{Digested}
use Rattle.jr_disk.specs.declared.disk.Disk.{Ghosts}
use Rattle.jr_journal.specs.declared.fault.JournalFault.TheVariants as journal_faults
use Rattle.jr_journal.specs.declared.journal.Journal.{Journal}
use Rattle.jr_journal.specs.Parts.{disk_under}
use Rattle.gw_answer.specs.declared.out.Out.{Out}
use Rattle.gw_answer.specs.declared.refusal.Refusal.{Refusal}
use Rattle.gw_answer.specs.declared.refusal.Refusal.TheVariants as refusals
use Rattle.gw_answer.specs.declared.step.Step.{Step}
use Rattle.gw_answer.specs.declared.step.Step.TheVariants as steps
use Rattle.gw_event.specs.Occasions.{Occasion, Datagram, Clock}
use Rattle.gw_node.specs.Parts.{State, IsUntouched}
use Rattle.gw_node.specs.Plans.{Makes}
use Rattle.gw_node.specs.Calls.{OwnCall, TakeCall, ViewCall, DigestCall, AnswerCall, CompactCall, StepCall, IsNoted}
use Rattle.gw_node.specs.Opening.{ReopenCall}
use Rattle.gw_node.specs.Failures.{failed}

-- a disk on which this many more calls failed, at least
abbrev Fails : {D : Type 0} {G : Ghosts D} → Journal D G → ℕ → Journal D G → Type 0
Fails {G = G} old n new = G.failures (disk_under old) + n ≤ G.failures (disk_under new)

untouched : {D : Type 0} {G : Ghosts D} (old new : Journal D G) → IsUntouched old new → Fails old 0 new
untouched {G = G} old new same = let e : G.failures (disk_under new) ≡ G.failures (disk_under old) = ap G.failures same.disk in omega (arith, e)

makes : {D : Type 0} {G : Ghosts D} (ops : List Op) (made : Option (List Op)) (old new : State G) → Makes ops made old new → Fails old.journal 0 new.journal
makes [] None old new h = untouched old.journal new.journal h.1
makes [] (Some delta) old new h = absurd h
makes (op ∷ ops) None old new h = absurd h
makes (op ∷ ops) (Some delta) old new h = omega (arith, h.3.failures)

notes : {D : Type 0} {G : Ghosts D} (old : Journal D G) (delta : List Op) (new : Journal D G) → IsNoted old delta new → Fails old 0 new
notes old [] new h = untouched old new h
notes old (op ∷ ops) new h = omega (arith, h.failures)

own : {D : Type 0} {G : Ghosts D} (old : State G) (occasion : Occasion) (now : ℕ) (answer : Result Out Refusal) (new : State G)
    → OwnCall old occasion now answer new → Fails old.journal (failed answer) new.journal
own old occasion now (Err refusals.Halted) new h = untouched old.journal new.journal h.1.journal
own old occasion now (Err (refusals.Frame fault)) new h = untouched old.journal new.journal h.2.journal
own old occasion now (Err refusals.Exhausted) new h = untouched old.journal new.journal h.2.journal
own old occasion now (Err (refusals.Conflict client)) new h = untouched old.journal new.journal h.2.journal
own old occasion now (Err refusals.Full) new h = untouched old.journal new.journal h.2.journal
own old occasion now (Err (refusals.Disk excuse)) new h = omega (arith, h.1.3.failed.cause)
own old occasion now (Err refusals.Memory) new h = untouched old.journal new.journal h.journal
own old occasion now (Err (refusals.Journal fault)) new h = absurd h
own old occasion now (Ok out) new h = makes h.1.0.ops out.made old new h.1.2.made

takes : {D : Type 0} {G : Ghosts D} (old : State G) (delta : List Op) (answer : Result Out Refusal) (new : State G)
    → TakeCall old delta answer new → Fails old.journal (failed answer) new.journal
takes old delta (Err refusals.Halted) new h = untouched old.journal new.journal h.1.journal
takes old delta (Err (refusals.Conflict client)) new h = untouched old.journal new.journal h.2.journal
takes old delta (Err refusals.Full) new h = untouched old.journal new.journal h.2.journal
takes old delta (Err (refusals.Disk excuse)) new h = omega (arith, h.2.failed.cause)
takes old delta (Err refusals.Memory) new h = untouched old.journal new.journal h.journal
takes old delta (Err (refusals.Frame fault)) new h = absurd h
takes old delta (Err refusals.Exhausted) new h = absurd h
takes old delta (Err (refusals.Journal fault)) new h = absurd h
takes old delta (Ok out) new h = notes old.journal delta new.journal h.2.noted

views : {D : Type 0} {G : Ghosts D} (old : State G) (client : List ℕ) (answer : Result Out Refusal) (new : State G)
    → ViewCall old client answer new → Fails old.journal (failed answer) new.journal
views old client (Ok out) new h = untouched old.journal new.journal h.1.journal
views old client (Err refusals.Memory) new h = untouched old.journal new.journal h.journal
views old client (Err refusals.Halted) new h = absurd h
views old client (Err (refusals.Frame fault)) new h = absurd h
views old client (Err (refusals.Disk excuse)) new h = absurd h
views old client (Err (refusals.Conflict of)) new h = absurd h
views old client (Err refusals.Full) new h = absurd h
views old client (Err refusals.Exhausted) new h = absurd h
views old client (Err (refusals.Journal fault)) new h = absurd h

digests : {D : Type 0} {G : Ghosts D} (old : State G) (answer : Result Out Refusal) (new : State G)
    → DigestCall old answer new → Fails old.journal (failed answer) new.journal
digests old (Ok out) new h = untouched old.journal new.journal h.2.journal
digests old (Err refusals.Full) new h = untouched old.journal new.journal h.1.journal
digests old (Err refusals.Memory) new h = untouched old.journal new.journal h.journal
digests old (Err refusals.Halted) new h = absurd h
digests old (Err (refusals.Frame fault)) new h = absurd h
digests old (Err (refusals.Disk excuse)) new h = absurd h
digests old (Err (refusals.Conflict of)) new h = absurd h
digests old (Err refusals.Exhausted) new h = absurd h
digests old (Err (refusals.Journal fault)) new h = absurd h

answers : {D : Type 0} {G : Ghosts D} (old : State G) (asked : Digested) (answer : Result Out Refusal) (new : State G)
    → AnswerCall old asked answer new → Fails old.journal (failed answer) new.journal
answers old asked (Ok out) new h = untouched old.journal new.journal h.2.journal
answers old asked (Err refusals.Memory) new h = untouched old.journal new.journal h.journal
answers old asked (Err refusals.Full) new h = absurd h
answers old asked (Err refusals.Halted) new h = absurd h
answers old asked (Err (refusals.Frame fault)) new h = absurd h
answers old asked (Err (refusals.Disk excuse)) new h = absurd h
answers old asked (Err (refusals.Conflict of)) new h = absurd h
answers old asked (Err refusals.Exhausted) new h = absurd h
answers old asked (Err (refusals.Journal fault)) new h = absurd h

compacts : {D : Type 0} {G : Ghosts D} (old : State G) (answer : Result Out Refusal) (new : State G) → CompactCall old answer new → Fails old.journal (failed answer) new.journal
compacts old (Ok out) new h = omega (arith, h.2.rewritten.failures)
compacts old (Err refusals.Halted) new h = untouched old.journal new.journal h.1.journal
compacts old (Err (refusals.Journal journal_faults.Foreign)) new h = untouched old.journal new.journal h.3.journal
compacts old (Err (refusals.Journal journal_faults.Disk)) new h = absurd h
compacts old (Err (refusals.Journal journal_faults.Halted)) new h = absurd h
compacts old (Err (refusals.Journal journal_faults.Memory)) new h = absurd h
compacts old (Err (refusals.Journal (journal_faults.BadRecord slot at))) new h = absurd h
compacts old (Err (refusals.Disk excuse)) new h = omega (arith, h.2.failed.cause)
compacts old (Err refusals.Memory) new h = untouched old.journal new.journal h.journal
compacts old (Err (refusals.Frame fault)) new h = absurd h
compacts old (Err (refusals.Conflict client)) new h = absurd h
compacts old (Err refusals.Full) new h = absurd h
compacts old (Err refusals.Exhausted) new h = absurd h

reopens : {D : Type 0} {G : Ghosts D} (old : State G) (answer : Result Out Refusal) (new : State G) → ReopenCall old answer new → Fails old.journal (failed answer) new.journal
reopens old (Ok out) new h = omega (arith, h.1.failures)
reopens old (Err (refusals.Disk excuse)) new h = omega (arith, h.1.cause tt)
reopens old (Err refusals.Halted) new h = omega (arith, h.1.failures)
reopens old (Err (refusals.Frame fault)) new h = omega (arith, h.1.failures)
reopens old (Err refusals.Exhausted) new h = omega (arith, h.1.failures)
reopens old (Err (refusals.Conflict client)) new h = omega (arith, h.1.failures)
reopens old (Err refusals.Full) new h = omega (arith, h.1.failures)
reopens old (Err (refusals.Journal fault)) new h = omega (arith, h.1.failures)
reopens old (Err refusals.Memory) new h = omega (arith, h.1.failures)

pub failures_grow : {D : Type 0} {G : Ghosts D} (old : State G) (step : Step) (answer : Result Out Refusal) (new : State G)
    → StepCall old step answer new → G.failures (disk_under old.journal) + failed answer ≤ G.failures (disk_under new.journal)
failures_grow old (steps.Frame from bytes now) answer new h = own old (Datagram from bytes) now answer new h
failures_grow old (steps.Tick now) answer new h = own old Clock now answer new h
failures_grow old (steps.Take delta) answer new h = takes old delta answer new h
failures_grow old (steps.View client) answer new h = views old client answer new h
failures_grow old steps.Digest answer new h = digests old answer new h
failures_grow old (steps.Answer asked) answer new h = answers old asked answer new h
failures_grow old steps.Compact answer new h = compacts old answer new h
failures_grow old steps.Reopen answer new h = reopens old answer new h
