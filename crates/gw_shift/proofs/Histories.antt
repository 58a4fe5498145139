-- A legal history that goes on.
use Rattle.std.proofs.Common.{◌≡◌, ◌<◌, ◌+◌, ◌≤◌, ℕ, List, [], ◌∷◌, ◌++◌, length, map, take, inl, inr, refl, sym, subst, ap, ◌∙◌, append-nil, append_assoc, arith, Result}
use Rattle.std.proofs.lemmas.List.{length-map, take-map, take-take}
use Rattle.std.specs.Arc.{arc_value}
use Rattle.std.specs.declared.sync.Arc.{Arc}
use Rattle.std.specs.declared.alloc.Global.{Global}
use Rattle.rep_op.specs.declared.op.Op.{Op}
use Rattle.rep_model.specs.Held.{IsHeld}
use Rattle.jr_disk.specs.declared.disk.Disk.{Ghosts}
use Rattle.gw_answer.specs.declared.out.Out.{Out}
use Rattle.gw_answer.specs.declared.refusal.Refusal.{Refusal}
use Rattle.gw_answer.specs.declared.step.Step.{Step}
use Rattle.jr_journal.specs.Parts.{disk_under}
use Rattle.gw_node.specs.Parts.{State}
use Rattle.gw_node.specs.Calls.{StepCall}
use Rattle.gw_node.specs.Standing.{EventsOn}
use Rattle.gw_shift.specs.inner.Passes.{call, calls_of}
use Rattle.gw_shift.specs.Calls.{Call}
use Rattle.gw_node.specs.Failures.{failed, failed_all}
use Rattle.gw_node.proofs.Failing.{failures_grow}
use Rattle.gw_node.proofs.Leading.{event_on}
use Rattle.gw_shift.specs.Legal.{Does, DoTogether, DoesPart, Leads, calls_in, steps_in, answers_in, failed_in, IsLegal}
use Rattle.gw_shift.specs.inner.Legal.{IsLegalFrom}

leads_on : {D : Type 0} {G : Ghosts D} (old : State G) (parts : List (List Call)) (between : State G) (part : List Call) (new : State G)
    → Leads old parts between → DoesPart between part new → Leads old (parts ++ part ∷ []) new
leads_on old [] between part new same does = (new, subst (λ s. DoesPart s part new) (sym same) does, refl)
leads_on old (p ∷ parts) between part new leads does = (leads.0, leads.1, leads_on leads.0 parts between part new leads.2 does)

calls_on : (parts : List (List Call)) (part : List Call) → calls_in (parts ++ part ∷ []) ≡ calls_in parts ++ part
calls_on [] part = append-nil part
calls_on (p ∷ parts) part = ap (λ calls. p ++ calls) (calls_on parts part) ∙ sym (append_assoc p (calls_in parts) part)

failed_both : (calls more : List Call) → failed_in (calls ++ more) ≡ failed_in calls + failed_in more
failed_both [] more = omega arith
failed_both (c ∷ calls) more = omega (arith, failed_both calls more)

-- nothing was called yet
pub begins : {D : Type 0} {G : Ghosts D} (opening : List (List Op)) (first state : State G) → first ≡ state → IsHeld state.kept opening → IsLegalFrom first opening [] state
begins {G = G} opening first state same held = record {
  opened = subst (λ (s : State G). IsHeld s.kept opening) (sym same) held;
  parts = [];
  whole = refl;
  leads = same;
  failures = subst (λ (s : State G). G.failures (disk_under first.journal) + 0 ≤ G.failures (disk_under s.journal)) same (omega arith);
}

-- one part more
goes_on_by : {D : Type 0} {G : Ghosts D} (first : State G) (opening : List (List Op)) (calls part whole : List Call) (between new : State G)
    → whole ≡ calls ++ part → DoesPart between part new → G.failures (disk_under between.journal) + failed_in part ≤ G.failures (disk_under new.journal)
    → IsLegalFrom first opening calls between → IsLegalFrom first opening whole new
goes_on_by first opening calls part whole between new is does failures legal =
    let all : failed_in whole ≡ failed_in calls + failed_in part = ap failed_in is ∙ failed_both calls part in
    record {
      opened = legal.opened;
      parts = legal.parts ++ part ∷ [];
      whole = calls_on legal.parts part ∙ ap (λ xs. xs ++ part) legal.whole ∙ sym is;
      leads = leads_on first legal.parts between part new legal.leads does;
      failures = omega (arith, legal.failures, failures, all);
    }

-- one more call by itself
pub goes_on : {D : Type 0} {G : Ghosts D} (first : State G) (opening : List (List Op)) (calls : List Call) (between : State G) (call : Call) (new : State G)
    → Does between call new → IsLegalFrom first opening calls between → IsLegalFrom first opening (calls ++ call ∷ []) new
goes_on first opening calls between call new does legal =
    let grow = failures_grow between call.step call.answer new does.called in
    goes_on_by first opening calls (call ∷ []) (calls ++ call ∷ []) between new refl (inl (call, refl, does)) (omega (arith, grow)) legal

-- more calls with one write
pub go_on_together : {D : Type 0} {G : Ghosts D} (first : State G) (opening : List (List Op)) (calls more whole : List Call) (between new : State G)
    → whole ≡ calls ++ more → DoTogether between more new → IsLegalFrom first opening calls between → IsLegalFrom first opening whole new
go_on_together first opening calls more whole between new is does legal =
    goes_on_by first opening calls more whole between new is (inr does) does.failures legal

-- a legal history, whatever it began at
pub from_first : {D : Type 0} {G : Ghosts D} (first : State G) (opening : List (List Op)) (calls : List Call) (state : State G) → IsLegalFrom first opening calls state → IsLegal opening calls state
from_first first opening calls state legal =
    record { first = first; opened = legal.opened; parts = legal.parts; whole = legal.whole; leads = legal.leads; failures = legal.failures }

-- what the node's clause of its call says, of the values that are entered
called_so : {D : Type 0} {G : Ghosts D} (old : State G) (step told : Step) (answer said : Result Out Refusal) (new : State G)
    → told ≡ step → answer ≡ said → StepCall old told said new → StepCall old step answer new
called_so old step told answer said new same equal called =
    subst (λ a. StepCall old step a new) (sym equal) (subst (λ s. StepCall old s said new) same called)

-- what the node's call ensures, of the values that are entered
pub does_so : {D : Type 0} {G : Ghosts D} (old : State G) (place : ℕ) (step told : Step) (answer said : Result Out Refusal) (new : State G)
    → told ≡ step → answer ≡ said → StepCall old told said new → Does old (call place step answer) new
does_so old place step told answer said new same equal called = record {
  called = called_so old step told answer said new same equal called;
  event = event_on old new step answer (called_so old step told answer said new same equal called);
}

-- ---- calls with one write

steps_of_calls : (place : ℕ) (steps : List Step) (answers : List (Result Out Refusal)) → length answers ≤ length steps
    → steps_in (calls_of place steps answers) ≡ take (length answers) steps
steps_of_calls place steps [] few = refl
steps_of_calls place [] (a ∷ answers) few = absurd (omega (arith, few))
steps_of_calls place (s ∷ steps) (a ∷ answers) few = ap (λ (xs : List Step). s ∷ xs) (steps_of_calls place steps answers (omega (arith, few)))

answers_of_calls : (place : ℕ) (steps : List Step) (answers : List (Result Out Refusal)) → length answers ≤ length steps
    → answers_in (calls_of place steps answers) ≡ answers
answers_of_calls place steps [] few = refl
answers_of_calls place [] (a ∷ answers) few = absurd (omega (arith, few))
answers_of_calls place (s ∷ steps) (a ∷ answers) few =
    ap (λ (xs : List (Result Out Refusal)). a ∷ xs) (answers_of_calls place steps answers (omega (arith, few)))

failed_of_calls : (place : ℕ) (steps : List Step) (answers : List (Result Out Refusal)) → length answers ≤ length steps
    → failed_in (calls_of place steps answers) ≡ failed_all answers
failed_of_calls place steps [] few = refl
failed_of_calls place [] (a ∷ answers) few = absurd (omega (arith, few))
failed_of_calls place (s ∷ steps) (a ∷ answers) few = omega (arith, failed_of_calls place steps answers (omega (arith, few)))

count_of_calls : (place : ℕ) (steps : List Step) (answers : List (Result Out Refusal)) → length answers ≤ length steps
    → length (calls_of place steps answers) ≡ length answers
count_of_calls place steps [] few = refl
count_of_calls place [] (a ∷ answers) few = absurd (omega (arith, few))
count_of_calls place (s ∷ steps) (a ∷ answers) few = omega (arith, count_of_calls place steps answers (omega (arith, few)))

-- what the node's calls ensure, of the values that are entered
pub do_so : {D : Type 0} {G : Ghosts D} (old : State G) (place most : ℕ) (steps : List (Arc Step Global)) (answers : List (Result Out Refusal)) (new : State G)
    → 0 < length answers → length answers ≤ most → most ≤ length steps
    → EventsOn old (take (length answers) (map arc_value (take most steps))) answers new
    → G.failures (disk_under old.journal) + failed_all answers ≤ G.failures (disk_under new.journal)
    → DoTogether old (calls_of place (map arc_value steps) answers) new
do_so {G = G} old place most steps answers new some few within events failures =
    let all : List Step = map arc_value steps in
    let calls : List Call = calls_of place all answers in
    let short : length answers ≤ length all = omega (arith, few, within, length-map steps arc_value) in
    let first : take (length answers) (map arc_value (take most steps)) ≡ take (length answers) all =
    ap (λ (xs : List Step). take (length answers) xs) (sym (take-map arc_value most steps)) ∙ take-take (length answers) most all few in
    let same : steps_in calls ≡ take (length answers) (map arc_value (take most steps)) = steps_of_calls place all answers short ∙ sym first in
    let count = count_of_calls place all answers short in
    let told = failed_of_calls place all answers short in
    record {
      some = omega (arith, some, count);
      events =
          subst (λ (rs : List (Result Out Refusal)). EventsOn old (steps_in calls) rs new) (sym (answers_of_calls place all answers short))
          (subst (λ (ss : List Step). EventsOn old ss answers new) (sym same) events);
      failures = omega (arith, failures, told);
    }
