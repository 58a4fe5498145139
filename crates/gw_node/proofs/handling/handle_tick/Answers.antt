-- A tick that has nothing to do, and one that may have.
use Rattle.std.proofs.Common.{◌≡◌, false, Ok, Err, refl, sym, ap, ◌∙◌, subst, rules}
use Rattle.std.proofs.lemmas.Result.{err_from_is_err_and}
use Rattle.gw_answer.specs.declared.refusal.Refusal.TheVariants as refusals
use Rattle.gw_event.specs.Occasions.{Clock}
use Rattle.gw_node.specs.Parts.{State, state_of, is_halted}
use Rattle.gw_node.specs.Calls.{OwnCall}
use Rattle.gw_node.proofs.Resting.{rested, wanting}
use Rattle.gw_node.proofs.handling.handle_tick.Goals as goal

pub returns-then-is_idle_at : goal.returns-then-is_idle_at
returns-then-is_idle_at g c =
    let old = state_of g.R.Replica.kept c.args.node.now in
    let runs : is_halted old ≡ false = search rules in
    subst (λ (new : State g.D.Disk). OwnCall old Clock c.args.now (Ok c.in_ok-rest.field-0) new) (sym c.is_idle_at.ensures.same)
    (rested old c.args.now c.in_ok-rest.field-0 runs (c.is_idle_at.ensures.idle c.if-is_idle_at.true) c.in_ok-rest.ensures)

pub returns-in_err-rest : goal.returns-in_err-rest
returns-in_err-rest g c =
    let old = state_of g.R.Replica.kept c.args.node.now in
    let p = err_from_is_err_and c.from_residual.result c.from_residual.ensures.1 in
    rw (p.1, p.2) (subst (λ (new : State g.D.Disk). OwnCall old Clock c.args.now (Err refusals.Memory) new) (sym c.is_idle_at.ensures.same) (wanting old c.args.now))

pub answer_tick-requires : goal.answer_tick-requires
answer_tick-requires g c =
    let runs : is_halted (state_of g.R.Replica.kept c.args.node.now) ≡ false = search rules in
    ap (λ (state : State g.D.Disk). is_halted state) c.is_idle_at.ensures.same ∙ runs

pub returns : goal.returns
returns g c =
    subst (λ (old : State g.D.Disk). OwnCall old Clock c.args.now c.answer_tick.result (state_of g.R.Replica.kept c.answer_tick.new.node)) c.is_idle_at.ensures.same c.answer_tick.ensures
