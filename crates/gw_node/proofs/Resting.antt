-- A tick that has nothing to do.
use Rattle.std.proofs.Common.{◌≡◌, ℕ, ◌≤◌, false, true, List, [], Option, Some, None, Ok, Err, refl, sym, ap, ◌∙◌, subst}
use Rattle.rep_op.specs.declared.op.Op.{Op}
use Rattle.rep_ops.specs.Making.{HaveOwnNames}
use Rattle.sn_local.specs.declared.config.Config.{Config}
use Rattle.sn_plan.specs.Drafts.{nothing}
use Rattle.sn_local.specs.Locals.{Local}
use Rattle.sn_local.specs.Seen.{seen_of}
use Rattle.sn_plan.specs.Plans.{plan_without}
use Rattle.sn_tick.specs.Rest.{is_idle}
use Rattle.sn_tick.proofs.Idle.{idle_tick, idle_before}
use Rattle.jr_disk.specs.declared.disk.Disk.{Ghosts}
use Rattle.gw_answer.specs.declared.out.Out.{Out}
use Rattle.gw_answer.specs.declared.refusal.Refusal.TheVariants as refusals
use Rattle.gw_event.specs.Occasions.{Clock}
use Rattle.gw_node.specs.Parts.{State, is_halted, IsUnchanged, IsUntouched}
use Rattle.gw_answer.specs.Answers.{only_sends}
use Rattle.gw_node.specs.Plans.{Makes}
use Rattle.gw_node.specs.Calls.{OwnCall, IsDone}
use Rattle.gw_node.specs.inner.Handling.{IsIdleAt}
use Rattle.gw_node.specs.inner.Resting.{rests}

-- what is remembered of a moment holds of each before it
pub remembered : (idle : Option ℕ) (until now : ℕ) (config : Config) (kept : List Op) (local : Local) → idle ≡ Some until → now ≤ until → rests idle config kept local ≡ true
    → is_idle config.gateway config.advertise config.field (seen_of kept) local now ≡ true
remembered idle until now config kept local is before h =
    idle_before now until before config.gateway config.advertise config.field (seen_of kept) local (subst (λ (known : Option ℕ). rests known config kept local ≡ true) is h)

none_apart : HaveOwnNames []
none_apart = record { well_made = tt; once = λ w. absurd cc }

module _ {D : Type 0} {G : Ghosts D} where
  untouched : (state : State G) → IsUntouched state.journal state.journal
  untouched state = record { gateway = refl; slot = refl; generation = refl; halted = refl; disk = refl }

  -- the plan without anything is carried out: nothing is sent, and nothing changes
  done : (state : State G) (out : Out) → out ≡ only_sends [] → IsDone state (plan_without nothing) out state
  done state out is = record {
    config = refl;
    records = refl;
    local = refl;
    apart = none_apart;
    made = subst (λ (made : Option (List Op)). Makes [] made state state) (sym (ap (λ (out : Out). out.made) is)) (refl, untouched state);
    answer = is ∙ ap (λ (made : Option (List Op)). record (only_sends []) { made = made }) (sym (ap (λ (out : Out). out.made) is));
  }

  -- a tick that has nothing to do is answered,
  pub rested : (state : State G) (now : ℕ) (out : Out) → is_halted state ≡ false → IsIdleAt state now → out ≡ only_sends []
      → OwnCall state Clock now (Ok out) state
  rested state now out runs idle is =
      (runs, (plan_without nothing, idle_tick state.config.gateway state.config.lifetime state.config.advertise state.config.field state.config.predefined (seen_of state.kept) state.local now idle, done state out is))

  -- or memory ran out
  pub wanting : (state : State G) (now : ℕ) → OwnCall state Clock now (Err refusals.Memory) state
  wanting state now = record { config = refl; kept = refl; local = refl; journal = untouched state; records = refl }
