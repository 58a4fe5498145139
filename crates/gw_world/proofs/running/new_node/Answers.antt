-- What it is where it was opened on an empty disk.
use Rattle.std.proofs.Common.{Some, sym, ap, ◌∙◌, subst}
use Rattle.sn_local.specs.declared.config.Config.{Config}
use Rattle.jr_disk.specs.Disk.{image}
use Rattle.jr_disk.specs.Memory.{MemoryState}
use Rattle.gw_event.specs.Gateways.{new_gateway}
use Rattle.gw_node.specs.Parts.{state_of}
use Rattle.gw_answer.specs.Answers.{refusal_of_fault}
use Rattle.gw_world.specs.Keeping.{IsShown}
use Rattle.gw_world.proofs.Opened.{new_shown, unplanned, only_memory_new}
use Rattle.gw_world.proofs.running.new_node.Goals as goal

pub want_of_memory-requires : goal.want_of_memory-requires
want_of_memory-requires g c =
    only_memory_new c.in_ok-copied.field-0 _ (refusal_of_fault c.in-Err.fault) (ap (λ (d : MemoryState). image d.slots) c.new.ensures)
    (c.in-Err.ensures.fault tt)
    (c.in-Err.ensures.blameless tt (unplanned _ _ c.new.ensures) (sym c.starved-in-Err.ensures ∙ c.if-starved-2.false)).0

pub returns-else-starved : goal.returns-else-starved
returns-else-starved g c =
    let fed = sym c.starved.ensures ∙ c.if-starved.false in
    subst (λ (config : Config). IsShown (new_gateway config) (state_of g.R.Replica.kept c.in-Ok.node)) c.in_ok-copied.ensures
    (new_shown c.in_ok-copied.field-0 _ (state_of g.R.Replica.kept c.in-Ok.node) (ap (λ (d : MemoryState). image d.slots) c.new.ensures)
    (record {
      honest = tt;
      starts = c.in-Ok.ensures.starts;
      keeps = c.in-Ok.ensures.keeps tt;
      durable = c.in-Ok.ensures.durable tt;
      place = c.in-Ok.ensures.place tt;
      known = c.in-Ok.ensures.known tt;
      planned = c.in-Ok.ensures.quiet tt (unplanned _ _ c.new.ensures) fed ∙ ap (λ (d : MemoryState). Some d.plan) c.new.ensures;
      fed = fed;
    }))
