-- What a crash left stands for a set, so the opening goes well.
use Rattle.std.proofs.Common.{Some, sym, ap, ◌∙◌}
use Rattle.jr_disk.specs.Disk.{image, after_crash}
use Rattle.jr_disk.specs.Memory.{MemoryState}
use Rattle.jr_journal.specs.Records.{records}
use Rattle.gw_node.specs.Parts.{state_of}
use Rattle.gw_answer.specs.Answers.{refusal_of_fault}
use Rattle.gw_world.proofs.Opened.{restarted_shown, records_found, begun_left, quiet_left, only_memory, crash_left}
use Rattle.gw_world.proofs.field.open_again.Goals as goal

pub want_of_memory-requires : goal.want_of_memory-requires
want_of_memory-requires g c =
    let old = state_of g.R.Replica.kept c.args.node in
    let found = ap (λ (d : MemoryState). image d.slots) c.crash.ensures ∙ crash_left c.args.left c.into_parts-config.result.1
    ∙ ap (λ (d : MemoryState). after_crash c.args.left c.args.left d.slots) c.into_parts-config.ensures.disk in
    let outlook = ap (λ (d : MemoryState). Some d.plan) c.crash.ensures ∙ ap (λ (d : MemoryState). Some d.plan) c.into_parts-config.ensures.disk in
    only_memory old c.args.left c.into_parts-config.result.0 _ (refusal_of_fault c.in-Err.fault) tt c.requires c.into_parts-config.ensures.config found
    (c.in-Err.ensures.fault tt)
    (c.in-Err.ensures.blameless tt (quiet_left old _ _ c.requires outlook (begun_left old c.args.left _ tt c.requires found)) (sym c.starved-in-Err.ensures ∙ c.if-starved-2.false)).0

pub returns-else-starved : goal.returns-else-starved
returns-else-starved g c = λ gateway s.
    let old = state_of g.R.Replica.kept c.args.node in
    let found = ap (λ (d : MemoryState). image d.slots) c.crash.ensures ∙ crash_left c.args.left c.into_parts-config.result.1
    ∙ ap (λ (d : MemoryState). after_crash c.args.left c.args.left d.slots) c.into_parts-config.ensures.disk in
    let outlook = ap (λ (d : MemoryState). Some d.plan) c.crash.ensures ∙ ap (λ (d : MemoryState). Some d.plan) c.into_parts-config.ensures.disk in
    let fed = sym c.starved.ensures ∙ c.if-starved.false in (
      restarted_shown gateway old (state_of g.R.Replica.kept c.in-Ok.opened) c.args.left c.into_parts-config.result.0 _ s c.into_parts-config.ensures.config found
          (record {
            honest = tt;
            starts = c.in-Ok.ensures.starts;
            keeps = c.in-Ok.ensures.keeps tt;
            durable = c.in-Ok.ensures.durable tt;
            place = c.in-Ok.ensures.place tt;
            known = c.in-Ok.ensures.known tt;
            planned = c.in-Ok.ensures.quiet tt (quiet_left old _ _ c.requires outlook (begun_left old c.args.left _ tt c.requires found)) fed ∙ outlook ∙ s.foreseen.plan;
            fed = fed;
          }),
      c.in-Ok.ensures.records tt ∙ records_found gateway old c.args.left c.into_parts-config.result.0 _ tt s c.into_parts-config.ensures.config found,
    )
