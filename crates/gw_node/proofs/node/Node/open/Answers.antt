-- What was opened is what was found.
use Rattle.std.proofs.Common.{refl, inl}
use Rattle.jr_disk.specs.Disk.{image}
use Rattle.jr_journal.specs.Parts.{disk_under}
use Rattle.gw_answer.specs.Answers.{refusal_of_fault}
use Rattle.gw_node.proofs.Started.{leaves_itself, leaves_no_more, takes_kept, opened_takes, opened_keeps, opened_none, opened_again, opened_back, opened_place, opened_leaves, started_leaves, started_fits}
use Rattle.gw_node.proofs.node.Node.open.Goals as goal

pub returns-in_default-clause-leaves : goal.returns-in_default-clause-leaves
returns-in_default-clause-leaves g c = λ honest. leaves_itself c.args.config.gateway (g.D.Disk.slots c.args.disk)

pub returns-in_default-nothing-clause-leaves : goal.returns-in_default-nothing-clause-leaves
returns-in_default-nothing-clause-leaves g c = λ honest. leaves_itself c.args.config.gateway (g.D.Disk.slots c.args.disk)

pub returns-in-Ok-open-clause-takes : goal.returns-in-Ok-open-clause-takes
returns-in-Ok-open-clause-takes g c = λ honest.
    opened_takes g.R.Replica.kept c.start.result c.args.config.gateway (g.D.Disk.slots c.args.disk) c.in-Ok-open.deltas.items (c.in-Ok-open.ensures.records honest)
    (takes_kept g.R.Replica.kept c.start.result c.in-Ok-open.deltas.items c.start.ensures.keeps)

pub returns-in-Ok-open-clause-keeps : goal.returns-in-Ok-open-clause-keeps
returns-in-Ok-open-clause-keeps g c = λ honest.
    opened_keeps g.R.Replica.kept c.start.result c.args.config.gateway (g.D.Disk.slots c.args.disk) c.in-Ok-open.deltas.items (c.in-Ok-open.ensures.records honest) c.start.ensures.keeps

pub returns-in-Ok-open-clause-none : goal.returns-in-Ok-open-clause-none
returns-in-Ok-open-clause-none g c = λ honest.
    opened_none g.R.Replica.kept c.start.result c.args.config.gateway (g.D.Disk.slots c.args.disk) c.in-Ok-open.deltas.items (c.in-Ok-open.ensures.records honest) c.start.ensures.none

pub returns-in-Ok-open-clause-restarts : goal.returns-in-Ok-open-clause-restarts
returns-in-Ok-open-clause-restarts g c = λ honest.
    opened_again g.R.Replica.kept c.start.result c.in-Ok-open.journal c.args.config.gateway (g.D.Disk.slots c.args.disk) c.in-Ok-open.deltas.items c.in-Ok-open.ensures.starts.1
    (c.in-Ok-open.ensures.records honest) (c.in-Ok-open.ensures.durable honest) c.start.ensures.journal
    c.start.ensures.keeps

pub returns-in-Ok-open-clause-durable : goal.returns-in-Ok-open-clause-durable
returns-in-Ok-open-clause-durable g c = λ honest.
    opened_back g.R.Replica.kept c.start.result c.in-Ok-open.journal c.args.config.gateway (g.D.Disk.slots c.args.disk) c.in-Ok-open.deltas.items c.in-Ok-open.ensures.starts.1
    (c.in-Ok-open.ensures.records honest) (c.in-Ok-open.ensures.durable honest) c.start.ensures.journal c.start.ensures.keeps

pub returns-in-Ok-open-clause-place : goal.returns-in-Ok-open-clause-place
returns-in-Ok-open-clause-place g c = λ honest.
    opened_place g.R.Replica.kept c.start.result c.in-Ok-open.journal c.args.config.gateway (image (g.D.Disk.slots c.args.disk)) (c.in-Ok-open.ensures.place honest).0 (c.in-Ok-open.ensures.place honest).1
    c.start.ensures.journal

pub returns-in-Ok-open-clause-leaves : goal.returns-in-Ok-open-clause-leaves
returns-in-Ok-open-clause-leaves g c = λ honest.
    opened_leaves g.D.Disk.slots c.start.result (disk_under c.in-Ok-open.journal) c.args.config.gateway (g.D.Disk.slots c.args.disk)
    (leaves_no_more c.args.config.gateway (g.D.Disk.slots c.args.disk) (g.D.Disk.slots (disk_under c.in-Ok-open.journal)) c.in-Ok-open.deltas.items (c.in-Ok-open.ensures.records honest)
    (c.in-Ok-open.ensures.found honest) (c.in-Ok-open.ensures.durable honest))
    c.start.ensures.disk

pub returns-in_default-clause-slots : goal.returns-in_default-clause-slots
returns-in_default-clause-slots g c = λ honest. inl refl

pub returns-in_default-nothing-clause-slots : goal.returns-in_default-nothing-clause-slots
returns-in_default-nothing-clause-slots g c = λ honest. inl refl

pub returns-in-Ok-open-clause-slots : goal.returns-in-Ok-open-clause-slots
returns-in-Ok-open-clause-slots g c = λ honest.
    started_leaves g.D.Disk.slots refusal_of_fault c.start.result (disk_under c.in-Ok-open.journal) c.args.config.gateway (g.D.Disk.slots c.args.disk) c.in-Ok-open.deltas.items
    (c.in-Ok-open.ensures.known honest) c.start.ensures.disk c.start.ensures.err

pub returns-in-Ok-open-clause-fits : goal.returns-in-Ok-open-clause-fits
returns-in-Ok-open-clause-fits g c = λ honest.
    started_fits c.start.result c.args.config.gateway (g.D.Disk.slots c.args.disk) c.in-Ok-open.deltas.items (c.in-Ok-open.ensures.records honest) c.start.ensures.fits
