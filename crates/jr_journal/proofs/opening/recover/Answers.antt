use Rattle.std.proofs.Common.{◌≡◌, ◌∙◌}
use Rattle.std.proofs.lemmas.Result.{err_from_is_err_and}
use Rattle.jr_disk.specs.Disk.{image}
use Rattle.jr_journal.specs.Faults.{is_fresh}
use Rattle.jr_journal.proofs.Calm.{not_starved, quiet_calm}
use Rattle.jr_journal.proofs.Quiet.{still_calm, still_quiet, unhurt_ok, unhurt_then, unhurt_err}
use Rattle.jr_journal.proofs.Leaving.{always_err, sync_leaves, synced_leaves, partly_leaves}
use Rattle.jr_journal.proofs.Opened.{all_steps, steps_in_use, steps_leave, opening_records, opening_place, opening_found}
use Rattle.jr_journal.proofs.opening.recover.Goals as goal

pub returns-clause-records : goal.returns-clause-records
returns-clause-records g c = λ honest.
    let h = all_steps c.args.gateway (g.D.Disk.slots c.args.disk.now) (g.D.Disk.slots c.sync_both.new.disk) (g.D.Disk.slots c.read_slots.new.disk) (g.D.Disk.slots c.settle.new.disk) c.in_ok-opening.opening
    (c.in_ok-sync_both.ensures.ok honest) (c.in_ok-opening.ensures.same honest) (c.in_ok-opening.ensures.opening honest) (c.in_ok-settle.ensures.ok honest) in
    c.recovered_by.ensures.deltas ∙ opening_records c.args.gateway (image (g.D.Disk.slots c.args.disk.now)) c.in_ok-opening.opening h.opening

pub returns-clause-place : goal.returns-clause-place
returns-clause-place g c = λ honest.
    let h = all_steps c.args.gateway (g.D.Disk.slots c.args.disk.now) (g.D.Disk.slots c.sync_both.new.disk) (g.D.Disk.slots c.read_slots.new.disk) (g.D.Disk.slots c.settle.new.disk) c.in_ok-opening.opening
    (c.in_ok-sync_both.ensures.ok honest) (c.in_ok-opening.ensures.same honest) (c.in_ok-opening.ensures.opening honest) (c.in_ok-settle.ensures.ok honest) in
    let place = opening_place c.args.gateway (image (g.D.Disk.slots c.args.disk.now)) c.in_ok-opening.opening h.opening in
    (c.recovered_by.ensures.slot ∙ place.0, c.recovered_by.ensures.generation ∙ place.1)

pub returns-clause-known : goal.returns-clause-known
returns-clause-known g c = λ honest.
    let h = all_steps c.args.gateway (g.D.Disk.slots c.args.disk.now) (g.D.Disk.slots c.sync_both.new.disk) (g.D.Disk.slots c.read_slots.new.disk) (g.D.Disk.slots c.settle.new.disk) c.in_ok-opening.opening
    (c.in_ok-sync_both.ensures.ok honest) (c.in_ok-opening.ensures.same honest) (c.in_ok-opening.ensures.opening honest) (c.in_ok-settle.ensures.ok honest) in
    h.known

pub returns-clause-settled : goal.returns-clause-settled
returns-clause-settled g c = λ honest.
    let h = all_steps c.args.gateway (g.D.Disk.slots c.args.disk.now) (g.D.Disk.slots c.sync_both.new.disk) (g.D.Disk.slots c.read_slots.new.disk) (g.D.Disk.slots c.settle.new.disk) c.in_ok-opening.opening
    (c.in_ok-sync_both.ensures.ok honest) (c.in_ok-opening.ensures.same honest) (c.in_ok-opening.ensures.opening honest) (c.in_ok-settle.ensures.ok honest) in
    steps_in_use c.args.gateway (g.D.Disk.slots c.args.disk.now) (g.D.Disk.slots c.settle.new.disk) c.in_ok-opening.opening c.recovered_by.result.slot c.recovered_by.result.generation h
    c.recovered_by.ensures.slot c.recovered_by.ensures.generation

pub returns-clause-durable : goal.returns-clause-durable
returns-clause-durable g c = λ honest.
    let h = all_steps c.args.gateway (g.D.Disk.slots c.args.disk.now) (g.D.Disk.slots c.sync_both.new.disk) (g.D.Disk.slots c.read_slots.new.disk) (g.D.Disk.slots c.settle.new.disk) c.in_ok-opening.opening
    (c.in_ok-sync_both.ensures.ok honest) (c.in_ok-opening.ensures.same honest) (c.in_ok-opening.ensures.opening honest) (c.in_ok-settle.ensures.ok honest) in
    steps_leave c.args.gateway (g.D.Disk.slots c.args.disk.now) (g.D.Disk.slots c.settle.new.disk) c.in_ok-opening.opening c.recovered_by.result.deltas.items h c.recovered_by.ensures.deltas

pub returns-clause-found : goal.returns-clause-found
returns-clause-found g c = λ honest.
    let h = all_steps c.args.gateway (g.D.Disk.slots c.args.disk.now) (g.D.Disk.slots c.sync_both.new.disk) (g.D.Disk.slots c.read_slots.new.disk) (g.D.Disk.slots c.settle.new.disk) c.in_ok-opening.opening
    (c.in_ok-sync_both.ensures.ok honest) (c.in_ok-opening.ensures.same honest) (c.in_ok-opening.ensures.opening honest) (c.in_ok-settle.ensures.ok honest) in
    opening_found c.args.gateway (image (g.D.Disk.slots c.args.disk.now)) c.in_ok-opening.opening h.opening

-- ---- what a failed opening leaves

pub returns-in_err-sync_both-clause-leaves : goal.returns-in_err-sync_both-clause-leaves
returns-in_err-sync_both-clause-leaves g c = λ honest.
    always_err c.from_residual.result (sync_leaves c.args.gateway (g.D.Disk.slots c.args.disk.now) (g.D.Disk.slots c.sync_both.new.disk) (c.in_err-sync_both.ensures.part honest))

pub returns-in_err-opening-clause-leaves : goal.returns-in_err-opening-clause-leaves
returns-in_err-opening-clause-leaves g c = λ honest.
    always_err c.from_residual-in_err-opening.result (synced_leaves c.args.gateway (g.D.Disk.slots c.args.disk.now) (g.D.Disk.slots c.read_slots.new.disk) (c.in_err-opening.ensures.same honest ∙ c.in_ok-sync_both.ensures.ok honest))

pub returns-in_err-settle-clause-leaves : goal.returns-in_err-settle-clause-leaves
returns-in_err-settle-clause-leaves g c = λ honest.
    always_err c.from_residual-in_err-settle.result (partly_leaves c.args.gateway (g.D.Disk.slots c.args.disk.now) (g.D.Disk.slots c.sync_both.new.disk) (g.D.Disk.slots c.read_slots.new.disk) (g.D.Disk.slots c.settle.new.disk) c.in_ok-opening.opening
    (c.in_ok-sync_both.ensures.ok honest) (c.in_ok-opening.ensures.same honest) (c.in_ok-opening.ensures.opening honest).0 (c.in_err-settle.ensures.part honest))

-- ---- a failure that is arranged

pub returns-in_err-sync_both-clause-calm : goal.returns-in_err-sync_both-clause-calm
returns-in_err-sync_both-clause-calm g c = λ honest fed quiet.
    let p = err_from_is_err_and c.from_residual.result c.from_residual.ensures.1 in
    let q = p.2 in
    let same : p.0 ≡ c.in_err-sync_both.field-0.0 = cc in
    unhurt_err c.from_residual.result p.0 c.in_err-sync_both.field-0.0 (g.D.Disk.outlook c.args.disk.now) (g.D.Disk.outlook c.sync_both.new.disk) p.1 same
    (c.in_err-sync_both.ensures.calm honest fed (quiet_calm (g.D.Disk.outlook c.args.disk.now) (is_fresh (image (g.D.Disk.slots c.args.disk.now))) quiet))

pub returns-in_err-opening-clause-calm : goal.returns-in_err-opening-clause-calm
returns-in_err-opening-clause-calm g c = λ honest fed quiet.
    let before = g.D.Disk.outlook c.args.disk.now in
    let fresh = is_fresh (image (g.D.Disk.slots c.args.disk.now)) in
    let fed1 = not_starved (g.D.Disk.starved c.sync_both.new.disk) (g.D.Disk.starved c.read_slots.new.disk) c.in_err-opening.ensures.starved fed in
    let first = c.in_ok-sync_both.ensures.calm honest fed1 (quiet_calm before fresh quiet) in
    let p = err_from_is_err_and c.from_residual-in_err-opening.result c.from_residual-in_err-opening.ensures.1 in
    let q = p.2 in
    let same : p.0 ≡ c.in_err-opening.field-0.0 = cc in
    unhurt_then c.from_residual-in_err-opening.result before (g.D.Disk.outlook c.sync_both.new.disk) (g.D.Disk.outlook c.read_slots.new.disk) first.1
    (unhurt_err c.from_residual-in_err-opening.result p.0 c.in_err-opening.field-0.0 (g.D.Disk.outlook c.sync_both.new.disk) (g.D.Disk.outlook c.read_slots.new.disk) p.1 same
    (c.in_err-opening.ensures.calm honest fed (still_calm fresh before (g.D.Disk.outlook c.sync_both.new.disk) quiet first.1)))

pub returns-in_err-settle-clause-calm : goal.returns-in_err-settle-clause-calm
returns-in_err-settle-clause-calm g c = λ honest fed quiet.
    let old = g.D.Disk.slots c.args.disk.now in
    let before = g.D.Disk.outlook c.args.disk.now in
    let fed2 = not_starved (g.D.Disk.starved c.read_slots.new.disk) (g.D.Disk.starved c.settle.new.disk) c.in_err-settle.ensures.starved fed in
    let fed1 = not_starved (g.D.Disk.starved c.sync_both.new.disk) (g.D.Disk.starved c.read_slots.new.disk) c.in_ok-opening.ensures.starved fed2 in
    let first = c.in_ok-sync_both.ensures.calm honest fed1 (quiet_calm before (is_fresh (image old)) quiet) in
    let second = c.in_ok-opening.ensures.calm honest fed2 (still_calm (is_fresh (image old)) before (g.D.Disk.outlook c.sync_both.new.disk) quiet first.1) in
    let p = err_from_is_err_and c.from_residual-in_err-settle.result c.from_residual-in_err-settle.ensures.1 in
    let q = p.2 in
    let same : p.0 ≡ c.in_err-settle.field-0.0 = cc in
    unhurt_then c.from_residual-in_err-settle.result before (g.D.Disk.outlook c.read_slots.new.disk) (g.D.Disk.outlook c.settle.new.disk) (second.1 ∙ first.1)
    (unhurt_err c.from_residual-in_err-settle.result p.0 c.in_err-settle.field-0.0 (g.D.Disk.outlook c.read_slots.new.disk) (g.D.Disk.outlook c.settle.new.disk) p.1 same
    (c.in_err-settle.ensures.calm honest fed
    (still_quiet c.args.gateway old (g.D.Disk.slots c.sync_both.new.disk) c.in_ok-opening.opening before (g.D.Disk.outlook c.read_slots.new.disk)
    (c.in_ok-sync_both.ensures.ok honest) (c.in_ok-opening.ensures.opening honest).0 quiet (second.1 ∙ first.1))))

pub returns-clause-calm : goal.returns-clause-calm
returns-clause-calm g c = λ honest fed quiet.
    let old = g.D.Disk.slots c.args.disk.now in
    let before = g.D.Disk.outlook c.args.disk.now in
    let fed2 = not_starved (g.D.Disk.starved c.read_slots.new.disk) (g.D.Disk.starved c.settle.new.disk) c.in_ok-settle.ensures.starved fed in
    let fed1 = not_starved (g.D.Disk.starved c.sync_both.new.disk) (g.D.Disk.starved c.read_slots.new.disk) c.in_ok-opening.ensures.starved fed2 in
    let first = c.in_ok-sync_both.ensures.calm honest fed1 (quiet_calm before (is_fresh (image old)) quiet) in
    let second = c.in_ok-opening.ensures.calm honest fed2 (still_calm (is_fresh (image old)) before (g.D.Disk.outlook c.sync_both.new.disk) quiet first.1) in
    let third = c.in_ok-settle.ensures.calm honest fed
    (still_quiet c.args.gateway old (g.D.Disk.slots c.sync_both.new.disk) c.in_ok-opening.opening before (g.D.Disk.outlook c.read_slots.new.disk)
    (c.in_ok-sync_both.ensures.ok honest) (c.in_ok-opening.ensures.opening honest).0 quiet (second.1 ∙ first.1)) in
    unhurt_ok c.recovered_by.result before (g.D.Disk.outlook c.settle.new.disk) (third.1 ∙ (second.1 ∙ first.1))
