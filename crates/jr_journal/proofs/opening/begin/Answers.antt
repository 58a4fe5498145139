use Rattle.std.proofs.Common.{refl}
use Rattle.jr_journal.proofs.Begun.{begun_short, begun_whole}
use Rattle.jr_journal.proofs.opening.begin.Goals as goal

pub returns-then-is_err-2-clause-part : goal.returns-then-is_err-2-clause-part
returns-then-is_err-2-clause-part g c = λ honest.
    begun_short c.args.gateway (g.D.Disk.slots c.args.disk.now) (g.D.Disk.slots c.cut.new.self) (g.D.Disk.slots c.append.new.self) _ c.cut.result c.append.result c.if-is_err.ensures.value c.if-is_err-2.ensures.value
    (c.cut.ensures.ok honest) refl (c.append.ensures.err honest)

pub returns-then-is_err-3-clause-part : goal.returns-then-is_err-3-clause-part
returns-then-is_err-3-clause-part g c = λ honest.
    begun_whole c.args.gateway (g.D.Disk.slots c.args.disk.now) (g.D.Disk.slots c.cut.new.self) (g.D.Disk.slots c.append.new.self) (g.D.Disk.slots c.sync.new.self) _ c.cut.result c.append.result c.sync.result c.if-is_err.ensures.value c.if-is_err-2.ensures.value c.if-is_err-3.ensures.value
    (c.cut.ensures.ok honest) refl (c.append.ensures.ok honest) (c.sync.ensures.err honest)
