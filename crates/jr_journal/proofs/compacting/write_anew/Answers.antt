use Rattle.std.proofs.Common.{◌≡◌, ap, ◌∙◌, inr, length}
use Rattle.jr_disk.specs.Disk.{at, replaced, appended}
use Rattle.jr_journal.specs.Journals.{emptied}
use Rattle.jr_journal.proofs.Appending.{on_ok, on_err, all_out}
use Rattle.jr_journal.proofs.compacting.write_anew.Goals as goal

pub returns-then-is_err-3-clause-part : goal.returns-then-is_err-3-clause-part
returns-then-is_err-3-clause-part g c = λ honest.
    let slot = c.args.slot in
    let bytes = c.args.bytes.now in
    let old = g.D.Disk.slots c.args.disk.now in
    let cut = g.D.Disk.slots c.cut.new.self in
    let middle = g.D.Disk.slots c.append.new.self in
    let new = g.D.Disk.slots c.sync.new.self in
    let out : middle ≡ replaced (emptied old slot) slot (appended (at (emptied old slot) slot) bytes) =
    on_ok c.append.result c.if-is_err-2.ensures.value (c.append.ensures.ok honest)
    ∙ ap (λ d. replaced d slot (appended (at d slot) bytes)) (on_ok c.cut.result c.if-is_err.ensures.value (c.cut.ensures.ok honest))
    in
    inr (length bytes, all_out slot (emptied old slot) middle new bytes out (on_err c.sync.result c.if-is_err-3.ensures.value (c.sync.ensures.err honest)))
