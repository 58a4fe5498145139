use Rattle.std.proofs.Common.{length, refl}
use Rattle.jr_journal.proofs.Appending.{on_ok, on_err, all_out, struck_short, struck_kept}
use Rattle.jr_journal.proofs.syncing.append_synced.Goals as goal

pub returns-then-is_err-2-clause-part : goal.returns-then-is_err-2-clause-part
returns-then-is_err-2-clause-part g c = λ honest.
    let bytes = c.args.bytes.now in
    let old = g.D.Disk.slots c.args.disk.now in
    let middle = g.D.Disk.slots c.append.new.self in
    let new = g.D.Disk.slots c.sync.new.self in (
      length bytes,
      all_out c.args.slot old middle new bytes (on_ok c.append.result c.if-is_err.ensures.value (c.append.ensures.ok honest)) (on_err c.sync.result c.if-is_err-2.ensures.value (c.sync.ensures.err honest)),
    )

pub returns-then-is_err-clause-struck : goal.returns-then-is_err-clause-struck
returns-then-is_err-clause-struck g c =
    let bytes = c.args.bytes.now in
    struck_short c.append.result g.D.Disk.honest c.args.slot (g.D.Disk.slots c.args.disk.now) (g.D.Disk.slots c.append.new.self) bytes bytes c.if-is_err.ensures.value refl c.append.ensures.err

pub returns-then-is_err-2-clause-struck : goal.returns-then-is_err-2-clause-struck
returns-then-is_err-2-clause-struck g c =
    let bytes = c.args.bytes.now in
    struck_kept g.D.Disk.honest c.args.slot (g.D.Disk.slots c.args.disk.now) (g.D.Disk.slots c.append.new.self) (g.D.Disk.slots c.sync.new.self) bytes bytes refl
    (λ honest. on_ok c.append.result c.if-is_err.ensures.value (c.append.ensures.ok honest)) (λ honest. on_err c.sync.result c.if-is_err-2.ensures.value (c.sync.ensures.err honest))
