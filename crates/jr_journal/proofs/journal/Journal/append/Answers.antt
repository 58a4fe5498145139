use Rattle.std.proofs.Common.{◌≡◌, ◌∙◌, sym, length}
use Rattle.jr_disk.specs.Disk.{at, replaced, appended}
use Rattle.std.proofs.Common.{take}
use Rattle.jr_journal.proofs.Appending.{on_ok, on_err, err_written, torn_after, all_out, synced_is, settles_after, durable_after, struck_short, struck_kept, done_as}
use Rattle.jr_journal.specs.Records.{written}
use Rattle.jr_journal.proofs.journal.Journal.append.Goals as goal

pub returns-then-is_err-clause-torn : goal.returns-then-is_err-clause-torn
returns-then-is_err-clause-torn g c = λ honest told.
    let s = c.args.self.now in
    let old = g.D.Disk.slots s.disk in
    let new = g.D.Disk.slots c.append.new.self in
    let e = err_written c.append.result (λ w. new ≡ replaced old s.slot (appended (at old s.slot) (take w c.deref.result.now))) c.if-is_err.ensures.value (c.append.ensures.err honest) in
    torn_after s.gateway s.slot s.generation s.halted old new c.args.delta.now c.deref.result.now e.0 (s.settled honest) c.if-self.false c.in_ok-bytes.ensures.readable
    (c.deref.ensures.value ∙ c.in_ok-bytes.ensures.ok) e.1

pub returns-then-is_err-2-clause-torn : goal.returns-then-is_err-2-clause-torn
returns-then-is_err-2-clause-torn g c = λ honest told.
    let s = c.args.self.now in
    let old = g.D.Disk.slots s.disk in
    let middle = g.D.Disk.slots c.append.new.self in
    let new = g.D.Disk.slots c.sync.new.self in
    let bytes = c.deref.result.now in
    torn_after s.gateway s.slot s.generation s.halted old new c.args.delta.now bytes (length bytes) (s.settled honest) c.if-self.false c.in_ok-bytes.ensures.readable
    (c.deref.ensures.value ∙ c.in_ok-bytes.ensures.ok)
    (all_out s.slot old middle new bytes (on_ok c.append.result c.if-is_err.ensures.value (c.append.ensures.ok honest)) (on_err c.sync.result c.if-is_err-2.ensures.value (c.sync.ensures.err honest)))

pub invariant_of-self-2 : goal.invariant_of-self-2
invariant_of-self-2 g c = record {
  settled = λ honest.
      let s = c.args.self.now in
      let old = g.D.Disk.slots s.disk in
      let middle = g.D.Disk.slots c.append.new.self in
      let new = g.D.Disk.slots c.sync.new.self in
      settles_after s.gateway s.slot s.generation s.halted old new c.args.delta.now (s.settled honest) c.if-self.false c.in_ok-bytes.ensures.readable
      (synced_is s.slot old middle new c.args.delta.now c.deref.result.now (c.deref.ensures.value ∙ c.in_ok-bytes.ensures.ok)
      (on_ok c.append.result c.if-is_err.ensures.value (c.append.ensures.ok honest)) (on_ok c.sync.result c.if-is_err-2.ensures.value (c.sync.ensures.ok honest)));
}

pub returns-clause-durable : goal.returns-clause-durable
returns-clause-durable g c = λ honest.
    let s = c.args.self.now in
    let old = g.D.Disk.slots s.disk in
    let middle = g.D.Disk.slots c.append.new.self in
    let new = g.D.Disk.slots c.sync.new.self in
    durable_after s.gateway s.slot s.generation s.halted old new c.args.delta.now (s.settled honest) c.if-self.false c.in_ok-bytes.ensures.readable
    (synced_is s.slot old middle new c.args.delta.now c.deref.result.now (c.deref.ensures.value ∙ c.in_ok-bytes.ensures.ok)
    (on_ok c.append.result c.if-is_err.ensures.value (c.append.ensures.ok honest)) (on_ok c.sync.result c.if-is_err-2.ensures.value (c.sync.ensures.ok honest)))

pub returns-clause-known : goal.returns-clause-known
returns-clause-known g c = λ honest fed.
    let s = c.args.self.now in
    let old = g.D.Disk.slots s.disk in
    let middle = g.D.Disk.slots c.append.new.self in
    let new = g.D.Disk.slots c.sync.new.self in
    let early = sym c.sync.ensures.starved ∙ fed in
    done_as (g.D.Disk.outlook s.disk) (g.D.Disk.outlook c.append.new.self) (g.D.Disk.outlook c.sync.new.self) old new s.slot (written c.args.delta.now) (length c.deref.result.now) c.append.result c.sync.result
    c.if-is_err.ensures.value c.if-is_err-2.ensures.value (c.append.ensures.outlook early) c.sync.ensures.outlook
    (synced_is s.slot old middle new c.args.delta.now c.deref.result.now (c.deref.ensures.value ∙ c.in_ok-bytes.ensures.ok)
    (on_ok c.append.result c.if-is_err.ensures.value (c.append.ensures.ok honest)) (on_ok c.sync.result c.if-is_err-2.ensures.value (c.sync.ensures.ok honest)))

pub returns-then-is_err-clause-struck : goal.returns-then-is_err-clause-struck
returns-then-is_err-clause-struck g c = λ told.
    let s = c.args.self.now in
    struck_short c.append.result g.D.Disk.honest s.slot (g.D.Disk.slots s.disk) (g.D.Disk.slots c.append.new.self) (written c.args.delta.now) c.deref.result.now c.if-is_err.ensures.value
    (c.deref.ensures.value ∙ c.in_ok-bytes.ensures.ok) c.append.ensures.err

pub returns-then-is_err-2-clause-struck : goal.returns-then-is_err-2-clause-struck
returns-then-is_err-2-clause-struck g c = λ told.
    let s = c.args.self.now in
    struck_kept g.D.Disk.honest s.slot (g.D.Disk.slots s.disk) (g.D.Disk.slots c.append.new.self) (g.D.Disk.slots c.sync.new.self) (written c.args.delta.now) c.deref.result.now
    (c.deref.ensures.value ∙ c.in_ok-bytes.ensures.ok)
    (λ honest. on_ok c.append.result c.if-is_err.ensures.value (c.append.ensures.ok honest)) (λ honest. on_err c.sync.result c.if-is_err-2.ensures.value (c.sync.ensures.err honest))
