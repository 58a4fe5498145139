use Rattle.std.proofs.Common.{None, List, ℕ, ap, subst, ◌∙◌}
use Rattle.jr_journal.specs.Arranged.{after_append, IsStruck}
use Rattle.jr_journal.proofs.Several.{IsAppending, several_torn, several_settles, several_durable}
use Rattle.jr_journal.proofs.journal.Journal.append_all.Goals as goal

pub returns-in_err-append_synced-clause-torn : goal.returns-in_err-append_synced-clause-torn
returns-in_err-append_synced-clause-torn g c = λ honest told.
    let s = c.args.self.now in
    let old = g.D.Disk.slots s.disk in
    let new = g.D.Disk.slots c.append_synced.new.disk in
    let bytes = c.as_slice-bytes.result.now in
    let h : IsAppending s.gateway s.slot s.generation s.halted old c.args.more.now bytes = record {
      kept = s.settled honest;
      runs = c.if-halted.false;
      readable = c.as_slice-bytes.ensures.readable;
      spelled = c.as_slice-bytes.ensures.bytes;
    } in
    let part = c.in_err-append_synced.ensures.part honest in
    several_torn s.gateway s.slot s.generation s.halted old new c.args.more.now bytes h part.0 part.1

pub returns-in_err-append_synced-clause-struck : goal.returns-in_err-append_synced-clause-struck
returns-in_err-append_synced-clause-struck g c = λ told.
    let s = c.args.self.now in
    let old = g.D.Disk.slots s.disk in
    let new = g.D.Disk.slots c.append_synced.new.disk in
    subst (λ (xs : List ℕ). IsStruck g.D.Disk.honest old s.slot xs new) c.as_slice-bytes.ensures.bytes c.in_err-append_synced.ensures.struck

pub invariant_of-self-2 : goal.invariant_of-self-2
invariant_of-self-2 g c = record {
  settled = λ honest.
      let s = c.args.self.now in
      let old = g.D.Disk.slots s.disk in
      let new = g.D.Disk.slots c.append_synced.new.disk in
      let bytes = c.as_slice-bytes.result.now in
      let h : IsAppending s.gateway s.slot s.generation s.halted old c.args.more.now bytes = record {
        kept = s.settled honest;
        runs = c.if-halted.false;
        readable = c.as_slice-bytes.ensures.readable;
        spelled = c.as_slice-bytes.ensures.bytes;
      } in
      several_settles s.gateway s.slot s.generation s.halted old new c.args.more.now bytes h (c.in_ok-append_synced.ensures.exact honest);
}

pub returns-clause-exact : goal.returns-clause-exact
returns-clause-exact g c = λ honest.
    let s = c.args.self.now in
    let old = g.D.Disk.slots s.disk in
    c.in_ok-append_synced.ensures.exact honest ∙ ap (λ xs. after_append None old s.slot xs) c.as_slice-bytes.ensures.bytes

pub returns-clause-durable : goal.returns-clause-durable
returns-clause-durable g c = λ honest.
    let s = c.args.self.now in
    let old = g.D.Disk.slots s.disk in
    let new = g.D.Disk.slots c.append_synced.new.disk in
    let bytes = c.as_slice-bytes.result.now in
    let h : IsAppending s.gateway s.slot s.generation s.halted old c.args.more.now bytes = record {
      kept = s.settled honest;
      runs = c.if-halted.false;
      readable = c.as_slice-bytes.ensures.readable;
      spelled = c.as_slice-bytes.ensures.bytes;
    } in
    several_durable s.gateway s.slot s.generation s.halted old new c.args.more.now bytes h (c.in_ok-append_synced.ensures.exact honest)
