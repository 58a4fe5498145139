use Rattle.std.proofs.Common.{[], refl, sym, ◌∙◌, subst}
use Rattle.crossbeam_channel.specs.Claims.{view}
use Rattle.crossbeam_channel.specs.Ends.{receives_on}
use Rattle.gw_serve.specs.declared.worker.Trouble.TheVariants as troubles
use Rattle.gw_serve.specs.inner.Handling.{IsHandled}
use Rattle.gw_serve.proofs.Gaining.{is_zero, none_of, fresh, kept, worked, failed, ended, handled, no_numbers, gains_none, none_behind, memory_behind, memory_is_not_behind}
use Rattle.gw_serve.proofs.Rows.{none_left}
use Rattle.gw_serve.proofs.worker.take_all.Goals as goal

pub loop-init : goal.loop-init
loop-init g c = (c.requires.0, fresh _ _ _ _ _ c.requires.1 refl c.requires.2 c.requires.3)

pub returns-in_default : goal.returns-in_default
returns-in_default g c =
    rw c.seat_of.ensures (worked _ _ _ c.loop.invariant.0 (kept _ _ _ _ _ _ _ _ refl c.room_for.ensures.same.0 c.room_for.ensures.same.1 c.loop.invariant.1) memory_behind)

pub returns-in_default-take_row : goal.returns-in_default-take_row
returns-in_default-take_row g c =
    rw c.seat_of-in_default-take_row.ensures
    (failed (receives_on c.args.receiver.now) c.args.seat.pass (view c.loop.ticket) c.room_for.new.taken.items c.room_for.new.left.items c.loop.pass c.take_row.new.row.numbers.items _ troubles.Memory
    (kept c.args.seat.pass (view c.loop.ticket) (view c.loop.ticket) c.loop.taken.items c.room_for.new.taken.items c.loop.left.items c.room_for.new.left.items c.loop.pass refl c.room_for.ensures.same.0 c.room_for.ensures.same.1 c.loop.invariant.1)
    c.take_row.ensures.channel c.take_row.ensures.taken (([], gains_none c.loop.pass c.loop.pass refl), λ e. absurd (memory_is_not_behind e)) refl)

pub returns-then-heard : goal.returns-then-heard
returns-then-heard g c =
    let numbers = c.take_row.new.row.numbers in
    rw c.seat_of-then-heard.ensures
    (worked (receives_on c.args.receiver.now) c.args.seat.pass _ c.take_row.ensures.channel
    (no_numbers c.args.seat.pass (view c.loop.ticket) (view c.take_row.new.ticket) c.loop.taken.items c.room_for.new.taken.items c.loop.left.items c.room_for.new.left.items numbers.items c.loop.pass c.loop.invariant.1
    c.take_row.ensures.taken (none_left numbers.len numbers.items (is_zero numbers.len c.if-is_empty.ensures) numbers.ok.0) c.room_for.ensures.same.0 c.room_for.ensures.same.1)
    none_behind)

pub loop-preserved-then-is_empty : goal.loop-preserved-then-is_empty
loop-preserved-then-is_empty g c =
    let numbers = c.take_row.new.row.numbers in (
      c.take_row.ensures.channel,
      no_numbers c.args.seat.pass (view c.loop.ticket) (view c.take_row.new.ticket) c.loop.taken.items c.room_for.new.taken.items c.loop.left.items c.room_for.new.left.items numbers.items c.loop.pass c.loop.invariant.1
          c.take_row.ensures.taken (none_left numbers.len numbers.items (is_zero numbers.len c.if-is_empty.ensures) numbers.ok.0) c.room_for.ensures.same.0 c.room_for.ensures.same.1,
    )

pub returns-then-is_some : goal.returns-then-is_some
returns-then-is_some g c =
    rw c.seat_of-then-is_some.ensures
    (ended (receives_on c.args.receiver.now) c.args.seat.pass (view c.loop.ticket) c.room_for.new.taken.items c.room_for.new.left.items c.loop.pass c.take_row.new.row.numbers.items _
    (kept c.args.seat.pass (view c.loop.ticket) (view c.loop.ticket) c.loop.taken.items c.room_for.new.taken.items c.loop.left.items c.room_for.new.left.items c.loop.pass refl c.room_for.ensures.same.0 c.room_for.ensures.same.1 c.loop.invariant.1)
    c.take_row.ensures.channel c.take_row.ensures.taken c.handle-after.ensures)

pub loop-preserved : goal.loop-preserved
loop-preserved g c =
    let none = none_of c.handle-after.result.1 (sym c.is_some.ensures ∙ c.if-is_some.false) in
    let was = kept c.args.seat.pass (view c.loop.ticket) (view c.loop.ticket) c.loop.taken.items c.room_for.new.taken.items c.loop.left.items c.room_for.new.left.items c.loop.pass refl c.room_for.ensures.same.0 c.room_for.ensures.same.1 c.loop.invariant.1 in (
      c.take_row.ensures.channel,
      handled c.args.seat.pass (view c.loop.ticket) (view c.take_row.new.ticket) c.room_for.new.taken.items c.handle-after.new.taken.items c.room_for.new.left.items c.handle-after.new.left.items c.take_row.new.row.numbers.items
          c.loop.pass c.handle-after.result.0 was c.take_row.ensures.taken
          (subst (λ trouble. IsHandled c.loop.pass c.take_row.new.row.numbers.items c.room_for.new.taken.items c.room_for.new.left.items trouble c.handle-after.new.taken.items c.handle-after.new.left.items c.handle-after.result.0) none c.handle-after.ensures),
    )
