use Rattle.std.proofs.Common.{[], ap, sym, ◌∙◌}
use Rattle.std.proofs.lemmas.Result.{err_from_is_err_and}
use Rattle.rep_ops.specs.Reading.{listed_at}
use Rattle.rep_digest.specs.Reading.{client_entry_at, entry_may_follow}
use Rattle.rep_ops.proofs.Loop.{goes_on, misplaced, ends, is_done}
use Rattle.rep_digest.proofs.read.read_entries.Goals as goal

pub returns-in_err-entry : goal.returns-in_err-entry
returns-in_err-entry c =
    let p = err_from_is_err_and c.from_residual.result c.from_residual.ensures.1 in
    rw (p.1, p.2) (ends client_entry_at entry_may_follow c.in_err-entry.field-0.0 c.loop.entries.items c.args.count c.loop.counter c.loop.rest.now (listed_at client_entry_at entry_may_follow c.args.count [] c.args.bytes.now) c.loop-test.true c.in_err-entry.ensures c.loop.invariant)

pub returns-then-not-entry_may_follow : goal.returns-then-not-entry_may_follow
returns-then-not-entry_may_follow c =
    let test = sym (ap (λ entries. entry_may_follow entries c.in_ok-entry.entry) c.as_slice.ensures.value) ∙ (sym c.entry_may_follow.ensures ∙ c.if-not-entry_may_follow.true) in
    misplaced client_entry_at entry_may_follow c.loop.entries.items c.args.count c.loop.counter c.loop.rest.now c.in_ok-entry.entry c.in_ok-entry.after.now (listed_at client_entry_at entry_may_follow c.args.count [] c.args.bytes.now) c.loop-test.true c.in_ok-entry.ensures test c.loop.invariant

pub loop-preserved : goal.loop-preserved
loop-preserved c =
    let test = sym (ap (λ entries. entry_may_follow entries c.in_ok-entry.entry) c.as_slice.ensures.value) ∙ (sym c.entry_may_follow.ensures ∙ c.if-not-entry_may_follow.false) in
    rw c.in_ok-push.ensures.items (goes_on client_entry_at entry_may_follow c.loop.entries.items c.args.count c.loop.counter c.loop.rest.now c.in_ok-entry.entry c.in_ok-entry.after.now (listed_at client_entry_at entry_may_follow c.args.count [] c.args.bytes.now) c.loop-test.true c.in_ok-entry.ensures test c.loop.invariant)

pub returns : goal.returns
returns c = is_done client_entry_at entry_may_follow c.loop.entries.items c.args.count c.loop.counter c.loop.rest.now (listed_at client_entry_at entry_may_follow c.args.count [] c.args.bytes.now) c.loop-test.false c.loop.invariant
