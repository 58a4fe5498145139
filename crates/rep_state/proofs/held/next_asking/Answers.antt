use Rattle.std.proofs.Common.{◌+◌, drop, ap, subst, ◌∙◌, arith}
use Rattle.rep_shared.specs.inner.Rows.{named_rows}
use Rattle.rep_state.specs.Tables.{by_client, rows_of}
use Rattle.rep_entry.specs.Interests.{mark_of}
use Rattle.rep_state.specs.inner.Interests.{NoneMarked, IsPassed}
use Rattle.rep_state.proofs.Asking.{none_asks, next_asks, not_past}
use Rattle.rep_state.proofs.Indexed.{in_order, as_many}
use Rattle.rep_state.proofs.Walking.{all_named, found_at}
use Rattle.rep_state.proofs.held.next_asking.Goals as goal

pub returns-in_err-at-clause-next : goal.returns-in_err-at-clause-next
returns-in_err-at-clause-next c =
    let entries = c.args.table.now.entries in
    let es = by_client entries in
    let places = c.args.places.now in
    let many = as_many entries places c.requires.places in
    let all = all_named es (omega (arith, c.if-named-places.false, c.requires.named, many)) in
    let mark = c.mark_of.ensures.value ∙ ap mark_of c.bytes.ensures.octets in
    rw c.from_residual-in_err-at.ensures (none_asks c.args.topic.now es (named_rows (rows_of es)) places c.args.from c.requires.marks c.requires.places.names all (subst (λ m. NoneMarked m (drop c.args.from places)) mark c.in_err-at.ensures))

pub returns-in_err-client-2-clause-next : goal.returns-in_err-client-2-clause-next
returns-in_err-client-2-clause-next c =
    let entries = c.args.table.now.entries in
    let es = by_client entries in
    let many = as_many entries c.args.places.now c.requires.places in
    absurd (not_past es c.in_ok-at.at (omega (arith, c.in_ok-at.ensures.0, many)) c.in_err-client-2.ensures)

pub returns-clause-next : goal.returns-clause-next
returns-clause-next c =
    let entries = c.args.table.now.entries in
    let es = by_client entries in
    let places = c.args.places.now in
    let many = as_many entries places c.requires.places in
    let all = all_named es (omega (arith, c.if-named-places.false, c.requires.named, many)) in
    let mark = c.mark_of.ensures.value ∙ ap mark_of c.bytes.ensures.octets in
    next_asks c.args.topic.now es (named_rows (rows_of es)) places c.args.from c.requires.marks c.requires.places.names all c.in_ok-at.at c.in_ok-client-2.client.now c.in_ok-client-2.entry.now
    (subst (λ m. IsPassed m places c.args.from c.in_ok-at.at) mark c.in_ok-at.ensures.1) c.in_ok-client-2.ensures

pub returns-clause-found : goal.returns-clause-found
returns-clause-found c =
    let es = by_client c.args.table.now.entries in
    let at = c.in_ok-at.at in
    found_at es (drop (at + 1) es) at c.in_ok-client-2.client.now c.in_ok-client-2.entry.now (in_order c.args.table.now.entries) c.in_ok-client-2.ensures
