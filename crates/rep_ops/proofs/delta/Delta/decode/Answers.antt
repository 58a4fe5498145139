use Rattle.std.proofs.Common.{Err, Ok, ap, sym, ◌∙◌, inl, inr, arith}
use Rattle.std.proofs.lemmas.Result.{err_from_is_err_and}
use Rattle.rep_ops.specs.Reading.{delta_reading}
use Rattle.rep_ops.proofs.Format.{read_spelled, spelled_again}
use Rattle.rep_ops.proofs.Listed.{only_memory}
use Rattle.rep_read.proofs.Laws.{ok_is}
use Rattle.rep_ops.proofs.delta.Delta.decode.Goals as goal

pub returns-in_err-read_delta-clause-only : goal.returns-in_err-read_delta-clause-only
returns-in_err-read_delta-clause-only c = λ d v s.
    let p = err_from_is_err_and c.from_residual.result c.from_residual.ensures.1 in
    let memory = only_memory c.in_err-read_delta.field-0.0 d (delta_reading c.args.bytes.now) (spelled_again c.args.bytes.now d v s) c.in_err-read_delta.ensures.reads in
    inr (rw (p.1, p.2) (ap (λ fault. Err fault) memory))

pub invariant_of-result : goal.invariant_of-result
invariant_of-result c =
    let read = read_spelled c.args.bytes.now c.in_ok-read_delta.field-0.items (λ i. omega (arith, c.type_inv.bytes i)) c.in_ok-read_delta.ensures.reads in
    (read.0.delta, read.0.limit, read.1)

pub returns-clause-ok : goal.returns-clause-ok
returns-clause-ok c = (read_spelled c.args.bytes.now c.in_ok-read_delta.field-0.items (λ i. omega (arith, c.type_inv.bytes i)) c.in_ok-read_delta.ensures.reads).0

pub returns-clause-only : goal.returns-clause-only
returns-clause-only c = λ d v s.
    let same = ok_is c.in_ok-read_delta.field-0.items d (sym c.in_ok-read_delta.ensures.reads ∙ spelled_again c.args.bytes.now d v s) in
    inl (ap (λ ops. Ok ops) same)
