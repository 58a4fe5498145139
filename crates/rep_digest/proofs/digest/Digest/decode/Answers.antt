use Rattle.std.proofs.Common.{Err, Ok, ap, sym, ◌∙◌, inl, inr, arith}
use Rattle.std.proofs.lemmas.Result.{err_from_is_err_and}
use Rattle.rep_read.proofs.Laws.{ok_is}
use Rattle.rep_ops.proofs.Listed.{only_memory}
use Rattle.rep_digest.specs.Digests.{Digested, digested}
use Rattle.rep_digest.specs.Reading.{digest_reading}
use Rattle.rep_digest.proofs.Format.{read_spelled, read_again}
use Rattle.rep_digest.proofs.digest.Digest.decode.Goals as goal

pub returns-in_err-clients-clause-only : goal.returns-in_err-clients-clause-only
returns-in_err-clients-clause-only c = λ d is size s.
    let p = err_from_is_err_and c.from_residual.result c.from_residual.ensures.1 in
    let memory = only_memory c.in_err-clients.field-0.0 d (digest_reading c.args.bytes.now) (ap digest_reading s ∙ read_again d is size) c.in_err-clients.ensures in
    inr (rw (p.1, p.2) (ap (λ fault. Err fault) memory))

pub invariant_of-result : goal.invariant_of-result
invariant_of-result c =
    let d : Digested = digested c.in_ok-clients.clients.items c.in_ok-clients.topics.items in
    let read = read_spelled c.args.bytes.now d (λ i. omega (arith, c.type_inv.bytes i)) c.in_ok-clients.ensures in
    (read.0, read.1)

pub returns-clause-ok : goal.returns-clause-ok
returns-clause-ok c =
    let d : Digested = digested c.in_ok-clients.clients.items c.in_ok-clients.topics.items in
    (read_spelled c.args.bytes.now d (λ i. omega (arith, c.type_inv.bytes i)) c.in_ok-clients.ensures).2

pub returns-clause-only : goal.returns-clause-only
returns-clause-only c = λ d is size s.
    let own : Digested = digested c.in_ok-clients.clients.items c.in_ok-clients.topics.items in
    let same = ok_is own d (sym c.in_ok-clients.ensures ∙ ap digest_reading s ∙ read_again d is size) in
    inl (ap (λ entries. Ok entries) same)
