use Rattle.std.proofs.Common.{arith}
use Rattle.mq_packet.proofs.Numbers.{IsBytes}
use Rattle.mq_packet.proofs.Refusals.{is_refused, answers_ok, answers_value, answers_only, answers_fault}
use Rattle.mq_packet.proofs.decoder.decode.Goals as goal

pub returns-in_err-header-clause-only : goal.returns-in_err-header-clause-only
returns-in_err-header-clause-only c =
    λ p v s. absurd (c.in_err-header.ensures.fault.0 (is_refused _ _ p c.in_err-header.ensures.fault.1 v s))

pub returns-clause-ok : goal.returns-clause-ok
returns-clause-ok c =
    let octets : IsBytes c.args.octets.now = λ i. omega (arith, c.type_inv.octets i) in
    answers_ok c.args.octets.now c.in_ok-header.header c.in_ok-header.body.now c.packet.result octets c.in_ok-header.ensures.ok c.packet.ensures

pub returns-clause-value : goal.returns-clause-value
returns-clause-value c =
    let octets : IsBytes c.args.octets.now = λ i. omega (arith, c.type_inv.octets i) in
    answers_value c.args.octets.now c.in_ok-header.header c.in_ok-header.body.now c.packet.result octets c.in_ok-header.ensures.ok c.packet.ensures

pub returns-clause-only : goal.returns-clause-only
returns-clause-only c =
    λ p v s. answers_only c.args.octets.now c.in_ok-header.header c.in_ok-header.body.now c.packet.result p c.in_ok-header.ensures.ok c.packet.ensures v s

pub returns-clause-fault : goal.returns-clause-fault
returns-clause-fault c =
    let octets : IsBytes c.args.octets.now = λ i. omega (arith, c.type_inv.octets i) in
    answers_fault c.args.octets.now c.in_ok-header.header c.in_ok-header.body.now c.packet.result octets c.in_ok-header.ensures.ok c.packet.ensures
