use Rattle.std.proofs.Common.{◌≡◌, ℕ, List, subst, sym, arith}
use Rattle.sn_frame.specs.Grammar.{IsFramed}
use Rattle.sn_frame.proofs.Numbers.{IsBytes}
use Rattle.sn_frame.proofs.Refusals.{is_refused, answers_ok, answers_value, answers_only, answers_light, answers_fault}
use Rattle.sn_frame.proofs.decoder.decode.Goals as goal

-- the body is framed by the type that its octet has
typed : (bytes : List ℕ) (octet kind : ℕ) (body : List ℕ) → octet ≡ kind → IsFramed bytes kind body → IsFramed bytes octet body
typed bytes octet kind body e framed = let P : ℕ → Type 0 = λ k. IsFramed bytes k body in subst P (sym e) framed

pub returns-in_err-octet-clause-only : goal.returns-in_err-octet-clause-only
returns-in_err-octet-clause-only c =
    λ f v s. absurd (c.in_err-octet.ensures.fault.0 (is_refused _ _ f c.in_err-octet.ensures.fault.1 v s))

pub returns-in-Some-clause-ok : goal.returns-in-Some-clause-ok
returns-in-Some-clause-ok c =
    let octets : IsBytes c.args.bytes.now = λ i. omega (arith, c.type_inv.bytes i) in
    let framed = typed _ _ _ _ c.in-Some.ensures c.in_ok-octet.ensures.ok.1 in
    answers_ok _ c.in-Some.msg_type c.in_ok-octet.body.now c.message.result octets framed c.message.ensures.gives

pub returns-in-Some-clause-value : goal.returns-in-Some-clause-value
returns-in-Some-clause-value c =
    let octets : IsBytes c.args.bytes.now = λ i. omega (arith, c.type_inv.bytes i) in
    let framed = typed _ _ _ _ c.in-Some.ensures c.in_ok-octet.ensures.ok.1 in
    answers_value _ c.in-Some.msg_type c.in_ok-octet.body.now c.message.result octets framed c.message.ensures.gives

pub returns-in-Some-clause-only : goal.returns-in-Some-clause-only
returns-in-Some-clause-only c =
    let framed = typed _ _ _ _ c.in-Some.ensures c.in_ok-octet.ensures.ok.1 in
    λ f v s. answers_only _ c.in-Some.msg_type c.in_ok-octet.body.now c.message.result f framed c.message.ensures.gives v s

pub returns-in_err-octet-clause-light : goal.returns-in_err-octet-clause-light
returns-in_err-octet-clause-light c =
    λ f v s h. absurd (c.in_err-octet.ensures.fault.0 (is_refused _ _ f c.in_err-octet.ensures.fault.1 v s))

pub returns-in-Some-clause-light : goal.returns-in-Some-clause-light
returns-in-Some-clause-light c =
    let framed = typed _ _ _ _ c.in-Some.ensures c.in_ok-octet.ensures.ok.1 in
    λ f v s h. answers_light _ c.in-Some.msg_type c.in_ok-octet.body.now c.message.result f framed c.message.ensures.gives c.message.ensures.light v s h

pub returns-in-Some-clause-fault : goal.returns-in-Some-clause-fault
returns-in-Some-clause-fault c =
    let octets : IsBytes c.args.bytes.now = λ i. omega (arith, c.type_inv.bytes i) in
    let framed = typed _ _ _ _ c.in-Some.ensures c.in_ok-octet.ensures.ok.1 in
    answers_fault _ c.in-Some.msg_type c.in_ok-octet.body.now c.message.result octets c.in_ok-octet.ensures.ok.0 framed c.message.ensures.gives
