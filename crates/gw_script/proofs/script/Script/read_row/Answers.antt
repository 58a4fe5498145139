-- The row that a line begins, and a line behind it that is no call of it.
use Rattle.std.proofs.Common.{◌+◌, ◌-◌, length, take, drop, refl, ◌∙◌, arith}
use Rattle.gw_script.proofs.Together.{row_read, call_behind}
use Rattle.gw_script.proofs.script.Script.read_row.Goals as goal

pub returns-in-Err-clause-call : goal.returns-in-Err-clause-call
returns-in-Err-clause-call c = λ k e.
    let begins = rw c.in-Some.is at c.in_ok-gateway.ensures in
    call_behind c.args.lines.now _ c.args.at c.in-Some.gateway c.in-Some.count k _ c.requires refl begins (c.in-Err.ensures.err k (cc))

pub returns-clause-ok : goal.returns-clause-ok
returns-clause-ok c =
    let lines = c.args.lines.now in
    let begins = rw c.in-Some.is at c.in_ok-gateway.ensures in
    row_read lines (take (length lines - (c.args.at + 1)) (drop (c.args.at + 1) lines)) c.args.at c.in-Some.gateway c.in-Some.count _ c.len.result _ c.in-Ok.calls.items c.args.self.now c.add_row.new.self
    c.requires refl begins (c.len.ensures ∙ c.in-Ok.calls.ok.0) (c.len.ensures ∙ c.in-Ok.ensures.count) (omega (arith, c.len.ensures, c.in-Ok.ensures.some)) c.in-Ok.ensures.ok refl c.in_ok-add_row.ensures.ok
