use Rattle.std.proofs.Common.{List, take, drop, sym, subst}
use Rattle.rep_op.specs.declared.op.Put.{Put}
use Rattle.rep_log.specs.Mail.{NoneCovered, Rising}
use Rattle.rep_entry.specs.Spans.{AreFreeOutside}
use Rattle.rep_log.specs.Origins.{ranges_in}
use Rattle.rep_entry.proofs.settling.drop_covered.Goals as goal

pub drop_each-requires-clause-front : goal.drop_each-requires-clause-front
drop_each-requires-clause-front c =
    let rs = ranges_in c.args.acks.now in
    let is = c.as_slice.ensures.value in
    subst (λ (ps : List Put). NoneCovered rs (take c.between-from.result.0 ps)) is
    (c.between-from.ensures.front rs (subst Rising (sym is) c.requires.rising) (subst (AreFreeOutside c.args.span rs) (sym is) c.requires.free))

pub drop_each-requires-clause-back : goal.drop_each-requires-clause-back
drop_each-requires-clause-back c =
    let rs = ranges_in c.args.acks.now in
    let is = c.as_slice.ensures.value in
    subst (λ (ps : List Put). NoneCovered rs (drop c.between-from.result.1 (drop c.between-from.result.0 ps))) is
    (c.between-from.ensures.back rs (subst Rising (sym is) c.requires.rising) (subst (AreFreeOutside c.args.span rs) (sym is) c.requires.free))
