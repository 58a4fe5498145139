use Rattle.std.proofs.Common.{◌≡◌, ◌-◌, List, ◌∷◌, drop, sym, ap, ◌∙◌, arith}
use Rattle.rep_op.specs.declared.op.Put.{Put}
use Rattle.rep_model.specs.Fresh.{largest}
use Rattle.rep_shared.proofs.Places.{drop_back}
use Rattle.rep_entry.specs.inner.Numbers.{seq_from}
use Rattle.rep_entry.proofs.Names.{last_is_greatest, none_of_it}
use Rattle.rep_state.proofs.numbers.greatest_put.Goals as goal

pub loop-i-preserved : goal.loop-i-preserved
loop-i-preserved c =
    let g = c.args.gateway in
    let puts = c.args.puts.now in
    let i = c.loop-i.i in
    let p = c.index-puts-i.result in
    let here = drop_back puts i p c.loop-i-test.true c.loop-i.invariant.0 c.index-puts-i.is in (
      omega (arith, c.loop-i.invariant.0),
      ap (largest (seq_from g)) here ∙ none_of_it g p (drop i puts) (λ e. c.if-puts-i.false (ap (λ (q : Put). q.origin) (sym c.index-puts-i.is) ∙ e)) c.loop-i.invariant.1,
    )

pub returns-then-puts-i : goal.returns-then-puts-i
returns-then-puts-i c =
    let puts = c.args.puts.now in
    let i = c.loop-i.i in
    let p = c.index-puts-i.result in
    let q = c.index-puts-i-then-puts-i.result in
    let one = drop_back puts i p c.loop-i-test.true c.loop-i.invariant.0 c.index-puts-i.is in
    let again = drop_back puts i q c.loop-i-test.true c.loop-i.invariant.0 c.index-puts-i-then-puts-i.is in
    let own : q.origin ≡ c.args.gateway = ap (λ (x : Put). x.origin) (sym (first_same p q (drop i puts) (sym one ∙ again)) ∙ c.index-puts-i.is) ∙ c.if-puts-i.true in
    ap (λ (x : Put). x.seq) (sym c.index-puts-i-then-puts-i.is) ∙ last_is_greatest c.args.gateway puts (i - 1) q (drop i puts) c.requires again own c.loop-i.invariant.1
  where
    first_same : (x y : Put) (rest : List Put) → x ∷ rest ≡ y ∷ rest → x ≡ y
    first_same x y rest e = cc
