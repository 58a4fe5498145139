use Rattle.std.proofs.Common.{◌≡◌, true, nat_lt, arith, rules}
use Rattle.std.proofs.lemmas.Fn.{always_returns_same}
use Rattle.rep_op.specs.declared.op.Put.{Put}
use Rattle.rep_entry.proofs.Spans.{parted_below, all_take}
use Rattle.rep_entry.proofs.searching.count_below.Goals as goal

-- the closure tells whether a message's number is below
pub returns-clause-below : goal.returns-clause-below
returns-clause-below c =
    λ rising.
    let seq = c.args.seq in
    let ps = c.args.puts.now in
    let parted = c.partition_point.ensures.partitioned (λ (p : Put). nat_lt p.seq seq) (always_returns_same _ (λ a r. r ≡ nat_lt a.0.now.seq seq) _ (λ a r g called. search rules)) (parted_below seq ps rising) in
    all_take (λ (p : Put). nat_lt p.seq seq ≡ true) ps c.partition_point.result (λ j d lt. parted.0 j d (omega arith) lt)
