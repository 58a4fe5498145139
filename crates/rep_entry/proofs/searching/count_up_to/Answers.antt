use Rattle.std.proofs.Common.{◌≡◌, false, nat_le, rules}
use Rattle.std.proofs.lemmas.Fn.{always_returns_same}
use Rattle.rep_op.specs.declared.op.Put.{Put}
use Rattle.rep_entry.proofs.Spans.{parted_up_to, all_drop}
use Rattle.rep_entry.proofs.searching.count_up_to.Goals as goal

-- the closure tells whether a message has this number or one below it
pub returns-clause-above : goal.returns-clause-above
returns-clause-above c =
    λ rising.
    let seq = c.args.seq in
    let ps = c.args.puts.now in
    let parted = c.partition_point.ensures.partitioned (λ (p : Put). nat_le p.seq seq) (always_returns_same _ (λ a r. r ≡ nat_le a.0.now.seq seq) _ (λ a r g called. search rules)) (parted_up_to seq ps rising) in
    all_drop (λ (p : Put). nat_le p.seq seq ≡ false) ps c.partition_point.result (λ j d from lt. parted.1 j d from lt)
