use Rattle.std.proofs.Common.{◌≡◌, ◌+◌, ◌-◌, ℕ, length, take, drop, count_by, ap, ◌∙◌}
use Rattle.rep_log.specs.Mail.{is_uncovered}
use Rattle.rep_log.specs.Origins.{ranges_in}
use Rattle.rep_entry.proofs.Spans.{counted}
use Rattle.rep_entry.proofs.settling.count_left.Goals as goal

pub returns : goal.returns
returns c =
    λ rising free.
    let rs = ranges_in c.args.acks.now in
    let ps = c.args.puts.now in
    let from = c.between-from.result.0 in
    let count = c.between-from.result.1 in
    let asked : c.split_at-2.result.0.now ≡ take count (drop from ps) = c.split_at-2.ensures.front ∙ ap (take count) c.split_at.ensures.back in
    ap (λ (n : ℕ). length ps - count + n) (c.count_each.ensures.count ∙ ap (count_by (is_uncovered rs)) asked)
    ∙ counted rs from count ps (c.between-from.ensures.front rs rising free) (c.between-from.ensures.back rs rising free) c.between-from.ensures.bound
