use Rattle.std.proofs.Common.{◌++◌, ℕ, List, map, sym, ap, ◌∙◌, append_assoc}
use Rattle.rep_log.specs.Kept.{of_acks}
use Rattle.rep_log.specs.Origins.{origins_of, ranges_in}
use Rattle.rep_log.proofs.Ranges.{acks_both}
use Rattle.rep_log.proofs.acks.push_origins.Goals as goal

pub loop-origin-preserved : goal.loop-origin-preserved
loop-origin-preserved c =
    let client = c.args.client.now in
    let old = c.loop-origin.kept.items in
    let rest = ranges_in (origins_of c.next.new.self) in
    let o = c.in-Some.origin.now in
    let here = of_acks client (map (λ (r : ℕ × ℕ). (o, r)) c.in-Some.ranges.now.items) in
    let more = c.in_ok-push_ranges.ensures ∙ ap (λ (rs : List (ℕ × ℕ)). old ++ of_acks client (map (λ (r : ℕ × ℕ). (o, r)) rs)) c.as_slice.ensures.value in
    ap (λ ops. ops ++ of_acks client rest) more
    ∙ append_assoc old here (of_acks client rest)
    ∙ ap (λ ops. old ++ ops) (sym (acks_both client (map (λ (r : ℕ × ℕ). (o, r)) c.in-Some.ranges.now.items) rest))
    ∙ ap (λ it. old ++ of_acks client (ranges_in (origins_of it))) (sym c.in-Some.ensures.steps)
    ∙ c.loop-origin.invariant
