use Rattle.std.proofs.Common.{◌++◌, ℕ, T, sym, ap, subst, ◌∙◌, nat_cmp, Vec, Global}
use Rattle.std.specs.FinMap.{put}
use Rattle.std.proofs.lemmas.Cmp.{nat_cmp_total}
use Rattle.rep_shared.proofs.Found.{sorted_map, sorted_from_keys}
use Rattle.rep_log.specs.Origins.{origins_of}
use Rattle.rep_log.proofs.Acknowledged.{origins_put}
use Rattle.rep_log.proofs.Copying.{copied_next}
use Rattle.rep_log.proofs.acks.copy_origins.Goals as goal

pub loop-origin-preserved : goal.loop-origin-preserved
loop-origin-preserved c =
    let es = c.args.origins.now.entries in
    let done = c.loop-origin.made.entries in
    let rest = c.next.new.self in
    let o = c.in-Some.origin.now in
    let r = c.in-Some.ranges.now.items in
    let sorted = subst T (sym (sorted_map nat_cmp (λ (v : Vec (ℕ × ℕ) Global). v.items) es)) (sorted_from_keys nat_cmp es c.into_iter-origin-iterator.ensures.into_iter_gives.5) in
    copied_next nat_cmp nat_cmp_total o r (origins_of done) (origins_of rest) (origins_of es) (origins_of c.insert.new.self.entries)
    (ap (λ it. origins_of done ++ origins_of it) (sym c.in-Some.ensures.steps) ∙ c.loop-origin.invariant)
    sorted
    (origins_put o c.in_ok-copied.copied done c.insert.new.self.entries c.in_ok-insert.ensures.entries ∙ ap (λ rs. put nat_cmp o rs (origins_of done)) (c.in_ok-copied.ensures ∙ c.as_slice.ensures.value))

pub loop-origin-preserved-in_ok-insert : goal.loop-origin-preserved-in_ok-insert
loop-origin-preserved-in_ok-insert c =
    let es = c.args.origins.now.entries in
    let done = c.loop-origin.made.entries in
    let rest = c.next.new.self in
    let o = c.in-Some.origin.now in
    let r = c.in-Some.ranges.now.items in
    let sorted = subst T (sym (sorted_map nat_cmp (λ (v : Vec (ℕ × ℕ) Global). v.items) es)) (sorted_from_keys nat_cmp es c.into_iter-origin-iterator.ensures.into_iter_gives.5) in
    copied_next nat_cmp nat_cmp_total o r (origins_of done) (origins_of rest) (origins_of es) (origins_of c.insert.new.self.entries)
    (ap (λ it. origins_of done ++ origins_of it) (sym c.in-Some.ensures.steps) ∙ c.loop-origin.invariant)
    sorted
    (origins_put o c.in_ok-copied.copied done c.insert.new.self.entries c.in_ok-insert.ensures.entries ∙ ap (λ rs. put nat_cmp o rs (origins_of done)) (c.in_ok-copied.ensures ∙ c.as_slice.ensures.value))
