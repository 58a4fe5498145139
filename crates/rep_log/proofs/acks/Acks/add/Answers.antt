use Rattle.std.proofs.Common.{ℕ, ◌||◌, sym, ap, subst, ◌∙◌, nat_cmp}
use Rattle.std.specs.List.{list_any}
use Rattle.std.specs.FinMap.{put}
use Rattle.rep_model.specs.Limits.{with_range}
use Rattle.rep_log.specs.Mail.{covers}
use Rattle.rep_log.specs.Origins.{origins_of, ranges_of_origin, ranges_in, AreOrigins}
use Rattle.rep_log.proofs.Acknowledged.{origins_put, origins_more, covers_put}
use Rattle.rep_log.proofs.acks.Acks.add.Goals as goal

pub invariant_of-self-2 : goal.invariant_of-self-2
invariant_of-self-2 c =
    let old = c.self.inside.origins.entries in
    let es = origins_of old in
    let o = c.args.origin in
    let r : ℕ × ℕ = (c.args.first, c.args.last) in
    let items = c.in_ok-more.ensures ∙ ap (with_range r) (c.numbers.ensures.numbers ∙ sym (ap (ranges_of_origin o) c.self.view_is)) in
    let is = origins_put o c.in_ok-more.more old c.insert.new.self.entries c.in_ok-insert.ensures.entries ∙ ap (λ rs. put nat_cmp o rs es) items in
    subst AreOrigins (sym is) (origins_more o r es c.requires.0 c.requires.1 c.requires.2 c.self.invariant)

pub returns-clause-origins : goal.returns-clause-origins
returns-clause-origins c =
    let old = c.self.inside.origins.entries in
    let es = origins_of old in
    let o = c.args.origin in
    let r : ℕ × ℕ = (c.args.first, c.args.last) in
    let items = c.in_ok-more.ensures ∙ ap (with_range r) (c.numbers.ensures.numbers ∙ sym (ap (ranges_of_origin o) c.self.view_is)) in
    let is = origins_put o c.in_ok-more.more old c.insert.new.self.entries c.in_ok-insert.ensures.entries ∙ ap (λ rs. put nat_cmp o rs es) items in
    subst AreOrigins (sym is) (origins_more o r es c.requires.0 c.requires.1 c.requires.2 c.self.invariant)

pub returns-clause-covers : goal.returns-clause-covers
returns-clause-covers c =
    λ name.
    let old = c.self.inside.origins.entries in
    let es = origins_of old in
    let o = c.args.origin in
    let r : ℕ × ℕ = (c.args.first, c.args.last) in
    let items = c.in_ok-more.ensures ∙ ap (with_range r) (c.numbers.ensures.numbers ∙ sym (ap (ranges_of_origin o) c.self.view_is)) in
    let is = origins_put o c.in_ok-more.more old c.insert.new.self.entries c.in_ok-insert.ensures.entries ∙ ap (λ rs. put nat_cmp o rs es) items in
    ap (λ es. list_any (covers name) (ranges_in es)) is
    ∙ covers_put name o r es c.self.invariant.sorted
    ∙ ap (λ es. list_any (covers name) (ranges_in es) || covers name (o, r)) c.self.view_is
