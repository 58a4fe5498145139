use Rattle.std.proofs.Common.{◌≡◌, nat_cmp, rules}
use Rattle.std.proofs.lemmas.Cmp.{nat_cmp_total}
use Rattle.std.proofs.lemmas.Fn.{always_returns_same}
use Rattle.sn_tables.proofs.Places.{placed}
use Rattle.rep_digest.proofs.Occurring.{entries_ascend}
use Rattle.rep_digest.proofs.origins.place.Goals as goal

-- the closure compares an entry's origin with the one that is sought
pub returns : goal.returns
returns c =
    let by_origin = c.binary_search_by.ensures.position (λ e. nat_cmp e.origin c.args.origin) (always_returns_same _ (λ a r. r ≡ nat_cmp a.0.now.origin c.args.origin) _ (λ a r g called. search rules)) in
    placed (λ e. e.origin) nat_cmp nat_cmp_total c.args.origin c.args.origins.now (entries_ascend c.args.origins.now c.requires) c.binary_search_by.result c.binary_search_by.ensures.bound by_origin
