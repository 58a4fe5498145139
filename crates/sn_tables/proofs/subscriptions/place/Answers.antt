use Rattle.std.proofs.Common.{◌≡◌, rules}
use Rattle.std.specs.Ordering.{nat_cmp}
use Rattle.std.specs.Cmp.Lexicographic.{slice_cmp, nat_list_cmp_total}
use Rattle.std.proofs.lemmas.Fn.{always_returns_same}
use Rattle.sn_tables.specs.Subscriptions.{subscription_cmp}
use Rattle.sn_tables.proofs.Ascending.{from_test}
use Rattle.sn_tables.proofs.Places.{placed}
use Rattle.sn_tables.proofs.SubscriptionPlaces.{subscription_total}
use Rattle.sn_tables.proofs.subscriptions.place.Goals as goal

-- the closure compares an entry's filter with the one that is sought
pub returns : goal.returns
returns c =
    let up = from_test subscription_cmp subscription_total c.args.entries.now c.requires in
    let by_filter = c.binary_search_by.ensures.position (λ e. slice_cmp nat_cmp e.filter c.args.filter.now) (always_returns_same _ (λ a r. r ≡ slice_cmp nat_cmp a.0.now.filter c.args.filter.now) _ (λ a r g called. search rules)) in
    placed (λ e. e.filter) (slice_cmp nat_cmp) nat_list_cmp_total c.args.filter.now c.args.entries.now up c.binary_search_by.result c.binary_search_by.ensures.bound by_filter
