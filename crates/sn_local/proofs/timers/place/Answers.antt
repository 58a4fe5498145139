use Rattle.std.proofs.Common.{◌≡◌, rules}
use Rattle.std.proofs.lemmas.Fn.{always_returns_same}
use Rattle.rep_op.specs.Orders.{client_cmp}
use Rattle.rep_model.proofs.Readers.{client_total}
use Rattle.sn_tables.proofs.Places.{placed}
use Rattle.sn_local.proofs.TimerPlaces.{timers_ascend}
use Rattle.sn_local.proofs.timers.place.Goals as goal

-- the closure compares a timer's client with the one that is sought
pub returns : goal.returns
returns c =
    let by_client = c.binary_search_by.ensures.position (λ t. client_cmp t.client c.args.client.now) (always_returns_same _ (λ a r. r ≡ client_cmp a.0.now.client c.args.client.now) _ (λ a r g called. search rules)) in
    placed (λ t. t.client) client_cmp client_total c.args.client.now c.args.timers.now (timers_ascend c.args.timers.now c.requires) c.binary_search_by.result c.binary_search_by.ensures.bound by_client
