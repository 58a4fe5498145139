use Rattle.std.proofs.Common.{◌≡◌, Some, length, refl, sym, ap, ◌∙◌}
use Rattle.std.proofs.lemmas.Option.{slice_get_read}
use Rattle.std.specs.FinMap.{find}
use Rattle.rep_op.specs.Orders.{client_cmp}
use Rattle.rep_state.specs.Tables.{by_client}
use Rattle.rep_state.proofs.Rows.{found_by_client}
use Rattle.rep_state.proofs.Indexed.{in_order, same_some, led_to, name_at, entry_at}
use Rattle.rep_state.proofs.places.client_at.Goals as goal

pub returns : goal.returns
returns c =
    let es = c.args.table.now.entries in
    let places = c.args.places.now in
    let p = c.in_ok-place.place.now in
    let key = c.in-Some.field-0-0.now in
    let e = c.in-Some.entry.now in
    let there = sym (slice_get_read places (length places) c.args.at p refl c.in_ok-place.ensures.lookup.3.0 c.in_ok-place.ensures.lookup.1) in
    let same : key.items ≡ p.name = same_some key.items p.name (led_to es places c.args.at p (Some (key, e)) c.requires there c.in-Some.ensures.entry) in
    let found : find client_cmp p.name (by_client es) ≡ Some e = ap (λ k. find client_cmp k (by_client es)) (sym same) ∙ sym (found_by_client key.items es) ∙ c.in-Some.ensures.value in
    entry_at (by_client es) c.args.at p.name e (in_order es) (name_at es places c.args.at (Some p) c.requires there) found
