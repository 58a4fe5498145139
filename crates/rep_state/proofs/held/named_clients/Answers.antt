use Rattle.std.proofs.Common.{List, ℕ, filter, ap, sym, ◌∙◌, arith, Vec, Global}
use Rattle.rep_shared.specs.Rows.{own, has_any}
use Rattle.rep_state.specs.Tables.{by_client, rows_of}
use Rattle.rep_state.proofs.Indexed.{in_order, as_many}
use Rattle.rep_state.proofs.Walking.{named_all, all_named}
use Rattle.rep_state.proofs.held.named_clients.Goals.{then-named-places, else-named-places}
use Rattle.rep_state.proofs.held.named_clients.Goals as goal

pub returns : goal.returns
returns c =
    let es = by_client c.args.table.now.entries in
    let names = c.in_ok-clients.ensures ∙ c.requires.places.names in
    elim c.if-named-places.branch [
      | then-named-places w ↦ ap (λ (v : Vec (List ℕ) Global). v.items) w.clients-is ∙ w.keep_named.ensures ∙ ap (filter (λ (client : List ℕ). has_any (own client (rows_of es)))) names ∙ named_all es (in_order c.args.table.now.entries)
      | else-named-places w ↦
          let many = as_many c.args.table.now.entries c.args.places.now c.requires.places in
          ap (λ (v : Vec (List ℕ) Global). v.items) w.clients-is ∙ names ∙ sym (all_named es (omega (arith, w.if-named-places.false, c.requires.named, many)))
    ]
