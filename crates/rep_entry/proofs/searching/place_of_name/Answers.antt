use Rattle.std.proofs.Common.{◌≡◌, ℕ, rules}
use Rattle.std.proofs.lemmas.Fn.{always_returns_same}
use Rattle.rep_op.specs.declared.op.Put.{Put}
use Rattle.rep_op.specs.Orders.{name_of, put_cmp}
use Rattle.rep_model.proofs.Readers.{put_total}
use Rattle.sn_tables.proofs.Places.{placed}
use Rattle.rep_entry.proofs.Names.{ascends}
use Rattle.rep_entry.proofs.searching.place_of_name.Goals as goal

-- the closure compares a message's name with the one that is sought
pub returns-clause-place : goal.returns-clause-place
returns-clause-place c =
    λ rising.
    let q : ℕ × ℕ = (c.args.seq, c.args.origin) in
    let named = c.binary_search_by.ensures.position (λ (p : Put). put_cmp (name_of p) q) (always_returns_same _ (λ a r. r ≡ put_cmp (name_of a.0.now) q) _ (λ a r g called. search rules)) in
    placed name_of put_cmp put_total q c.args.puts.now (ascends c.args.puts.now rising) c.binary_search_by.result c.binary_search_by.ensures.bound named
