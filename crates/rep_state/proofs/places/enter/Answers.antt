use Rattle.std.proofs.Common.{ℕ, List, ◌∙◌, subst, arith}
use Rattle.rep_op.specs.Orders.{client_cmp}
use Rattle.sn_tables.specs.inner.Tables.{IsFoundAt, IsGap}
use Rattle.rep_state.specs.declared.places.Place.{Place}
use Rattle.rep_state.proofs.Indexed.{set_is, insert_is, chosen}
use Rattle.rep_state.proofs.places.enter.Goals as goal

pub returns-in-Ok : goal.returns-in-Ok
returns-in-Ok c =
    set_is c.args.places.now.items c.in-Ok.at c.args.place
    (subst (λ (k : List ℕ). IsFoundAt (λ (q : Place). client_cmp q.name k) c.args.places.now.items c.in-Ok.at) c.bytes.ensures.octets (rw c.as_slice.ensures.value at c.in-Ok.ensures.1))

pub returns-in-Err : goal.returns-in-Err
returns-in-Err c =
    chosen _ _ _ _ (c.insert.ensures.succeeds (omega (arith, c.requires.room))) c.insert.ensures.items
    ∙ insert_is c.args.places.now.items c.in-Err.at c.args.place
    (subst (λ (k : List ℕ). IsGap (λ (q : Place). client_cmp q.name k) c.args.places.now.items c.in-Err.at) c.bytes.ensures.octets (rw c.as_slice.ensures.value at c.in-Err.ensures.1))
