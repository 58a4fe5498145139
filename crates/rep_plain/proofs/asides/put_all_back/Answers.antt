use Rattle.std.proofs.Common.{ℕ, List, T, sym, ap, subst, ◌∙◌}
use Rattle.std.specs.FinMap.{is_sorted}
use Rattle.rep_op.specs.Orders.{client_cmp}
use Rattle.rep_shared.specs.Rows.{rows_with}
use Rattle.rep_plain.specs.declared.entry.Entry.{Entry}
use Rattle.rep_plain.specs.Tables.{rows_of, HaveRoom}
use Rattle.rep_plain.specs.inner.Tables.{AreMovable}
use Rattle.rep_plain.proofs.Backs.{rows_sorted, held_there, back_first, back_room, back_movable, back_rest}
use Rattle.rep_plain.proofs.asides.put_all_back.Goals as goal

abbrev Entries : Type 0
Entries = List (List ℕ × Entry)

pub loop-client-init : goal.loop-client-init
loop-client-init c =
    let es = c.args.table.now.entries in
    let is = c.into_iter-client-iterator.ensures.into_iter_gives.0 in (
      ap (λ (it : Entries). rows_with (rows_of es) (rows_of it)) is,
      subst (λ (it : Entries). HaveRoom (rows_of es) (rows_of it)) (sym is) c.requires.room,
      subst (λ (it : Entries). AreMovable es it) (sym is) c.requires.movable,
      subst (λ (it : Entries). T (is_sorted client_cmp (rows_of it))) (sym is) c.requires.sorted,
    )

pub replace-requires : goal.replace-requires
replace-requires c =
    let es = c.loop-client.table.entries in
    let client = c.in-Some.client in
    let here = subst (λ (it : Entries). HaveRoom (rows_of es) (rows_of it)) c.in-Some.ensures.steps c.loop-client.invariant.1 in
    held_there client es here.0

pub loop-client-preserved : goal.loop-client-preserved
loop-client-preserved c =
    let es = c.loop-client.table.entries in
    let new = c.replace.new.table.entries in
    let all = c.loop-client.client-iterator in
    let rest = c.next.new.self in
    let client = c.in-Some.client in
    let entry = c.in-Some.entry in
    let steps = c.in-Some.ensures.steps in
    let is = c.replace.ensures in (
      back_first es new all rest client entry steps is (rows_sorted es c.loop-client.invariant.2.sorted) c.loop-client.invariant.3 ∙ c.loop-client.invariant.0,
      back_room es new all rest client entry steps is c.loop-client.invariant.1,
      back_movable es new all rest client entry steps is c.loop-client.invariant.2,
      back_rest es new all rest client entry steps is c.loop-client.invariant.3,
    )

pub returns-clause-rows : goal.returns-clause-rows
returns-clause-rows c =
    let es = c.loop-client.table.entries in
    sym (ap (λ (it : Entries). rows_with (rows_of es) (rows_of it)) c.in-None.ensures.steps.0) ∙ c.loop-client.invariant.0

pub returns-clause-movable : goal.returns-clause-movable
returns-clause-movable c = subst (λ (it : Entries). AreMovable c.loop-client.table.entries it) c.in-None.ensures.steps.0 c.loop-client.invariant.2
