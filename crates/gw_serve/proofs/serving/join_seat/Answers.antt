use Rattle.gw_serve.proofs.Balance.{merges}
use Rattle.std.proofs.Common.{List, subst, sym}
use Rattle.gw_shift.specs.Calls.{Holder}
use Rattle.gw_serve.specs.Serving.{HaveSeen}
use Rattle.gw_serve.proofs.Gaining.{seen_more, seen_last, memory_behind}
use Rattle.gw_serve.proofs.Gathering.{gathered_more, gains_next, renamed}
use Rattle.gw_serve.proofs.serving.join_seat.Goals as goal

pub absorb-requires-clause-rule : goal.absorb-requires-clause-rule
absorb-requires-clause-rule c = merges _ _ _ _ c.requires.part

pub returns-clause-gathered : goal.returns-clause-gathered
returns-clause-gathered c none before worked done g =
    renamed _ _ _ _ _ _ _ _ _ c.absorb.ensures.rule c.in-Ok.ensures.items c.in-Ok-append.ensures.items c.push_reserved.ensures.items
    (gathered_more _ _ _ _ _ _ _ _ _ _ (worked.working none) g)

pub returns-clause-gains : goal.returns-clause-gains
returns-clause-gains c before worked done steps g = gains_next _ _ _ _ _ _ _ worked g c.push_reserved.ensures.items

pub returns-in_default-clause-gains : goal.returns-in_default-clause-gains
returns-in_default-clause-gains c before worked done steps g = gains_next _ _ _ _ _ _ _ worked g c.push_reserved.ensures.items

pub returns-in_default-append-clause-gains : goal.returns-in_default-append-clause-gains
returns-in_default-append-clause-gains c before worked done steps g = gains_next _ _ _ _ _ _ _ worked g c.push_reserved.ensures.items

pub returns-clause-behind : goal.returns-clause-behind
returns-clause-behind c e = subst (λ (ps : List Holder). HaveSeen ps) (sym c.push_reserved.ensures.items) (seen_last _ _ (c.requires.done.1.behind e))

pub returns-in_default-clause-behind : goal.returns-in_default-clause-behind
returns-in_default-clause-behind c e = absurd (memory_behind e)

pub returns-in_default-append-clause-behind : goal.returns-in_default-append-clause-behind
returns-in_default-append-clause-behind c e = absurd (memory_behind e)

pub returns-clause-seen : goal.returns-clause-seen
returns-clause-seen c h = subst (λ (ps : List Holder). HaveSeen ps) (sym c.push_reserved.ensures.items) (seen_more _ _ h)

pub returns-in_default-clause-seen : goal.returns-in_default-clause-seen
returns-in_default-clause-seen c h = subst (λ (ps : List Holder). HaveSeen ps) (sym c.push_reserved.ensures.items) (seen_more _ _ h)

pub returns-in_default-append-clause-seen : goal.returns-in_default-append-clause-seen
returns-in_default-append-clause-seen c h = subst (λ (ps : List Holder). HaveSeen ps) (sym c.push_reserved.ensures.items) (seen_more _ _ h)
