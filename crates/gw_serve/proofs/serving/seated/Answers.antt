use Rattle.std.proofs.Common.{◌≡◌, ◌-◌, ◌∷◌, ◌++◌, [], List, Some, Option, length, map, All, ap, ◌∙◌, sym, subst, arith, append_assoc, length-append}
use Rattle.std.proofs.lemmas.List.{map-append, length-map}
use Rattle.crossbeam_channel.specs.Ends.{sends_on}
use Rattle.gw_shift.specs.Calls.{Holder}
use Rattle.gw_serve.specs.declared.queue.Hand.{Hand}
use Rattle.gw_serve.specs.declared.worker.Seat.{Seat}
use Rattle.gw_serve.specs.inner.Queue.{hand, whole}
use Rattle.gw_serve.specs.inner.Work.{IsFreshSlot, pass_of}
use Rattle.gw_serve.proofs.Balance.{forks}
use Rattle.gw_serve.proofs.Gathering.{fresh_more, fresh_seat}
use Rattle.gw_serve.proofs.serving.seated.Goals as goal

pub another-ticket-requires-clause-rule : goal.another-ticket-requires-clause-rule
another-ticket-requires-clause-rule c =
    let inv = c.loop-pass.invariant in
    let p = ap (λ (v : Hand). v.parts) inv.1 in
    let e = c.in-Some.ensures.steps.0 in
    let l = ap length e in
    let n = ap length inv.3 in
    forks _ _ (omega (arith, length-append (map pass_of c.loop-pass.slots.items) c.loop-pass.pass-iterator.rest.items, length-map c.loop-pass.slots.items pass_of, c.args.passes.ok, c.args.passes.small))

pub loop-pass-preserved : goal.loop-pass-preserved
loop-pass-preserved c =
    let inv = c.loop-pass.invariant in
    let e = c.in-Some.ensures.steps.0 in
    let items = c.push_reserved.ensures.items in
    let was = inv.1 in
    let rule = c.another-ticket.ensures.rule in
    let made : hand ((hand (whole - length c.loop-pass.slots.items) [] []).parts - 1) [] [] ≡ hand (whole - length c.push_reserved.new.self.items) [] [] =
    let n = ap length items ∙ length-append c.loop-pass.slots.items (Some c.new-seat.result ∷ []) in ap (λ (k : _). hand k [] []) (omega arith) in (
      c.another-ticket.ensures.channel.0,
      rule.0 ∙ ap (λ (v : Hand). hand (v.parts - 1) v.sent v.taken) was ∙ made,
      subst (All (IsFreshSlot (sends_on c.args.sender.now))) (sym items) (fresh_more (sends_on c.args.sender.now) c.loop-pass.slots.items c.new-seat.result inv.2 (fresh_seat (sends_on c.args.sender.now) c.new-seat.result _ c.another-ticket.ensures.channel.2 rule.1 c.new-seat.ensures.ticket c.new-seat.ensures.fresh)),
      ap (λ (l : List (Option Seat)). map pass_of l ++ c.next.new.self.rest.items) items
          ∙ ap (λ (l : List Holder). l ++ c.next.new.self.rest.items) (map-append pass_of c.loop-pass.slots.items (Some c.new-seat.result ∷ []))
          ∙ append_assoc (map pass_of c.loop-pass.slots.items) (pass_of (Some c.new-seat.result) ∷ []) c.next.new.self.rest.items
          ∙ ap (λ (p : Holder). map pass_of c.loop-pass.slots.items ++ p ∷ c.next.new.self.rest.items) c.new-seat.ensures.pass
          ∙ ap (λ (l : List Holder). map pass_of c.loop-pass.slots.items ++ l) (sym e)
          ∙ inv.3,
      (let l = ap length e in let n = c.push_reserved.ensures.len in let m = c.push_reserved.ensures.capacity in let o = inv.4 in omega arith),
    )
