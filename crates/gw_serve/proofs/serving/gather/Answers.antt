use Rattle.std.proofs.Common.{inl, inr, ◌∷◌, ◌++◌, [], List, Option, length, All, suc, ap, ◌∙◌, sym, subst, arith, append_assoc}
use Rattle.crossbeam_channel.specs.Claims.{view}
use Rattle.gw_shift.specs.Calls.{Holder}
use Rattle.gw_serve.specs.declared.worker.Seat.{Seat}
use Rattle.gw_serve.specs.inner.Work.{IsDone, DoneFrom}
use Rattle.gw_serve.proofs.Gathering.{next_done, gains_all, gathered_all}
use Rattle.gw_serve.proofs.serving.gather.Goals as goal

pub loop-slot-preserved-in-Some-slot : goal.loop-slot-preserved-in-Some-slot
loop-slot-preserved-in-Some-slot c =
    let inv = c.loop-slot.invariant in
    let e = c.in-Some.ensures.steps.0 ∙ ap (λ (s : Option Seat). s ∷ c.next.new.self.rest.items) c.in-Some-slot.is in
    let l = ap length e in
    let p = inv.1 in
    let q = c.join_seat-trouble.ensures.parts in
    let b = c.join_seat-trouble.ensures.back in
    let some = inv.2 in
    let cap = inv.5 in
    let len = inv.6 in (
      c.join_seat-trouble.ensures.channel,
      omega arith,
      omega arith,
      c.join_seat-trouble.ensures.sent ∙ inv.3,
      (λ k d h. subst (All (IsDone _)) e inv.4 (suc k) d (omega arith)),
      omega arith,
      omega arith,
      λ before from.
          let w = inv.7 before from in
          let d = next_done _ w.1 c.in-Some-slot.seat c.next.new.self.rest.items (subst (DoneFrom _ w.1) e w.3) in (
            w.0 ++ d.0 ∷ [],
            d.1,
            w.2 ∙ ap (λ (x : List Holder). w.0 ++ x) d.2 ∙ sym (append_assoc w.0 (d.0 ∷ []) d.1),
            d.4,
            c.join_seat-trouble.ensures.gains d.0 d.3 w.0 w.4.0 w.4.1,
            λ none. let n = c.first_trouble-fault.ensures.none none in c.join_seat-trouble.ensures.gathered n.1 d.0 d.3 w.0 (w.5 n.0),
          ),
      λ behind. elim c.first_trouble-fault.ensures.some [
        | inl before ↦ c.join_seat-trouble.ensures.seen (inv.8 (sym before ∙ behind))
        | inr now ↦ c.join_seat-trouble.ensures.behind (sym now ∙ behind)
      ],
    )

pub returns-clause-back : goal.returns-clause-back
returns-clause-back c before from =
    let w = c.loop-slot.invariant.7 before from in
    gains_all _ before w.0 w.1 c.loop-slot.slot-iterator.rest.items w.4.0 c.loop-slot.back.items w.2 w.3 (omega (arith, c.in-None.ensures.steps.0, c.loop-slot.slot-iterator.rest.ok)) w.4.1

pub returns-clause-all : goal.returns-clause-all
returns-clause-all c none before from =
    let w = c.loop-slot.invariant.7 before from in
    gathered_all _ before w.0 w.1 c.loop-slot.slot-iterator.rest.items (view c.loop-slot.root) c.loop-slot.taken.items c.loop-slot.left.items c.loop-slot.back.items w.2 w.3 (omega (arith, c.in-None.ensures.steps.0, c.loop-slot.slot-iterator.rest.ok)) (w.5 none)
