use Rattle.gw_serve.specs.declared.worker.Cause.{Cause}
use Rattle.std.proofs.Common.{inl, inr, ◌==◌, ◌-◌, if◌then◌else◌, ℕ, List, All, Some, map, length, ap, ◌∙◌, sym, subst, arith}
use Rattle.std.proofs.lemmas.List.{with_items_is}
use Rattle.crossbeam_channel.specs.Claims.{view}
use Rattle.crossbeam_channel.specs.Ends.{sends_on}
use Rattle.gw_shift.specs.Calls.{Holder}
use Rattle.gw_serve.specs.declared.queue.Hand.{Hand}
use Rattle.gw_serve.specs.Serving.{EachGains}
use Rattle.gw_serve.specs.inner.Work.{IsDone, DoneFrom, pass_of}
use Rattle.gw_serve.proofs.Gaining.{only_memory}
use Rattle.gw_serve.proofs.Gathering.{all_done, all_from, accounted}
use Rattle.gw_serve.proofs.serving.serve_in.Goals as goal

pub gather-gathered-requires-clause-done : goal.gather-gathered-requires-clause-done
gather-gathered-requires-clause-done g c =
    let len = c.read_and_work-reading.auto.slots in
    let size = ap length c.as_mut_slice.ensures.value in
    let here = with_items_is c.seated-slots.result c.read_and_work-reading.new.slots (omega (arith, len, size, c.as_mut_slice.ensures.len)) in
    let tied = c.requires.channel in
    subst (All (IsDone (sends_on c.args.channel.sender))) (sym here)
    (all_done (sends_on c.args.channel.sender) c.as_mut_slice.result.now c.read_and_work-reading.new.slots (omega (arith, len)) (rw tied at c.read_and_work-reading.ensures.slots))

pub returns-clause-datagrams : goal.returns-clause-datagrams
returns-clause-datagrams g c =
    let quiet = c.first_trouble.ensures.none (c.first_cause.ensures.none c.in-None.is).1 in
    let len = c.read_and_work-reading.auto.slots in
    let size = ap length c.as_mut_slice.ensures.value in
    let here = with_items_is c.seated-slots.result c.read_and_work-reading.new.slots (omega (arith, len, size, c.as_mut_slice.ensures.len)) in
    let tied = c.requires.channel in
    let from = subst (DoneFrom (sends_on c.args.channel.sender) (map pass_of c.as_mut_slice.result.now)) (sym here)
    (all_from (sends_on c.args.channel.sender) c.as_mut_slice.result.now c.read_and_work-reading.new.slots (omega (arith, len)) (rw tied at c.read_and_work-reading.ensures.slots)) in
    let gathered = c.gather-gathered.ensures.all quiet.0 (map pass_of c.as_mut_slice.result.now) from in
    let sent = c.gather-gathered.ensures.sent ∙ ap (λ (v : Hand). v.sent) c.read_and_work-reading.ensures.root.1 in
    let came = c.read_and_work-reading.ensures.datagrams (c.first_cause.ensures.none c.in-None.is).0 in (
      c.read_and_work-reading.result.count,
      g.W.Wire.drops c.read_and_work-reading.new.wire - g.W.Wire.drops c.args.wire.now,
      omega (arith, came),
      omega (arith, came),
      λ x. accounted (view c.gather-gathered.new.root) c.read_and_work-reading.result.count c.gather-gathered.result.taken.items c.gather-gathered.result.left.items c.drain-rest.new.left.items sent gathered.numbers (c.drain-rest.ensures.all quiet.1) (λ y. if y == x then 1 else 0),
    )

pub returns-clause-passes : goal.returns-clause-passes
returns-clause-passes g c =
    let quiet = c.first_trouble.ensures.none (c.first_cause.ensures.none c.in-None.is).1 in
    let len = c.read_and_work-reading.auto.slots in
    let size = ap length c.as_mut_slice.ensures.value in
    let here = with_items_is c.seated-slots.result c.read_and_work-reading.new.slots (omega (arith, len, size, c.as_mut_slice.ensures.len)) in
    let tied = c.requires.channel in
    let from = subst (DoneFrom (sends_on c.args.channel.sender) (map pass_of c.as_mut_slice.result.now)) (sym here)
    (all_from (sends_on c.args.channel.sender) c.as_mut_slice.result.now c.read_and_work-reading.new.slots (omega (arith, len)) (rw tied at c.read_and_work-reading.ensures.slots)) in
    let gathered = c.gather-gathered.ensures.all quiet.0 (map pass_of c.as_mut_slice.result.now) from in
    let same = ap (map pass_of) c.as_mut_slice.ensures.value ∙ c.seated-slots.ensures.passes in
    subst (λ (ps : List Holder). EachGains ps (map (λ t. t.step) c.gather-gathered.result.taken.items) c.gather-gathered.result.passes.items) same gathered.gains

pub returns-in-Some-clause-back : goal.returns-in-Some-clause-back
returns-in-Some-clause-back g c =
    let len = c.read_and_work-reading.auto.slots in
    let size = ap length c.as_mut_slice.ensures.value in
    let here = with_items_is c.seated-slots.result c.read_and_work-reading.new.slots (omega (arith, len, size, c.as_mut_slice.ensures.len)) in
    let tied = c.requires.channel in
    let from = subst (DoneFrom (sends_on c.args.channel.sender) (map pass_of c.as_mut_slice.result.now)) (sym here)
    (all_from (sends_on c.args.channel.sender) c.as_mut_slice.result.now c.read_and_work-reading.new.slots (omega (arith, len)) (rw tied at c.read_and_work-reading.ensures.slots)) in
    let same = ap (map pass_of) c.as_mut_slice.ensures.value ∙ c.seated-slots.ensures.passes in
    subst (λ (ps : List Holder). (numbers : List ℕ) × EachGains ps numbers c.gather-gathered.result.passes.items) same (c.gather-gathered.ensures.back (map pass_of c.as_mut_slice.result.now) from)

pub returns-in-Some-clause-wire : goal.returns-in-Some-clause-wire
returns-in-Some-clause-wire g c e = c.read_and_work-reading.ensures.wire (c.first_cause.ensures.wire (c.in-Some.is ∙ ap (λ (x : Cause). Some x) e))

pub returns-in-Some-clause-behind : goal.returns-in-Some-clause-behind
returns-in-Some-clause-behind g c e =
    elim (c.first_cause.ensures.behind (c.in-Some.is ∙ ap (λ (x : Cause). Some x) e)) [
      | inl reader ↦ absurd (c.read_and_work-reading.ensures.behind reader)
      | inr worker ↦ elim c.first_trouble.ensures.some [
        | inl seats ↦ c.gather-gathered.ensures.behind (sym seats ∙ worker)
        | inr rest ↦ absurd (only_memory c.drain-rest.result c.drain-rest.ensures.memory (sym rest ∙ worker))
      ]
    ]
