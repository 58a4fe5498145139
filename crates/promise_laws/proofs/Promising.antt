-- Nothing acknowledges a message before it is made, so what acknowledges it comes later, for a cause.
use Rattle.std.proofs.Common.{◌≡◌, ℕ, zero, suc, Bool, true, false, ◌||◌, ◌⊎◌, List, [], ◌∷◌, ◌++◌, slice_get, Some, Contains, refl, sym, ap, ◌∙◌, subst, inl, inr}
use Rattle.std.specs.List.{flat_map}
use Rattle.std.proofs.lemmas.List.Elements.{All-from_recursion, All-contains, Contains-append_left, Contains-append_right, Contains-append_cases}
use Rattle.std.proofs.lemmas.Option.{none-some, same_Some, slice_get_within, get_or_from_slice_get}
use Rattle.rep_op.specs.declared.op.Op.{Op}
use Rattle.rep_op.specs.declared.op.Op.TheVariants.{Put as OfPut}
use Rattle.rep_op.specs.declared.op.Put.{Put}
use Rattle.rep_op.specs.Sets.{put_at, is_acknowledged}
use Rattle.rep_ops.specs.Splitting.{all_of}
use Rattle.jr_disk.specs.Disk.{Image}
use Rattle.jr_journal.specs.Records.{records}
use Rattle.sn_local.specs.declared.config.Config.{Config}
use Rattle.sn_local.specs.Seen.{seen_of}
use Rattle.sn_plan.specs.Own.{IsOwnWrite}
use Rattle.row_laws.proofs.Names.{plan-own}
use Rattle.put_laws.proofs.Acked.{none-there}
use Rattle.gw_answer.specs.declared.out.Out.{Out}
use Rattle.gw_event.specs.Gateways.{Gateway, with_refused}
use Rattle.gw_node.proofs.Occurring.{put_occurs}
use Rattle.gw_node.proofs.Taken.{as_taken}
use Rattle.gw_world.specs.declared.event.Event.{Event}
use Rattle.gw_world.specs.declared.event.Answer.{Answer}
use Rattle.gw_world.specs.declared.event.Answer.TheVariants.{Node, Row, Views, Records, Nothing}
use Rattle.gw_world.specs.Field.{Field, IsAt, Run, gateway_of_event}
use Rattle.gw_world.specs.Whole.{listed, everything}
use Rattle.gw_world.proofs.Alone.{delta-stands}
use Rattle.gw_world.proofs.Consistency.{field-home, field-due}
use Rattle.gw_world.proofs.Failures.{OwnOrListed, DueInTurn, IsDue}
use Rattle.gw_world.proofs.Numbers.{First, place_of-first, first-number, first-one}
use Rattle.field_laws.proofs.Settling.{set-there}
use Rattle.rep_model.proofs.Readers.{is_acknowledged_both}
use Rattle.promise_laws.specs.Accepted.{WaitsOrAcknowledged, IsLeftOf, HasAnswered}
use Rattle.promise_laws.specs.Acknowledged.{IsAcknowledgedIn, Acknowledges, IsWrittenBy}
use Rattle.promise_laws.specs.Promised.{WaitsOrAnswered, WaitsUntilAnswered}
use Rattle.promise_laws.proofs.Accepting.{Making, told-runs}
use Rattle.promise_laws.proofs.Acking.{after-acked, run-acked}
use Rattle.promise_laws.proofs.Had.{HasPut, put-none, HasTaken, AreTaken, IsRefusedAt, cause-waits, field-taken, acked-had}
use Rattle.promise_laws.proofs.Serving.{IsPut}
use Rattle.promise_laws.proofs.Staying.{counts-acked, kept-from}

pub contains-place : (gs : List Gateway) (j : ℕ) (gateway : Gateway) → slice_get gs j ≡ Some gateway → Contains gs gateway
contains-place gs j gateway e = (j, slice_get_within gs j gateway e, get_or_from_slice_get gs j gateway gateway e)

or_cases : (a b : Bool) → (a || b) ≡ true → (a ≡ true) ⊎ (b ≡ true)
or_cases true b e = inl refl
or_cases false b e = inr e

or_last : (b : Bool) → (b || true) ≡ true
or_last true = refl
or_last false = refl

-- what is acknowledged with some first ones of what was refused is acknowledged at the gateway
acked-here : (c : List ℕ) (name : ℕ × ℕ) (n : ℕ) (S : List Op) (refused : List (List Op)) → is_acknowledged c (with_refused n S refused) name ≡ true
    → (is_acknowledged c S name ≡ true) ⊎ (is_acknowledged c (all_of refused) name ≡ true)
acked-here c name zero S refused e = inl e
acked-here c name (suc n) S [] e = inl e
acked-here c name (suc n) S (D ∷ refused) e =
    let joined : is_acknowledged c (all_of (D ∷ refused)) name ≡ (is_acknowledged c D name || is_acknowledged c (all_of refused) name) = is_acknowledged_both c D (all_of refused) name in
    elim (acked-here c name n (S ++ D) refused e) [
      | inl both ↦ elim (or_cases (is_acknowledged c S name) (is_acknowledged c D name) (sym (is_acknowledged_both c S D name) ∙ both)) [
        | inl here ↦ inl here
        | inr own ↦ inr (joined ∙ ap (λ (b : Bool). b || is_acknowledged c (all_of refused) name) own)
      ]
      | inr rest ↦ inr (joined ∙ ap (λ (b : Bool). is_acknowledged c D name || b) rest ∙ or_last (is_acknowledged c D name))
    ]

-- a message of what a gateway refused is its own, or of a delta of the list
contains-listed : (ds : List (List Op)) (k : ℕ) (delta : List Op) (op : Op) → slice_get ds k ≡ Some delta → Contains delta op → Contains (all_of ds) op
contains-listed [] k delta op there h = absurd (none-some delta there)
contains-listed (d ∷ ds) zero delta op there h = Contains-append_left d (all_of ds) op (subst (λ (D : List Op). Contains D op) (sym (same_Some d delta there)) h)
contains-listed (d ∷ ds) (suc k) delta op there h = Contains-append_right d (all_of ds) op (contains-listed ds k delta op there h)

one-home : (c : List ℕ) (m : Put) (deltas : List (List Op)) (number : ℕ) (taken delta : List Op) → OwnOrListed deltas number taken delta → Contains delta (OfPut c m) → (m.origin ≡ number) ⊎ Contains (all_of deltas) (OfPut c m)
one-home c m deltas number taken delta (inl own) there =
    let stands : put_at c delta (m.seq, m.origin) ≡ Some m = delta-stands delta own.proper (OfPut c m) there in
    let among : Contains own.plan.ops (OfPut c m) = (put_occurs c own.plan.ops (m.seq, m.origin) m (sym (own.same.puts_same c (m.seq, m.origin)) ∙ stands)).0 in
    let d = own.drafted in
    inl (All-contains (IsOwnWrite number d.client) own.plan.ops (OfPut c m) (All-from_recursion (IsOwnWrite number d.client) own.plan.ops (plan-own number d.client (seen_of taken) d.draft own.plan d.is)) among)
one-home c m deltas number taken delta (inr (k, there)) here = inr (contains-listed deltas k delta (OfPut c m) there here)

due-home : (c : List ℕ) (m : Put) (deltas : List (List Op)) (number : ℕ) (taken : List Op) (refused : List (List Op)) → DueInTurn deltas number taken refused → Contains (all_of refused) (OfPut c m) → (m.origin ≡ number) ⊎ Contains (all_of deltas) (OfPut c m)
due-home c m deltas number taken [] due there = absurd (none-there (OfPut c m) there)
due-home c m deltas number taken (delta ∷ refused) due there =
    elim (Contains-append_cases delta (all_of refused) (OfPut c m) there) [
      | inl own ↦ one-home c m deltas number taken delta due.0 own
      | inr more ↦ due-home c m deltas number (taken ++ delta) refused due.1 more
    ]

-- the answer to an event that is one call
abbrev IsOne : Answer → Type 0
IsOne (Node answer) = Unit {0}
IsOne (Row answers) = ⊥
IsOne (Views views topics) = ⊥
IsOne (Records count) = ⊥
IsOne Nothing = ⊥

module _ (configs : List Config) (event : Event) (out : Out) (old new : Field) (i : ℕ) (gateway next : Gateway) (h : HasAnswered configs event out old new i gateway) (delta : List Op) (c : List ℕ) (m : Put) (is : IsPut gateway next delta c m) (runs : gateway.drive.halted ≡ false) where
  abbrev name : ℕ × ℕ
  name = (m.seq, m.origin)

  number : gateway.config.gateway ≡ gateway_of_event event
  number = first-number (gateway_of_event event) i old.gateways gateway (place_of-first (gateway_of_event event) i old.gateways h.at.0) h.at.1

  -- no message of this name was anywhere: the gateway that made it would have had it
  not-there : (t : Put) → name ≡ (t.seq, t.origin) → Contains (everything old) (OfPut c t) → ⊥
  not-there t named there =
      let home = field-home configs h.events h.answers old (OfPut c t) h.run there in
      let origin : t.origin ≡ gateway_of_event event = ap (λ (n : ℕ × ℕ). n.1) (sym named) ∙ is.is_new.origin ∙ number in
      let at : IsAt old (gateway_of_event event) home.0 home.1 = subst (λ (k : ℕ). IsAt old k home.0 home.1) origin home.2 in
      let place : home.0 ≡ i = same_Some home.0 i (sym at.0 ∙ h.at.0) in
      let same : home.1 ≡ gateway = same_Some home.1 gateway (sym at.1 ∙ ap (slice_get old.gateways) place ∙ h.at.1) in
      none-some t
      (sym is.is_new.fresh ∙ ap (put_at c gateway.taken) named ∙ subst (λ (g : Gateway). put_at c g.taken (t.seq, t.origin) ≡ Some t) same home.3)

  not-taken : HasTaken c name old → ⊥
  not-taken t = not-there t.has.0 t.has.2 (set-there old t.gateway (contains-place old.gateways t.j t.gateway t.place) (OfPut c t.has.0) t.has.1)

  -- nor had one refused it: of its own messages a gateway that goes on has refused none
  own-refused : (j : ℕ) (g : Gateway) → slice_get old.gateways j ≡ Some g → (t : Put) → name ≡ (t.seq, t.origin) → t.origin ≡ g.config.gateway → IsDue old.deltas g → AreTaken c name old → HasPut c name (all_of g.refused) → ⊥
  own-refused j g place t named own due are has =
      elim (are.heard j g place) [
        | inl none ↦ empty none
        | inr first ↦
            let one : g.config.gateway ≡ gateway_of_event event = sym own ∙ ap (λ (n : ℕ × ℕ). n.1) (sym named) ∙ is.is_new.origin ∙ number in
            let there : First (gateway_of_event event) old.gateways j = subst (λ (m : ℕ). First m old.gateways j) one first in
            let at : j ≡ i = first-one (gateway_of_event event) j i old.gateways there (place_of-first (gateway_of_event event) i old.gateways h.at.0) in
            let same : gateway ≡ g = same_Some gateway g (sym h.at.1 ∙ ap (slice_get old.gateways) (sym at) ∙ place) in
            empty (due.runs (subst (λ (x : Gateway). x.drive.halted ≡ false) same runs))
      ]
    where
      empty : g.refused ≡ [] → ⊥
      empty none = put-none c name (subst (λ (R : List (List Op)). HasPut c name (all_of R)) none has)

  not-refused : IsRefusedAt c name old → ⊥
  not-refused (j, g, place, has) =
      let due = field-due configs h.events h.answers old h.run j g place in
      elim (due-home c has.0 old.deltas g.config.gateway g.taken g.refused due.due has.1) [
        | inl own ↦ own-refused j g place has.0 has.2 own due (field-taken c name configs h.events h.answers old h.run) has
        | inr there ↦ not-there has.0 has.2 (Contains-append_right (flat_map (λ (g : Gateway). g.taken) old.gateways) (listed old) (OfPut c has.0) there)
      ]

  not-step : Acknowledges old event (Node h.answer) c name → ⊥
  not-step step = elim step.comes [
    | inl (k, j, at, comes, ends) ↦ not-taken (record { j = j; gateway = step.gateway; place = at.1; has = cause-waits c name step.gateway step.occasion step.moment step.plan.sends step.cause })
    | inr among ↦ subst IsOne among.answer_is tt
  ]

  not-before : IsAcknowledgedIn new c name → ⊥
  not-before e = elim (after-acked c name old event (Node h.answer) new h.after e) [
    | inl before ↦ elim (acked-had c name old (field-taken c name configs h.events h.answers old h.run) before) [ inl taken ↦ not-taken taken | inr refused ↦ not-refused refused ]
    | inr step ↦ not-step step
  ]

  module _ (more : List Event) (replies : List Answer) (last : Field) (run : Run new more replies last) where
    pub only-later : IsAcknowledgedIn last c name → IsWrittenBy new more replies c name
    only-later e = elim (run-acked c name new more replies last run e) [ inl before ↦ absurd (not-before before) | inr written ↦ written ]

    or-answered : (S : List Op) → (is_acknowledged c S name ≡ true → IsAcknowledgedIn last c name) → WaitsOrAcknowledged c m S → WaitsOrAnswered new more replies c m S
    or-answered S there (inl waits) = inl waits
    or-answered S there (inr acked) = inr (acked, only-later (there acked))

    module _ (j : ℕ) (g : Gateway) (place : slice_get last.gateways j ≡ Some g) where
      in-field : (n : ℕ) → is_acknowledged c (with_refused n g.taken g.refused) name ≡ true → IsAcknowledgedIn last c name
      in-field n e = inl (j, g, place, acked-here c name n g.taken g.refused e)

      on-disk : (image : Image) (left : IsLeftOf g image) → is_acknowledged c (all_of (records g.config.gateway image)) name ≡ true → IsAcknowledgedIn last c name
      on-disk image left e =
          let S : List Op = with_refused left.0 g.taken g.refused in
          let J : List Op = all_of (records g.config.gateway image) in
          in-field left.0 (sym (counts-acked c m S J (as_taken S J left.1.whole)) ∙ e)

  pub until-answered : slice_get new.gateways i ≡ Some next → WaitsUntilAnswered new i delta c m
  until-answered here = λ more replies last j g run place come.
      let k = kept-from gateway next delta c m is new i here more replies last j g run place come in (
        or-answered more replies last run g.taken (in-field more replies last run j g place zero) k.in_set,
        λ image left. or-answered more replies last run (all_of (records g.config.gateway image)) (on-disk more replies last run j g place image left) (k.on_disk image left),
      )

pub promising : (configs : List Config) (event : Event) (out : Out) (old new : Field) (i : ℕ) (gateway : Gateway) → HasAnswered configs event out old new i gateway → (next : Gateway) → slice_get new.gateways i ≡ Some next → Making gateway next out (WaitsUntilAnswered new i)
promising configs event out old new i gateway h next here = λ delta c m told is. until-answered configs event out old new i gateway next h delta c m is (told-runs configs event out old new i gateway delta h told) here
