-- What a gateway took, or was answered, it has; and two that took each other's answers have the same.
use Rattle.std.proofs.Common.{◌≡◌, ℕ, ◌⊎◌, List, ◌∷◌, ◌++◌, map, slice_get, Some, Contains, Result, Ok, sym, ap, ◌∙◌, subst, inl, inr}
use Rattle.std.specs.declared.sync.Arc.{Arc}
use Rattle.std.specs.declared.alloc.Global.{Global}
use Rattle.std.proofs.lemmas.Option.{same_Some}
use Rattle.std.proofs.lemmas.List.Elements.{Contains-append_left, Contains-append_right, Contains-append_cases}
use Rattle.rep_op.specs.declared.op.Op.{Op}
use Rattle.rep_op.specs.Sets.{IsConsistent, Within, Same}
use Rattle.rep_ops.specs.Splitting.{all_of}
use Rattle.rep_model.specs.Keep.{Below, CountsAs}
use Rattle.rep_model.proofs.Joins.{same_sym, same_trans, counts-same, same-absorbed, same-elements, same-turned, same_by_counts}
use Rattle.rep_model.proofs.Named.{clients-thin}
use Rattle.rep_model.proofs.Thin.{Thin, same_kept, thin-same, view-thin}
use Rattle.set_laws.proofs.Order.{below-on}
use Rattle.sn_local.specs.declared.config.Config.{Config}
use Rattle.gw_answer.specs.declared.out.Out.{Out}
use Rattle.gw_answer.specs.declared.refusal.Refusal.{Refusal}
use Rattle.gw_answer.specs.declared.fault.NodeFault.{NodeFault}
use Rattle.gw_answer.specs.Answers.{said}
use Rattle.gw_event.specs.Gateways.{Gateway}
use Rattle.gw_event.specs.Event.{TakeStep}
use Rattle.gw_world.specs.declared.event.Event.{Event}
use Rattle.gw_world.specs.declared.event.Event.TheVariants.{Take, Answer as Asks}
use Rattle.gw_world.specs.declared.event.Answer.{Answer}
use Rattle.gw_world.specs.declared.event.Answer.TheVariants.{Node}
use Rattle.gw_world.specs.Field.{Field, new_field, IsAt, IsDeltaAt, After, Run, shown}
use Rattle.gw_world.specs.Steps.{AnswerStep}
use Rattle.gw_world.specs.Whole.{everything}
use Rattle.gw_world.proofs.Consistency.{WholeField, field-whole, parts-consistent}
use Rattle.gw_world.proofs.Fields.{run_both}
use Rattle.gw_world.proofs.Numbers.{set-there as set-at}
use Rattle.field_laws.proofs.Catching.{run-later, later-now, caught-up}
use Rattle.field_laws.proofs.Settling.{set-there, parts-within}
use Rattle.promise_laws.proofs.Promising.{contains-place}

-- ---- sets

-- what stands in a set is below it
pub below-within : (A S : List Op) → Within A S → Below A S
below-within A S h = counts-same S (A ++ S) (same-absorbed A S h)

-- a set that counts with another after it as without is above that one
below-behind : (A S : List Op) → IsConsistent (S ++ A) → CountsAs (S ++ A) S → Below A S
below-behind A S consistent h = same_trans (counts-same (S ++ A) (A ++ S) (same_sym (same-turned S A consistent))) (same_sym h)

-- A and B are what two gateways have, P is what the first and Q what the second was answered from
module _ (A B P Q : List Op) (consistent : IsConsistent (A ++ P)) (first : CountsAs (A ++ P) A) (second : CountsAs (B ++ Q) B)
    (early : (op : Op) → Contains P op → Contains B op) (late : (op : Op) → Contains Q op → Contains A op)
    (one : (op : Op) → Contains A op → Contains Q op ⊎ Contains B op) (two : (op : Op) → Contains B op → Contains P op ⊎ Contains A op) where
  there : (op : Op) → Contains (A ++ P) op → Contains (B ++ Q) op
  there op h = elim (Contains-append_cases A P op h) [
    | inl own ↦ elim (one op own) [ inl before ↦ Contains-append_right B Q op before | inr other ↦ Contains-append_left B Q op other ]
    | inr answer ↦ Contains-append_left B Q op (early op answer)
  ]

  back : (op : Op) → Contains (B ++ Q) op → Contains (A ++ P) op
  back op h = elim (Contains-append_cases B Q op h) [
    | inl own ↦ elim (two op own) [ inl before ↦ Contains-append_right A P op before | inr other ↦ Contains-append_left A P op other ]
    | inr answer ↦ Contains-append_left A P op (late op answer)
  ]

  joined-alike : Same (A ++ P) (B ++ Q)
  joined-alike = same-elements (A ++ P) (B ++ Q) consistent there back

  pub counts-alike : CountsAs A B
  counts-alike = same_trans second (same_trans (same_kept (B ++ Q) (A ++ P) (thin-same (B ++ Q) (A ++ P) (same_sym joined-alike))) (same_sym first))

shown-thin : (N W : List Op) → Thin N W → shown N ≡ shown W
shown-thin N W t = λ i. map (λ c. (c, view-thin N W t c i)) (clients-thin N W t i)

pub shown-counts : (A B : List Op) → CountsAs A B → shown A ≡ shown B
shown-counts A B h = sym (same_by_counts shown shown-thin A B h)

-- ---- gateways

-- what a gateway has taken is in its field
at-field : (field : Field) (j : ℕ) (gateway : Gateway) → slice_get field.gateways j ≡ Some gateway → (op : Op) → Contains gateway.taken op → Contains (everything field) op
at-field field j gateway e = set-there field gateway (contains-place field.gateways j gateway e)

-- what the gateway in this place has taken it has a run later
run-contains : (old new : Field) (events : List Event) (answers : List Answer) (i : ℕ) (gateway later : Gateway) → slice_get old.gateways i ≡ Some gateway → Run old events answers new → slice_get new.gateways i ≡ Some later
    → (op : Op) → Contains gateway.taken op → Contains later.taken op
run-contains old new events answers i gateway later here run place op h =
    let l = run-later old events answers new i gateway.taken run (later-now old.gateways i gateway here) in
    let is : later.taken ≡ gateway.taken ++ l.more = ap (λ (x : Gateway). x.taken) (same_Some later l.gateway (sym place ∙ l.place)) ∙ l.taken in
    subst (λ (S : List Op). Contains S op) (sym is) (Contains-append_left gateway.taken l.more op h)

-- a field is whole after an event, and a run that goes on from there
whole-after : (configs : List Config) (events more : List Event) (answers replies : List Answer) (old mid new : Field) (event : Event) (answer : Answer) → Run (new_field configs) events answers old → After old event answer mid → Run mid more replies new → WholeField new
whole-after configs events more answers replies old mid new event answer before h goes_on =
    field-whole configs (events ++ event ∷ more) (answers ++ answer ∷ replies) new (run_both (new_field configs) old new events (event ∷ more) answers (answer ∷ replies) before (mid, h, goes_on))

same-delta : (field : Field) (k : ℕ) (one other : List Op) → IsDeltaAt field k one → IsDeltaAt field k other → one ≡ other
same-delta field k one other h g = same_Some one other (sym h.1 ∙ g.1)

pub field-took : (configs : List Config) (events more : List Event) (answers replies : List Answer) (old mid new : Field) (number i k : ℕ) (gateway later : Gateway) (delta : List Op) (answer : Result (Arc Out Global) NodeFault) (out : Out)
    → Run (new_field configs) events answers old → IsAt old number i gateway → IsDeltaAt old k delta → After old (Take number k) (Node answer) mid → said answer ≡ Ok out → Run mid more replies new → slice_get new.gateways i ≡ Some later → Below delta later.taken
field-took configs events more answers replies old mid new number i k gateway later delta answer out before at there h says goes_on place =
    let e : h.0 ≡ i = same_Some h.0 i (sym h.5.0 ∙ at.0) in
    let same : h.4 ≡ delta = same-delta old k h.4 delta h.6 there in
    let step : TakeStep h.1 h.4 (Ok out) h.2 h.3 = subst (λ (r : Result Out Refusal). TakeStep h.1 h.4 r h.2 h.3) says h.7 in
    let here : slice_get mid.gateways h.0 ≡ Some h.2 = subst (λ (f : Field). slice_get f.gateways h.0 ≡ Some h.2) (sym h.8) (set-at h.0 old.gateways h.1 h.2 h.5.1) in
    let taken : h.2.taken ≡ h.1.taken ++ h.4 = ap (λ (x : Gateway). x.taken) step.3 in
    let whole = whole-after configs events more answers replies old mid new (Take number k) (Node answer) before h goes_on in
    below-within delta later.taken
    (parts-within new whole later.taken delta (at-field new i later place)
    (λ op inside.
    run-contains mid new more replies i h.2 later (subst (λ (n : ℕ). slice_get mid.gateways n ≡ Some h.2) e here) goes_on place op
    (subst (λ (S : List Op). Contains S op) (sym taken) (Contains-append_right h.1.taken h.4 op (subst (λ (D : List Op). Contains D op) (sym same) inside)))))

-- a gateway and a peer, and what that answered
record HasAsked (old mid : Field) (asker peer : Gateway) (out : Out) : Type 0 where
  made : List (List Op)
  step : AnswerStep asker peer (Ok out) made
  told : out.answer ≡ made
  mid_is : mid ≡ record old { deltas = old.deltas ++ made }

has-asked : (old mid : Field) (number other i j : ℕ) (asker peer : Gateway) (answer : Result (Arc Out Global) NodeFault) (out : Out) → IsAt old number i asker → IsAt old other j peer → After old (Asks number other) (Node answer) mid → said answer ≡ Ok out → HasAsked old mid asker peer out
has-asked old mid number other i j asker peer answer out at to h says =
    let e : h.0 ≡ i = same_Some h.0 i (sym h.5.0 ∙ at.0) in
    let f : h.1 ≡ j = same_Some h.1 j (sym h.6.0 ∙ to.0) in
    let one : h.2 ≡ asker = same_Some h.2 asker (sym h.5.1 ∙ ap (slice_get old.gateways) e ∙ at.1) in
    let two : h.3 ≡ peer = same_Some h.3 peer (sym h.6.1 ∙ ap (slice_get old.gateways) f ∙ to.1) in
    let said_so : AnswerStep h.2 h.3 (Ok out) h.4 = subst (λ (r : Result Out Refusal). AnswerStep h.2 h.3 r h.4) says h.7 in
    let step : AnswerStep asker peer (Ok out) h.4 = subst (λ (g : Gateway). AnswerStep asker g (Ok out) h.4) two (subst (λ (g : Gateway). AnswerStep g h.3 (Ok out) h.4) one said_so) in
    record { made = h.4; step = step; told = ap (λ (o : Out). o.answer) step.3; mid_is = h.8 }

-- with the answer a gateway counts, with all that the peer had, as it is
caught : (configs : List Config) (events more : List Event) (answers replies : List Answer) (old mid new : Field) (number other i j : ℕ) (asker peer later : Gateway) (answer : Result (Arc Out Global) NodeFault) (out : Out)
    → Run (new_field configs) events answers old → IsAt old number i asker → IsAt old other j peer → After old (Asks number other) (Node answer) mid → said answer ≡ Ok out → Run mid more replies new → slice_get new.gateways i ≡ Some later
    → Within (all_of out.answer) later.taken → CountsAs (later.taken ++ peer.taken) later.taken
caught configs events more answers replies old mid new number other i j asker peer later answer out before at to h says goes_on place within =
    let a = has-asked old mid number other i j asker peer answer out at to h says in
    caught-up configs events more answers replies old new number other i j asker peer later out a.made before at to a.step
    (subst (λ (f : Field). Run f more replies new) a.mid_is goes_on) place
    (subst (λ (ds : List (List Op)). Within (all_of ds) later.taken) a.told within)

-- what two gateways of a field have contradicts nothing
pair-consistent : (field : Field) → WholeField field → (i j : ℕ) (one other : Gateway) → slice_get field.gateways i ≡ Some one → slice_get field.gateways j ≡ Some other → (part : List Op) → ((op : Op) → Contains part op → Contains other.taken op) → IsConsistent (one.taken ++ part)
pair-consistent field whole i j one other here there part inside =
    parts-consistent field whole (one.taken ++ part) (λ op h. elim (Contains-append_cases one.taken part op h) [
      | inl own ↦ at-field field i one here op own
      | inr more ↦ at-field field j other there op (inside op more)
    ])

-- what was in the asked gateway's place in the field before is there after
asked-place : (old mid : Field) (asker peer : Gateway) (out : Out) → HasAsked old mid asker peer out → (i : ℕ) (gateway : Gateway) → slice_get old.gateways i ≡ Some gateway → slice_get mid.gateways i ≡ Some gateway
asked-place old mid asker peer out a i gateway here = subst (λ (f : Field). slice_get f.gateways i ≡ Some gateway) (sym a.mid_is) here

pub field-answered : (configs : List Config) (events more : List Event) (answers replies : List Answer) (old mid new : Field) (number other i j : ℕ) (asker peer later : Gateway) (answer : Result (Arc Out Global) NodeFault) (out : Out)
    → Run (new_field configs) events answers old → IsAt old number i asker → IsAt old other j peer → After old (Asks number other) (Node answer) mid → said answer ≡ Ok out → Run mid more replies new → slice_get new.gateways i ≡ Some later
    → Within (all_of out.answer) later.taken → Below peer.taken later.taken
field-answered configs events more answers replies old mid new number other i j asker peer later answer out before at to h says goes_on place within =
    let a = has-asked old mid number other i j asker peer answer out at to h says in
    let whole = whole-after configs events more answers replies old mid new (Asks number other) (Node answer) before h goes_on in
    let l = run-later mid more replies new j peer.taken goes_on (later-now mid.gateways j peer (asked-place old mid asker peer out a j peer to.1)) in
    below-behind peer.taken later.taken
    (pair-consistent new whole i j later l.gateway place l.place peer.taken (λ op inside. subst (λ (S : List Op). Contains S op) (sym l.taken) (Contains-append_left peer.taken l.more op inside)))
    (caught configs events more answers replies old mid new number other i j asker peer later answer out before at to h says goes_on place within)

pub field-exchanged : (configs : List Config) (events between more : List Event) (answers replies rest : List Answer) (first second third fourth last : Field) (number other i j : ℕ) (one two one_then two_then one_last two_last : Gateway)
    (answer reply : Result (Arc Out Global) NodeFault) (out back : Out)
    → Run (new_field configs) events answers first → IsAt first number i one → IsAt first other j two → After first (Asks number other) (Node answer) second → said answer ≡ Ok out → Run second between replies third
    → IsAt third number i one_then → IsAt third other j two_then → After third (Asks other number) (Node reply) fourth → said reply ≡ Ok back → Run fourth more rest last
    → slice_get last.gateways i ≡ Some one_last → slice_get last.gateways j ≡ Some two_last → Within (all_of out.answer) one_last.taken → Within (all_of back.answer) two_last.taken
    → ((op : Op) → Contains one_last.taken op → Contains one_then.taken op ⊎ Contains two_last.taken op) → ((op : Op) → Contains two_last.taken op → Contains two.taken op ⊎ Contains one_last.taken op)
    → CountsAs one_last.taken two_last.taken × (shown one_last.taken ≡ shown two_last.taken)
field-exchanged configs events between more answers replies rest first second third fourth last number other i j one two one_then two_then one_last two_last answer reply out back run at to asks says goes at_then to_then asks_back says_back ends one_place two_place one_within two_within ones twos =
    let later : Run second (between ++ Asks other number ∷ more) (replies ++ Node reply ∷ rest) last =
    run_both second third last between (Asks other number ∷ more) replies (Node reply ∷ rest) goes (fourth, asks_back, ends) in
    let until : Run (new_field configs) (events ++ Asks number other ∷ between) (answers ++ Node answer ∷ replies) third =
    run_both (new_field configs) first third events (Asks number other ∷ between) answers (Node answer ∷ replies) run (second, asks, goes) in
    let a = has-asked first second number other i j one two answer out at to asks says in
    let b = has-asked third fourth other number j i two_then one_then reply back to_then at_then asks_back says_back in
    let whole = whole-after configs (events ++ Asks number other ∷ between) more (answers ++ Node answer ∷ replies) rest third fourth last (Asks other number) (Node reply) until asks_back ends in
    let early : (op : Op) → Contains two.taken op → Contains two_last.taken op =
    run-contains second last (between ++ Asks other number ∷ more) (replies ++ Node reply ∷ rest) j two two_last (asked-place first second one two out a j two to.1) later two_place in
    let late : (op : Op) → Contains one_then.taken op → Contains one_last.taken op =
    run-contains fourth last more rest i one_then one_last (asked-place third fourth two_then one_then back b i one_then at_then.1) ends one_place in
    let counts : CountsAs one_last.taken two_last.taken =
    counts-alike one_last.taken two_last.taken two.taken one_then.taken
    (pair-consistent last whole i j one_last two_last one_place two_place two.taken early)
    (caught configs events (between ++ Asks other number ∷ more) answers (replies ++ Node reply ∷ rest) first second last number other i j one two one_last answer out run at to asks says later one_place one_within)
    (caught configs (events ++ Asks number other ∷ between) more (answers ++ Node answer ∷ replies) rest third fourth last other number j i two_then one_then two_last reply back until to_then at_then asks_back says_back ends two_place two_within)
    early late ones twos in
    (counts, shown-counts one_last.taken two_last.taken counts)

pub set-passes : (delta S T : List Op) → Below delta S → Below S T → Below delta T
set-passes = below-on
