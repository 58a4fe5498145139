-- Calls with one write are events one after the other.
use Rattle.std.proofs.Common.{◌≡◌, ◌⊎◌, ℕ, zero, suc, List, [], ◌∷◌, ◌++◌, map, set, slice_get, Some, Result, Ok, Err, refl, sym, ap, ◌∙◌, subst, inl, inr, arith}
use Rattle.std.specs.List.{AllByRecursion}
use Rattle.std.specs.declared.alloc.Global.{Global}
use Rattle.std.specs.declared.sync.Arc.{Arc}
use Rattle.std.proofs.lemmas.Option.{none-some, same_Some}
use Rattle.rep_model.proofs.Joins.{all-right}
use Rattle.rep_op.specs.declared.op.Op.{Op}
use Rattle.gw_answer.specs.declared.out.Out.{Out}
use Rattle.gw_answer.specs.declared.fault.NodeFault.{NodeFault}
use Rattle.gw_answer.specs.declared.refusal.Refusal.{Refusal}
use Rattle.gw_answer.specs.declared.refusal.Refusal.TheVariants as refusals
use Rattle.gw_answer.specs.Answers.{said}
use Rattle.gw_event.specs.Gateways.{Gateway}
use Rattle.gw_event.specs.Together.{halted_all, AreAlike}
use Rattle.gw_event.proofs.Turns.{together_told}
use Rattle.gw_node.specs.Failures.{failed}
use Rattle.gw_world.specs.declared.event.Event.{Event}
use Rattle.gw_world.specs.declared.event.Event.TheVariants.{Together as AtOnce}
use Rattle.gw_world.specs.declared.event.Call.{Call}
use Rattle.gw_world.specs.declared.event.Call.TheVariants as calls
use Rattle.gw_world.specs.declared.event.Answer.{Answer}
use Rattle.gw_world.specs.declared.event.Answer.TheVariants.{Node, Row}
use Rattle.gw_world.specs.Field.{Field, field_changed, TogetherAt, After, Run, by_itself, AreFieldsAlike}
use Rattle.gw_world.proofs.InRows.{Answers, CallAt, InCalls, CutShort, in-calls, turn-fed, row-moves}

one-event : (old new : Field) (number : ℕ) (call : Call) (answer : Result (Arc Out Global) NodeFault) → CallAt old number call (said answer) new → After old (by_itself number call) (Node answer) new
one-event old new number (calls.Frame from bytes now) answer h = h
one-event old new number (calls.Tick now) answer h = h
one-event old new number (calls.Take delta) answer h = h

pub calls-run : (old new : Field) (number : ℕ) (called : List Call) (answers : List (Result (Arc Out Global) NodeFault)) → InCalls old number called (map said answers) new → Run old (map (by_itself number) called) (map Node answers) new
calls-run old new number [] [] h = h
calls-run old new number (call ∷ called) (answer ∷ answers) h = (h.0, one-event old h.0 number call answer h.1, calls-run h.0 new number called answers h.2)
calls-run old new number [] (answer ∷ answers) h = absurd h
calls-run old new number (call ∷ called) [] h = absurd h

-- where none is told that the disk failed, none did
never-short : (old new : Field) (number : ℕ) (called : List Call) (answers : Answers) → AllByRecursion (λ answer. failed answer ≡ 0) answers → CutShort old number called answers new → ⊥
never-short old new number called answers none c =
    let last = all-right (λ (answer : Result Out Refusal). failed answer ≡ 0) c.said (c.answer ∷ halted_all c.steps_behind) (subst (λ (xs : Answers). AllByRecursion (λ answer. failed answer ≡ 0) xs) c.answers_are none) in
    let zero_one : 1 ≡ 0 = sym (ap failed c.torn.told) ∙ last.0 in
    absurd (omega (arith, zero_one))

pub row-went : (old new : Field) (number : ℕ) (called : List Call) (answers : List (Result (Arc Out Global) NodeFault)) → After old (AtOnce number called) (Row answers) new → AllByRecursion (λ answer. failed answer ≡ 0) (map said answers)
    → Run old (map (by_itself number) called) (map Node answers) new
row-went old new number called answers h none =
    elim (row-moves old new number called (map said answers) h) [
      | inl c ↦ calls-run old new number called answers c
      | inr c ↦ absurd (never-short old new number called (map said answers) none c)
    ]

same-alike : (g : Gateway) → AreAlike g g
same-alike g = record { config = refl; taken = refl; local = refl }

places-alike : (gs : List Gateway) (j : ℕ) (g h : Gateway) → slice_get gs j ≡ Some g → slice_get gs j ≡ Some h → AreAlike g h
places-alike gs j g h e f = subst (λ (x : Gateway). AreAlike g x) (same_Some g h (sym e ∙ f)) (same-alike g)

set-alike : (gs : List Gateway) (i : ℕ) (a b : Gateway) → AreAlike a b → (j : ℕ) (g h : Gateway) → slice_get (set gs i a) j ≡ Some g → slice_get (set gs i b) j ≡ Some h → AreAlike g h
set-alike [] i a b alike j g h e f = absurd (none-some g e)
set-alike (x ∷ gs) zero a b alike zero g h e f = subst (λ (y : Gateway). AreAlike y h) (same_Some a g e) (subst (λ (y : Gateway). AreAlike a y) (same_Some b h f) alike)
set-alike (x ∷ gs) zero a b alike (suc j) g h e f = places-alike gs j g h e f
set-alike (x ∷ gs) (suc i) a b alike zero g h e f = subst (λ (y : Gateway). AreAlike y h) (same_Some x g e) (subst (λ (y : Gateway). AreAlike x y) (same_Some x h f) (same-alike x))
set-alike (x ∷ gs) (suc i) a b alike (suc j) g h e f = set-alike gs i a b alike j g h e f

pub row-told : (old new : Field) (number : ℕ) (called : List Call) (answers : List (Result (Arc Out Global) NodeFault)) → After old (AtOnce number called) (Row answers) new
    → (alone : Field) × Run old (map (by_itself number) called) (map Node answers) alone × AreFieldsAlike alone new
row-told old new number called answers h =
    let told = together_told h.1 h.2 h.4 (map said answers) h.3 h.7 in
    let all = in-calls old number h.0 h.1 told.0 called h.4 (map said answers) h.3 h.5 h.6 (turn-fed h.1 told.0 h.4 (map said answers) h.3 h.8 told.1) in
    let alone : Field = field_changed old h.0 told.0 h.3 in
    let alike : AreFieldsAlike alone (field_changed old h.0 h.2 h.3) = record { deltas = refl; gateways = λ i g same e f. set-alike old.gateways h.0 told.0 h.2 told.2 i g same e f } in
    (alone, calls-run old alone number called answers all.0, subst (λ (f : Field). AreFieldsAlike alone f) (sym h.9) alike)
