-- What becomes of a row.
use Rattle.std.proofs.Common.{◌≡◌, ◌≤◌, ◌<◌, ◌+◌, ◌-◌, ℕ, zero, suc, true, All, Result, Option, IfSome, Some, None, is_some, true≢false, List, [], ◌∷◌, ◌++◌, length, map, take, drop, sym, refl, ap, ◌∙◌, subst, append-nil, arith}
use Rattle.std.proofs.lemmas.List.{take-append-drop, drop_all, take_all, length-drop, drop-map}
use Rattle.std.proofs.lemmas.List.Elements.{All-drop}
use Rattle.std.proofs.lemmas.Option.{same_Some}
use Rattle.gw_shift.specs.Calls.{Holder}
use Rattle.gw_shift.specs.Passes.{seen_by}
use Rattle.gw_serve.specs.declared.row.Called.{Called}
use Rattle.gw_serve.specs.declared.worker.Taken.{Taken}
use Rattle.gw_serve.specs.declared.worker.Trouble.{Trouble}
use Rattle.gw_serve.specs.declared.worker.Trouble.TheVariants as troubles
use Rattle.gw_serve.specs.inner.Handling.{IsHandled}
use Rattle.gw_answer.specs.declared.step.Step.{Step}
use Rattle.gw_answer.specs.declared.out.Out.{Out}
use Rattle.gw_answer.specs.declared.refusal.Refusal.{Refusal}
use Rattle.gw_shift.specs.Calling.{NoneMade, MadeInRow}
use Rattle.gw_shift.specs.declared.fault.CallFault.TheVariants as faults
use Rattle.gw_serve.specs.declared.row.End.TheVariants.{Failed}
use Rattle.gw_serve.specs.inner.Rows.{AreCalled, IsEnd, row_numbers_from}
use Rattle.gw_serve.specs.Serving.{is_frame, Gains}
use Rattle.gw_serve.proofs.Gaining.{gains_row, gains_more, only_memory, memory_is_not_behind}

abbrev taken_of : Called → Taken
taken_of c = c.taken

abbrev datagram_of : Taken → ℕ
datagram_of t = t.datagram

abbrev step_of : Taken → ℕ
step_of t = t.step

both_maps : (f : Taken → ℕ) (called : List Called) → map f (map taken_of called) ≡ map (λ (c : Called). f c.taken) called
both_maps f [] = refl
both_maps f (c ∷ called) = ap (λ (ns : List ℕ). f c.taken ∷ ns) (both_maps f called)

-- the first became calls, and the others are left; memory may have run out at the gateway
pub row_rest : (before : Holder) (numbers : List ℕ) (called : List Called) (taken all : List Taken) (left rest : List ℕ) (trouble : Option Trouble) (after : Holder) → IfSome trouble (λ t. t ≡ troubles.Memory)
    → AreCalled before numbers called after → all ≡ taken ++ map taken_of called → rest ≡ left ++ drop (length called) numbers → IsHandled before numbers taken left trouble all rest after
row_rest before numbers called taken all left rest trouble after only made noted kept =
    let more : List Taken = map taken_of called in
    let steps : Gains before (map step_of more) after =
    subst (λ (ns : List ℕ). Gains before ns after) (sym (both_maps step_of called)) made.gains in
    record {
      gains = (map step_of more, steps);
      done = λ none. (
        more,
        drop (length called) numbers,
        noted,
        kept,
        ap (λ (ns : List ℕ). ns ++ drop (length called) numbers) (both_maps datagram_of called ∙ made.datagrams) ∙ take-append-drop (length called) numbers,
        steps,
      );
      behind = λ e. absurd (only_memory trouble only e);
    }

-- all became calls
pub row_all : (before : Holder) (numbers : List ℕ) (called : List Called) (taken all : List Taken) (left : List ℕ) (trouble : Option Trouble) (after : Holder) → IfSome trouble (λ t. t ≡ troubles.Memory)
    → AreCalled before numbers called after → length called ≡ length numbers → all ≡ taken ++ map taken_of called → IsHandled before numbers taken left trouble all left after
row_all before numbers called taken all left trouble after only made whole noted =
    let none : drop (length called) numbers ≡ [] = drop_all (length called) numbers (omega (arith, whole)) in
    row_rest before numbers called taken all left left trouble after only made noted
    (sym (append-nil left) ∙ ap (λ (ns : List ℕ). left ++ ns) (sym none))

-- the worker must end
pub row_failed : (before : Holder) (numbers : List ℕ) (called : List Called) (taken all : List Taken) (left rest : List ℕ) (trouble : Trouble) (after : Holder)
    → AreCalled before numbers called after → (trouble ≡ troubles.Behind → 0 < seen_by after) → IsHandled before numbers taken left (Some trouble) all rest after
row_failed before numbers called taken all left rest trouble after made behind = record {
  gains = (map (λ (c : Called). c.taken.step) called, made.gains);
  done = λ none. absurd (true≢false (ap is_some none));
  behind = λ e. behind (same_Some trouble troubles.Behind e);
}

-- ---- why a row has no more calls

pub end_behind : (held count made : ℕ) (before after : Holder) → NoneMade before (faults.Behind held) after → IsEnd count made (Failed troubles.Behind) after
end_behind held count made before after h = λ e. let seen : seen_by after ≡ seen_by before = ap seen_by h.1 in let few = h.0 in omega (arith, seen, few)

pub end_memory : (count made : ℕ) (after : Holder) → IsEnd count made (Failed troubles.Memory) after
end_memory count made after = λ e. absurd (memory_is_not_behind e)

-- ---- calls that were made of what was left

take-none : {X : Type 0} (n : ℕ) → ◌≡◌ {A = List X} (take n []) []
take-none zero = refl
take-none (suc n) = refl

take-plus : {X : Type 0} (a n : ℕ) (xs : List X) → take a xs ++ take n (drop a xs) ≡ take (a + n) xs
take-plus zero n xs = let same : n ≡ zero + n = omega arith in ap (λ (k : ℕ). take k xs) same
take-plus (suc a) n [] = take-none n ∙ sym (take-none (suc a + n))
take-plus (suc a) n (x ∷ xs) = let same : suc (a + n) ≡ suc a + n = omega arith in ap (λ (ys : List _). x ∷ ys) (take-plus a n xs) ∙ ap (λ (k : ℕ). take k (x ∷ xs)) same

-- a slice from a place on is the list from there
pub slice_rest : {X : Type 0} (n : ℕ) (xs : List X) → take (length xs - n) (drop n xs) ≡ drop n xs
slice_rest n xs = let short = length-drop n xs in take_all (length xs - n) (drop n xs) (omega (arith, short))

-- these became calls too
pub called_on : (before pass after : Holder) (numbers : List ℕ) (steps : List Step) (answers : List (Result Out Refusal)) (number : ℕ) (old new : List Called) (n d : ℕ) → map (λ (c : Called). c.taken.datagram) old ≡ take (length old) numbers
    → Gains before (map (λ (c : Called). c.taken.step) old) pass → All (λ (step : Step). is_frame step ≡ true) steps → MadeInRow pass steps answers number after → n ≡ length answers → d ≡ length old → length new ≡ length old + n
    → map (λ (c : Called). c.taken.datagram) new ≡ map (λ (c : Called). c.taken.datagram) old ++ take n (drop d numbers) → map (λ (c : Called). c.taken.step) new ≡ map (λ (c : Called). c.taken.step) old ++ row_numbers_from number n
    → (map (λ (c : Called). c.taken.datagram) new ≡ take (length new) numbers) × Gains before (map (λ (c : Called). c.taken.step) new) after
called_on before pass after numbers steps answers number old new n d same gains frames made is at long datagrams stepped = (
  datagrams ∙ ap (λ (k : ℕ). map (λ (c : Called). c.taken.datagram) old ++ take n (drop k numbers)) at ∙ ap (λ (ns : List ℕ). ns ++ take n (drop (length old) numbers)) same
      ∙ take-plus (length old) n numbers ∙ ap (λ (k : ℕ). take k numbers) (sym long),
  subst (λ (ns : List ℕ). Gains before ns after) (sym (stepped ∙ ap (λ (k : ℕ). map (λ (c : Called). c.taken.step) old ++ row_numbers_from number k) is))
      (gains_more before pass after (map (λ (c : Called). c.taken.step) old) (row_numbers_from number (length answers)) gains (gains_row pass steps answers number after frames made)),
)

-- the frames that are left
pub frames_left : {X : Type 0} (value : X → Step) (n : ℕ) (xs : List X) → All (λ (step : Step). is_frame step ≡ true) (map value xs) → All (λ (step : Step). is_frame step ≡ true) (map value (take (length xs - n) (drop n xs)))
frames_left value n xs frames =
    subst (λ (ys : List Step). All (λ (step : Step). is_frame step ≡ true) ys) (drop-map value n xs ∙ ap (λ ys. map value ys) (sym (slice_rest n xs)))
    (All-drop (λ (step : Step). is_frame step ≡ true) n (map value xs) frames)

-- a list of no length is none
pub none_left : {X : Type 0} (n : ℕ) (xs : List X) → n ≡ 0 → n ≡ length xs → xs ≡ []
none_left n [] e is = refl
none_left n (x ∷ xs) e is = absurd (omega (arith, e, is))
