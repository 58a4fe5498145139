-- The deltas that are handed on.
use Rattle.std.proofs.Common.{◌≡◌, ◌<◌, ◌≤◌, ◌+◌, ℕ, zero, suc, List, [], ◌∷◌, Option, Some, None, ◌-◌, ◌++◌, take, length, refl, sym, subst, ap, ◌∙◌, arith}
use Rattle.std.proofs.lemmas.List.{append_assoc}
use Rattle.std.specs.Arc.{arc_value}
use Rattle.std.specs.declared.sync.Arc.{Arc}
use Rattle.std.specs.declared.alloc.Global.{Global}
use Rattle.rep_op.specs.declared.op.Op.{Op}
use Rattle.gw_report.specs.declared.glimpse.Glimpse.{Glimpse}
use Rattle.gw_answer.specs.declared.out.Out.{Out}
use Rattle.gw_shift.specs.Calls.{Call}
use Rattle.gw_shift.specs.Passes.{Climb}
use Rattle.gw_shift.specs.inner.Passes.{delta_made, made_after, delta_noted, told_by}

-- a lower beginning does as well
climb_from : (least more : ℕ) (entries : List (ℕ × List Op)) → least ≤ more → Climb more entries → Climb least entries
climb_from least more [] low up = tt
climb_from least more (e ∷ entries) low up = (omega (arith, low, up.0), up.1)

noted_climbs : (before : ℕ) (made : Option (List Op)) (entries : List (ℕ × List Op)) → Climb (before + 1) entries → Climb before (delta_noted (before + 1) made entries)
noted_climbs before None entries up = climb_from before (before + 1) entries (omega arith) up
noted_climbs before (Some delta) entries up = (omega arith, up)

made_climbs : (before : ℕ) (calls : List Call) → Climb before (made_after before calls)
made_climbs before [] = tt
made_climbs before (c ∷ calls) = noted_climbs before (delta_made c.answer) (made_after (before + 1) calls) (made_climbs (before + 1) calls)

take_climbs : (most least : ℕ) (entries : List (ℕ × List Op)) → Climb least entries → Climb least (take most entries)
take_climbs zero least entries up = tt
take_climbs (suc most) least [] up = tt
take_climbs (suc most) least (e ∷ entries) up = (up.0, take_climbs most e.0 entries up.1)

pub taken_climbs : (most before : ℕ) (calls : List Call) → Climb before (take most (made_after before calls))
taken_climbs most before calls = take_climbs most before (made_after before calls) (made_climbs before calls)

noted_some : (number : ℕ) (made : Option (List Op)) (delta : List Op) (rest : List (ℕ × List Op)) → made ≡ Some delta → delta_noted number made rest ≡ (number, delta) ∷ rest
noted_some number made delta rest e = subst (λ m. delta_noted number m rest ≡ (number, delta) ∷ rest) (sym e) refl

noted_none : (number : ℕ) (made : Option (List Op)) (rest : List (ℕ × List Op)) → made ≡ None → delta_noted number made rest ≡ rest
noted_none number made rest e = subst (λ m. delta_noted number m rest ≡ rest) (sym e) refl

noted_on : (number : ℕ) (made : Option (List Op)) (xs ys : List (ℕ × List Op)) → delta_noted number made xs ++ ys ≡ delta_noted number made (xs ++ ys)
noted_on number None xs ys = refl
noted_on number (Some delta) xs ys = refl

-- a share more tells of its delta last
told_on : (all : List (ℕ × Arc Out Global)) (number : ℕ) (out : Arc Out Global) (delta : List Op) → (arc_value out).made ≡ Some delta
    → told_by (all ++ (number, out) ∷ []) ≡ told_by all ++ (number, delta) ∷ []
told_on [] number out delta made = noted_some number (arc_value out).made delta [] made
told_on (s ∷ all) number out delta made =
    ap (delta_noted s.0 (arc_value s.1).made) (told_on all number out delta made)
    ∙ sym (noted_on s.0 (arc_value s.1).made (told_by all) ((number, delta) ∷ []))

-- the next call made a delta, of which a share is taken
pub gathered : (all : List (ℕ × Arc Out Global)) (before room : ℕ) (entry : Call) (rest : List Call) (out : Arc Out Global) (delta : List Op) → (0 < room)
    → delta_made entry.answer ≡ Some delta → (arc_value out).made ≡ Some delta
    → told_by (all ++ (before + 1, out) ∷ []) ++ take (room - 1) (made_after (before + 1) rest) ≡ told_by all ++ take room (made_after before (entry ∷ rest))
gathered all before zero entry rest out delta some made shared = absurd (omega (arith, some))
gathered all before (suc room) entry rest out delta some made shared =
    let less : suc room - 1 ≡ room = omega arith in
    let later = made_after (before + 1) rest in
    ap (λ m. told_by (all ++ (before + 1, out) ∷ []) ++ take m later) less
    ∙ ap (λ xs. xs ++ take room later) (told_on all (before + 1) out delta shared)
    ∙ append_assoc (told_by all) ((before + 1, delta) ∷ []) (take room later)
    ∙ ap (λ xs. told_by all ++ take (suc room) xs) (sym (noted_some (before + 1) (delta_made entry.answer) delta later made))

-- the next call made none
pub passed_over : (all : List (ℕ × Arc Out Global)) (before room : ℕ) (entry : Call) (rest : List Call) → delta_made entry.answer ≡ None
    → told_by all ++ take room (made_after (before + 1) rest) ≡ told_by all ++ take room (made_after before (entry ∷ rest))
passed_over all before room entry rest none =
    ap (λ xs. told_by all ++ take room xs) (sym (noted_none (before + 1) (delta_made entry.answer) (made_after (before + 1) rest) none))

-- a delta more is copied
pub copied : (all : List (ℕ × List Op)) (share : ℕ × Arc Out Global) (rest : List (ℕ × Arc Out Global)) (delta : List Op) → (arc_value share.1).made ≡ Some delta
    → (all ++ (share.0, delta) ∷ []) ++ told_by rest ≡ all ++ told_by (share ∷ rest)
copied all share rest delta made =
    append_assoc all ((share.0, delta) ∷ []) (told_by rest)
    ∙ ap (λ xs. all ++ xs) (sym (noted_some share.0 (arc_value share.1).made delta (told_by rest) made))

-- at most so many
pub taken_few : (most : ℕ) (entries : List (ℕ × List Op)) → length (take most entries) ≤ most
taken_few zero entries = omega arith
taken_few (suc most) [] = omega arith
taken_few (suc most) (e ∷ entries) = omega (arith, taken_few most entries)

pub shown_few : (most : ℕ) (all : List Glimpse) → length (take most all) ≤ most
shown_few zero all = omega arith
shown_few (suc most) [] = omega arith
shown_few (suc most) (one ∷ all) = omega (arith, shown_few most all)
