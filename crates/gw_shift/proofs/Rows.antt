-- Calls that are put into a row.
use Rattle.std.proofs.Common.{◌≡◌, ◌+◌, ℕ, List, [], ◌∷◌, ◌++◌, map, ap, ◌∙◌, sym, append_assoc, Result}
use Rattle.std.proofs.lemmas.List.{map-append}
use Rattle.std.specs.declared.sync.Arc.{Arc}
use Rattle.std.specs.declared.alloc.Global.{Global}
use Rattle.gw_answer.specs.Answers.{said}
use Rattle.gw_answer.specs.declared.fault.NodeFault.{NodeFault}
use Rattle.gw_answer.specs.declared.out.Out.{Out}
use Rattle.gw_answer.specs.declared.refusal.Refusal.{Refusal}
use Rattle.gw_answer.specs.declared.step.Step.{Step}
use Rattle.gw_shift.specs.Calls.{Call, Held}
use Rattle.gw_shift.specs.Passes.{held_as, held_from}
use Rattle.gw_shift.specs.inner.Passes.{call, calls_of}

-- what is told, with one answer more
pub told_more : (there now : List (Result (Arc Out Global) NodeFault)) (told : Result (Arc Out Global) NodeFault) (reply : Result Out Refusal)
    → now ≡ there ++ told ∷ [] → said told ≡ reply → map said now ≡ map said there ++ reply ∷ []
told_more there now told reply more is =
    ap (λ (xs : List (Result (Arc Out Global) NodeFault)). map said xs) more
    ∙ map-append said there (told ∷ [])
    ∙ ap (λ (r : Result Out Refusal). map said there ++ r ∷ []) is

-- one call more is an entry, and those that are left are the rest
pub entered_on : (place : ℕ) (there now : List Call) (step : Step) (reply : Result Out Refusal) (steps left : List Step) (replies rest : List (Result Out Refusal)) (whole : List Call)
    → steps ≡ step ∷ left → replies ≡ reply ∷ rest → now ≡ there ++ call place step reply ∷ [] → there ++ calls_of place steps replies ≡ whole
    → now ++ calls_of place left rest ≡ whole
entered_on place there now step reply steps left replies rest whole one other is all =
    ap (λ (xs : List Call). xs ++ calls_of place left rest) is
    ∙ append_assoc there (call place step reply ∷ []) (calls_of place left rest)
    ∙ ap (λ (ss : List Step). there ++ calls_of place ss (reply ∷ rest)) (sym one)
    ∙ ap (λ (rs : List (Result Out Refusal)). there ++ calls_of place steps rs) (sym other)
    ∙ all

-- the same of what the pass holds, under the next number
pub held_on : (number : ℕ) (there now : List Held) (step : Step) (reply : Result Out Refusal) (steps left : List Step) (replies rest : List (Result Out Refusal)) (whole : List Held)
    → steps ≡ step ∷ left → replies ≡ reply ∷ rest → now ≡ there ++ held_as number step reply ∷ [] → there ++ held_from number steps replies ≡ whole
    → now ++ held_from (number + 1) left rest ≡ whole
held_on number there now step reply steps left replies rest whole one other is all =
    ap (λ (xs : List Held). xs ++ held_from (number + 1) left rest) is
    ∙ append_assoc there (held_as number step reply ∷ []) (held_from (number + 1) left rest)
    ∙ ap (λ (ss : List Step). there ++ held_from number ss (reply ∷ rest)) (sym one)
    ∙ ap (λ (rs : List (Result Out Refusal)). there ++ held_from number steps rs) (sym other)
    ∙ all

-- and of what is told
pub told_on : (there now replies rest : List (Result Out Refusal)) (reply : Result Out Refusal) (whole : List (Result Out Refusal))
    → replies ≡ reply ∷ rest → now ≡ there ++ reply ∷ [] → there ++ replies ≡ whole → now ++ rest ≡ whole
told_on there now replies rest reply whole other is all =
    ap (λ (xs : List (Result Out Refusal)). xs ++ rest) is
    ∙ append_assoc there (reply ∷ []) rest
    ∙ ap (λ (rs : List (Result Out Refusal)). there ++ rs) (sym other)
    ∙ all
