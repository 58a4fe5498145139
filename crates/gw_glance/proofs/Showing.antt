-- One client after the other at a glance.
use Rattle.std.proofs.Common.{◌≡◌, ◌<◌, ◌≤◌, ℕ, zero, suc, Bool, true, false, List, [], ◌∷◌, ◌-◌, ◌++◌, take, length, if◌then◌else◌, refl, sym, subst, ap, ◌∙◌, arith}
use Rattle.std.proofs.lemmas.List.{append_assoc}
use Rattle.rep_model.specs.declared.view.ClientView.{ClientView}
use Rattle.sn_local.specs.Locals.{Local}
use Rattle.sn_local.specs.Seen.{Seen}
use Rattle.gw_report.specs.declared.glimpse.Glimpse.{Glimpse}
use Rattle.gw_glance.specs.Glimpses.{glimpse_of}
use Rattle.gw_glance.specs.Glancing.{is_above, glimpses}

-- what an `if` is whose test is known
then_is : {A : Type 0} (b : Bool) (x y : A) → b ≡ true → (if b then x else y) ≡ x
then_is b x y e = subst (λ (it : Bool). (if it then x else y) ≡ x) (sym e) refl

else_is : {A : Type 0} (b : Bool) (x y : A) → b ≡ false → (if b then x else y) ≡ y
else_is b x y e = subst (λ (it : Bool). (if it then x else y) ≡ y) (sym e) refl

-- one more, of those for which there is room
taken : (all : List Glimpse) (one : Glimpse) (rest : List Glimpse) (room : ℕ) → 0 < room
    → (all ++ one ∷ []) ++ take (room - 1) rest ≡ all ++ take room (one ∷ rest)
taken all one rest zero some = absurd (omega (arith, some))
taken all one rest (suc room) some =
    let less : suc room - 1 ≡ room = omega arith in
    ap (λ m. (all ++ one ∷ []) ++ take m rest) less
    ∙ append_assoc all (one ∷ []) (take room rest)

-- the next client is above, and is shown
pub shown : (g : ℕ) (seen : Seen) (local : Local) (above c : List ℕ) (rest : List (List ℕ)) (all : List Glimpse) (room : ℕ) → 0 < room → is_above above c ≡ true
    → (all ++ glimpse_of g local c (seen.of c) ∷ []) ++ take (room - 1) (glimpses g seen local above rest)
    ≡ all ++ take room (glimpses g seen local above (c ∷ rest))
shown g seen local above c rest all room some is =
    let later = glimpses g seen local above rest in
    let one = glimpse_of g local c (seen.of c) in
    taken all one later room some
    ∙ ap (λ (xs : List Glimpse). all ++ take room xs) (sym (then_is (is_above above c) (one ∷ later) later is))

-- it is shown at the end of those that were, as it was looked up
pub goes_on : (g : ℕ) (seen : Seen) (local : Local) (above c : List ℕ) (view : ClientView) (left rest : List (List ℕ)) (all before after : List Glimpse) (one : Glimpse) (room : ℕ) (total : List Glimpse)
    → 0 < room → is_above above c ≡ true → view ≡ seen.of c → one ≡ glimpse_of g local c view → left ≡ c ∷ rest → after ≡ before ++ one ∷ [] → before ≡ all
    → all ++ take room (glimpses g seen local above left) ≡ total
    → after ++ take (room - 1) (glimpses g seen local above rest) ≡ total
goes_on g seen local above c view left rest all before after one room total some is viewed made next pushed kept invariant =
    let later = glimpses g seen local above rest in
    let same : one ≡ glimpse_of g local c (seen.of c) = made ∙ ap (glimpse_of g local c) viewed in
    ap (λ (xs : List Glimpse). xs ++ take (room - 1) later) (pushed ∙ ap (λ (xs : List Glimpse). xs ++ one ∷ []) kept ∙ ap (λ (x : Glimpse). all ++ x ∷ []) same)
    ∙ shown g seen local above c rest all room some is
    ∙ ap (λ (xs : List (List ℕ)). all ++ take room (glimpses g seen local above xs)) (sym next)
    ∙ invariant

-- the next client is not, and is passed over
pub passed_over : (g : ℕ) (seen : Seen) (local : Local) (above c : List ℕ) (rest : List (List ℕ)) (all : List Glimpse) (room : ℕ) → is_above above c ≡ false
    → all ++ take room (glimpses g seen local above rest) ≡ all ++ take room (glimpses g seen local above (c ∷ rest))
passed_over g seen local above c rest all room is =
    let later = glimpses g seen local above rest in
    let one = glimpse_of g local c (seen.of c) in
    ap (λ (xs : List Glimpse). all ++ take room xs) (sym (else_is (is_above above c) (one ∷ later) later is))
