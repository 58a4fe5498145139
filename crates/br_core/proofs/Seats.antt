-- one lane after the other
use Rattle.std.proofs.Common.{◌≡◌, ℕ, zero, suc, ◌+◌, ◌<◌, get_or, List, [], ◌∷◌, length, drop, Option, Some, Result, Ok, Err, OnOk, refl, sym, subst, arith}
use Rattle.std.specs.Prelude.{slice_get}
use Rattle.br_core.specs.declared.settings.LaneSettings.{LaneSettings}
use Rattle.br_core.specs.declared.settings.Settings.{Settings}
use Rattle.br_core.specs.declared.state.Bridge.{Bridge}
use Rattle.br_core.specs.declared.state.Lane.{Lane}
use Rattle.br_core.specs.Steps.{at_lane, lane_does, lanes_along}

split : (owns : List LaneSettings) (place : ℕ) → place < length owns → (own : LaneSettings) × (drop place owns ≡ own ∷ drop (place + 1) owns)
split [] place h = absurd (omega arith)
split (own ∷ more) zero h = (own, refl)
split (own ∷ more) (suc k) h =
    let deeper = split more k (omega arith) in
    let next : suc (k + 1) ≡ suc k + 1 = omega arith in
    let P : ℕ → Type 0 = λ n. drop k more ≡ deeper.0 ∷ drop n (own ∷ more) in
    (deeper.0, subst P next deeper.1)

-- after one lane the rest is left
pub next-lane : (owns : List LaneSettings) (place : ℕ) (settings : Settings) (f : ℕ → LaneSettings → Lane → Bridge → Bridge) (b new whole : Bridge) → place < length owns
    → new ≡ at_lane settings place (f place) b → lanes_along (drop place owns) place settings f b ≡ whole → lanes_along (drop (place + 1) owns) (place + 1) settings f new ≡ whole
next-lane owns place settings f b new whole h e before =
    let P : List LaneSettings → Type 0 = λ rest. lanes_along rest place settings f b ≡ whole in
    let Q : Bridge → Type 0 = λ after. lanes_along (drop (place + 1) owns) (place + 1) settings f after ≡ whole in
    subst Q (sym e) (subst P (split owns place h).1 before)

-- what a lane does that is there
pub at-lane-is : (settings : Settings) (place : ℕ) (f : LaneSettings → Lane → Bridge → Bridge) (b : Bridge) (own : LaneSettings) (lane : Lane)
    → slice_get settings.lanes place ≡ Some own → slice_get b.lanes place ≡ Some lane → f own lane b ≡ at_lane settings place f b
at-lane-is settings place f b own lane e there =
    let P : Option LaneSettings → Type 0 = λ o. f own lane b ≡ lane_does o (slice_get b.lanes place) f b in
    let Q : Option Lane → Type 0 = λ x. f own lane b ≡ lane_does (Some own) x f b in
    subst P (sym e) (subst Q (sym there) refl)

pub on-ok : {T E : Type 0} (r : Result T E) (A B : Type 0) → (A → B) → OnOk r A → OnOk r B
on-ok (Ok x) A B k h = k h
on-ok (Err e) A B k h = tt

at-index : {X : Type 0} (xs : List X) (k : ℕ) (x : X) → k < length xs → slice_get xs k ≡ Some (get_or xs k x)
at-index [] k x h = absurd (omega arith)
at-index (y ∷ ys) zero x h = refl
at-index (y ∷ ys) (suc k) x h = at-index ys k x (omega arith)

-- what a look-up in a copy of a list found is there
pub there-is : (X : Type 0) (xs copy : List X) (k : ℕ) (x : X) → copy ≡ xs → k < length copy → x ≡ get_or copy k x → slice_get xs k ≡ Some x
there-is X xs copy k x e h is =
    let P : List X → Type 0 = λ list. slice_get list k ≡ Some x in
    let Q : X → Type 0 = λ one. slice_get copy k ≡ Some one in
    subst P e (subst Q (sym is) (at-index copy k x h))
