-- what waits is sent one after the other
use Rattle.std.proofs.Common.{◌≡◌, ◌∙◌, ◌<◌, Bool, true, false, if◌then◌else◌, List, [], ◌∷◌, length, refl, sym, ap, subst, arith}
use Rattle.br_core.specs.declared.item.Item.{Item}
use Rattle.br_core.specs.declared.settings.Settings.{Settings}
use Rattle.br_core.specs.declared.state.Bridge.{Bridge}
use Rattle.br_core.specs.Sides.{has_window, sends, sent_along, item_sent}
use Rattle.br_core.specs.inner.Parts.{first_goes}
use Rattle.br_core.proofs.Walk.{sent-waiting}

chosen : {X : Type 0} (c : Bool) (x y : X) → c ≡ true → (if c then x else y) ≡ x
chosen true x y e = refl
chosen false x y e = cc

other : {X : Type 0} (c : Bool) (x y : X) → c ≡ false → (if c then x else y) ≡ y
other true x y e = cc
other false x y e = refl

-- after the first one has gone the rest is to be sent
pub one-gone : (settings : Settings) (item : Item) (more : List Item) (b new : Bridge) → b.waiting ≡ item ∷ more → has_window settings item.qos b.flight ≡ true
    → new ≡ item_sent item.qos item (record b { waiting = more }) → sends settings new ≡ sends settings b
one-gone settings item more b new there open_is e =
    let first : Bridge = item_sent item.qos item (record b { waiting = more }) in
    let whole : sent_along settings (item ∷ more) b ≡ sent_along settings more first = chosen (has_window settings item.qos b.flight) (sent_along settings more first) b open_is in
    let P : List Item → Type 0 = λ w. sent_along settings w first ≡ sent_along settings (item ∷ more) b in
    let Q : List Item → Type 0 = λ w. sends settings first ≡ sent_along settings w b in
    let R : Bridge → Type 0 = λ x. sends settings x ≡ sends settings b in
    subst R (sym e) (subst Q (sym there) (subst P (sym (sent-waiting item.qos item (record b { waiting = more }))) (sym whole)))

-- the same, if the first one goes
pub first-gone : (settings : Settings) (item : Item) (more : List Item) (b new : Bridge) → b.waiting ≡ item ∷ more → first_goes settings b.waiting b.flight ≡ true
    → new ≡ item_sent item.qos item (record b { waiting = more }) → sends settings new ≡ sends settings b
first-gone settings item more b new there goes e =
    one-gone settings item more b new there (subst (λ (w : List Item). first_goes settings w b.flight ≡ true) there goes) e

-- and fewer wait
pub fewer-wait : (item : Item) (more : List Item) (b new : Bridge) → b.waiting ≡ item ∷ more → new ≡ item_sent item.qos item (record b { waiting = more }) → length new.waiting < length b.waiting
fewer-wait item more b new there e =
    let rest : new.waiting ≡ more = ap (λ (x : Bridge). x.waiting) e ∙ sent-waiting item.qos item (record b { waiting = more }) in
    let P : List Item → Type 0 = λ w. length w < length b.waiting in
    let Q : List Item → Type 0 = λ w. length more < length w in
    let fewer : length more < length (item ∷ more) = omega arith in
    subst P (sym rest) (subst Q (sym there) fewer)

-- nothing is to be sent any more
stops-at : (settings : Settings) (w : List Item) (b : Bridge) → first_goes settings w b.flight ≡ false → sent_along settings w b ≡ b
stops-at settings [] b e = refl
stops-at settings (item ∷ more) b e = other (has_window settings item.qos b.flight) (sent_along settings more (item_sent item.qos item (record b { waiting = more }))) b e

pub stops : (settings : Settings) (b : Bridge) → first_goes settings b.waiting b.flight ≡ false → sends settings b ≡ b
stops settings b e = stops-at settings b.waiting b e
