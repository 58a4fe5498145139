-- The operations of a stamp, one after the other.
use Rattle.std.proofs.Common.{◌≡◌, ℕ, suc, ◌+◌, ◌-◌, ◌<◌, [], length, fold, Some, None, Option, refl, sym, ap, ◌∙◌, arith}
use Rattle.sn_session.specs.declared.session.Session.{Session}
use Rattle.sn_session.specs.declared.change.SessionOp.{SessionOp}
use Rattle.rep_model.specs.Views.{gapless, then_more, session_made, after_change}
use Rattle.rep_shared.specs.inner.Replays.{IsReplayed}

pub replayed_none : (at : ℕ → Option SessionOp) → IsReplayed at None 0
replayed_none at = record { prefix = omega arith; made = refl }

-- the operations from n on begin with the one at n
gapless_step : (at : ℕ → Option SessionOp) (n : ℕ) → n < 256 → gapless at (256 - n) n ≡ then_more (at n) (gapless at (256 - (n + 1)) (n + 1))
unfolding gapless
gapless_step at n h =
    let e : 256 - n ≡ suc (256 - (n + 1)) = omega arith in
    ap (λ room. gapless at room n) e

pub replayed_more : (at : ℕ → Option SessionOp) (session : Option Session) (n : ℕ) (change : SessionOp) → n < 256 → at n ≡ Some change → IsReplayed at session n → IsReplayed at (after_change session change) (n + 1)
replayed_more at session n change h is r =
    let rest = gapless at (256 - (n + 1)) (n + 1) in
    let e = gapless_step at n h ∙ ap (λ o. then_more o rest) is in
    let l : length (gapless at (256 - n) n) ≡ suc (length rest) = ap length e in
    record { prefix = omega (arith, r.prefix, l); made = r.made ∙ ap (fold after_change session) e }

pub replayed_gap : (at : ℕ → Option SessionOp) (session : Option Session) (n : ℕ) → n < 256 → at n ≡ None → IsReplayed at session n → (n ≡ length (gapless at 256 0)) × (session ≡ session_made (gapless at 256 0))
replayed_gap at session n h is r =
    let e = gapless_step at n h ∙ ap (λ o. then_more o (gapless at (256 - (n + 1)) (n + 1))) is in
    let l : length (gapless at (256 - n) n) ≡ 0 = ap length e in
    (omega (arith, r.prefix, l), sym (r.made ∙ ap (fold after_change session) e))

pub replayed_all : (at : ℕ → Option SessionOp) (session : Option Session) (n : ℕ) → n ≡ 256 → IsReplayed at session n → (n ≡ length (gapless at 256 0)) × (session ≡ session_made (gapless at 256 0))
unfolding gapless
replayed_all at session n is r =
    let none : gapless at (256 - n) n ≡ [] = ap (λ room. gapless at room n) (let z : 256 - n ≡ 0 = omega arith in z) in
    let l : length (gapless at (256 - n) n) ≡ 0 = ap length none in
    (omega (arith, r.prefix, l), sym (r.made ∙ ap (fold after_change session) none))
