-- A delta that is handed on reaches every gateway.
use Rattle.std.proofs.Common.{◌≡◌, ℕ, ◌==◌, Bool, true, false, ◌||◌, ◌&&◌, not, List, [], ◌∷◌, refl, sym, subst, ◌∙◌, true≢false, eqb-true, arith}
use Rattle.std.proofs.lemmas.Bool.{and_from}
use Rattle.std.proofs.lemmas.Bool.Decides.{nat_tests}
use Rattle.std.specs.List.{AllByRecursion}
use Rattle.gw_relay.specs.Going.{is_among, goes_on}
use Rattle.gw_relay.specs.Fields.{Coming, has, AreMutual, sends_on, has_sent, IsRun, IsQuiet, IsPath}

-- a test or its opposite
by_test : (P : Type 0) (b : Bool) → (b ≡ true → P) → (b ≡ false → P) → P
by_test P true h k = h refl
by_test P false h k = k refl

-- one of two tests
by_either : (P : Type 0) (a b : Bool) → (a || b) ≡ true → (a ≡ true → P) → (b ≡ true → P) → P
by_either P true b e h k = h refl
by_either P false b e h k = k e

or_first : (a b : Bool) → a ≡ true → (a || b) ≡ true
or_first true b e = refl
or_first false b e = absurd (true≢false (sym e))

or_second : (a b : Bool) → b ≡ true → (a || b) ≡ true
or_second true b e = refl
or_second false b e = e

not_false : (a : Bool) → a ≡ false → not a ≡ true
not_false true e = absurd (true≢false e)
not_false false e = refl

neither : (a b : Bool) → a ≡ false → b ≡ false → (not a && not b) ≡ true
neither a b e f = and_from (not a) (not b) (not_false a e) (not_false b f)

itself : (n : ℕ) → (n == n) ≡ true
itself n = grind (arith, nat_tests)

-- the maker has it
made_here : (maker : ℕ) (run : List Coming) → has maker run maker ≡ true
made_here maker [] = itself maker
made_here maker (t ∷ before) = or_second (t.who == maker) (has maker before maker) (made_here maker before)

module _ (links : ℕ → List ℕ) (maker : ℕ) (run : List Coming) (ways : AreMutual links) where
  -- whoever has the delta at some time: in the end each gateway has it that is linked with that one
  neighbours : (ts : List Coming) → IsRun links maker ts → ((g : ℕ) → has maker ts g ≡ true → has maker run g ≡ true) → ((from g : ℕ) → has_sent links maker ts from g ≡ true → has maker run g ≡ true) → (b : ℕ) → has maker ts b ≡ true → (g : ℕ) → is_among g (links b) ≡ true → has maker run g ≡ true
  neighbours [] is_run there comes b it g linked =
      comes b g (and_from (maker == b) (is_among g (links b)) it linked)
  neighbours (t ∷ before) is_run there comes b it g linked =
      let still : (h : ℕ) → has maker before h ≡ true → has maker run h ≡ true = λ h had. there h (or_second (t.who == h) (has maker before h) had) in
      let earlier : (a : ℕ) → has maker before a ≡ true → is_among g (links a) ≡ true → has maker run g ≡ true = λ a had near. neighbours before is_run.1 still (λ from h sent. comes from h (or_second ((t.who == from) && sends_on links maker before t h) (has_sent links maker before from h) sent)) a had g near in
      let giver : has maker before t.giver ≡ true = is_run.0 in
      by_test (has maker run g ≡ true) (has maker before b)
      (λ (had : has maker before b ≡ true). earlier b had linked)
      (λ (new : has maker before b ≡ false). by_either (has maker run g ≡ true) (t.who == b) (has maker before b) it
      (λ (who : (t.who == b) ≡ true).
      let same_one : t.who ≡ b = eqb-true t.who b who in
      by_test (has maker run g ≡ true) (t.giver == g)
      (λ (same : (t.giver == g) ≡ true). still g (subst (λ (x : ℕ). has maker before x ≡ true) (eqb-true t.giver g same) giver))
      (λ (other : (t.giver == g) ≡ false). by_test (has maker run g ≡ true) (is_among t.giver (links g))
      (λ (near : is_among t.giver (links g) ≡ true). earlier t.giver giver (ways g t.giver ∙ near))
      (λ (far : is_among t.giver (links g) ≡ false). comes t.who g
      (or_first ((t.who == t.who) && sends_on links maker before t g) (has_sent links maker before t.who g)
      (and_from (t.who == t.who) (sends_on links maker before t g) (itself t.who)
      (and_from (not (has maker before t.who)) (is_among g (links t.who) && goes_on t.giver g (links g))
      (not_false (has maker before t.who) (subst (λ (x : ℕ). has maker before x ≡ false) (sym same_one) new))
      (and_from (is_among g (links t.who)) (goes_on t.giver g (links g))
      (subst (λ (x : ℕ). is_among g (links x) ≡ true) (sym same_one) linked)
      (neither (t.giver == g) (is_among t.giver (links g)) other far))))))))
      (λ (had : has maker before b ≡ true). earlier b had linked))

  along : IsRun links maker run → IsQuiet links maker run → (from : ℕ) → has maker run from ≡ true → (way : List ℕ) → IsPath links from way → AllByRecursion (λ (gateway : ℕ). has maker run gateway ≡ true) way
  along is_run quiet from it [] path = tt
  along is_run quiet from it (g ∷ rest) path =
      let there : has maker run g ≡ true = neighbours run is_run (λ h had. had) quiet from it g path.0 in
      (there, along is_run quiet g there rest path.1)

pub reaches : (links : ℕ → List ℕ) (maker : ℕ) (run : List Coming) → AreMutual links → IsRun links maker run → IsQuiet links maker run → (way : List ℕ) → IsPath links maker way → AllByRecursion (λ (gateway : ℕ). has maker run gateway ≡ true) way
reaches links maker run ways is_run quiet way path = along links maker run ways is_run quiet maker (made_here maker run) way path
