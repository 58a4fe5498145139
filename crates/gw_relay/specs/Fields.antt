-- Gateways, their links, and how a delta comes from one to another.
use Rattle.std.specs.Prelude.{◌≡◌, ℕ, ◌==◌, Bool, true, ◌&&◌, ◌||◌, not, List, [], ◌∷◌}
use Rattle.gw_relay.specs.Going.{is_among, goes_on}

-- the delta came to a gateway over the link of another
pub record Coming : Type 0 where
  pub who : ℕ
  pub giver : ℕ

-- whether a gateway has the delta, after these comings, the last one first: it made it, or it came
abbrev pub has : ℕ → List Coming → ℕ → Bool
has maker [] gateway = maker == gateway
has maker (t ∷ before) gateway = (t.who == gateway) || has maker before gateway

-- a link carries both ways
abbrev pub AreMutual : (ℕ → List ℕ) → Type 0
AreMutual links = (a b : ℕ) → is_among a (links b) ≡ is_among b (links a)

-- whether this coming makes the gateway send the delta to another: it is new to it, and goes on to
-- that one, which it is linked with
abbrev pub sends_on : (ℕ → List ℕ) → ℕ → List Coming → Coming → ℕ → Bool
sends_on links maker before t gateway =
    not (has maker before t.who)
    && (is_among gateway (links t.who) && goes_on t.giver gateway (links gateway))

-- whether one gateway has sent the delta to another: its maker sends it over each of its links
abbrev pub has_sent : (ℕ → List ℕ) → ℕ → List Coming → ℕ → ℕ → Bool
has_sent links maker [] from gateway = (maker == from) && is_among gateway (links from)
has_sent links maker (t ∷ before) from gateway =
    ((t.who == from) && sends_on links maker before t gateway)
    || has_sent links maker before from gateway

-- each coming is from one that had the delta then
abbrev pub IsRun : (ℕ → List ℕ) → ℕ → List Coming → Type 0
IsRun links maker [] = Unit {0}
IsRun links maker (t ∷ before) = (has maker before t.giver ≡ true) × IsRun links maker before

-- nothing is under way: each gateway that it was sent to has it
abbrev pub IsQuiet : (ℕ → List ℕ) → ℕ → List Coming → Type 0
IsQuiet links maker run =
    (from gateway : ℕ) → has_sent links maker run from gateway ≡ true
    → has maker run gateway ≡ true

-- each gateway of a way is linked with the one before it
abbrev pub IsPath : (ℕ → List ℕ) → ℕ → List ℕ → Type 0
IsPath links from [] = Unit {0}
IsPath links from (gateway ∷ rest) =
    (is_among gateway (links from) ≡ true) × IsPath links gateway rest
