-- What becomes of the datagrams of a row.
use Rattle.std.specs.Prelude.{◌≡◌, ◌<◌, ◌++◌, ℕ, List, Option, Some, None, map}
use Rattle.gw_shift.specs.Calls.{Holder}
use Rattle.gw_shift.specs.Passes.{seen_by}
use Rattle.gw_serve.specs.declared.worker.Taken.{Taken}
use Rattle.gw_serve.specs.declared.worker.Trouble.{Trouble}
use Rattle.gw_serve.specs.declared.worker.Trouble.TheVariants as troubles
use Rattle.gw_serve.specs.Serving.{Gains}

-- What a row of these numbers adds to the pass of its worker, and to what was taken and left. With
-- no trouble the first of them became calls, which the pass gained, and the others are left. A pass
-- that is said to be behind has seen a number.
pub record IsHandled (before : Holder) (numbers : List ℕ) (taken : List Taken) (left : List ℕ)
    (trouble : Option Trouble) (all : List Taken) (rest : List ℕ) (after : Holder) : Type 0 where
  pub gains : (steps : List ℕ) × Gains before steps after
  pub done : trouble ≡ None → (more : List Taken) × (others : List ℕ) × (all ≡ taken ++ more)
      × (rest ≡ left ++ others) × (map (λ (t : Taken). t.datagram) more ++ others ≡ numbers)
      × Gains before (map (λ (t : Taken). t.step) more) after
  pub behind : trouble ≡ Some troubles.Behind → 0 < seen_by after
