-- Calls after those that a pass holds.
use Rattle.std.proofs.Common.{◌≡◌, List, [], ◌++◌, ap, append-nil, append_assoc}
use Rattle.gw_shift.specs.Calls.{Held, Holder}
use Rattle.gw_shift.specs.Passes.{with_calls}

-- no calls after what it held
pub with_none : (pass : Holder) → with_calls pass [] ≡ pass
with_none pass = ap (λ (calls : List Held). record { place = pass.place; opening = pass.opening; calls = calls }) (append-nil pass.calls)

-- calls, and calls after them
pub with_both : (pass : Holder) (xs ys : List Held) → with_calls (with_calls pass xs) ys ≡ with_calls pass (xs ++ ys)
with_both pass xs ys = ap (λ (calls : List Held). record { place = pass.place; opening = pass.opening; calls = calls }) (append_assoc pass.calls xs ys)
