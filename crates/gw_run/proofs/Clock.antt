-- What the clock adds to its pass.
use Rattle.std.proofs.Common.{◌≡◌, ◌∙◌, ℕ, Bool, true, false, Option, Some, None, Result, Ok, Err, refl, sym, inl, inr, subst, true≢false, IfOk, IfErr, MatchResult}
use Rattle.std.specs.Option.{is_some}
use Rattle.std.specs.declared.sync.Arc.{Arc}
use Rattle.std.specs.declared.alloc.Global.{Global}
use Rattle.gw_answer.specs.declared.step.Step.{Step}
use Rattle.gw_answer.specs.declared.step.Step.TheVariants as steps
use Rattle.gw_answer.specs.declared.out.Out.{Out}
use Rattle.gw_answer.specs.declared.fault.NodeFault.{NodeFault}
use Rattle.gw_answer.specs.declared.fault.NodeFault.TheVariants as node_faults
use Rattle.gw_answer.specs.declared.refusal.Refusal.{Refusal}
use Rattle.gw_answer.specs.declared.refusal.Refusal.TheVariants as refusals
use Rattle.gw_answer.specs.Answers.{refusal_of_fault, said}
use Rattle.gw_shift.specs.Calls.{Held, Holder}
use Rattle.gw_shift.specs.Calling.{Made, NotMade}
use Rattle.gw_shift.specs.declared.fault.CallFault.{CallFault}
use Rattle.gw_shift.specs.declared.fault.CallFault.TheVariants as faults
use Rattle.gw_link.specs.Adding.{AddsEach}
use Rattle.gw_link.specs.Calling.{CannotCall, says_halted}
use Rattle.gw_link.specs.declared.calling.End.{End}
use Rattle.gw_link.specs.declared.calling.End.TheVariants as ends
use Rattle.gw_link.proofs.Adding.{each_none, each_one, each_more}
use Rattle.gw_run.specs.Clock.{IsLiveTick, FindsHalted, OpensAs, ClockEndsAs, AddsOfClock}

-- nothing was called
pub clock_none : (before after : Holder) → after ≡ before → AddsOfClock before None after
clock_none before after same = (before, each_none IsLiveTick before before refl, same)

-- a call could not be made
pub clock_cannot : (before after : Holder) (end : End) → CannotCall end → after ≡ before → AddsOfClock before (Some end) after
clock_cannot before after end why same = (before, each_none IsLiveTick before before refl, inl (why, same))

-- ticks that ended nothing, and more after them
pub clock_later : (a b c : Holder) (end : Option End) → AddsOfClock a None b → AddsOfClock b end c → AddsOfClock a end c
clock_later a b c end x y = (
  y.0,
  each_more IsLiveTick a b y.0 (subst (λ (l : Holder). AddsEach IsLiveTick a l) (sym x.2) x.1) y.1,
  y.2,
)

-- a tick that did not find the gateway halted, and what ended after it
pub clock_tick : (before : Holder) (moment : ℕ) (answer : Result Out Refusal) (number : ℕ) (after : Holder) → says_halted answer ≡ false → Made before (steps.Tick moment) answer number after → AddsOfClock before None after
clock_tick before moment answer number after live made = (after, each_one IsLiveTick before (steps.Tick moment) answer number after (refl, live) made, refl)

-- such a tick, where the gateway wanted memory
pub clock_starved : (before : Holder) (moment : ℕ) (answer : Result Out Refusal) (number : ℕ) (after : Holder) (end : End) → says_halted answer ≡ false → Made before (steps.Tick moment) answer number after → end ≡ ends.Memory → AddsOfClock before (Some end) after
clock_starved before moment answer number after end live made is =
    (after, each_one IsLiveTick before (steps.Tick moment) answer number after (refl, live) made, inl (subst CannotCall (sym is) tt, refl))

-- a tick that found the gateway halted, and what came of it
pub clock_found : (before found after : Holder) (end : End) → FindsHalted before found → OpensAs found end after → AddsOfClock before (Some end) after
clock_found before found after end finds opens = (before, each_none IsLiveTick before before refl, inr (found, finds, opens))

-- the refusal that says so is one
pub halted_is : (fault : NodeFault) → says_halted (Err (refusal_of_fault fault)) ≡ true → refusal_of_fault fault ≡ refusals.Halted
halted_is (node_faults.Frame fault) is = absurd (true≢false (sym is))
halted_is node_faults.Halted is = refl
halted_is (node_faults.Disk out) is = absurd (true≢false (sym is))
halted_is (node_faults.Conflict client) is = absurd (true≢false (sym is))
halted_is node_faults.Full is = absurd (true≢false (sym is))
halted_is node_faults.Exhausted is = absurd (true≢false (sym is))
halted_is node_faults.Memory is = absurd (true≢false (sym is))
halted_is (node_faults.Journal fault) is = absurd (true≢false (sym is))

pub finds_halted : (before : Holder) (step : Step) (moment : ℕ) (fault : NodeFault) (number : ℕ) (after : Holder) → step ≡ steps.Tick moment → says_halted (Err (refusal_of_fault fault)) ≡ true → Made before step (Err (refusal_of_fault fault)) number after → FindsHalted before after
finds_halted before step moment fault number after is halted made =
    (moment, number, subst (λ (refusal : Refusal). Made before (steps.Tick moment) (Err refusal) number after) (halted_is fault halted) (subst (λ (s : Step). Made before s (Err (refusal_of_fault fault)) number after) is made))

-- the same where an answer of these calls is known

-- a call could not be made
pub clock_uncalled : {A : Type 0} (before after : Holder) (answered : Result A End) (end : End) → answered ≡ Err end → IfErr answered (λ (e : End). CannotCall e × (after ≡ before)) → AddsOfClock before (Some end) after
clock_uncalled {A} before after answered end is why =
    let known : CannotCall end × (after ≡ before) = subst (λ (r : Result A End). IfErr r (λ (e : End). CannotCall e × (after ≡ before))) is why in
    clock_cannot before after end known.0 known.1

-- ticks that ended nothing, and after them those of a call that gave something
pub clock_gave : {A : Type 0} (a b c : Holder) (ticked : Result A End) (gave : A) → ticked ≡ Ok gave → AddsOfClock a None b → MatchResult ticked (λ (_ : A). AddsOfClock b None c) (λ (e : End). AddsOfClock b (Some e) c) → AddsOfClock a None c
clock_gave {A} a b c ticked gave is x y =
    clock_later a b c None x (subst (λ (r : Result A End). MatchResult r (λ (_ : A). AddsOfClock b None c) (λ (e : End). AddsOfClock b (Some e) c)) is y)

-- and after them those of a call that ended it
pub clock_ended : {A : Type 0} (a b c : Holder) (ticked : Result A End) (end : End) → ticked ≡ Err end → AddsOfClock a None b → MatchResult ticked (λ (_ : A). AddsOfClock b None c) (λ (e : End). AddsOfClock b (Some e) c) → AddsOfClock a (Some end) c
clock_ended {A} a b c ticked end is x y =
    clock_later a b c (Some end) x (subst (λ (r : Result A End). MatchResult r (λ (_ : A). AddsOfClock b None c) (λ (e : End). AddsOfClock b (Some e) c)) is y)

-- ticks that ended nothing, and after them such as end nothing
pub clock_goes_on : (a b c : Holder) (end : Option End) → is_some end ≡ false → AddsOfClock a None b → AddsOfClock b end c → AddsOfClock a None c
clock_goes_on a b c None is x y = clock_later a b c None x y
clock_goes_on a b c (Some end) is x y = absurd (true≢false is)

-- a tick that was refused since the gateway is halted
pub finds_refused : (before : Holder) (step : Step) (moment : ℕ) (answered : Result (Result (Arc Out Global) NodeFault) End) (answer : Result (Arc Out Global) NodeFault) (fault : NodeFault) (after : Holder) → answered ≡ Ok answer → answer ≡ Err fault → step ≡ steps.Tick moment → says_halted (Err (refusal_of_fault fault)) ≡ true → IfOk answered (λ (answer : Result (Arc Out Global) NodeFault). (number : ℕ) × Made before step (said answer) number after) → FindsHalted before after
finds_refused before step moment answered answer fault after is refuses ticks halted made =
    let whole : answered ≡ Ok (Err fault) = subst (λ (a : Result (Arc Out Global) NodeFault). answered ≡ Ok a) refuses is in
    let known : (number : ℕ) × Made before step (Err (refusal_of_fault fault)) number after = subst (λ (r : Result (Result (Arc Out Global) NodeFault) End). IfOk r (λ (answer : Result (Arc Out Global) NodeFault). (number : ℕ) × Made before step (said answer) number after)) whole made in
    finds_halted before step moment fault known.0 after ticks halted known.1

-- a tick that was refused for want of memory
pub starved_refused : (before : Holder) (step : Step) (moment : ℕ) (answered : Result (Result (Arc Out Global) NodeFault) End) (answer : Result (Arc Out Global) NodeFault) (fault : NodeFault) (after : Holder) (end : End) → answered ≡ Ok answer → answer ≡ Err fault → step ≡ steps.Tick moment → says_halted (Err (refusal_of_fault fault)) ≡ false → end ≡ ends.Memory → IfOk answered (λ (answer : Result (Arc Out Global) NodeFault). (number : ℕ) × Made before step (said answer) number after) → AddsOfClock before (Some end) after
starved_refused before step moment answered answer fault after end is refuses ticks live memory made =
    let whole : answered ≡ Ok (Err fault) = subst (λ (a : Result (Arc Out Global) NodeFault). answered ≡ Ok a) refuses is in
    let known : (number : ℕ) × Made before step (Err (refusal_of_fault fault)) number after = subst (λ (r : Result (Result (Arc Out Global) NodeFault) End). IfOk r (λ (answer : Result (Arc Out Global) NodeFault). (number : ℕ) × Made before step (said answer) number after)) whole made in
    clock_starved before moment (Err (refusal_of_fault fault)) known.0 after end live (subst (λ (s : Step). Made before s (Err (refusal_of_fault fault)) known.0 after) ticks known.1) memory
