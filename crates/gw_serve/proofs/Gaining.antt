-- What steps add to a pass.
use Rattle.std.proofs.Common.{eqb-true, false, ◌==◌, ◌≡◌, ◌<◌, ◌≤◌, ◌+◌, ℕ, Result, true, All, List, [], ◌∷◌, ◌++◌, length, map, Option, IfSome, Some, None, is_some, inl, inr, true≢false, sym, refl, ap, ◌∙◌, subst, append-nil, arith}
use Rattle.std.proofs.lemmas.List.{map-append}
use Rattle.std.proofs.lemmas.Option.{same_Some, none-some}
use Rattle.std.proofs.lemmas.List.Elements.{All-append, All-cons, All-head, All-nil, All-tail}
use Rattle.gw_shift.specs.Calls.{Held, Holder}
use Rattle.gw_answer.specs.declared.step.Step.{Step}
use Rattle.gw_answer.specs.declared.out.Out.{Out}
use Rattle.gw_answer.specs.declared.refusal.Refusal.{Refusal}
use Rattle.gw_shift.specs.Passes.{held_as, held_from, seen_by, with_calls}
use Rattle.gw_shift.specs.Calling.{MadeInRow}
use Rattle.gw_serve.specs.declared.worker.Trouble.{Trouble}
use Rattle.gw_serve.specs.declared.worker.Trouble.TheVariants as troubles
use Rattle.gw_serve.specs.declared.worker.Seat.{Seat}
use Rattle.gw_serve.specs.declared.worker.Taken.{Taken}
use Rattle.gw_serve.specs.declared.queue.Datagram.{Datagram}
use Rattle.gw_serve.specs.declared.queue.Hand.{Hand}
use Rattle.atomic_table.specs.declared.badge.Badge.{Badge}
use Rattle.crossbeam_channel.specs.declared.flavors.array.Rows.{Rows}
use Rattle.crossbeam_channel.specs.declared.flavors.array.Key.{Key}
use Rattle.crossbeam_channel.specs.declared.flavors.array.Doing.{Doing}
use Rattle.crossbeam_channel.specs.Claims.{view, IsSeatAt}
use Rattle.gw_serve.specs.Count.{weigh}
use Rattle.gw_serve.specs.inner.Queue.{hand}
use Rattle.gw_serve.specs.Serving.{is_frame, Gains, HaveSeen}
use Rattle.gw_serve.specs.inner.Handling.{IsHandled}
use Rattle.gw_serve.specs.inner.Rows.{TakesNumbers, row_numbers_from}
use Rattle.gw_serve.specs.inner.Work.{IsWorked, IsWorking}
use Rattle.gw_serve.proofs.Balance.{weigh-append}
use Rattle.gw_shift.proofs.Gained.{with_none, with_both}

pub gains_none : (before after : Holder) → after ≡ before → Gains before [] after
gains_none before after e = ([], e ∙ sym (with_none before), refl, All-nil (λ (m : Held). is_frame m.step ≡ true))

-- the calls of datagrams that a pass holds
frames_held : (number : ℕ) (steps : List Step) (answers : List (Result Out Refusal)) → All (λ (step : Step). is_frame step ≡ true) steps
    → All (λ (m : Held). is_frame m.step ≡ true) (held_from number steps answers)
frames_held number steps [] are = All-nil (λ (m : Held). is_frame m.step ≡ true)
frames_held number [] (a ∷ answers) are = All-nil (λ (m : Held). is_frame m.step ≡ true)
frames_held number (s ∷ steps) (a ∷ answers) are =
    All-cons
    (λ (m : Held). is_frame m.step ≡ true)
    (held_as number s a)
    (held_from (number + 1) steps answers)
    (All-head (λ (step : Step). is_frame step ≡ true) s steps are)
    (frames_held (number + 1) steps answers (All-tail (λ (step : Step). is_frame step ≡ true) s steps are))

-- their numbers
numbers_held : (number : ℕ) (steps : List Step) (answers : List (Result Out Refusal)) → length answers ≤ length steps
    → map (λ (m : Held). m.number) (held_from number steps answers) ≡ row_numbers_from number (length answers)
numbers_held number steps [] few = refl
numbers_held number [] (a ∷ answers) few = absurd (omega (arith, few))
numbers_held number (s ∷ steps) (a ∷ answers) few = ap (λ (ns : List ℕ). number ∷ ns) (numbers_held (number + 1) steps answers (omega (arith, few)))

-- what calls in a row add
pub gains_row : (before : Holder) (steps : List Step) (answers : List (Result Out Refusal)) (n : ℕ) (after : Holder) → All (λ (step : Step). is_frame step ≡ true) steps
    → MadeInRow before steps answers n after → Gains before (row_numbers_from n (length answers)) after
gains_row before steps answers n after frames made =
    (held_from n steps answers, made.holds, numbers_held n steps answers made.few, frames_held n steps answers frames)

pub gains_more : (a b c : Holder) (s t : List ℕ) → Gains a s b → Gains b t c → Gains a (s ++ t) c
gains_more a b c s t x y = (
  x.0 ++ y.0,
  y.1 ∙ ap (λ (l : Holder). with_calls l y.0) x.1 ∙ with_both a x.0 y.0,
  map-append (λ (m : Held). m.number) x.0 y.0 ∙ ap (λ (l : List ℕ). l ++ map (λ (m : Held). m.number) y.0) x.2 ∙ ap (λ (l : List ℕ). s ++ l) y.2,
  All-append (λ (m : Held). is_frame m.step ≡ true) x.0 y.0 x.3 y.3,
)

pub memory_is_not_behind : troubles.Memory ≡ troubles.Behind → ⊥
memory_is_not_behind e = cc

-- a pass that comes back keeps what it has seen
pub seen_more : (ps qs : List Holder) → HaveSeen ps → HaveSeen (ps ++ qs)
seen_more [] qs h = absurd h
seen_more (p ∷ ps) qs (inl h) = inl h
seen_more (p ∷ ps) qs (inr h) = inr (seen_more ps qs h)

pub seen_last : (ps : List Holder) (p : Holder) → 0 < seen_by p → HaveSeen (ps ++ p ∷ [])
seen_last [] p h = inl h
seen_last (q ∷ ps) p h = inr (seen_last ps p h)

-- what is not there, and a want of memory, are no pass behind
pub none_behind : None ≡ Some troubles.Behind → ⊥
none_behind e = none-some troubles.Behind e

pub memory_behind : Some troubles.Memory ≡ Some troubles.Behind → ⊥
memory_behind e = memory_is_not_behind (same_Some troubles.Memory troubles.Behind e)

pub only_memory : (trouble : Option Trouble) → IfSome trouble (λ t. t ≡ troubles.Memory) → trouble ≡ Some troubles.Behind → ⊥
only_memory None h e = none_behind e
only_memory (Some t) h e = memory_is_not_behind (sym h ∙ same_Some t troubles.Behind e)

-- the same under other names
pub kept : (before : Holder) (v v' : Hand) (t t' : List Taken) (l l' : List ℕ) (pass : Holder) → v' ≡ v → t' ≡ t → l' ≡ l → IsWorking before v t l pass → IsWorking before v' t' l' pass
kept before v v' t t' l l' pass a b d was =
    subst (λ (x : Hand). IsWorking before x t' l' pass) (sym a) (subst (λ (x : List Taken). IsWorking before v x l' pass) (sym b) (subst (λ (x : List ℕ). IsWorking before v t x pass) (sym d) was))

-- two tests
pub is_zero : (n : ℕ) → true ≡ (n == 0) → n ≡ 0
is_zero n e = eqb-true n 0 (sym e)

pub none_of : (o : Option Trouble) → is_some o ≡ false → o ≡ None
none_of None e = refl
none_of (Some trouble) e = absurd (true≢false e)

-- what a row of numbers does to a seat
pub handled : (before : Holder) (v w : Hand) (t t' : List Taken) (l l' numbers : List ℕ) (pass after : Holder) → IsWorking before v t l pass → TakesNumbers v numbers w
    → IsHandled pass numbers t l None t' l' after → IsWorking before w t' l' after
handled before v w t t' l l' numbers pass after was is row =
    let done = row.done refl in
    let more : List Taken = done.0 in
    let others : List ℕ = done.1 in
    record {
      part = ap (λ (u : Hand). u.parts) is ∙ was.part;
      unsent = ap (λ (u : Hand). u.sent) is ∙ was.unsent;
      gains = subst (λ (xs : List ℕ). Gains before xs after)
          (sym (ap (λ (us : List Taken). map (λ (u : Taken). u.step) us) done.2 ∙ map-append (λ (u : Taken). u.step) t more))
          (gains_more before pass after (map (λ (u : Taken). u.step) t) (map (λ (u : Taken). u.step) more) was.gains done.5);
      numbers = λ h.
          let a : weigh h w.taken ≡ weigh h (v.taken ++ numbers) = ap (λ (u : Hand). weigh h u.taken) is in
          let b = weigh-append h v.taken numbers in
          let d : weigh h numbers ≡ weigh h (map (λ (u : Taken). u.datagram) more ++ others) = ap (weigh h) (sym done.4) in
          let e = weigh-append h (map (λ (u : Taken). u.datagram) more) others in
          let f : weigh h (map (λ (u : Taken). u.datagram) t') ≡ weigh h (map (λ (u : Taken). u.datagram) t ++ map (λ (u : Taken). u.datagram) more) =
          ap (weigh h) (ap (λ (us : List Taken). map (λ (u : Taken). u.datagram) us) done.2 ∙ map-append (λ (u : Taken). u.datagram) t more) in
          let g = weigh-append h (map (λ (u : Taken). u.datagram) t) (map (λ (u : Taken). u.datagram) more) in
          let k : weigh h l' ≡ weigh h (l ++ others) = ap (weigh h) done.3 in
          let m = weigh-append h l others in
          let n = was.numbers h in
          omega arith;
    }

-- a row of no numbers does nothing to it
pub no_numbers : (before : Holder) (v w : Hand) (t t' : List Taken) (l l' numbers : List ℕ) (pass : Holder) → IsWorking before v t l pass → TakesNumbers v numbers w → numbers ≡ []
    → t' ≡ t → l' ≡ l → IsWorking before w t' l' pass
no_numbers before v w t t' l l' numbers pass was is none same alike =
    let still : w ≡ v =
    is ∙ ap (λ (xs : List ℕ). hand v.parts v.sent (v.taken ++ xs)) none ∙ ap (λ (xs : List ℕ). hand v.parts v.sent xs) (append-nil v.taken) in
    kept before v w t t' l l' pass still same alike was

-- nothing was done
pub fresh : (before pass : Holder) (v : Hand) (taken : List Taken) (left : List ℕ) → v ≡ hand 1 [] [] → pass ≡ before → taken ≡ [] → left ≡ [] → IsWorking before v taken left pass
fresh before pass v taken left is same no_taken no_left =
    record {
      part = ap (λ (u : Hand). u.parts) is;
      unsent = ap (λ (u : Hand). u.sent) is;
      gains = subst (λ (l : List Taken). Gains before (map (λ (u : Taken). u.step) l) pass) (sym no_taken) (gains_none before pass same);
      numbers = λ h.
          let a : weigh h v.taken ≡ 0 = ap (λ (u : Hand). weigh h u.taken) is in
          let b : weigh h (map (λ (u : Taken). u.datagram) taken) ≡ 0 = ap (λ (l : List Taken). weigh h (map (λ (u : Taken). u.datagram) l)) no_taken in
          let d : weigh h left ≡ 0 = ap (weigh h) no_left in
          omega arith;
    }

module _ {Q M L A : Type 0} (c : Rows (Badge (Key Datagram)) (Doing Datagram Hand) Q M (Key Datagram) L A) where
  pub worked : (before : Holder) (seat : Seat) → IsSeatAt c seat.ticket → IsWorking before (view seat.ticket) seat.taken.items seat.left.items seat.pass → (seat.fault ≡ Some troubles.Behind → ⊥) → IsWorked c before seat
  worked before seat channel was never =
      record { channel = channel; part = was.part; unsent = was.unsent; gains = (map (λ (u : Taken). u.step) seat.taken.items, was.gains); working = λ none. was; behind = λ e. absurd (never e) }

  -- datagrams were lost by a fault
  pub failed : (before : Holder) (v : Hand) (taken : List Taken) (left : List ℕ) (pass : Holder) (numbers : List ℕ) (seat : Seat) (cause : Trouble) → IsWorking before v taken left pass → IsSeatAt c seat.ticket
      → TakesNumbers v numbers (view seat.ticket) → ((steps : List ℕ) × Gains pass steps seat.pass) × (cause ≡ troubles.Behind → 0 < seen_by seat.pass) → seat.fault ≡ Some cause → IsWorked c before seat
  failed before v taken left pass numbers seat cause was channel is gains fault =
      record {
        channel = channel;
        part = ap (λ (u : Hand). u.parts) is ∙ was.part;
        unsent = ap (λ (u : Hand). u.sent) is ∙ was.unsent;
        gains = (map (λ (u : Taken). u.step) taken ++ gains.0.0, gains_more before pass seat.pass (map (λ (u : Taken). u.step) taken) gains.0.0 was.gains gains.0.1);
        working = λ none. absurd (true≢false (ap is_some (sym fault ∙ none)));
        behind = λ e. gains.1 (same_Some cause troubles.Behind (sym fault ∙ e));
      }

  -- a row was handled, and the worker ends
  pub ended : (before : Holder) (v : Hand) (taken : List Taken) (left : List ℕ) (pass : Holder) (numbers : List ℕ) (seat : Seat) → IsWorking before v taken left pass → IsSeatAt c seat.ticket → TakesNumbers v numbers (view seat.ticket)
      → IsHandled pass numbers taken left seat.fault seat.taken.items seat.left.items seat.pass → IsWorked c before seat
  ended before v taken left pass numbers seat was channel is h =
      record {
        channel = channel;
        part = ap (λ (u : Hand). u.parts) is ∙ was.part;
        unsent = ap (λ (u : Hand). u.sent) is ∙ was.unsent;
        gains = (map (λ (u : Taken). u.step) taken ++ h.gains.0, gains_more before pass seat.pass (map (λ (u : Taken). u.step) taken) h.gains.0 was.gains h.gains.1);
        working = λ none. handled before v (view seat.ticket) taken seat.taken.items left seat.left.items numbers pass seat.pass was is
            (subst (λ (f : Option Trouble). IsHandled pass numbers taken left f seat.taken.items seat.left.items seat.pass) none h);
        behind = h.behind;
      }
