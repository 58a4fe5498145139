-- First sendings of readings go out in the order in which lanes brought them.
use Rattle.std.proofs.Common.{◌≡◌, ◌∙◌, ◌==◌, ◌&&◌, ◌+◌, ◌≤◌, ℕ, Bool, true, false, if◌then◌else◌, List, [], ◌∷◌, ◌++◌, length, fold, refl, sym, ap, subst, arith, eqb-true}
use Rattle.std.specs.Prelude.{slice_get}
use Rattle.std.proofs.lemmas.Bool.{and_parts}
use Rattle.mq_packet.specs.declared.packet.Packet.{Packet}
use Rattle.mq_packet.specs.declared.packet.Qos.{Qos}
use Rattle.mq_packet.specs.declared.packet.Qos.TheVariants as levels
use Rattle.br_core.specs.declared.action.Action.{Action}
use Rattle.br_core.specs.declared.action.Action.TheVariants as actions
use Rattle.br_core.specs.declared.item.Flight.{Flight}
use Rattle.br_core.specs.declared.item.Item.{Item}
use Rattle.br_core.specs.declared.settings.Settings.{Settings}
use Rattle.br_core.specs.declared.state.Bridge.{Bridge}
use Rattle.br_core.specs.declared.state.Side.{Side}
use Rattle.br_core.specs.declared.state.Side.TheVariants as sides
use Rattle.br_core.specs.Begins.{begun, moment_of}
use Rattle.br_core.specs.Runs.{Come, Rises, after, after_from, run_done, done_from, first_in, firsts, stepped}
use Rattle.br_core.specs.Sides.{at_once, free_packet_id, has_window, in_flight, kept_while_away, out_again, sent_along, item_sent, takes_at, item_waits}
use Rattle.br_core.specs.Steps.{nothing_out}
use Rattle.br_core.proofs.Anything.{Any, Each, Its, Yes, each-any, lane-any, reasons-any}
use Rattle.br_core.proofs.Lists.{regroup}
use Rattle.br_core.proofs.Walk.{At, Held, IsOther, IsWalked, event-walked, one-taken, sent-waiting}

-- ---- numbers that go up

rises-from : (low mid : ℕ) (ys : List ℕ) (high : ℕ) → low ≤ mid → Rises mid ys high → Rises low ys high
rises-from low mid [] high h k = let last : mid ≤ high = k in omega arith
rises-from low mid (y ∷ ys) high h k =
    let first : mid ≤ y = k.0 in
    let lower : low ≤ y = omega arith in
    (lower, k.1)

rises-then : (low : ℕ) (xs : List ℕ) (mid : ℕ) (ys : List ℕ) (high : ℕ) → Rises low xs mid → Rises mid ys high → Rises low (xs ++ ys) high
rises-then low [] mid ys high h k = rises-from low mid ys high h k
rises-then low (x ∷ xs) mid ys high h k = (h.0, rises-then (x + 1) xs mid ys high h.1 k)

rises-le : (low : ℕ) (xs : List ℕ) (high : ℕ) → Rises low xs high → low ≤ high
rises-le low [] high h = h
rises-le low (x ∷ xs) high h =
    let first : low ≤ x = h.0 in
    let more : x + 1 ≤ high = rises-le (x + 1) xs high h.1 in
    omega arith

rises-wide : (low : ℕ) (xs : List ℕ) (high top : ℕ) → high ≤ top → Rises low xs high → Rises low xs top
rises-wide low [] high top e h = let last : low ≤ high = h in omega arith
rises-wide low (x ∷ xs) high top e h = (h.0, rises-wide (x + 1) xs high top e h.1)

-- and with one more behind them
rises-more : (low : ℕ) (xs : List ℕ) (n : ℕ) → Rises low xs n → Rises low (xs ++ n ∷ []) (n + 1)
rises-more low [] n h =
    let last : low ≤ n = h in
    let same : n + 1 ≤ n + 1 = omega arith in
    (last, same)
rises-more low (x ∷ xs) n h = (h.0, rises-more (x + 1) xs n h.1)

-- ---- what goes out for the first time

other-none : (a : Action) → IsOther a → first_in a ≡ []
other-none (actions.Reading number packet) o = absurd o
other-none a o = refl

firsts-other : (out : List Action) (a : Action) → IsOther a → firsts (out ++ a ∷ []) ≡ firsts out
firsts-other [] a o = ap (λ (xs : List ℕ). xs ++ []) (other-none a o)
firsts-other (x ∷ more) a o = ap (λ (xs : List ℕ). first_in x ++ xs) (firsts-other more a o)

firsts-join : (xs ys : List Action) → firsts (xs ++ ys) ≡ firsts xs ++ firsts ys
firsts-join [] ys = refl
firsts-join (x ∷ more) ys =
    subst (λ (r : List ℕ). first_in x ++ firsts (more ++ ys) ≡ r) (sym (regroup (first_in x) (firsts more) (firsts ys)))
    (ap (λ (xs : List ℕ). first_in x ++ xs) (firsts-join more ys))

again-none : (f : List Flight) (out : List Action) → firsts (fold out_again out f) ≡ firsts out
again-none [] out = refl
again-none (one ∷ more) out = again-none more (out_again out one) ∙ firsts-other out (actions.ToBroker (in_flight true one)) tt

-- ---- what waits

abbrev numbers : List Item → List ℕ
numbers [] = []
numbers (item ∷ more) = item.number ∷ numbers more

numbers-more : (w : List Item) (item : Item) → numbers (w ++ item ∷ []) ≡ numbers w ++ item.number ∷ []
numbers-more [] item = refl
numbers-more (first ∷ more) item = ap (λ (xs : List ℕ). first.number ∷ xs) (numbers-more more item)

-- what has gone out goes up to a number, and what waits goes on from there
abbrev Sorted : ℕ → List Action → List Item → ℕ → Type 0
Sorted low out w n = (mid : ℕ) × Rises low (firsts out) mid × Rises mid (numbers w) n

abbrev P : ℕ → Held
P low l out w f n q = Sorted low out w n

-- ---- the first one that waits goes

first-sorted : (low : ℕ) (out : List Action) (item : Item) (more : List Item) (n : ℕ) (packet : Packet) → Sorted low out (item ∷ more) n
    → Sorted low (out ++ actions.Reading item.number packet ∷ []) more n
first-sorted low out item more n packet h =
    let up : h.0 ≤ item.number = h.2.0 in
    let rises : Rises low (firsts out) item.number = rises-wide low (firsts out) h.0 item.number up h.1 in (
      item.number + 1,
      subst (λ (xs : List ℕ). Rises low xs (item.number + 1)) (sym (firsts-join out (actions.Reading item.number packet ∷ []))) (rises-more low (firsts out) item.number rises),
      h.2.1,
    )

sent-first-sorted : (low : ℕ) (qos : Qos) (item : Item) (more : List Item) (b : Bridge) → Sorted low b.out (item ∷ more) b.number
    → At (P low) (item_sent qos item (record b { waiting = more }))
sent-first-sorted low levels.Zero item more b h = first-sorted low b.out item more b.number (at_once item) h
sent-first-sorted low levels.One item more b h =
    first-sorted low b.out item more b.number (in_flight false (record { id = free_packet_id b.packet_id b.flight; item = item })) h

choose-sorted : (low : ℕ) (c : Bool) (x y : Bridge) → At (P low) x → At (P low) y → At (P low) (if c then x else y)
choose-sorted low true x y p q = p
choose-sorted low false x y p q = q

along-sorted : (low : ℕ) (settings : Settings) (items : List Item) (b : Bridge) → b.waiting ≡ items → At (P low) b → At (P low) (sent_along settings items b)
along-sorted low settings [] b e h = h
along-sorted low settings (item ∷ more) b e h =
    let first : Bridge = record b { waiting = more } in
    let here : Sorted low b.out (item ∷ more) b.number = subst (λ (w : List Item). Sorted low b.out w b.number) e h in
    choose-sorted low (has_window settings item.qos b.flight) (sent_along settings more (item_sent item.qos item first)) b
    (along-sorted low settings more (item_sent item.qos item first) (sent-waiting item.qos item first) (sent-first-sorted low item.qos item more b here)) h

-- ---- a reading is taken

-- it goes at once if nothing waits
alone-sorted : (low : ℕ) (out : List Action) (w : List Item) (item : Item) (n : ℕ) (packet : Packet) → length w ≡ 0 → Sorted low out (w ++ item ∷ []) n
    → Sorted low (out ++ actions.Reading item.number packet ∷ []) w n
alone-sorted low out [] item n packet e h = first-sorted low out item [] n packet h
alone-sorted low out (first ∷ more) item n packet e h = absurd (omega arith)

sent-at-sorted : (low : ℕ) (qos : Qos) (item : Item) (b : Bridge) → length b.waiting ≡ 0 → Sorted low b.out (b.waiting ++ item ∷ []) b.number → At (P low) (item_sent qos item b)
sent-at-sorted low levels.Zero item b e h = alone-sorted low b.out b.waiting item b.number (at_once item) e h
sent-at-sorted low levels.One item b e h =
    alone-sorted low b.out b.waiting item b.number (in_flight false (record { id = free_packet_id b.packet_id b.flight; item = item })) e h

offered-sorted : (low : ℕ) (c : Bool) (item : Item) (b : Bridge) → (c ≡ true → length b.waiting ≡ 0) → Sorted low b.out (b.waiting ++ item ∷ []) b.number
    → At (P low) (if c then item_sent item.qos item b else item_waits item b)
offered-sorted low true item b e h = sent-at-sorted low item.qos item b (e refl) h
offered-sorted low false item b e h = h

one-behind : (low : ℕ) (item : Item) (b : Bridge) → b.number ≤ item.number → At (P low) b → Sorted low b.out (b.waiting ++ item ∷ []) (item.number + 1)
one-behind low item b e h =
    let last : Rises h.0 (numbers b.waiting) item.number = rises-wide h.0 (numbers b.waiting) b.number item.number e h.2 in
    let more : Rises h.0 (numbers (b.waiting ++ item ∷ [])) (item.number + 1) =
    subst (λ (xs : List ℕ). Rises h.0 xs (item.number + 1)) (sym (numbers-more b.waiting item)) (rises-more h.0 (numbers b.waiting) item.number last) in
    (h.0, h.1, more)

kept-sorted : (low : ℕ) (qos : Qos) (item : Item) (b : Bridge) → b.number ≤ item.number → At (P low) b → At (P low) (kept_while_away qos item (one-taken item b))
kept-sorted low levels.Zero item b e h =
    let up : b.number ≤ item.number + 1 = omega arith in
    (h.0, h.1, rises-wide h.0 (numbers b.waiting) b.number (item.number + 1) up h.2)
kept-sorted low levels.One item b e h = one-behind low item b e h

takes-sorted : (side : Side) (low : ℕ) (settings : Settings) (item : Item) (b : Bridge) → b.number ≤ item.number → At (P low) b → At (P low) (takes_at side settings item (one-taken item b))
takes-sorted sides.Up low settings item b e h =
    offered-sorted low ((length b.waiting == 0) && has_window settings item.qos b.flight) item (one-taken item b)
    (λ c. eqb-true (length b.waiting) 0 (and_parts (length b.waiting == 0) (has_window settings item.qos b.flight) c).0) (one-behind low item b e h)
takes-sorted side low settings item b e h = kept-sorted low item.qos item b e h

-- ---- the walk, in which every reason is good

sorted-walked : (low : ℕ) → IsWalked Yes Yes Its Yes Any Each (P low)
sorted-walked low = record {
  acts = λ a l out w f n q o p h. (h.0, subst (λ (xs : List ℕ). Rises low xs h.0) (sym (firsts-other out a o)) h.1, h.2);
  placed = λ place x l out w f n q p h. h;
  there = λ place l out w f n q h. lane-any place (slice_get l place);
  taken = λ settings item b e came h. takes-sorted b.side low settings item b e h;
  counts = λ m l out w f n q e h. (h.0, h.1, rises-wide h.0 (numbers w) n m e h.2);
  offers = λ settings b h. along-sorted low settings b.waiting b refl h;
  repeated = λ l out w f n q h. (h.0, subst (λ (xs : List ℕ). Rises low xs h.0) (sym (again-none f out)) h.1, h.2);
  left = λ id l out w f n q handed h. h;
  asks = λ one l out w f n q asked h. h;
  ends = λ first more l out w f n h. h;
  clears = λ l out w f n q h. h;
  owes = λ l out w f n q h. each-any q;
}

lifts : (n : ℕ) → Yes n → Yes n
lifts n h = h

-- ---- the law

order-one : (settings : Settings) (come : Come) (b : Bridge) (low : ℕ) → Rises low (numbers b.waiting) b.number → At (P low) (stepped settings b come)
order-one settings come b low h =
    let same : low ≤ low = omega arith in
    event-walked Yes Yes lifts Its Yes Any Each (P low) (sorted-walked low) settings come.0 (moment_of come.1) (nothing_out b) (reasons-any settings come.0 (moment_of come.1) (nothing_out b)) (low, same, h)

order-from : (settings : Settings) (run : List Come) (b : Bridge) (low : ℕ) → Rises low (numbers b.waiting) b.number
    → Rises low (firsts (done_from settings b run)) (after_from settings b run).number
order-from settings [] b low h = rises-le low (numbers b.waiting) b.number h
order-from settings (come ∷ more) b low h =
    let next : Bridge = stepped settings b come in
    let here : At (P low) next = order-one settings come b low h in
    let later : Rises here.0 (firsts (done_from settings next more)) (after_from settings next more).number = order-from settings more next here.0 here.2 in
    subst (λ (xs : List ℕ). Rises low xs (after_from settings next more).number) (sym (firsts-join next.out (done_from settings next more)))
    (rises-then low (firsts next.out) here.0 (firsts (done_from settings next more)) (after_from settings next more).number here.1 later)

pub keeps-order : (settings : Settings) (run : List Come) → Rises 0 (firsts (run_done settings run)) (after settings run).number
keeps-order settings run =
    let least : 0 ≤ 0 = omega arith in
    order-from settings run (begun settings) 0 least
