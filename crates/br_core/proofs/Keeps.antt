-- What waits or is in flight stays so until the broker has acknowledged it.
use Rattle.std.proofs.Common.{◌≡◌, ◌==◌, ℕ, Bool, true, false, if◌then◌else◌, List, [], ◌∷◌, ◌++◌, Option, Some, ◌⊎◌, refl, sym, subst, inl, inr}
use Rattle.std.specs.Prelude.{slice_get}
use Rattle.mq_packet.specs.declared.packet.Packet.{Packet}
use Rattle.mq_packet.specs.declared.packet.Packet.TheVariants as packets
use Rattle.mq_packet.specs.declared.packet.Qos.TheVariants as levels
use Rattle.br_core.specs.declared.event.Event.{Event}
use Rattle.br_core.specs.declared.event.Event.TheVariants as events
use Rattle.br_core.specs.declared.item.Flight.{Flight}
use Rattle.br_core.specs.declared.item.Item.{Item}
use Rattle.br_core.specs.declared.settings.Settings.{Settings}
use Rattle.br_core.specs.declared.state.Bridge.{Bridge}
use Rattle.br_core.specs.Begins.{begun, moment_of}
use Rattle.br_core.specs.Runs.{Come, Flies, Handed, IsIn, IsOne, WaitsAmong, after, stepped}
use Rattle.br_core.specs.Steps.{nothing_out}
use Rattle.br_core.specs.Sides.{item_in_flight, left_in_flight}
use Rattle.br_core.proofs.Anything.{Any, Each, Its, Yes, each-any, first-any, frame-any, frame-may, lane-any}
use Rattle.br_core.proofs.Lists.{no-more, one-more}
use Rattle.br_core.proofs.Running.{after-one, handed-item, handed-on, standing}
use Rattle.br_core.proofs.Walk.{Held, IsKept, IsWalked, ItemDone, PacketDone, Reasons, event-walked, sends-kept, taken-kept}

module _ (number : ℕ) where
  -- ---- lists

  waits-more : (w : List Item) (item : Item) → WaitsAmong number w → WaitsAmong number (w ++ item ∷ [])
  waits-more [] item h = absurd h
  waits-more (first ∷ more) item (inl is) = inl is
  waits-more (first ∷ more) item (inr h) = inr (waits-more more item h)

  flies-more : (f : List Flight) (one : Flight) → Flies number f → Flies number (f ++ one ∷ [])
  flies-more [] one h = absurd h
  flies-more (first ∷ more) one (inl is) = inl is
  flies-more (first ∷ more) one (inr h) = inr (flies-more more one h)

  pub waits-last : (w : List Item) (item : Item) → item.number ≡ number → IsOne item.qos → WaitsAmong number (w ++ item ∷ [])
  waits-last [] item is one = inl (is, one)
  waits-last (first ∷ more) item is one = inr (waits-last more item is one)

  pub flies-last : (f : List Flight) (one : Flight) → one.item.number ≡ number → Flies number (f ++ one ∷ [])
  flies-last [] one is = inl is
  flies-last (first ∷ more) one is = inr (flies-last more one is)

  -- ---- a PUBACK

  module _ (Done : ℕ → Type 0) where
    left-by : (c : Bool) (one : Flight) (more rest : List Flight) (item : Option Item) → ItemDone Done (if c then Some one.item else item)
        → (ItemDone Done item → Flies number more → Done number ⊎ Flies number rest) → Flies number (one ∷ more)
        → Done number ⊎ Flies number (if c then more else one ∷ rest)
    left-by true one more rest item handed k (inl is) = inl (subst Done is handed)
    left-by true one more rest item handed k (inr flies) = inr flies
    left-by false one more rest item handed k (inl is) = inr (inl is)
    left-by false one more rest item handed k (inr flies) =
        elim (k handed flies) as (λ _. Done number ⊎ Flies number (one ∷ rest)) [ inl g ↦ inl g | inr h ↦ inr (inr h) ]

    left-flies : (id : ℕ) (f : List Flight) → ItemDone Done (item_in_flight id f) → Flies number f → Done number ⊎ Flies number (left_in_flight id f)
    left-flies id [] handed h = absurd h
    left-flies id (one ∷ more) handed h =
        left-by (one.id == id) one more (left_in_flight id more) (item_in_flight id more) handed (left-flies id more) h

-- ---- the walk

module _ (number : ℕ) (Done : ℕ → Type 0) where
  abbrev StaysIn : List Item → List Flight → Type 0
  StaysIn w f = Done number ⊎ (WaitsAmong number w ⊎ Flies number f)

  abbrev P : Held
  P l out w f n q = StaysIn w f

  queued : (item : Item) (w : List Item) (f : List Flight) → StaysIn w f → StaysIn (w ++ item ∷ []) f
  queued item w f (inl handed) = inl handed
  queued item w f (inr (inl waiting)) = inr (inl (waits-more number w item waiting))
  queued item w f (inr (inr flies)) = inr (inr flies)

  flown : (one : Flight) (w : List Item) (f : List Flight) → StaysIn w f → StaysIn w (f ++ one ∷ [])
  flown one w f (inl handed) = inl handed
  flown one w f (inr (inl waiting)) = inr (inl waiting)
  flown one w f (inr (inr flies)) = inr (inr (flies-more number f one flies))

  -- the first one that waits goes: one that wants an acknowledgement is in flight then
  gone : (item : Item) (more : List Item) (f : List Flight) → item.qos ≡ levels.Zero → StaysIn (item ∷ more) f → StaysIn more f
  gone item more f q (inl handed) = inl handed
  gone item more f q (inr (inl (inl is))) = absurd (subst IsOne q is.1)
  gone item more f q (inr (inl (inr waiting))) = inr (inl waiting)
  gone item more f q (inr (inr flies)) = inr (inr flies)

  flown-first : (id : ℕ) (item : Item) (more : List Item) (f : List Flight) → StaysIn (item ∷ more) f → StaysIn more (f ++ record { id = id; item = item } ∷ [])
  flown-first id item more f (inl handed) = inl handed
  flown-first id item more f (inr (inl (inl is))) = inr (inr (flies-last number f (record { id = id; item = item }) is.0))
  flown-first id item more f (inr (inl (inr waiting))) = inr (inl waiting)
  flown-first id item more f (inr (inr flies)) = inr (inr (flies-more number f (record { id = id; item = item }) flies))

  leaves : (id : ℕ) (w : List Item) (f : List Flight) → ItemDone Done (item_in_flight id f) → StaysIn w f → StaysIn w (left_in_flight id f)
  leaves id w f handed (inl g) = inl g
  leaves id w f handed (inr (inl waiting)) = inr (inl waiting)
  leaves id w f handed (inr (inr flies)) =
      elim (left-flies number Done id f handed flies) as (λ _. StaysIn w (left_in_flight id f)) [ inl g ↦ inl g | inr h ↦ inr (inr h) ]

  kept : IsKept Any P
  kept = record {
    queued = λ item l out w f n q came h. queued item w f h;
    goes = λ item l out w f n q came h. h;
    flies = λ id item l out w f n q came h. flown (record { id = id; item = item }) w f h;
    goes_first = λ item more l out f n q zero_is h. gone item more f zero_is h;
    flies_first = λ id item more l out f n q h. flown-first id item more f h;
    counts = λ m l out w f n q e h. h;
  }

  pub walked : IsWalked Yes Done Its Yes Any Each P
  walked = record {
    acts = λ a l out w f n q o p h. h;
    placed = λ place x l out w f n q p h. h;
    there = λ place l out w f n q h. lane-any place (slice_get l place);
    taken = λ settings item b e came h. taken-kept Any P kept settings item b e came h;
    counts = λ m l out w f n q e h. h;
    offers = λ settings b h. sends-kept Any P kept settings b h;
    repeated = λ l out w f n q h. h;
    left = λ id l out w f n q handed h. leaves id w f handed h;
    asks = λ one l out w f n q asked h. h;
    ends = λ first more l out w f n h. h;
    clears = λ l out w f n q h. h;
    owes = λ l out w f n q h. each-any q;
  }

  pub lifts : (n : ℕ) → Done n → Yes n
  lifts n h = tt

-- ---- the law

-- a PUBACK is a reason; all else needs none
packet-reasons : (settings : Settings) (before : List Come) (moment : ℕ) (packet : Packet)
    → PacketDone (Handed settings (before ++ (events.Broker packet, moment) ∷ [])) Yes Each settings packet (nothing_out (after settings before))
packet-reasons settings before moment (packets.PubAck id) =
    handed-item settings before moment (standing settings before) id (item_in_flight id (after settings before).flight) refl
packet-reasons settings before moment (packets.Publish delivery retain topic body) = (λ kept left wanted. tt, tt)
packet-reasons settings before moment packet = tt

its-reasons : (settings : Settings) (before : List Come) (moment : ℕ) (event : Event)
    → Reasons Yes (Handed settings (before ++ (event, moment) ∷ [])) Its Yes Any Each settings event (moment_of moment) (nothing_out (after settings before))
its-reasons settings before moment (events.Field place frame) = frame-any settings place (moment_of moment) frame (nothing_out (after settings before))
its-reasons settings before moment (events.Commands frame) = frame-may frame (nothing_out (after settings before))
its-reasons settings before moment (events.Broker packet) = packet-reasons settings before moment packet
its-reasons settings before moment (events.Kept line) = λ doing. first-any (after settings before).down.queue
its-reasons settings before moment (events.Found item) = tt
its-reasons settings before moment (events.Stored below) = λ may n under. tt
its-reasons settings before moment event = tt

stays-one : (settings : Settings) (before : List Come) (event : Event) (moment number : ℕ) → Handed settings before number ⊎ IsIn number (after settings before)
    → Handed settings (before ++ (event, moment) ∷ []) number ⊎ IsIn number (stepped settings (after settings before) (event, moment))
stays-one settings before event moment number there =
    let run : List Come = before ++ (event, moment) ∷ [] in
    let here : StaysIn number (Handed settings run) (after settings before).waiting (after settings before).flight =
    elim there as (λ _. Handed settings run number ⊎ IsIn number (after settings before)) [ inl handed ↦ inl (handed-on settings before ((event, moment) ∷ []) number handed) | inr h ↦ inr h ] in
    event-walked Yes (Handed settings run) (lifts number (Handed settings run)) Its Yes Any Each (P number (Handed settings run)) (walked number (Handed settings run))
    settings event (moment_of moment) (nothing_out (after settings before)) (its-reasons settings before moment event) here

stays-then : (settings : Settings) (before : List Come) (come : Come) (number : ℕ) → Handed settings before number ⊎ IsIn number (after settings before)
    → Handed settings (before ++ come ∷ []) number ⊎ IsIn number (after settings (before ++ come ∷ []))
stays-then settings before come number there =
    subst (λ (b : Bridge). Handed settings (before ++ come ∷ []) number ⊎ IsIn number b)
    (sym (after-one settings (begun settings) before come)) (stays-one settings before come.0 come.1 number there)

pub stays : (settings : Settings) (before later : List Come) (number : ℕ) → Handed settings before number ⊎ IsIn number (after settings before)
    → Handed settings (before ++ later) number ⊎ IsIn number (after settings (before ++ later))
stays settings before [] number there =
    subst (λ (run : List Come). Handed settings run number ⊎ IsIn number (after settings run)) (sym (no-more before)) there
stays settings before (come ∷ more) number there =
    subst (λ (run : List Come). Handed settings run number ⊎ IsIn number (after settings run)) (one-more before come more)
    (stays settings (before ++ come ∷ []) more number (stays-then settings before come number there))

pub nothing-drops : (settings : Settings) (before later : List Come) (number : ℕ) → IsIn number (after settings before)
    → Handed settings (before ++ later) number ⊎ IsIn number (after settings (before ++ later))
nothing-drops settings before later number there = stays settings before later number (inr there)
