-- What one node does in its place in the list of nodes.
use Rattle.std.proofs.Common.{◌≡◌, ℕ, ◌+◌, ◌-◌, ◌==◌, if◌then◌else◌, zero, suc, ◌<◌, List, [], ◌∷◌, length, map, set, Option, Some, None, slice_get, Result, refl, sym, ap, ◌∙◌, subst, inl, inr, arith}
use Rattle.std.specs.List.{AllByRecursion, insert, remove}
use Rattle.std.specs.Option.{option_map}
use Rattle.std.proofs.lemmas.Option.{slice_get-map}
use Rattle.std.proofs.lemmas.List.{map-set}
use Rattle.rep_op.specs.declared.op.Op.{Op}
use Rattle.jr_disk.specs.declared.disk.Disk.{Ghosts}
use Rattle.gw_answer.specs.declared.out.Out.{Out}
use Rattle.gw_answer.specs.declared.refusal.Refusal.{Refusal}
use Rattle.gw_event.specs.Gateways.{Gateway}
use Rattle.gw_node.specs.Parts.{State}
use Rattle.gw_world.specs.declared.event.Event.{Event}
use Rattle.gw_world.specs.declared.event.Event.TheVariants.{Frame, Tick, Take, Together as AtOnce, Answer as Asks, WriteFails, Compact, Restart, Show}
use Rattle.gw_world.specs.declared.world.WorldFault.{WorldFault}
use Rattle.gw_world.specs.declared.world.WorldFault.TheVariants as stops
use Rattle.gw_world.specs.Field.{gateway_of_event}
use Rattle.gw_world.specs.Keeping.{AreShown}
use Rattle.gw_world.specs.Places.{place_from}
use Rattle.gw_world.specs.inner.Events.{Moves, AskAt, AskKept, place_in, IsMissing, IsStopped}

module _ {D : Type 0} {G : Ghosts D} {N : Type 0} (f : N → State G) (nodes : List N) where
  pub there_in_place : (i : ℕ) (node : N) → slice_get nodes i ≡ Some node → slice_get (map f nodes) i ≡ Some (f node)
  there_in_place i node place = slice_get-map f nodes i ∙ ap (λ (x : Option N). option_map f x) place

  pub moves_in_place : (i : ℕ) (old new : N) (Goes : State G → State G → Type 0) → slice_get nodes i ≡ Some old → Goes (f old) (f new) → Moves (map f nodes) i Goes (map f (set nodes i new))
  moves_in_place i old new Goes place goes = record {
    old = f old;
    new = f new;
    place = there_in_place i old place;
    goes = goes;
    moved = map-set f nodes i new;
  }

  -- one node's digest goes to another
  pub ask_in_place : (i j : ℕ) (asker peer : N) → slice_get nodes i ≡ Some asker → slice_get nodes j ≡ Some peer → (answer : Result Out Refusal) → AskKept (f asker).kept (f peer).kept answer
      → AskAt (map f nodes) i j answer
  ask_in_place i j asker peer at to answer h = (f asker, f peer, there_in_place i asker at, there_in_place j peer to, h)

pub all_at : {X : Type 0} (P : X → Type 0) (xs : List X) (i : ℕ) (x : X) → AllByRecursion P xs → slice_get xs i ≡ Some x → P x
all_at P [] i x h e = absurd (cc)
all_at P (y ∷ xs) zero x h e = let same : y ≡ x = cc in subst P same h.0
all_at P (y ∷ xs) (suc i) x h e = all_at P xs i x h.1 e

-- an element that was removed from its place, and another put there
pub put_back : {A : Type 0} (xs : List A) (i : ℕ) (x : A) → i < length xs → insert (remove xs i) i x ≡ set xs i x
put_back [] i x h = absurd (omega (arith, h))
put_back (y ∷ xs) zero x h = refl
put_back (y ∷ xs) (suc i) x h = let less : i < length xs = omega (arith, h) in ap (λ ys. y ∷ ys) (put_back xs i x less)

module _ {D : Type 0} {G : Ghosts D} where
  -- a number has the same place among gateways and among their nodes
  pub place_shown : (n i : ℕ) (gs : List Gateway) (ss : List (State G)) → AreShown gs ss → place_from n i gs ≡ place_in n i ss
  place_shown n i [] [] s = refl
  place_shown n i (g ∷ gs) (k ∷ ks) s =
      let config : g.config ≡ k.config = sym s.0.stands.configured in
      let rest : place_from n (i + 1) gs ≡ place_in n (i + 1) ks = place_shown n (i + 1) gs ks s.1 in
      λ j. if (config j).gateway == n then Some i else rest j
  place_shown n i [] (k ∷ ks) s = absurd s
  place_shown n i (g ∷ gs) [] s = absurd s

  pub missing_stops : (olds : List (State G)) (deltas : List (List Op)) (event : Event) (n : ℕ) (fault : WorldFault) (i : ℕ)
      → place_in (gateway_of_event event) 0 olds ≡ Some i → IsMissing olds deltas event n fault → IsStopped olds deltas event n fault
  missing_stops olds deltas (Asks g peer) n (stops.NoGateway m) i place (number, none) = (number, λ field s. inr (place_shown peer 0 field.gateways olds s ∙ none))
  missing_stops olds deltas (Asks g peer) n (stops.NoDelta m) i place h = absurd h
  missing_stops olds deltas (Take g delta) n (stops.NoGateway m) i place h = absurd h
  missing_stops olds deltas (Take g delta) n (stops.NoDelta m) i place (number, none) = (
    number,
    λ field s listed. ((i, place_shown g 0 field.gateways olds s ∙ place), λ ops there. none ops (there.0, ap (λ ds. slice_get ds (delta - 1)) (sym listed) ∙ there.1)),
  )
  missing_stops olds deltas (AtOnce g calls) n (stops.NoGateway m) i place h = absurd h
  missing_stops olds deltas (AtOnce g calls) n (stops.NoDelta m) i place (number, none) = (
    number,
    λ field s listed. ((i, place_shown g 0 field.gateways olds s ∙ place), (none.0, none.1, λ ops there. none.2 ops (there.0, ap (λ ds. slice_get ds (none.0 - 1)) (sym listed) ∙ there.1))),
  )
  missing_stops olds deltas (Frame g from bytes now) n (stops.NoGateway m) i place h = absurd (cc)
  missing_stops olds deltas (Frame g from bytes now) n (stops.NoDelta m) i place h = absurd (cc)
  missing_stops olds deltas (Tick g now) n (stops.NoGateway m) i place h = absurd (cc)
  missing_stops olds deltas (Tick g now) n (stops.NoDelta m) i place h = absurd (cc)
  missing_stops olds deltas (WriteFails g bytes sync) n (stops.NoGateway m) i place h = absurd (cc)
  missing_stops olds deltas (WriteFails g bytes sync) n (stops.NoDelta m) i place h = absurd (cc)
  missing_stops olds deltas (Compact g) n (stops.NoGateway m) i place h = absurd (cc)
  missing_stops olds deltas (Compact g) n (stops.NoDelta m) i place h = absurd (cc)
  missing_stops olds deltas (Restart g kept) n (stops.NoGateway m) i place h = absurd (cc)
  missing_stops olds deltas (Restart g kept) n (stops.NoDelta m) i place h = absurd (cc)
  missing_stops olds deltas (Show g) n (stops.NoGateway m) i place h = absurd (cc)
  missing_stops olds deltas (Show g) n (stops.NoDelta m) i place h = absurd (cc)
  missing_stops olds deltas event n stops.Memory i place h = tt

  -- the node that an event is at is not there
  pub absent_stops : (olds : List (State G)) (deltas : List (List Op)) (event : Event) (n : ℕ) → place_in (gateway_of_event event) 0 olds ≡ None → IsStopped olds deltas event n (stops.NoGateway n)
  absent_stops olds deltas (Asks g peer) n none = (refl, λ field s. inl (place_shown g 0 field.gateways olds s ∙ none))
  absent_stops olds deltas (Frame g from bytes now) n none = (refl, λ field s. place_shown g 0 field.gateways olds s ∙ none)
  absent_stops olds deltas (Tick g now) n none = (refl, λ field s. place_shown g 0 field.gateways olds s ∙ none)
  absent_stops olds deltas (Take g delta) n none = (refl, λ field s. place_shown g 0 field.gateways olds s ∙ none)
  absent_stops olds deltas (AtOnce g calls) n none = (refl, λ field s. place_shown g 0 field.gateways olds s ∙ none)
  absent_stops olds deltas (WriteFails g bytes sync) n none = (refl, λ field s. place_shown g 0 field.gateways olds s ∙ none)
  absent_stops olds deltas (Compact g) n none = (refl, λ field s. place_shown g 0 field.gateways olds s ∙ none)
  absent_stops olds deltas (Restart g kept) n none = (refl, λ field s. place_shown g 0 field.gateways olds s ∙ none)
  absent_stops olds deltas (Show g) n none = (refl, λ field s. place_shown g 0 field.gateways olds s ∙ none)
