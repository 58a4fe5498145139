-- A row whose acknowledgements have a cause.
use Rattle.std.proofs.Common.{◌≡◌, ℕ, Bool, true, false, if◌then◌else◌, List, [], ◌∷◌, Option, Some, None, Contains, refl, sym, subst, inl, inr}
use Rattle.std.proofs.lemmas.List.Elements.{Contains-push_cases}
use Rattle.rep_op.specs.declared.op.Put.{Put}
use Rattle.rep_op.specs.Orders.{name_of}
use Rattle.sn_local.specs.declared.config.Send.{Send}
use Rattle.sn_local.specs.declared.local.LocalChange.{LocalChange}
use Rattle.sn_local.specs.declared.local.LocalChange.TheVariants.{Heard}
use Rattle.sn_local.specs.Seen.{Seen}
use Rattle.sn_plan.specs.declared.row.Follow.{Follow}
use Rattle.sn_plan.specs.declared.row.Row.{Row}
use Rattle.sn_plan.specs.Bound.{session_of}
use Rattle.sn_plan.specs.Drafts.{Drafted, moved, session_after}
use Rattle.sn_plan.specs.Rows.{row_with_timer}
use Rattle.put_laws.proofs.Acked.{none-there}
use Rattle.put_laws.proofs.Grown.{IsServed}
use Rattle.put_laws.proofs.Quiet.{QuietFor, QuietRow}

-- a cause to acknowledge a message of a client, by the frames that are sent
abbrev pub Cause : Type 1
Cause = List Send → List ℕ → Put → Type 0

-- the name is that of a message that waits for the client, for which there is a cause
abbrev pub Caused : Seen → Cause → List Send → List ℕ → ℕ × ℕ → Type 0
Caused seen C sends c name = (put : Put) × Contains (seen.of c).pending put × (name ≡ name_of put) × C sends c put

-- and so for each that a draft acknowledges
abbrev pub AreCaused : Seen → Cause → List ℕ → Drafted → Type 0
AreCaused seen C c d = (name : ℕ × ℕ) → Contains d.acks name → Caused seen C d.sends c name

-- a row for the client that the frame is from, or for nobody
abbrev pub FitsFor : Seen → Cause → Option (List ℕ) → Option (List ℕ) → Drafted → Follow → Type 0
FitsFor seen C sender None d follow = Unit {0}
FitsFor seen C sender (Some c) d follow = (sender ≡ Some c) × AreCaused seen C c d × IsServed (session_after (session_of seen c) d) follow

abbrev pub FitsRow : Seen → Cause → Option (List ℕ) → Row → Type 0
FitsRow seen C sender row = FitsFor seen C sender row.client row.draft row.follow

module _ (seen : Seen) (C : Cause) where
  pub none-caused : (c : List ℕ) (d : Drafted) → d.acks ≡ [] → AreCaused seen C c d
  none-caused c d none name there = absurd (none-there name (subst (λ (acks : List (ℕ × ℕ)). Contains acks name) none there))

  pub one-caused : (c : List ℕ) (d : Drafted) (put : Put) → Contains (seen.of c).pending put → d.acks ≡ name_of put ∷ [] → C d.sends c put → AreCaused seen C c d
  one-caused c d put among one cause name there =
      elim (Contains-push_cases [] (name_of put) name (subst (λ (acks : List (ℕ × ℕ)). Contains acks name) one there)) [
        | inl none ↦ absurd (none-there name none)
        | inr is ↦ (put, among, sym is, cause)
      ]

  pub choose-caused : (c : List ℕ) (b : Bool) (x y : Drafted) → (b ≡ true → AreCaused seen C c x) → (b ≡ false → AreCaused seen C c y) → AreCaused seen C c (if b then x else y)
  choose-caused c true x y h k = h refl
  choose-caused c false x y h k = k refl

  module _ (sender : Option (List ℕ)) where
    quiet-for : (client : Option (List ℕ)) (d : Drafted) (follow : Follow) → QuietFor seen sender client d follow → FitsFor seen C sender client d follow
    quiet-for None d follow h = tt
    quiet-for (Some c) d follow h = (h.0, none-caused c d h.1, h.2)

    pub quiet-fits : (row : Row) → QuietRow seen sender row → FitsRow seen C sender row
    quiet-fits row h = quiet-for row.client row.draft row.follow h

    moved-fits : (client : Option (List ℕ)) (change : LocalChange) (d : Drafted) (follow : Follow) → FitsFor seen C sender client d follow → FitsFor seen C sender client (moved change d) follow
    moved-fits None change d follow h = tt
    moved-fits (Some c) change d follow h = h

    pub heard-fits : (bound : Option (List ℕ)) (now : ℕ) (row : Row) → FitsRow seen C sender row → FitsRow seen C sender (row_with_timer bound now row)
    heard-fits None now row h = h
    heard-fits (Some c) now row h = moved-fits row.client (Heard c now) row.draft row.follow h

    pub choose-fits : (b : Bool) (x y : Row) → FitsRow seen C sender x → FitsRow seen C sender y → FitsRow seen C sender (if b then x else y)
    choose-fits true x y h k = h
    choose-fits false x y h k = k
