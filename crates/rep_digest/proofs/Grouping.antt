-- One operation more in the group of its client.
use Rattle.std.proofs.Common.{◌≡◌, ℕ, zero, suc, false, if◌then◌else◌, List, [], ◌∷◌, ◌++◌, get_or, set, Some, None, refl, sym, ap, ◌∙◌, append-nil, Ordering, Less, Equal, Greater, is_eq}
use Rattle.std.specs.List.{cons_option}
use Rattle.std.specs.List.Sorted.{IsStrictlySortedBy}
use Rattle.std.proofs.lemmas.List.Elements.{filter_map-append}
use Rattle.std.proofs.lemmas.Map.Text.{is_eq-slice_cmp}
use Rattle.rep_op.specs.declared.op.Op.{Op}
use Rattle.rep_op.specs.declared.op.Op.TheVariants.{Ack}
use Rattle.rep_op.specs.Orders.{client_cmp}
use Rattle.rep_op.specs.Sets.{same_client}
use Rattle.sn_tables.specs.inner.Tables.{AllAbove, IsFoundAt, IsGap}
use Rattle.sn_tables.proofs.Ascending.{Ascends}
use Rattle.rep_digest.specs.declared.groups.Acknowledged.{Acknowledged}
use Rattle.rep_digest.specs.inner.Steps.{acknowledged_by, group, groups}

pub ascends_from : (cs : List (List ℕ)) → IsStrictlySortedBy client_cmp cs → Ascends client_cmp cs
unfolding IsStrictlySortedBy
ascends_from [] h = tt
ascends_from (c ∷ cs) h = (h.0, ascends_from cs h.1)

module _ (W : List Op) (op : Op) where
  -- a client of whom the operation acknowledges nothing
  other : (c : List ℕ) → acknowledged_by c op ≡ None → group (W ++ op ∷ []) c ≡ group W c
  other c e = filter_map-append (acknowledged_by c) W (op ∷ []) ∙ ap (λ o. group W c ++ cons_option o []) e ∙ append-nil (group W c)

  -- the client of whom it does
  own : (c : List ℕ) (a : Acknowledged) → acknowledged_by c op ≡ Some a → group (W ++ op ∷ []) c ≡ group W c ++ a ∷ []
  own c a e = filter_map-append (acknowledged_by c) W (op ∷ []) ∙ ap (λ o. group W c ++ cons_option o []) e

  -- an operation that acknowledges nothing of anybody
  pub unchanged : (cs : List (List ℕ)) → ((c : List ℕ) → acknowledged_by c op ≡ None) → groups cs (W ++ op ∷ []) ≡ groups cs W
  unchanged [] none = refl
  unchanged (c ∷ cs) none = λ i. other c (none c) i ∷ unchanged cs none i

module _ (W : List Op) (d : List ℕ) (origin first last : ℕ) where
  abbrev the_ack : Op
  the_ack = Ack d origin first last

  abbrev the_range : Acknowledged
  the_range = record { origin = origin; first = first; last = last }

  apart : (c : List ℕ) (r : Ordering) → client_cmp c d ≡ r → is_eq r ≡ false → acknowledged_by c the_ack ≡ None
  apart c r e f = ap (λ b. if b then Some the_range else None) (turned c ∙ ap is_eq e ∙ f)
    where
      turned : (c : List ℕ) → same_client c d ≡ is_eq (client_cmp c d)
      turned c = sym (is_eq-slice_cmp c d)

  here : (c : List ℕ) → client_cmp c d ≡ Equal → acknowledged_by c the_ack ≡ Some the_range
  here c e = ap (λ b. if b then Some the_range else None) (sym (is_eq-slice_cmp c d) ∙ ap is_eq e)

  above : (cs : List (List ℕ)) → AllAbove (λ c. client_cmp c d) cs → groups cs (W ++ the_ack ∷ []) ≡ groups cs W
  above [] h = refl
  above (c ∷ cs) h = λ i. other W the_ack c (apart c Greater h.0 refl) i ∷ above cs h.1 i

  -- its client is not there
  pub nowhere : (cs : List (List ℕ)) (at : ℕ) → IsGap (λ c. client_cmp c d) cs at → groups cs (W ++ the_ack ∷ []) ≡ groups cs W
  nowhere cs zero h = above cs h
  nowhere [] (suc at) h = absurd h
  nowhere (c ∷ cs) (suc at) h = λ i. other W the_ack c (apart c Less h.0 refl) i ∷ nowhere cs at h.1 i

  -- its client is there
  pub at_place : (cs : List (List ℕ)) (at : ℕ) (none : List Acknowledged) → IsFoundAt (λ c. client_cmp c d) cs at
      → groups cs (W ++ the_ack ∷ []) ≡ set (groups cs W) at (get_or (groups cs W) at none ++ the_range ∷ [])
  at_place [] at none h = absurd h
  at_place (c ∷ cs) zero none h = λ i. own W the_ack c the_range (here c h.0) i ∷ above cs h.1 i
  at_place (c ∷ cs) (suc at) none h = λ i. other W the_ack c (apart c Less h.0 refl) i ∷ at_place cs at none h.1 i
