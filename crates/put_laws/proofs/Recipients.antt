-- The messages of a publication are those for its recipients.
use Rattle.std.proofs.Common.{◌≡◌, ℕ, ◌⊎◌, List, [], ◌∷◌, Option, Some, None, option_map, filter, Contains, refl, sym, ap, ◌∙◌, subst, inl, inr}
use Rattle.std.specs.List.{cons_option}
use Rattle.std.proofs.lemmas.List.Elements.{Contains-append_left, Contains-append_right, Contains-append_cases, Contains-push, Contains-push_cases}
use Rattle.sn_session.specs.declared.will.Will.{Will}
use Rattle.sn_local.specs.Seen.{Seen}
use Rattle.sn_plan.specs.declared.draft.NewPut.{NewPut}
use Rattle.sn_publish.specs.Recipients.{qos_for, message_for, puts_among, puts_for, is_another, puts_of_will}
use Rattle.put_laws.proofs.Acked.{none-there}
use Rattle.put_laws.specs.Puts.{IsAmongRecipients}

pub head_there : {X : Type 0} (x : X) (xs : List X) → Contains (x ∷ xs) x
head_there x xs = Contains-append_left (x ∷ []) xs x (Contains-push [] x)

pub behind_there : {X : Type 0} (y x : X) (xs : List X) → Contains xs x → Contains (y ∷ xs) x
behind_there y x xs h = Contains-append_right (y ∷ []) xs x h

pub head_or : {X : Type 0} (y x : X) (xs : List X) → Contains (y ∷ xs) x → (y ≡ x) ⊎ Contains xs x
head_or y x xs h =
    elim (Contains-append_cases (y ∷ []) xs x h) [
      | inl one ↦ elim (Contains-push_cases [] y x one) [ inl none ↦ absurd (none-there x none) | inr same ↦ inl same ]
      | inr more ↦ inr more
    ]

behind_one : (o : Option NewPut) (ps : List NewPut) (m : NewPut) → Contains ps m → Contains (cons_option o ps) m
behind_one None ps m h = h
behind_one (Some p) ps m h = behind_there p m ps h

module _ (seen : Seen) (topic : List ℕ) (qos : ℕ) (body : List ℕ) where
  abbrev among : List (List ℕ) → List NewPut
  among cs = puts_among seen cs topic qos body

  among-head : (c : List ℕ) (q : ℕ) (rest : List (List ℕ)) → qos_for topic qos (seen.of c) ≡ Some q → Contains (among (c ∷ rest)) (message_for topic body c q)
  among-head c q rest e =
      subst (λ (ps : List NewPut). Contains ps (message_for topic body c q))
      (sym (ap (λ o. cons_option (option_map (message_for topic body c) o) (among rest)) e))
      (head_there (message_for topic body c q) (among rest))

  among-has : (cs : List (List ℕ)) (c : List ℕ) (q : ℕ) → Contains cs c → qos_for topic qos (seen.of c) ≡ Some q → Contains (among cs) (message_for topic body c q)
  among-has [] c q h e = absurd (none-there c h)
  among-has (d ∷ rest) c q h e =
      elim (head_or d c rest h) [
        | inl same ↦ subst (λ (x : List ℕ). Contains (among (x ∷ rest)) (message_for topic body c q)) (sym same) (among-head c q rest e)
        | inr more ↦ behind_one (option_map (message_for topic body d) (qos_for topic qos (seen.of d))) (among rest) (message_for topic body c q) (among-has rest c q more e)
      ]

  abbrev IsFor : List (List ℕ) → NewPut → Type 0
  IsFor cs p = IsAmongRecipients seen cs topic qos body p

  for-more : (d : List ℕ) (rest : List (List ℕ)) (p : NewPut) → IsFor rest p → IsFor (d ∷ rest) p
  for-more d rest p h = (behind_there d p.client rest h.0, h.1, h.2, h.3)

  among-only : (cs : List (List ℕ)) (p : NewPut) → Contains (among cs) p → IsFor cs p
  among-only [] p h = absurd (none-there p h)
  among-only (d ∷ rest) p h =
      elim (qos_for topic qos (seen.of d)) as (λ o. qos_for topic qos (seen.of d) ≡ o → Contains (cons_option (option_map (message_for topic body d) o) (among rest)) p → IsFor (d ∷ rest) p) [
        | None ↦ λ e there. for-more d rest p (among-only rest p there)
        | Some q ↦ λ e there.
            elim (head_or (message_for topic body d q) p (among rest) there) [
              | inl same ↦ subst (IsFor (d ∷ rest)) same (head_there d rest, e, refl, refl)
              | inr more ↦ for-more d rest p (among-only rest p more)
            ]
      ] refl h

  same_message : (p : NewPut) → p.topic ≡ topic → p.body ≡ body → message_for topic body p.client p.qos ≡ p
  same_message p t b =
      ap (λ (x : List ℕ). message_for x body p.client p.qos) (sym t)
      ∙ ap (λ (x : List ℕ). message_for p.topic x p.client p.qos) (sym b)

  pub for-among : (cs : List (List ℕ)) (p : NewPut) → (Contains (among cs) p → IsFor cs p) × (IsFor cs p → Contains (among cs) p)
  for-among cs p = (
    among-only cs p,
    λ h. subst (λ (x : NewPut). Contains (among cs) x) (same_message p h.2 h.3) (among-has cs p.client p.qos h.0 h.1),
  )

pub for-recipients : (seen : Seen) (topic : List ℕ) (qos : ℕ) (body : List ℕ) (p : NewPut)
    → (Contains (puts_for seen topic qos body) p → IsAmongRecipients seen seen.all topic qos body p) × (IsAmongRecipients seen seen.all topic qos body p → Contains (puts_for seen topic qos body) p)
for-recipients seen topic qos body p = for-among seen topic qos body seen.all p

pub for-will : (seen : Seen) (c : List ℕ) (will : Will) (p : NewPut)
    → (Contains (puts_of_will seen c will) p → IsAmongRecipients seen (filter (is_another c) seen.all) will.topic will.qos will.message p)
    × (IsAmongRecipients seen (filter (is_another c) seen.all) will.topic will.qos will.message p → Contains (puts_of_will seen c will) p)
for-will seen c will p = for-among seen will.topic will.qos will.message (filter (is_another c) seen.all) p
