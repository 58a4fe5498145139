-- Who leaves out the message for a client asks all others.
use Rattle.std.proofs.Common.{◌≡◌, ℕ, Bool, true, false, if◌then◌else◌, List, [], ◌∷◌, filter, Option, Some, None, refl, ap, ◌∙◌}
use Rattle.std.specs.Option.{option_map}
use Rattle.std.specs.List.{cons_option}
use Rattle.sn_plan.specs.declared.draft.NewPut.{NewPut}
use Rattle.sn_local.specs.Seen.{Seen}
use Rattle.sn_publish.specs.Recipients.{qos_for, message_for, puts_among, is_another}

module _ (seen : Seen) (topic : List ℕ) (qos : ℕ) (body c : List ℕ) where
  -- the messages that are for others
  abbrev for_others : List NewPut → List NewPut
  for_others puts = filter (λ put. is_another c put.client) puts

  -- the messages for these clients
  abbrev among : List (List ℕ) → List NewPut
  among clients = puts_among seen clients topic qos body

  abbrev one_of : List ℕ → Option ℕ → Option NewPut
  one_of d asked = option_map (message_for topic body d) asked

  -- one client more, whose message stays where the client is another
  one_more : (d : List ℕ) (asked : Option ℕ) (another : Bool) (puts others : List NewPut) → is_another c d ≡ another → for_others puts ≡ others
      → for_others (cons_option (one_of d asked) puts) ≡ (if another then cons_option (one_of d asked) others else others)
  one_more d None true puts others is h = h
  one_more d None false puts others is h = h
  one_more d (Some q) true puts others is h =
      ap (λ b. if b then message_for topic body d q ∷ for_others puts else for_others puts) is ∙ ap (λ rest. message_for topic body d q ∷ rest) h
  one_more d (Some q) false puts others is h = ap (λ b. if b then message_for topic body d q ∷ for_others puts else for_others puts) is ∙ h

  asked_of : (another : Bool) (d : List ℕ) (rest : List (List ℕ)) → (if another then among (d ∷ rest) else among rest) ≡ among (if another then d ∷ rest else rest)
  asked_of true d rest = refl
  asked_of false d rest = refl

  pub left_out : (clients : List (List ℕ)) → for_others (among clients) ≡ among (filter (is_another c) clients)
  left_out [] = refl
  left_out (d ∷ rest) =
      one_more d (qos_for topic qos (seen.of d)) (is_another c d) (among rest) (among (filter (is_another c) rest)) refl (left_out rest)
      ∙ asked_of (is_another c d) d (filter (is_another c) rest)
