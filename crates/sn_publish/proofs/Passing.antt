-- Who is passed over by a publication gets nothing of it.
use Rattle.std.proofs.Common.{◌≡◌, ℕ, false, List, [], ◌∷◌, ◌++◌, drop, Option, Some, None, is_some, option_and_then, refl, sym, ap, ◌∙◌, true≢false, append-nil, append_assoc}
use Rattle.std.specs.Option.{option_map}
use Rattle.std.specs.List.{cons_option}
use Rattle.sn_session.specs.declared.session.Session.{Session}
use Rattle.sn_tables.specs.Subscriptions.{subscribed_qos}
use Rattle.rep_op.specs.declared.op.Op.{Op}
use Rattle.rep_op.specs.declared.op.Put.{Put}
use Rattle.rep_model.specs.declared.view.ClientView.{ClientView}
use Rattle.rep_model.specs.Views.{view, clients}
use Rattle.rep_model.specs.Asking.{is_subscribed, NoneAsks, IsCandidate}
use Rattle.sn_plan.specs.declared.draft.NewPut.{NewPut}
use Rattle.sn_local.specs.Seen.{seen_of}
use Rattle.sn_publish.specs.Recipients.{effective_qos, qos_in, qos_for, message_for, puts_among}

module _ (topic : List ℕ) (qos : ℕ) where
  none_asked : (pending : List Put) (s : Session) (asked : Option ℕ) → is_some asked ≡ false → option_and_then (effective_qos pending qos s) asked ≡ None
  none_asked pending s None e = refl
  none_asked pending s (Some q) e = absurd (true≢false e)

  none_within : (pending : List Put) (session : Option Session) → is_some (option_and_then (λ (s : Session). subscribed_qos topic s.subscriptions) session) ≡ false → option_and_then (qos_in pending topic qos) session ≡ None
  none_within pending None e = refl
  none_within pending (Some s) e = none_asked pending s (subscribed_qos topic s.subscriptions) e

  -- a client of a view that is not subscribed is no recipient
  unasked : (v : ClientView) → is_subscribed topic v ≡ false → qos_for topic qos v ≡ None
  unasked v e = none_within v.pending v.session e

  module _ (S : List Op) (body : List ℕ) where
    -- clients none of whom asks get nothing
    puts_passed : (passed rest : List (List ℕ)) → NoneAsks topic S passed → puts_among (seen_of S) (passed ++ rest) topic qos body ≡ puts_among (seen_of S) rest topic qos body
    puts_passed [] rest none = refl
    puts_passed (c ∷ passed) rest none =
        ap (λ asked. cons_option (option_map (message_for topic body c) asked) (puts_among (seen_of S) (passed ++ rest) topic qos body)) (unasked (view c S) none.0)
        ∙ puts_passed passed rest none.1

    puts_none : (cs : List (List ℕ)) → NoneAsks topic S cs → puts_among (seen_of S) cs topic qos body ≡ []
    puts_none [] none = refl
    puts_none (c ∷ cs) none =
        ap (λ asked. cons_option (option_map (message_for topic body c) asked) (puts_among (seen_of S) cs topic qos body)) (unasked (view c S) none.0)
        ∙ puts_none cs none.1

    -- the messages for the clients from a place on
    abbrev rest_from : ℕ → List NewPut
    rest_from place = puts_among (seen_of S) (drop place (clients S)) topic qos body

    -- from a candidate on there are the message for the candidate, where it gets one, and those behind it
    puts_from : (place behind : ℕ) (c : List ℕ) (seen : ClientView) → IsCandidate topic S place behind c seen
        → rest_from place ≡ cons_option (option_map (message_for topic body c) (qos_for topic qos seen)) (rest_from behind)
    puts_from place behind c seen is =
        ap (λ cs. puts_among (seen_of S) cs topic qos body) is.stands
        ∙ puts_passed is.passed (c ∷ drop behind (clients S)) is.none_asks
        ∙ ap (λ v. cons_option (option_map (message_for topic body c) (qos_for topic qos v)) (rest_from behind)) (sym is.shown)

    module _ (made whole : List NewPut) (place : ℕ) (so_far : made ++ rest_from place ≡ whole) where
      -- a candidate that gets no message
      pub walked_by : (behind : ℕ) (c : List ℕ) (seen : ClientView) (message : Option NewPut) → IsCandidate topic S place behind c seen
          → message ≡ option_map (message_for topic body c) (qos_for topic qos seen) → message ≡ None → made ++ rest_from behind ≡ whole
      walked_by behind c seen message is e none =
          ap (λ rest. made ++ rest) (ap (λ m. cons_option m (rest_from behind)) (sym none ∙ e) ∙ sym (puts_from place behind c seen is)) ∙ so_far

      -- a candidate that gets one
      pub walked_on : (behind : ℕ) (c : List ℕ) (seen : ClientView) (message : Option NewPut) (put : NewPut) (more : List NewPut) → IsCandidate topic S place behind c seen
          → message ≡ option_map (message_for topic body c) (qos_for topic qos seen) → message ≡ Some put → more ≡ made ++ put ∷ [] → more ++ rest_from behind ≡ whole
      walked_on behind c seen message put more is e some m =
          ap (λ all. all ++ rest_from behind) m ∙ append_assoc made (put ∷ []) (rest_from behind)
          ∙ ap (λ rest. made ++ rest) (ap (λ m. cons_option m (rest_from behind)) (sym some ∙ e) ∙ sym (puts_from place behind c seen is)) ∙ so_far

      -- nobody who is left asks
      pub walked_through : NoneAsks topic S (drop place (clients S)) → made ≡ whole
      walked_through none = sym (append-nil made) ∙ ap (λ rest. made ++ rest) (sym (puts_none (drop place (clients S)) none)) ∙ so_far
