-- What is answered of clients beside topics is what is answered of clients.
use Rattle.std.proofs.Common.{◌≡◌, ℕ, ◌+◌, List, [], ◌∷◌, ◌++◌, drop, Option, Some, None, Bor, sym, ap, ◌∙◌, subst}
use Rattle.std.specs.Option.{MatchOption}
use Rattle.rep_op.specs.declared.op.Op.{Op}
use Rattle.rep_op.specs.Orders.{AreOfTopics}
use Rattle.rep_model.specs.declared.view.ClientView.{ClientView}
use Rattle.rep_model.specs.Views.{view, clients}
use Rattle.rep_model.specs.Asking.{is_subscribed, NoneAsks, IsCandidate}
use Rattle.rep_model.proofs.Beside.{view-front, clients-front}

module _ (A T : List Op) (t : AreOfTopics T) where
  -- the client of a place
  pub placed_front : (place : ℕ) (o : Option (ℕ × Bor (List ℕ) × Bor ClientView))
      → MatchOption o (drop place (clients A) ≡ []) (λ found. (drop place (clients A) ≡ found.1.now ∷ drop found.0 (clients A)) × (found.0 ≡ place + 1) × (found.2.now ≡ view found.1.now A))
      → MatchOption o (drop place (clients (A ++ T)) ≡ []) (λ found. (drop place (clients (A ++ T)) ≡ found.1.now ∷ drop found.0 (clients (A ++ T))) × (found.0 ≡ place + 1) × (found.2.now ≡ view found.1.now (A ++ T)))
  placed_front place None h = ap (drop place) (clients-front A T t) ∙ h
  placed_front place (Some found) h = (
    ap (drop place) (clients-front A T t) ∙ h.0 ∙ ap (λ cs. found.1.now ∷ drop found.0 cs) (sym (clients-front A T t)),
    h.1,
    h.2 ∙ sym (view-front A T t found.1.now),
  )

  none_asks : (topic : List ℕ) (cs : List (List ℕ)) → NoneAsks topic A cs → NoneAsks topic (A ++ T) cs
  none_asks topic [] h = tt
  none_asks topic (c ∷ cs) h = (ap (is_subscribed topic) (view-front A T t c) ∙ h.0, none_asks topic cs h.1)

  -- whom a publication may be for
  pub candidate_front : (topic : List ℕ) (place : ℕ) (o : Option (ℕ × Bor (List ℕ) × Bor ClientView))
      → MatchOption o (NoneAsks topic A (drop place (clients A))) (λ found. IsCandidate topic A place found.0 found.1.now found.2.now)
      → MatchOption o (NoneAsks topic (A ++ T) (drop place (clients (A ++ T)))) (λ found. IsCandidate topic (A ++ T) place found.0 found.1.now found.2.now)
  candidate_front topic place None h = subst (λ cs. NoneAsks topic (A ++ T) (drop place cs)) (sym (clients-front A T t)) (none_asks topic (drop place (clients A)) h)
  candidate_front topic place (Some found) h = record {
    passed = h.passed;
    stands = ap (drop place) (clients-front A T t) ∙ h.stands ∙ ap (λ cs. h.passed ++ found.1.now ∷ drop found.0 cs) (sym (clients-front A T t));
    none_asks = none_asks topic h.passed h.none_asks;
    shown = h.shown ∙ sym (view-front A T t found.1.now);
  }
