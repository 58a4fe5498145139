-- Which clients a publication may pass over.
use Rattle.std.specs.Prelude.{◌≡◌, ℕ, Bool, false, List, ◌∷◌, ◌++◌, drop, is_some, option_and_then}
use Rattle.std.specs.List.{AllByRecursion}
use Rattle.sn_tables.specs.Subscriptions.{subscribed_qos}
use Rattle.rep_op.specs.declared.op.Op.{Op}
use Rattle.rep_model.specs.declared.view.ClientView.{ClientView}
use Rattle.rep_model.specs.Views.{view, clients}

-- whether a filter of the client of this view asks for the topic
abbrev pub is_subscribed : List ℕ → ClientView → Bool
is_subscribed topic v =
    is_some (option_and_then (λ s. subscribed_qos topic s.subscriptions) v.session)

-- no filter of these clients asks for the topic
abbrev pub NoneAsks : List ℕ → List Op → List (List ℕ) → Type 0
NoneAsks topic S cs = AllByRecursion (λ c. is_subscribed topic (view c S) ≡ false) cs

-- The client c has this view, and the clients after it begin at `behind`. Of the clients from
-- `place` on, none of those before c has a filter that asks for the topic.
pub record IsCandidate (topic : List ℕ) (S : List Op) (place behind : ℕ) (c : List ℕ)
    (seen : ClientView) : Type 0 where
  pub passed : List (List ℕ)
  pub stands : drop place (clients S) ≡ passed ++ c ∷ drop behind (clients S)
  pub none_asks : NoneAsks topic S passed
  pub shown : seen ≡ view c S
