-- What rows hold is well made, and of clients.
use Rattle.std.proofs.Common.{◌≡◌, ℕ, true, List, [], ◌∷◌, ◌++◌, Some, None, Contains, refl}
use Rattle.std.specs.List.{AllByRecursion}
use Rattle.std.proofs.lemmas.List.Elements.{All-from_recursion, All-contains}
use Rattle.rep_op.specs.declared.op.Op.{Op}
use Rattle.rep_op.specs.declared.op.Op.TheVariants.{Session as OfSession, Put as OfPut, Ack, Retain as OfRetain}
use Rattle.rep_op.specs.Orders.{is_of_client, AreOfClients}
use Rattle.rep_ops.specs.Making.{AreWellMade}
use Rattle.rep_model.specs.Views.{named}
use Rattle.rep_model.specs.Topics.{topics}
use Rattle.rep_model.proofs.Beside.{no_topics_of}
use Rattle.rep_shared.specs.Rows.{flat, IsOwn}

pub both_made : (xs ys : List Op) → AreWellMade xs → AreWellMade ys → AreWellMade (xs ++ ys)
both_made [] ys h g = g
both_made (x ∷ xs) ys h g = (h.0, both_made xs ys h.1 g)

pub own_made : (c : List ℕ) (ops : List Op) → IsOwn c ops → AreWellMade ops
own_made c [] h = tt
own_made c (op ∷ ops) h = (h.0.1, own_made c ops h.1)

-- what rows hold is well made
pub made_rows : (rows : List (List ℕ × List Op)) → AllByRecursion (λ row. IsOwn row.0 row.1) rows → AreWellMade (flat rows)
made_rows [] h = tt
made_rows (row ∷ rows) h = both_made row.1 (flat rows) (own_made row.0 row.1 h.0) (made_rows rows h.1)

-- ---- of clients

none_some : {A P : Type 0} (x : A) → None ≡ Some x → P
none_some x h = cc

named_of_client : (c : List ℕ) (op : Op) → named op ≡ Some (c, c) → is_of_client op ≡ true
named_of_client c (OfSession d stamp counter change) e = refl
named_of_client c (OfPut d p) e = refl
named_of_client c (Ack d origin low high) e = refl
named_of_client c (OfRetain t k) e = none_some (c, c) e

-- each operation of a list of clients is of one
pub client_in : (S : List Op) → AreOfClients S → (op : Op) → Contains S op → is_of_client op ≡ true
client_in S all op h = All-contains (λ op. is_of_client op ≡ true) S op (All-from_recursion (λ op. is_of_client op ≡ true) S all) h

pub both_of_clients : (xs ys : List Op) → AreOfClients xs → AreOfClients ys → AreOfClients (xs ++ ys)
both_of_clients [] ys h g = g
both_of_clients (x ∷ xs) ys h g = (h.0, both_of_clients xs ys h.1 g)

pub own_of_clients : (c : List ℕ) (ops : List Op) → IsOwn c ops → AreOfClients ops
own_of_clients c [] h = tt
own_of_clients c (op ∷ ops) h = (named_of_client c op h.0.0, own_of_clients c ops h.1)

-- what rows hold is of clients
pub rows_of_clients : (rows : List (List ℕ × List Op)) → AllByRecursion (λ row. IsOwn row.0 row.1) rows → AreOfClients (flat rows)
rows_of_clients [] h = tt
rows_of_clients (row ∷ rows) h = both_of_clients row.1 (flat rows) (own_of_clients row.0 row.1 h.0) (rows_of_clients rows h.1)

-- so it says nothing of topics
pub rows_without_topics : (rows : List (List ℕ × List Op)) → AllByRecursion (λ row. IsOwn row.0 row.1) rows → topics (flat rows) ≡ []
rows_without_topics rows h = no_topics_of (flat rows) (rows_of_clients rows h)
