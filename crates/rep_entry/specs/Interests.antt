-- Which topics a client's filters may ask for, by a few marks.
use Rattle.std.specs.Prelude.{◌≡◌, ℕ, ◌+◌, ◌*◌, ◌/◌, ◌%◌, ◌==◌, Bool, true, ⊤, List, fold, Option, Some, None}
use Rattle.std.specs.Int.{bit_at}
use Rattle.std.specs.List.{AllByRecursion}
use Rattle.sn_topic.specs.Matching.{is_match}
use Rattle.sn_session.specs.declared.session.Session.{Session}
use Rattle.sn_tables.specs.declared.subscriptions.Subscription.{Subscription}

-- a number of 32 bits, mixed with one octet more
unfoldable pub mixed_with : ℕ → ℕ → ℕ
mixed_with mixed octet = ((mixed + octet) * 16777619) % 4294967296

-- the mark of a topic: one of 64
unfoldable pub mark_of : List ℕ → ℕ
mark_of octets = fold mixed_with 2166136261 octets / 67108864

-- whether a mark is among those of a number, each bit of which is one
abbrev pub has_mark : ℕ → ℕ → Bool
has_mark marks mark = bit_at marks mark == 1

-- each topic that the filter asks for has its mark among these
abbrev pub AsksWithin : ℕ → List ℕ → Type 0
AsksWithin marks filter =
    (topic : List ℕ) → is_match filter topic ≡ true → has_mark marks (mark_of topic) ≡ true

-- each topic that these subscriptions ask for has its mark among these
abbrev pub AskWithin : ℕ → List Subscription → Type 0
AskWithin marks subscriptions = AllByRecursion (λ s. AsksWithin marks s.filter) subscriptions

-- each topic that the session asks for has its mark among these; without a session it asks for none
abbrev pub SessionWithin : ℕ → Option Session → Type 0
SessionWithin marks None = ⊤
SessionWithin marks (Some session) = AskWithin marks session.subscriptions
