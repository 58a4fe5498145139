-- A draft with what follows it, by the client that it is for.
use Rattle.std.proofs.Common.{◌≡◌, ℕ, List, Option, Some, sym, ap, ◌∙◌}
use Rattle.sn_topic.specs.Table.{Entries}
use Rattle.sn_local.specs.declared.config.Addr.{Addr}
use Rattle.sn_plan.specs.declared.row.Follow.{Follow}
use Rattle.sn_plan.specs.Drafts.{Drafted}
use Rattle.sn_local.specs.Seen.{Seen}
use Rattle.sn_plan.specs.Bound.{session_of}
use Rattle.sn_exchange.specs.declared.peer.Peer.{Peer}
use Rattle.sn_exchange.specs.Following.{peer_at, followed_by, followed_for}

pub followed-at : (predefined : Entries) (seen : Seen) (a : Addr) (now : ℕ) (d : Drafted) (follow : Follow) (client : Option (List ℕ)) (c : List ℕ) (peer : Peer) (new : Drafted)
    → client ≡ Some c → peer ≡ peer_at a c now → new ≡ followed_by predefined peer (session_of seen peer.client) (seen.of peer.client).pending d follow
    → new ≡ followed_for predefined seen a now d follow client
followed-at predefined seen a now d follow client c peer new is at h =
    h ∙ ap (λ (p : Peer). followed_by predefined p (session_of seen p.client) (seen.of p.client).pending d follow) at
    ∙ ap (λ (x : Option (List ℕ)). followed_for predefined seen a now d follow x) (sym is)
