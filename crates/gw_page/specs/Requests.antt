-- What a request asks for (RFC 9112 section 3).
use Rattle.std.specs.Prelude.{◌≡◌, ◌<◌, ◌≤◌, ◌⊎◌, ℕ, List, length, Option, Some, None, codes, bytes_eq, if◌then◌else◌}
use Rattle.httparse.specs.Grammar.{RequestHead, ReadsRequest, HasNoRequest, MayBecomeRequest}
use Rattle.httparse.specs.Spans.{RequestOverflows, RequestExceeds}
use Rattle.gw_page.specs.declared.request.Asked.{Asked}
use Rattle.gw_page.specs.declared.request.Asked.TheVariants as asked
use Rattle.gw_page.specs.declared.request.Method.{Method}
use Rattle.gw_page.specs.declared.request.Method.TheVariants as methods
use Rattle.gw_page.specs.declared.request.Target.{Target}
use Rattle.gw_page.specs.declared.request.Target.TheVariants as targets
use Rattle.gw_page.specs.declared.request.TheConstants.{MOST_OCTETS, MOST_FIELDS}

-- the method of these octets, if the page knows it
abbrev pub method_of : List ℕ → Option Method
method_of octets =
    if bytes_eq octets (codes "GET") then Some methods.Get
    else if bytes_eq octets (codes "HEAD") then Some methods.Head
    else None

-- what is at this path, if anything is
abbrev pub target_of : List ℕ → Option Target
target_of path =
    if bytes_eq path (codes "/") then Some targets.Front
    else if bytes_eq path (codes "/metrics") then Some targets.Metrics
    else if bytes_eq path (codes "/clients") then Some targets.Clients
    else if bytes_eq path (codes "/log") then Some targets.Log
    else if bytes_eq path (codes "/healthz") then Some targets.Health
    else None

-- what a method and what is at a path ask for
abbrev pub asked_by : Option Method → Option Target → Asked
asked_by None target = asked.OtherMethod
asked_by (Some method) None = asked.Elsewhere method
asked_by (Some method) (Some target) = asked.Shown method target

-- the octets begin with a head that asks for this
abbrev pub IsHeadOf : List ℕ → Asked → Type 0
IsHeadOf octets what =
    (head : RequestHead) × (rest : List ℕ) × ReadsRequest octets head rest
    × (what ≡ asked_by (method_of head.method) (target_of head.target))

-- what the octets of a request ask for
abbrev pub IsRequestFor : List ℕ → Asked → Type 0
IsRequestFor octets what =
    ((what ≡ asked.TooLarge)
    × ((MOST_OCTETS < length octets) ⊎ RequestExceeds MOST_FIELDS octets))
    ⊎ (((what ≡ asked.Malformed) × (length octets ≤ MOST_OCTETS) × HasNoRequest octets)
    ⊎ ((length octets ≤ MOST_OCTETS) × IsHeadOf octets what))

-- further octets may make these a request
abbrev pub MayGrow : List ℕ → Type 0
MayGrow octets =
    (length octets ≤ MOST_OCTETS) × HasNoRequest octets × MayBecomeRequest octets

-- no further octets change what is asked
abbrev pub IsEnough : List ℕ → Type 0
IsEnough octets =
    (MOST_OCTETS < length octets)
    ⊎ (((head : RequestHead) × (rest : List ℕ) × ReadsRequest octets head rest)
    ⊎ RequestOverflows MOST_FIELDS octets)
