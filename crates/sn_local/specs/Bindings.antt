-- Which address is which client.
use Rattle.std.specs.Prelude.{ℕ, ◌==◌, Bool, false, ◌&&◌, not, if◌then◌else◌, List, [], ◌∷◌, filter, fold, Option, Some, None, IsTrue}
use Rattle.std.specs.declared.cmp.Ordering.{Ordering}
use Rattle.std.specs.List.{IsDistinct}
use Rattle.std.specs.Ordering.{nat_cmp, ordering_then}
use Rattle.sn_tables.specs.Tables.{is_ascending, with_entry}
use Rattle.rep_op.specs.declared.op.Stamp.{Stamp}
use Rattle.rep_op.specs.Sets.{same_client}
use Rattle.sn_local.specs.declared.config.Addr.{Addr}
use Rattle.sn_local.specs.declared.local.Binding.{Binding}
use Rattle.sn_local.specs.declared.local.LocalChange.{LocalChange}
use Rattle.sn_local.specs.declared.local.LocalChange.TheVariants.{Bind, Unbind}
use Rattle.sn_local.specs.Seen.{Seen}

-- whether two addresses have the same host and port
abbrev pub same_address : Addr → Addr → Bool
same_address a b = (a.host == b.host) && (a.port == b.port)

-- addresses are ordered by host, then port
abbrev pub address_cmp : Addr → Addr → Ordering
address_cmp a b = ordering_then (nat_cmp a.host b.host) (nat_cmp a.port b.port)

-- bindings are ordered by address
abbrev pub binding_cmp : Binding → Binding → Ordering
binding_cmp b d = address_cmp b.address d.address

-- whether two bindings are of one client
abbrev pub of_one_client : Binding → Binding → Bool
of_one_client b d = same_client b.client d.client

-- the bindings of a gateway: they ascend by address, so no address has two, and no client has two
abbrev pub AreBindings : List Binding → Type 0
AreBindings bindings =
    IsTrue (is_ascending binding_cmp bindings) × IsDistinct of_one_client bindings

-- whether a binding has neither the address nor the client
abbrev pub is_other_binding : Addr → List ℕ → Binding → Bool
is_other_binding a c binding =
    not (same_address binding.address a) && not (same_client binding.client c)

-- a new binding, which replaces all others of its address and of its client
abbrev pub bound : Addr → List ℕ → List Binding → List Binding
bound a c bindings =
    with_entry binding_cmp (record { address = a; client = c })
    (filter (is_other_binding a c) bindings)

-- whether a binding is of another client
abbrev pub is_of_other : List ℕ → Binding → Bool
is_of_other c binding = not (same_client binding.client c)

-- the client no longer has a binding
abbrev pub unbound : List ℕ → List Binding → List Binding
unbound c bindings = filter (is_of_other c) bindings

-- the bindings after this change; only `Bind` and `Unbind` change them
abbrev pub binding_change : List Binding → LocalChange → List Binding
binding_change bindings (Bind a c) = bound a c bindings
binding_change bindings (Unbind c) = unbound c bindings
binding_change bindings change = bindings

-- the bindings after these changes
abbrev pub bindings_after : List Binding → List LocalChange → List Binding
bindings_after bindings changes = fold binding_change bindings changes

-- the client of an address
abbrev pub client_at : Addr → List Binding → Option (List ℕ)
client_at a [] = None
client_at a (binding ∷ rest) =
    if same_address binding.address a then Some binding.client else client_at a rest

-- the address of a client
abbrev pub address_of : List ℕ → List Binding → Option Addr
address_of c [] = None
address_of c (binding ∷ rest) =
    if same_client binding.client c then Some binding.address else address_of c rest

-- whether there is a stamp, and it is of this gateway
abbrev pub is_stamp_of : ℕ → Option Stamp → Bool
is_stamp_of g None = false
is_stamp_of g (Some stamp) = stamp.gateway == g

-- whether the gateway owns the client: the visible stamp has its number
abbrev pub is_owned : ℕ → Seen → List ℕ → Bool
is_owned g seen c = is_stamp_of g (seen.of c).stamp

-- whether the gateway owns the client of the binding
abbrev pub has_owned : ℕ → Seen → Binding → Bool
has_owned g seen binding = is_owned g seen binding.client

-- the bindings of the clients that the gateway owns
abbrev pub owned_bindings : ℕ → Seen → List Binding → List Binding
owned_bindings g seen bindings = filter (has_owned g seen) bindings
