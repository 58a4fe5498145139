use Rattle.std.proofs.Common.{◌≡◌, ◌++◌, take, flat_map}
use Rattle.gw_page.specs.Clients.{client_page_line}
use Rattle.gw_page.proofs.clients.print_clients.Given as goal

-- a line for each so far
abbrev pub invariant-loop-client : goal.invariant-loop-client
invariant-loop-client l =
    l.text.items ≡ l.fn.text.items ++ flat_map client_page_line (take l.client-index l.seen)
