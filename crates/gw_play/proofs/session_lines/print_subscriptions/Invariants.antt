use Rattle.std.proofs.Common.{◌≡◌, ◌++◌, take, flat_map}
use Rattle.std.specs.Prelude.{string_bytes}
use Rattle.gw_play.specs.Sessions.{subscription_line}
use Rattle.gw_play.proofs.session_lines.print_subscriptions.Given as goal

-- a line for each so far
abbrev pub invariant-loop-subscription : goal.invariant-loop-subscription
invariant-loop-subscription l = string_bytes l.text ≡ string_bytes l.fn.text ++ flat_map subscription_line (take l.subscription-index l.subscriptions)
