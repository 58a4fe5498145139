-- Only those far before the greatest number are looked at twice.
use Rattle.std.proofs.Common.{ℕ, ◌-◌, ◌&&◌, nat_le, ap, ◌∙◌}
use Rattle.std.specs.List.{list_any}
use Rattle.sn_tick.specs.Expiry.{is_left_behind}
use Rattle.sn_tick.proofs.Stretched.{stretched_by}
use Rattle.sn_tick.proofs.expiry.is_stretched.Goals as goal

pub returns : goal.returns
returns c =
    let now = c.args.now in
    let name = c.args.name in
    let pending = c.args.pending.now in
    c.any_behind.ensures
    ∙ ap (λ (greatest : ℕ). list_any (λ first. nat_le 1024 (greatest - first.seq) && is_left_behind now name pending first) pending) c.greatest_number-greatest.ensures
    ∙ stretched_by now name pending
