use Rattle.std.proofs.Common.{length, ap, ◌∙◌}
use Rattle.rep_model.specs.Views.{session_made}
use Rattle.rep_shared.specs.Steps.{capped}
use Rattle.rep_plain.specs.inner.Steps.{above_gaps}
use Rattle.rep_plain.proofs.Workings.{history_in_order, exceptions_of_ranges}
use Rattle.rep_shared.proofs.Workings.{parked_names}
use Rattle.rep_plain.proofs.entry.view_and_counts.Goals as goal

pub returns-clause-seen : goal.returns-clause-seen
returns-clause-seen c =
    let client = c.args.client.now in
    let S = c.args.ops.now in
    let seen = c.visible_stamp-stamp.ensures in
    let all = history_in_order client S c.in_ok-known.known.entries c.visible_stamp-stamp.result c.in_ok-known.ensures seen in
    let prefix = c.in_ok-prefix.ensures.prefix ∙ ap length all in
    let session = c.in_ok-prefix.ensures.session ∙ ap session_made all in
    λ i. record { stamp = seen i; prefix = prefix i; session = session i; pending = c.in_ok-pending.ensures i }

pub returns-clause-parked : goal.returns-clause-parked
returns-clause-parked c =
    let client = c.args.client.now in
    let S = c.args.ops.now in
    let seen = c.visible_stamp-stamp.ensures in
    let known = c.in_ok-known.ensures in
    let prefix = c.in_ok-prefix.ensures.prefix ∙ ap length (history_in_order client S c.in_ok-known.known.entries c.visible_stamp-stamp.result known seen) in
    c.count_parked-parked.ensures ∙ parked_names client S c.in_ok-known.known.entries c.visible_stamp-stamp.result c.in_ok-prefix.prefix known seen prefix

pub returns-clause-exceptions : goal.returns-clause-exceptions
returns-clause-exceptions c =
    c.in_ok-exceptions.ensures ∙ ap (λ rs. capped (above_gaps rs 255)) c.as_slice.ensures.value
    ∙ ap capped (exceptions_of_ranges c.args.client.now c.args.ops.now c.in_ok-ranges.ranges.items c.in_ok-ranges.ensures)
