use Rattle.std.proofs.Common.{◌≡◌, List, sym, ap, subst, ◌∙◌}
use Rattle.std.proofs.lemmas.Result.{IfOk-weaker}
use Rattle.rep_op.specs.Orders.{client_cmp}
use Rattle.rep_ops.specs.Splitting.{all_of}
use Rattle.std.specs.List.Sorted.{IsStrictlySortedBy}
use Rattle.rep_model.proofs.Named.{clients-ascend}
use Rattle.rep_op.specs.Values.{AreValues}
use Rattle.rep_digest.specs.inner.Steps.{groups}
use Rattle.rep_digest.proofs.Worked.{worked}
use Rattle.rep_digest.proofs.working.clients_of.Goals as goal

pub acknowledgements-requires : goal.acknowledgements-requires
acknowledgements-requires g c =
    let K = g.R.Replica.kept c.args.replica.now in
    subst (λ (cs : List _). IsStrictlySortedBy client_cmp cs) (sym (c.as_slice-2.ensures.value ∙ c.in-Ok.ensures.ok)) (clients-ascend K)

pub returns : goal.returns
returns g c =
    let K = g.R.Replica.kept c.args.replica.now in
    let clients = c.in-Ok.clients.items in
    let cs = c.as_slice-4.result.now in
    let held = c.in-Ok-held.held.items in
    let values = subst AreValues (ap all_of c.as_slice.ensures.value) c.are_values.ensures in
    let grouped : c.as_slice-5.result.now ≡ groups cs (all_of held) =
    c.as_slice-5.ensures.value ∙ c.in-Ok-acknowledgements.ensures ∙ (λ i. groups ((c.as_slice-2.ensures.value ∙ sym c.as_slice-4.ensures.value) i) (all_of (c.as_slice-3.ensures.value i))) in
    IfOk-weaker c.entries_of-entries.result _ _
    (λ entries e. worked K held cs entries.items c.in-Ok-held.ensures.ok values (c.as_slice-4.ensures.value ∙ c.in-Ok.ensures.ok) e) (c.entries_of-entries.ensures (all_of held) grouped)
