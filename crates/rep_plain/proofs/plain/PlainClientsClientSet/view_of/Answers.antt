use Rattle.std.proofs.Common.{not, Some, None, sym, ap, ◌∙◌, ◌==◌, length}
use Rattle.rep_model.specs.Views.{is_named, view}
use Rattle.rep_shared.specs.Rows.{flat}
use Rattle.rep_plain.proofs.Moves.{seen_found, named_found, any_length}
use Rattle.rep_plain.proofs.plain.PlainClientsClientSet.view_of.Goals as goal

pub returns-in_err-entry : goal.returns-in_err-entry
returns-in_err-entry c =
    let client = c.args.client.now in
    let es = c.self.inside.table.entries in
    rw c.from_residual.ensures (sym (ap (λ rows. is_named client (flat rows)) c.self.view_is) ∙ named_found client es c.self.inside.named None c.self.invariant c.in_err-entry.ensures.value)

pub returns-then-is_empty : goal.returns-then-is_empty
returns-then-is_empty c =
    let client = c.args.client.now in
    let es = c.self.inside.table.entries in
    let e = c.in_ok-entry.entry.now in
    let empty = sym c.is_empty.ensures ∙ c.if-is_empty.true in
    sym (ap (λ rows. is_named client (flat rows)) c.self.view_is)
    ∙ named_found client es c.self.inside.named (Some e) c.self.invariant c.in_ok-entry.ensures.value
    ∙ any_length e.ops.items ∙ ap (λ ops. not (length ops == 0)) (sym c.as_slice.ensures.value) ∙ ap not empty

pub returns : goal.returns
returns c =
    let client = c.args.client.now in
    let es = c.self.inside.table.entries in
    let e = c.in_ok-entry.entry.now in
    let some = sym c.is_empty.ensures ∙ c.if-is_empty.false in (
      sym (ap (λ rows. is_named client (flat rows)) c.self.view_is)
          ∙ named_found client es c.self.inside.named (Some e) c.self.invariant c.in_ok-entry.ensures.value
          ∙ any_length e.ops.items ∙ ap (λ ops. not (length ops == 0)) (sym c.as_slice.ensures.value) ∙ ap not some,
      seen_found client es c.self.inside.named e c.self.invariant c.in_ok-entry.ensures.value ∙ ap (λ rows. view client (flat rows)) c.self.view_is,
    )
