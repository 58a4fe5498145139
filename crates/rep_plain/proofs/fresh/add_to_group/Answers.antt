use Rattle.std.proofs.Common.{◌≡◌, ◌++◌, ◌∷◌, [], true, false, cond, Some, refl, sym, ap, ◌∙◌, is_eq, Vec, Global}
use Rattle.std.specs.Option.{unwrap_or}
use Rattle.std.specs.BTreeMap.{is_at}
use Rattle.std.specs.Map.{lookup}
use Rattle.std.specs.FinMap.{find}
use Rattle.std.proofs.lemmas.Map.Views.{tells_apart}
use Rattle.rep_op.specs.declared.op.Op.{Op}
use Rattle.rep_op.specs.Orders.{client_cmp, client_of}
use Rattle.rep_model.proofs.Readers.{client_exact}
use Rattle.rep_shared.specs.Rows.{own}
use Rattle.rep_plain.specs.inner.Rows.{row_grown}
use Rattle.rep_plain.specs.Tables.{rows_of}
use Rattle.rep_plain.specs.inner.Tables.{groups_of}
use Rattle.rep_plain.proofs.Growing.{look_up, grown_there, grown_apart, not_same}
use Rattle.rep_plain.proofs.fresh.add_to_group.Goals as goal

pub returns-in_ok-insert-in-Ok : goal.returns-in_ok-insert-in-Ok
returns-in_ok-insert-in-Ok c =
    λ D h q.
    let items = λ (ops : Vec Op Global). ops.items in
    let rows = rows_of c.args.table.now.entries in
    let op = c.args.op in
    let client = c.in_ok-client.client in
    let mid = c.with_last.new.groups.entries in
    let new = c.insert.new.self.entries in
    let is : client ≡ client_of op = c.in_ok-client.ensures ∙ c.client.ensures in
    let now = c.in_ok-insert-in-Ok.ensures.updates.0 q in
    elim (is_eq (client_cmp client q)) as (λ b. is_eq (client_cmp client q) ≡ b → find client_cmp q (groups_of new) ≡ row_grown q rows (D ++ op ∷ [])) [
      | true ↦ λ t.
          let here : lookup (is_at (client_cmp q)) new ≡ Some c.in-Ok.ops = now ∙ ap (λ b. cond b (Some c.in-Ok.ops) (lookup (is_at (client_cmp q)) mid)) t in
          sym (look_up items q new (Some c.in-Ok.ops) (sym here))
          ∙ ap Some c.in-Ok.ensures.ops
          ∙ grown_there rows D op client (unwrap_or (find client_cmp client (groups_of c.args.groups.now.entries)) (own client rows)) is (ap (λ o. unwrap_or o (own client rows)) (h client))
          ∙ ap (λ x. row_grown x rows (D ++ op ∷ [])) (tells_apart client_exact client q t)
      | false ↦ λ t.
          let there : lookup (is_at (client_cmp q)) new ≡ lookup (is_at (client_cmp q)) mid = now ∙ ap (λ b. cond b (Some c.in-Ok.ops) (lookup (is_at (client_cmp q)) mid)) t in
          sym (look_up items q new (lookup (is_at (client_cmp q)) mid) (sym there))
          ∙ look_up items q mid (lookup (is_at (client_cmp q)) mid) refl
          ∙ c.with_last.ensures.others q t ∙ h q ∙ grown_apart rows D op q (not_same q client op is t)
    ] refl
