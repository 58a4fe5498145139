use Rattle.std.proofs.Common.{sym, subst, ap, ◌∙◌}
use Rattle.sn_local.specs.declared.local.Binding.{Binding}
use Rattle.sn_tables.specs.Tables.{with_entry}
use Rattle.sn_local.specs.Bindings.{AreBindings, binding_cmp}
use Rattle.sn_local.proofs.Addresses.{are_bound}
use Rattle.sn_local.proofs.bindings.bind.Goals as goal

-- the new binding is put into those that are apart from it
pub returns-clause-ascend : goal.returns-clause-ascend
returns-clause-ascend c =
    let new : Binding = record { address = c.args.address; client = c.args.client } in
    subst AreBindings (sym (c.put.ensures.items ∙ ap (with_entry binding_cmp new) c.release.ensures.items))
    (are_bound c.args.address c.args.client c.args.bindings.now.items c.requires.ascend)
