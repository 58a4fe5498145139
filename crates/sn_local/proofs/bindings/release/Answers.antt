use Rattle.std.proofs.Common.{rules, sym, subst}
use Rattle.std.proofs.lemmas.Fn.{filter_same}
use Rattle.sn_local.specs.Bindings.{is_other_binding, AreBindings}
use Rattle.sn_local.proofs.Addresses.{are_filter}
use Rattle.sn_local.proofs.bindings.release.Goals as goal

pub returns-clause-items : goal.returns-clause-items
returns-clause-items c =
    filter_same _ (is_other_binding c.args.address c.args.client.now) _ (λ binding kept after called. search rules) _ _ c.retain.ensures.filtered

pub returns-clause-ascend : goal.returns-clause-ascend
returns-clause-ascend c = subst AreBindings (sym (returns-clause-items c)) (are_filter (is_other_binding c.args.address c.args.client.now) c.args.bindings.now.items c.requires)
