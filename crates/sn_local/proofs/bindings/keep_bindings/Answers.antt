use Rattle.std.proofs.Common.{rules, sym, subst}
use Rattle.std.proofs.lemmas.Fn.{filter_same}
use Rattle.sn_local.specs.Seen.{seen_of}
use Rattle.sn_local.specs.Bindings.{has_owned, AreBindings}
use Rattle.sn_local.proofs.Addresses.{are_filter}
use Rattle.sn_local.proofs.bindings.keep_bindings.Goals as goal

pub returns-clause-items : goal.returns-clause-items
returns-clause-items g c =
    filter_same _ (has_owned c.args.gateway (seen_of (g.R.Replica.kept c.args.replica.now))) _ (λ binding kept after called. search rules) _ _ c.retain.ensures.filtered

pub returns-clause-ascend : goal.returns-clause-ascend
returns-clause-ascend g c =
    subst AreBindings (sym (returns-clause-items g c))
    (are_filter (has_owned c.args.gateway (seen_of (g.R.Replica.kept c.args.replica.now))) c.args.bindings.now.items c.requires)
